use Rattle.std.proofs.Common.{◌≡◌, ◌∙◌, ℕ, List, Option, None, Some, is_some, nat_eq, position, sym}
use Rattle.std.specs.Map.{keys_of, lookup}
use Rattle.proxy_turns.specs.ClientModel.{ClientModel}
use Rattle.proxy_turns.specs.ClientTable.{HasPlace}
use Rattle.proxy_turns.proofs.Going.{not_some}
use Rattle.proxy_turns.proofs.Sleeping.{placed}
use Rattle.proxy_turns.proofs.Tables.{at_number}
use Rattle.proxy_turns.proofs.client_table.ClientTable.place_of.Goals as goal

by_index : {C : Type 0} (entries : List (ℕ × ClientModel C)) (number : ℕ) (result : Option ℕ) → result ≡ position (nat_eq number) (keys_of entries)
    → is_some result ≡ is_some (lookup (nat_eq number) entries) → HasPlace entries number result
by_index entries number None is found = sym (at_number number entries) ∙ not_some _ (sym found)
by_index entries number (Some place) is found = placed entries number place is

pub returns : goal.returns
returns g c =
    rw (← c.self.view_is) (by_index c.self.inside.by_number.entries c.args.number c.get_index_of.result c.get_index_of.ensures.index c.get_index_of.ensures.found)
