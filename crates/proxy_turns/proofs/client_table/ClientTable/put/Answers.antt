use Rattle.std.proofs.Common.{◌≡◌, ◌∙◌, nat_eq, sym, subst, ap, Some, Ok, Result}
use Rattle.std.specs.FinMap.{get}
use Rattle.std.specs.Result.{OnOk}
use Rattle.std.specs.HashMap.{Updates}
use Rattle.indexmap.specs.IndexMap.{insert_entry}
use Rattle.indexmap.proofs.CallerLemmas.{insert_entry-new}
use Rattle.proxy_turns.specs.Sleepers.{AreAsleep}
use Rattle.proxy_turns.specs.WorkerModel.{clients_in}
use Rattle.proxy_turns.proofs.Sleeping.{asleep_more, length_more}
use Rattle.proxy_turns.proofs.Tables.{at_number, put_at}
use Rattle.proxy_turns.proofs.client_table.ClientTable.put.Goals as goal

on-ok : {T E : Type 0} (P : Type 0) (r : Result T E) (x : T) → r ≡ Ok x → OnOk r P → P
on-ok P r x e h = subst (λ z. OnOk z P) e h

pub returns-clause-puts : goal.returns-clause-puts
returns-clause-puts g c =
    let new = on-ok (Updates nat_eq c.self.inside.by_number c.insert-put.new.self c.args.number (Some c.args.client)) c.insert-put.result c.unwrap.result c.unwrap.ensures c.insert-put.ensures.updates in
    rw (← c.self.view_is) (put_at c.args.number c.args.client c.self.inside.by_number.entries c.insert-put.new.self.entries new.0)

pub invariant_of-self : goal.invariant_of-self
invariant_of-self g c =
    let entries = c.self.inside.by_number.entries in
    let new = on-ok (c.insert-put.new.self.entries ≡ insert_entry nat_eq entries c.args.number c.args.client) c.insert-put.result c.unwrap.result c.unwrap.ensures c.insert-put.ensures.entries in
    let none = at_number c.args.number entries ∙ ap (λ t. get (clients_in t.entries) c.args.number) c.self.view_is ∙ c.requires.new in
    subst (AreAsleep g.C.ClientPort.gives_none c.self.inside.sleepers.marks.items) (sym (new ∙ insert_entry-new nat_eq c.self.inside.by_number c.args.number c.args.client none))
    (asleep_more g.C.ClientPort.gives_none c.self.inside.sleepers.marks.items entries (c.args.number, c.args.client) c.self.invariant)

pub returns-clause-len : goal.returns-clause-len
returns-clause-len g c =
    let new = on-ok (c.insert-put.new.self.entries ≡ insert_entry nat_eq c.self.inside.by_number.entries c.args.number c.args.client) c.insert-put.result c.unwrap.result c.unwrap.ensures c.insert-put.ensures.entries in
    let none = at_number c.args.number c.self.inside.by_number.entries ∙ ap (λ t. get (clients_in t.entries) c.args.number) c.self.view_is ∙ c.requires.new in
    rw (← c.self.view_is) (length_more c.self.inside.by_number.entries _ c.insert-put.new.self.entries (new ∙ insert_entry-new nat_eq c.self.inside.by_number c.args.number c.args.client none))
