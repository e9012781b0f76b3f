-- A run of one command is served as the command is.
use Rattle.std.proofs.Common.{◌≡◌, Bool, ℕ, [], ◌∷◌, map, refl, ap, ◌∙◌}
use Rattle.std.proofs.lemmas.Slice.Eq.{bytes_eq-Decides}
use Rattle.std.specs.Prelude.{◌&&◌}
use Rattle.std.specs.List.{list_all}
use Rattle.std.specs.Str.{bytes_eq}
use Rattle.slot_hash.specs.Slot.{slot_of}
use Rattle.key_split.specs.PartModel.{PartModel, Pair, keys_of}
use Rattle.node_model.specs.declared.role.Verdict.{Verdict}
use Rattle.node_model.specs.Nodes.{ClusterModel, role_of, store_at}
use Rattle.node_model.specs.Runs.{deed_for, have_one_key}
use Rattle.node_model.specs.Serving.{deed_at, deed_of, has_one_key, held_of}
use Rattle.node_model.proofs.AllDone.{all-firsts, none-added}

one-key : (c : PartModel) → have_one_key (c ∷ []) ≡ has_one_key c
one-key c =
    ap (list_all (λ key. bytes_eq key c.key)) (none-added (keys_of c))
    ∙ ap (λ b. b && list_all (λ key. bytes_eq key c.key) (map (λ (pair : Pair). pair.0) c.rest)) ((bytes_eq-Decides c.key c.key).1 refl)
    ∙ all-firsts (λ key. bytes_eq key c.key) c.rest

pub alone : (k : ClusterModel) (node : ℕ) (asking : Bool) (c : PartModel) (verdict : Verdict) → deed_for k node asking (c ∷ []) verdict ≡ deed_at k node asking c verdict
alone k node asking c verdict = λ i. deed_of verdict (role_of k node (slot_of c.key)) asking (held_of (store_at k node) (none-added (keys_of c) i)) (one-key c i) (slot_of c.key)
