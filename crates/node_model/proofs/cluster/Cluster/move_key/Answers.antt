use Rattle.std.proofs.Common.{◌≡◌, ◌∙◌, ℕ, None, ap, subst, refl, sym}
use Rattle.std.specs.Prelude.{IsSome}
use Rattle.slot_hash.specs.Slot.{slot_of}
use Rattle.node_model.specs.Moves.{MayMoveKey, Moves, NeedsSome, move_key_done}
use Rattle.node_model.specs.Nodes.{ClusterModel, at, standing_at, with_key}
use Rattle.node_model.specs.Standings.{SlotStandingModel}
use Rattle.node_model.proofs.AllDone.{same-slot}
use Rattle.node_model.proofs.Moving.{moves-so}
use Rattle.node_model.proofs.cluster.Cluster.move_key.Goals as goal

pub returns : goal.returns
returns c =
    let k : ClusterModel = c.args.self.now in
    let key = c.args.key.now in
    let source : c.source-source.result ≡ (standing_at k c.args.slot).source = c.source-source.ensures ∙ ap (λ (s : SlotStandingModel). s.source) c.standing-standing.ensures.value in
    let target : c.target-target.result ≡ (standing_at k c.args.slot).target = c.target-target.ensures ∙ ap (λ (s : SlotStandingModel). s.target) c.standing-standing.ensures.value in
    let slot : slot_of key ≡ c.args.slot = sym (c.slot_of.ensures.value ∙ ap slot_of c.as_slice.ensures) ∙ same-slot c.slot_of.result c.args.slot c.if-ne.ensures in
    moves-so (IsSome (at k (standing_at k c.args.slot).source key)) (MayMoveKey k c.args.slot key) NeedsSome (move_key_done k c.args.slot key) k c.give_key.new.self c.give_key.result (λ held. (c.if-not-gives_keys.ensures.0 refl, slot, held)) (λ may. may.2)
    (subst (λ (p : ℕ × ℕ). Moves (IsSome (at k p.0 key)) NeedsSome (with_key (with_key k p.1 key (at k p.0 key)) p.0 key None) c.give_key.result k c.give_key.new.self) (λ i. (source i, target i)) c.give_key.ensures)
