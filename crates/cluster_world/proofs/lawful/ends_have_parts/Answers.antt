use Rattle.std.proofs.Common.{◌≡◌, List, Any, sym, subst, refl}
use Rattle.key_split.specs.PartModel.{PartModel}
use Rattle.key_split.specs.declared.travel.Ticket.{Ticket}
use Rattle.key_split.specs.declared.travel.Ended.{Ended}
use Rattle.cluster_world.proofs.Lists.{never, all-more}
use Rattle.cluster_world.proofs.lawful.ends_have_parts.Goals as goal

abbrev HasPart : List (Ticket × PartModel) → Ticket × Ended → Type 0
HasPart parts end = Any (λ part. part.0 ≡ end.0) parts

pub returns-then-not-has_ticket : goal.returns-then-not-has_ticket
returns-then-not-has_ticket c = (
  λ n. absurd (never n),
  λ all. absurd (never (c.if-not-has_ticket.ensures.1 (subst (HasPart c.args.parts.now) (sym c.end-item.is) (all c.loop-end.end-index c.end-item.result c.loop-end-test.true)))),
)

pub loop-end-preserved : goal.loop-end-preserved
loop-end-preserved c =
    all-more (HasPart c.args.parts.now) c.args.ends.now c.loop-end.end-index c.end-item.result c.loop-end-test.true c.loop-end.invariant
    (subst (HasPart c.args.parts.now) c.end-item.is (c.if-not-has_ticket.ensures.0 refl))
