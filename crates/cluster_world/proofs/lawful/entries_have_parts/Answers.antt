use Rattle.std.proofs.Common.{◌≡◌, List, Any, sym, subst, refl}
use Rattle.key_split.specs.PartModel.{PartModel}
use Rattle.key_split.specs.declared.travel.Ticket.{Ticket}
use Rattle.node_model.specs.History.{EntryModel}
use Rattle.cluster_world.proofs.Lists.{never, all-more}
use Rattle.cluster_world.proofs.lawful.entries_have_parts.Goals as goal

abbrev HasPart : List (Ticket × PartModel) → EntryModel → Type 0
HasPart parts e = Any (λ part. (part.0 ≡ e.ticket) × (part.1 ≡ e.part)) parts

pub returns-then-not-has_part : goal.returns-then-not-has_part
returns-then-not-has_part c = (
  λ n. absurd (never n),
  λ all. absurd (never (c.if-not-has_part.ensures.1 (subst (HasPart c.args.parts.now) (sym c.entry-item.is) (all c.loop-entry.entry-index c.entry-item.result c.loop-entry-test.true)))),
)

pub loop-entry-preserved : goal.loop-entry-preserved
loop-entry-preserved c =
    all-more (HasPart c.args.parts.now) c.args.history.now c.loop-entry.entry-index c.entry-item.result c.loop-entry-test.true c.loop-entry.invariant
    (subst (HasPart c.args.parts.now) c.entry-item.is (c.if-not-has_part.ensures.0 refl))
