use Rattle.std.proofs.Common.{arith, ap, refl, sym, ◌∙◌, ◌≡◌, ◌≤◌, ◌-◌, Some}
use Rattle.std.proofs.lemmas.Grind.{common_steps}
use Rattle.std.specs.Prelude.{slice_get}
use Rattle.session_order.specs.declared.queue.PartStage.TheVariants.{Out}
use Rattle.session_order.proofs.Turning.{got}
use Rattle.session_order.proofs.queue.Queue.is_out.Goals as goal

pub returns-in-Some-Out : goal.returns-in-Some-Out
returns-in-Some-Out c =
    let first = c.self.inside.tables.first in
    let stages = c.self.inside.tables.stages.items in
    let le : first ≤ c.args.number = grind (arith, common_steps) in
    let place : c.in-Some.place ≡ c.args.number - first = grind (arith, common_steps) in
    let at : slice_get stages c.in-Some.place ≡ Some (Out c.in-Some-Out.field-0-0) =
    got stages c.in-Some.place _ c.in-Some-Out.ensures.item.3.0 (c.in-Some-Out.ensures.item.3.1 c.in-Some-Out.field-0.now) ∙ ap Some c.in-Some-Out.field-0-is in
    rw (← c.self.view_is) (λ yes. (c.in-Some-Out.field-0-0, le, ap (slice_get stages) (sym place) ∙ at), λ out. refl)

pub returns-in_default : goal.returns-in_default
returns-in_default c = rw (← c.self.view_is) (λ yes. absurd (cc), λ out. absurd (c.in_default.ensures out.1))
