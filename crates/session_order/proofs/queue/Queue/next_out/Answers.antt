use Rattle.std.proofs.Common.{arith, refl, sym, ◌∙◌, ◌≡◌, ◌-◌, Some}
use Rattle.std.specs.Prelude.{slice_get}
use Rattle.session_order.specs.declared.queue.PartStage.TheVariants.{Out}
use Rattle.session_order.proofs.Following.{none_next, waits_next, next_above, next_within, is_out_next}
use Rattle.session_order.proofs.Turning.{got, stands_if, waiting_part, waits_if}
use Rattle.session_order.proofs.queue.Queue.next_out.Goals as goal

pub returns-in_default : goal.returns-in_default
returns-in_default c =
    rw (← c.self.view_is) (
    λ own j own_out at less.
    let t = c.self.inside.tables in
    none_next t.first (c.args.number - t.first) own t.stages.items own_out (sym c.in_default.is ∙ c.next_open.ensures own own_out) j at less
    )

pub overflow_sub-next : goal.overflow_sub-next
overflow_sub-next c =
    let t = c.self.inside.tables in
    let i = c.args.number - t.first in
    let is_out = rw (← c.self.view_is) at c.requires.out in
    let slot = is_out.0 in
    let out : slice_get t.stages.items i ≡ Some (Out slot) = is_out.2 in
    let next = c.in-Some.next in
    let follows = sym c.in-Some.is ∙ c.next_open.ensures slot out in
    omega (arith, (next_above t.first i slot t.stages.items out next follows).0)

pub index-requires : goal.index-requires
index-requires c =
    let t = c.self.inside.tables in
    let i = c.args.number - t.first in
    let is_out = rw (← c.self.view_is) at c.requires.out in
    let slot = is_out.0 in
    let out : slice_get t.stages.items i ≡ Some (Out slot) = is_out.2 in
    let next = c.in-Some.next in
    let follows = sym c.in-Some.is ∙ c.next_open.ensures slot out in
    omega (arith, next_within t.first i slot t.stages.items out next follows, t.stages.ok.0)

pub returns-then-is_waiting : goal.returns-then-is_waiting
returns-then-is_waiting c =
    rw (← c.self.view_is) (
    λ own j own_out at less.
    let t = c.self.inside.tables in
    let i = c.args.number - t.first in
    let is_out = rw (← c.self.view_is) at c.requires.out in
    let slot = is_out.0 in
    let out : slice_get t.stages.items i ≡ Some (Out slot) = is_out.2 in
    let next = c.in-Some.next in
    let follows = sym c.in-Some.is ∙ c.next_open.ensures slot out in
    let within = next_within t.first i slot t.stages.items out next follows in
    let there : slice_get t.stages.items (next - t.first) ≡ Some c.index.result.now = got t.stages.items (next - t.first) _ within c.index.ensures in
    let waits = waiting_part _ (waits_if _ c.index.result.now there (sym c.is_waiting.ensures ∙ c.if-is_waiting.true)) in
    waits_next t.first i own t.stages.items own_out next waits.0 (sym c.in-Some.is ∙ c.next_open.ensures own own_out) waits.1 c.self.invariant.1.tabled.in_order j at less
    )

pub returns : goal.returns
returns c =
    let t = c.self.inside.tables in
    let i = c.args.number - t.first in
    let is_out = rw (← c.self.view_is) at c.requires.out in
    let slot = is_out.0 in
    let out : slice_get t.stages.items i ≡ Some (Out slot) = is_out.2 in
    let next = c.in-Some.next in
    let follows = sym c.in-Some.is ∙ c.next_open.ensures slot out in
    let within = next_within t.first i slot t.stages.items out next follows in
    let there : slice_get t.stages.items (next - t.first) ≡ Some c.index.result.now = got t.stages.items (next - t.first) _ within c.index.ensures in
    rw (← c.self.view_is) (omega (arith, (next_above t.first i slot t.stages.items out next follows).0), is_out_next t.first i slot t.stages.items out next c.index.result.now follows there (sym c.is_waiting.ensures ∙ c.if-is_waiting.false))
