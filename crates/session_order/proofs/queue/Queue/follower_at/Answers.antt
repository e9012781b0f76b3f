use Rattle.std.proofs.Common.{arith, refl, sym, ◌∙◌, ◌≡◌, ◌-◌, Some}
use Rattle.std.specs.Prelude.{slice_get}
use Rattle.session_order.specs.declared.queue.PartStage.TheVariants.{Out}
use Rattle.session_order.proofs.Following.{none_follows, out_follows, next_above, next_within, waits_follows}
use Rattle.session_order.proofs.Turning.{got, stands_if, waiting_part, waits_if}
use Rattle.session_order.proofs.queue.Queue.follower_at.Goals as goal

pub returns-in_default : goal.returns-in_default
returns-in_default c =
    let t = c.self.inside.tables in
    let i = c.args.number - t.first in
    let is_out = rw (← c.self.view_is) at c.requires.out in
    let slot = is_out.0 in
    let out : slice_get t.stages.items i ≡ Some (Out slot) = is_out.2 in
    rw (← c.self.view_is) (none_follows t.first i slot t.stages.items out (sym c.in_default.is ∙ c.next_open.ensures slot out))

pub overflow_sub-next : goal.overflow_sub-next
overflow_sub-next c =
    let t = c.self.inside.tables in
    let i = c.args.number - t.first in
    let is_out = rw (← c.self.view_is) at c.requires.out in
    let slot = is_out.0 in
    let out : slice_get t.stages.items i ≡ Some (Out slot) = is_out.2 in
    let next = c.in-Some.next in
    let follows = sym c.in-Some.is ∙ c.next_open.ensures slot out in
    omega (arith, (next_above t.first i slot t.stages.items out next follows).0)

pub index-requires : goal.index-requires
index-requires c =
    let t = c.self.inside.tables in
    let i = c.args.number - t.first in
    let is_out = rw (← c.self.view_is) at c.requires.out in
    let slot = is_out.0 in
    let out : slice_get t.stages.items i ≡ Some (Out slot) = is_out.2 in
    let next = c.in-Some.next in
    let follows = sym c.in-Some.is ∙ c.next_open.ensures slot out in
    omega (arith, next_within t.first i slot t.stages.items out next follows, t.stages.ok.0)

pub returns-then-not-is_waiting : goal.returns-then-not-is_waiting
returns-then-not-is_waiting c =
    let t = c.self.inside.tables in
    let i = c.args.number - t.first in
    let is_out = rw (← c.self.view_is) at c.requires.out in
    let slot = is_out.0 in
    let out : slice_get t.stages.items i ≡ Some (Out slot) = is_out.2 in
    let next = c.in-Some.next in
    let follows = sym c.in-Some.is ∙ c.next_open.ensures slot out in
    let within = next_within t.first i slot t.stages.items out next follows in
    let there : slice_get t.stages.items (next - t.first) ≡ Some c.index.result.now = got t.stages.items (next - t.first) _ within c.index.ensures in
    rw (← c.self.view_is) (out_follows t.first i slot t.stages.items out next follows (stands_if _ c.index.result.now there (sym c.is_waiting.ensures ∙ c.if-not-is_waiting.true)))

pub returns : goal.returns
returns c =
    let t = c.self.inside.tables in
    let i = c.args.number - t.first in
    let is_out = rw (← c.self.view_is) at c.requires.out in
    let slot = is_out.0 in
    let out : slice_get t.stages.items i ≡ Some (Out slot) = is_out.2 in
    let next = c.in-Some.next in
    let follows = sym c.in-Some.is ∙ c.next_open.ensures slot out in
    let within = next_within t.first i slot t.stages.items out next follows in
    let there : slice_get t.stages.items (next - t.first) ≡ Some c.index.result.now = got t.stages.items (next - t.first) _ within c.index.ensures in
    let waits = waiting_part _ (waits_if _ c.index.result.now there (sym c.is_waiting.ensures ∙ c.if-not-is_waiting.false)) in
    rw (← c.self.view_is) (waits.0, omega (arith, (next_above t.first i slot t.stages.items out next follows).0), waits_follows t.first i slot t.stages.items out next waits.0 follows waits.1 (c.self.invariant.1.tabled.in_order i slot out))
