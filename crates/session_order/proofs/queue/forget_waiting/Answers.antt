use Rattle.std.proofs.Common.{arith, refl, sym, ap, ◌∙◌, ◌≡◌, ◌+◌, ℕ, length, nat_eq, subst, suc, cond, take}
use Rattle.std.specs.HashMap.{get}
use Rattle.session_order.proofs.Forgetting.{Forgot, forgot_none, forgot_step, left_parts, left_tabled, none_waits}
use Rattle.session_order.proofs.Turning.{waiting_none}
use Rattle.session_order.proofs.queue.forget_waiting.Goals as goal
use Rattle.session_order.proofs.queue.forget_waiting.Goals.{then-forget_at, else-forget_at}

pub loop-i-init : goal.loop-i-init
loop-i-init c =
    let t = c.args.tables.now in
    record {
      first = refl;
      turns = refl;
      end = c.len-i-end.ensures ∙ t.stages.ok.0;
      within = omega arith;
      linked = c.requires.sound.tabled.linked;
      forgot = forgot_none t.stages.items;
    }

pub loop-i-preserved : goal.loop-i-preserved
loop-i-preserved c =
    let t = c.args.tables.now in
    let l = c.loop-i in
    let kept : c.if-forget_at.kept ≡ cond c.forget_at.result (suc l.i) l.kept = elim c.if-forget_at.branch [
      | then-forget_at w ↦ w.kept-is ∙ (let next : l.i + 1 ≡ suc l.i = omega arith in next) ∙ sym (ap (λ b. cond {A = ℕ} b (suc l.i) l.kept) w.if-forget_at.true)
      | else-forget_at w ↦ w.kept-is ∙ sym (ap (λ b. cond {A = ℕ} b (suc l.i) l.kept) w.if-forget_at.false)
    ] in
    let more = forgot_step t.stages.items l.tables c.forget_at.new.tables l.i l.kept c.if-forget_at.kept c.forget_at.result (omega (arith, c.loop-i-test.true, l.invariant.end)) l.invariant.forgot c.forget_at.ensures kept in
    record {
      first = c.forget_at.ensures.first ∙ l.invariant.first;
      turns = c.forget_at.ensures.turns ∙ l.invariant.turns;
      end = l.invariant.end;
      within = omega (arith, c.loop-i-test.true);
      linked = c.forget_at.ensures.linked;
      forgot = subst (λ n. Forgot n c.if-forget_at.kept t.stages.items c.forget_at.new.tables.stages.items) (let next : suc l.i ≡ l.i + 1 = omega arith in next) more;
    }

pub returns-clause-sound : goal.returns-clause-sound
returns-clause-sound c =
    let t = c.args.tables.now in
    let l = c.loop-i in
    let all : l.i ≡ length t.stages.items = omega (arith, l.invariant.within, l.invariant.end, c.loop-i-test.false) in
    let forgot : Forgot (length t.stages.items) l.kept t.stages.items l.tables.stages.items = subst (λ n. Forgot n l.kept t.stages.items l.tables.stages.items) all l.invariant.forgot in
    let stages_are : c.shrink_to_fit.new.self.items ≡ take l.kept l.tables.stages.items = c.shrink_to_fit.ensures.items ∙ c.truncate.ensures.items in
    let later_are : c.shrink_to_fit-2.new.self.items ≡ take l.kept l.tables.later.items = c.shrink_to_fit-2.ensures.items ∙ c.truncate-2.ensures.items in
    let earlier_are : c.shrink_to_fit-3.new.self.items ≡ take l.kept l.tables.earlier.items = c.shrink_to_fit-3.ensures.items ∙ c.truncate-3.ensures.items in
    let tabled = left_tabled l.kept t.stages.items l.tables.stages.items forgot l.tables.first l.tables.later.items l.tables.earlier.items (get nat_eq l.tables.last) l.invariant.linked in
    let none = waiting_none (take l.kept l.tables.stages.items) (none_waits l.kept t.stages.items l.tables.stages.items forgot) in
    record {
      tabled = rw (stages_are, later_are, earlier_are, c.clear.ensures.items) tabled;
      ordered = c.clear.ensures.heap_order;
      room = rw stages_are (omega (arith, none));
    }

pub returns-clause-does : goal.returns-clause-does
returns-clause-does c =
    let t = c.args.tables.now in
    let l = c.loop-i in
    let all : l.i ≡ length t.stages.items = omega (arith, l.invariant.within, l.invariant.end, c.loop-i-test.false) in
    let forgot : Forgot (length t.stages.items) l.kept t.stages.items l.tables.stages.items = subst (λ n. Forgot n l.kept t.stages.items l.tables.stages.items) all l.invariant.forgot in
    let stages_are : c.shrink_to_fit.new.self.items ≡ take l.kept l.tables.stages.items = c.shrink_to_fit.ensures.items ∙ c.truncate.ensures.items in
    rw (l.invariant.first, stages_are) (left_parts l.kept t.stages.items l.tables.stages.items forgot t.first)
