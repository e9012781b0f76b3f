use Rattle.std.proofs.lemmas.Bool.Decides.{nat_tests}
use Rattle.std.proofs.Common.{◌≡◌, ◌-◌, ◌<◌, ◌≤◌, ℕ, List, false, None, Some, ap, arith, length, subst, suc, sym}
use Rattle.std.specs.Prelude.{slice_get, slice_index_or}
use Rattle.std.proofs.lemmas.Option.{slice_get_past}
use Rattle.key_split.specs.declared.travel.Batch.{Batch}
use Rattle.proxy_turns.proofs.Carrying.{at-place}
use Rattle.proxy_turns.proofs.Refusing.{behind_none, behind_some}
use Rattle.proxy_turns.proofs.refused_run.ticket_at.Goals as goal

pub returns-in-Some : goal.returns-in-Some
returns-in-Some c =
    let next : suc (c.args.place - 1) ≡ c.args.place = omega (arith, c.if-place-eq0.false) in
    let there : slice_get c.args.run.now.later (c.args.place - 1) ≡ Some c.in-Some.batch.now = at-place c.args.run.now.later (c.args.place - 1) c.in-Some.batch.now
    (subst (λ (xs : List Batch). c.args.place - 1 < length xs) c.later.ensures.value c.in-Some.ensures.lookup.3.0)
    (subst (λ (xs : List Batch). c.in-Some.batch.now ≡ slice_index_or xs (c.args.place - 1) c.in-Some.batch.now) c.later.ensures.value c.in-Some.ensures.lookup.1) in
    behind_some c.args.run.now c.args.place (c.args.place - 1) c.in-Some.batch.now next there

so-not-below : (a b : ℕ) → lib.Dec.ltb a b ≡ false → b ≤ a
so-not-below a b e = grind (arith, nat_tests)

pub returns-in-None : goal.returns-in-None
returns-in-None c =
    let next : suc (c.args.place - 1) ≡ c.args.place = omega (arith, c.if-place-eq0.false) in
    let past : length c.args.run.now.later ≤ c.args.place - 1 = omega (arith, so-not-below (c.args.place - 1) (length c.later.result.now) (sym c.in-None.ensures.lookup.0), ap length c.later.ensures.value) in
    behind_none c.args.run.now c.args.place (c.args.place - 1) next (slice_get_past c.args.run.now.later (c.args.place - 1) past)
