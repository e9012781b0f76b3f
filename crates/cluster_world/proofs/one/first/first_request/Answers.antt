use Rattle.std.proofs.Common.{◌<◌, [], refl, arith}
use Rattle.std.proofs.lemmas.Grind.{common_steps}
use Rattle.std.proofs.KnownBytes.{Consumes-nil}
use Rattle.cluster_world.proofs.Openings.{found_within, ended, read_on}
use Rattle.cluster_world.proofs.one.first.first_request.Goals as goal

pub returns-in-Found-clause-asked : goal.returns-in-Found-clause-asked
returns-in-Found-clause-asked g c = let looked = rw c.in-Found.is at c.in_ok-first.ensures in looked.0

pub returns-in-Found-clause-opens : goal.returns-in-Found-clause-opens
returns-in-Found-clause-opens g c =
    let kept = c.loop-wire.invariant.1 in
    let looked = rw c.in-Found.is at c.in_ok-first.ensures in
    found_within _ _ kept.0 _ _ _ kept.1 kept.2 (λ more. kept.3 more _ (looked.1 more))

pub returns-then-count-eq0-clause-opens : goal.returns-then-count-eq0-clause-opens
returns-then-count-eq0-clause-opens g c =
    let kept = c.loop-wire.invariant.1 in
    let looked = rw c.in-Partial.is at c.in_ok-first.ensures in
    let came = c.in_ok-count-in-Partial.ensures.came in
    ended _ _ _ kept.0 _ came.0 _ _ kept.1 came.2 (rw c.if-count-eq0.true at came.1) kept.2 (λ _. c.in_ok-count-in-Partial.ensures.end c.if-count-eq0.true)
    kept.3 looked.2 looked.3

pub loop-wire-preserved : goal.loop-wire-preserved
loop-wire-preserved g c =
    let kept = c.loop-wire.invariant.1 in
    let looked = rw c.in-Partial.is at c.in_ok-first.ensures in
    let came = c.in_ok-count-in-Partial.ensures.came in
    let on = read_on _ _ _ _ _ _ kept.0 came.0 _ _ _ looked.0 looked.1 came.3 came.1 c.in_ok-count-in-Partial.ensures.within kept.1 came.2 kept.2 kept.3 in
    let some : 0 < c.in_ok-count-in-Partial.count = grind (arith, common_steps, c.if-count-eq0.false) in
    (on.0, on.1, omega (arith, some, c.loop-wire.invariant.2, c.in_ok-count-in-Partial.ensures.reads, c.in_ok-count-in-Partial.ensures.within))

pub returns-then-left-eq0-clause-opens : goal.returns-then-left-eq0-clause-opens
returns-then-left-eq0-clause-opens g c =
    let kept = c.loop-wire.invariant.1 in
    let looked = rw c.in-Partial.is at c.in_ok-first.ensures in
    ended _ _ _ kept.0 _ [] _ _ kept.1 (Consumes-nil _) refl kept.2 (λ some. absurd (omega (arith, some, c.if-left-eq0.true))) kept.3 looked.2 looked.3
