use Rattle.std.proofs.Common.{ap}
use Rattle.cluster_world.specs.Schedule.{owner_of, said_first}
use Rattle.cluster_world.proofs.Headers.{no_more_owners, not_an_owner, one_owner}
use Rattle.cluster_world.proofs.header.read_owners.Goals as goal

pub returns-in_default-owner_of-clause-map : goal.returns-in_default-owner_of-clause-map
returns-in_default-owner_of-clause-map c =
    let read = rw c.in-Some.is at c.in_ok-line.ensures in
    (no_more_owners _ _ _ _ _ c.loop-line.invariant (not_an_owner c.loop-line.rest.now c.in-Some.line.rest.now c.in-Some.line.words read.0 c.in_default-owner_of.ensures)).map

pub loop-line-preserved-in-Some-owner_of : goal.loop-line-preserved-in-Some-owner_of
loop-line-preserved-in-Some-owner_of c =
    let read = rw c.in-Some.is at c.in_ok-line.ensures in
    one_owner _ c.loop-line.rest.now c.in-Some.line.rest.now _ _ _ _ c.in-Some.line.words _ c.loop-line.invariant read c.in-Some-owner_of.ensures c.apply.ensures

pub loop-line-preserved : goal.loop-line-preserved
loop-line-preserved c =
    let read = rw c.in-Some.is at c.in_ok-line.ensures in
    one_owner _ c.loop-line.rest.now c.in-Some.line.rest.now _ _ _ _ c.in-Some.line.words _ c.loop-line.invariant read c.in-Some-owner_of.ensures c.apply.ensures

pub returns-clause-map : goal.returns-clause-map
returns-clause-map c = (no_more_owners _ _ _ _ _ c.loop-line.invariant (ap (said_first owner_of) (rw c.in_default.is at c.in_ok-line.ensures))).map
