use Rattle.std.proofs.Common.{true, false, subst, List, ℕ, Ok, Err}
use Rattle.resp_wire.specs.Places.{IsPlace}
use Rattle.resp_wire.specs.Taken.{TakesOff}
use Rattle.resp_wire.proofs.ReaderLaws.{input, found_at, kept_fault, read_whole, read_partial, read_faulty}
use Rattle.resp_wire.proofs.reader.Reader.read_on.Goals as goal

pub invariant_of-self-in-Err : goal.invariant_of-self-in-Err
invariant_of-self-in-Err c =
    let found = found_at c.self.inside.limits c.self.inside.unread c.as_slice.result.now c.read_on.new.self.position (Err c.in-Err.fault) c.as_slice.ensures c.in-Err.ensures.found in
    (subst (λ (u : List ℕ). IsPlace c.self.inside.limits u c.read_on.new.self) c.as_slice.ensures c.read_on.ensures.place, kept_fault c.self.inside.limits c.self.inside.unread c.in-Err.fault found)

pub returns-in-Ok-true : goal.returns-in-Ok-true
returns-in-Ok-true c =
    let found = found_at c.self.inside.limits c.self.inside.unread c.as_slice.result.now c.read_on.new.self.position (Ok true) c.as_slice.ensures (rw (c.in-Ok-true.is, c.in-Ok-true.field-0-test) at c.read_on.ensures.found) in
    read_whole c.self.inside.limits c.self.inside.unread c.read_on.new.self.position c.self.inside.fault c.args.self.now c.take.new.self c.take.result c.self.view_is c.requires found (subst (λ (u : List ℕ). TakesOff (input c.self.inside.limits u c.self.inside.fault) c.take.result c.take.new.self) c.share.ensures c.take.ensures)

pub returns-in-Ok-false : goal.returns-in-Ok-false
returns-in-Ok-false c =
    let found = found_at c.self.inside.limits c.self.inside.unread c.as_slice.result.now c.read_on.new.self.position (Ok false) c.as_slice.ensures (rw (c.in-Ok-false.is, c.in-Ok-false.field-0-test) at c.read_on.ensures.found) in
    read_partial c.self.inside.limits c.self.inside.unread c.read_on.new.self.position c.self.inside.fault c.args.self.now c.self.view_is c.requires found

pub returns-in-Err : goal.returns-in-Err
returns-in-Err c =
    let found = found_at c.self.inside.limits c.self.inside.unread c.as_slice.result.now c.read_on.new.self.position (Err c.in-Err.fault) c.as_slice.ensures c.in-Err.ensures.found in
    read_faulty c.self.inside.limits c.self.inside.unread c.read_on.new.self.position c.self.inside.fault c.in-Err.fault c.args.self.now c.self.view_is c.requires found
