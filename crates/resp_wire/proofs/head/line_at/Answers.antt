use Rattle.std.proofs.Common.{arith, drop}
use Rattle.std.proofs.lemmas.List.{take_all, length-drop}
use Rattle.resp_wire.specs.Gives.{byte_of}
use Rattle.resp_wire.proofs.Lines.{nothing_there, unknown_there, line_there}
use Rattle.resp_wire.proofs.HeadLaws.{line_more, line_behind}
use Rattle.resp_wire.proofs.Sound.{text_is}
use Rattle.resp_wire.proofs.head.line_at.Goals as goal

pub returns-in_default-clause-line : goal.returns-in_default-clause-line
returns-in_default-clause-line c = λ items. nothing_there c.args.limits.now items c.args.bytes.now (omega arith)

pub returns-in_default-of-clause-line : goal.returns-in_default-of-clause-line
returns-in_default-of-clause-line c = λ items. unknown_there c.args.limits.now items c.args.bytes.now (omega arith) c.in_default-of.ensures

pub returns-in-Ok-Some-clause-line : goal.returns-in-Ok-Some-clause-line
returns-in-Ok-Some-clause-line c = λ items more. line_more c.args.limits.now items c.args.bytes.now (byte_of c.in-Some.kind) c.line.result _ _ _ more (omega arith) c.in-Some.ensures.0 c.in-Some.ensures.1 c.line.ensures.value (take_all _ (drop 1 c.args.bytes.now) (omega (arith, length-drop 1 c.args.bytes.now))) (rw c.in-Ok-Some.field-0-is at c.in-Ok-Some.ensures)

pub returns-in-Ok-None-clause-line : goal.returns-in-Ok-None-clause-line
returns-in-Ok-None-clause-line c = λ items. line_there c.args.limits.now items c.args.bytes.now (byte_of c.in-Some.kind) c.line.result _ _ (omega arith) c.in-Some.ensures.0 c.in-Some.ensures.1 c.line.ensures.value (take_all _ (drop 1 c.args.bytes.now) (omega (arith, length-drop 1 c.args.bytes.now))) (rw c.in-Ok-None.field-0-is at c.in-Ok-None.ensures)

pub returns-in-Err-clause-line : goal.returns-in-Err-clause-line
returns-in-Err-clause-line c = λ items. line_there c.args.limits.now items c.args.bytes.now (byte_of c.in-Some.kind) c.line.result _ _ (omega arith) c.in-Some.ensures.0 c.in-Some.ensures.1 c.line.ensures.value (take_all _ (drop 1 c.args.bytes.now) (omega (arith, length-drop 1 c.args.bytes.now))) c.in-Err.ensures

pub returns-in-Ok-Some-clause-behind : goal.returns-in-Ok-Some-clause-behind
returns-in-Ok-Some-clause-behind c = line_behind c.args.bytes.now _ _ _ c.line.result (omega arith) (take_all _ (drop 1 c.args.bytes.now) (omega (arith, length-drop 1 c.args.bytes.now))) (rw c.in-Ok-Some.field-0-is at c.in-Ok-Some.ensures)

pub returns-in-Ok-Some-clause-text : goal.returns-in-Ok-Some-clause-text
returns-in-Ok-Some-clause-text c = (text_is _ _ _ _ (rw c.in-Ok-Some.field-0-is at c.in-Ok-Some.ensures)).plain
