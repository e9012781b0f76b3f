use Rattle.std.proofs.Common.{refl, sym, ◌∙◌, Some, Ok, Err}
use Rattle.resp_wire.proofs.ReaderLaws.{left_behind, built_at, took, took_fault}
use Rattle.resp_wire.proofs.reader.Reader.take.Goals as goal

pub overflow_sub-count : goal.overflow_sub-count
overflow_sub-count c =
    let built = built_at c.self.inside.limits _ _ c.as_slice-bytes.result.now (Ok (Some (c.in-Ok-Some.value, c.in-Ok-Some.rest))) c.depth.ensures.value refl (rw c.in-Ok-Some.field-0-is at c.in-Ok-Some.ensures) in
    (left_behind c.self.inside.limits c.as_slice-bytes.result.now c.in-Ok-Some.rest.now _ built).0

pub returns-in-Ok-Some : goal.returns-in-Ok-Some
returns-in-Ok-Some c =
    let built = built_at c.self.inside.limits _ _ c.self.inside.unread (Ok (Some (c.in-Ok-Some.value, c.in-Ok-Some.rest))) c.depth.ensures.value c.as_slice-bytes.ensures (rw c.in-Ok-Some.field-0-is at c.in-Ok-Some.ensures) in
    took c.self.inside.limits c.self.inside.unread c.in-Ok-Some.rest.now c.skip.new.self c.self.inside.fault c.in-Ok-Some.value c.args.self.now c.self.view_is built (rw c.as_slice-bytes.ensures at c.skip.ensures)

pub returns-in-Err : goal.returns-in-Err
returns-in-Err c =
    took_fault c.self.inside.limits c.self.inside.unread c.self.inside.fault c.in-Err.fault c.args.self.now c.self.view_is (built_at c.self.inside.limits _ _ c.self.inside.unread (Err c.in-Err.fault) c.depth.ensures.value c.as_slice-bytes.ensures c.in-Err.ensures)
