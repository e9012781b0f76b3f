use Rattle.std.proofs.Common.{rules, ◌≡◌, arith, ◌∙◌, sym, map, ◌-◌, []}
use Rattle.resp_wire.specs.Seen.{data_of}
use Rattle.resp_wire.specs.Gives.{byte_of}
use Rattle.resp_wire.specs.Reading.{items_in, value_at}
use Rattle.std.proofs.Common.{w64}
use Rattle.std.proofs.lemmas.Int.{to_z-of_z}
use Rattle.resp_wire.proofs.Integers.{integer_fits}
use Rattle.resp_wire.proofs.HeadLaws.{of_simple, of_error, of_integer, of_no_integer, of_bulk, of_null_bulk, of_bad_bulk, of_array, of_null_array, of_bad_array}
use Rattle.resp_wire.proofs.BuildLaws.{front_start, front_end, front_partial, items_fault, builds_same, line_alone, fault_is, push_more}
use Rattle.resp_wire.proofs.BodyLaws.{end_behind, end_behind_value}
use Rattle.resp_wire.proofs.build.+build.Goals as goal

pub build-build_after-requires : goal.build-build_after-requires
build-build_after-requires t c =
    let behind = rw c.in-Ok-Some.field-0-is at c.in-Ok-Some.ensures.behind in
    let text = rw c.in-Ok-Some.field-0-is at c.in-Ok-Some.ensures.text in
    (search rules, (text, end_behind c.args.bytes.now behind.0 c.in-Ok-Some.rest.now c.args.how.now.bodies behind.2 c.requires))

pub build-returns-in-Ok-Some : goal.build-returns-in-Ok-Some
build-returns-in-Ok-Some t c = builds_same data_of c.build_after.result _ _ (line_alone c.args.how.now.limits c.args.room (byte_of c.in-Ok-Some.kind) c.in-Ok-Some.text.now c.args.bytes.now c.in-Ok-Some.rest.now ((rw c.in-Ok-Some.field-0-is at c.in-Ok-Some.ensures.line) (items_in c.args.how.now.limits c.args.room) [])) c.build_after.ensures

pub build_after-returns-in-Ok : goal.build_after-returns-in-Ok
build_after-returns-in-Ok t c = rw (c.in-Simple.is, c.in-Ok.ensures) (of_simple c.args.how.now.limits (items_in c.args.how.now.limits c.args.room) c.args.text.now c.args.rest.now)

pub build_after-returns-in-Ok-from_text : goal.build_after-returns-in-Ok-from_text
build_after-returns-in-Ok-from_text t c = rw (c.in-Error.is, c.in-Ok-from_text.ensures) (of_error c.args.how.now.limits (items_in c.args.how.now.limits c.args.room) c.args.text.now c.args.rest.now)

pub build_after-returns-in-Some : goal.build_after-returns-in-Some
build_after-returns-in-Some t c = let fits = integer_fits c.args.text.now c.in-Some.number c.in-Some.ensures in rw (c.in-Integer.is, to_z-of_z w64 c.in-Some.number fits) (of_integer c.args.how.now.limits (items_in c.args.how.now.limits c.args.room) c.args.text.now c.args.rest.now c.in-Some.number c.in-Some.ensures)

pub build_after-returns-in-None : goal.build_after-returns-in-None
build_after-returns-in-None t c = rw c.in-Integer.is (of_no_integer c.args.how.now.limits (items_in c.args.how.now.limits c.args.room) c.args.text.now c.args.rest.now c.in-None.ensures)

pub build_after-returns-in-Ok-Some : goal.build_after-returns-in-Ok-Some
build_after-returns-in-Ok-Some t c = rw c.in-Bulk.is (builds_same data_of c.build_bulk.result _ _ (of_bulk c.args.how.now.limits (items_in c.args.how.now.limits c.args.room) c.args.text.now c.args.rest.now c.in-Ok-Some.len (rw c.in-Ok-Some.field-0-is at c.in-Ok-Some.ensures)) c.build_bulk.ensures)

pub build_after-returns-in-Ok-None : goal.build_after-returns-in-Ok-None
build_after-returns-in-Ok-None t c = rw c.in-Bulk.is (of_null_bulk c.args.how.now.limits (items_in c.args.how.now.limits c.args.room) c.args.text.now c.args.rest.now (rw c.in-Ok-None.field-0-is at c.in-Ok-None.ensures))

pub build_after-returns-in-Err-length_of : goal.build_after-returns-in-Err-length_of
build_after-returns-in-Err-length_of t c = rw c.in-Bulk.is (fault_is data_of c.in-Err-length_of.fault _ (of_bad_bulk c.args.how.now.limits (items_in c.args.how.now.limits c.args.room) c.args.text.now c.args.rest.now c.in-Err-length_of.fault c.in-Err-length_of.ensures))

pub build_after-returns-in-Ok-Some-length_of : goal.build_after-returns-in-Ok-Some-length_of
build_after-returns-in-Ok-Some-length_of t c = rw c.in-Array.is (builds_same data_of c.build_array.result _ _ (of_array c.args.how.now.limits (items_in c.args.how.now.limits c.args.room) c.args.text.now c.args.rest.now c.in-Ok-Some-length_of.len (rw c.in-Ok-Some-length_of.field-0-is at c.in-Ok-Some-length_of.ensures)) c.build_array.ensures)

pub build_after-returns-in-Ok-None-length_of : goal.build_after-returns-in-Ok-None-length_of
build_after-returns-in-Ok-None-length_of t c = rw c.in-Array.is (of_null_array c.args.how.now.limits (items_in c.args.how.now.limits c.args.room) c.args.text.now c.args.rest.now (rw c.in-Ok-None-length_of.field-0-is at c.in-Ok-None-length_of.ensures))

pub build_after-returns-in-Err-length_of-2 : goal.build_after-returns-in-Err-length_of-2
build_after-returns-in-Err-length_of-2 t c = rw c.in-Array.is (fault_is data_of c.in-Err-length_of-2.fault _ (of_bad_array c.args.how.now.limits (items_in c.args.how.now.limits c.args.room) c.args.text.now c.args.rest.now c.in-Err-length_of-2.fault c.in-Err-length_of-2.ensures))

pub build_items-loop-init : goal.build_items-loop-init
build_items-loop-init t c = record {
  built = let same : c.args.len - 0 ≡ c.args.len = omega arith in rw (c.in-Ok.ensures.items, same) (front_start _);
  end = c.requires;
}

pub build_items-returns-in-Ok-None : goal.build_items-returns-in-Ok-None
build_items-returns-in-Ok-None t c = sym c.loop.invariant.built ∙ front_partial (value_at c.args.how.now.limits c.args.room) (map data_of c.loop.items.items) (c.args.len - c.loop.counter) c.loop.rest.now (omega arith) (rw c.in-Ok-None.field-0-is at c.in-Ok-None.ensures)

pub build_items-returns-in-Err : goal.build_items-returns-in-Err
build_items-returns-in-Err t c = items_fault data_of (value_at c.args.how.now.limits c.args.room) (map data_of c.loop.items.items) (c.args.len - c.loop.counter) c.loop.rest.now c.in-Err.fault _ (omega arith) c.loop.invariant.built c.in-Err.ensures

pub build_items-loop-preserved : goal.build_items-loop-preserved
build_items-loop-preserved t c = let read = rw c.in-Ok-Some.field-0-is at c.in-Ok-Some.ensures in record {
  built = push_more data_of (value_at c.args.how.now.limits c.args.room) c.loop.items.items c.push.new.self.items c.in-Ok-Some.value c.args.len c.loop.counter c.args.bytes.now c.loop.rest.now c.in-Ok-Some.after.now c.in-Ok-push.ensures.items (omega arith) read c.loop.invariant.built;
  end = end_behind_value c.args.how.now.limits c.args.room c.loop.rest.now c.in-Ok-Some.after.now _ c.args.how.now.bodies read c.loop.invariant.end;
}

pub build_items-returns : goal.build_items-returns
build_items-returns t c = sym c.loop.invariant.built ∙ front_end (value_at c.args.how.now.limits c.args.room) (map data_of c.loop.items.items) (c.args.len - c.loop.counter) c.loop.rest.now (omega arith)
