use Rattle.std.proofs.Common.{ap, ◌∙◌}
use Rattle.resp_wire.specs.Seen.{data_of}
use Rattle.session_order.proofs.Asking.{array_is_empty}
use Rattle.session_order.proofs.request_kind.is_empty_array.Goals as goal

pub returns-in-Array : goal.returns-in-Array
returns-in-Array c =
    c.is_empty.ensures ∙ array_is_empty (data_of c.args.value.now) c.in-Array.items c.as_slice.result.now (ap data_of c.in-Array.is) c.as_slice.ensures
