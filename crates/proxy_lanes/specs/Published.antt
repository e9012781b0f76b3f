-- What a copy of the map stands for, when a publication is taken in.
-- Only private functions cite it.
use Rattle.std.specs.Prelude.{◌==◌, Bool, true, false, List, length}
use Rattle.slot_map.specs.declared.ops.MapOp.{MapOp}

abbrev pub either_of : Bool → List MapOp → List MapOp → List MapOp
either_of true now next = next
either_of false now next = now

-- the next operations, where they follow on these
abbrev pub followed_by : List MapOp → List MapOp → List MapOp → List MapOp
followed_by now before next = either_of (length now == length before) now next
