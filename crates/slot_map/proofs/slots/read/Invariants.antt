use Rattle.std.proofs.Common.{◌≡◌, map, length}
use Rattle.resp_wire.specs.Seen.{data_of}
use Rattle.slot_map.specs.Slots.{read_entries}
use Rattle.slot_map.specs.Passes.{after}
use Rattle.slot_map.specs.Table.{Grows}
use Rattle.slot_map.proofs.slots.read.Given as goal

abbrev pub invariant-loop-rest : goal.invariant-loop-rest
invariant-loop-rest l =
    record {
      read : read_entries l.asked (map data_of l.entries) l.fn.table ≡ after l.ops.items (read_entries l.asked (map data_of l.rest) l.table);
      grown : Grows l.fn.table l.table;
    }

abbrev pub decreases-loop-rest : goal.decreases-loop-rest
decreases-loop-rest l = length l.rest
