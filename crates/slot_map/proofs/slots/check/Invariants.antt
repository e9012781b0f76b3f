use Rattle.std.proofs.Common.{◌≡◌, map, length}
use Rattle.resp_wire.specs.Seen.{data_of}
use Rattle.slot_map.specs.Slots.{read_entries}
use Rattle.slot_map.specs.Passes.{fault_of}
use Rattle.slot_map.specs.Table.{Grows}
use Rattle.slot_map.proofs.slots.check.Given as goal

abbrev pub invariant-loop-rest : goal.invariant-loop-rest
invariant-loop-rest l =
    record {
      fault : fault_of (read_entries l.fn.asked (map data_of l.entries) l.table) ≡ fault_of (read_entries l.fn.asked (map data_of l.rest) l.draft);
      grown : Grows l.table l.draft;
    }

abbrev pub decreases-loop-rest : goal.decreases-loop-rest
decreases-loop-rest l = length l.rest
