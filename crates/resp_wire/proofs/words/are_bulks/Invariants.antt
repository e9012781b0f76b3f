use Rattle.std.proofs.Common.{◌≡◌, map, is_some, drop}
use Rattle.resp_wire.specs.Data.{items_of}
use Rattle.resp_wire.specs.Seen.{data_of}
use Rattle.resp_wire.specs.Words.{bulks_of}
use Rattle.resp_wire.proofs.words.are_bulks.Given as goal

abbrev pub invariant-loop-item : goal.invariant-loop-item
invariant-loop-item l = is_some (bulks_of (items_of (map data_of (drop l.item-index l.item-items)))) ≡ is_some (bulks_of (items_of l.fn.items))
