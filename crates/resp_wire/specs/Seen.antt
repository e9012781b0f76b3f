-- The data that a `Value` stands for.
-- Contracts compare values by it alone: how a value holds its bytes never shows.
use Rattle.std.specs.Prelude.{ℕ, suc, List, map, max}
use Rattle.std.specs.Prelude.{Vec}
use Rattle.std.specs.declared.alloc.Global.{Global}
use Rattle.resp_wire.specs.Data.{Data, Items, simple, error, integer, bulk, null_bulk, array, null_array, no_items, item, items_of}
use Rattle.resp_wire.specs.declared.value.Value.{Value}
use Rattle.resp_wire.specs.declared.value.Value.TheVariants.{Simple, Error, Integer, Bulk, NullBulk, Array, NullArray}

abbrev pub data_of : Value → Data
data_of (Simple t) = simple t
data_of (Error t) = error t
data_of (Integer z) = integer z
data_of (Bulk b) = bulk b
data_of NullBulk = null_bulk
data_of (Array ds) = array (items_of ds)
data_of NullArray = null_array

abbrev mutual
  pub height : Data → ℕ
  height (simple t) = 0
  height (error t) = 0
  height (integer z) = 0
  height (bulk b) = 0
  height null_bulk = 0
  height (array ds) = suc (heights ds)
  height null_array = 0

  pub heights : Items → ℕ
  heights no_items = 0
  heights (item d ds) = max (height d) (heights ds)

-- how deep the items nest
abbrev pub size_of : List Data → ℕ
size_of ds = heights (items_of ds)

-- the items that a vector holds
abbrev pub items_view : Vec Value Global → Items
items_view v = items_of (map data_of v.items)
