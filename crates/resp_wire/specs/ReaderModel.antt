-- What a reader holds.
-- The model of `Reader`. How far it has looked, and how it holds its bytes, does not show.
use Rattle.std.specs.Prelude.{ℕ, List, Option}
use Rattle.resp_wire.specs.LimitsModel.{LimitsModel}
use Rattle.resp_wire.specs.declared.fault.WireFault.{WireFault}

-- how large the parts of a value may be, the bytes fed of which no value was made yet, and the fault that was found
pub record ReaderModel : Type 0 where
  pub bounds : LimitsModel
  pub unread : List ℕ
  pub fault : Option WireFault
