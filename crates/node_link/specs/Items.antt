-- The items of an array. Only a private function cites it.
use Rattle.std.specs.Prelude.{◌≡◌, List, [], Option, Some, map}
use Rattle.resp_wire.specs.Seen.{data_of}
use Rattle.resp_wire.specs.declared.value.Value.{Value}
use Rattle.resp_wire.specs.declared.value.Value.TheVariants.{Array}

-- any other reply has none
abbrev pub AreItems : Option Value → List Value → Type 0
AreItems (Some (Array items)) values = map data_of values ≡ items
AreItems reply values = values ≡ []
