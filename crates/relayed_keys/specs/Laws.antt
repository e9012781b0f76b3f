-- What holds of every request that is passed on whole.
use Rattle.std.specs.Prelude.{◌≡◌, true, IfOk, IfSome, Result, Option}
use Rattle.std.specs.List.{list_all}
use Rattle.relayed_keys.specs.declared.keys.RelayKeys.{RelayKeys}
use Rattle.relayed_keys.specs.declared.keys.RelayFault.{RelayFault}
use Rattle.key_split.specs.Plan.{Words}
use Rattle.relayed_keys.specs.Keys.{in_slot, keys_at, relayed_of}

-- where there are keys, they have the slot
abbrev pub AreInSlot : Words → Result (Option RelayKeys) RelayFault → Type 0
AreInSlot words found = IfOk found (λ one. IfSome one (λ keys. list_all (in_slot keys.slot) (keys_at keys.places words) ≡ true))

-- each key of a request that is passed on has the slot that it is sent to
abbrev pub KeysHaveTheSlot : Type 0
KeysHaveTheSlot = (words : Words) → AreInSlot words (relayed_of words)
