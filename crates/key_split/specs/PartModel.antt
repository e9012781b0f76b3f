-- An operation on keys of one slot, as contracts see a part: Redis Cluster specification, "Implemented subset".
-- `arg` is the first key's value, empty where the operation takes none. INCRBY's number stands in the operation.
-- Keys of several slots never stand in one part, since a node refuses them (CROSSSLOT).
use Rattle.std.specs.Prelude.{◌≡◌, ◌⊎◌, ℕ, List, [], ◌∷◌, map, if◌then◌else◌, All, IsTrue, Bool, true, false}
use Rattle.slot_hash.specs.Slot.{slot_of}
use Rattle.key_split.specs.declared.part.Op.{Op}
use Rattle.key_split.specs.declared.part.Op.TheVariants.{Get, Set, SetNx, GetSet, GetDel, Append, StrLen, Incr, Decr, IncrBy, Del, Exists, MGet, MSet}

-- a key with its value, empty where it has none
abbrev pub Pair : Type 0
Pair = List ℕ × List ℕ

-- an operation with its first key and value, and its further keys with theirs
pub record PartModel : Type 0 where
  pub op : Op
  pub key : List ℕ
  pub arg : List ℕ
  pub rest : List Pair

-- the operation may have more than one key
abbrev pub takes_group : Op → Bool
takes_group Get = false
takes_group (Set mode) = false
takes_group SetNx = false
takes_group GetSet = false
takes_group GetDel = false
takes_group Append = false
takes_group StrLen = false
takes_group Incr = false
takes_group Decr = false
takes_group (IncrBy n) = false
takes_group Del = true
takes_group Exists = true
takes_group MGet = true
takes_group MSet = true

-- the operation on one key takes a value
abbrev pub takes_value : Op → Bool
takes_value Get = false
takes_value (Set mode) = true
takes_value SetNx = true
takes_value GetSet = true
takes_value GetDel = false
takes_value Append = true
takes_value StrLen = false
takes_value Incr = false
takes_value Decr = false
takes_value (IncrBy n) = false
takes_value Del = false
takes_value Exists = false
takes_value MGet = false
takes_value MSet = false

-- the operation puts the value behind each key
abbrev pub puts_value : Op → Bool
puts_value Get = false
puts_value (Set mode) = true
puts_value SetNx = true
puts_value GetSet = true
puts_value GetDel = false
puts_value Append = true
puts_value StrLen = false
puts_value Incr = false
puts_value Decr = false
puts_value (IncrBy n) = false
puts_value Del = false
puts_value Exists = false
puts_value MGet = false
puts_value MSet = true

-- a value as a part has it
abbrev pub value_for : Op → List ℕ → List ℕ
value_for o value = if puts_value o then value else []

-- it is empty where the operation puts none
abbrev pub IsValueFor : Op → List ℕ → Type 0
IsValueFor o value = IsTrue (puts_value o) ⊎ (value ≡ [])

-- all the keys, with their values
abbrev pub pairs_in : PartModel → List Pair
pairs_in c = (c.key, c.arg) ∷ c.rest

-- all the keys
abbrev pub keys_of : PartModel → List (List ℕ)
keys_of c = map (λ pair. pair.0) (pairs_in c)

-- all the keys have the slot of the first
abbrev pub HasOneSlot : PartModel → Type 0
HasOneSlot c = All (λ key. slot_of key ≡ slot_of c.key) (keys_of c)

-- only an operation that takes a group has further keys
abbrev pub HasFitKeys : PartModel → Type 0
HasFitKeys c = IsTrue (takes_group c.op) ⊎ (c.rest ≡ [])
