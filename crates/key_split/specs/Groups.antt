-- The groups that the keys of a request make, those of one slot together: Redis Cluster specification, "Implemented
-- subset".
-- One part for each slot, in the order of each slot's first key. A part keeps its keys in the request's order, repeats
-- included, so the last value that MSET has for a key stays.
use Rattle.std.specs.Prelude.{ℕ, List, [], ◌∷◌, map, not, nat_eq}
use Rattle.std.specs.List.{filter, position_or_len}
use Rattle.slot_hash.specs.Slot.{slot_of}
use Rattle.key_split.specs.declared.part.Op.{Op}
use Rattle.key_split.specs.PartModel.{PartModel, Pair}

abbrev pub slot_at : Pair → ℕ
slot_at pair = slot_of pair.0

-- the slots of the keys, each once, in the order of their first keys
abbrev pub slots : List Pair → List ℕ
slots [] = []
slots (pair ∷ pairs) = slot_at pair ∷ filter (λ slot. not (nat_eq (slot_at pair) slot)) (slots pairs)

-- the keys of a slot, with their values, in their order
abbrev pub of_slot : List Pair → ℕ → List Pair
of_slot pairs slot = filter (λ pair. nat_eq slot (slot_at pair)) pairs

abbrev pub groups : List Pair → List (List Pair)
groups pairs = map (of_slot pairs) (slots pairs)

-- for each key the number of its group
abbrev pub group_numbers : List Pair → List ℕ
group_numbers pairs = map (λ pair. position_or_len (nat_eq (slot_at pair)) (slots pairs)) pairs

-- the operation on a group, which has at least one key
abbrev pub on_group : Op → List Pair → PartModel
on_group o [] = record { op = o; key = []; arg = []; rest = [] }
on_group o (first ∷ rest) = record { op = o; key = first.0; arg = first.1; rest = rest }

abbrev pub parts_of : Op → List Pair → List PartModel
parts_of o pairs = map (on_group o) (groups pairs)

-- keys that have no value
abbrev pub alone : List (List ℕ) → List Pair
alone keys = map (λ key. (key, [])) keys

-- each key with the value behind it
abbrev pub pairs_of : List (List ℕ) → List Pair
pairs_of [] = []
pairs_of (key ∷ []) = []
pairs_of (key ∷ value ∷ words) = (key, value) ∷ pairs_of words
