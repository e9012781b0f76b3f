-- What holds of plans and of the words for a node.
-- Statements alone; the functions of src/laws.rt prove them. No key is lost or doubled, two keys share a part exactly
-- where they share a slot, and a part's words are planned as that part.
use Rattle.std.specs.Prelude.{◌≡◌, ◌⊎◌, ◌↔◌, ℤ, List, [], ◌∷◌, map, All, Contains, IsTrue, Some, Ok}
use Rattle.key_split.specs.declared.part.Op.{Op}
use Rattle.key_split.specs.declared.part.Op.TheVariants.{Get, Set, SetNx, GetSet, GetDel, Append, StrLen, Incr, Decr, IncrBy, Del, Exists, MGet, MSet}
use Rattle.key_split.specs.declared.planned.Joining.{Joining}
use Rattle.key_split.specs.declared.planned.Joining.TheVariants.{One, Array, AllOk, Sum}
use Rattle.key_split.specs.declared.planned.Planned.TheVariants.{Parts}
use Rattle.key_split.specs.PartModel.{PartModel, Pair, pairs_in, puts_value, HasOneSlot, HasFitKeys}
use Rattle.key_split.specs.Groups.{slot_at, group_numbers, parts_of}
use Rattle.key_split.specs.Number.{in_range}
use Rattle.key_split.specs.Plan.{Words, plan_of}
use Rattle.key_split.specs.Woven.{woven}
use Rattle.key_split.specs.Words.{words_of}

-- the keys of the parts, put back by their places, are the keys of the request, each once
abbrev pub PutBack : Type 0
PutBack = (o : Op) (pairs : List Pair) → woven (group_numbers pairs) (map pairs_in (parts_of o pairs)) ≡ Some pairs

-- one part has both keys
abbrev pub SharePart : List PartModel → Pair → Pair → Type 0
SharePart parts a b = (part : PartModel) × Contains parts part × Contains (pairs_in part) a × Contains (pairs_in part) b

-- two keys of a request are in one part exactly where they have one slot
abbrev pub TogetherBySlot : Type 0
TogetherBySlot = (o : Op) (pairs : List Pair) (a b : Pair) → Contains pairs a → Contains pairs b → SharePart (parts_of o pairs) a b ↔ (slot_at a ≡ slot_at b)

-- the operation is written whole by the words for a node
pub record IsPlain (c : PartModel) : Type 0 where
  pub one_slot : HasOneSlot c
  pub fit_keys : HasFitKeys c
  pub values : IsTrue (puts_value c.op) ⊎ All (λ pair. pair.1 ≡ []) (pairs_in c)
  pub amount : (n : ℤ) → c.op ≡ IncrBy n → IsTrue (in_range n)

-- how the reply of a part alone becomes the reply to its words
abbrev pub joining_of : Op → List Pair → Joining
joining_of Get pairs = One
joining_of (Set mode) pairs = One
joining_of SetNx pairs = One
joining_of GetSet pairs = One
joining_of GetDel pairs = One
joining_of Append pairs = One
joining_of StrLen pairs = One
joining_of Incr pairs = One
joining_of Decr pairs = One
joining_of (IncrBy n) pairs = One
joining_of Del pairs = Sum
joining_of Exists pairs = Sum
joining_of MGet pairs = Array (map (λ pair. 0) pairs)
joining_of MSet pairs = AllOk

-- the words for a node are planned as the part that they were made of
abbrev pub PlannedBack : Type 0
PlannedBack = (c : PartModel) → IsPlain c → plan_of (words_of c) ≡ Ok (Parts (joining_of c.op (pairs_in c)) (c ∷ []))

-- each part of a plan is plain, so that its words are planned back
abbrev pub PlansArePlain : Type 0
PlansArePlain = (words : Words) (joining : Joining) (parts : List PartModel) → plan_of words ≡ Ok (Parts joining parts) → All IsPlain parts
