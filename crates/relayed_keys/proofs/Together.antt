-- Each key of a request that is passed on has its slot.
use Rattle.std.proofs.Common.{◌≡◌, ℕ, ◌++◌, length, Bool, true, false, ◌&&◌, ◌==◌, if◌then◌else◌, Option, None, Some, Result, Ok, Err, refl, ◌∙◌}
use Rattle.std.specs.List.{list_all}
use Rattle.std.specs.Cmp.Derive.{both_true}
use Rattle.std.proofs.Math.Bool.{and-true}
use Rattle.std.proofs.lemmas.List.Folds.{list_all-append}
use Rattle.slot_hash.specs.Slot.{slot_of}
use Rattle.relayed_keys.specs.declared.table.Shape.{Shape}
use Rattle.relayed_keys.specs.declared.keys.KeyPlaces.{KeyPlaces}
use Rattle.relayed_keys.specs.declared.keys.RelayKeys.{RelayKeys}
use Rattle.relayed_keys.specs.declared.keys.RelayFault.{RelayFault}
use Rattle.relayed_keys.specs.declared.keys.RelayFault.TheVariants.{WrongCount, NoKey, CrossSlot}
use Rattle.key_split.specs.Plan.{Words, word_at}
use Rattle.relayed_keys.specs.Keys.{Found, also_in, between, every, in_slot, one_more, places_as, relayed_by, relayed_if, relayed_of, row_of, shape_of, shared, shared_if, shared_in, takes}
use Rattle.relayed_keys.specs.Laws.{AreInSlot, KeysHaveTheSlot}
use Rattle.relayed_keys.proofs.KeyLemmas.{first, second}

in_then : (words : Words) (b : Bool) (x : Result (Option RelayKeys) RelayFault) (fault : RelayFault) → (b ≡ true → AreInSlot words x) → AreInSlot words (if b then x else Err fault)
in_then words true x fault h = h refl
in_then words false x fault h = tt

in_else : (words : Words) (b : Bool) (x : Result (Option RelayKeys) RelayFault) (fault : RelayFault) → AreInSlot words x → AreInSlot words (if b then Err fault else x)
in_else words true x fault h = tt
in_else words false x fault h = h

one_more-in : (slot : ℕ) (also : Option ℕ) (words : Words) → also_in slot also words ≡ true → list_all (in_slot slot) (one_more also words) ≡ true
one_more-in slot None words h = refl
one_more-in slot (Some place) words h = and-true _ ∙ second _ (in_slot slot (word_at words place)) h

in-shared_in : (words : Words) (places : KeyPlaces) (slot : ℕ) → AreInSlot words (shared_in places (between places.first places.end words) slot words)
in-shared_in words places slot =
    let keys = every 0 places.step (between places.first places.end words) in
    in_then words (list_all (in_slot slot) keys && also_in slot places.also words) (Ok (Some (record { places = places; slot = slot }))) CrossSlot
    (λ h. list_all-append (in_slot slot) keys (one_more places.also words)
    ∙ both_true (first (list_all (in_slot slot) keys) (also_in slot places.also words) h)
    (one_more-in slot places.also words (second (list_all (in_slot slot) keys) (also_in slot places.also words) h)))

in-shared : (words : Words) (places : KeyPlaces) → AreInSlot words (shared words places)
in-shared words places =
    let keys = between places.first places.end words in
    in_else words (length keys == 0) (shared_in places keys (slot_of (word_at keys 0)) words) NoKey (in-shared_in words places (slot_of (word_at keys 0)))

in-shared_if : (words : Words) (found : Found) → AreInSlot words (shared_if words found)
in-shared_if words (Err fault) = tt
in-shared_if words (Ok places) = in-shared words places

in-relayed_by : (words : Words) (row : ℕ) (shape : Option Shape) → AreInSlot words (relayed_by words row shape)
in-relayed_by words row None = tt
in-relayed_by words row (Some shape) =
    in_then words (takes shape.words (length words)) (shared_if words (places_as shape.keys row words)) (WrongCount row)
    (λ _. in-shared_if words (places_as shape.keys row words))

in-relayed_if : (words : Words) (row : Option ℕ) → AreInSlot words (relayed_if words row)
in-relayed_if words None = tt
in-relayed_if words (Some row) = in-relayed_by words row (shape_of row)

pub keys-have-the-slot : KeysHaveTheSlot
unfolding relayed_of
keys-have-the-slot words = in-relayed_if words (row_of words)
