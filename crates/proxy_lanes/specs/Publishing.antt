-- What is published of one slot: nothing, where that is what was published last.
use Rattle.std.specs.Prelude.{◌≡◌, ◌⊎◌, ◌++◌, ◌∷◌, [], List, ℕ, Option, Some, None, ⊤}
use Rattle.slot_map.specs.declared.ops.MapOp.{MapOp}
use Rattle.slot_map.specs.declared.ops.MapOp.TheVariants.{SetSlot}

-- the operation was published last
abbrev pub EndsWith : MapOp → List MapOp → Type 0
EndsWith op published = (before : List MapOp) × (published ≡ before ++ op ∷ [])

-- it is published, or stands there already
abbrev pub IsPublished : List MapOp → MapOp → List MapOp → Type 0
IsPublished old op new = (new ≡ old ++ op ∷ []) ⊎ (EndsWith op old × (new ≡ old))

-- where a slot and its node are noted, they were published last
abbrev pub IsNoted : Option (ℕ × ℕ) → List MapOp → Type 0
IsNoted None published = ⊤
IsNoted (Some last) published = EndsWith (SetSlot last.0 last.1) published
