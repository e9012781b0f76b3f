-- A lane: the items that were posted, and those of them that were taken, each with its number.
-- Two lists: the items posted, and the items taken, which are a beginning of the first. A lane has 1,024 places, so the
-- first 1,024 posts succeed. A refused item comes back to the sender.
use Rattle.std.specs.Prelude.{◌≡◌, ℕ, ◌-◌, ◌^◌, ◌≤◌, ◌⊎◌, List, [], ◌∷◌, ◌++◌, length, Option, None, Some, Result, Ok, Err}
use mathlib.Core.List.{IsPrefix}
use Rattle.rtrb.specs.Ring.{sent, received, known_free, known_items, all_sent, IsPair, Finishes, IsFinishedOf, SameProducer, SameConsumer}
use Rattle.proxy_lanes.specs.declared.ring.Numbered.{Numbered}
use Rattle.proxy_lanes.specs.declared.ring.Outlet.{Outlet}
use Rattle.proxy_lanes.specs.declared.ring.Inlet.{Inlet}
use Rattle.proxy_lanes.specs.declared.ring.Note.{Note}

module _ {T : Type 0} where
  abbrev pub numbered : ℕ → T → Numbered T
  numbered k x = record { number = k; item = x }

  -- what was posted, oldest first
  abbrev pub posted : Outlet T → List (Numbered T)
  posted outlet = sent outlet.producer

  -- how many free places the outlet has learnt of
  abbrev pub free_places : Outlet T → ℕ
  free_places outlet = known_free outlet.producer

  -- what was taken, oldest first
  abbrev pub taken : Inlet T → List (Numbered T)
  taken inlet = received inlet.consumer

  -- what the inlet has seen in the lane: the next takes give it
  abbrev pub held : Inlet T → List (Numbered T)
  held inlet = known_items inlet.consumer

  -- all that was ever posted
  abbrev pub all_posted : Note T → List (Numbered T)
  all_posted note = all_sent note.finished

  -- the two ends of one lane
  abbrev pub IsLane : Outlet T → Inlet T → Type 0
  IsLane outlet inlet = IsPair outlet.producer inlet.consumer

  -- the two ends of one lane in which nothing was posted
  abbrev pub IsNewLane : Outlet T → Inlet T → Type 0
  IsNewLane outlet inlet = IsLane outlet inlet × (posted outlet ≡ []) × (taken inlet ≡ []) × (held inlet ≡ [])

  -- the note shows all that the outlet posted
  abbrev pub FinishesAs : Outlet T → Note T → Type 0
  FinishesAs outlet note = Finishes outlet.producer note.finished

  -- the note is of the inlet's lane
  abbrev pub IsNoteOf : Note T → Inlet T → Type 0
  IsNoteOf note inlet = IsFinishedOf note.finished inlet.consumer

  -- one post, in the same lane: the item stands behind all others; or it comes back, where no place is known to be free or no number is left, and never before 1,024 were posted
  abbrev pub Posts : Outlet T → Outlet T → T → Result Unit T → Type 0
  Posts old new x (Ok _) = SameProducer old.producer new.producer × (posted new ≡ posted old ++ numbered (length (posted old)) x ∷ [])
  Posts old new x (Err back) = SameProducer old.producer new.producer × (back ≡ x) × (posted new ≡ posted old)
      × (1024 ≤ length (posted old)) × ((free_places new ≡ 0) ⊎ (length (posted old) ≡ 2 ^ 64 - 1))

  -- one take, from the same lane: the k-th item taken carries the number k, and none comes only where none was seen
  abbrev pub Takes : Inlet T → Inlet T → Option T → Type 0
  Takes old new None = SameConsumer old.consumer new.consumer × (held old ≡ []) × (held new ≡ []) × (taken new ≡ taken old)
  Takes old new (Some x) = SameConsumer old.consumer new.consumer × (taken new ≡ taken old ++ numbered (length (taken old)) x ∷ [])
      × IsPrefix (held old) (numbered (length (taken old)) x ∷ held new)

  -- with the note of all that was posted: what was taken and what is held are all of it, and `left` items are left
  abbrev pub Settles : Inlet T → Inlet T → Note T → ℕ → Type 0
  Settles old new note left = SameConsumer old.consumer new.consumer × (taken new ≡ taken old)
      × (taken new ++ held new ≡ all_posted note) × (left ≡ length (held new))
