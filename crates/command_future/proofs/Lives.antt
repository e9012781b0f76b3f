-- A life goes on by one event.
use Rattle.std.proofs.Common.{◌≡◌, ℕ, zero, suc, ◌+◌, ◌⊎◌, inl, inr, Bool, true, false, List, [], ◌∷◌, ◌++◌, length, Option, Some, None, refl, ap, arith, length-append, subst, sym}
use Rattle.std.specs.Prelude.{All, ◌==◌, if◌then◌else◌}
use Rattle.std.specs.List.{last_or}
use Rattle.std.proofs.lemmas.List.Elements.{All-append}
use Rattle.std.proofs.lemmas.Bool.{eqb-true, eqb-false}
use Rattle.key_split.specs.declared.travel.Batch.{Batch}
use Rattle.key_split.specs.PartModel.{PartModel}
use Rattle.key_split.specs.declared.travel.Ticket.{Ticket}
use Rattle.key_split.specs.declared.travel.Told.{Told}
use Rattle.key_split.specs.declared.travel.Told.TheVariants.{Reply, Moved, Ask, TryAgain, ClusterDown, Unclear, Unsent}
use Rattle.key_split.specs.declared.travel.Ended.TheVariants.{GaveUp}
use Rattle.command_future.specs.declared.stage.Stage.{Stage}
use Rattle.command_future.specs.declared.stage.Stage.TheVariants.{Wants, WantsAsking, Awaits, Over}
use Rattle.command_future.specs.declared.stage.Want.TheVariants.{Post, Await}
use Rattle.command_future.specs.Life.{CommandEvent, told_in, posted_in, IsRefusal, IsWanted, IsWantedBatch, IsDue, IsLife, EndsWith, want_after}
use Rattle.command_future.specs.Life.CommandEvent.{Posted, Heard}
use Rattle.command_future.specs.CommandModel.{CommandModel, fresh, want_at, WantsPost, MayPostTo, batch_of, refused_at, progress_told, Stands, HasLived}

module _ {A : Type 0} where
  pub not_nil : (before after : List A) (x : A) → [] ≡ before ++ x ∷ after → ⊥
  not_nil [] after x e = cc
  not_nil (y ∷ before) after x e = cc

  -- an item of a list with one more is that one, or is in the list
  pub split_last : (xs before after : List A) (x y : A) → xs ++ x ∷ [] ≡ before ++ y ∷ after
      → ((before ≡ xs) × (y ≡ x)) ⊎ ((rest : List A) × (xs ≡ before ++ y ∷ rest))
  split_last [] [] after x y e = inl (refl, cc)
  split_last [] (b ∷ before) after x y e = absurd (not_nil before after y cc)
  split_last (a ∷ xs) [] after x y e = inr (xs, cc)
  split_last (a ∷ xs) (b ∷ before) after x y e =
      elim (split_last xs before after x y cc) [ inl h ↦ inl (cc, h.1) | inr h ↦ inr (h.0, cc) ]

  pub All-one : (P : A → Type 0) (x : A) → P x → All P (x ∷ [])
  All-one P x p zero d h = p
  All-one P x p (suc k) d h = absurd (omega arith)

  pub last_or-push : (o : Option A) (xs : List A) (x : A) → last_or o (xs ++ x ∷ []) ≡ Some x
  last_or-push o [] x = refl
  last_or-push o (y ∷ xs) x = last_or-push (Some y) xs x

pub told_in-posted : (events : List CommandEvent) (batch : Batch) → told_in (events ++ Posted batch ∷ []) ≡ told_in events
told_in-posted [] batch = refl
told_in-posted (Posted b ∷ events) batch = told_in-posted events batch
told_in-posted (Heard t ∷ events) batch = ap (λ l. t ∷ l) (told_in-posted events batch)

pub told_in-heard : (events : List CommandEvent) (told : Told) → told_in (events ++ Heard told ∷ []) ≡ told_in events ++ told ∷ []
told_in-heard [] told = refl
told_in-heard (Posted b ∷ events) told = told_in-heard events told
told_in-heard (Heard t ∷ events) told = ap (λ l. t ∷ l) (told_in-heard events told)

pub posted_in-posted : (events : List CommandEvent) (batch : Batch) → posted_in (events ++ Posted batch ∷ []) ≡ posted_in events ++ batch ∷ []
posted_in-posted [] batch = refl
posted_in-posted (Posted b ∷ events) batch = ap (λ l. b ∷ l) (posted_in-posted events batch)
posted_in-posted (Heard t ∷ events) batch = posted_in-posted events batch

pub posted_in-heard : (events : List CommandEvent) (told : Told) → posted_in (events ++ Heard told ∷ []) ≡ posted_in events
posted_in-heard [] told = refl
posted_in-heard (Posted b ∷ events) told = ap (λ l. b ∷ l) (posted_in-heard events told)
posted_in-heard (Heard t ∷ events) told = posted_in-heard events told

module _ (ticket : Ticket) (part : PartModel) where
  pub life_fresh : IsLife ticket part []
  life_fresh = record { each = λ before after event e. absurd (not_nil before after event e) }

  pub life_more : (events : List CommandEvent) (event : CommandEvent) → IsLife ticket part events → IsDue ticket part events event
      → IsLife ticket part (events ++ event ∷ [])
  life_more events event life due =
      record {
        each = λ before after other e. elim (split_last events before after event other e) [
          | inl h ↦ subst (λ (b : List CommandEvent). IsDue ticket part b other) (sym h.0) (subst (λ (o : CommandEvent). IsDue ticket part events o) (sym h.1) due)
          | inr h ↦ life.each before h.0 other h.1
        ];
      }

pub lived_fresh : (ticket : Ticket) (part : PartModel) → HasLived (fresh ticket part) []
lived_fresh ticket part =
    record { life = life_fresh ticket part; stands = ((((λ k d h. absurd (omega arith)), omega arith), refl, refl), refl) }

module _ (ticket : Ticket) (part : PartModel) (followed : ℕ) (events : List CommandEvent) where
  abbrev batch_at : Stage → ℕ → Batch
  batch_at stage node = batch_of (record { ticket = ticket; part = part; followed = followed; stage = stage }) node

  -- the batch was wanted, and then an answer is
  posted_stands : (stage : Stage) (node : ℕ) → MayPostTo stage node → Stands stage followed events
      → IsWantedBatch ticket part events (batch_at stage node)
      × Stands Awaits followed (events ++ Posted (batch_at stage node) ∷ [])
  posted_stands (Wants named) node may stands = (
    record { same_ticket = refl; same_part = refl; named = named; wanted = stands.0; there = may },
    rw (told_in-posted, posted_in-posted) (((stands.0.0.0, stands.0.0.1), simp length-append (omega arith)), stands.1),
  )
  posted_stands (WantsAsking named) node may stands = (
    record { same_ticket = refl; same_part = refl; named = Some named; wanted = stands.0; there = may },
    rw (told_in-posted, posted_in-posted) (((stands.0.0.0, stands.0.0.1), simp length-append (omega arith)), stands.1),
  )
  posted_stands Awaits node may stands = absurd may
  posted_stands (Over end) node may stands = absurd may

pub lived_posted : (c : CommandModel) (node : ℕ) (events : List CommandEvent) → MayPostTo c.stage node → HasLived c events
    → HasLived (record c { stage = Awaits }) (events ++ Posted (batch_of c node) ∷ [])
lived_posted c node events may lived =
    let next = posted_stands c.ticket c.part c.followed events c.stage node may lived.stands in
    record { life = life_more c.ticket c.part events (Posted (batch_of c node)) lived.life next.0; stands = next.1 }

abbrev one_refused : Bool → ℕ → Stage → ℕ × Stage
one_refused is_last followed next = if is_last then (followed, Over GaveUp) else (followed + 1, next)

module _ (events : List CommandEvent) (told : Told) (wanted : IsWanted events Await) where
  one_more : IsRefusal told → All IsRefusal (told_in events ++ told ∷ [])
  one_more refusal = All-append IsRefusal (told_in events) (told ∷ []) wanted.0.0 (All-one IsRefusal told refusal)

  -- a refusal with which there are no more than sixteen is followed
  is_followed : (asking : Bool) (named : Option ℕ) (followed : ℕ) → ((followed ≡ 16) → ⊥) → IsRefusal told
      → want_after told ≡ Post asking named → length (told_in events) ≡ followed
      → IsWanted (events ++ Heard told ∷ []) (Post asking named) × (length (told_in (events ++ Heard told ∷ [])) ≡ followed + 1)
  is_followed asking named followed few refusal sends count =
      rw (told_in-heard, posted_in-heard) (
        (
          (one_more refusal, simp length-append (omega arith)),
          simp length-append (omega arith),
          rw last_or-push sends,
        ),
        simp length-append (omega arith),
      )

  refused_by : (next : Stage) (followed : ℕ) (b : Bool) → (followed == 16) ≡ b → IsRefusal told → WantsPost next
      → want_after told ≡ want_at next → length (told_in events) ≡ followed
      → Stands (one_refused b followed next).1 (one_refused b followed next).0 (events ++ Heard told ∷ [])
  refused_by next followed true e refusal posts sends count =
      rw told_in-heard (one_more refusal, simp length-append (let h : followed ≡ 16 = eqb-true followed 16 e in omega arith))
  refused_by (Wants named) followed false e refusal posts sends count =
      is_followed false named followed (eqb-false followed 16 e) refusal sends count
  refused_by (WantsAsking node) followed false e refusal posts sends count =
      is_followed true (Some node) followed (eqb-false followed 16 e) refusal sends count
  refused_by Awaits followed false e refusal posts sends count = absurd posts
  refused_by (Over end) followed false e refusal posts sends count = absurd posts

  -- a refusal is followed, or is the seventeenth
  refused_stands : (next : Stage) (followed : ℕ) → IsRefusal told → WantsPost next → want_after told ≡ want_at next
      → length (told_in events) ≡ followed
      → Stands (refused_at followed next).1 (refused_at followed next).0 (events ++ Heard told ∷ [])
  refused_stands next followed refusal posts sends count =
      refused_by next followed (followed == 16) refl refusal posts sends count

  told_ends : EndsWith (told_in (events ++ Heard told ∷ [])) told
  told_ends = (told_in events, wanted.0, told_in-heard events told)

module _ (c : CommandModel) (events : List CommandEvent) (awaits : c.stage ≡ Awaits) (lived : HasLived c events) where
  stood : Stands Awaits c.followed events
  stood = subst (λ (stage : Stage). Stands stage c.followed events) awaits lived.stands

  goes_on : (told : Told) → IsLife c.ticket c.part (events ++ Heard told ∷ [])
  goes_on told = life_more c.ticket c.part events (Heard told) lived.life stood.0

  abbrev progress_refused : Stage → CommandModel
  progress_refused next = record c { followed = (refused_at c.followed next).0; stage = (refused_at c.followed next).1 }

  refused : (told : Told) (next : Stage) → IsRefusal told → WantsPost next → want_after told ≡ want_at next
      → HasLived (progress_refused next) (events ++ Heard told ∷ [])
  refused told next refusal posts sends =
      record { life = goes_on told; stands = refused_stands events told stood.0 next c.followed refusal posts sends stood.1 }

  pub lived_told : (told : Told) → HasLived (progress_told c told) (events ++ Heard told ∷ [])
  lived_told (Reply value) = record { life = goes_on (Reply value); stands = told_ends events (Reply value) stood.0 }
  lived_told Told.Lost = record { life = goes_on Told.Lost; stands = told_ends events Told.Lost stood.0 }
  lived_told (Moved slot node) = refused (Moved slot node) (Wants (Some node)) tt tt refl
  lived_told (Ask slot node) = refused (Ask slot node) (WantsAsking node) tt tt refl
  lived_told TryAgain = refused TryAgain (Wants None) tt tt refl
  lived_told ClusterDown = refused ClusterDown (Wants None) tt tt refl
  lived_told Unclear = refused Unclear (Wants None) tt tt refl
  lived_told Unsent = refused Unsent (Wants None) tt tt refl
