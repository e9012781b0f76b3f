-- One move after another.
use Rattle.std.proofs.Common.{◌≡◌, ◌≤◌, ◌++◌, ◌∷◌, [], List, ℕ, inl, inr, arith, append_assoc, sym, ◌∙◌, ap, refl, subst}
use Rattle.std.proofs.lemmas.List.{append-nil}
use Rattle.std.specs.Prelude.{◌<◌, ◌+◌, ◌⊎◌, Result, Ok, Err}
use Rattle.resp_wire.specs.ReaderModel.{ReaderModel}
use Rattle.node_link.specs.declared.stream.Flow.{Flow}
use Rattle.node_link.specs.declared.stream.Gone.{Gone}
use Rattle.node_link.specs.Bytes.{CountsRead, FlushOutcome, InboxModel, MayWait, Offers, PortBytes, flush_after_reads, input_of}
use Rattle.node_link.specs.Port.{Rose}
use Rattle.node_link.specs.Waiting.{WasOffered}

-- a count that rose in the later of two calls rose over both
pub rose_later : (a b c : ℕ) → a ≤ b → b ≤ c → Rose b c → Rose a c
rose_later a b c ab bc (inl rose) = inl (omega arith)
rose_later a b c ab bc (inr last) = grind arith

-- what is appended stands behind what is still to be written
pub appended : (old written rest last new : List ℕ) → old ≡ written ++ rest → new ≡ rest ++ last → old ++ last ≡ written ++ new
appended old written rest last new o n = rw (o, n) (append_assoc written rest last)

-- what is read stands behind what was read
pub filled_unread : (old taken room last : InboxModel) → (input_of taken).unread ≡ (input_of old).unread → taken.unfed ≡ []
    → last.fed ≡ room.fed → room.fed ≡ taken.fed → (input_of last).unread ≡ (input_of old).unread ++ last.unfed
filled_unread old taken room last unread none l r =
    let fed : last.fed.unread ≡ taken.fed.unread = ap (λ (i : ReaderModel). i.unread) (l ∙ r) in
    let all : taken.fed.unread ≡ (input_of old).unread =
    sym (append-nil taken.fed.unread) ∙ ap (λ (e : List ℕ). taken.fed.unread ++ e) (sym none) ∙ unread in
    ap (λ (bytes : List ℕ). bytes ++ last.unfed) (fed ∙ all)

pub filled_bounds : (old taken room last : InboxModel) → (input_of taken).bounds ≡ (input_of old).bounds → last.fed ≡ room.fed → room.fed ≡ taken.fed
    → (input_of last).bounds ≡ (input_of old).bounds
filled_bounds old taken room last bounds l r = ap (λ (i : ReaderModel). i.bounds) (l ∙ r) ∙ bounds

module _ {S : Type 0} (failures : S → ℕ) (moved : S → List ℕ → List ℕ → S → Type 0) where
  -- what was written, whether or not the stream failed at it
  pub flushed : (result : Result (Unit {0}) Gone) (old new : S) (unsent rest : List ℕ) → FlushOutcome failures moved old unsent result new rest
      → (written : List ℕ) × moved old written [] new × (unsent ++ [] ≡ written ++ rest)
  flushed (Ok _) old new unsent rest (written, m, is) = (written, m, append-nil unsent ∙ is)
  flushed (Err _) old new unsent rest (rose, m, is) = ([], m, append-nil unsent ∙ sym is)

  -- a stream that failed at a flush wrote nothing
  pub failed_at : (result : Result (Unit {0}) Gone) (gone : Gone) (old new : S) (unsent rest : List ℕ) → result ≡ Err gone
      → FlushOutcome failures moved old unsent result new rest → Rose (failures old) (failures new)
  failed_at (Ok _) gone old new unsent rest is does = absurd (cc)
  failed_at (Err _) gone old new unsent rest is does = does.0

module _ {S : Type 0} (offered : S → List ℕ → Flow → S → Type 0) where
  -- where less is asked of what waits
  pub offers_less : {A B : Type 0} → (A → B) → (old : S) (unsent : List ℕ) (refused : ℕ) (new : S) (left : ℕ) → Offers offered A old unsent refused new left
      → Offers offered B old unsent refused new left
  offers_less less old unsent refused new left (inl made) = inl made
  offers_less less old unsent refused new left (inr still) = inr (still.0, still.1, still.2, less still.3)

  -- what waits behind a read was offered before it, or may wait
  pub rests_offered : (old new : PortBytes S) (between : S) (written : List ℕ) → Offers offered (MayWait old.unsent old.quiet_reads) old.stream old.unsent old.refused between new.refused
      → old.unsent ≡ written ++ new.unsent → CountsRead old.quiet_reads new.quiet_reads → WasOffered offered new between
  rests_offered old new between written (inl made) is counts = inr (inr (old, made.0, made.1, made.2, made.3, written, is))
  rests_offered old new between written (inr still) is counts = still_waits old.unsent old.quiet_reads still.3 is counts where
    no_rest : (written rest : List ℕ) → written ++ rest ≡ [] → rest ≡ []
    no_rest [] rest none = none
    no_rest (byte ∷ written) rest none = absurd (cc)

    still_waits : (unsent : List ℕ) (quiet_reads : ℕ) → MayWait unsent quiet_reads → unsent ≡ written ++ new.unsent → CountsRead quiet_reads new.quiet_reads → WasOffered offered new between
    still_waits unsent quiet_reads (inl none) is counts = inl (no_rest written new.unsent (sym is ∙ none))
    still_waits unsent quiet_reads (inr few) is (inl next) = inr (inl (omega (arith, few, next)))
    still_waits unsent quiet_reads (inr few) is (inr many) = absurd (omega (arith, few, many.0))
