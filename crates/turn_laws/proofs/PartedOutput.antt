-- That a client parts takes no byte, and owes it none.
use Rattle.std.proofs.Common.{◌≡◌, ◌≢◌, ⊎_elim, ℕ, Bool, true, false, List, [], ◌∷◌, ◌++◌, Some, refl, sym, ap, ◌∙◌, subst}
use Rattle.std.specs.Prelude.{nat_eq, if◌then◌else◌}
use Rattle.std.specs.List.{flat_map}
use Rattle.std.specs.FinMap.{get}
use Rattle.std.proofs.lemmas.Bool.{false≢true}
use Rattle.std.proofs.lemmas.Grind.{flat_map-append}
use Rattle.std.proofs.lemmas.List.{append-nil}
use Rattle.key_split.specs.declared.travel.Ticket.{Ticket}
use Rattle.key_split.specs.declared.travel.Ended.{Ended}
use Rattle.proxy_turns.specs.ClientModel.{ClientModel, IsClientServed}
use Rattle.proxy_turns.specs.ClientTurn.{ClientContext, Parted}
use Rattle.proxy_turns.specs.WorkerModel.{WorkerModel, WorkerEvent, Did}
use Rattle.turn_laws.specs.ClientSees.{if_own, bytes_from, bytes_to, ends_for}
use Rattle.turn_laws.specs.ClientOutput.{PartingOwesNothing}
use Rattle.turn_laws.proofs.OutputFronts.{IsFront, IsWhole}
use Rattle.turn_laws.proofs.Tables.{put-apart}

none-seen : (number other : ℕ) → if_own {X = ℕ} number other [] ≡ []
none-seen number other = either-none (nat_eq other number)
  where
    either-none : (b : Bool) → ◌≡◌ {A = List ℕ} (if b then [] else []) []
    either-none true = refl
    either-none false = refl

-- the same lists, by other words
alter : (P : List ℕ → List (Ticket × Ended) → List ℕ → Type 0) (came came' : List ℕ) (ends ends' : List (Ticket × Ended)) (went went' : List ℕ)
    → came' ≡ came → ends' ≡ ends → went' ≡ went → P came ends went → P came' ends' went'
alter P came came' ends ends' went went' p q r h =
    subst (λ ws. P came' ends' ws) (sym r) (subst (λ es. P came' es went) (sym q) (subst (λ cs. P cs ends went) (sym p) h))

module _ (C J : Type 0) where
  pub parting-owes-nothing : PartingOwesNothing C J
  parting-owes-nothing events number old new written d = record { front = λ n. as-before IsFront n (written.front n); whole = whole }
    where
      event : WorkerEvent
      event = Did number Parted

      came : (n : ℕ) → flat_map (bytes_from n) (events ++ event ∷ []) ≡ flat_map (bytes_from n) events
      came n =
          flat_map-append (bytes_from n) events (event ∷ []) ∙ ap (λ bytes. flat_map (bytes_from n) events ++ (bytes ++ [])) (none-seen n number)
          ∙ append-nil (flat_map (bytes_from n) events)

      went : (n : ℕ) → flat_map (bytes_to n) (events ++ event ∷ []) ≡ flat_map (bytes_to n) events
      went n =
          flat_map-append (bytes_to n) events (event ∷ []) ∙ ap (λ bytes. flat_map (bytes_to n) events ++ (bytes ++ [])) (none-seen n number)
          ∙ append-nil (flat_map (bytes_to n) events)

      ends : (n : ℕ) → flat_map (ends_for n) (events ++ event ∷ []) ≡ flat_map (ends_for n) events
      ends n = flat_map-append (ends_for n) events (event ∷ []) ∙ append-nil (flat_map (ends_for n) events)

      as-before : (P : List ℕ → List (Ticket × Ended) → List ℕ → Type 0) (n : ℕ) → P (flat_map (bytes_from n) events) (flat_map (ends_for n) events) (flat_map (bytes_to n) events)
          → P (flat_map (bytes_from n) (events ++ event ∷ [])) (flat_map (ends_for n) (events ++ event ∷ [])) (flat_map (bytes_to n) (events ++ event ∷ []))
      as-before P n h = alter P _ _ _ _ _ _ (came n) (ends n) (went n) h

      is-gone : (d.1).gone ≡ true
      is-gone = ap (λ (x : ClientContext C). x.client.gone) d.3.3

      whole : (n : ℕ) (client : ClientModel C) → get new.clients n ≡ Some client → client.gone ≡ false → IsClientServed client
          → IsWhole (flat_map (bytes_from n) (events ++ event ∷ [])) (flat_map (ends_for n) (events ++ event ∷ [])) (flat_map (bytes_to n) (events ++ event ∷ []))
      whole n client at still served = ⊎_elim
          (λ (z : (n ≡ number) × (client ≡ d.1)). absurd (false≢true (sym still ∙ ap (λ (x : ClientModel C). x.gone) z.1 ∙ is-gone)))
          (λ (z : (n ≢ number) × (get old.clients n ≡ Some client)). as-before IsWhole n (written.whole n client z.1 still served))
          (put-apart old.clients number d.1 n client (sym (ap (λ (x : WorkerModel C J). get x.clients n) d.4) ∙ at))
