-- Where commands stand and in which order, as one of them goes on or one more arrives.
use Rattle.std.proofs.Common.{◌≡◌, ◌≢◌, ◌⊎◌, inl, inr, ⊎_elim, ℕ, ◌==◌, true, false, List, [], ◌∷◌, ◌++◌, Some, refl, sym, ap, ◌∙◌, subst, arith, length}
use Rattle.std.specs.Prelude.{slice_get, slice_set}
use Rattle.std.proofs.lemmas.Option.{slice_get_within}
use Rattle.std.proofs.lemmas.Bool.Decides.{eqb_tells}
use Rattle.key_split.specs.declared.travel.Ticket.{Ticket}
use Rattle.session_order.specs.SessionModel.{SessionModel}
use Rattle.session_order.specs.Steps.{IsHandedOut}
use Rattle.world_laws.specs.State.{HasEnded, slot_for}
use Rattle.world_laws.specs.declared.state.Arrival.{Arrival}
use Rattle.world_laws.proofs.Recorded.{at-set, set-same, set-other, at-last, before-last}
use Rattle.turn_laws.specs.Shadow.{StandsAt, IsInOrder}

-- the command goes on: it is of the same part, and an end stays
abbrev pub GoesOn : Arrival → Arrival → Type 0
GoesOn x y = (y.command.ticket ≡ x.command.ticket) × (y.command.part ≡ x.command.part) × (HasEnded x → HasEnded y)

pub was-there : (xs : List Arrival) (j : ℕ) (x y : Arrival) → slice_get xs j ≡ Some x → GoesOn x y → (i : ℕ) (c : Arrival) → slice_get (slice_set xs j y) i ≡ Some c
    → (d : Arrival) × (slice_get xs i ≡ Some d) × GoesOn d c
was-there xs j x y at on i c q = ⊎_elim
    (λ (z : (i ≡ j) × (c ≡ y)). (x, ap (slice_get xs) z.0 ∙ at, subst (GoesOn x) (sym z.1) on))
    (λ (z : (i ≢ j) × (slice_get xs i ≡ Some c)). (c, z.1, (refl, refl, λ h. h)))
    (at-set xs j y i c q)

pub still-stands : (xs : List Arrival) (j : ℕ) (x y : Arrival) → slice_get xs j ≡ Some x → y.command.ticket ≡ x.command.ticket → (t : Ticket) → StandsAt xs t → StandsAt (slice_set xs j y) t
still-stands xs j x y at e t h = ⊎_elim
    (λ (z : ((h.0 == j) ≡ true) × (h.0 ≡ j)).
    let one : Some (h.1) ≡ Some x = sym h.2 ∙ ap (slice_get xs) z.1 ∙ at in
    let same : h.1 ≡ x = cc in
    (j, y, set-same xs j x y at, e ∙ sym (ap (λ (c : Arrival). c.command.ticket) same) ∙ h.3))
    (λ (z : ((h.0 == j) ≡ false) × (h.0 ≢ j)). (h.0, h.1, set-other xs j y h.0 h.1 z.1 h.2, h.3))
    (eqb_tells h.0 j)

pub order-set : (held : SessionModel) (xs : List Arrival) (j : ℕ) (x y : Arrival) → slice_get xs j ≡ Some x → GoesOn x y → (t : Ticket) → IsInOrder held xs t → IsInOrder held (slice_set xs j y) t
order-set held xs j x y at on t h a b c d p q lt one turn =
    let u = was-there xs j x y at on a c p in
    let v = was-there xs j x y at on b d q in
    ⊎_elim
    (λ (e : HasEnded v.0). inl (v.2.2 e))
    (λ (o : IsHandedOut held (v.0).command.ticket). inr (subst (IsHandedOut held) (sym v.2.0) o))
    (h a b u.0 v.0 u.1 v.1 lt (sym u.2.0 ∙ one) (ap (λ (z : Ticket). z.client) (sym v.2.0) ∙ turn.0 ∙ ap (λ (z : Ticket). z.client) u.2.0, ap slot_for (sym v.2.1) ∙ turn.1 ∙ ap slot_for u.2.1))

-- the session goes on: what it awaited it awaits, or it has ended
pub order-on : (held next : SessionModel) (xs : List Arrival) → ((j : ℕ) (d : Arrival) → slice_get xs j ≡ Some d → IsHandedOut held d.command.ticket → HasEnded d ⊎ IsHandedOut next d.command.ticket)
    → (t : Ticket) → IsInOrder held xs t → IsInOrder next xs t
order-on held next xs on t h a b c d p q lt one turn = ⊎_elim (λ (e : HasEnded d). inl e) (λ (o : IsHandedOut held d.command.ticket). on b d q o) (h a b c d p q lt one turn)

pub stands-more : (xs : List Arrival) (y : Arrival) (t : Ticket) → StandsAt xs t → StandsAt (xs ++ y ∷ []) t
stands-more xs y t h = (h.0, h.1, before-last xs (y ∷ []) h.0 h.1 h.2, h.3)

pub order-more : (held : SessionModel) (xs : List Arrival) (y : Arrival) (t : Ticket) → (y.command.ticket ≡ t → ⊥) → IsInOrder held xs t → IsInOrder held (xs ++ y ∷ []) t
order-more held xs y t ne h a b c d p q lt one turn = ⊎_elim
    (λ (z : slice_get xs a ≡ Some c). ⊎_elim
    (λ (v : slice_get xs b ≡ Some d). h a b c d z v lt one turn)
    (λ (v : (b ≡ length xs) × (d ≡ y)). let within = slice_get_within xs a c z in absurd (omega (arith, v.0, lt, within)))
    (at-last xs y b d q))
    (λ (z : (a ≡ length xs) × (c ≡ y)). absurd (ne (ap (λ (x : Arrival). x.command.ticket) (sym z.1) ∙ one)))
    (at-last xs y a c p)
