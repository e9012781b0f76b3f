-- Takings empty what came down, whatever came.
use Rattle.std.proofs.Common.{◌≡◌, ℕ, ◌==◌, Bool, true, false, List, [], ◌∷◌, Some, refl, sym, ap, ◌∙◌, subst, arith}
use Rattle.std.specs.Prelude.{slice_get, slice_set, remove, if◌then◌else◌}
use Rattle.std.specs.List.{position_from}
use Rattle.std.proofs.lemmas.Iterator.Adapters.{position_from-zero}
use Rattle.key_split.specs.declared.travel.Ticket.{Ticket}
use Rattle.key_split.specs.declared.travel.Told.{Told}
use Rattle.world_laws.specs.State.{WorldModel, after_told}
use Rattle.world_laws.specs.declared.state.Arrival.{Arrival}
use Rattle.world_laws.specs.World.{WorldDoes, IsFirst, IsOf}
use Rattle.world_laws.specs.declared.event.Event.{Event}
use Rattle.world_laws.specs.declared.event.Event.TheVariants.{Take}
use Rattle.world_laws.proofs.Placed.{Standing}
use Rattle.world_laws.proofs.Lives.{ticket-is}
use Rattle.world_laws.proofs.Allowed.{awaited, found, down-here, ticked as placed-ticked}
use Rattle.shared_laws.specs.Shared.{Step}
use Rattle.shared_laws.proofs.SharedRuns.{Steady, does-steady, steady-stands}
use Rattle.turn_laws.specs.Walks.{ticked, Walk}
use Rattle.turn_laws.specs.Settling.{Tells, TellsAll, Settles, Settling, SettlingAfter}
use Rattle.turn_laws.proofs.Tables.{same_number}
use Rattle.turn_laws.proofs.Walks.{walked-on, walked-steady}

-- the first passes
at-front : {X : Type 0} (p : X → Bool) (x : X) (xs : List X) → p x ≡ true → IsFirst p (x ∷ xs) 0 x
at-front {X} p x xs e = (position_from-zero p (x ∷ xs) ∙ go (p x) e, refl)
  where
    go : (b : Bool) → b ≡ true → (if b then Some 0 else position_from p 1 xs) ≡ Some 0
    go true e = refl
    go false e = absurd (cc)

-- the first of what came down is taken
taken : (w : WorldModel) → Standing w → (p : Ticket × Told) (ps : List (Ticket × Told)) → w.downs ≡ p ∷ ps
    → (commands : List Arrival) × Tells w.commands p commands
    × WorldDoes (ticked w) (Take p.0.worker) (record (ticked w) { downs = ps; commands = commands })
taken w s p ps e =
    let h : Standing (ticked w) = placed-ticked w s in
    let at : slice_get w.downs 0 ≡ Some p = ap (λ (xs : List (Ticket × Told)). slice_get xs 0) e in
    let a = awaited (ticked w) h p.0 (omega (arith, h.place p.0, down-here (ticked w) 0 p.0 p.1 at)) in
    let o = found (ticked w) h p.0 a.0 a.1 a.2 a.4 in
    let same : (a.1).command.ticket ≡ p.0 = ticket-is p.0 (a.1).command.ticket a.4 in
    let front : IsFirst (λ (x : Ticket × Told). x.0.worker == p.0.worker) w.downs 0 p =
    subst (λ xs. IsFirst (λ (x : Ticket × Told). x.0.worker == p.0.worker) xs 0 p) (sym e) (at-front (λ (x : Ticket × Told). x.0.worker == p.0.worker) p ps (same_number p.0.worker)) in
    let gone : remove w.downs 0 ≡ ps = ap (λ (xs : List (Ticket × Told)). remove xs 0) e ∙ refl in (
      slice_set w.commands o.0 (after_told a.1 p.1),
      (o.0, a.1, o.1, same, a.3, refl),
      (
        0,
        o.0,
        a.1,
        p.1,
        subst (λ (u : Ticket). IsFirst (λ (x : Ticket × Told). x.0.worker == p.0.worker) w.downs 0 (u, p.1)) (sym same) front,
        subst (λ (u : Ticket). IsOf u w.commands o.0 a.1) (sym same) o.1,
        a.3,
        λ i. record (ticked w) { downs = sym gone i; commands = slice_set w.commands o.0 (after_told a.1 p.1) },
      ),
    )

settled : (n : ℕ) (ps : List (Ticket × Told)) (w : WorldModel) → Steady n w → w.downs ≡ ps
    → (events : List Event) × (w' : WorldModel) × Walk w events w'
    × ((commands : List Arrival) × (moment : ℕ) × TellsAll w.commands ps commands × (w' ≡ record w { commands = commands; downs = []; moment = moment }))
settled n [] w s e = ([], w, refl, (w.commands, w.moment, refl, λ i. record w { downs = e i }))
settled n (p ∷ ps) w s e =
    let t = taken w (steady-stands n w s) p ps e in
    let mid : WorldModel = record (ticked w) { downs = ps; commands = t.0 } in
    let r = settled n ps mid (does-steady n (Step.Ours (Take p.0.worker)) w mid s t.2) refl in
    (Take p.0.worker ∷ r.0, r.1, (mid, t.2, r.2), (r.3.0, r.3.1, (t.0, t.1, r.3.2), r.3.3))

pub settles : (n : ℕ) (w : WorldModel) → Steady n w → (events : List Event) × (w' : WorldModel) × Walk w events w' × Settles w w'
settles n w s = settled n w.downs w s refl

pub settling : Settling
settling w h = settles h.0 w (walked-steady w h)

pub settling-after : SettlingAfter
settling-after w mid event h d =
    let r = settles h.0 mid (does-steady h.0 (Step.Ours event) w mid (walked-steady w h) d) in
    (r.0, r.1, (mid, d, r.2), r.3, walked-on w r.1 (event ∷ r.0) h (mid, d, r.2))
