-- A step of a world, and its events one after another.
use Rattle.std.proofs.Common.{◌≡◌, ℕ, zero, suc, ◌+◌, ◌-◌, ◌<◌, ◌≤◌, get_or, List, [], ◌∷◌, ◌++◌, length, Some, Err, refl, sym, ap, ◌∙◌, subst, arith}
use Rattle.std.specs.Prelude.{take, drop, slice_get}
use Rattle.world_laws.specs.State.{WorldModel}
use Rattle.node_model.specs.Nodes.{ClusterModel}
use Rattle.node_model.specs.declared.role.Verdict.{Verdict}
use Rattle.world_laws.specs.Allowed.{Fits}
use Rattle.world_laws.specs.declared.state.LinkRequest.{LinkRequest}
use Rattle.world_laws.specs.declared.state.LinkRequest.TheVariants as request
use Rattle.world_laws.specs.World.{NamesNode, WorldStep, WorldRun, last_moment}
use Rattle.world_laws.specs.declared.event.Event.{Event}
use Rattle.cluster_world.specs.Machine.{MachineAnswers}
use Rattle.cluster_world.specs.Steps.{RefusedFor, Steps, Runs}
use Rattle.cluster_world.specs.declared.fault.WorldFault.{WorldFault}
use Rattle.cluster_world.specs.declared.fault.WorldFault.TheVariants.{NoMemory, NotNow}

-- a verdict fits as it did

pub fits-so : (w w' : WorldModel) (verdict : Verdict) (first : LinkRequest) → w'.cluster ≡ w.cluster → Fits w verdict first → Fits w' verdict first
fits-so w w' verdict request.Asking same fits = fits
fits-so w w' verdict (request.Runs tickets) same fits = subst (λ (k : ClusterModel). NamesNode k verdict) (sym same) fits

-- a refused event changes nothing

unchanged : (U : Type 0) (w w' : WorldModel) (e : Event) (fault : WorldFault) → MachineAnswers {U = U} w e (Err fault) w' → w' ≡ w
unchanged U w w' e NotNow h = h.1
unchanged U w w' e NoMemory h = h.1

less-one : (n : ℕ) → n + 1 - 1 ≡ n
less-one n = omega arith

pub undone : (U : Type 0) (w w' : WorldModel) (e : Event) (fault : WorldFault) → MachineAnswers {U = U} (record w { moment = w.moment + 1 }) e (Err fault) w' → record w' { moment = w'.moment - 1 } ≡ w
undone U w w' e fault h = ap (λ (v : WorldModel). record v { moment = v.moment - 1 }) (unchanged U (record w { moment = w.moment + 1 }) w' e fault h) ∙ ap (λ n. record w { moment = n }) (less-one w.moment)

pub one-later : (U : Type 0) (w w' : WorldModel) (e : Event) (fault : WorldFault) → MachineAnswers {U = U} (record w { moment = w.moment + 1 }) e (Err fault) w' → 1 ≤ w'.moment
one-later U w w' e fault h =
    let later : 1 ≤ w.moment + 1 = omega arith in
    subst (λ (v : WorldModel). 1 ≤ v.moment) (sym (unchanged U (record w { moment = w.moment + 1 }) w' e fault h)) later

pub refused-for : (U : Type 0) (w w' : WorldModel) (e : Event) (fault : WorldFault) → w.moment < last_moment → MachineAnswers {U = U} (record w { moment = w.moment + 1 }) e (Err fault) w' → RefusedFor w e fault
refused-for U w w' e NotNow lt h = λ v s. h.0 v s.1
refused-for U w w' e NoMemory lt h = (h.0.0, (lt, h.0.1))

-- events, one after another

pub run-on : (w mid w' : WorldModel) (es : List Event) (e : Event) → WorldRun w es mid → WorldStep mid e w' → WorldRun w (es ++ e ∷ []) w'
run-on w mid w' [] e r s = (w', subst (λ (v : WorldModel). WorldStep v e w') r s, refl)
run-on w mid w' (x ∷ es) e r s = (r.0, r.1, run-on r.0 mid w' es e r.2 s)

pub joined : (done rest : List Event) (e : Event) → (done ++ e ∷ []) ++ rest ≡ done ++ e ∷ rest
joined [] rest e = refl
joined (x ∷ done) rest e = ap (λ es. x ∷ es) (joined done rest e)

pub one-more : (done : List Event) (e : Event) → length (done ++ e ∷ []) ≡ length done + 1
one-more [] e = refl
one-more (x ∷ done) e = omega (arith, one-more done e)

taken : (done rest : List Event) → take (length done) (done ++ rest) ≡ done
taken [] rest = refl
taken (x ∷ done) rest = ap (λ es. x ∷ es) (taken done rest)

next : (done rest : List Event) (e : Event) → slice_get (done ++ e ∷ rest) (length done) ≡ Some e
next [] rest e = refl
next (x ∷ done) rest e = next done rest e

-- the first that is refused
pub stops : (U : Type 0) (w mid w' : WorldModel) (es done rest : List Event) (e : Event) (number : ℕ) (why : WorldFault) → done ++ e ∷ rest ≡ es → length done + 1 ≡ number → WorldRun w done mid → Steps {U = U} mid e (Err why) w'
    → Runs {U = U} w es (Err (record { number = number; why = why })) w'
stops U w mid w' es done rest e number why is count r s =
    let place : length done ≡ number - 1 = omega (arith, count) in
    let same : w' ≡ mid = s.1 in (
      e,
      omega (arith, count),
      subst (λ (p : ℕ × List Event). slice_get p.1 p.0 ≡ Some e) (λ i. (place i, is i)) (next done rest e),
      subst (λ (p : ℕ × List Event). WorldRun w (take p.0 p.1) w') (λ i. (place i, is i)) (subst (λ (xs : List Event). WorldRun w xs w') (sym (taken done (e ∷ rest))) (subst (WorldRun w done) (sym same) r)),
      subst (λ (v : WorldModel). RefusedFor v e why) (sym same) s.0,
    )

-- a list by its first event
pub by-first : {X : Type 0} (xs : List X) (x : X) → 1 ≤ length xs → x ≡ get_or xs 0 x → xs ≡ x ∷ take (length xs - 1) (drop 1 xs)
by-first [] x lt is = absurd (omega (arith, lt))
by-first (y ∷ ys) x lt is = λ i. sym is i ∷ whole ys (suc (length ys) - 1) (omega arith) i
  where
    whole : {X : Type 0} (ys : List X) (n : ℕ) → n ≡ length ys → ys ≡ take n ys
    whole [] zero e = refl
    whole [] (suc n) e = refl
    whole (y ∷ ys) zero e = absurd (omega (arith, e))
    whole (y ∷ ys) (suc n) e = ap (λ zs. y ∷ zs) (whole ys n (omega (arith, e)))

pub none-left : {X : Type 0} (xs : List X) → length xs < 1 → xs ≡ []
none-left [] lt = refl
none-left (x ∷ xs) lt = absurd (omega (arith, lt))
