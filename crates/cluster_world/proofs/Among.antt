-- Whether a ticket is among others.
use Rattle.std.proofs.Common.{◌≡◌, ◌≤◌, ◌-◌, zero, suc, List, [], ◌∷◌, Some, length, refl, sym, ap, ◌∙◌, subst, arith}
use Rattle.std.specs.Prelude.{slice_get, slice_index_or, take, drop}
use Rattle.key_split.specs.declared.travel.Ticket.{Ticket}
use Rattle.world_laws.specs.World.{IsAmong}
use Rattle.cluster_world.proofs.Stepping.{by-first}

pub head-among : (rest tail : List Ticket) (x t : Ticket) → rest ≡ x ∷ tail → t ≡ x → IsAmong rest t
head-among rest tail x t first same = (0, ap (λ (ts : List Ticket). slice_get ts 0) first ∙ ap Some (sym same))

pub tail-among : (rest tail : List Ticket) (x t : Ticket) → rest ≡ x ∷ tail → IsAmong tail t → IsAmong rest t
tail-among rest tail x t first a = (suc a.0, ap (λ (ts : List Ticket). slice_get ts (suc a.0)) first ∙ a.1)

pub among-tail : (rest tail : List Ticket) (x t : Ticket) → rest ≡ x ∷ tail → (t ≡ x → ⊥) → IsAmong rest t → IsAmong tail t
among-tail rest tail x t first other a = go (subst (λ (ts : List Ticket). IsAmong ts t) first a)
  where
    go : IsAmong (x ∷ tail) t → IsAmong tail t
    go (zero, at) = absurd (other (let same : x ≡ t = cc in sym same))
    go (suc k, at) = (k, at)

pub none-among : (rest : List Ticket) (t : Ticket) → rest ≡ [] → IsAmong rest t → ⊥
none-among rest t none a = let at : slice_get [] a.0 ≡ Some t = ap (λ (ts : List Ticket). slice_get ts a.0) (sym none) ∙ a.1 in cc

-- the first of what is left of a run
abbrev pub head_of : List Ticket → Ticket
head_of rest = slice_index_or rest 0 (record { worker = 0; client = 0; part = 0 })

pub by-head : (rest : List Ticket) → 1 ≤ length rest → rest ≡ head_of rest ∷ take (length rest - 1) (drop 1 rest)
by-head [] lt = absurd (omega (arith, lt))
by-head (t ∷ ts) lt = by-first (t ∷ ts) t lt refl
