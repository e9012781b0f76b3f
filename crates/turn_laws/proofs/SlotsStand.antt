-- The slots of a new cluster stand at its nodes, and each step of a system leaves them so.
use Rattle.std.proofs.Common.{◌≡◌, inl, inr, ℕ, suc, ◌<◌, ◌==◌, Bool, true, false, cond, List, [], ◌∷◌, Option, Some, None, length, refl, sym, ap, ◌∙◌, subst, arith}
use Rattle.std.specs.Prelude.{All, IfSome, IsSome, nat_lt, unwrap_or}
use Rattle.std.proofs.lemmas.Bool.Decides.{nat_tests}
use Rattle.std.proofs.lemmas.List.Elements.{All-cons, All-nil}
use Rattle.resp_wire.specs.declared.value.Value.{Value}
use Rattle.slot_map.specs.Table.{Endpoint}
use Rattle.node_model.specs.Moves.{move_key_done, phase_at}
use Rattle.node_model.specs.Nodes.{ClusterModel, one_of, standing_at, with_standing}
use Rattle.node_model.specs.Runs.{deed_for}
use Rattle.node_model.specs.Standings.{SlotStandingModel, after_own, after_release, imported, in_phase, now_sends, released, settled_at, stayed}
use Rattle.node_model.specs.declared.role.Verdict.{Verdict}
use Rattle.node_model.specs.declared.standing.Phase.{Phase}
use Rattle.node_model.specs.declared.standing.Phase.TheVariants.{Migrated, Forgotten}
use Rattle.world_laws.specs.declared.event.Event.{Event}
use Rattle.world_laws.specs.declared.event.Event.TheVariants as core
use Rattle.world_laws.proofs.Nodes.{pick-slot, runs-size, runs-slots, set-size}
use Rattle.turn_laws.specs.Wire.{Wire, Execution, ServesNext, ServesRun, parts_in}
use Rattle.turn_laws.specs.System.{System}
use Rattle.turn_laws.specs.Steps.{AtWorker, AtCarrier, Handed, AtNode, AtBroken, Thrown, Moved, MovesOn}
use Rattle.turn_laws.specs.Writing.{NewSlotsStand, SlotsStay, StandsAmong, StandsAtItsNodes}

-- the second of a pair is below a count
abbrev Among : ℕ → ℕ × ℕ → Type 0
Among count pair = pair.1 < count

-- ---- a new cluster

settled-among : (count owner : ℕ) → owner < count → StandsAmong count (settled_at owner)
settled-among count owner h = record { target = h; source = h; first = h; sends = All-nil (Among count) }

owned-among : (count : ℕ) (o : Option ℕ) (s : SlotStandingModel) → IsSome (one_of count o) → IfSome (one_of count o) (λ owner. s ≡ settled_at owner) → StandsAmong count s
owned-among count None s owned at = absurd (cc)
owned-among count (Some owner) s owned at = go (nat_lt owner count) refl owned at
  where
    go : (b : Bool) → nat_lt owner count ≡ b → IsSome (cond b (Some owner) None) → IfSome (cond b (Some owner) None) (λ n. s ≡ settled_at n) → StandsAmong count s
    go true is owned here = subst (StandsAmong count) (sym here) (settled-among count owner (grind (arith, nat_tests, is)))
    go false is owned here = absurd (cc)

pub new-slots-stand : NewSlotsStand
new-slots-stand count owners k has h slot small =
    subst (λ (n : ℕ). StandsAmong n (standing_at k slot)) (sym h.all_nodes) (owned-among count (owners slot) (standing_at k slot) (has.2 slot small) (h.settled slot small))

-- ---- what a step leaves

phased : (count : ℕ) (s : SlotStandingModel) (phase : Phase) → StandsAmong count s → StandsAmong count (in_phase s phase)
phased count s phase h = record { target = h.target; source = h.source; first = h.first; sends = h.sends }

later : (count : ℕ) (pair : ℕ × ℕ) (sends : List (ℕ × ℕ)) → All (Among count) (pair ∷ sends) → All (Among count) sends
later count pair sends all i d lt = all (suc i) d (omega (arith, lt))

now-among : (count node to : ℕ) (sends : List (ℕ × ℕ)) → to < count → All (Among count) sends → All (Among count) (now_sends sends node to)
now-among count node to [] h all = All-cons (Among count) (node, to) [] h all
now-among count node to (pair ∷ sends) h all = go (pair.0 == node) (now-among count node to sends h (later count pair sends all))
  where
    go : (b : Bool) → All (Among count) (now_sends sends node to) → All (Among count) (cond b ((node, to) ∷ sends) (pair ∷ now_sends sends node to))
    go true more = All-cons (Among count) (node, to) sends h (later count pair sends all)
    go false more = All-cons (Among count) pair (now_sends sends node to) (all 0 pair (omega arith)) more

import-among : (count : ℕ) (s : SlotStandingModel) (target : ℕ) → target < count → StandsAmong count s → StandsAmong count (imported s target)
import-among count s target new h = record { target = new; source = h.target; first = h.first; sends = h.sends }

release-among : (count : ℕ) (s : SlotStandingModel) (phase : Phase) → StandsAmong count s → StandsAmong count (released s phase)
release-among count s phase h = record { target = h.target; source = h.source; first = h.first; sends = now-among count s.source s.target s.sends h.target h.sends }

stay-among : (count : ℕ) (s : SlotStandingModel) → StandsAmong count s → StandsAmong count (stayed s)
stay-among count s h = record { target = h.source; source = h.source; first = h.first; sends = now-among count s.target s.source s.sends h.source h.sends }

-- one slot changes
slotted : (k : ClusterModel) (slot : ℕ) (s : SlotStandingModel) → (StandsAmong (length k.stores) (standing_at k slot) → StandsAmong (length k.stores) s) → StandsAtItsNodes k
    → StandsAtItsNodes (with_standing k slot s)
slotted k slot s new h other small =
    pick-slot (StandsAmong (length k.stores)) k slot s other (λ same. new (h slot (subst (λ (n : ℕ). n < 16384) (sym same) small))) (h other small)

-- no slot changes, and the nodes are as many
same-slots : (k k' : ClusterModel) → k'.slots ≡ k.slots → length k'.stores ≡ length k.stores → StandsAtItsNodes k → StandsAtItsNodes k'
same-slots k k' slots size h slot small =
    subst (λ (ss : List SlotStandingModel). StandsAmong (length k'.stores) (standing_at (record k { slots = ss }) slot)) (sym slots)
    (subst (λ (n : ℕ). StandsAmong n (standing_at k slot)) (sym size) (h slot small))

-- where a run was served, and where what is next of a connection was
pub run-stands : (table : List Endpoint) (k : ClusterModel) (node : ℕ) (old : Wire) (v : Verdict) (k' : ClusterModel) (new : Wire) (values : List Value) (done : List Execution)
    → ServesRun table k node old v k' new values done → StandsAtItsNodes k → StandsAtItsNodes k'
run-stands table k node old v k' new values done x h =
    let deed = deed_for k node old.asking (parts_in x.1) v in
    same-slots k k' (runs-slots k k' node (parts_in x.1) deed x.2 x.5) (runs-size k k' node (parts_in x.1) deed x.2 x.5) h

served : (table : List Endpoint) (k : ClusterModel) (old : Wire) (v : Verdict) (k' : ClusterModel) (new : Wire) (values : List Value) (done : List Execution)
    → ServesNext table k old v k' new values done → StandsAtItsNodes k → StandsAtItsNodes k'
served table k old v k' new values done serves h = go serves
  where
    go : ServesNext table k old v k' new values done → StandsAtItsNodes k'
    go (inl x) = subst StandsAtItsNodes (sym x.4) h
    go (inr (inl x)) = run-stands table k old.node old v k' new values done x h
    go (inr (inr x)) = subst StandsAtItsNodes (sym x.4) h

module _ {C J : Type 0} (s : System C J) where
  moved : (event : Event) (k : ClusterModel) → MovesOn s event k → StandsAtItsNodes s.cluster → StandsAtItsNodes k
  moved (core.Import slot target) k on h =
      subst StandsAtItsNodes (sym on.2) (slotted s.cluster slot (imported (standing_at s.cluster slot) target) (import-among (length s.cluster.stores) (standing_at s.cluster slot) target on.1.1) h)
  moved (core.Migrate slot) k on h =
      subst StandsAtItsNodes (sym on.1) (slotted s.cluster slot (in_phase (standing_at s.cluster slot) Migrated) (phased (length s.cluster.stores) (standing_at s.cluster slot) Migrated) h)
  moved (core.MoveKey slot key) k on h =
      subst StandsAtItsNodes (sym on.1) (same-slots s.cluster (move_key_done s.cluster slot key) refl (set-size _ _ _ ∙ set-size _ _ _) h)
  moved (core.Own slot) k on h =
      let phase = unwrap_or (after_own (phase_at s.cluster slot)) (phase_at s.cluster slot) in
      subst StandsAtItsNodes (sym on.1) (slotted s.cluster slot (in_phase (standing_at s.cluster slot) phase) (phased (length s.cluster.stores) (standing_at s.cluster slot) phase) h)
  moved (core.Release slot) k on h =
      let phase = unwrap_or (after_release (phase_at s.cluster slot)) (phase_at s.cluster slot) in
      subst StandsAtItsNodes (sym on.1) (slotted s.cluster slot (released (standing_at s.cluster slot) phase) (release-among (length s.cluster.stores) (standing_at s.cluster slot) phase) h)
  moved (core.Forget slot) k on h =
      subst StandsAtItsNodes (sym on.1) (slotted s.cluster slot (in_phase (standing_at s.cluster slot) Forgotten) (phased (length s.cluster.stores) (standing_at s.cluster slot) Forgotten) h)
  moved (core.Stay slot) k on h =
      subst StandsAtItsNodes (sym on.1) (slotted s.cluster slot (stayed (standing_at s.cluster slot)) (stay-among (length s.cluster.stores) (standing_at s.cluster slot)) h)
  moved (core.Arrive client part) k on h = absurd on
  moved (core.Post ticket node) k on h = absurd on
  moved (core.Carry lane link) k on h = absurd on
  moved (core.Refuse lane) k on h = absurd on
  moved (core.Serve link verdict) k on h = absurd on
  moved (core.Fetch link) k on h = absurd on
  moved (core.Take lane) k on h = absurd on
  moved (core.Drop link) k on h = absurd on
  moved (core.Discard link) k on h = absurd on
  moved (core.Answer client) k on h = absurd on

module _ (C J : Type 0) where
  pub slots-stay : SlotsStay C J
  slots-stay (AtWorker k event) s s' on h = subst StandsAtItsNodes (sym (ap (λ (x : System C J). x.cluster) on.leaves)) h
  slots-stay (AtCarrier event) s s' on h = subst StandsAtItsNodes (sym (ap (λ (x : System C J). x.cluster) on.leaves)) h
  slots-stay (Handed k number) s s' on h = subst StandsAtItsNodes (sym (ap (λ (x : System C J). x.cluster) on.4)) h
  slots-stay (AtNode k v) s s' on h = served s.nodes s.cluster (on.1).port v s'.cluster on.2 on.3 on.4 on.8 h
  slots-stay (AtBroken j v) s s' on h = served s.nodes s.cluster on.0 v s'.cluster on.1 on.2 on.3 on.5 h
  slots-stay (Thrown j) s s' on h = subst StandsAtItsNodes (sym (ap (λ (x : System C J). x.cluster) on.2)) h
  slots-stay (Moved event) s s' on h = moved s event s'.cluster on.0 h
