-- The start of the script, how the carrier reaches the first node, and a move that is called back.
use Rattle.std.proofs.Common.{◌≡◌, inl, inr, ℕ, zero, suc, Bool, true, false, List, [], ◌∷◌, Some, None, Ok, refl, sym, ap, ◌∙◌, subst, arith, length}
use Rattle.std.specs.Prelude.{slice_get, Option, IsSome, unwrap_or}
use Rattle.std.specs.List.{FoldsTo}
use mathlib.Core.List.{IsPrefix}
use Rattle.std.specs.FinMap.{empty, get, get-empty}
use Rattle.std.specs.Ordering.{nat_cmp}
use Rattle.key_split.specs.declared.travel.Ticket.{Ticket}
use Rattle.command_future.specs.CommandModel.{CommandModel}
use Rattle.node_link.specs.LinkModel.{LinkModel}
use Rattle.std.specs.Cmp.Lexicographic.{slice_cmp}
use Rattle.resp_wire.specs.declared.value.Value.TheVariants.{Array}
use Rattle.slot_map.specs.Table.{Endpoint}
use Rattle.node_model.specs.Nodes.{ClusterModel}
use Rattle.world_laws.specs.Headline.{IsNew}
use Rattle.node_link.specs.declared.link.Due.TheVariants as due
use Rattle.proxy_lanes.specs.declared.ends.lane_ends.LaneEnds.{LaneEnds}
use Rattle.proxy_turns.specs.declared.newcomer.Newcomer.{Newcomer}
use Rattle.proxy_turns.specs.declared.backend.Backend.{Backend}
use Rattle.proxy_turns.specs.Backend.{new_backend}
use Rattle.proxy_turns.specs.PendingRun.{no_pending_run}
use Rattle.proxy_turns.specs.WorkerModel.{WorkerModel}
use Rattle.proxy_turns.specs.CarrierModel.{CarrierModel}
use Rattle.turn_laws.specs.Wire.{Wire, Lists, new_wire}
use Rattle.turn_laws.specs.System.{System, Mark, IsInStep, between}
use Rattle.turn_laws.specs.Endpoints.{AreApart}
use Rattle.turn_laws.specs.Underway.{DownInStep, Holds, down_in, ups_in}
use Rattle.turn_laws.specs.Asking.{NoneAsksIn, NoneBehindAsking}
use Rattle.turn_laws.specs.Steps.{SystemStep}
use Rattle.turn_laws.specs.Refines.{IsStart}
use Rattle.turn_laws.specs.Scripts as script
use Rattle.turn_laws.proofs.Elements.{nothing-there}
use Rattle.turn_laws.proofs.Rings.{takes-none}
use Rattle.turn_laws.proofs.Scenes.{scene, at-worker, at-carrier, down-in}
use Rattle.world_laws.proofs.Sound.{new-sound}
use Rattle.turn_laws.proofs.ScriptFacts.{table, seed_alone, new, k0, k1, k2, k3, k4, k5}
use Rattle.turn_laws.proofs.ScriptStates.{new_lane, carrier, worker, wire, link}

-- the one item of a list
pub only-one : {X : Type 0} (P : ℕ → X → Type 0) (x : X) → P 0 x → (k : ℕ) (y : X) → slice_get (x ∷ []) k ≡ Some y → P k y
only-one P x h zero y e = subst (P 0) (ap (λ o. unwrap_or o x) e) h
only-one P x h (suc k) y e = absurd (nothing-there k y e)

pub apart : AreApart table
apart zero zero at e f = refl
apart zero (suc zero) at e f = absurd (omega (arith, ap (λ (o : Option Endpoint). (unwrap_or o at).port) (e ∙ sym f)))
apart (suc zero) zero at e f = absurd (omega (arith, ap (λ (o : Option Endpoint). (unwrap_or o at).port) (e ∙ sym f)))
apart (suc zero) (suc zero) at e f = refl
apart zero (suc (suc j)) at e f = absurd (nothing-there j at f)
apart (suc zero) (suc (suc j)) at e f = absurd (nothing-there j at f)
apart (suc (suc i)) j at e f = absurd (nothing-there i at e)

pub seed-first : IsPrefix seed_alone table
seed-first = (_, refl)

-- both items of a list
two-of : {X : Type 0} (P : X → Type 0) (x y : X) → P x → P y → (k : ℕ) (z : X) → slice_get (x ∷ y ∷ []) k ≡ Some z → P z
two-of P x y p q zero z e = let one : x ≡ z = (let o : Some x ≡ Some z = e in cc) in subst P one p
two-of P x y p q (suc zero) z e = let one : y ≡ z = (let o : Some y ≡ Some z = e in cc) in subst P one q
two-of P x y p q (suc (suc k)) z e = absurd (nothing-there k z e)

no-link : (it : LinkModel Wire) → None ≡ Some it → ⊥
no-link it e = cc

none-some : {X : Type 0} (o : Option X) (x : X) → o ≡ None → o ≡ Some x → ⊥
none-some o x p q = cc

module _ {C J : Type 0} where
  -- where no client is there, no run waits and nothing stands on a connection, nothing is under way
  pub none-under-way : (s : System C J) (slot node : ℕ)
      → ((k : ℕ) (model : WorkerModel C J) → slice_get s.workers k ≡ Some model → (number : ℕ) → get model.clients number ≡ None)
      → ((k : ℕ) (model : WorkerModel C J) (l : LaneEnds (Newcomer C J)) → slice_get s.workers k ≡ Some model → slice_get s.carrier.lanes k ≡ Some l → ups_in model l (slice_get s.carrier.pending_runs k) ≡ [])
      → ((k : ℕ) (backend : Backend Wire) → slice_get s.carrier.backends k ≡ Some backend → (it : LinkModel Wire) → backend.link ≡ Some it → it.port.items ≡ [])
      → s.closed ≡ [] → NoneAsksIn s slot node
  none-under-way s slot node nobody no-runs no-items closed = record {
    wants = λ t c held e. absurd (no-one t c held.0);
    told = λ t c asked i held e. absurd (no-one t c held.0);
    said = λ t c asked k i it value held works p q e. absurd (no-one t c held.0);
    lies = λ k i n model l run batch p q r b a there e. absurd (nothing-there i run (sym (ap (λ runs. slice_get runs i) (no-runs k model l p q)) ∙ r));
    sent = λ k it works there. subst (NoneBehindAsking slot it.port.asking) (sym (no-items k works.0 works.1 it works.2)) tt;
    broken = λ j wire e. absurd (nothing-there j wire (sym (ap (λ ws. slice_get ws j) closed) ∙ e));
  }
    where
      no-one : (t : Ticket) (c : CommandModel) → Holds s.workers t c → ⊥
      no-one t c x = none-some (get (x.1).clients t.client) x.3.0 (nobody x.0 x.1 x.2 t.client) x.3.1

-- the backend of the first node, while it is asked for CLUSTER SLOTS
abbrev b1 : Backend Wire
b1 = record new_backend { link = Some (link 0 (new_wire 0 0) []); asked = false }

abbrev b2 : Backend Wire
b2 = record b1 { to_ask = true }

abbrev b3 : Backend Wire
b3 = record b1 { link = Some (link 0 (wire 0 (Lists ∷ []) [] false) (due.Slots ∷ [])); asked = true }

abbrev b4 : Backend Wire
b4 = record b1 { link = Some (link 0 (wire 0 [] (Array [] ∷ []) false) (due.Slots ∷ [])); asked = true }

abbrev b5 : Backend Wire
b5 = record b1 { answer = Some (Array []) }

abbrev b6 : Backend Wire
b6 = record b1 { changes = Some [] }

module _ {C J : Type 0} (port : C) where
  abbrev pub w0 : WorkerModel C J
  w0 = worker empty None [] [] [] 0

  abbrev pub l0 : LaneEnds (Newcomer C J)
  l0 = new_lane

  abbrev c0 : List (Backend Wire) → Bool → CarrierModel (Newcomer C J) Wire
  c0 backends seed = carrier l0 (no_pending_run ∷ []) backends seed

  abbrev pub s0 : System C J
  s0 = scene w0 (carrier l0 [] [] true) [] 0 k0 []

  pub starts-in : (k : ClusterModel) → length table ≡ length k.stores → IsNew k → IsStart (scene w0 (carrier l0 [] [] true) [] 0 k [])
  starts-in k each is-new = record {
    idle = only-one (λ k model. ((model.worker, model.workers) ≡ (k, 1)) × (model.clients ≡ empty)) w0 (refl, refl);
    ups = λ k model l p q.
        only-one (λ k model. (between model.outlet l.up ≡ []) × (down_in l.down model.inlet ≡ [])) w0
        (only-one (λ k l. (between w0.outlet l.up ≡ []) × (down_in l.down w0.inlet ≡ [])) l0 (refl, refl) k l q) k model p;
    sides = refl;
    up_steps = λ k model l p q.
        only-one (λ k model. IsInStep model.outlet l.up) w0
        (only-one (λ k l. IsInStep w0.outlet l.up) l0 ([], refl) k l q) k model p;
    down_steps = λ k model l p q.
        only-one (λ k model. DownInStep l model) w0
        (only-one (λ k l. DownInStep l w0) l0 (down-in l0 w0 _ refl ([], refl)) k l q) k model p;
    unfinished = only-one (λ k l. IsSome l.down) l0 refl;
    pending_runs = refl;
    backends = refl;
    apart = apart;
    each = each;
    room = omega arith;
    table = seed-first;
    seed = omega arith;
    published = refl;
    closed = refl;
    log = refl;
    sound = new-sound k is-new;
  }

  pub starts : IsStart s0
  starts = starts-in k0 refl new

  -- after the opening
  abbrev pub s1 : System C J
  s1 = scene w0 (c0 (b1 ∷ new_backend ∷ []) false) [] 1 k0 []

  pub opens : FoldsTo SystemStep s0 script.opening s1
  opens = (
    s0,
    at-worker l0 [] refl (takes-none [], refl) refl (down-in l0 w0 _ refl ([], refl)) refl,
    (
      s0,
      at-worker l0 [] refl (takes-none [], refl) refl (down-in l0 w0 _ refl ([], refl)) refl,
      (
        scene w0 (c0 [] true) [] 0 k0 [],
        at-carrier l0 refl tt refl ([], refl) refl,
        (
          scene w0 (c0 (new_backend ∷ []) true) [] 0 k0 [],
          at-carrier l0 refl (refl, tt) refl ([], refl) refl,
          (
            scene w0 (c0 (new_backend ∷ new_backend ∷ []) true) [] 0 k0 [],
            at-carrier l0 refl (refl, (refl, tt)) refl ([], refl) refl,
            (
              scene w0 (c0 (b1 ∷ new_backend ∷ []) true) [] 1 k0 [],
              at-carrier l0 (0, new_backend, _, new_wire 0 0, refl, refl, refl, (0, refl, refl), refl) (refl, (refl, tt)) refl ([], refl) refl,
              (
                scene w0 (c0 (b2 ∷ new_backend ∷ []) false) [] 1 k0 [],
                at-carrier l0 (b1, refl, refl, refl) (refl, (refl, tt)) refl ([], refl) refl,
                (
                  scene w0 (c0 (b3 ∷ new_backend ∷ []) false) [] 1 k0 [],
                  at-carrier l0 (0, b2, b3, refl, (link 0 (new_wire 0 0) [], link 0 (wire 0 (Lists ∷ []) [] false) (due.Slots ∷ []), refl, refl, refl, (Ok tt, refl, (λ e. absurd (cc)), (refl, (refl, refl), refl)), refl), refl) (refl, (refl, tt)) refl ([], refl) refl,
                  (
                    scene w0 (c0 (b4 ∷ new_backend ∷ []) false) [] 1 k0 [],
                    (b3, link 0 (wire 0 (Lists ∷ []) [] false) (due.Slots ∷ []), wire 0 [] (Array [] ∷ []) false, Array [] ∷ [], [], refl, refl, refl, inr (inr ([], Array [], refl, refl, refl, refl, refl)), refl, refl),
                    (
                      scene w0 (c0 (b5 ∷ new_backend ∷ []) false) [] 1 k0 [],
                      at-carrier l0 (0, b4, b5, refl, (link 0 (wire 0 [] (Array [] ∷ []) false) (due.Slots ∷ []), link 0 (new_wire 0 0) [], Array [], refl, (refl, (refl, inr (refl, (refl, refl)), refl, refl, refl)), refl), refl) (refl, (refl, tt)) refl ([], refl) refl,
                      (
                        scene w0 (c0 (b6 ∷ new_backend ∷ []) false) [] 1 k0 [],
                        at-carrier l0 (0, b5, b6, refl, (link 0 (new_wire 0 0) [], Array [], record { ops = []; table = seed_alone }, refl, refl, refl, refl, refl), refl) (refl, (refl, tt)) refl ([], refl) refl,
                        (
                          s1,
                          at-carrier l0 (0, b6, b1, refl, ([], refl, refl), refl) (refl, (refl, tt)) refl ([], refl) refl,
                          (
                            s1,
                            at-carrier l0 (0, b1, b1, refl, refl, refl) (refl, (refl, tt)) refl ([], refl) refl,
                            (
                              s1,
                              at-carrier l0 (refl, inl (0, b1, refl, (refl, refl))) (refl, (refl, tt)) refl ([], refl) refl,
                              refl,
                            ),
                          ),
                        ),
                      ),
                    ),
                  ),
                ),
              ),
            ),
          ),
        ),
      ),
    ),
  )

  -- nothing is under way
  pub idle : (k : ClusterModel) (log : List Mark) (slot node : ℕ) → NoneAsksIn (scene w0 s1.carrier [] 1 k log) slot node
  idle k log slot node = none-under-way (scene w0 s1.carrier [] 1 k log) slot node
      (only-one (λ k model. (number : ℕ) → get model.clients number ≡ None) w0 (get-empty nat_cmp))
      (λ k model l p q.
      only-one (λ k model. ups_in model l (slice_get (no_pending_run ∷ []) k) ≡ []) w0
      (only-one (λ k l. ups_in w0 l (slice_get (no_pending_run ∷ []) 0) ≡ []) l0 refl k l q) k model p)
      (two-of (λ (backend : Backend Wire). (it : LinkModel Wire) → backend.link ≡ Some it → it.port.items ≡ []) b1 new_backend
      (λ it e. ap (λ (o : Option (LinkModel Wire)). (unwrap_or o (link 0 (new_wire 0 0) [])).port.items) (sym e)) (λ it e. absurd (no-link it e)))
      refl

  -- and before a node is reached
  pub fresh : (k : ClusterModel) (log : List Mark) (slot node : ℕ) → NoneAsksIn (scene w0 (carrier l0 [] [] true) [] 0 k log) slot node
  fresh k log slot node = none-under-way (scene w0 (carrier l0 [] [] true) [] 0 k log) slot node
      (only-one (λ k model. (number : ℕ) → get model.clients number ≡ None) w0 (get-empty nat_cmp))
      (λ k model l p q.
      only-one (λ k model. ups_in model l (slice_get [] k) ≡ []) w0
      (only-one (λ k l. ups_in w0 l (slice_get [] 0) ≡ []) l0 refl k l q) k model p)
      (λ k backend e. absurd (nothing-there k backend e))
      refl

  -- after the moves
  abbrev pub s2 : System C J
  s2 = scene w0 (c0 (b1 ∷ new_backend ∷ []) false) [] 1 k5 []

  pub moves : FoldsTo SystemStep s1 script.moving s2
  moves = (
    scene w0 s1.carrier [] 1 k1 [],
    ((idle k0 [] 1 1, (refl, omega arith, λ e. absurd (omega (arith, e))), refl), refl),
    (
      scene w0 s1.carrier [] 1 k2 [],
      ((refl, refl), refl),
      (
        scene w0 s1.carrier [] 1 k3 [],
        (((refl, λ q e. get-empty (slice_cmp nat_cmp) q), refl), refl),
        (
          scene w0 s1.carrier [] 1 k4 [],
          ((refl, refl), refl),
          (
            s2,
            ((idle k4 [] 1 1, (refl, omega arith, λ e. absurd (omega (arith, e))), refl), refl),
            refl,
          ),
        ),
      ),
    ),
  )
