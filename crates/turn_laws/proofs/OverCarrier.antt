-- The carrier over ports of any kind: each of its events is, over the wires of its ports, one that a step of the system may have.
use Rattle.std.proofs.Common.{◌≡◌, inl, inr, ⊎_elim, ℕ, zero, suc, ◌||◌, ◌&&◌, Bool, true, false, List, [], ◌∷◌, ◌++◌, Option, Some, None, refl, sym, ap, ◌∙◌, subst}
use Rattle.std.specs.Prelude.{slice_get, slice_set}
use Rattle.std.specs.List.{list_any}
use Rattle.key_split.specs.Runs.{count_in}
use Rattle.slot_map.specs.Table.{Endpoint}
use Rattle.proxy_lanes.specs.declared.ends.lane_ends.LaneEnds.{LaneEnds}
use Rattle.node_link.specs.Port.{PortCalls}
use Rattle.proxy_turns.specs.declared.backend.Backend.{Backend}
use Rattle.proxy_turns.specs.Backend.{BackendContext, BackendDoes, Starves, fresh_link, has_open_link, is_unanswered, new_backend}
use Rattle.proxy_turns.specs.PendingRun.{GiveOutcome}
use Rattle.proxy_turns.specs.Resting.{HasFailedLink}
use Rattle.proxy_turns.specs.Sending.{IsUnreached}
use Rattle.proxy_turns.specs.CarrierModel.{CarrierModel, CarrierEvent, AtBackend, Starved, WorkerAdded, BackendAdded, Looked, Took, Opened, Refused, Missed, SeedReached, Sought, Reached, NotFound, Sent, Gave, GaveUnsent, CarrierDoes, ChangesBackend, context_of}
use Rattle.turn_laws.specs.Wire.{Wire, Dials, new_wire}
use Rattle.turn_laws.specs.PortsMay.{any_calls}
use Rattle.turn_laws.specs.AnyPort.{StandsFor, OpensWires, IsWired, AreWired, AnyPorts, link_over, over_backend, over_backends, over_wires}
use Rattle.turn_laws.proofs.OverBackends.{over_context, open-over, failed-over, does-over, starves-over, sent-over, starved-over, refused-over, unreached-over}

module _ {P : Type 0} (wired : P → Wire → Type 0) where
  -- the wire of a backend
  abbrev WireAt : List (Backend P) → List Wire → ℕ → Backend P → Type 0
  WireAt backends wires k backend =
      (wire : Wire) × IsWired wired backend.link wire × (slice_get wires k ≡ Some wire) × (slice_get (over_backends backends wires) k ≡ Some (over_backend backend wire))

  wire-at : (backends : List (Backend P)) (wires : List Wire) → AreWired wired backends wires → (k : ℕ) (backend : Backend P) → slice_get backends k ≡ Some backend → WireAt backends wires k backend
  wire-at [] wires on k backend e = absurd (cc)
  wire-at (b ∷ bs) [] on k backend e = absurd on
  wire-at (b ∷ bs) (w ∷ ws) on zero backend e = let same : b ≡ backend = cc in (w, subst (λ (x : Backend P). IsWired wired x.link w) same on.0, refl, λ i. Some (over_backend (same i) w))
  wire-at (b ∷ bs) (w ∷ ws) on (suc k) backend e = wire-at bs ws on.1 k backend e

  set-wired : (backends : List (Backend P)) (wires : List Wire) → AreWired wired backends wires → (k : ℕ) (backend : Backend P) (wire : Wire) → IsWired wired backend.link wire
      → AreWired wired (slice_set backends k backend) (slice_set wires k wire)
  set-wired [] [] on k backend wire x = tt
  set-wired [] (w ∷ ws) on k backend wire x = absurd on
  set-wired (b ∷ bs) [] on k backend wire x = absurd on
  set-wired (b ∷ bs) (w ∷ ws) on zero backend wire x = (x, on.1)
  set-wired (b ∷ bs) (w ∷ ws) on (suc k) backend wire x = (on.0, set-wired bs ws on.1 k backend wire x)

  set-over : (backends : List (Backend P)) (wires : List Wire) → AreWired wired backends wires → (k : ℕ) (backend : Backend P) (wire : Wire)
      → over_backends (slice_set backends k backend) (slice_set wires k wire) ≡ slice_set (over_backends backends wires) k (over_backend backend wire)
  set-over [] [] on k backend wire = refl
  set-over [] (w ∷ ws) on k backend wire = absurd on
  set-over (b ∷ bs) [] on k backend wire = absurd on
  set-over (b ∷ bs) (w ∷ ws) on zero backend wire = refl
  set-over (b ∷ bs) (w ∷ ws) on (suc k) backend wire = ap (λ xs. over_backend b w ∷ xs) (set-over bs ws on.1 k backend wire)

  more-wired : (backends : List (Backend P)) (wires : List Wire) (wire : Wire) → AreWired wired backends wires → AreWired wired (backends ++ new_backend ∷ []) (wires ++ wire ∷ [])
  more-wired [] [] wire on = (tt, tt)
  more-wired [] (w ∷ ws) wire on = absurd on
  more-wired (b ∷ bs) [] wire on = absurd on
  more-wired (b ∷ bs) (w ∷ ws) wire on = (on.0, more-wired bs ws wire on.1)

  more-over : (backends : List (Backend P)) (wires : List Wire) (wire : Wire) → AreWired wired backends wires → over_backends (backends ++ new_backend ∷ []) (wires ++ wire ∷ []) ≡ over_backends backends wires ++ new_backend ∷ []
  more-over [] [] wire on = refl
  more-over [] (w ∷ ws) wire on = absurd on
  more-over (b ∷ bs) [] wire on = absurd on
  more-over (b ∷ bs) (w ∷ ws) wire on = ap (λ xs. over_backend b w ∷ xs) (more-over bs ws wire on.1)

  any-over : (p : Backend P → Bool) (q : Backend Wire → Bool) → ((backend : Backend P) (wire : Wire) → q (over_backend backend wire) ≡ p backend)
      → (backends : List (Backend P)) (wires : List Wire) → AreWired wired backends wires → list_any q (over_backends backends wires) ≡ list_any p backends
  any-over p q same [] wires on = refl
  any-over p q same (b ∷ bs) [] on = absurd on
  any-over p q same (b ∷ bs) (w ∷ ws) on = λ i. same b w i || any-over p q same bs ws on.1 i

  open-any : (backends : List (Backend P)) (wires : List Wire) → AreWired wired backends wires → list_any has_open_link (over_backends backends wires) ≡ list_any has_open_link backends
  open-any = any-over has_open_link has_open_link (λ backend wire. open-over backend.link wire)

  unanswered-any : (backends : List (Backend P)) (wires : List Wire) → AreWired wired backends wires → list_any is_unanswered (over_backends backends wires) ≡ list_any is_unanswered backends
  unanswered-any = any-over is_unanswered is_unanswered (λ backend wire. ap (λ b. backend.asked && b) (open-over backend.link wire))

-- what is given to a worker asks nothing of the link
give-over : {H P : Type 0} (backend backend' : Backend P) (wire : Wire) (lanes lanes' : List (LaneEnds H)) (given : Bool) → GiveOutcome backend lanes given backend' lanes'
    → (backend'.link ≡ backend.link) × GiveOutcome (over_backend backend wire) lanes given (over_backend backend' wire) lanes'
give-over backend backend' wire lanes lanes' true x = (ap (λ (b : Backend _). b.link) x.4, (x.0, x.1, x.2, x.3, λ i. over_backend (x.4 i) wire))
give-over backend backend' wire lanes lanes' false x = (ap (λ (b : Backend _). b.link) x.0, ((λ i. over_backend (x.0 i) wire), x.1))

module _ {H P : Type 0} (wired : P → Wire → Type 0) (calls : PortCalls P) (opens : Endpoint → Option P → ℕ → ℕ → Type 0) (longest : P → ℕ)
    (stands : StandsFor wired calls.exchange) where
  module _ (old new : CarrierModel H P) (wires : List Wire) (opened : ℕ) (on : AreWired wired old.backends wires) (dials : OpensWires wired old.nodes opened opens) where
    abbrev Done : CarrierEvent → Type 0
    Done event = (wires' : List Wire) × AreWired wired new.backends wires' × (far : Wire → ℕ) × CarrierDoes any_calls (Dials old.nodes opened) far (over_wires old wires) event (over_wires new wires')

    -- how long a run may be, where none goes out
    abbrev none : Wire → ℕ
    none wire = 0

    -- the backends stay
    stays : new.backends ≡ old.backends → AreWired wired new.backends wires
    stays e = subst (λ bs. AreWired wired bs wires) (sym e) on

    -- one of them changes, and its wire
    changes : (k : ℕ) (backend : Backend P) (wire : Wire) → new.backends ≡ slice_set old.backends k backend → IsWired wired backend.link wire → AreWired wired new.backends (slice_set wires k wire)
    changes k backend wire e x = subst (λ bs. AreWired wired bs (slice_set wires k wire)) (sym e) (set-wired wired old.backends wires on k backend wire x)

    set-at : (k : ℕ) (backend : Backend P) (wire : Wire) → over_backends (slice_set old.backends k backend) (slice_set wires k wire) ≡ slice_set (over_backends old.backends wires) k (over_backend backend wire)
    set-at k backend wire = set-over wired old.backends wires on k backend wire

    changed : (R : BackendContext P → BackendContext P → Type 0) (S : BackendContext Wire → BackendContext Wire → Type 0)
        → ((backend backend' : Backend P) (wire : Wire) → IsWired wired backend.link wire → R (context_of old backend) (context_of new backend')
        → (w : Wire) × IsWired wired backend'.link w × S (over_context (context_of old backend) wire) (over_context (context_of new backend') w))
        → ChangesBackend old new R → (wires' : List Wire) × AreWired wired new.backends wires' × ChangesBackend (over_wires old wires) (over_wires new wires') S
    changed R S lift x =
        let here = wire-at wired old.backends wires on x.0 x.1 x.3 in
        let r = lift x.1 x.2 here.0 here.1 x.4 in (
          slice_set wires x.0 r.0,
          changes x.0 x.2 r.0 (ap (λ (c : CarrierModel H P). c.backends) x.5) r.1,
          (
            x.0,
            over_backend x.1 here.0,
            over_backend x.2 r.0,
            here.3,
            r.2,
            (λ i. over_wires (x.5 i) (slice_set wires x.0 r.0)) ∙ (λ i. record (over_wires old wires) { backends = set-at x.0 x.2 r.0 i; nodes = new.nodes; published = new.published }),
          ),
        )

    starved : CarrierDoes calls opens longest old Starved new → Done Starved
    starved (inl x) =
        let r = changed (Starves calls) (Starves any_calls)
        (λ backend backend' wire is y. starves-over wired calls stands (context_of old backend) (context_of new backend') wire is y) x in
        (r.0, r.1, none, inl r.2)
    starved (inr x) =
        let here = wire-at wired old.backends wires on x.0 x.1 x.5 in
        let r = starved-over wired calls stands longest x.1 x.2 here.0 here.1 x.3 x.4 x.6 in (
          slice_set wires x.0 r.0,
          changes x.0 x.2 r.0 (ap (λ (c : CarrierModel H P). c.backends) x.7) r.1,
          none,
          inr (
            x.0,
            over_backend x.1 here.0,
            over_backend x.2 r.0,
            x.3,
            x.4,
            here.3,
            r.2,
            (λ i. over_wires (x.7 i) (slice_set wires x.0 r.0)) ∙ (λ i. record (over_wires old wires) { backends = set-at x.0 x.2 r.0 i }),
          ),
        )

    looked : CarrierDoes calls opens longest old Looked new → Done Looked
    looked x = (
      wires,
      stays (ap (λ (c : CarrierModel H P). c.backends) x.0),
      none,
      (
        (λ i. over_wires (x.0 i) wires),
        ⊎_elim
            (λ (y : (k : ℕ) × (backend : Backend P) × (slice_get old.backends k ≡ Some backend) × GiveOutcome backend old.lanes false backend new.lanes).
            let here = wire-at wired old.backends wires on y.0 y.1 y.2 in
            inl (y.0, over_backend y.1 here.0, here.3, (give-over y.1 y.1 here.0 old.lanes new.lanes false y.3).1))
            (λ y. inr y)
            x.1,
      ),
    )

    gave : CarrierDoes calls opens longest old Gave new → Done Gave
    gave x =
        let here = wire-at wired old.backends wires on x.0 x.1 x.3 in
        let g = give-over x.1 x.2 here.0 old.lanes new.lanes true x.4 in
        let is : IsWired wired (x.2).link here.0 = subst (λ o. IsWired wired o here.0) (sym g.0) here.1 in (
          slice_set wires x.0 here.0,
          changes x.0 x.2 here.0 (ap (λ (c : CarrierModel H P). c.backends) x.5) is,
          none,
          (
            x.0,
            over_backend x.1 here.0,
            over_backend x.2 here.0,
            here.3,
            g.1,
            (λ i. over_wires (x.5 i) (slice_set wires x.0 here.0)) ∙ (λ i. record (over_wires old wires) { lanes = new.lanes; backends = set-at x.0 x.2 here.0 i }),
          ),
        )

    opened-at : CarrierDoes calls opens longest old Opened new → Done Opened
    opened-at x =
        let here = wire-at wired old.backends wires on x.0 x.1 x.4 in
        let wire : Wire = new_wire opened x.0 in
        let backend' : Backend P = record x.1 { link = Some (fresh_link x.3 x.0); asked = false } in (
          slice_set wires x.0 wire,
          changes x.0 backend' wire (ap (λ (c : CarrierModel H P). c.backends) x.8) (dials x.0 x.2 x.3 old.failures new.failures x.6 x.7),
          none,
          (
            x.0,
            over_backend x.1 here.0,
            x.2,
            wire,
            here.3,
            ap (λ o. link_over o here.0) x.5,
            x.6,
            (x.0, x.6, refl),
            (λ i. over_wires (x.8 i) (slice_set wires x.0 wire)) ∙ (λ i. record (over_wires old wires) { backends = set-at x.0 backend' wire i; failures = new.failures }),
          ),
        )

    reached-at : CarrierDoes calls opens longest old Reached new → Done Reached
    reached-at x =
        let here = wire-at wired old.backends wires on x.0 x.1 x.4 in
        let wire : Wire = new_wire opened x.0 in
        let backend' : Backend P = record x.1 { link = Some (fresh_link x.3 x.0); to_ask = true; asked = false } in (
          slice_set wires x.0 wire,
          changes x.0 backend' wire (ap (λ (c : CarrierModel H P). c.backends) x.9) (dials x.0 x.2 x.3 old.failures new.failures x.7 x.8),
          none,
          (
            x.0,
            over_backend x.1 here.0,
            x.2,
            wire,
            here.3,
            ap (λ o. link_over o here.0) x.5,
            open-any wired old.backends wires on ∙ x.6,
            x.7,
            (x.0, x.7, refl),
            (λ i. over_wires (x.9 i) (slice_set wires x.0 wire)) ∙ (λ i. record (over_wires old wires) { backends = set-at x.0 backend' wire i; failures = new.failures }),
          ),
        )

    sent-at : CarrierDoes calls opens longest old Sent new → Done Sent
    sent-at x =
        let here = wire-at wired old.backends wires on (x.2).first.node x.3 x.7 in
        let r = sent-over wired calls stands longest x.3 x.4 here.0 here.1 x.2 x.8 in (
          slice_set wires (x.2).first.node r.0,
          changes (x.2).first.node x.4 r.0 (ap (λ (c : CarrierModel H P). c.backends) x.9) r.1,
          (λ _. count_in x.2),
          (
            x.0,
            x.1,
            x.2,
            over_backend x.3 here.0,
            over_backend x.4 r.0,
            x.5,
            x.6,
            here.3,
            r.2,
            (λ i. over_wires (x.9 i) (slice_set wires (x.2).first.node r.0))
                ∙ (λ i. record (over_wires old wires) { pending_runs = slice_set old.pending_runs x.0 (record x.1 { run = None }); backends = set-at (x.2).first.node x.4 r.0 i }),
          ),
        )

    pub does-so : (event : CarrierEvent) → CarrierDoes calls opens longest old event new → Done event
    does-so (AtBackend step) x =
        let r = changed
        (λ context context'. BackendDoes calls (list_any is_unanswered old.backends) context step context')
        (λ context context'. BackendDoes any_calls (list_any is_unanswered (over_backends old.backends wires)) context step context')
        (λ backend backend' wire is y.
        let r = does-over wired calls stands (context_of old backend) (context_of new backend') wire is (list_any is_unanswered old.backends) step y in
        (r.0, r.1, subst (λ b. BackendDoes any_calls b (over_context (context_of old backend) wire) step (over_context (context_of new backend') r.0)) (sym (unanswered-any wired old.backends wires on)) r.2)) x in
        (r.0, r.1, none, r.2)
    does-so Starved x = starved x
    does-so WorkerAdded x = (wires, stays (ap (λ (c : CarrierModel H P). c.backends) x), none, λ i. over_wires (x i) wires)
    does-so BackendAdded x =
        let wire : Wire = new_wire 0 0 in (
          wires ++ wire ∷ [],
          subst (λ bs. AreWired wired bs (wires ++ wire ∷ [])) (sym (ap (λ (c : CarrierModel H P). c.backends) x)) (more-wired wired old.backends wires wire on),
          none,
          (λ i. over_wires (x i) (wires ++ wire ∷ [])) ∙ (λ i. record (over_wires old wires) { backends = more-over wired old.backends wires wire on i }),
        )
    does-so Looked x = looked x
    does-so Took x = (wires, stays (ap (λ (c : CarrierModel H P). c.backends) x.5), none, (x.0, x.1, x.2, x.3, x.4, λ i. over_wires (x.5 i) wires))
    does-so Opened x = opened-at x
    does-so Refused x =
        let here = wire-at wired old.backends wires on (x.2).first.node x.3 x.7 in (
          wires,
          stays (ap (λ (c : CarrierModel H P). c.backends) x.9),
          none,
          (x.0, x.1, x.2, over_backend x.3 here.0, x.4, x.5, x.6, here.3, refused-over opens opened longest x.2 (x.3).link here.0 old.nodes old.failures new.failures x.8, λ i. over_wires (x.9 i) wires),
        )
    does-so Missed x = (wires, stays (ap (λ (c : CarrierModel H P). c.backends) x.2), none, (x.0, unreached-over opens old.nodes opened 0 old.failures new.failures x.1, λ i. over_wires (x.2 i) wires))
    does-so SeedReached x =
        let here = wire-at wired old.backends wires on 0 x.0 x.2 in
        let backend' : Backend P = record x.0 { to_ask = true } in (
          slice_set wires 0 here.0,
          changes 0 backend' here.0 (ap (λ (c : CarrierModel H P). c.backends) x.3) here.1,
          none,
          (
            over_backend x.0 here.0,
            x.1,
            here.3,
            (λ i. over_wires (x.3 i) (slice_set wires 0 here.0)) ∙ (λ i. record (over_wires old wires) { seed_to_dial = false; backends = set-at 0 backend' here.0 i }),
          ),
        )
    does-so Sought x =
        let here = wire-at wired old.backends wires on x.0 x.1 x.2 in
        let backend' : Backend P = record x.1 { to_ask = true } in (
          slice_set wires x.0 here.0,
          changes x.0 backend' here.0 (ap (λ (c : CarrierModel H P). c.backends) x.5) here.1,
          none,
          (
            x.0,
            over_backend x.1 here.0,
            here.3,
            open-over (x.1).link here.0 ∙ x.3,
            unanswered-any wired old.backends wires on ∙ x.4,
            (λ i. over_wires (x.5 i) (slice_set wires x.0 here.0)) ∙ (λ i. record (over_wires old wires) { backends = set-at x.0 backend' here.0 i }),
          ),
        )
    does-so Reached x = reached-at x
    does-so NotFound x = (
      wires,
      stays (ap (λ (c : CarrierModel H P). c.backends) x.2),
      none,
      (
        x.0,
        open-any wired old.backends wires on ∙ x.1,
        (λ i. over_wires (x.2 i) wires),
        ⊎_elim
            (λ (y : IsUnreached opens x.0 old.nodes old.failures new.failures). inl (unreached-over opens old.nodes opened x.0 old.failures new.failures y))
            (λ (y : HasFailedLink old.backends x.0 × (new.failures ≡ old.failures)).
            let here = wire-at wired old.backends wires on x.0 y.0.0 y.0.1 in inr ((over_backend y.0.0 here.0, here.3, failed-over (y.0.0).link here.0 ∙ y.0.2), y.1))
            x.3,
      ),
    )
    does-so Sent x = sent-at x
    does-so Gave x = gave x
    does-so GaveUnsent x = (wires, stays (ap (λ (c : CarrierModel H P). c.backends) x.5), none, (x.0, x.1, x.2, x.3, x.4, λ i. over_wires (x.5 i) wires))

module _ {H P : Type 0} (wired : P → Wire → Type 0) (calls : PortCalls P) (opens : Endpoint → Option P → ℕ → ℕ → Type 0) (longest : P → ℕ)
    (stands : StandsFor wired calls.exchange) where
  pub any-ports : AnyPorts wired H calls opens longest
  any-ports event old new wires opened on dials x = does-so wired calls opens longest stands old new wires opened on dials event x
