-- A node is sought that knows the slots, and the client is gone.
use Rattle.std.proofs.Common.{◌≡◌, inl, inr, ℕ, zero, suc, true, false, List, [], ◌∷◌, ◌++◌, Some, None, Ok, refl, ◌∙◌, arith}
use Rattle.std.specs.Prelude.{slice_get}
use Rattle.std.specs.List.{FoldsTo}
use Rattle.std.specs.FinMap.{FinMap, get, insert, remove, get-empty, get-insert, get-remove}
use Rattle.std.specs.Ordering.{nat_cmp}
use Rattle.std.specs.Cmp.{nat_cmp_total}
use Rattle.resp_wire.specs.LimitsModel.{full}
use Rattle.resp_wire.specs.Laws.{FrontIsWhole}
use Rattle.slot_map.specs.declared.fault.MapFault.TheVariants as map_fault
use Rattle.node_link.specs.LinkModel.{LinkModel}
use Rattle.node_link.specs.declared.link.Due.TheVariants as due
use Rattle.node_link.specs.declared.link.Failure.TheVariants as failure
use Rattle.node_link.specs.declared.link.LinkFault.TheVariants as fault
use Rattle.proxy_lanes.specs.Lane.{numbered}
use Rattle.proxy_lanes.specs.declared.ring.Numbered.{Numbered}
use Rattle.proxy_lanes.specs.declared.ends.lane_ends.LaneEnds.{LaneEnds}
use Rattle.proxy_lanes.specs.View.{new_view}
use Rattle.proxy_turns.specs.declared.newcomer.Newcomer.{Newcomer}
use Rattle.proxy_turns.specs.declared.backend.Backend.{Backend}
use Rattle.proxy_turns.specs.Backend.{new_backend}
use Rattle.proxy_turns.specs.ClientModel.{ClientModel, new_client}
use Rattle.proxy_turns.specs.WorkerModel.{WorkerModel, one_more}
use Rattle.proxy_turns.specs.CarrierModel.{CarrierModel}
use Rattle.session_order.specs.HangingUp.{HangsUp}
use Rattle.session_order.specs.SessionModel.{SessionModel}
use Rattle.session_order.specs.Life.{fresh}
use Rattle.session_order.specs.Turn.{IsWaiting}
use Rattle.session_order.specs.declared.closing.Closing.TheVariants.{Quit}
use Rattle.turn_laws.specs.Wire.{Wire, Lists, new_wire}
use Rattle.turn_laws.specs.System.{System}
use Rattle.turn_laws.specs.Steps.{SystemStep}
use Rattle.turn_laws.specs.Scripts as script
use Rattle.turn_laws.specs.Scripts.{ticket, ok, Happens, story_of_loss}
use Rattle.turn_laws.proofs.Rings.{posts, takes, outlet_with, inlet_with}
use Rattle.turn_laws.proofs.Scenes.{scene, and-then, put, at-worker, at-client, at-carrier, past-failure, breaking, handing, down-in}
use Rattle.turn_laws.proofs.ScriptStates.{wire, link, backend, pending, newcomer}
use Rattle.turn_laws.proofs.ScriptAsking.{doors}
use Rattle.turn_laws.proofs.ScriptSetting.{idle}
use Rattle.turn_laws.proofs.LossStates.{j1, v3, d3, m7, e10, e11, e12, e13, u10, u11, u12, u13, gone, log4}
use Rattle.turn_laws.proofs.LossSending.{ends, learnt, w, r0, r1, r2, r3, r4, begins, fails, asks, comes-back, moves-on, to_ask, op}
use Rattle.turn_laws.proofs.LossBreaking.{done, r5, r6, breaks, loses}

-- the first backend, which is asked for the slots, and what it answers
abbrev asked : Backend Wire
asked = record idle { link = Some (link 0 (wire 0 (Lists ∷ []) [] false) (due.Slots ∷ [])); asked = true }

abbrev answered : Backend Wire
answered = record idle { link = Some (link 0 (wire 0 [] (ok ∷ []) false) (due.Slots ∷ [])); asked = true }

abbrev unread : Backend Wire
unread = record idle { answer = Some ok }

abbrev failed : LinkModel Wire
failed = record (link 0 (wire 0 [] [] false) []) { failure = Some failure.PortFailed }

abbrev lost : Backend Wire
lost = record to_ask { link = Some failed }

abbrev spared : Backend Wire
spared = backend (Some failed) None

abbrev reached : Backend Wire
reached = record new_backend { link = Some (link 1 (new_wire 2 1) []); to_ask = true }

-- ---- sessions whose clients are gone

none-waits : (i : ℕ) → IsWaiting (slice_get m7.stages i) → ⊥
none-waits zero h = h
none-waits (suc i) h = h

hangs : HangsUp m7 (record m7 { closing = Quit })
hangs = record {
  owner = (refl, refl);
  unread = (refl, refl, refl);
  none_waits = none-waits;
  none_owed = (refl, omega arith, refl);
  all_owed = refl;
  awaited = λ ticket. ((λ h. h), (λ h. h));
  first = refl;
  places = λ i slot. ((λ h. h), (λ h. h));
}

abbrev other : SessionModel
other = fresh 0 1 full

hangs-other : HangsUp other (record other { closing = Quit })
hangs-other = record {
  owner = (refl, refl);
  unread = (refl, refl, refl);
  none_waits = λ i h. h;
  none_owed = (refl, omega arith, refl);
  all_owed = refl;
  awaited = λ ticket. ((λ h. h), (λ h. h));
  first = refl;
  places = λ i slot. ((λ h. h), (λ h. h));
}

-- what stands under another number is not changed
past : {X : Type 0} (m : FinMap nat_cmp X) (x : X) → get m 1 ≡ None → get (insert m 0 x) 1 ≡ None
past m x e = get-insert nat_cmp_total m 0 x 1 ∙ e

module _ {C : Type 0} (port : C) where
  nobody : get (u13 port) 1 ≡ None
  nobody = past _ _ (past _ _ (past _ _ (past _ _ (past _ _ (past _ _ (past _ _ (past _ _ (past _ _ (past _ _ (past _ _ (past _ _ (past _ _ (past _ _ (past _ _ (past _ _ (past _ _ (past _ _ (past _ _ (get-empty nat_cmp 1)))))))))))))))))))

  abbrev f0 : ClientModel C
  f0 = new_client 0 1 full port

  abbrev u14 : FinMap nat_cmp (ClientModel C)
  u14 = insert (u13 port) 1 f0

  abbrev u15 : FinMap nat_cmp (ClientModel C)
  u15 = insert u14 1 (gone f0)

  abbrev u16 : FinMap nat_cmp (ClientModel C)
  u16 = remove u15 1

  first-there : get u16 0 ≡ Some (e13 port)
  first-there = get-remove nat_cmp_total u15 1 0 ∙ get-insert nat_cmp_total u14 1 (gone f0) 0 ∙ get-insert nat_cmp_total (u13 port) 1 f0 0 ∙ put _ (e13 port) 0

module _ {C J : Type 0} (port : C) where
  abbrev r7 : System C J
  r7 = scene (w port (u10 port) v3 d3 (one_more 0)) (learnt port (ends port v3 d3) (pending None ∷ []) (new_backend ∷ reached ∷ []) 3 op) (done ∷ wire 0 [] [] false ∷ []) 3 j1 log4

  abbrev at : List (Backend Wire) → List Wire → System C J
  at backends closed = scene (w port (u10 port) v3 d3 (one_more 0)) (learnt port (ends port v3 d3) (pending None ∷ []) backends 3 op) closed 2 j1 log4

  seeks : FoldsTo SystemStep (r6 {C = C} {J = J} port) script.sought r7
  seeks = (
    at (asked ∷ new_backend ∷ []) (done ∷ []),
    at-carrier (ends port v3 d3) (
      0,
      to_ask,
      asked,
      refl,
      (link 0 (wire 0 [] [] false) [], link 0 (wire 0 (Lists ∷ []) [] false) (due.Slots ∷ []), refl, refl, refl, (Ok tt, refl, (λ e. absurd (cc)), (refl, (refl, refl), refl)), refl),
      refl,
    ) (refl, (refl, tt)) refl ([], refl) refl,
    (
      at (answered ∷ new_backend ∷ []) (done ∷ []),
      (
        asked,
        link 0 (wire 0 (Lists ∷ []) [] false) (due.Slots ∷ []),
        wire 0 [] (ok ∷ []) false,
        ok ∷ [],
        [],
        refl,
        refl,
        refl,
        inr (inr ([], ok, refl, refl, refl, refl, refl)),
        refl,
        refl,
      ),
      (
        at (unread ∷ new_backend ∷ []) (done ∷ []),
        at-carrier (ends port v3 d3) (
          0,
          answered,
          unread,
          refl,
          (
            link 0 (wire 0 [] (ok ∷ []) false) (due.Slots ∷ []),
            link 0 (wire 0 [] [] false) [],
            ok,
            refl,
            (refl, (refl, inr (refl, (refl, refl)), refl, refl, refl)),
            refl,
          ),
          refl,
        ) (refl, (refl, tt)) refl ([], refl) refl,
        (
          at (idle ∷ new_backend ∷ []) (done ∷ []),
          at-carrier (ends port v3 d3) (0, unread, idle, refl, (ok, refl, inr (map_fault.NotSlots, refl), refl), refl) (refl, (refl, tt)) refl ([], refl) refl,
          (
            at (to_ask ∷ new_backend ∷ []) (done ∷ []),
            at-carrier (ends port v3 d3) (0, idle, refl, refl, refl, refl) (refl, (refl, tt)) refl ([], refl) refl,
            (
              at (lost ∷ new_backend ∷ []) (done ∷ wire 0 [] [] false ∷ []),
              breaking (ends port v3 d3) 0 to_ask lost (link 0 (wire 0 [] [] false) []) failed (
                0,
                to_ask,
                lost,
                refl,
                (
                  link 0 (wire 0 [] [] false) [],
                  failed,
                  fault.PortFailed,
                  (λ e. absurd (cc)),
                  (refl, (refl, inr (refl, refl, (inr (omega arith), (refl, (refl, refl)), refl)))),
                  refl,
                ),
                refl,
              ) refl refl refl refl refl refl refl ([], refl) refl,
              (
                at (spared ∷ new_backend ∷ []) (done ∷ wire 0 [] [] false ∷ []),
                past-failure (ends port v3 d3) (0, lost, spared, refl, (refl, inr refl, refl), refl) (inl refl, (inr refl, tt)) refl ([], refl) refl,
                (
                  at (new_backend ∷ new_backend ∷ []) (done ∷ wire 0 [] [] false ∷ []),
                  past-failure (ends port v3 d3) (0, spared, new_backend, refl, (failed, refl, refl, refl, refl, refl), refl) (inl refl, (inr refl, tt)) refl ([], refl) refl,
                  (
                    r7,
                    at-carrier (ends port v3 d3) (1, new_backend, _, new_wire 2 1, refl, refl, refl, refl, (1, refl, refl), refl) (refl, (refl, tt)) refl ([], refl) refl,
                    refl,
                  ),
                ),
              ),
            ),
          ),
        ),
      ),
    ),
  )

  -- new clients, of which one is turned away
  abbrev second : Newcomer C J
  second = record { number = 1; port = port; front = None }

  abbrev doors2 : List (Numbered (Newcomer C J))
  doors2 = numbered 0 (newcomer port) ∷ numbered 1 second ∷ []

  abbrev doors3 : List (Numbered (Newcomer C J))
  doors3 = numbered 0 (newcomer port) ∷ numbered 1 second ∷ numbered 2 second ∷ []

  abbrev with-doors : FinMap nat_cmp (ClientModel C) → List (Numbered (Newcomer C J)) → WorkerModel C J
  with-doors clients taken-in = record (w port clients v3 d3 (one_more 0)) { newest = Some 1; newcomers = inlet_with taken-in }

  abbrev of : WorkerModel C J → System C J
  of model = scene model r7.carrier r7.closed 3 j1 log4

  -- the lane of new clients, after each was handed over
  abbrev handed-in : List (Numbered (Newcomer C J)) → LaneEnds (Newcomer C J)
  handed-in clients = record (ends port v3 d3) { door = outlet_with clients }

  abbrev on : LaneEnds (Newcomer C J) → CarrierModel (Newcomer C J) Wire
  on lane = record r7.carrier { lanes = lane ∷ [] }

  abbrev where-handed : List (Numbered (Newcomer C J)) → WorkerModel C J → System C J
  where-handed clients model = scene model (on (handed-in clients)) r7.closed 3 j1 log4

  -- its view shows the change of the map
  abbrev r8 : System C J
  r8 = where-handed doors3 (record (with-doors (insert (u16 port) 0 (e13 port)) doors3) { view = new_view op })

  parts : FoldsTo SystemStep r7 script.parting r8
  parts = (
    of (w port (u11 port) v3 d3 (one_more 0)),
    at-client {J = J} (ends port v3 d3) 0 (e10 port) (e11 port) (outlet_with v3) [] refl (put _ (e10 port) 0) (
      refl,
      refl,
      (0, ((script.get, refl, refl), (λ j lt m. absurd (omega (arith, lt))), refl), refl, refl),
      refl,
    ) (put _ (e11 port) 0) (down-in {J = J} (ends port v3 d3) (w port (u10 port) v3 d3 0) _ refl ([], refl)) refl,
    (
      of (w port (u12 port) v3 d3 (one_more 0)),
      at-client {J = J} (ends port v3 d3) 0 (e11 port) (e12 port) (outlet_with v3) [] refl (put _ (e11 port) 0) (refl, tt, hangs, refl)
          (put _ (e12 port) 0) (down-in {J = J} (ends port v3 d3) (w port (u11 port) v3 d3 0) _ refl ([], refl)) refl,
      (
        of (w port (u13 port) v3 d3 (one_more 0)),
        at-client {J = J} (ends port v3 d3) 0 (e12 port) (e13 port) (outlet_with v3) [] refl (put _ (e12 port) 0) (refl, (λ e. absurd (cc)), refl, refl)
            (put _ (e13 port) 0) (down-in {J = J} (ends port v3 d3) (w port (u12 port) v3 d3 0) _ refl ([], refl)) refl,
        (
          where-handed doors2 (w port (u13 port) v3 d3 (one_more 0)),
          handing r7.carrier (on (handed-in doors2)) (ends port v3 d3) (handed-in doors2) second refl (refl, posts (doors port) second) refl refl,
          (
            where-handed doors2 (with-doors (u14 port) doors2),
            at-worker {J = J} (handed-in doors2) [] refl (second, takes (doors port) second, refl, refl, ((omega arith, refl), (omega arith, nobody port)), refl, refl) refl
                (down-in {J = J} (handed-in doors2) (w port (u13 port) v3 d3 0) _ refl ([], refl)) refl,
            (
              where-handed doors3 (with-doors (u14 port) doors2),
              handing (on (handed-in doors2)) (on (handed-in doors3)) (handed-in doors2) (handed-in doors3) second refl (refl, posts doors2 second) refl refl,
              (
                where-handed doors3 (with-doors (u14 port) doors3),
                at-worker {J = J} (handed-in doors3) [] refl (second, port, takes doors2 second, refl, refl, (λ may. absurd (omega (arith, may.1.0))), refl, tt, refl) refl
                    (down-in {J = J} (handed-in doors3) (w port (u14 port) v3 d3 0) _ refl ([], refl)) refl,
                (
                  where-handed doors3 (with-doors (u15 port) doors3),
                  at-client {J = J} (handed-in doors3) 1 (f0 port) (gone (f0 port)) (outlet_with v3) [] refl (put _ (f0 port) 1) (refl, tt, hangs-other, refl)
                      (put _ (gone (f0 port)) 1) (down-in {J = J} (handed-in doors3) (w port (u14 port) v3 d3 0) _ refl ([], refl)) refl,
                  (
                    where-handed doors3 (with-doors (u16 port) doors3),
                    at-worker {J = J} (handed-in doors3) [] refl (port, port, (gone (f0 port), put _ (gone (f0 port)) 1, inr (refl, refl), refl, refl), tt, refl) refl
                        (down-in {J = J} (handed-in doors3) (w port (u15 port) v3 d3 0) _ refl ([], refl)) refl,
                    (
                      r8,
                      at-client {J = J} (handed-in doors3) 0 (e13 port) (e13 port) (outlet_with v3) op refl (first-there port) ((Ok (Some 1), ((op, refl), refl)), refl)
                          (put _ (e13 port) 0) (down-in {J = J} (handed-in doors3) (w port (u16 port) v3 d3 0) _ refl ([], refl)) refl,
                      refl,
                    ),
                  ),
                ),
              ),
            ),
          ),
        ),
      ),
    ),
  )

  pub happens : FrontIsWhole → Happens C J script.breaks story_of_loss
  happens law = record {
    start = r0 port;
    left = r8;
    begins = begins port;
    goes =
        and-then SystemStep (r0 port) script.unreached (r1 port) (script.asking ++ (script.unsent ++ (script.sent_on ++ (script.broken ++ (script.lost ++ (script.sought ++ script.parting)))))) r8 (fails port)
        (and-then SystemStep (r1 port) script.asking (r2 port) (script.unsent ++ (script.sent_on ++ (script.broken ++ (script.lost ++ (script.sought ++ script.parting))))) r8 (asks port law)
        (and-then SystemStep (r2 port) script.unsent (r3 port) (script.sent_on ++ (script.broken ++ (script.lost ++ (script.sought ++ script.parting)))) r8 (comes-back port)
        (and-then SystemStep (r3 port) script.sent_on (r4 port) (script.broken ++ (script.lost ++ (script.sought ++ script.parting))) r8 (moves-on port)
        (and-then SystemStep (r4 port) script.broken (r5 port) (script.lost ++ (script.sought ++ script.parting)) r8 (breaks port)
        (and-then SystemStep (r5 port) script.lost (r6 port) (script.sought ++ script.parting) r8 (loses port)
        (and-then SystemStep (r6 port) script.sought r7 script.parting r8 seeks parts))))));
    log = refl;
  }
