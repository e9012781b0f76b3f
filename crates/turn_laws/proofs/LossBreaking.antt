-- The connection to the second node breaks, which executes the command all the same.
use Rattle.std.proofs.Common.{inl, inr, true, false, [], ◌∷◌, Some, None, Ok, refl, arith}
use Rattle.std.specs.List.{FoldsTo}
use Rattle.key_split.specs.declared.travel.Told.TheVariants as told
use Rattle.slot_hash.specs.Slot.{slot_of}
use Rattle.node_link.specs.LinkModel.{LinkModel}
use Rattle.node_link.specs.declared.link.Due.TheVariants as due
use Rattle.node_link.specs.declared.link.Failure.TheVariants as failure
use Rattle.node_link.specs.declared.link.LinkFault.TheVariants as fault
use Rattle.proxy_turns.specs.declared.backend.Backend.{Backend}
use Rattle.proxy_turns.specs.Backend.{new_backend, new_pending_told}
use Rattle.proxy_turns.specs.WorkerModel.{one_more}
use Rattle.turn_laws.specs.Wire.{Wire, Runs}
use Rattle.turn_laws.specs.System.{System}
use Rattle.turn_laws.specs.Steps.{SystemStep}
use Rattle.turn_laws.specs.Scripts as script
use Rattle.turn_laws.specs.Scripts.{key, set, ok, ticket, plain, did}
use Rattle.turn_laws.proofs.Rings.{posts, takes, outlet_with}
use Rattle.turn_laws.proofs.Scenes.{scene, put, at-worker, at-client, at-carrier, past-failure, breaking, down-in}
use Rattle.turn_laws.proofs.ScriptFacts.{goes-alone}
use Rattle.turn_laws.proofs.ScriptStates.{commands, wire, link, backend, pending}
use Rattle.turn_laws.proofs.ScriptAsking.{log2}
use Rattle.turn_laws.proofs.LossStates.{j0, j1, does-late, v2, v3, d2, d3, x4, x5, x6, p4, p5, e5, e6, e7, e8, e9, e10, u5, u6, u7, u8, u9, u10, line, drains, log3, log4}
use Rattle.turn_laws.proofs.LossSending.{ends, learnt, w, r4, to_ask, op}

-- the second connection, as it was opened, with the command, and as it failed, with a ticket that waits and without
abbrev opened : Backend Wire
opened = backend (Some (link 1 (wire 1 [] [] false) [])) None

abbrev sending : LinkModel Wire
sending = link 1 (wire 1 (Runs ((ticket 0, set) ∷ []) ∷ []) [] false) (due.Command (ticket 0) ∷ [])

abbrev failed : LinkModel Wire
failed = record sending { failure = Some failure.PortFailed }

abbrev let-go : LinkModel Wire
let-go = record failed { due = [] }

-- the broken connection, while the node may serve it, after it did, and when the rest was thrown away
abbrev left : Wire
left = wire 1 (Runs ((ticket 0, set) ∷ []) ∷ []) [] false

abbrev pub done : Wire
done = wire 1 [] [] false

module _ {C J : Type 0} (port : C) where
  abbrev pub r5 : System C J
  r5 = scene (w port (u6 port) v3 d2 0) (learnt port (ends port v3 d3) (pending None ∷ []) (to_ask ∷ new_backend ∷ []) 3 op) (done ∷ []) 2 j1 log3

  pub breaks : FoldsTo SystemStep (r4 {C = C} {J = J} port) script.broken r5
  breaks = (
    scene (w port (u6 port) v3 d2 0) (learnt port (ends port v2 d2) (pending None ∷ []) (to_ask ∷ new_backend ∷ []) 3 op) [] 1 j0 log2,
    at-client {J = J} (ends port v2 d2) 0 (e5 port) (e6 port) (outlet_with v3) [] refl (put _ (e5 port) 0) (
      x4,
      [],
      commands [] p4,
      inr (put _ x4 0, refl, refl),
      (λ e. absurd (cc)),
      (slot_of key, omega arith, refl, refl, refl, refl),
      tt,
      (refl, refl),
      refl,
      goes-alone,
      omega arith,
      posts v2 (plain 0 1 set),
      refl,
    ) (put _ (e6 port) 0) (down-in {J = J} (ends port v2 d2) (w port (u5 port) v2 d2 0) _ refl ([], refl)) refl,
    (
      scene (w port (u6 port) v3 d2 0) (learnt port (ends port v3 d2) (pending (Some (plain 0 1 set)) ∷ []) (to_ask ∷ new_backend ∷ []) 3 op) [] 1 j0 log2,
      at-carrier (ends port v3 d2) (
        0,
        pending None,
        pending (Some (plain 0 1 set)),
        refl,
        (plain 0 1 set, refl, refl, (ends port v2 d2, ends port v3 d2, refl, refl, (refl, takes v2 (plain 0 1 set)))),
        refl,
      ) (refl, (refl, tt)) refl ([], refl) refl,
      (
        scene (w port (u6 port) v3 d2 0) (learnt port (ends port v3 d2) (pending (Some (plain 0 1 set)) ∷ []) (to_ask ∷ opened ∷ []) 3 op) [] 2 j0 log2,
        at-carrier (ends port v3 d2) (
          1,
          new_backend,
          _,
          wire 1 [] [] false,
          refl,
          refl,
          refl,
          (1, refl, refl),
          refl,
        ) (refl, (refl, tt)) refl ([], refl) refl,
        (
          scene (w port (u6 port) v3 d2 0) (learnt port (ends port v3 d2) (pending None ∷ []) (to_ask ∷ backend (Some sending) None ∷ []) 3 op) [] 2 j0 log2,
          at-carrier (ends port v3 d2) (
            0,
            pending (Some (plain 0 1 set)),
            plain 0 1 set,
            opened,
            backend (Some sending) None,
            refl,
            refl,
            refl,
            (link 1 (wire 1 [] [] false) [], sending, refl, omega arith, (Ok tt, refl, (λ e. absurd (cc)), (refl, (refl, refl), refl)), refl),
            refl,
          ) (refl, (refl, tt)) refl ([], refl) refl,
          (
            scene (w port (u6 port) v3 d2 0) (learnt port (ends port v3 d2) (pending None ∷ []) (to_ask ∷ backend (Some failed) None ∷ []) 3 op) (left ∷ []) 2 j0 log2,
            breaking (ends port v3 d2) 1 (backend (Some sending) None) (backend (Some failed) None) sending failed (
              1,
              backend (Some sending) None,
              backend (Some failed) None,
              refl,
              (
                sending,
                failed,
                fault.PortFailed,
                (λ e. absurd (cc)),
                (refl, (refl, inr (refl, refl, (inr (omega arith), (refl, (refl, refl)), refl)))),
                refl,
              ),
              refl,
            ) refl refl refl refl refl refl refl ([], refl) refl,
            (
              scene (w port (u6 port) v3 d2 0) (learnt port (ends port v3 d2) (pending None ∷ []) (to_ask ∷ backend (Some let-go) (Some (new_pending_told (ticket 0) told.Lost)) ∷ []) 3 op) (left ∷ []) 2 j0 log2,
              past-failure (ends port v3 d2) (
                1,
                backend (Some failed) None,
                backend (Some let-go) (Some (new_pending_told (ticket 0) told.Lost)),
                refl,
                (failed, let-go, ticket 0, refl, refl, refl, refl, refl, refl),
                refl,
              ) (inr refl, (inl refl, tt)) refl ([], refl) refl,
              (
                scene (w port (u6 port) v3 d2 0) (learnt port (ends port v3 d3) (pending None ∷ []) (to_ask ∷ backend (Some let-go) None ∷ []) 3 op) (left ∷ []) 2 j0 log2,
                past-failure (ends port v3 d3) (
                  1,
                  backend (Some let-go) (Some (new_pending_told (ticket 0) told.Lost)),
                  backend (Some let-go) None,
                  refl,
                  (new_pending_told (ticket 0) told.Lost, refl, refl, inl (ends port v3 d2, ends port v3 d3, refl, refl, (refl, (_, refl, posts d2 (ticket 0, told.Lost)))), refl),
                  refl,
                ) (inr refl, (inl refl, tt)) refl ([], refl) refl,
                (
                  scene (w port (u6 port) v3 d2 0) (learnt port (ends port v3 d3) (pending None ∷ []) (to_ask ∷ new_backend ∷ []) 3 op) (left ∷ []) 2 j0 log2,
                  past-failure (ends port v3 d3) (
                    1,
                    backend (Some let-go) None,
                    new_backend,
                    refl,
                    (let-go, refl, refl, refl, refl, refl),
                    refl,
                  ) (inr refl, (inl refl, tt)) refl ([], refl) refl,
                  (
                    scene (w port (u6 port) v3 d2 0) (learnt port (ends port v3 d3) (pending None ∷ []) (to_ask ∷ new_backend ∷ []) 3 op) (done ∷ []) 2 j1 log3,
                    (
                      left,
                      done,
                      ok ∷ [],
                      did 0 set ok ∷ [],
                      refl,
                      inr (inl ([], (ticket 0, set) ∷ [], told.Reply ok ∷ [], refl, refl, does-late, (refl, tt), refl, refl)),
                      refl,
                      refl,
                    ),
                    (
                      r5,
                      (done, refl, refl),
                      refl,
                    ),
                  ),
                ),
              ),
            ),
          ),
        ),
      ),
    ),
  )

  -- the client is told that it was lost
  abbrev pub r6 : System C J
  r6 = scene (w port (u10 port) v3 d3 (one_more 0)) (learnt port (ends port v3 d3) (pending None ∷ []) (to_ask ∷ new_backend ∷ []) 3 op) (done ∷ []) 2 j1 log4

  pub loses : FoldsTo SystemStep r5 script.lost r6
  loses = (
    scene (w port (u7 port) v3 d3 0) (learnt port (ends port v3 d3) (pending None ∷ []) (to_ask ∷ new_backend ∷ []) 3 op) (done ∷ []) 2 j1 log3,
    at-worker {J = J} (ends port v3 d3) [] refl (
      takes d2 (ticket 0, told.Lost),
      (true, (e6 port, e7 port, put _ (e6 port) 0, (x5, (put p4 x5 0, refl, refl), refl), refl, refl)),
      refl,
    ) refl (down-in {J = J} (ends port v3 d3) (w port (u7 port) v3 d3 0) _ refl ([], refl)) refl,
    (
      scene (w port (u8 port) v3 d3 (one_more 0)) (learnt port (ends port v3 d3) (pending None ∷ []) (to_ask ∷ new_backend ∷ []) 3 op) (done ∷ []) 2 j1 log3,
      at-worker {J = J} (ends port v3 d3) [] refl (
        e7 port,
        e8 port,
        put _ (e7 port) 0,
        ((x6, put p5 x6 0, refl, refl), tt, refl, refl),
        refl,
      ) refl (down-in {J = J} (ends port v3 d3) (w port (u8 port) v3 d3 0) _ refl ([], refl)) refl,
      (
        scene (w port (u9 port) v3 d3 (one_more 0)) (learnt port (ends port v3 d3) (pending None ∷ []) (to_ask ∷ new_backend ∷ []) 3 op) (done ∷ []) 2 j1 log4,
        at-client {J = J} (ends port v3 d3) 0 (e8 port) (e9 port) (outlet_with v3) [] refl (put _ (e8 port) 0) (
          refl,
          (line, refl, refl, drains),
          refl,
        ) (put _ (e9 port) 0) (down-in {J = J} (ends port v3 d3) (w port (u8 port) v3 d3 0) _ refl ([], refl)) refl,
        (
          r6,
          at-client {J = J} (ends port v3 d3) 0 (e9 port) (e10 port) (outlet_with v3) [] refl (put _ (e9 port) 0) (tt, refl, refl) (put _ (e10 port) 0) (down-in {J = J} (ends port v3 d3) (w port (u9 port) v3 d3 0) _ refl ([], refl)) refl,
          refl,
        ),
      ),
    ),
  )
