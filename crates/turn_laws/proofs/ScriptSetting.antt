-- The first request goes to the first node, which executes it, and the client is answered.
use Rattle.std.proofs.Common.{inl, inr, ℕ, zero, suc, ◌*◌, ◌<◌, true, false, List, [], ◌∷◌, ◌++◌, Some, None, Ok, refl, arith, length}
use Rattle.std.specs.Prelude.{codes}
use Rattle.std.specs.List.{FoldsTo}
use Rattle.std.specs.FinMap.{FinMap, insert, empty}
use Rattle.std.specs.Ordering.{nat_cmp}
use Rattle.key_split.specs.declared.travel.Ended.TheVariants as ended
use Rattle.key_split.specs.declared.travel.Told.TheVariants.{Reply}
use Rattle.slot_hash.specs.Slot.{slot_of}
use Rattle.command_future.specs.CommandModel.{progress_told}
use Rattle.node_link.specs.declared.link.Due.TheVariants as due
use Rattle.proxy_lanes.specs.declared.ends.lane_ends.LaneEnds.{LaneEnds}
use Rattle.proxy_turns.specs.declared.newcomer.Newcomer.{Newcomer}
use Rattle.proxy_turns.specs.declared.backend.Backend.{Backend}
use Rattle.proxy_turns.specs.declared.pending_run.PendingRun.{PendingRun}
use Rattle.proxy_turns.specs.Backend.{new_backend, new_pending_told}
use Rattle.proxy_turns.specs.ClientModel.{ClientModel}
use Rattle.proxy_turns.specs.WorkerModel.{WorkerModel, one_more}
use Rattle.proxy_turns.specs.CarrierModel.{CarrierModel}
use Rattle.session_order.specs.SessionModel.{SessionModel}
use Rattle.session_order.specs.Replies.{Drains, bytes_of, first_replies}
use Rattle.session_order.specs.declared.queue.PartStage.TheVariants.{Waiting, Out, Done}
use Rattle.turn_laws.specs.Wire.{Wire, Runs}
use Rattle.turn_laws.specs.System.{System, Mark}
use Rattle.turn_laws.specs.System as seen
use Rattle.turn_laws.specs.Steps.{SystemStep}
use Rattle.turn_laws.specs.Scripts as script
use Rattle.turn_laws.specs.Scripts.{key, set, ok, ticket, plain, did}
use Rattle.turn_laws.proofs.Rings.{posts, takes, outlet_with}
use Rattle.turn_laws.proofs.Scenes.{scene, put, at-worker, at-client, at-carrier, down-in}
use Rattle.turn_laws.proofs.ScriptFacts.{k5, k6, does-set, written-ok, fresh-alone, goes-alone}
use Rattle.turn_laws.proofs.ScriptStates.{session, one, commands, awaits, setting, posted1, posted2, posted3, wire, link, backend, pending, lane, carrier, worker, client, up1, down1}
use Rattle.turn_laws.proofs.ScriptAsking.{a4, t6, s3, log2, doors}

-- the part of the first request is out, then it has ended, and then its reply was drained
abbrev pub n4 : SessionModel
n4 = session (Out (slot_of key) ∷ Waiting script.get ∷ []) (ended.Lost ∷ ended.Lost ∷ []) (one ∷ one ∷ []) 0 []

abbrev pub n5 : SessionModel
n5 = session (Done ∷ Waiting script.get ∷ []) (ended.Answered ok ∷ ended.Lost ∷ []) (one ∷ one ∷ []) 0 []

abbrev pub n6 : SessionModel
n6 = session (Waiting script.get ∷ []) (ended.Lost ∷ []) (one ∷ []) 1 []

-- what is below one is none
pub below-one : (P : ℕ → Type 0) → P 0 → (n : ℕ) → n < 1 → P n
below-one P h zero lt = h
below-one P h (suc n) lt = absurd (omega (arith, lt))

drains : Drains (64 * 1024) n5 (codes "+OK\r\n") n6
drains = record {
  count = 1;
  written = record {
    in_order = omega arith;
    spelled = written-ok;
    no_more = below-one (λ fewer. length (bytes_of (first_replies fewer n5.requests n5.stages n5.ends [])) < 64 * 1024) (omega arith);
    all = λ short. refl;
  };
  left = refl;
  all = λ short. (written-ok, refl);
}

module _ {C : Type 0} (port : C) where
  abbrev pub a5 : ClientModel C
  a5 = client port n4 (commands (setting ∷ []) empty) [] []

  abbrev pub a6 : ClientModel C
  a6 = client port n4 (commands [] posted1) [] []

  abbrev pub a7 : ClientModel C
  a7 = client port n4 (commands [] posted2) [] []

  abbrev pub a8 : ClientModel C
  a8 = client port n5 (commands [] posted3) [] []

  abbrev pub a9 : ClientModel C
  a9 = client port n6 (commands [] posted3) [] (codes "+OK\r\n")

  abbrev pub a10 : ClientModel C
  a10 = client port n6 (commands [] posted3) [] []

  abbrev pub t7 : FinMap nat_cmp (ClientModel C)
  t7 = insert (t6 port) 0 a5

  abbrev pub t8 : FinMap nat_cmp (ClientModel C)
  t8 = insert t7 0 a5

  abbrev pub t9 : FinMap nat_cmp (ClientModel C)
  t9 = insert t8 0 a6

  abbrev pub t10 : FinMap nat_cmp (ClientModel C)
  t10 = insert t9 0 a7

  abbrev pub t11 : FinMap nat_cmp (ClientModel C)
  t11 = insert t10 0 a8

  abbrev pub t12 : FinMap nat_cmp (ClientModel C)
  t12 = insert t11 0 a9

  abbrev pub t13 : FinMap nat_cmp (ClientModel C)
  t13 = insert t12 0 a10

-- the connection to the first node, which is idle, has the command, or has its reply
abbrev pub idle : Backend Wire
idle = backend (Some (link 0 (wire 0 [] [] false) [])) None

abbrev pub sent : Backend Wire
sent = backend (Some (link 0 (wire 0 (Runs ((ticket 0, set) ∷ []) ∷ []) [] false) (due.Command (ticket 0) ∷ []))) None

abbrev served : Backend Wire
served = backend (Some (link 0 (wire 0 [] (ok ∷ []) false) (due.Command (ticket 0) ∷ []))) None

abbrev got : Backend Wire
got = backend (Some (link 0 (wire 0 [] [] false) [])) (Some (new_pending_told (ticket 0) (Reply ok)))

abbrev pub log3 : List Mark
log3 = log2 ++ seen.Executed (did 0 set ok ∷ []) ∷ []

abbrev pub log4 : List Mark
log4 = log3 ++ seen.Answered (ticket 0) (ended.Answered ok) ∷ []

module _ {C J : Type 0} (port : C) where
  abbrev l0 : LaneEnds (Newcomer C J)
  l0 = lane port [] []

  abbrev l1 : LaneEnds (Newcomer C J)
  l1 = lane port up1 []

  abbrev pub l2 : LaneEnds (Newcomer C J)
  l2 = lane port up1 down1

  abbrev c : LaneEnds (Newcomer C J) → PendingRun → Backend Wire → CarrierModel (Newcomer C J) Wire
  c l run b = carrier l (run ∷ []) (b ∷ new_backend ∷ []) false

  -- before and after the command was posted, and after its reply was taken
  abbrev w0 : FinMap nat_cmp (ClientModel C) → WorkerModel C J
  w0 clients = worker clients (Some 0) (doors port) [] [] 0

  abbrev w1 : FinMap nat_cmp (ClientModel C) → WorkerModel C J
  w1 clients = worker clients (Some 0) (doors port) up1 [] 0

  abbrev pub w2 : FinMap nat_cmp (ClientModel C) → ℕ → WorkerModel C J
  w2 clients answered = worker clients (Some 0) (doors port) up1 down1 answered

  abbrev pub s4 : System C J
  s4 = scene (w2 (t13 port) (one_more 0)) (c l2 (pending None) idle) [] 1 k6 log4

  pub sets : FoldsTo SystemStep (s3 {C = C} {J = J} port) script.setting s4
  sets = (
    scene (w0 (t7 port)) (c l0 (pending None) idle) [] 1 k5 log2,
    at-client l0 0 (a4 port) (a5 port) (outlet_with []) [] refl (put _ (a4 port) 0) (
      refl,
      refl,
      (0, ((set, refl, refl), (λ j lt m. absurd (omega (arith, lt))), refl), refl, refl),
      refl,
    ) (put _ (a5 port) 0) (down-in l0 (w0 (t6 port)) _ refl ([], refl)) refl,
    (
      scene (w0 (t8 port)) (c l0 (pending None) idle) [] 1 k5 log2,
      at-client l0 0 (a5 port) (a5 port) (outlet_with []) [] refl (put _ (a5 port) 0) ((Ok None, (([], refl), refl)), refl)
          (put _ (a5 port) 0) (down-in l0 (w0 (t7 port)) _ refl ([], refl)) refl,
      (
        scene (w1 (t9 port)) (c l0 (pending None) idle) [] 1 k5 log2,
        at-client l0 0 (a5 port) (a6 port) (outlet_with up1) [] refl (put _ (a5 port) 0) (
          setting,
          [],
          commands [] empty,
          inl (refl, fresh-alone setting refl, refl),
          (λ e. absurd (cc)),
          (slot_of key, omega arith, refl, refl, refl, refl),
          tt,
          (Ok None, (([], refl), refl), refl),
          refl,
          goes-alone,
          omega arith,
          posts [] (plain 0 0 set),
          refl,
        ) (put _ (a6 port) 0) (down-in l0 (w0 (t8 port)) _ refl ([], refl)) refl,
        (
          scene (w1 (t9 port)) (c l1 (pending (Some (plain 0 0 set))) idle) [] 1 k5 log2,
          at-carrier l1 (
            0,
            pending None,
            pending (Some (plain 0 0 set)),
            refl,
            (plain 0 0 set, refl, refl, (l0, l1, refl, refl, (refl, takes [] (plain 0 0 set)))),
            refl,
          ) (refl, (refl, tt)) refl ([], refl) refl,
          (
            scene (w1 (t9 port)) (c l1 (pending None) sent) [] 1 k5 log2,
            at-carrier l1 (
              0,
              pending (Some (plain 0 0 set)),
              plain 0 0 set,
              idle,
              sent,
              refl,
              refl,
              refl,
              (link 0 (wire 0 [] [] false) [], link 0 (wire 0 (Runs ((ticket 0, set) ∷ []) ∷ []) [] false) (due.Command (ticket 0) ∷ []), refl, omega arith, (Ok tt, refl, (λ e. absurd (cc)), (refl, (refl, refl), refl)), refl),
              refl,
            ) (refl, (refl, tt)) refl ([], refl) refl,
            (
              scene (w1 (t9 port)) (c l1 (pending None) served) [] 1 k6 log3,
              (
                sent,
                link 0 (wire 0 (Runs ((ticket 0, set) ∷ []) ∷ []) [] false) (due.Command (ticket 0) ∷ []),
                wire 0 [] (ok ∷ []) false,
                ok ∷ [],
                did 0 set ok ∷ [],
                refl,
                refl,
                refl,
                inr (inl ([], (ticket 0, set) ∷ [], Reply ok ∷ [], refl, refl, does-set, (refl, tt), refl, refl)),
                refl,
                refl,
              ),
              (
                scene (w1 (t9 port)) (c l1 (pending None) got) [] 1 k6 log3,
                at-carrier l1 (
                  0,
                  served,
                  got,
                  refl,
                  (
                    link 0 (wire 0 [] (ok ∷ []) false) (due.Command (ticket 0) ∷ []),
                    link 0 (wire 0 [] [] false) [],
                    ticket 0,
                    Reply ok,
                    refl,
                    (refl, (ok, refl, inr (refl, (refl, refl)), refl, refl, refl)),
                    refl,
                  ),
                  refl,
                ) (refl, (refl, tt)) refl ([], refl) refl,
                (
                  scene (w1 (t9 port)) (c l2 (pending None) idle) [] 1 k6 log3,
                  at-carrier l2 (
                    0,
                    got,
                    idle,
                    refl,
                    (new_pending_told (ticket 0) (Reply ok), refl, refl, inl (l1, l2, refl, refl, (refl, (_, refl, posts [] (ticket 0, Reply ok)))), refl),
                    refl,
                  ) (refl, (refl, tt)) refl ([], refl) refl,
                  (
                    scene (w2 (t10 port) 0) (c l2 (pending None) idle) [] 1 k6 log3,
                    at-worker l2 [] refl (
                      takes [] (ticket 0, Reply ok),
                      (true, (a6 port, a7 port, put _ (a6 port) 0, (awaits setting, (put empty (awaits setting) 0, refl, refl), refl), refl, refl)),
                      refl,
                    ) refl (down-in l2 (w2 (t10 port) 0) _ refl ([], refl)) refl,
                    (
                      scene (w2 (t11 port) (one_more 0)) (c l2 (pending None) idle) [] 1 k6 log3,
                      at-worker l2 [] refl (
                        a7 port,
                        a8 port,
                        put _ (a7 port) 0,
                        ((progress_told (awaits setting) (Reply ok), put posted1 _ 0, refl, refl), tt, refl, refl),
                        refl,
                      ) refl (down-in l2 (w2 (t11 port) 0) _ refl ([], refl)) refl,
                      (
                        scene (w2 (t12 port) (one_more 0)) (c l2 (pending None) idle) [] 1 k6 log4,
                        at-client l2 0 (a8 port) (a9 port) (outlet_with up1) [] refl (put _ (a8 port) 0) (
                          refl,
                          (codes "+OK\r\n", refl, refl, drains),
                          refl,
                        ) (put _ (a9 port) 0) (down-in l2 (w2 (t11 port) 0) _ refl ([], refl)) refl,
                        (
                          s4,
                          at-client l2 0 (a9 port) (a10 port) (outlet_with up1) [] refl (put _ (a9 port) 0) (tt, refl, refl) (put _ (a10 port) 0) (down-in l2 (w2 (t12 port) 0) _ refl ([], refl)) refl,
                          refl,
                        ),
                      ),
                    ),
                  ),
                ),
              ),
            ),
          ),
        ),
      ),
    ),
  )
