-- A client's GET goes to the first node, which executes it, and the client is answered. The log may hold something before.
use Rattle.std.proofs.Common.{◌≡◌, inl, inr, ℕ, ◌*◌, ◌<◌, true, false, List, [], ◌∷◌, ◌++◌, Some, None, Ok, refl, sym, ap, subst, arith, length}
use Rattle.std.specs.Prelude.{codes, Option}
use Rattle.std.specs.List.{FoldsTo}
use Rattle.std.specs.FinMap.{FinMap, insert, remove, empty, get-empty}
use Rattle.std.specs.Ordering.{nat_cmp}
use Rattle.resp_wire.specs.Data.{bulk}
use Rattle.resp_wire.specs.Laws.{FrontIsWhole}
use Rattle.resp_wire.specs.declared.value.Value.{Value}
use Rattle.resp_wire.specs.declared.value.Value.TheVariants.{Array}
use Rattle.key_split.specs.Runs.{RunModel}
use Rattle.key_split.specs.declared.travel.Ended.TheVariants as ended
use Rattle.key_split.specs.declared.travel.Told.TheVariants.{Reply}
use Rattle.slot_hash.specs.Slot.{slot_of}
use Rattle.command_future.specs.CommandModel.{CommandModel, fresh, progress_told}
use Rattle.node_model.specs.Nodes.{ClusterModel, role_of, store_at}
use Rattle.node_model.specs.Runs.{deed_for, DoesRun}
use Rattle.node_model.specs.Serving.{deed_at, deed_of, held_of, NodeDoes}
use Rattle.node_model.specs.Store.{put as put_at, bulk_of}
use Rattle.node_model.specs.declared.role.Deed.TheVariants.{Executes}
use Rattle.node_model.specs.declared.role.Verdict.TheVariants.{Plain}
use Rattle.key_split.specs.PartModel.{keys_of}
use Rattle.node_link.specs.declared.link.Due.TheVariants as due
use Rattle.proxy_lanes.specs.Lane.{numbered}
use Rattle.proxy_lanes.specs.declared.ends.lane_ends.LaneEnds.{LaneEnds}
use Rattle.proxy_lanes.specs.declared.ring.Numbered.{Numbered}
use Rattle.proxy_turns.specs.declared.newcomer.Newcomer.{Newcomer}
use Rattle.proxy_turns.specs.declared.backend.Backend.{Backend}
use Rattle.proxy_turns.specs.declared.pending_run.PendingRun.{PendingRun}
use Rattle.proxy_turns.specs.Backend.{new_backend, new_pending_told}
use Rattle.proxy_turns.specs.ClientModel.{ClientModel}
use Rattle.proxy_turns.specs.WorkerModel.{WorkerModel, one_more}
use Rattle.proxy_turns.specs.CarrierModel.{CarrierModel}
use Rattle.session_order.specs.SessionModel.{SessionModel}
use Rattle.session_order.specs.Steps.{added, with_incoming}
use Rattle.session_order.specs.Replies.{Drains, bytes_of, first_replies}
use Rattle.session_order.specs.declared.queue.PartStage.TheVariants.{Waiting, Out, Done}
use Rattle.turn_laws.specs.Wire.{Wire, Execution, Runs, ServesNext}
use Rattle.turn_laws.specs.System.{System, Mark}
use Rattle.turn_laws.specs.System as seen
use Rattle.turn_laws.specs.Steps.{ServesBy, SystemStep}
use Rattle.turn_laws.specs.Scripts as script
use Rattle.turn_laws.specs.Scripts.{key, five, ticket, plain, did}
use Rattle.turn_laws.specs.SharedScripts.{asked, sending, reading, telling}
use Rattle.turn_laws.proofs.Rings.{posts, takes, outlet_with}
use Rattle.turn_laws.proofs.Scenes.{scene, put, at-worker, at-client, at-carrier, handing, down-in}
use Rattle.turn_laws.proofs.ScriptFacts.{held, read, none, table, k5, k6, slot-is, in-held, alone, front-get, planned-get, written-five, fresh-alone, goes-alone}
use Rattle.turn_laws.proofs.ScriptStates.{Pair, Posted, session, one, commands, awaits, wire, link, backend, pending, newcomer, lane, new_lane, carrier, worker, client}
use Rattle.turn_laws.proofs.ScriptAsking.{doors}
use Rattle.turn_laws.proofs.ScriptSetting.{below-one, idle}

-- ---- the node

abbrev pub k6' : ClusterModel
k6' = record { slots = k5.slots; stores = read ∷ none ∷ [] }

executes : deed_at k6 0 false script.get Plain ≡ Executes
executes = ap (λ n. deed_of Plain (role_of k6 0 n) false (held_of (store_at k6 0) (keys_of script.get)) true n) slot-is

abbrev store_read : Option (List ℕ) → ClusterModel
store_read o = record { slots = k5.slots; stores = put_at held key o ∷ none ∷ [] }

does-read : DoesRun (deed_for k6 0 false (script.get ∷ []) Plain) k6 0 (script.get ∷ []) (Reply five ∷ []) k6'
does-read = alone k6 k6' 0 false script.get (Reply five)
    (subst (λ d. NodeDoes d k6 0 script.get (Reply five) k6') (sym executes) (ap bulk_of (sym in-held), ap store_read (sym in-held)))

-- ---- the lanes' items

abbrev up : List (Numbered RunModel)
up = numbered 0 (plain 0 0 script.get) ∷ []

abbrev down : List (Numbered Pair)
down = numbered 0 (ticket 0, Reply five) ∷ []

-- ---- the session: the part waits, is out, has ended, and then its reply was drained

abbrev n0 : SessionModel
n0 = session [] [] [] 0 []

abbrev n1 : SessionModel
n1 = session [] [] [] 0 asked

abbrev n2 : SessionModel
n2 = session (Waiting script.get ∷ []) (ended.Lost ∷ []) (one ∷ []) 0 []

abbrev n3 : SessionModel
n3 = session (Out (slot_of key) ∷ []) (ended.Lost ∷ []) (one ∷ []) 0 []

abbrev n4 : SessionModel
n4 = session (Done ∷ []) (ended.Answered five ∷ []) (one ∷ []) 0 []

abbrev n5 : SessionModel
n5 = session [] [] [] 1 []

drains : Drains (64 * 1024) n4 (codes "$1\r\n5\r\n") n5
drains = record {
  count = 1;
  written = record {
    in_order = omega arith;
    spelled = written-five;
    no_more = below-one (λ fewer. length (bytes_of (first_replies fewer n4.requests n4.stages n4.ends [])) < 64 * 1024) (omega arith);
    all = λ short. refl;
  };
  left = refl;
  all = λ short. (written-five, refl);
}

-- ---- the command

abbrev getting : CommandModel
getting = fresh (ticket 0) script.get

abbrev p1 : Posted
p1 = insert empty 0 (awaits getting)

abbrev p2 : Posted
p2 = insert p1 0 (progress_told (awaits getting) (Reply five))

abbrev p3 : Posted
p3 = remove p2 0

-- ---- the connection to the first node, with the command, with its reply, and with what its worker is told

abbrev sent : Backend Wire
sent = backend (Some (link 0 (wire 0 (Runs ((ticket 0, script.get) ∷ []) ∷ []) [] false) (due.Command (ticket 0) ∷ []))) None

abbrev served : Backend Wire
served = backend (Some (link 0 (wire 0 [] (five ∷ []) false) (due.Command (ticket 0) ∷ []))) None

abbrev got : Backend Wire
got = backend (Some (link 0 (wire 0 [] [] false) [])) (Some (new_pending_told (ticket 0) (Reply five)))

-- ---- the client

module _ {C : Type 0} (port : C) where
  abbrev b0 : ClientModel C
  b0 = client port n0 (commands [] empty) [] []

  abbrev b1 : ClientModel C
  b1 = client port n0 (commands [] empty) asked []

  abbrev b2 : ClientModel C
  b2 = client port n1 (commands [] empty) [] []

  abbrev b3 : ClientModel C
  b3 = client port n2 (commands [] empty) [] []

  abbrev b4 : ClientModel C
  b4 = client port n3 (commands (getting ∷ []) empty) [] []

  abbrev b5 : ClientModel C
  b5 = client port n3 (commands [] p1) [] []

  abbrev b6 : ClientModel C
  b6 = client port n3 (commands [] p2) [] []

  abbrev b7 : ClientModel C
  b7 = client port n4 (commands [] p3) [] []

  abbrev b8 : ClientModel C
  b8 = client port n5 (commands [] p3) [] (codes "$1\r\n5\r\n")

  abbrev b9 : ClientModel C
  b9 = client port n5 (commands [] p3) [] []

  abbrev u0 : FinMap nat_cmp (ClientModel C)
  u0 = insert empty 0 b0

  abbrev u1 : FinMap nat_cmp (ClientModel C)
  u1 = insert u0 0 b0

  abbrev u2 : FinMap nat_cmp (ClientModel C)
  u2 = insert u1 0 b1

  abbrev u3 : FinMap nat_cmp (ClientModel C)
  u3 = insert u2 0 b2

  abbrev u4 : FinMap nat_cmp (ClientModel C)
  u4 = insert u3 0 b3

  abbrev u5 : FinMap nat_cmp (ClientModel C)
  u5 = insert u4 0 b4

  abbrev u6 : FinMap nat_cmp (ClientModel C)
  u6 = insert u5 0 b5

  abbrev u7 : FinMap nat_cmp (ClientModel C)
  u7 = insert u6 0 b6

  abbrev u8 : FinMap nat_cmp (ClientModel C)
  u8 = insert u7 0 b7

  abbrev u9 : FinMap nat_cmp (ClientModel C)
  u9 = insert u8 0 b8

  abbrev u10 : FinMap nat_cmp (ClientModel C)
  u10 = insert u9 0 b9

-- ---- the steps

-- a step of which nothing is seen
abbrev quiet : List Mark → List Mark
quiet log = log ++ []

-- the command has arrived, and the node executed it
abbrev arrived : List Mark → List Mark
arrived log = quiet (quiet (quiet (quiet log))) ++ seen.Arrived (ticket 0) script.get ∷ []

abbrev executed : List Mark → List Mark
executed log = log ++ seen.Executed (did 0 script.get five ∷ []) ∷ []

module _ {C J : Type 0} (port : C) where
  abbrev l0 : LaneEnds (Newcomer C J)
  l0 = lane port [] []

  abbrev l1 : LaneEnds (Newcomer C J)
  l1 = lane port up []

  abbrev l2 : LaneEnds (Newcomer C J)
  l2 = lane port up down

  abbrev c : LaneEnds (Newcomer C J) → PendingRun → Backend Wire → CarrierModel (Newcomer C J) Wire
  c l run b = carrier l (run ∷ []) (b ∷ new_backend ∷ []) false

  -- the worker before anything came, before and after the command was posted, and after its reply was taken
  abbrev nobody : WorkerModel C J
  nobody = worker empty None [] [] [] 0

  abbrev w0 : FinMap nat_cmp (ClientModel C) → WorkerModel C J
  w0 clients = worker clients (Some 0) (doors port) [] [] 0

  abbrev w1 : FinMap nat_cmp (ClientModel C) → WorkerModel C J
  w1 clients = worker clients (Some 0) (doors port) up [] 0

  abbrev w2 : FinMap nat_cmp (ClientModel C) → ℕ → WorkerModel C J
  w2 clients answered = worker clients (Some 0) (doors port) up down answered

  -- before
  abbrev pub connected : ClusterModel → List Mark → System C J
  connected k log = scene nobody (c new_lane (pending None) idle) [] 1 k log

  -- while the command is on its way
  abbrev pub waiting : ClusterModel → List Mark → System C J
  waiting k log = scene (w1 (u6 port)) (c l1 (pending None) sent) [] 1 k log

  -- and after its client was answered
  abbrev pub answered : ClusterModel → List Mark → System C J
  answered k log = scene (w2 (u10 port) (one_more 0)) (c l2 (pending None) idle) [] 1 k log

  pub sends : FrontIsWhole → (k : ClusterModel) (log : List Mark) → FoldsTo SystemStep (connected k log) sending (waiting k (quiet (quiet (arrived log))))
  sends law k log = (
    scene nobody (c l0 (pending None) idle) [] 1 k log,
    handing (c new_lane (pending None) idle) (c l0 (pending None) idle) new_lane l0 (newcomer port) refl (refl, posts [] (newcomer port)) refl refl,
    (
      scene (w0 (u0 port)) (c l0 (pending None) idle) [] 1 k (quiet log),
      at-worker l0 [] refl (newcomer port, takes [] (newcomer port), refl, refl, ((omega arith, refl), (tt, get-empty nat_cmp 0)), refl, refl) refl (down-in l0 (w0 (u0 port)) _ refl ([], refl)) refl,
      (
        scene (w0 (u1 port)) (c l0 (pending None) idle) [] 1 k (quiet (quiet log)),
        at-client l0 0 (b0 port) (b0 port) (outlet_with []) [] refl (put empty (b0 port) 0) (tt, refl) (put (u0 port) (b0 port) 0) (down-in l0 (w0 (u0 port)) _ refl ([], refl)) refl,
        (
          scene (w0 (u2 port)) (c l0 (pending None) idle) [] 1 k (quiet (quiet (quiet log))),
          at-client l0 0 (b0 port) (b1 port) (outlet_with []) [] refl (put (u0 port) (b0 port) 0) (tt, refl) (put (u1 port) (b1 port) 0) (down-in l0 (w0 (u1 port)) _ refl ([], refl)) refl,
          (
            scene (w0 (u3 port)) (c l0 (pending None) idle) [] 1 k (quiet (quiet (quiet (quiet log)))),
            at-client l0 0 (b1 port) (b2 port) (outlet_with []) [] refl (put (u1 port) (b1 port) 0) (inr (omega arith, refl, inl (refl, refl)), refl) (put (u2 port) (b2 port) 0) (down-in l0 (w0 (u2 port)) _ refl ([], refl)) refl,
            (
              scene (w0 (u4 port)) (c l0 (pending None) idle) [] 1 k (arrived log),
              at-client l0 0 (b2 port) (b3 port) (outlet_with []) [] refl (put (u2 port) (b2 port) 0) (
                (
                  (refl, omega arith),
                  inl (
                    codes "GET" ∷ key ∷ [],
                    n2.incoming,
                    (
                      inr (refl, Array (bulk (codes "GET") ∷ bulk key ∷ []), (refl, front-get law, refl), refl, refl),
                      ap (added (with_incoming n1 n2.incoming)) planned-get,
                    ),
                  ),
                ),
                refl,
              ) (put (u3 port) (b3 port) 0) (down-in l0 (w0 (u3 port)) _ refl ([], refl)) refl,
              (
                scene (w0 (u5 port)) (c l0 (pending None) idle) [] 1 k (quiet (arrived log)),
                at-client l0 0 (b3 port) (b4 port) (outlet_with []) [] refl (put (u3 port) (b3 port) 0) (
                  refl,
                  refl,
                  (0, ((script.get, refl, refl), (λ j lt m. absurd (omega (arith, lt))), refl), refl, refl),
                  refl,
                ) (put (u4 port) (b4 port) 0) (down-in l0 (w0 (u4 port)) _ refl ([], refl)) refl,
                (
                  scene (w1 (u6 port)) (c l0 (pending None) idle) [] 1 k (quiet (quiet (arrived log))),
                  at-client l0 0 (b4 port) (b5 port) (outlet_with up) [] refl (put (u4 port) (b4 port) 0) (
                    getting,
                    [],
                    commands [] empty,
                    inl (refl, fresh-alone getting refl, refl),
                    (λ e. absurd (cc)),
                    (slot_of key, omega arith, refl, refl, refl, refl),
                    tt,
                    (Ok None, (([], refl), refl), refl),
                    refl,
                    goes-alone,
                    omega arith,
                    posts [] (plain 0 0 script.get),
                    refl,
                  ) (put (u5 port) (b5 port) 0) (down-in l0 (w0 (u5 port)) _ refl ([], refl)) refl,
                  (
                    scene (w1 (u6 port)) (c l1 (pending (Some (plain 0 0 script.get))) idle) [] 1 k (quiet (quiet (arrived log))),
                    at-carrier l1 (
                      0,
                      pending None,
                      pending (Some (plain 0 0 script.get)),
                      refl,
                      (plain 0 0 script.get, refl, refl, (l0, l1, refl, refl, (refl, takes [] (plain 0 0 script.get)))),
                      refl,
                    ) (refl, (refl, tt)) refl ([], refl) refl,
                    (
                      waiting k (quiet (quiet (arrived log))),
                      at-carrier l1 (
                        0,
                        pending (Some (plain 0 0 script.get)),
                        plain 0 0 script.get,
                        idle,
                        sent,
                        refl,
                        refl,
                        refl,
                        (link 0 (wire 0 [] [] false) [], link 0 (wire 0 (Runs ((ticket 0, script.get) ∷ []) ∷ []) [] false) (due.Command (ticket 0) ∷ []), refl, omega arith, (Ok tt, refl, (λ e. absurd (cc)), (refl, (refl, refl), refl)), refl),
                        refl,
                      ) (refl, (refl, tt)) refl ([], refl) refl,
                      refl,
                    ),
                  ),
                ),
              ),
            ),
          ),
        ),
      ),
    ),
  )

  -- the node of this connection, or another one, executed the command
  abbrev pub replied : ClusterModel → List Mark → System C J
  replied k log = scene (w1 (u6 port)) (c l1 (pending None) served) [] 1 k (executed log)

  pub serving : (how : Wire → ClusterModel → Wire → List Value → List Execution → Type 0) (k k' : ClusterModel) (log : List Mark)
      → how (wire 0 (Runs ((ticket 0, script.get) ∷ []) ∷ []) [] false) k' (wire 0 [] (five ∷ []) false) (five ∷ []) (did 0 script.get five ∷ []) → ServesBy how (waiting k log) 0 (replied k' log)
  serving how k k' log does = (
    sent,
    link 0 (wire 0 (Runs ((ticket 0, script.get) ∷ []) ∷ []) [] false) (due.Command (ticket 0) ∷ []),
    wire 0 [] (five ∷ []) false,
    five ∷ [],
    did 0 script.get five ∷ [],
    refl,
    refl,
    refl,
    does,
    refl,
    refl,
  )

  pub tells : (k : ClusterModel) (log : List Mark) → FoldsTo SystemStep (replied k log) telling
      (answered k (quiet (quiet (quiet (executed log)) ++ seen.Answered (ticket 0) (ended.Answered five) ∷ [])))
  tells k log = (
    scene (w1 (u6 port)) (c l1 (pending None) got) [] 1 k (executed log),
    at-carrier l1 (
      0,
      served,
      got,
      refl,
      (
        link 0 (wire 0 [] (five ∷ []) false) (due.Command (ticket 0) ∷ []),
        link 0 (wire 0 [] [] false) [],
        ticket 0,
        Reply five,
        refl,
        (refl, (five, refl, inr (refl, (refl, refl)), refl, refl, refl)),
        refl,
      ),
      refl,
    ) (refl, (refl, tt)) refl ([], refl) refl,
    (
      scene (w1 (u6 port)) (c l2 (pending None) idle) [] 1 k (executed log),
      at-carrier l2 (
        0,
        got,
        idle,
        refl,
        (new_pending_told (ticket 0) (Reply five), refl, refl, inl (l1, l2, refl, refl, (refl, (_, refl, posts [] (ticket 0, Reply five)))), refl),
        refl,
      ) (refl, (refl, tt)) refl ([], refl) refl,
      (
        scene (w2 (u7 port) 0) (c l2 (pending None) idle) [] 1 k (quiet (executed log)),
        at-worker l2 [] refl (
          takes [] (ticket 0, Reply five),
          (true, (b5 port, b6 port, put _ (b5 port) 0, (awaits getting, (put empty (awaits getting) 0, refl, refl), refl), refl, refl)),
          refl,
        ) refl (down-in l2 (w2 (u7 port) 0) _ refl ([], refl)) refl,
        (
          scene (w2 (u8 port) (one_more 0)) (c l2 (pending None) idle) [] 1 k (quiet (quiet (executed log))),
          at-worker l2 [] refl (
            b6 port,
            b7 port,
            put _ (b6 port) 0,
            ((progress_told (awaits getting) (Reply five), put p1 _ 0, refl, refl), tt, refl, refl),
            refl,
          ) refl (down-in l2 (w2 (u8 port) 0) _ refl ([], refl)) refl,
          (
            scene (w2 (u9 port) (one_more 0)) (c l2 (pending None) idle) [] 1 k (quiet (quiet (executed log)) ++ seen.Answered (ticket 0) (ended.Answered five) ∷ []),
            at-client l2 0 (b7 port) (b8 port) (outlet_with up) [] refl (put _ (b7 port) 0) (
              refl,
              (codes "$1\r\n5\r\n", refl, refl, drains),
              refl,
            ) (put _ (b8 port) 0) (down-in l2 (w2 (u8 port) 0) _ refl ([], refl)) refl,
            (
              answered k (quiet (quiet (quiet (executed log)) ++ seen.Answered (ticket 0) (ended.Answered five) ∷ [])),
              at-client l2 0 (b8 port) (b9 port) (outlet_with up) [] refl (put _ (b8 port) 0) (tt, refl, refl) (put _ (b9 port) 0) (down-in l2 (w2 (u9 port) 0) _ refl ([], refl)) refl,
              refl,
            ),
          ),
        ),
      ),
    ),
  )

  pub reads : (log : List Mark) → FoldsTo SystemStep (waiting k6 log) reading
      (answered k6' (quiet (quiet (quiet (executed log)) ++ seen.Answered (ticket 0) (ended.Answered five) ∷ [])))
  reads log = (
    replied k6' log,
    serving (λ old. ServesNext table k6 old Plain) k6 k6' log (inr (inl ([], (ticket 0, script.get) ∷ [], Reply five ∷ [], refl, refl, does-read, (refl, tt), refl, refl))),
    tells k6' log,
  )
