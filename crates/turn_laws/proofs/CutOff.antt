-- The connection to the second node breaks behind ASKING; the client reads slowly, and is gone in the midst of its next request.
use Rattle.std.proofs.Common.{◌≡◌, inl, inr, true, ◌*◌, ◌<◌, ℕ, List, [], ◌∷◌, ◌++◌, Some, None, refl, arith, length, drop}
use Rattle.std.specs.Prelude.{codes}
use Rattle.std.specs.List.{FoldsTo}
use Rattle.std.specs.FinMap.{FinMap, insert, remove}
use Rattle.std.specs.Ordering.{nat_cmp}
use Rattle.key_split.specs.declared.planned.Joining.TheVariants.{One}
use Rattle.key_split.specs.declared.travel.Ended.TheVariants as ended
use Rattle.key_split.specs.declared.travel.Told.TheVariants as told
use Rattle.command_future.specs.CommandModel.{CommandModel, progress_told}
use Rattle.node_link.specs.LinkModel.{LinkModel}
use Rattle.node_link.specs.declared.link.Due.TheVariants as due
use Rattle.node_link.specs.declared.link.Failure.TheVariants as failure
use Rattle.node_link.specs.declared.link.LinkFault.TheVariants as fault
use Rattle.node_model.specs.Nodes.{ClusterModel}
use Rattle.node_model.specs.Moves.{own_done, release_done}
use Rattle.proxy_lanes.specs.Lane.{numbered}
use Rattle.proxy_lanes.specs.declared.ends.lane_ends.LaneEnds.{LaneEnds}
use Rattle.proxy_lanes.specs.declared.ring.Numbered.{Numbered}
use Rattle.proxy_turns.specs.declared.newcomer.Newcomer.{Newcomer}
use Rattle.proxy_turns.specs.declared.backend.Backend.{Backend}
use Rattle.proxy_turns.specs.Backend.{new_backend, new_pending_told}
use Rattle.proxy_turns.specs.ClientModel.{ClientModel}
use Rattle.proxy_turns.specs.WorkerModel.{WorkerModel, one_more}
use Rattle.session_order.specs.HangingUp.{HangsUp}
use Rattle.session_order.specs.SessionModel.{SessionModel}
use Rattle.session_order.specs.Replies.{Drains, bytes_of, first_replies, joined, spelling}
use Rattle.session_order.specs.declared.closing.Closing.TheVariants.{Quit}
use Rattle.session_order.specs.declared.queue.PartStage.TheVariants.{Done}
use Rattle.turn_laws.specs.Wire.{Wire, Runs}
use Rattle.turn_laws.specs.System.{System, Mark}
use Rattle.turn_laws.specs.System as seen
use Rattle.turn_laws.specs.Steps.{SystemStep}
use Rattle.turn_laws.specs.Scripts as script
use Rattle.turn_laws.specs.Scripts.{ok, ticket}
use Rattle.turn_laws.specs.ByteStory.{cut_off, half, moved_on, reading_slowly}
use Rattle.turn_laws.proofs.Rings.{posts, takes, outlet_with}
use Rattle.turn_laws.proofs.Scenes.{scene, put, at-worker, at-client, past-failure, breaking, down-in}
use Rattle.turn_laws.proofs.ScriptFacts.{k8, given-none}
use Rattle.turn_laws.proofs.ScriptStates.{Pair, Posted, session, one, commands, awaits, sent-on, posted5, posted6, wire, link, backend, pending, lane, worker, client, up3, down2}
use Rattle.turn_laws.proofs.ScriptAsking.{doors}
use Rattle.turn_laws.proofs.ScriptSetting.{below-one, idle, log4}
use Rattle.turn_laws.proofs.ScriptReply.{a14, t17, n9, welcomed}
use Rattle.turn_laws.proofs.ScriptGetting.{l5, learnt, s7, w5}

-- ---- the connection, as it failed, with the command's ticket and without, and what is left of it

abbrev awaiting : LinkModel Wire
awaiting = link 1 (wire 1 (Runs ((ticket 1, script.get) ∷ []) ∷ []) (ok ∷ []) true) (due.Asking ∷ due.Command (ticket 1) ∷ [])

abbrev failed : LinkModel Wire
failed = record awaiting { failure = Some failure.PortFailed }

abbrev let-go : LinkModel Wire
let-go = record failed { due = [] }

abbrev pub left : Wire
left = wire 1 (Runs ((ticket 1, script.get) ∷ []) ∷ []) [] true

-- ---- the second command is lost

abbrev lost : CommandModel
lost = progress_told (awaits sent-on) told.Lost

abbrev posted-lost : Posted
posted-lost = insert posted6 1 lost

abbrev none-posted : Posted
none-posted = remove posted-lost 1

abbrev down3 : List (Numbered Pair)
down3 = numbered 0 (ticket 0, told.Reply ok) ∷ numbered 1 (ticket 1, told.Ask 1 1) ∷ numbered 2 (ticket 1, told.Lost) ∷ []

-- ---- the session

abbrev ended-lost : SessionModel
ended-lost = session (Done ∷ []) (ended.Lost ∷ []) (one ∷ []) 1 []

-- it was fed the half of a request
abbrev with-half : SessionModel
with-half = session [] [] [] 2 half

abbrev hung-up : SessionModel
hung-up = record n9 { closing = Quit }

abbrev line : List ℕ
line = codes "-ERR proxy: connection lost, outcome unknown\r\n"

-- how much of it the client took
abbrev taken : ℕ
taken = 27

written : line ≡ bytes_of (joined One (ended.Lost ∷ []) ∷ [])
unfolding joined spelling
written = refl

drains : Drains (64 * 1024) ended-lost line n9
drains = record {
  count = 1;
  written = record {
    in_order = omega arith;
    spelled = written;
    no_more = below-one (λ fewer. length (bytes_of (first_replies fewer ended-lost.requests ended-lost.stages ended-lost.ends [])) < 64 * 1024) (omega arith);
    all = λ short. refl;
  };
  left = refl;
  all = λ short. (written, refl);
}

hangs : HangsUp with-half hung-up
hangs = record {
  owner = (refl, refl);
  unread = (refl, refl, refl);
  none_waits = λ i h. h;
  none_owed = (refl, omega arith, refl);
  all_owed = refl;
  awaited = λ ticket. ((λ h. h), (λ h. h));
  first = refl;
  places = λ i slot. ((λ h. h), (λ h. h));
}

-- ---- the client: its command was told, has ended, was drained and written in part; half a request came, was fed, and the client is gone

module _ {C : Type 0} (port : C) where
  abbrev b1 : ClientModel C
  b1 = record (a14 port) { commands = commands [] posted-lost }

  abbrev b2 : ClientModel C
  b2 = client port ended-lost (commands [] none-posted) [] []

  abbrev b3 : ClientModel C
  b3 = client port n9 (commands [] none-posted) [] line

  abbrev b4 : ClientModel C
  b4 = client port n9 (commands [] none-posted) [] (drop taken line)

  abbrev b5 : ClientModel C
  b5 = client port n9 (commands [] none-posted) half (drop taken line)

  abbrev b6 : ClientModel C
  b6 = client port with-half (commands [] none-posted) [] (drop taken line)

  abbrev b7 : ClientModel C
  b7 = record (client port hung-up (commands [] none-posted) [] []) { gone = true }

  abbrev c1 : FinMap nat_cmp (ClientModel C)
  c1 = insert (t17 port) 0 b1

  abbrev c2 : FinMap nat_cmp (ClientModel C)
  c2 = insert c1 0 b2

  abbrev c3 : FinMap nat_cmp (ClientModel C)
  c3 = insert c2 0 b3

  abbrev c4 : FinMap nat_cmp (ClientModel C)
  c4 = insert c3 0 b4

  abbrev c5 : FinMap nat_cmp (ClientModel C)
  c5 = insert c4 0 b5

  abbrev c6 : FinMap nat_cmp (ClientModel C)
  c6 = insert c5 0 b6

  abbrev c7 : FinMap nat_cmp (ClientModel C)
  c7 = insert c6 0 b7

-- ---- the nodes, and what is seen

abbrev k9 : ClusterModel
k9 = own_done k8 1

abbrev pub k10 : ClusterModel
k10 = release_done k9 1

abbrev pub log5 : List Mark
log5 = log4 ++ seen.Answered (ticket 1) ended.Lost ∷ []

module _ {C J : Type 0} (port : C) where
  abbrev l6 : LaneEnds (Newcomer C J)
  l6 = lane port up3 down3

  -- after the loss was taken
  abbrev w6 : FinMap nat_cmp (ClientModel C) → ℕ → WorkerModel C J
  w6 clients answered = worker clients (Some 0) (doors port) up3 down3 answered

  -- the carrier, with the second backend so
  abbrev beside : LaneEnds (Newcomer C J) → Backend Wire → System C J
  beside l b = scene (w5 port (t17 port)) (learnt port l (pending None) idle b) (left ∷ []) 2 k8 log4

  -- the connection is gone
  abbrev without : WorkerModel C J → ClusterModel → List Mark → System C J
  without model k log = scene model (learnt port l6 (pending None) idle new_backend) (left ∷ []) 2 k log

  abbrev pub s8 : System C J
  s8 = without (w6 (c2 port) (one_more (one_more 0))) k8 log4

  pub cuts : FoldsTo SystemStep (s7 {C = C} {J = J} port) cut_off s8
  cuts = (
    beside (l5 port) (backend (Some failed) None),
    breaking (l5 port) 1 welcomed (backend (Some failed) None) awaiting failed (
      1,
      welcomed,
      backend (Some failed) None,
      refl,
      (
        awaiting,
        failed,
        fault.PortFailed,
        (λ e. absurd (cc)),
        (refl, (refl, inr (refl, refl, (inr (omega arith), (refl, (refl, refl)), refl)))),
        refl,
      ),
      refl,
    ) refl refl refl refl refl refl refl ([], refl) refl,
    (
      beside (l5 port) (backend (Some let-go) (Some (new_pending_told (ticket 1) told.Lost))),
      past-failure (l5 port) (
        1,
        backend (Some failed) None,
        backend (Some let-go) (Some (new_pending_told (ticket 1) told.Lost)),
        refl,
        (failed, let-go, ticket 1, refl, refl, refl, refl, refl, refl),
        refl,
      ) (inr refl, (inl refl, tt)) refl ([], refl) refl,
      (
        beside l6 (backend (Some let-go) None),
        past-failure l6 (
          1,
          backend (Some let-go) (Some (new_pending_told (ticket 1) told.Lost)),
          backend (Some let-go) None,
          refl,
          (new_pending_told (ticket 1) told.Lost, refl, refl, inl (l5 port, l6, refl, refl, (refl, (_, refl, posts down2 (ticket 1, told.Lost)))), refl),
          refl,
        ) (inr refl, (inl refl, tt)) refl ([], refl) refl,
        (
          without (w5 port (t17 port)) k8 log4,
          past-failure l6 (
            1,
            backend (Some let-go) None,
            new_backend,
            refl,
            (let-go, refl, refl, refl, refl, refl),
            refl,
          ) (inr refl, (inl refl, tt)) refl ([], refl) refl,
          (
            without (w6 (c1 port) (one_more 0)) k8 log4,
            at-worker l6 [] refl (
              takes down2 (ticket 1, told.Lost),
              (true, (a14 port, b1 port, put _ (a14 port) 0, (awaits sent-on, (put posted5 (awaits sent-on) 1, refl, refl), refl), refl, refl)),
              refl,
            ) refl (down-in l6 (w6 (c1 port) 0) _ refl ([], refl)) refl,
            (
              s8,
              at-worker l6 [] refl (
                b1 port,
                b2 port,
                put _ (b1 port) 0,
                ((lost, put posted6 lost 1, refl, refl), tt, refl, refl),
                refl,
              ) refl (down-in l6 (w6 (c2 port) 0) _ refl ([], refl)) refl,
              refl,
            ),
          ),
        ),
      ),
    ),
  )

  abbrev of : FinMap nat_cmp (ClientModel C) → System C J
  of clients = without (w6 clients (one_more (one_more 0))) k8 log5

  pub reads-slowly : FoldsTo SystemStep s8 reading_slowly (of (c7 port))
  reads-slowly = (
    of (c3 port),
    at-client l6 0 (b2 port) (b3 port) (outlet_with up3) [] refl (put _ (b2 port) 0) (
      refl,
      (line, refl, refl, drains),
      refl,
    ) (put _ (b3 port) 0) (down-in l6 (w6 (c2 port) 0) _ refl ([], refl)) refl,
    (
      of (c4 port),
      at-client l6 0 (b3 port) (b4 port) (outlet_with up3) [] refl (put _ (b3 port) 0) (tt, refl, refl) (put _ (b4 port) 0) (down-in l6 (w6 (c3 port) 0) _ refl ([], refl)) refl,
      (
        of (c5 port),
        at-client l6 0 (b4 port) (b5 port) (outlet_with up3) [] refl (put _ (b4 port) 0) (tt, refl) (put _ (b5 port) 0) (down-in l6 (w6 (c4 port) 0) _ refl ([], refl)) refl,
        (
          of (c6 port),
          at-client l6 0 (b5 port) (b6 port) (outlet_with up3) [] refl (put _ (b5 port) 0) (inr (omega arith, refl, inl (refl, refl)), refl) (put _ (b6 port) 0)
              (down-in l6 (w6 (c5 port) 0) _ refl ([], refl)) refl,
          (
            of (c7 port),
            at-client l6 0 (b6 port) (b7 port) (outlet_with up3) [] refl (put _ (b6 port) 0) (refl, tt, hangs, refl) (put _ (b7 port) 0) (down-in l6 (w6 (c6 port) 0) _ refl ([], refl)) refl,
            refl,
          ),
        ),
      ),
    ),
  )

  abbrev pub s9 : System C J
  s9 = of (c7 port)

  -- the second node owns the slot
  abbrev pub s10 : System C J
  s10 = without (w6 (c7 port) (one_more (one_more 0))) k10 log5

  pub settles : FoldsTo SystemStep s9 moved_on s10
  settles = (
    without (w6 (c7 port) (one_more (one_more 0))) k9 log5,
    (((refl, λ q e. given-none q), refl), refl),
    (
      s10,
      (((refl, λ q e. given-none q), refl), refl),
      refl,
    ),
  )
