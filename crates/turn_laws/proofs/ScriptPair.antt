-- Two commands go together: the node executes both at once, and each is told its reply.
use Rattle.std.proofs.Common.{◌≡◌, inl, inr, ℕ, zero, suc, ◌<◌, true, false, List, [], ◌∷◌, ◌++◌, Some, None, Ok, refl, sym, ap, ◌∙◌, subst, arith}
use Rattle.std.specs.Prelude.{All}
use Rattle.std.specs.List.{FoldsTo}
use Rattle.std.specs.FinMap.{FinMap, get, insert, remove, empty, get-insert, get-remove}
use Rattle.std.specs.Ordering.{nat_cmp}
use Rattle.std.specs.Cmp.{nat_cmp_total}
use Rattle.std.proofs.lemmas.List.Elements.{All-cons, All-nil}
use Rattle.resp_wire.specs.Laws.{FrontIsWhole}
use Rattle.key_split.specs.Runs.{RunModel, GoTogether, IsTogether}
use Rattle.key_split.specs.declared.travel.Ended.TheVariants as ended
use Rattle.key_split.specs.declared.travel.Told.TheVariants.{Reply}
use Rattle.slot_hash.specs.Slot.{slot_of}
use Rattle.command_future.specs.CommandModel.{CommandModel, IsFresh, progress_told}
use Rattle.node_model.specs.Nodes.{ClusterModel, role_of, store_at, with_store}
use Rattle.node_model.specs.Runs.{deed_for, DoesRun, have_one_key, keys_in, store_after_all}
use Rattle.node_model.specs.Serving.{deed_of, held_of}
use Rattle.node_model.specs.Store.{bulk_of}
use Rattle.node_model.specs.declared.role.Deed.TheVariants.{Executes}
use Rattle.node_model.specs.declared.role.Verdict.TheVariants.{Plain}
use Rattle.node_link.specs.LinkModel.{LinkModel}
use Rattle.node_link.specs.declared.link.Due.TheVariants as due
use Rattle.proxy_lanes.specs.Lane.{numbered}
use Rattle.proxy_lanes.specs.declared.ends.lane_ends.LaneEnds.{LaneEnds}
use Rattle.proxy_lanes.specs.declared.ring.Numbered.{Numbered}
use Rattle.proxy_turns.specs.declared.newcomer.Newcomer.{Newcomer}
use Rattle.proxy_turns.specs.declared.backend.Backend.{Backend}
use Rattle.proxy_turns.specs.declared.pending_run.PendingRun.{PendingRun}
use Rattle.proxy_turns.specs.Backend.{new_backend, new_pending_told}
use Rattle.proxy_turns.specs.ClientModel.{ClientModel}
use Rattle.proxy_turns.specs.WorkerModel.{WorkerModel, one_more}
use Rattle.proxy_turns.specs.CarrierModel.{CarrierModel}
use Rattle.session_order.specs.Behind.{IsOutBehind}
use Rattle.session_order.specs.Behind as behind
use Rattle.session_order.specs.SessionModel.{SessionModel}
use Rattle.session_order.specs.declared.queue.PartStage.TheVariants.{Out, Done}
use Rattle.turn_laws.specs.Wire.{Wire, Runs}
use Rattle.turn_laws.specs.System.{System, Mark}
use Rattle.turn_laws.specs.System as seen
use Rattle.turn_laws.specs.Steps.{SystemStep}
use Rattle.turn_laws.specs.Scripts as script
use Rattle.turn_laws.specs.Scripts.{key, set, ok, five, ticket, did, both, opening, asking, going_together, answered_together, story_of_pair, Happens}
use Rattle.turn_laws.proofs.Rings.{posts, takes, outlet_with}
use Rattle.turn_laws.proofs.Scenes.{scene, and-then, put, at-worker, at-client, at-carrier, down-in}
use Rattle.turn_laws.proofs.ScriptFacts.{k0, none, slot-is, in-held}
use Rattle.turn_laws.proofs.ScriptStates.{Pair, Posted, session, one, commands, awaits, setting, getting, wire, link, backend, pending, lane, new_lane, carrier, worker, client}
use Rattle.turn_laws.proofs.ScriptOpening.{s0, s1, starts, opens}
use Rattle.turn_laws.proofs.ScriptAsking.{a4, t6, log2, doors, asks-at}
use Rattle.turn_laws.proofs.ScriptSetting.{a5, t7, idle}

-- ---- the lanes' items

abbrev up : List (Numbered RunModel)
up = numbered 0 both ∷ []

abbrev down1 : List (Numbered Pair)
down1 = numbered 0 (ticket 0, Reply ok) ∷ []

abbrev down2 : List (Numbered Pair)
down2 = numbered 0 (ticket 0, Reply ok) ∷ numbered 1 (ticket 1, Reply five) ∷ []

-- ---- the session: both parts are out, and then they have ended

abbrev h1 : SessionModel
h1 = session (Out (slot_of key) ∷ Out (slot_of key) ∷ []) (ended.Lost ∷ ended.Lost ∷ []) (one ∷ one ∷ []) 0 []

abbrev h2 : SessionModel
h2 = session (Done ∷ Out (slot_of key) ∷ []) (ended.Answered ok ∷ ended.Lost ∷ []) (one ∷ one ∷ []) 0 []

abbrev h3 : SessionModel
h3 = session (Done ∷ Done ∷ []) (ended.Answered ok ∷ ended.Answered five ∷ []) (one ∷ one ∷ []) 0 []

-- ---- the commands

abbrev told0 : CommandModel
told0 = progress_told (awaits setting) (Reply ok)

abbrev told1 : CommandModel
told1 = progress_told (awaits getting) (Reply five)

abbrev q1 : Posted
q1 = insert (insert empty 0 (awaits setting)) 1 (awaits getting)

abbrev q2 : Posted
q2 = insert q1 0 told0

abbrev q3 : Posted
q3 = insert q2 1 told1

abbrev q4 : Posted
q4 = remove q3 0

abbrev q5 : Posted
q5 = remove q4 1

first-there : get q1 0 ≡ Some (awaits setting)
first-there = get-insert nat_cmp_total (insert empty 0 (awaits setting)) 1 (awaits getting) 0 ∙ put empty (awaits setting) 0

second-there : get q2 1 ≡ Some (awaits getting)
second-there = get-insert nat_cmp_total q1 0 told0 1 ∙ put (insert empty 0 (awaits setting)) (awaits getting) 1

first-over : get q3 0 ≡ Some told0
first-over = get-insert nat_cmp_total q2 1 told1 0 ∙ put q1 told0 0

second-over : get q4 1 ≡ Some told1
second-over = get-remove nat_cmp_total q3 0 1 ∙ put q2 told1 1

both-fresh : All IsFresh (setting ∷ getting ∷ [])
both-fresh = All-cons IsFresh setting (getting ∷ []) refl (All-cons IsFresh getting [] refl (All-nil IsFresh))

together : IsTogether both
together = All-cons (GoTogether both.first) (script.on_its_way 1 0 false script.get) [] (record {
  worker = refl;
  client = refl;
  node = refl;
  slot = refl;
  first_goes_plain = refl;
  next_goes_plain = refl;
}) (All-nil (GoTogether both.first))

-- below one there is none but the first
the-first : (number : ℕ) → number < 1 → behind.IsAmong (0 ∷ []) number
the-first zero lt = inl refl
the-first (suc n) lt = absurd (omega (arith, lt))

second-behind : IsOutBehind h1 (slot_of key) (0 ∷ []) (ticket 1)
second-behind = record {
  owner = (refl, refl);
  out = (omega arith, refl);
  earlier = All-cons (λ number. number < 1) 0 [] (omega arith) (All-nil (λ number. number < 1));
  others = λ number o lt. the-first number lt;
}

-- ---- what the node does

abbrev k' : ClusterModel
k' = with_store k0 0 (store_after_all none (set ∷ script.get ∷ []))

executes : deed_for k0 0 false (set ∷ script.get ∷ []) Plain ≡ Executes
executes = ap (λ n. deed_of Plain (role_of k0 0 n) false (held_of (store_at k0 0) (keys_in (set ∷ script.get ∷ []))) (have_one_key (set ∷ script.get ∷ [])) n) slot-is

does-both : DoesRun (deed_for k0 0 false (set ∷ script.get ∷ []) Plain) k0 0 (set ∷ script.get ∷ []) (Reply ok ∷ Reply five ∷ []) k'
does-both = subst (λ d. DoesRun d k0 0 (set ∷ script.get ∷ []) (Reply ok ∷ Reply five ∷ []) k') (sym executes) ((refl, (ap bulk_of (sym in-held), tt)), refl)

-- ---- the connection

abbrev sending : LinkModel Wire
sending = link 0 (wire 0 (Runs ((ticket 0, set) ∷ (ticket 1, script.get) ∷ []) ∷ []) [] false) (due.Command (ticket 0) ∷ due.Command (ticket 1) ∷ [])

abbrev serving : LinkModel Wire
serving = link 0 (wire 0 [] (ok ∷ five ∷ []) false) (due.Command (ticket 0) ∷ due.Command (ticket 1) ∷ [])

abbrev halfway : LinkModel Wire
halfway = link 0 (wire 0 [] (five ∷ []) false) (due.Command (ticket 1) ∷ [])

abbrev sent : Backend Wire
sent = backend (Some sending) None

abbrev served : Backend Wire
served = backend (Some serving) None

abbrev got1 : Backend Wire
got1 = backend (Some halfway) (Some (new_pending_told (ticket 0) (Reply ok)))

abbrev half : Backend Wire
half = backend (Some halfway) None

abbrev got2 : Backend Wire
got2 = backend (Some (link 0 (wire 0 [] [] false) [])) (Some (new_pending_told (ticket 1) (Reply five)))

abbrev log3 : List Mark
log3 = log2 ++ seen.Executed (did 0 set ok ∷ did 1 script.get five ∷ []) ∷ []

-- ---- the client

module _ {C : Type 0} (port : C) where
  abbrev y1 : ClientModel C
  y1 = client port h1 (commands (setting ∷ getting ∷ []) empty) [] []

  abbrev y2 : ClientModel C
  y2 = client port h1 (commands [] q1) [] []

  abbrev y3 : ClientModel C
  y3 = client port h1 (commands [] q2) [] []

  abbrev y4 : ClientModel C
  y4 = client port h1 (commands [] q3) [] []

  abbrev y5 : ClientModel C
  y5 = client port h2 (commands [] q4) [] []

  abbrev y6 : ClientModel C
  y6 = client port h3 (commands [] q5) [] []

  abbrev z1 : FinMap nat_cmp (ClientModel C)
  z1 = insert (t7 port) 0 y1

  abbrev z2 : FinMap nat_cmp (ClientModel C)
  z2 = insert z1 0 y2

  abbrev z3 : FinMap nat_cmp (ClientModel C)
  z3 = insert z2 0 y3

  abbrev z4 : FinMap nat_cmp (ClientModel C)
  z4 = insert z3 0 y4

  abbrev z5 : FinMap nat_cmp (ClientModel C)
  z5 = insert z4 0 y5

  abbrev z6 : FinMap nat_cmp (ClientModel C)
  z6 = insert z5 0 y6

module _ {C J : Type 0} (port : C) where
  abbrev l0 : LaneEnds (Newcomer C J)
  l0 = lane port [] []

  abbrev l1 : LaneEnds (Newcomer C J)
  l1 = lane port up []

  abbrev l2 : LaneEnds (Newcomer C J)
  l2 = lane port up down1

  abbrev l3 : LaneEnds (Newcomer C J)
  l3 = lane port up down2

  abbrev c : LaneEnds (Newcomer C J) → PendingRun → Backend Wire → CarrierModel (Newcomer C J) Wire
  c l run b = carrier l (run ∷ []) (b ∷ new_backend ∷ []) false

  abbrev w : FinMap nat_cmp (ClientModel C) → List (Numbered RunModel) → List (Numbered Pair) → ℕ → WorkerModel C J
  w clients ups downs answered = worker clients (Some 0) (doors port) ups downs answered

  abbrev r0 : System C J
  r0 = scene (w (t6 port) [] [] 0) (c l0 (pending None) idle) [] 1 k0 log2

  asks : FrontIsWhole → FoldsTo SystemStep (s1 {C = C} {J = J} port) script.asking r0
  asks law = asks-at port (c new_lane (pending None) idle) 1 k0 refl law

  -- both commands go out
  abbrev r1 : System C J
  r1 = scene (w (z2 port) up [] 0) (c l1 (pending None) sent) [] 1 k0 log2

  -- and each is told its reply
  abbrev r2 : System C J
  r2 = scene (w (z6 port) up down2 (one_more (one_more 0))) (c l3 (pending None) idle) [] 1 k' log3

  goes : FoldsTo SystemStep r0 script.going_together r1
  goes = (
    scene (w (t7 port) [] [] 0) (c l0 (pending None) idle) [] 1 k0 log2,
    at-client l0 0 (a4 port) (a5 port) (outlet_with []) [] refl (put _ (a4 port) 0) (
      refl,
      refl,
      (0, ((set, refl, refl), (λ j lt m. absurd (omega (arith, lt))), refl), refl, refl),
      refl,
    ) (put _ (a5 port) 0) (down-in l0 (w (t6 port) [] [] 0) _ refl ([], refl)) refl,
    (
      scene (w (z1 port) [] [] 0) (c l0 (pending None) idle) [] 1 k0 log2,
      at-client l0 0 (a5 port) (y1 port) (outlet_with []) [] refl (put _ (a5 port) 0) (
        refl,
        ([], setting, refl, (1, record { waits = refl; out = refl; behind = omega arith; next = refl; in_order = refl }, refl, refl)),
        refl,
      ) (put _ (y1 port) 0) (down-in l0 (w (t7 port) [] [] 0) _ refl ([], refl)) refl,
      (
        scene (w (z2 port) up [] 0) (c l0 (pending None) idle) [] 1 k0 log2,
        at-client l0 0 (y1 port) (y2 port) (outlet_with up) [] refl (put _ (y1 port) 0) (
          setting,
          getting ∷ [],
          commands [] empty,
          inl (refl, both-fresh, refl),
          (λ e. absurd (cc)),
          (slot_of key, omega arith, refl, refl, refl, refl),
          (refl, second-behind, tt),
          (Ok None, (([], refl), refl), refl),
          refl,
          together,
          omega arith,
          posts [] both,
          refl,
        ) (put _ (y2 port) 0) (down-in l0 (w (z1 port) [] [] 0) _ refl ([], refl)) refl,
        (
          scene (w (z2 port) up [] 0) (c l1 (pending (Some both)) idle) [] 1 k0 log2,
          at-carrier l1 (
            0,
            pending None,
            pending (Some both),
            refl,
            (both, refl, refl, (l0, l1, refl, refl, (refl, takes [] both))),
            refl,
          ) (refl, (refl, tt)) refl ([], refl) refl,
          (
            r1,
            at-carrier l1 (
              0,
              pending (Some both),
              both,
              idle,
              sent,
              refl,
              refl,
              refl,
              (link 0 (wire 0 [] [] false) [], sending, refl, omega arith, (Ok tt, refl, (λ e. absurd (cc)), (refl, (refl, refl), refl)), refl),
              refl,
            ) (refl, (refl, tt)) refl ([], refl) refl,
            refl,
          ),
        ),
      ),
    ),
  )

  answers : FoldsTo SystemStep r1 script.answered_together r2
  answers = (
    scene (w (z2 port) up [] 0) (c l1 (pending None) served) [] 1 k' log3,
    (
      sent,
      sending,
      wire 0 [] (ok ∷ five ∷ []) false,
      ok ∷ five ∷ [],
      did 0 set ok ∷ did 1 script.get five ∷ [],
      refl,
      refl,
      refl,
      inr (inl ([], (ticket 0, set) ∷ (ticket 1, script.get) ∷ [], Reply ok ∷ Reply five ∷ [], refl, refl, does-both, (refl, (refl, tt)), refl, refl)),
      refl,
      refl,
    ),
    (
      scene (w (z2 port) up [] 0) (c l1 (pending None) got1) [] 1 k' log3,
      at-carrier l1 (
        0,
        served,
        got1,
        refl,
        (serving, halfway, ticket 0, Reply ok, refl, (refl, (ok, refl, inr (refl, (refl, refl)), refl, refl, refl)), refl),
        refl,
      ) (refl, (refl, tt)) refl ([], refl) refl,
      (
        scene (w (z2 port) up [] 0) (c l2 (pending None) half) [] 1 k' log3,
        at-carrier l2 (
          0,
          got1,
          half,
          refl,
          (new_pending_told (ticket 0) (Reply ok), refl, refl, inl (l1, l2, refl, refl, (refl, (_, refl, posts [] (ticket 0, Reply ok)))), refl),
          refl,
        ) (refl, (refl, tt)) refl ([], refl) refl,
        (
          scene (w (z2 port) up [] 0) (c l2 (pending None) got2) [] 1 k' log3,
          at-carrier l2 (
            0,
            half,
            got2,
            refl,
            (halfway, link 0 (wire 0 [] [] false) [], ticket 1, Reply five, refl, (refl, (five, refl, inr (refl, (refl, refl)), refl, refl, refl)), refl),
            refl,
          ) (refl, (refl, tt)) refl ([], refl) refl,
          (
            scene (w (z2 port) up [] 0) (c l3 (pending None) idle) [] 1 k' log3,
            at-carrier l3 (
              0,
              got2,
              idle,
              refl,
              (new_pending_told (ticket 1) (Reply five), refl, refl, inl (l2, l3, refl, refl, (refl, (_, refl, posts down1 (ticket 1, Reply five)))), refl),
              refl,
            ) (refl, (refl, tt)) refl ([], refl) refl,
            (
              scene (w (z3 port) up down1 0) (c l3 (pending None) idle) [] 1 k' log3,
              at-worker l3 [] refl (
                takes [] (ticket 0, Reply ok),
                (true, (y2 port, y3 port, put _ (y2 port) 0, (awaits setting, (first-there, refl, refl), refl), refl, refl)),
                refl,
              ) refl (down-in l3 (w (z3 port) up down1 0) _ refl (numbered 1 (ticket 1, Reply five) ∷ [], refl)) refl,
              (
                scene (w (z4 port) up down2 0) (c l3 (pending None) idle) [] 1 k' log3,
                at-worker l3 [] refl (
                  takes down1 (ticket 1, Reply five),
                  (true, (y3 port, y4 port, put _ (y3 port) 0, (awaits getting, (second-there, refl, refl), refl), refl, refl)),
                  refl,
                ) refl (down-in l3 (w (z4 port) up down2 0) _ refl ([], refl)) refl,
                (
                  scene (w (z5 port) up down2 (one_more 0)) (c l3 (pending None) idle) [] 1 k' log3,
                  at-worker l3 [] refl (y4 port, y5 port, put _ (y4 port) 0, ((told0, first-over, refl, refl), tt, refl, refl), refl) refl
                      (down-in l3 (w (z5 port) up down2 0) _ refl ([], refl)) refl,
                  (
                    r2,
                    at-worker l3 [] refl (y5 port, y6 port, put _ (y5 port) 0, ((told1, second-over, refl, refl), tt, refl, refl), refl) refl
                        (down-in l3 (w (z6 port) up down2 0) _ refl ([], refl)) refl,
                    refl,
                  ),
                ),
              ),
            ),
          ),
        ),
      ),
    ),
  )

  pub happens : FrontIsWhole → Happens C J script.pairs story_of_pair
  happens law = record {
    start = s0 port;
    left = r2;
    begins = starts port;
    goes =
        and-then SystemStep (s0 port) opening (s1 port) (asking ++ (going_together ++ answered_together)) r2 (opens port)
        (and-then SystemStep (s1 port) asking r0 (going_together ++ answered_together) r2 (asks law)
        (and-then SystemStep r0 going_together r1 answered_together r2 goes answers));
    log = refl;
  }
