-- The key moves; the first node refuses the second request with ASK, and the second node executes it behind ASKING.
use Rattle.std.proofs.Common.{inl, inr, ℕ, true, false, [], ◌∷◌, ◌++◌, Some, None, Ok, refl, ap, arith}
use Rattle.std.specs.Prelude.{codes, is_some}
use Rattle.std.specs.List.{FoldsTo}
use Rattle.std.specs.FinMap.{FinMap}
use Rattle.std.specs.Ordering.{nat_cmp}
use Rattle.resp_wire.specs.Laws.{FrontIsWhole}
use Rattle.key_split.specs.declared.travel.Told.TheVariants.{Ask, Reply}
use Rattle.slot_hash.specs.Slot.{slot_of}
use Rattle.command_future.specs.CommandModel.{progress_told}
use Rattle.node_link.specs.declared.link.Due.TheVariants as due
use Rattle.proxy_lanes.specs.declared.ends.lane_ends.LaneEnds.{LaneEnds}
use Rattle.proxy_turns.specs.declared.newcomer.Newcomer.{Newcomer}
use Rattle.proxy_turns.specs.declared.backend.Backend.{Backend}
use Rattle.proxy_turns.specs.declared.pending_run.PendingRun.{PendingRun}
use Rattle.proxy_turns.specs.Backend.{new_backend, new_pending_told}
use Rattle.proxy_turns.specs.ClientModel.{ClientModel}
use Rattle.proxy_turns.specs.WorkerModel.{WorkerModel, one_more}
use Rattle.proxy_turns.specs.CarrierModel.{CarrierModel}
use Rattle.turn_laws.specs.Wire.{Wire, Asks, Runs}
use Rattle.turn_laws.specs.System.{System}
use Rattle.turn_laws.specs.Steps.{SystemStep}
use Rattle.turn_laws.specs.Scripts as script
use Rattle.turn_laws.specs.Scripts.{key, five, ticket, plain, behind_asking, did, opening, moving, asking, setting as request_set, getting_key, refused as request_refused, redirected, followed, settling, up_to_asking, story, Happens}
use Rattle.turn_laws.proofs.Rings.{posts, takes, outlet_with}
use Rattle.turn_laws.proofs.Scenes.{scene, and-then, put, at-worker, at-client, at-carrier, down-in}
use Rattle.turn_laws.proofs.ScriptFacts.{k7, k8, k9, k10, k11, slot-is, in-held, key-moved, given-none, ask, told-ask, learns-ask, table, does-ask, does-get, fresh-alone, goes-alone}
use Rattle.turn_laws.proofs.ScriptStates.{commands, awaits, getting, sent-on, posted3, posted4, posted5, posted6, wire, link, pending, lane, carrier, worker, up1, up2, up3, down1, down2, down3}
use Rattle.turn_laws.proofs.ScriptOpening.{s0, s1, s2, starts, opens, moves}
use Rattle.turn_laws.proofs.ScriptAsking.{doors, s3, asks}
use Rattle.turn_laws.proofs.ScriptSetting.{a10, t13, idle, s4, log4, l2, w2, sets}
use Rattle.turn_laws.proofs.ScriptReply.{drains, a11, a12, a13, a14, a15, a16, a17, a18, t14, t15, t16, t17, t18, t19, t20, t21, sent, refused, got, opened, both-due, welcomed, both-served, one-left, fetched, log5, log6}

module _ {C J : Type 0} (port : C) where
  abbrev l3 : LaneEnds (Newcomer C J)
  l3 = lane port up2 down1

  abbrev l4 : LaneEnds (Newcomer C J)
  l4 = lane port up2 down2

  abbrev pub l5 : LaneEnds (Newcomer C J)
  l5 = lane port up3 down2

  abbrev l6 : LaneEnds (Newcomer C J)
  l6 = lane port up3 down3

  abbrev c : LaneEnds (Newcomer C J) → PendingRun → Backend Wire → Backend Wire → CarrierModel (Newcomer C J) Wire
  c l run a b = carrier l (run ∷ []) (a ∷ b ∷ []) false

  -- it has learnt the second node from ASK
  abbrev pub learnt : LaneEnds (Newcomer C J) → PendingRun → Backend Wire → Backend Wire → CarrierModel (Newcomer C J) Wire
  learnt l run a b = record (c l run a b) { nodes = table }

  -- after the second post, after ASK was taken, after the third post, and after the reply was taken
  abbrev w3 : FinMap nat_cmp (ClientModel C) → WorkerModel C J
  w3 clients = worker clients (Some 0) (doors port) up2 down1 (one_more 0)

  abbrev w4 : FinMap nat_cmp (ClientModel C) → WorkerModel C J
  w4 clients = worker clients (Some 0) (doors port) up2 down2 (one_more 0)

  abbrev pub w5 : FinMap nat_cmp (ClientModel C) → WorkerModel C J
  w5 clients = worker clients (Some 0) (doors port) up3 down2 (one_more 0)

  abbrev w6 : FinMap nat_cmp (ClientModel C) → ℕ → WorkerModel C J
  w6 clients answered = worker clients (Some 0) (doors port) up3 down3 answered

  abbrev pub s5 : System C J
  s5 = scene (w2 port (t13 port) (one_more 0)) (c (l2 port) (pending None) idle new_backend) [] 1 k8 log4

  pub gives : FoldsTo SystemStep (s4 {C = C} {J = J} port) (script.getting_key) s5
  gives = (
    scene (w2 port (t13 port) (one_more 0)) (c (l2 port) (pending None) idle new_backend) [] 1 k7 log4,
    ((refl, refl), refl),
    (
      s5,
      (((inl refl, slot-is, ap is_some in-held), key-moved), refl),
      refl,
    ),
  )

  -- refused by the first node
  abbrev pub s6 : System C J
  s6 = scene (w4 (t16 port)) (learnt l4 (pending None) idle new_backend) [] 1 k8 log4

  pub refuses : FoldsTo SystemStep s5 script.refused s6
  refuses = (
    scene (w2 port (t14 port) (one_more 0)) (c (l2 port) (pending None) idle new_backend) [] 1 k8 log4,
    at-client (l2 port) 0 (a10 port) (a11 port) (outlet_with up1) [] refl (put _ (a10 port) 0) (
      refl,
      refl,
      (0, ((script.get, refl, refl), (λ j lt m. absurd (omega (arith, lt))), refl), refl, refl),
      refl,
    ) (put _ (a11 port) 0) (down-in {J = J} (l2 port) (w2 port (t13 port) 0) _ refl ([], refl)) refl,
    (
      scene (w3 (t15 port)) (c (l2 port) (pending None) idle new_backend) [] 1 k8 log4,
      at-client (l2 port) 0 (a11 port) (a12 port) (outlet_with up2) [] refl (put _ (a11 port) 0) (
        getting,
        [],
        commands [] posted3,
        inl (refl, fresh-alone getting refl, refl),
        (λ e. absurd (cc)),
        (slot_of key, omega arith, refl, refl, refl, refl),
        tt,
        (Ok None, (([], refl), refl), refl),
        refl,
        goes-alone,
        omega arith,
        posts up1 (plain 1 0 script.get),
        refl,
      ) (put _ (a12 port) 0) (down-in {J = J} (l2 port) (w2 port (t14 port) 0) _ refl ([], refl)) refl,
      (
        scene (w3 (t15 port)) (c l3 (pending (Some (plain 1 0 script.get))) idle new_backend) [] 1 k8 log4,
        at-carrier l3 (
          0,
          pending None,
          pending (Some (plain 1 0 script.get)),
          refl,
          (plain 1 0 script.get, refl, refl, (l2 port, l3, refl, refl, (refl, takes up1 (plain 1 0 script.get)))),
          refl,
        ) (refl, (refl, tt)) refl ([], refl) refl,
        (
          scene (w3 (t15 port)) (c l3 (pending None) sent new_backend) [] 1 k8 log4,
          at-carrier l3 (
            0,
            pending (Some (plain 1 0 script.get)),
            plain 1 0 script.get,
            idle,
            sent,
            refl,
            refl,
            refl,
            (link 0 (wire 0 [] [] false) [], link 0 (wire 0 (Runs ((ticket 1, script.get) ∷ []) ∷ []) [] false) (due.Command (ticket 1) ∷ []), refl, omega arith, (Ok tt, refl, (λ e. absurd (cc)), (refl, (refl, refl), refl)), refl),
            refl,
          ) (refl, (refl, tt)) refl ([], refl) refl,
          (
            scene (w3 (t15 port)) (c l3 (pending None) refused new_backend) [] 1 k8 log4,
            (
              sent,
              link 0 (wire 0 (Runs ((ticket 1, script.get) ∷ []) ∷ []) [] false) (due.Command (ticket 1) ∷ []),
              wire 0 [] (ask ∷ []) false,
              ask ∷ [],
              [],
              refl,
              refl,
              refl,
              inr (inl ([], (ticket 1, script.get) ∷ [], Ask 1 1 ∷ [], refl, refl, does-ask, (told-ask, tt), refl, refl)),
              refl,
              refl,
            ),
            (
              scene (w3 (t15 port)) (learnt l3 (pending None) got new_backend) [] 1 k8 log4,
              at-carrier l3 (
                0,
                refused,
                got,
                refl,
                (
                  link 0 (wire 0 [] (ask ∷ []) false) (due.Command (ticket 1) ∷ []),
                  link 0 (wire 0 [] [] false) [],
                  ticket 1,
                  Ask 1 1,
                  refl,
                  (refl, (ask, refl, inr (refl, (refl, refl)), refl, learns-ask, refl)),
                  refl,
                ),
                refl,
              ) (refl, (refl, tt)) refl ([], refl) refl,
              (
                scene (w3 (t15 port)) (learnt l4 (pending None) idle new_backend) [] 1 k8 log4,
                at-carrier l4 (
                  0,
                  got,
                  idle,
                  refl,
                  (new_pending_told (ticket 1) (Ask 1 1), refl, refl, inl (l3, l4, refl, refl, (refl, (_, refl, posts down1 (ticket 1, Ask 1 1)))), refl),
                  refl,
                ) (refl, (refl, tt)) refl ([], refl) refl,
                (
                  s6,
                  at-worker l4 [] refl (
                    takes down1 (ticket 1, Ask 1 1),
                    (true, (a12 port, a13 port, put _ (a12 port) 0, (awaits getting, (put posted3 (awaits getting) 1, refl, refl), refl), refl, refl)),
                    refl,
                  ) refl (down-in l4 (w4 (t16 port)) _ refl ([], refl)) refl,
                  refl,
                ),
              ),
            ),
          ),
        ),
      ),
    ),
  )

  -- sent on behind ASKING, which the second node served
  abbrev pub s7 : System C J
  s7 = scene (w5 (t17 port)) (learnt l5 (pending None) idle welcomed) [] 2 k8 log4

  pub redirects : FoldsTo SystemStep s6 script.redirected s7
  redirects = (
    scene (w5 (t17 port)) (learnt l4 (pending None) idle new_backend) [] 1 k8 log4,
    at-client l4 0 (a13 port) (a14 port) (outlet_with up3) [] refl (put _ (a13 port) 0) (
      sent-on,
      [],
      commands [] posted5,
      inr (put posted4 sent-on 1, refl, refl),
      (λ e. absurd (cc)),
      (slot_of key, omega arith, refl, refl, refl, refl),
      tt,
      (refl, refl),
      refl,
      goes-alone,
      omega arith,
      posts up2 (behind_asking 1 1 script.get),
      refl,
    ) (put _ (a14 port) 0) (down-in l4 (w4 (t16 port)) _ refl ([], refl)) refl,
    (
      scene (w5 (t17 port)) (learnt l5 (pending (Some (behind_asking 1 1 script.get))) idle new_backend) [] 1 k8 log4,
      at-carrier l5 (
        0,
        pending None,
        pending (Some (behind_asking 1 1 script.get)),
        refl,
        (behind_asking 1 1 script.get, refl, refl, (l4, l5, refl, refl, (refl, takes up2 (behind_asking 1 1 script.get)))),
        refl,
      ) (refl, (refl, tt)) refl ([], refl) refl,
      (
        scene (w5 (t17 port)) (learnt l5 (pending (Some (behind_asking 1 1 script.get))) idle opened) [] 2 k8 log4,
        at-carrier l5 (
          1,
          new_backend,
          _,
          wire 1 [] [] false,
          refl,
          refl,
          refl,
          (1, refl, refl),
          refl,
        ) (refl, (refl, tt)) refl ([], refl) refl,
        (
          scene (w5 (t17 port)) (learnt l5 (pending None) idle both-due) [] 2 k8 log4,
          at-carrier l5 (
            0,
            pending (Some (behind_asking 1 1 script.get)),
            behind_asking 1 1 script.get,
            opened,
            both-due,
            refl,
            refl,
            refl,
            (link 1 (wire 1 [] [] false) [], link 1 (wire 1 (Asks ∷ Runs ((ticket 1, script.get) ∷ []) ∷ []) [] false) (due.Asking ∷ due.Command (ticket 1) ∷ []), refl, omega arith, (Ok tt, refl, (λ e. absurd (cc)), (refl, (refl, refl), refl)), refl),
            refl,
          ) (refl, (refl, tt)) refl ([], refl) refl,
          (
            s7,
            (
              both-due,
              link 1 (wire 1 (Asks ∷ Runs ((ticket 1, script.get) ∷ []) ∷ []) [] false) (due.Asking ∷ due.Command (ticket 1) ∷ []),
              wire 1 (Runs ((ticket 1, script.get) ∷ []) ∷ []) (script.ok ∷ []) true,
              script.ok ∷ [],
              [],
              refl,
              refl,
              refl,
              inl (Runs ((ticket 1, script.get) ∷ []) ∷ [], script.ok, refl, refl, refl, refl, refl),
              refl,
              refl,
            ),
            refl,
          ),
        ),
      ),
    ),
  )

  -- executed by the second node
  abbrev pub s8 : System C J
  s8 = scene (w5 (t17 port)) (learnt l6 (pending None) idle opened) [] 2 k9 log5

  pub follows : FoldsTo SystemStep s7 script.followed s8
  follows = (
    scene (w5 (t17 port)) (learnt l5 (pending None) idle both-served) [] 2 k9 log5,
    (
      welcomed,
      link 1 (wire 1 (Runs ((ticket 1, script.get) ∷ []) ∷ []) (script.ok ∷ []) true) (due.Asking ∷ due.Command (ticket 1) ∷ []),
      wire 1 [] (script.ok ∷ five ∷ []) false,
      five ∷ [],
      did 1 script.get five ∷ [],
      refl,
      refl,
      refl,
      inr (inl ([], (ticket 1, script.get) ∷ [], Reply five ∷ [], refl, refl, does-get, (refl, tt), refl, refl)),
      refl,
      refl,
    ),
    (
      scene (w5 (t17 port)) (learnt l5 (pending None) idle one-left) [] 2 k9 log5,
      at-carrier l5 (
        1,
        both-served,
        one-left,
        refl,
        (
          link 1 (wire 1 [] (script.ok ∷ five ∷ []) false) (due.Asking ∷ due.Command (ticket 1) ∷ []),
          link 1 (wire 1 [] (five ∷ []) false) (due.Command (ticket 1) ∷ []),
          (refl, (refl, refl, inr (script.ok, inr (refl, (refl, refl)), refl, refl))),
          inl refl,
          refl,
        ),
        refl,
      ) (refl, (refl, tt)) refl ([], refl) refl,
      (
        scene (w5 (t17 port)) (learnt l5 (pending None) idle fetched) [] 2 k9 log5,
        at-carrier l5 (
          1,
          one-left,
          fetched,
          refl,
          (
            link 1 (wire 1 [] (five ∷ []) false) (due.Command (ticket 1) ∷ []),
            link 1 (wire 1 [] [] false) [],
            ticket 1,
            Reply five,
            refl,
            (refl, (five, refl, inr (refl, (refl, refl)), refl, refl, refl)),
            refl,
          ),
          refl,
        ) (refl, (refl, tt)) refl ([], refl) refl,
        (
          s8,
          at-carrier l6 (
            1,
            fetched,
            opened,
            refl,
            (new_pending_told (ticket 1) (Reply five), refl, refl, inl (l5, l6, refl, refl, (refl, (_, refl, posts down2 (ticket 1, Reply five)))), refl),
            refl,
          ) (refl, (refl, tt)) refl ([], refl) refl,
          refl,
        ),
      ),
    ),
  )

  -- the client is answered, and the second node owns the slot
  abbrev pub s9 : System C J
  s9 = scene (w6 (t21 port) (one_more (one_more 0))) (learnt l6 (pending None) idle opened) [] 2 k11 log6

  pub answers : FoldsTo SystemStep s8 script.settling s9
  answers = (
    scene (w6 (t18 port) (one_more 0)) (learnt l6 (pending None) idle opened) [] 2 k9 log5,
    at-worker l6 [] refl (
      takes down2 (ticket 1, Reply five),
      (true, (a14 port, a15 port, put _ (a14 port) 0, (awaits sent-on, (put posted5 (awaits sent-on) 1, refl, refl), refl), refl, refl)),
      refl,
    ) refl (down-in l6 (w6 (t18 port) 0) _ refl ([], refl)) refl,
    (
      scene (w6 (t19 port) (one_more (one_more 0))) (learnt l6 (pending None) idle opened) [] 2 k9 log5,
      at-worker l6 [] refl (
        a15 port,
        a16 port,
        put _ (a15 port) 0,
        ((progress_told (awaits sent-on) (Reply five), put posted6 _ 1, refl, refl), tt, refl, refl),
        refl,
      ) refl (down-in l6 (w6 (t19 port) 0) _ refl ([], refl)) refl,
      (
        scene (w6 (t20 port) (one_more (one_more 0))) (learnt l6 (pending None) idle opened) [] 2 k9 log6,
        at-client l6 0 (a16 port) (a17 port) (outlet_with up3) [] refl (put _ (a16 port) 0) (
          refl,
          (codes "$1\r\n5\r\n", refl, refl, drains),
          refl,
        ) (put _ (a17 port) 0) (down-in l6 (w6 (t19 port) 0) _ refl ([], refl)) refl,
        (
          scene (w6 (t21 port) (one_more (one_more 0))) (learnt l6 (pending None) idle opened) [] 2 k9 log6,
          at-client l6 0 (a17 port) (a18 port) (outlet_with up3) [] refl (put _ (a17 port) 0) (tt, refl, refl) (put _ (a18 port) 0) (down-in l6 (w6 (t20 port) 0) _ refl ([], refl)) refl,
          (
            scene (w6 (t21 port) (one_more (one_more 0))) (learnt l6 (pending None) idle opened) [] 2 k10 log6,
            (((refl, λ q e. given-none q), refl), refl),
            (
              s9,
              (((refl, λ q e. given-none q), refl), refl),
              refl,
            ),
          ),
        ),
      ),
    ),
  )

  -- up to where the second request is on its way to the second node
  pub begun : FrontIsWhole → FoldsTo SystemStep (s0 port) up_to_asking s7
  begun law =
      and-then SystemStep (s0 port) opening (s1 port) (moving ++ (asking ++ (request_set ++ (getting_key ++ (request_refused ++ redirected))))) s7 (opens port)
      (and-then SystemStep (s1 port) moving (s2 port) (asking ++ (request_set ++ (getting_key ++ (request_refused ++ redirected)))) s7 (moves port)
      (and-then SystemStep (s2 port) asking (s3 port) (request_set ++ (getting_key ++ (request_refused ++ redirected))) s7 (asks port law)
      (and-then SystemStep (s3 port) request_set (s4 port) (getting_key ++ (request_refused ++ redirected)) s7 (sets port)
      (and-then SystemStep (s4 port) getting_key s5 (request_refused ++ redirected) s7 gives
      (and-then SystemStep s5 request_refused s6 redirected s7 refuses redirects)))))

  pub happens : FrontIsWhole → Happens C J script.moves story
  happens law = record {
    start = s0 port;
    left = s9;
    begins = starts port;
    goes = and-then SystemStep (s0 port) up_to_asking s7 (followed ++ settling) s9 (begun law) (and-then SystemStep s7 followed s8 settling s9 follows answers);
    log = refl;
  }
