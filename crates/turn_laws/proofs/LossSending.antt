-- No node is reached at first; then the first node says that the second owns the slot.
use Rattle.std.proofs.Common.{inl, inr, ℕ, true, false, List, [], ◌∷◌, Some, None, Ok, refl, arith}
use Rattle.std.specs.List.{FoldsTo}
use Rattle.std.specs.FinMap.{FinMap, empty}
use Rattle.std.specs.Ordering.{nat_cmp}
use Rattle.resp_wire.specs.Laws.{FrontIsWhole}
use Rattle.key_split.specs.Runs.{RunModel}
use Rattle.key_split.specs.declared.travel.Told.TheVariants as told
use Rattle.slot_hash.specs.Slot.{slot_of}
use Rattle.slot_map.specs.declared.ops.MapOp.{MapOp}
use Rattle.slot_map.specs.declared.ops.MapOp.TheVariants.{SetSlot}
use Rattle.node_link.specs.declared.link.Due.TheVariants as due
use Rattle.proxy_lanes.specs.declared.ends.lane_ends.LaneEnds.{LaneEnds}
use Rattle.proxy_lanes.specs.declared.ring.Numbered.{Numbered}
use Rattle.proxy_turns.specs.declared.newcomer.Newcomer.{Newcomer}
use Rattle.proxy_turns.specs.declared.backend.Backend.{Backend}
use Rattle.proxy_turns.specs.declared.pending_run.PendingRun.{PendingRun}
use Rattle.proxy_turns.specs.Backend.{new_backend, new_pending_told}
use Rattle.proxy_turns.specs.ClientModel.{ClientModel}
use Rattle.proxy_turns.specs.WorkerModel.{WorkerModel}
use Rattle.proxy_turns.specs.CarrierModel.{CarrierModel}
use Rattle.turn_laws.specs.Wire.{Wire, Runs}
use Rattle.turn_laws.specs.System.{System}
use Rattle.turn_laws.specs.Steps.{SystemStep}
use Rattle.turn_laws.specs.Refines.{IsStart}
use Rattle.turn_laws.specs.Scripts as script
use Rattle.turn_laws.specs.Scripts.{key, set, ticket, plain}
use Rattle.turn_laws.proofs.Rings.{posts, takes, outlet_with}
use Rattle.turn_laws.proofs.Scenes.{scene, put, at-worker, at-client, at-carrier, down-in}
use Rattle.turn_laws.proofs.ScriptFacts.{table, fresh-alone, goes-alone}
use Rattle.turn_laws.proofs.ScriptStates.{Pair, commands, setting, wire, link, backend, pending, lane, new_lane, carrier, worker}
use Rattle.turn_laws.proofs.ScriptOpening.{starts-in}
use Rattle.turn_laws.proofs.ScriptOpening as opening
use Rattle.turn_laws.proofs.ScriptAsking.{a4, t6, log2, doors, asks-at}
use Rattle.turn_laws.proofs.ScriptSetting.{idle, sent}
use Rattle.turn_laws.proofs.LossStates.{j0, new, moved, told-moved, learns-moved, does-moved, v1, v2, d1, d2, x1, x2, x3, p1, p2, e1, e2, e3, e4, e5, u1, u2, u3, u4, u5}

-- what the first node was told is to be published, and then to be given
abbrev pub refused : Backend Wire
refused = backend (Some (link 0 (wire 0 [] (moved ∷ []) false) (due.Command (ticket 0) ∷ []))) None

abbrev pub got : Backend Wire
got = backend (Some (link 0 (wire 0 [] [] false) [])) (Some (new_pending_told (ticket 0) (told.Moved 1 1)))

abbrev pub published : Backend Wire
published = record idle { pending_told = Some (record { ticket = ticket 0; told = told.Moved 1 1; change = None }); to_ask = true }

abbrev pub to_ask : Backend Wire
to_ask = record idle { to_ask = true }

abbrev pub op : List MapOp
op = SetSlot 1 1 ∷ []

module _ {C J : Type 0} (port : C) where
  abbrev pub ends : List (Numbered RunModel) → List (Numbered Pair) → LaneEnds (Newcomer C J)
  ends = lane port

  abbrev pub c : LaneEnds (Newcomer C J) → List PendingRun → List (Backend Wire) → ℕ → List MapOp → CarrierModel (Newcomer C J) Wire
  c l runs backends failures ops = record (carrier l runs backends false) { failures = failures; published = ops }

  -- it has learnt the second node from MOVED
  abbrev pub learnt : LaneEnds (Newcomer C J) → List PendingRun → List (Backend Wire) → ℕ → List MapOp → CarrierModel (Newcomer C J) Wire
  learnt l runs backends failures ops = record (c l runs backends failures ops) { nodes = table }

  abbrev pub w : FinMap nat_cmp (ClientModel C) → List (Numbered RunModel) → List (Numbered Pair) → ℕ → WorkerModel C J
  w clients ups downs answered = worker clients (Some 0) (doors port) ups downs answered

  abbrev pub r0 : System C J
  r0 = scene (opening.w0 port) (carrier new_lane [] [] true) [] 0 j0 []

  pub begins : IsStart r0
  begins = starts-in port j0 refl new

  abbrev pub r1 : System C J
  r1 = scene (opening.w0 port) (c new_lane (pending None ∷ []) (new_backend ∷ new_backend ∷ []) 2 []) [] 0 j0 []

  pub fails : FoldsTo SystemStep r0 script.unreached r1
  fails = (
    scene (opening.w0 port) (c new_lane [] [] 1 []) [] 0 j0 [],
    at-carrier new_lane (refl, inl (_, refl, tt, omega arith), refl) tt refl ([], refl) refl,
    (
      scene (opening.w0 port) (c new_lane (pending None ∷ []) [] 1 []) [] 0 j0 [],
      at-carrier new_lane refl tt refl ([], refl) refl,
      (
        scene (opening.w0 port) (c new_lane (pending None ∷ []) (new_backend ∷ []) 1 []) [] 0 j0 [],
        at-carrier new_lane refl (refl, tt) refl ([], refl) refl,
        (
          scene (opening.w0 port) (c new_lane (pending None ∷ []) (new_backend ∷ new_backend ∷ []) 1 []) [] 0 j0 [],
          at-carrier new_lane refl (refl, (refl, tt)) refl ([], refl) refl,
          (
            r1,
            at-carrier new_lane (0, refl, refl, inl (inl (_, refl, tt, omega arith))) (refl, (refl, tt)) refl ([], refl) refl,
            (
              r1,
              at-carrier new_lane (inl (0, new_backend, new_backend, refl, inl refl, refl)) (refl, (refl, tt)) refl ([], refl) refl,
              refl,
            ),
          ),
        ),
      ),
    ),
  )

  abbrev pub r2 : System C J
  r2 = scene (w (t6 port) [] [] 0) (c (ends [] []) (pending None ∷ []) (new_backend ∷ new_backend ∷ []) 2 []) [] 0 j0 log2

  pub asks : FrontIsWhole → FoldsTo SystemStep r1 script.asking r2
  asks law = asks-at port (c new_lane (pending None ∷ []) (new_backend ∷ new_backend ∷ []) 2 []) 0 j0 refl law

  -- the dial of the first node fails
  abbrev pub r3 : System C J
  r3 = scene (w (u3 port) v1 d1 0) (c (ends v1 d1) (pending None ∷ []) (new_backend ∷ new_backend ∷ []) 3 []) [] 0 j0 log2

  pub comes-back : FoldsTo SystemStep r2 script.unsent r3
  comes-back = (
    scene (w (u1 port) [] [] 0) (c (ends [] []) (pending None ∷ []) (new_backend ∷ new_backend ∷ []) 2 []) [] 0 j0 log2,
    at-client (ends [] []) 0 (a4 port) (e1 port) (outlet_with []) [] refl (put _ (a4 port) 0) (
      refl,
      refl,
      (0, ((set, refl, refl), (λ j lt m. absurd (omega (arith, lt))), refl), refl, refl),
      refl,
    ) (put _ (e1 port) 0) (down-in (ends [] []) (w (t6 port) [] [] 0) _ refl ([], refl)) refl,
    (
      scene (w (u2 port) v1 [] 0) (c (ends [] []) (pending None ∷ []) (new_backend ∷ new_backend ∷ []) 2 []) [] 0 j0 log2,
      at-client (ends [] []) 0 (e1 port) (e2 port) (outlet_with v1) [] refl (put _ (e1 port) 0) (
        setting,
        [],
        commands [] empty,
        inl (refl, fresh-alone setting refl, refl),
        (λ e. absurd (cc)),
        (slot_of key, omega arith, refl, refl, refl, refl),
        tt,
        (Ok None, (([], refl), refl), refl),
        refl,
        goes-alone,
        omega arith,
        posts [] (plain 0 0 set),
        refl,
      ) (put _ (e2 port) 0) (down-in (ends [] []) (w (u1 port) [] [] 0) _ refl ([], refl)) refl,
      (
        scene (w (u2 port) v1 [] 0) (c (ends v1 []) (pending (Some (plain 0 0 set)) ∷ []) (new_backend ∷ new_backend ∷ []) 2 []) [] 0 j0 log2,
        at-carrier (ends v1 []) (
          0,
          pending None,
          pending (Some (plain 0 0 set)),
          refl,
          (plain 0 0 set, refl, refl, (ends [] [], ends v1 [], refl, refl, (refl, takes [] (plain 0 0 set)))),
          refl,
        ) (refl, (refl, tt)) refl ([], refl) refl,
        (
          scene (w (u2 port) v1 [] 0) (c (ends v1 []) (record { run = None; refused = ticket 0 ∷ [] } ∷ []) (new_backend ∷ new_backend ∷ []) 3 []) [] 0 j0 log2,
          at-carrier (ends v1 []) (
            0,
            pending (Some (plain 0 0 set)),
            plain 0 0 set,
            new_backend,
            refl,
            refl,
            refl,
            refl,
            inl (refl, inl (_, refl, tt, omega arith)),
            refl,
          ) (refl, (refl, tt)) refl ([], refl) refl,
          (
            scene (w (u2 port) v1 [] 0) (c (ends v1 d1) (pending None ∷ []) (new_backend ∷ new_backend ∷ []) 3 []) [] 0 j0 log2,
            at-carrier (ends v1 d1) (
              0,
              record { run = None; refused = ticket 0 ∷ [] },
              pending None,
              refl,
              (ticket 0, [], refl, inl (ends v1 [], ends v1 d1, refl, refl, (refl, (_, refl, posts [] (ticket 0, told.Unsent)))), refl),
              refl,
            ) (refl, (refl, tt)) refl ([], refl) refl,
            (
              r3,
              at-worker (ends v1 d1) [] refl (
                takes [] (ticket 0, told.Unsent),
                (true, (e2 port, e3 port, put _ (e2 port) 0, (x1, (put empty x1 0, refl, refl), refl), refl, refl)),
                refl,
              ) refl (down-in (ends v1 d1) (w (u3 port) v1 d1 0) _ refl ([], refl)) refl,
              refl,
            ),
          ),
        ),
      ),
    ),
  )

  -- it is sent, and refused with MOVED
  abbrev pub r4 : System C J
  r4 = scene (w (u5 port) v2 d2 0) (learnt (ends v2 d2) (pending None ∷ []) (to_ask ∷ new_backend ∷ []) 3 op) [] 1 j0 log2

  pub moves-on : FoldsTo SystemStep r3 script.sent_on r4
  moves-on = (
    scene (w (u4 port) v2 d1 0) (c (ends v1 d1) (pending None ∷ []) (new_backend ∷ new_backend ∷ []) 3 []) [] 0 j0 log2,
    at-client (ends v1 d1) 0 (e3 port) (e4 port) (outlet_with v2) [] refl (put _ (e3 port) 0) (
      x2,
      [],
      commands [] p2,
      inr (put p1 x2 0, refl, refl),
      (λ e. absurd (cc)),
      (slot_of key, omega arith, refl, refl, refl, refl),
      tt,
      (Ok None, (([], refl), refl), refl),
      refl,
      goes-alone,
      omega arith,
      posts v1 (plain 0 0 set),
      refl,
    ) (put _ (e4 port) 0) (down-in (ends v1 d1) (w (u3 port) v1 d1 0) _ refl ([], refl)) refl,
    (
      scene (w (u4 port) v2 d1 0) (c (ends v2 d1) (pending (Some (plain 0 0 set)) ∷ []) (new_backend ∷ new_backend ∷ []) 3 []) [] 0 j0 log2,
      at-carrier (ends v2 d1) (
        0,
        pending None,
        pending (Some (plain 0 0 set)),
        refl,
        (plain 0 0 set, refl, refl, (ends v1 d1, ends v2 d1, refl, refl, (refl, takes v1 (plain 0 0 set)))),
        refl,
      ) (refl, (refl, tt)) refl ([], refl) refl,
      (
        scene (w (u4 port) v2 d1 0) (c (ends v2 d1) (pending (Some (plain 0 0 set)) ∷ []) (idle ∷ new_backend ∷ []) 3 []) [] 1 j0 log2,
        at-carrier (ends v2 d1) (
          0,
          new_backend,
          _,
          wire 0 [] [] false,
          refl,
          refl,
          refl,
          (0, refl, refl),
          refl,
        ) (refl, (refl, tt)) refl ([], refl) refl,
        (
          scene (w (u4 port) v2 d1 0) (c (ends v2 d1) (pending None ∷ []) (sent ∷ new_backend ∷ []) 3 []) [] 1 j0 log2,
          at-carrier (ends v2 d1) (
            0,
            pending (Some (plain 0 0 set)),
            plain 0 0 set,
            idle,
            sent,
            refl,
            refl,
            refl,
            (link 0 (wire 0 [] [] false) [], link 0 (wire 0 (Runs ((ticket 0, set) ∷ []) ∷ []) [] false) (due.Command (ticket 0) ∷ []), refl, omega arith, (Ok tt, refl, (λ e. absurd (cc)), (refl, (refl, refl), refl)), refl),
            refl,
          ) (refl, (refl, tt)) refl ([], refl) refl,
          (
            scene (w (u4 port) v2 d1 0) (c (ends v2 d1) (pending None ∷ []) (refused ∷ new_backend ∷ []) 3 []) [] 1 j0 log2,
            (
              sent,
              link 0 (wire 0 (Runs ((ticket 0, set) ∷ []) ∷ []) [] false) (due.Command (ticket 0) ∷ []),
              wire 0 [] (moved ∷ []) false,
              moved ∷ [],
              [],
              refl,
              refl,
              refl,
              inr (inl ([], (ticket 0, set) ∷ [], told.Moved 1 1 ∷ [], refl, refl, does-moved, (told-moved, tt), refl, refl)),
              refl,
              refl,
            ),
            (
              scene (w (u4 port) v2 d1 0) (learnt (ends v2 d1) (pending None ∷ []) (got ∷ new_backend ∷ []) 3 []) [] 1 j0 log2,
              at-carrier (ends v2 d1) (
                0,
                refused,
                got,
                refl,
                (
                  link 0 (wire 0 [] (moved ∷ []) false) (due.Command (ticket 0) ∷ []),
                  link 0 (wire 0 [] [] false) [],
                  ticket 0,
                  told.Moved 1 1,
                  refl,
                  (refl, (moved, refl, inr (refl, (refl, refl)), refl, learns-moved, refl)),
                  refl,
                ),
                refl,
              ) (refl, (refl, tt)) refl ([], refl) refl,
              (
                scene (w (u4 port) v2 d1 0) (learnt (ends v2 d1) (pending None ∷ []) (published ∷ new_backend ∷ []) 3 op) [] 1 j0 log2,
                at-carrier (ends v2 d1) (
                  0,
                  got,
                  published,
                  refl,
                  (new_pending_told (ticket 0) (told.Moved 1 1), SetSlot 1 1, refl, refl, refl, inl refl),
                  refl,
                ) (refl, (refl, tt)) refl ([], refl) refl,
                (
                  scene (w (u4 port) v2 d1 0) (learnt (ends v2 d2) (pending None ∷ []) (to_ask ∷ new_backend ∷ []) 3 op) [] 1 j0 log2,
                  at-carrier (ends v2 d2) (
                    0,
                    published,
                    to_ask,
                    refl,
                    (record { ticket = ticket 0; told = told.Moved 1 1; change = None }, refl, refl, inl (ends v2 d1, ends v2 d2, refl, refl, (refl, (_, refl, posts d1 (ticket 0, told.Moved 1 1)))), refl),
                    refl,
                  ) (refl, (refl, tt)) refl ([], refl) refl,
                  (
                    r4,
                    at-worker (ends v2 d2) [] refl (
                      takes d1 (ticket 0, told.Moved 1 1),
                      (true, (e4 port, e5 port, put _ (e4 port) 0, (x3, (put p2 x3 0, refl, refl), refl), refl, refl)),
                      refl,
                    ) refl (down-in (ends v2 d2) (w (u5 port) v2 d2 0) _ refl ([], refl)) refl,
                    refl,
                  ),
                ),
              ),
            ),
          ),
        ),
      ),
    ),
  )
