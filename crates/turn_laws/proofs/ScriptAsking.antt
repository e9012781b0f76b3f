-- A client comes, and its two requests are read.
use Rattle.std.proofs.Common.{◌≡◌, inl, inr, ℕ, List, [], ◌∷◌, Some, refl, sym, ap, arith}
use Rattle.std.specs.Prelude.{codes, slice_get, slice_set}
use Rattle.std.specs.List.{FoldsTo}
use Rattle.std.specs.FinMap.{FinMap, insert, empty, get-empty}
use Rattle.std.specs.Ordering.{nat_cmp}
use Rattle.resp_wire.specs.Data.{bulk}
use Rattle.resp_wire.specs.Laws.{FrontIsWhole}
use Rattle.resp_wire.specs.declared.value.Value.TheVariants.{Array}
use Rattle.key_split.specs.declared.travel.Ended.TheVariants.{Lost}
use Rattle.session_order.specs.SessionModel.{SessionModel}
use Rattle.session_order.specs.Steps.{added, with_incoming}
use Rattle.session_order.specs.declared.queue.PartStage.TheVariants.{Waiting}
use Rattle.proxy_lanes.specs.Lane.{numbered}
use Rattle.proxy_lanes.specs.declared.ring.Numbered.{Numbered}
use Rattle.proxy_lanes.specs.declared.ends.lane_ends.LaneEnds.{LaneEnds}
use Rattle.proxy_turns.specs.declared.newcomer.Newcomer.{Newcomer}
use Rattle.proxy_turns.specs.ClientModel.{ClientModel}
use Rattle.proxy_turns.specs.WorkerModel.{WorkerModel}
use Rattle.node_model.specs.Nodes.{ClusterModel}
use Rattle.proxy_turns.specs.CarrierModel.{CarrierModel}
use Rattle.turn_laws.specs.Wire.{Wire}
use Rattle.turn_laws.specs.System.{System, Mark, Arrived}
use Rattle.turn_laws.specs.Steps.{SystemStep}
use Rattle.turn_laws.specs.Scripts as script
use Rattle.turn_laws.specs.Scripts.{key, set, ticket, asked}
use Rattle.turn_laws.proofs.Rings.{posts, takes, outlet_with}
use Rattle.turn_laws.proofs.Scenes.{scene, put, at-worker, at-client, handing, down-in}
use Rattle.turn_laws.proofs.ScriptFacts.{k5, get-bytes, front-set, front-get, planned-set, planned-get}
use Rattle.turn_laws.proofs.ScriptStates.{session, one, commands, client, newcomer, lane, worker}
use Rattle.turn_laws.proofs.ScriptOpening.{w0, s2}
use Rattle.turn_laws.proofs.ScriptOpening as opening

abbrev pub n0 : SessionModel
n0 = session [] [] [] 0 []

abbrev pub n1 : SessionModel
n1 = session [] [] [] 0 asked

abbrev pub n2 : SessionModel
n2 = session (Waiting set ∷ []) (Lost ∷ []) (one ∷ []) 0 get-bytes

abbrev pub n3 : SessionModel
n3 = session (Waiting set ∷ Waiting script.get ∷ []) (Lost ∷ Lost ∷ []) (one ∷ one ∷ []) 0 []

abbrev pub log1 : List Mark
log1 = Arrived (ticket 0) set ∷ []

abbrev pub log2 : List Mark
log2 = Arrived (ticket 0) set ∷ Arrived (ticket 1) script.get ∷ []

module _ {C : Type 0} (port : C) where
  abbrev pub a0 : ClientModel C
  a0 = client port n0 (commands [] empty) [] []

  abbrev pub a1 : ClientModel C
  a1 = client port n0 (commands [] empty) asked []

  abbrev pub a2 : ClientModel C
  a2 = client port n1 (commands [] empty) [] []

  abbrev pub a3 : ClientModel C
  a3 = client port n2 (commands [] empty) [] []

  abbrev pub a4 : ClientModel C
  a4 = client port n3 (commands [] empty) [] []

  abbrev pub t1 : FinMap nat_cmp (ClientModel C)
  t1 = insert empty 0 a0

  abbrev pub t2 : FinMap nat_cmp (ClientModel C)
  t2 = insert t1 0 a0

  abbrev pub t3 : FinMap nat_cmp (ClientModel C)
  t3 = insert t2 0 a1

  abbrev pub t4 : FinMap nat_cmp (ClientModel C)
  t4 = insert t3 0 a2

  abbrev pub t5 : FinMap nat_cmp (ClientModel C)
  t5 = insert t4 0 a3

  abbrev pub t6 : FinMap nat_cmp (ClientModel C)
  t6 = insert t5 0 a4

module _ {C J : Type 0} (port : C) where
  abbrev pub doors : List (Numbered (Newcomer C J))
  doors = numbered 0 (newcomer port) ∷ []

  -- the worker with these clients, before anything was posted
  abbrev pub w1 : FinMap nat_cmp (ClientModel C) → WorkerModel C J
  w1 clients = worker clients (Some 0) doors [] [] 0

  -- the lane in which the client was handed over, and a carrier that has it
  abbrev l0 : LaneEnds (Newcomer C J)
  l0 = lane port [] []

  abbrev on : CarrierModel (Newcomer C J) Wire → CarrierModel (Newcomer C J) Wire
  on c = record c { lanes = l0 ∷ [] }

  abbrev pub s3 : System C J
  s3 = scene (w1 (t6 port)) (on (s2 port).carrier) [] 1 k5 log2

  module _ (c : CarrierModel (Newcomer C J) Wire) (opened : ℕ) (k : ClusterModel) (lane-at : c.lanes ≡ opening.l0 port ∷ []) where
    abbrev at1 : FinMap nat_cmp (ClientModel C) → List Mark → System C J
    at1 clients log = scene (w1 clients) (on c) [] opened k log

    pub asks-at : FrontIsWhole → FoldsTo SystemStep (scene (w0 port) c [] opened k []) script.asking (at1 (t6 port) log2)
    asks-at law = (
      scene (w0 port) (on c) [] opened k [],
      handing c (on c) (opening.l0 port) l0 (newcomer port) (ap (λ ls. slice_get ls 0) lane-at) (refl, posts [] (newcomer port)) (ap (λ ls. slice_set ls 0 l0) (sym lane-at)) refl,
      (
        at1 (t1 port) [],
        at-worker l0 [] refl (newcomer port, takes [] (newcomer port), refl, refl, ((omega arith, refl), (tt, get-empty nat_cmp 0)), refl, refl) refl (down-in l0 (w1 (t1 port)) _ refl ([], refl)) refl,
        (
          at1 (t2 port) [],
          at-client l0 0 (a0 port) (a0 port) (outlet_with []) [] refl (put empty (a0 port) 0) (tt, refl) (put (t1 port) (a0 port) 0) (down-in l0 (w1 (t1 port)) _ refl ([], refl)) refl,
          (
            at1 (t3 port) [],
            at-client l0 0 (a0 port) (a1 port) (outlet_with []) [] refl (put (t1 port) (a0 port) 0) (tt, refl) (put (t2 port) (a1 port) 0) (down-in l0 (w1 (t2 port)) _ refl ([], refl)) refl,
            (
              at1 (t4 port) [],
              at-client l0 0 (a1 port) (a2 port) (outlet_with []) [] refl (put (t2 port) (a1 port) 0) (inr (omega arith, refl, inl (refl, refl)), refl) (put (t3 port) (a2 port) 0) (down-in l0 (w1 (t3 port)) _ refl ([], refl)) refl,
              (
                at1 (t5 port) log1,
                at-client l0 0 (a2 port) (a3 port) (outlet_with []) [] refl (put (t3 port) (a2 port) 0) (
                  (
                    (refl, omega arith),
                    inl (
                      codes "SET" ∷ key ∷ codes "5" ∷ [],
                      n2.incoming,
                      (
                        inr (refl, Array (bulk (codes "SET") ∷ bulk key ∷ bulk (codes "5") ∷ []), (refl, front-set law, refl), refl, refl),
                        ap (added (with_incoming n1 n2.incoming)) planned-set,
                      ),
                    ),
                  ),
                  refl,
                ) (put (t4 port) (a3 port) 0) (down-in l0 (w1 (t4 port)) _ refl ([], refl)) refl,
                (
                  at1 (t6 port) log2,
                  at-client l0 0 (a3 port) (a4 port) (outlet_with []) [] refl (put (t4 port) (a3 port) 0) (
                    (
                      (refl, omega arith),
                      inl (
                        codes "GET" ∷ key ∷ [],
                        n3.incoming,
                        (
                          inr (refl, Array (bulk (codes "GET") ∷ bulk key ∷ []), (refl, front-get law, refl), refl, refl),
                          ap (added (with_incoming n2 n3.incoming)) planned-get,
                        ),
                      ),
                    ),
                    refl,
                  ) (put (t5 port) (a4 port) 0) (down-in l0 (w1 (t5 port)) _ refl ([], refl)) refl,
                  refl,
                ),
              ),
            ),
          ),
        ),
      ),
    )

  pub asks : FrontIsWhole → FoldsTo SystemStep (s2 {C = C} {J = J} port) script.asking s3
  asks law = asks-at (s2 port).carrier 1 k5 refl law
