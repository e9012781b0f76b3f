-- What each order does is steps of a system.
use Rattle.std.proofs.Common.{◌≡◌, ◌≤◌, ◌<◌, ◌-◌, inl, inr, ℕ, zero, suc, List, [], ◌∷◌, ◌++◌, Ok, Err, length, take, drop, get_or, refl, sym, ap, subst, arith}
use Rattle.std.specs.Prelude.{All, Result}
use Rattle.std.proofs.lemmas.List.Elements.{All-head, All-tail}
use Rattle.node_model.specs.Nodes.{ClusterModel}
use Rattle.node_model.specs.declared.role.Verdict.{Verdict}
use Rattle.node_model.specs.declared.standing.MoveFault.TheVariants as cause
use Rattle.proxy_turns.specs.Port.{Moves}
use Rattle.proxy_engine.specs.declared.turned.Turned.{Turned}
use Rattle.proxy_engine.specs.declared.turned.EngineFault.{EngineFault}
use Rattle.proxy_engine.specs.declared.turned.EngineFault.TheVariants as cause_of
use Rattle.proxy_engine.specs.Events as engine
use Rattle.turn_laws.specs.System.{System}
use Rattle.turn_play.specs.declared.fault.PlayFault.{PlayFault}
use Rattle.turn_play.specs.declared.fault.PlayFault.TheVariants as fault
use Rattle.turn_play.specs.declared.moves.Move.{Move}
use Rattle.turn_play.specs.declared.moves.Move.TheVariants as step
use Rattle.turn_play.specs.declared.order.Order.{Order}
use Rattle.turn_play.specs.declared.order.Order.TheVariants as order
use Rattle.turn_play.specs.Faults.{of_turn}
use Rattle.turn_play.specs.May.{ClusterMoves, MayMoveNow}
use Rattle.turn_play.specs.Moving.{MoveOutcome, MovesOrNot, event_of}
use Rattle.turn_play.specs.Obeying.{EndsTooLong, IsOurs, IsTurned, Obeys, ObeysAll, ObeyedIsSound, ObeyedIsSoundBeside, ServesNode, StaysInOrder}
use Rattle.turn_play.specs.Played.{PlaysRefine}
use Rattle.turn_laws.specs.Steps.{SystemEvent, Moved}
use Rattle.turn_laws.specs.Sharing.{SharedEvent}
use Rattle.turn_play.specs.Beside.{PlaysRefineBeside}
use Rattle.turn_play.specs.Deeds.{IsEventOf, IsEventOfOthers, IsGranted, IsServing}
use Rattle.turn_play.specs.Playing.{PlayModel, PlaysTo, PlaysToBeside, Shows}
use Rattle.turn_play.specs.Port.{IsEnd, IsFresh, longest_run, port_calls}
use Rattle.turn_play.specs.Connection.{broken, cut_to}
use Rattle.turn_play.specs.Turns.{EnginesPlay, IsTurns}
use Rattle.turn_play.proofs.ServedWires.{ByteLaws, port-opens}
use Rattle.turn_play.proofs.Beside.{beside, goes-beside, plainly-beside, soundly-beside}
use Rattle.turn_play.proofs.Theirs.{others-came}
use Rattle.turn_play.proofs.Playing.{Any, PlaysWhere, PlaysWhereBeside, changed, engine-turned, moved, plainly, plays-none, plays-on, plays-soundly, serves}

-- ---- a step of a move

-- it was made
made-step : (k : ClusterModel) (move : Move) (k' : ClusterModel) → MoveOutcome k move (Ok tt) k' → ClusterMoves k (event_of move) k'
made-step k (step.Import slot target) k' x = x
made-step k (step.Migrate slot) k' x = x
made-step k (step.Key slot key) k' x = x
made-step k (step.Own slot) k' x = x
made-step k (step.Release slot) k' x = x
made-step k (step.Forget slot) k' x = x
made-step k (step.Stay slot) k' x = x

-- it may not be made now
not-now : (k : ClusterModel) (move : Move) (k' : ClusterModel) → MoveOutcome k move (Err cause.NotNow) k' → k' ≡ k
not-now k (step.Import slot target) k' x = x.1
not-now k (step.Migrate slot) k' x = x.1
not-now k (step.Key slot key) k' x = x.1
not-now k (step.Own slot) k' x = x.1
not-now k (step.Release slot) k' x = x.1
not-now k (step.Forget slot) k' x = x.1
not-now k (step.Stay slot) k' x = x.1

-- there was no memory for it
no-memory : (k : ClusterModel) (move : Move) (k' : ClusterModel) → MoveOutcome k move (Err cause.NoMemory) k' → k' ≡ k
no-memory k (step.Import slot target) k' x = x.1
no-memory k (step.Migrate slot) k' x = x.1
no-memory k (step.Key slot key) k' x = x.1
no-memory k (step.Own slot) k' x = x.1
no-memory k (step.Release slot) k' x = x.1
no-memory k (step.Forget slot) k' x = x.1
no-memory k (step.Stay slot) k' x = x.1

abbrev IsStepOf : Move → SystemEvent → Type 0
IsStepOf move event = event ≡ Moved (event_of move)

module _ {C J : Type 0} where
  -- nothing has changed
  same : (Given : System C J → Type 0) (Is : SystemEvent → Type 0) (old new : PlayModel C J) → new ≡ old → PlaysWhere Given Is old new
  same Given Is old new e = subst (PlaysWhere Given Is old) (sym e) (plays-none Given Is old)

  same-cluster : (Given : System C J → Type 0) (Is : SystemEvent → Type 0) (old : PlayModel C J) (k : ClusterModel) → k ≡ old.cluster → PlaysWhere Given Is old (record old { cluster = k })
  same-cluster Given Is old k e = same Given Is old (record old { cluster = k }) (λ i. record old { cluster = e i })

  -- it may happen now
  abbrev MayMove : Move → System C J → Type 0
  MayMove move s = MayMoveNow s (event_of move)

  moves-on : (old : PlayModel C J) (move : Move) (result : Result (Unit {0}) PlayFault) (k : ClusterModel) → MovesOrNot old.cluster move result k → PlaysWhere (MayMove move) (IsStepOf move) old (record old { cluster = k })
  moves-on old move (Ok u) k (inl x) = moved old (event_of move) k (made-step old.cluster move k x)
  moves-on old move (Ok u) k (inr x) = same-cluster (MayMove move) (IsStepOf move) old k (not-now old.cluster move k x)
  moves-on old move (Err fault.NoMemory) k x = same-cluster (MayMove move) (IsStepOf move) old k (no-memory old.cluster move k x)
  moves-on old move (Err fault.NotServed) k x = absurd x
  moves-on old move (Err fault.OutOfOrder) k x = absurd x
  moves-on old move (Err fault.TooLong) k x = absurd x

-- a turn that the play calls sound is one
sound-turn : (cause : EngineFault) (why : PlayFault) → why ≡ of_turn cause → StaysInOrder (Err why) → engine.IsSound (Err cause)
sound-turn cause_of.NoMemory why is stays = tt
sound-turn cause_of.OutOfOrder why is stays = subst (λ w. StaysInOrder (Err w)) is stays

module _ (C J : Type 0) (moves : Moves C) (gives_none takes_none : C → Type 0) (engines : EnginesPlay C J moves IsEnd port_calls IsFresh longest_run) (laws : ByteLaws) where
  turned : (old : PlayModel C J) (result : Result Turned EngineFault) (new : PlayModel C J) → IsTurned moves gives_none takes_none old result new → engine.IsSound result → PlaysWhere Any IsTurns old new
  turned old result new x sound = subst (PlaysWhere Any IsTurns old) (sym x.2) (engine-turned old new.engine (λ s shows. engines (port-opens laws) s old.engine new.engine result shows x.0 sound))

  -- where what the order asks is granted
  abbrev Asked : Order → System C J → Type 0
  Asked what s = IsGranted s what

  -- its own events
  abbrev Own : Order → SystemEvent → Type 0
  Own what event = IsEventOf what (SharedEvent.Ours event)

  obeyed : (old : PlayModel C J) (what : Order) (result : Result (Unit {0}) PlayFault) (new : PlayModel C J) → IsOurs what → StaysInOrder result → Obeys moves gives_none takes_none old what result new → PlaysWhere (Asked what) (Own what) old new
  obeyed old order.Turn (Ok u) new ours stays x = turned old (Ok x.0) new x.1 tt
  obeyed old order.Turn (Err why) new ours stays x = turned old (Err x.0) new x.2 (sound-turn x.0 why x.1 stays)
  obeyed old (order.Serve node verdict) result new ours stays x = subst (PlaysWhere Any (IsServing node verdict) old) (sym x.1) (serves laws old node verdict result new.cluster new.engine.carrier stays x.0)
  obeyed old (order.Break node) result new ours stays x = subst (PlaysWhere Any (λ event. ⊥) old) (sym x.1.1) (changed broken (λ stream. refl) old node new.engine.carrier x.1.0)
  obeyed old (order.Cut node most) result new ours stays x = subst (PlaysWhere Any (λ event. ⊥) old) (sym x.1.1) (changed (cut_to most) (λ stream. refl) old node new.engine.carrier x.1.0)
  obeyed old (order.Move move) result new ours stays x = subst (PlaysWhere (MayMove move) (IsStepOf move) old) (sym x.1) (moves-on old move result new.cluster x.0)
  obeyed old (order.Others node asking parts) result new ours stays x = absurd ours

  obeyed-plainly : (old : PlayModel C J) (what : Order) (result : Result (Unit {0}) PlayFault) (new : PlayModel C J) → IsOurs what → StaysInOrder result → Obeys moves gives_none takes_none old what result new → PlaysTo old new
  obeyed-plainly old what result new ours stays x = plainly (Asked what) (Own what) old new (obeyed old what result new ours stays x)

  obeyed-all : (orders : List Order) (old : PlayModel C J) (result : Result (Unit {0}) PlayFault) (new : PlayModel C J) → All IsOurs orders → StaysInOrder result → ObeysAll moves gives_none takes_none old orders result new → PlaysTo old new
  obeyed-all [] old result new ours stays x = plainly Any (λ event. ⊥) old new (same Any (λ event. ⊥) old new x.1)
  obeyed-all (what ∷ orders) old result new ours stays (inl x) =
      plays-on old x.0 new (obeyed-plainly old what (Ok tt) x.0 (All-head IsOurs what orders ours) tt x.1) (obeyed-all orders x.0 result new (All-tail IsOurs what orders ours) stays x.2)
  obeyed-all (what ∷ orders) old result new ours stays (inr x) = obeyed-plainly old what (Err x.0) new (All-head IsOurs what orders ours) (subst StaysInOrder x.1 stays) x.2

  pub obeyed-is-sound : PlaysRefine C J → ObeyedIsSound C J moves gives_none takes_none
  obeyed-is-sound refine old new orders result x stays ours = plays-soundly refine old new (obeyed-all orders old result new ours stays x)

  -- the same where others come
  alone-beside : (old : PlayModel C J) (what : Order) (result : Result (Unit {0}) PlayFault) (new : PlayModel C J) → IsOurs what → StaysInOrder result → Obeys moves gives_none takes_none old what result new → PlaysWhereBeside (Asked what) (IsEventOf what) old new
  alone-beside old what result new ours stays x = beside (Asked what) (Own what) (IsEventOf what) (λ event is. is) old new (obeyed old what result new ours stays x)

  pub obeyed-beside : (old : PlayModel C J) (what : Order) (result : Result (Unit {0}) PlayFault) (new : PlayModel C J) → StaysInOrder result → Obeys moves gives_none takes_none old what result new → PlaysWhereBeside (Asked what) (IsEventOf what) old new
  obeyed-beside old order.Turn result new stays x = alone-beside old order.Turn result new tt stays x
  obeyed-beside old (order.Serve node verdict) result new stays x = alone-beside old (order.Serve node verdict) result new tt stays x
  obeyed-beside old (order.Break node) result new stays x = alone-beside old (order.Break node) result new tt stays x
  obeyed-beside old (order.Cut node most) result new stays x = alone-beside old (order.Cut node most) result new tt stays x
  obeyed-beside old (order.Move move) result new stays x = alone-beside old (order.Move move) result new tt stays x
  obeyed-beside old (order.Others node asking parts) (Ok u) new stays x =
      subst (PlaysWhereBeside (Asked (order.Others node asking parts)) (IsEventOfOthers node asking parts.items) old) (sym x.1) (others-came old node asking parts.items new.told new.cluster x.0)
  obeyed-beside old (order.Others node asking parts) (Err why) new stays x =
      let what : Order = order.Others node asking parts in
      beside (Asked what) (Own what) (IsEventOf what) (λ event is. is) old new (same (Asked what) (Own what) old new x.1)

  plainly-obeyed : (old : PlayModel C J) (what : Order) (result : Result (Unit {0}) PlayFault) (new : PlayModel C J) → StaysInOrder result → Obeys moves gives_none takes_none old what result new → PlaysToBeside old new
  plainly-obeyed old what result new stays x = plainly-beside (Asked what) (IsEventOf what) old new (obeyed-beside old what result new stays x)

  obeyed-all-beside : (orders : List Order) (old : PlayModel C J) (result : Result (Unit {0}) PlayFault) (new : PlayModel C J) → StaysInOrder result → ObeysAll moves gives_none takes_none old orders result new → PlaysToBeside old new
  obeyed-all-beside [] old result new stays x = λ s shows. (s, ([], refl), subst (λ (p : PlayModel C J). Shows p s) (sym x.1) shows)
  obeyed-all-beside (what ∷ orders) old result new stays (inl x) = goes-beside old x.0 new (plainly-obeyed old what (Ok tt) x.0 tt x.1) (obeyed-all-beside orders x.0 result new stays x.2)
  obeyed-all-beside (what ∷ orders) old result new stays (inr x) = plainly-obeyed old what (Err x.0) new (subst StaysInOrder x.1 stays) x.2

  pub obeyed-is-sound-beside : PlaysRefineBeside C J → ObeyedIsSoundBeside C J moves gives_none takes_none
  obeyed-is-sound-beside refine old new orders result x stays = soundly-beside refine old new (obeyed-all-beside orders old result new stays x)

-- ---- what ends so

no-turn : (why : EngineFault) → fault.TooLong ≡ of_turn why → ⊥
no-turn cause_of.NoMemory is = cc
no-turn cause_of.OutOfOrder is = cc

no-end : (result : Result (Unit {0}) PlayFault) → result ≡ Err fault.TooLong → result ≡ Ok tt → ⊥
no-end result is fine = cc

one-fault : (result : Result (Unit {0}) PlayFault) (why : PlayFault) → result ≡ Err fault.TooLong → result ≡ Err why → why ≡ fault.TooLong
one-fault result why is so = cc

-- ---- the next order

-- a list that is not empty, by what stands first
by-first : {X : Type 0} (xs : List X) (x : X) → 1 ≤ length xs → x ≡ get_or xs 0 x → xs ≡ x ∷ take (length xs - 1) (drop 1 xs)
by-first [] x some is = absurd (omega (arith, some))
by-first (y ∷ ys) x some is = λ i. sym is i ∷ whole ys (suc (length ys) - 1) (omega arith) i
  where
    whole : {X : Type 0} (ys : List X) (n : ℕ) → n ≡ length ys → ys ≡ take n ys
    whole [] zero e = refl
    whole [] (suc n) e = refl
    whole (y ∷ ys) zero e = absurd (omega (arith, e))
    whole (y ∷ ys) (suc n) e = ap (λ zs. y ∷ zs) (whole ys n (omega (arith, e)))

module _ {C J : Type 0} (moves : Moves C) (gives_none takes_none : C → Type 0) where
  -- what obeying from here on gives, obeying from the first order gives
  abbrev pub GoesOn : PlayModel C J → List Order → PlayModel C J → List Order → Type 0
  GoesOn first orders now rest = (result : Result (Unit {0}) PlayFault) (new : PlayModel C J) → ObeysAll moves gives_none takes_none now rest result new → ObeysAll moves gives_none takes_none first orders result new

  pub goes-on : (first : PlayModel C J) (orders : List Order) (now : PlayModel C J) (rest : List Order) (what : Order) (next : PlayModel C J) → 1 ≤ length rest → what ≡ get_or rest 0 what
      → GoesOn first orders now rest → Obeys moves gives_none takes_none now what (Ok tt) next → GoesOn first orders next (take (length rest - 1) (drop 1 rest))
  goes-on first orders now rest what next some is goes x result new later =
      subst (GoesOn first orders now) (by-first rest what some is) goes result new (inl (next, x, later))

  pub ends-here : (first : PlayModel C J) (orders : List Order) (now : PlayModel C J) (rest : List Order) (what : Order) (why : PlayFault) (next : PlayModel C J) → 1 ≤ length rest → what ≡ get_or rest 0 what
      → GoesOn first orders now rest → Obeys moves gives_none takes_none now what (Err why) next → ObeysAll moves gives_none takes_none first orders (Err why) next
  ends-here first orders now rest what why next some is goes x =
      subst (GoesOn first orders now) (by-first rest what some is) goes (Err why) next (inr (why, refl, x))

  pub all-obeyed : (first : PlayModel C J) (orders : List Order) (now : PlayModel C J) (rest : List Order) → length rest < 1 → GoesOn first orders now rest → ObeysAll moves gives_none takes_none first orders (Ok tt) now
  all-obeyed first orders now [] none goes = goes (Ok tt) now (refl, refl)
  all-obeyed first orders now (what ∷ rest) none goes = absurd (omega (arith, none))

  -- ---- a reply that is too long

  -- no other order ends so
  was-to-serve : (old : PlayModel C J) (what : Order) (new : PlayModel C J) → Obeys moves gives_none takes_none old what (Err fault.TooLong) new
      → (node : ℕ) × (verdict : Verdict) × (what ≡ order.Serve node verdict) × ServesNode old node verdict (Err fault.TooLong) new
  was-to-serve old order.Turn new x = absurd (no-turn x.0 x.1)
  was-to-serve old (order.Serve node verdict) new x = (node, verdict, refl, x)
  was-to-serve old (order.Break node) new x = absurd (no-end (Err fault.TooLong) refl x.0)
  was-to-serve old (order.Cut node most) new x = absurd (no-end (Err fault.TooLong) refl x.0)
  was-to-serve old (order.Move move) new x = absurd x.0
  was-to-serve old (order.Others node asking parts) new x = absurd x.0

  up-to : (orders : List Order) (old new : PlayModel C J) → ObeysAll moves gives_none takes_none old orders (Err fault.TooLong) new
      → (before : List Order) × (node : ℕ) × (verdict : Verdict) × (after : List Order) × (mid : PlayModel C J)
      × (orders ≡ before ++ order.Serve node verdict ∷ after) × ObeysAll moves gives_none takes_none old before (Ok tt) mid × ServesNode mid node verdict (Err fault.TooLong) new
  up-to [] old new x = absurd (no-end (Err fault.TooLong) refl x.0)
  up-to (what ∷ orders) old new (inl x) =
      let u = up-to orders x.0 new x.2 in
      (what ∷ u.0, u.1, u.2, u.3, u.4, ap (λ os. what ∷ os) u.5, inl (x.0, x.1, u.6), u.7)
  up-to (what ∷ orders) old new (inr x) =
      let s = was-to-serve old what new (subst (λ why. Obeys moves gives_none takes_none old what (Err why) new) (one-fault (Err fault.TooLong) x.0 refl x.1) x.2) in
      ([], s.0, s.1, orders, old, ap (λ w. w ∷ orders) s.2, (refl, refl), s.3)

  pub ends-too-long : ObeyedIsSoundBeside C J moves gives_none takes_none → (old : PlayModel C J) (orders : List Order) (result : Result (Unit {0}) PlayFault) (new : PlayModel C J) → ObeysAll moves gives_none takes_none old orders result new
      → EndsTooLong moves gives_none takes_none old orders result new
  ends-too-long sound old orders result new x is =
      let u = up-to orders old new (subst (λ r. ObeysAll moves gives_none takes_none old orders r new) is x) in
      (u.0, u.1, u.2, u.3, u.4, u.5, u.6, sound old u.4 u.0 (Ok tt) u.6 tt, u.7)
