-- What a play did, order by order.
use Rattle.std.proofs.Common.{◌≡◌, inl, inr, List, [], ◌∷◌, Ok, Err, refl, sym, subst}
use Rattle.std.specs.Prelude.{All, Result}
use Rattle.proxy_turns.specs.Port.{Moves}
use Rattle.turn_laws.specs.System.{System}
use Rattle.turn_play.specs.declared.fault.PlayFault.{PlayFault}
use Rattle.turn_play.specs.declared.order.Order.{Order}
use Rattle.turn_play.specs.Beside.{AreGivenBeside, LeadsBeside, PlaysRefineBeside, StepBeside}
use Rattle.turn_play.specs.Obeying.{Obeys, ObeysAll, StaysInOrder}
use Rattle.turn_play.specs.Playing.{PlayModel, Shows}
use Rattle.turn_play.specs.Port.{IsEnd, IsFresh, longest_run, port_calls}
use Rattle.turn_play.specs.Turns.{EnginesPlay}
use Rattle.turn_play.specs.Deeds.{AreDeeds, AreGranted, Deed, IsEventOf, IsGranted, ObeyedPlaysOn, left_by, steps_of}
use Rattle.turn_play.proofs.ServedWires.{ByteLaws}
use Rattle.turn_play.proofs.Playing.{AreMayBeside}
use Rattle.turn_play.proofs.Beside.{premises, joined, premises-join, reach}
use Rattle.turn_play.proofs.Obeyed.{obeyed-beside}

module _ (C J : Type 0) (moves : Moves C) (gives_none takes_none : C → Type 0) where
  -- what these orders did, and that the premises hold where each is granted what it asks
  abbrev pub DidAll : PlayModel C J → List Order → Result (Unit {0}) PlayFault → PlayModel C J → System C J → List (Deed C J) → Type 0
  DidAll old orders result new s deeds =
      AreDeeds moves gives_none takes_none s old orders result deeds new × Shows new (left_by s deeds) × LeadsBeside s (steps_of deeds) (left_by s deeds)
      × (AreGranted s deeds → AreGivenBeside s (steps_of deeds))

  abbrev AreOf : Order → List (StepBeside C J) → Type 0
  AreOf what steps = All (λ (step : StepBeside C J). IsEventOf what step.event) steps

  -- one order, and those behind it
  did-more : (old : PlayModel C J) (what : Order) (orders : List Order) (result : Result (Unit {0}) PlayFault) (mid new : PlayModel C J) (s s' : System C J) (steps : List (StepBeside C J)) → LeadsBeside s steps s' → (IsGranted s what → AreMayBeside s steps)
      → AreOf what steps → Obeys moves gives_none takes_none old what (Ok tt) mid → Shows mid s' → (later : List (Deed C J)) → DidAll mid orders result new s' later
      → DidAll old (what ∷ orders) result new s (record { order = what; steps = steps; next = s' } ∷ later)
  did-more old what orders result mid new s s' steps leads may are obeys shows later x = (
    (refl, leads, are, inl (mid, obeys, shows, x.0)),
    x.1,
    joined s steps s' (steps_of later) (left_by s' later) leads x.2,
    λ given. premises-join s steps s' (steps_of later) leads (premises s steps (may given.0) given.1) (x.3 given.2),
  )

  -- the order at which a fault came
  did-last : (old : PlayModel C J) (what : Order) (orders : List Order) (why : PlayFault) (result : Result (Unit {0}) PlayFault) (new : PlayModel C J) (s s' : System C J) (steps : List (StepBeside C J)) → LeadsBeside s steps s' → (IsGranted s what → AreMayBeside s steps)
      → AreOf what steps → result ≡ Err why → Obeys moves gives_none takes_none old what (Err why) new → Shows new s' → DidAll old (what ∷ orders) result new s (record { order = what; steps = steps; next = s' } ∷ [])
  did-last old what orders why result new s s' steps leads may are is obeys shows = (
    (refl, leads, are, inr (why, is, obeys, shows, refl)),
    shows,
    joined s steps s' [] s' leads refl,
    λ given. premises-join s steps s' [] leads (premises s steps (may given.0) given.1) tt,
  )

  module _ (engines : EnginesPlay C J moves IsEnd port_calls IsFresh longest_run) (laws : ByteLaws) where
    pub did-all : (orders : List Order) (old : PlayModel C J) (result : Result (Unit {0}) PlayFault) (new : PlayModel C J) → ObeysAll moves gives_none takes_none old orders result new → StaysInOrder result → (s : System C J) → Shows old s
        → (deeds : List (Deed C J)) × DidAll old orders result new s deeds
    did-all [] old result new x stays s shows = ([], (x, subst (λ (p : PlayModel C J). Shows p s) (sym x.1) shows, refl, λ given. tt))
    did-all (what ∷ orders) old result new (inl x) stays s shows =
        let one = obeyed-beside C J moves gives_none takes_none engines laws old what (Ok tt) x.0 tt x.1 s shows in
        let later = did-all orders x.0 result new x.2 stays one.0 one.2 in
        (record { order = what; steps = one.1.0; next = one.0 } ∷ later.0, did-more old what orders result x.0 new s one.0 one.1.0 one.1.1 one.1.2 one.1.3 x.1 one.2 later.0 later.1)
    did-all (what ∷ orders) old result new (inr x) stays s shows =
        let one = obeyed-beside C J moves gives_none takes_none engines laws old what (Err x.0) new (subst StaysInOrder x.1 stays) x.2 s shows in
        (record { order = what; steps = one.1.0; next = one.0 } ∷ [], did-last old what orders x.0 result new s one.0 one.1.0 one.1.1 one.1.2 one.1.3 x.1 x.2 one.2)

    pub obeyed-plays-on : PlaysRefineBeside C J → ObeyedPlaysOn C J moves gives_none takes_none
    obeyed-plays-on refine old new orders result x stays s shows =
        let deeds = did-all orders old result new x stays s shows in (
          deeds.0,
          deeds.1.0,
          deeds.1.1,
          λ start before reached given. reach refine start before s (steps_of deeds.0) (left_by s deeds.0) reached deeds.1.2 (deeds.1.3 given),
        )
