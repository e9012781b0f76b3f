-- Several plays before one cluster are a fleet: each is what one proxy of it shows, and a call of one play is steps of that proxy.
use Rattle.std.specs.Prelude.{◌≢◌, ℕ, ◌==◌, List, ◌++◌, All, Result, length, map, if◌then◌else◌}
use Rattle.proxy_turns.specs.declared.newcomer.Newcomer.{Newcomer}
use Rattle.proxy_turns.specs.Port.{Moves}
use Rattle.turn_laws.specs.System.{System}
use Rattle.turn_laws.specs.Steps.{SystemEvent}
use Rattle.turn_laws.specs.LogHeadline.{IsHeld}
use Rattle.turn_laws.specs.SharedLog.{SharedLogHeadline}
use Rattle.turn_laws.specs.Fleet.{Fleet, FleetEvent, FleetRun, IsFleetStart}
use Rattle.turn_play.specs.declared.fault.PlayFault.{PlayFault}
use Rattle.turn_play.specs.declared.order.Order.{Order}
use Rattle.turn_play.specs.declared.order.Order.TheVariants as order
use Rattle.turn_play.specs.May.{HearsItsNodes, MayMoveNow}
use Rattle.turn_play.specs.Moving.{event_of}
use Rattle.turn_play.specs.Playing.{PlayModel, Shows}
use Rattle.turn_play.specs.Obeying.{IsOurs, ObeysAll, StaysInOrder}
use Rattle.turn_play.specs.Beside.{LeadsBeside, StepBeside}
use Rattle.turn_play.specs.Deeds.{AreDeeds, AreGranted, Deed}
use Rattle.turn_play.specs.Handing.{HandsClient}

module _ {C J : Type 0} where
  -- each play is shown by its proxy
  abbrev pub ShowsAll : (ℕ → PlayModel C J) → Fleet C J → Type 0
  ShowsAll plays f = (q : ℕ) → Shows (plays q) (f q)

  -- after a call of play p, the others have the nodes that it left
  abbrev pub after_call : (ℕ → PlayModel C J) → ℕ → PlayModel C J → ℕ → PlayModel C J
  after_call plays p new q = if q == p then new else record (plays q) { cluster = new.cluster }

  -- an import waits for all other proxies too
  abbrev pub OthersWait : Fleet C J → ℕ → Order → Type 0
  OthersWait f p (order.Move step) = (q : ℕ) → q ≢ p → MayMoveNow (f q) (event_of step)
  OthersWait f p order = Unit {0}

  -- these steps led there from a start of a fleet that hears its nodes
  pub record IsFleetReached (start : Fleet C J) (events : List FleetEvent) (f : Fleet C J) : Type 0 where
    pub starts : IsFleetStart C J start
    pub hears : (q : ℕ) → HearsItsNodes (start q)
    pub runs : FleetRun C J start events f

  -- the headline holds of each proxy's commands, and its nodes hold the store that its log leaves
  abbrev pub HoldsOfAll : Fleet C J → Type 0
  HoldsOfAll f = (q : ℕ) → SharedLogHeadline (f q).initial (length (f q).workers) (f q).log × IsHeld (f q).initial (f q).log (f q).cluster

  -- From this fleet, which was reached, steps of proxy p lead to one that shows the plays after a call of play p, and the headline holds of it.
  abbrev pub FleetGoes : (ℕ → PlayModel C J) → ℕ → PlayModel C J → Fleet C J → List FleetEvent → Type 0
  FleetGoes plays p new start before =
      (events : List SystemEvent) × (f : Fleet C J) × IsFleetReached start (before ++ map (FleetEvent.By p) events) f × ShowsAll (after_call plays p new) f × HoldsOfAll f

  -- Of each fleet that shows the plays there are steps by which a client is handed to play p. Where the fleet was reached, it goes on.
  abbrev pub FleetHandsOn : (ℕ → PlayModel C J) → ℕ → PlayModel C J → Type 0
  FleetHandsOn plays p new = (f : Fleet C J) → ShowsAll plays f
      → (s : System C J) × (steps : List (StepBeside C J)) × LeadsBeside (f p) steps s × Shows new s
      × ((start : Fleet C J) (before : List FleetEvent) → IsFleetReached start before f → FleetGoes plays p new start before)

  module _ (moves : Moves C) (gives_none takes_none : C → Type 0) where
    -- Of each fleet that shows the plays there are such deeds of play p. Where the fleet was reached, they are granted what they ask, and the
    -- others wait where a slot is imported, the fleet goes on.
    abbrev pub FleetPlaysOn : (ℕ → PlayModel C J) → ℕ → List Order → Result (Unit {0}) PlayFault → PlayModel C J → Type 0
    FleetPlaysOn plays p orders result new = (f : Fleet C J) → ShowsAll plays f
        → (deeds : List (Deed C J)) × AreDeeds moves gives_none takes_none (f p) (plays p) orders result deeds new
        × ((start : Fleet C J) (before : List FleetEvent) → IsFleetReached start before f → AreGranted (f p) deeds → All (OthersWait f p) orders → FleetGoes plays p new start before)

module _ (C J : Type 0) (moves : Moves C) (gives_none takes_none : C → Type 0) where
  -- whatever orders play p obeyed that let nobody else act, the fleet goes on so
  abbrev pub PlaysAreFleets : Type 0
  PlaysAreFleets = (plays : ℕ → PlayModel C J) (p : ℕ) (orders : List Order) (result : Result (Unit {0}) PlayFault) (new : PlayModel C J) → All IsOurs orders
      → ObeysAll moves gives_none takes_none (plays p) orders result new → StaysInOrder result → FleetPlaysOn moves gives_none takes_none plays p orders result new

module _ (C J : Type 0) where
  -- and whoever is handed to play p
  abbrev pub HandedInFleets : Type 0
  HandedInFleets = (plays : ℕ → PlayModel C J) (p : ℕ) (client : Newcomer C J) (handed : Result (Unit {0}) (Newcomer C J)) (new : PlayModel C J) → HandsClient (plays p) client handed new → FleetHandsOn plays p new
