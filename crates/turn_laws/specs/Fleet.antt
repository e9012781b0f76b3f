-- Several proxies before one cluster, beside other clients that are none: each is a system of its own, with its workers, its carrier and its
-- connections. They share the nodes, and know nothing of one another.
-- A step of one changes what the others have of the nodes, and what their logs show executed; so each log shows its own arrivals and
-- answers, and everybody's executions.
-- One premise joins them: a slot is imported when no proxy has a command under way that an ASK sent to the node.
use Rattle.std.specs.Prelude.{◌≡◌, ◌≢◌, ℕ, ◌+◌, ◌%◌, Bool, List, [], ◌∷◌, ◌++◌, length, map}
use Rattle.std.specs.List.{FoldsTo}
use Rattle.world_laws.specs.State.{WorldModel}
use Rattle.world_laws.specs.declared.event.Event.TheVariants as core
use Rattle.turn_laws.specs.Wire.{Execution}
use Rattle.turn_laws.specs.System.{System}
use Rattle.turn_laws.specs.Asking.{NoneAsksIn}
use Rattle.turn_laws.specs.Shadow.{IsShadow}
use Rattle.turn_laws.specs.Naming.{NamesNodes}
use Rattle.turn_laws.specs.Walks.{IsSharedWalked}
use Rattle.turn_laws.specs.Steps.{SystemEvent, Moved, SystemStep, log_of}
use Rattle.turn_laws.specs.Refines.{IsStart}
use Rattle.turn_laws.specs.Addresses.{LedEvent, LedStep}
use Rattle.turn_laws.specs.Sharing.{OthersDo, SharedEvent, SharedSystemStep}
use Rattle.turn_laws.specs.Writing.{StandsAtItsNodes}
use Rattle.turn_laws.specs.LogHeadline.{IsHeld, history}
use Rattle.turn_laws.specs.SharedLog.{SharedLogHeadline}

-- an execution as another proxy sees it, which has `workers` workers: its ticket is none of theirs
abbrev pub foreign : ℕ → Execution → Execution
foreign workers e = record e { ticket = record (e.ticket) { worker = e.ticket.client % workers + 1 + e.ticket.worker } }

-- a step of a proxy; a run of a proxy that another node serves than the one at its connection's endpoint; or a run of a client that is none
pub data FleetEvent : Type 0 where
  By : (p : ℕ) (event : SystemEvent) → FleetEvent
  Led : (p : ℕ) (event : LedEvent) → FleetEvent
  Outside : (node : ℕ) (asking : Bool) (done : List Execution) → FleetEvent

module _ (C J : Type 0) where
  -- the proxies, by their numbers
  abbrev pub Fleet : Type 0
  Fleet = ℕ → System C J

  -- what a step of this proxy is to the others
  abbrev pub IsSeenByOthers : Fleet → ℕ → Fleet → Type 0
  IsSeenByOthers f p f' =
      (done : List Execution) × (history (f' p).log ≡ history (f p).log ++ done)
      × ((q : ℕ) → q ≢ p → f' q ≡ record (f q) { cluster = (f' p).cluster; log = (f q).log ++ log_of (map (foreign (length (f q).workers)) done) })

  abbrev pub FleetStep : Fleet → FleetEvent → Fleet → Type 0
  FleetStep f (FleetEvent.By p event) f' =
      SystemStep (f p) event (f' p)
      × ((slot target : ℕ) → event ≡ Moved (core.Import slot target) → (q : ℕ) → NoneAsksIn (f q) slot target)
      × IsSeenByOthers f p f'
  FleetStep f (FleetEvent.Led p event) f' = LedStep (f p) event (f' p) × IsSeenByOthers f p f'
  FleetStep f (FleetEvent.Outside node asking done) f' =
      ((q : ℕ) → OthersDo (f q) node asking (map (foreign (length (f q).workers)) done) (f' q)) × ((p q : ℕ) → (f' p).cluster ≡ (f' q).cluster)

  abbrev pub FleetRun : Fleet → List FleetEvent → Fleet → Type 0
  FleetRun f [] f' = f' ≡ f
  FleetRun f (event ∷ events) f' = (mid : Fleet) × FleetStep f event mid × FleetRun mid events f'

  -- nothing has happened, and the nodes are those of all
  pub record IsFleetStart (f : Fleet) : Type 0 where
    pub starts : (p : ℕ) → IsStart (f p)
    pub shared : (p q : ℕ) → (f p).cluster ≡ (f q).cluster

  -- the headline holds of each proxy's commands, and the nodes hold the store that its log leaves
  abbrev pub EveryFleet : Type 0
  EveryFleet = (f f' : Fleet) (events : List FleetEvent) → IsFleetStart f → FleetRun f events f'
      → (p : ℕ) → SharedLogHeadline (f' p).initial (length (f' p).workers) (f' p).log × IsHeld (f' p).initial (f' p).log (f' p).cluster

  -- What a proxy of a fleet did is steps of its own and of others. So it stands for a world of the machine beside others; its nodes' endpoints
  -- are what they were, and no slot stands at a node that is not of the cluster, if none did.
  pub record ProxyStands (s s' : System C J) : Type 0 where
    pub steps : List SharedEvent
    pub does : FoldsTo SharedSystemStep s steps s'
    pub world : WorldModel
    pub walked : IsSharedWalked world
    pub shadow : IsShadow s' world
    pub names : NamesNodes s'
    pub nodes : s'.nodes ≡ s.nodes
    pub slots : StandsAtItsNodes s.cluster → StandsAtItsNodes s'.cluster

  abbrev pub FleetsStand : Type 0
  FleetsStand = (f f' : Fleet) (events : List FleetEvent) → IsFleetStart f → FleetRun f events f' → (p : ℕ) → ProxyStands (f p) (f' p)

  -- a fleet takes no step away from its proxies: what a system may do, it may do there, if an import waits for all
  abbrev pub FleetFollows : Type 0
  FleetFollows = (f : Fleet) (p : ℕ) (event : SystemEvent) (s' : System C J) → SystemStep (f p) event s'
      → ((slot target : ℕ) → event ≡ Moved (core.Import slot target) → (q : ℕ) → NoneAsksIn (f q) slot target)
      → (f' : Fleet) × FleetStep f (FleetEvent.By p event) f' × (f' p ≡ s')
