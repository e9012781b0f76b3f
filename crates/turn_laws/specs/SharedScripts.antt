-- Lists of steps that a system and others can make from a start, and that the proxies of a fleet can, so that the laws beside others speak
-- of something: their premises hold together in them. The nodes, the key and the slot are those of Scripts.antt, and slot moves begin there.
-- In the first list others set a key between a GET of ours and its reply. In the second a node takes over from another one meanwhile, whose
-- address comes to lead to it. In the third two proxies serve before one cluster, and the client of the one reads what a client of the other set.
use Rattle.std.specs.Prelude.{◌≡◌, ℕ, List, [], ◌∷◌, ◌++◌, false, true, Ok, codes, length, map}
use Rattle.std.specs.List.{FoldsTo}
use Rattle.key_split.specs.declared.travel.Told.TheVariants.{Reply}
use Rattle.key_split.specs.declared.travel.Ended.TheVariants as ended
use Rattle.node_model.specs.declared.role.Verdict.TheVariants.{Plain}
use Rattle.proxy_turns.specs.declared.backend_step.BackendStep.TheVariants as backend
use Rattle.proxy_turns.specs.ClientTurn.{Pulled, Fed, Read, HandedOut, Posted, Drained, Pushed, Tried}
use Rattle.proxy_turns.specs.WorkerModel.{Did, Finished, Took, Came}
use Rattle.proxy_turns.specs.CarrierModel.{AtBackend}
use Rattle.proxy_turns.specs.CarrierModel as carrier
use Rattle.world_laws.specs.declared.event.Event.TheVariants.{Migrate, MoveKey, Own, Release}
use Rattle.turn_laws.specs.Wire.{Execution}
use Rattle.turn_laws.specs.System.{System, Mark, Arrived, Executed, Answered}
use Rattle.turn_laws.specs.Steps.{SystemEvent, AtWorker, AtCarrier, Handed, AtNode, Moved}
use Rattle.turn_laws.specs.Refines.{IsStart}
use Rattle.turn_laws.specs.Addresses.{LedEvent}
use Rattle.turn_laws.specs.Sharing.{SharedEvent, SharedSystemStep}
use Rattle.turn_laws.specs.Fleet.{Fleet, FleetEvent, FleetRun, IsFleetStart, foreign}
use Rattle.turn_laws.specs.Scripts.{key, slot, set, get, ok, five, ticket, plain, did, opening, moving, asking, setting}

-- ---- a client reads

-- `GET Qi`
abbrev pub asked : List ℕ
asked = codes "*2\r\n$3\r\nGET\r\n$2\r\nQi\r\n"

-- a client is handed over and comes, and its command goes to the first node
abbrev pub sending : List SystemEvent
sending =
    Handed 0 0
    ∷ AtWorker 0 (Came 0)
    ∷ AtWorker 0 (Did 0 Tried)
    ∷ AtWorker 0 (Did 0 (Pulled asked))
    ∷ AtWorker 0 (Did 0 (Fed (Ok (length asked))))
    ∷ AtWorker 0 (Did 0 (Read (Ok true)))
    ∷ AtWorker 0 (Did 0 (HandedOut (ticket 0) get))
    ∷ AtWorker 0 (Did 0 (Posted (plain 0 0 get)))
    ∷ AtCarrier carrier.Took
    ∷ AtCarrier carrier.Sent
    ∷ []

-- the reply is told, and the client is answered
abbrev pub telling : List SystemEvent
telling =
    AtCarrier (AtBackend backend.Fetched)
    ∷ AtCarrier carrier.Gave
    ∷ AtWorker 0 (Took (ticket 0) (Reply five))
    ∷ AtWorker 0 (Finished 0 (ticket 0) (ended.Answered five))
    ∷ AtWorker 0 (Did 0 (Drained 7))
    ∷ AtWorker 0 (Did 0 (Pushed (codes "$1\r\n5\r\n")))
    ∷ []

-- the node executes it first
abbrev pub reading : List SystemEvent
reading = AtNode 0 Plain ∷ telling

-- ---- others act between a command and its reply

-- `SET Qi 5`, by a client of no worker of ours
abbrev pub others_set : Execution
others_set = record { ticket = record { worker = 1; client = 9; part = 0 }; part = set; value = ok }

abbrev pub shares : List SharedEvent
shares =
    map SharedEvent.Ours (opening ++ (moving ++ sending)) ++ (SharedEvent.Theirs 0 false (others_set ∷ []) ∷ map SharedEvent.Ours reading)

abbrev pub story_of_sharing : List Mark
story_of_sharing =
    Arrived (ticket 0) get
    ∷ Executed (others_set ∷ [])
    ∷ Executed (did 0 get five ∷ [])
    ∷ Answered (ticket 0) (ended.Answered five)
    ∷ []

-- from some start these steps can be made, ours and others', and this is seen of them
pub record HappensBesideOthers (C J : Type 0) (events : List SharedEvent) (marks : List Mark) : Type 0 where
  pub start : System C J
  pub left : System C J
  pub begins : IsStart start
  pub goes : FoldsTo SharedSystemStep start events left
  pub log : left.log ≡ marks

abbrev pub OthersActBetween : Type 0 → Type 0 → Type 0
OthersActBetween C J = C → HappensBesideOthers C J shares story_of_sharing

-- ---- an address leads to another node

-- the second node takes over the slot and what the first holds, as a replica does in a failover that loses nothing
abbrev pub taking_over : List SystemEvent
taking_over = Moved (Migrate slot) ∷ Moved (MoveKey slot key) ∷ Moved (Own slot) ∷ Moved (Release slot) ∷ []

-- so it is while our GET is on its way to the first one's address, which leads to the second then; what is seen of it is the same
abbrev pub leads : List SharedEvent
leads =
    map SharedEvent.Ours (opening ++ (moving ++ sending))
    ++ (SharedEvent.Theirs 0 false (others_set ∷ [])
    ∷ (map SharedEvent.Ours taking_over ++ (SharedEvent.Led (LedEvent.OfConnection 0 1 Plain) ∷ map SharedEvent.Ours telling)))

abbrev pub AddressesLead : Type 0 → Type 0 → Type 0
AddressesLead C J = C → HappensBesideOthers C J leads story_of_sharing

-- ---- two proxies

-- The second proxy reaches the nodes. A client of the first sets the key, where a slot moves meanwhile. A client of the second reads it.
abbrev pub meets : List FleetEvent
meets =
    map (FleetEvent.By 1) opening ++ (map (FleetEvent.By 0) (opening ++ (moving ++ (asking ++ setting))) ++ map (FleetEvent.By 1) (sending ++ reading))

-- what the first sees, and what the second does: each sees what the other's commands did, by tickets of none of its workers
abbrev pub story_of_writer : List Mark
story_of_writer =
    Arrived (ticket 0) set
    ∷ Arrived (ticket 1) get
    ∷ Executed (did 0 set ok ∷ [])
    ∷ Answered (ticket 0) (ended.Answered ok)
    ∷ Executed (foreign 1 (did 0 get five) ∷ [])
    ∷ []

abbrev pub story_of_reader : List Mark
story_of_reader =
    Executed (foreign 1 (did 0 set ok) ∷ [])
    ∷ Arrived (ticket 0) get
    ∷ Executed (did 0 get five ∷ [])
    ∷ Answered (ticket 0) (ended.Answered five)
    ∷ []

-- from some start of a fleet these steps can be made, and this is seen of them by its first two proxies
pub record FleetHappens (C J : Type 0) (events : List FleetEvent) (first second : List Mark) : Type 0 where
  pub start : Fleet C J
  pub left : Fleet C J
  pub begins : IsFleetStart C J start
  pub goes : FleetRun C J start events left
  pub first_log : (left 0).log ≡ first
  pub second_log : (left 1).log ≡ second

abbrev pub ProxiesMeet : Type 0 → Type 0 → Type 0
ProxiesMeet C J = C → FleetHappens C J meets story_of_writer story_of_reader
