-- A story in bytes, so that the headline in bytes (BytesHeadline.antt) speaks of something: its premises hold together along these steps, and
-- so does what it says. The nodes, the key, the slot and the client's requests are those of Scripts.antt.
-- The nodes hold a value at first, which others take. A slot moves, and its old owner refuses a request with ASK. The connection to its new
-- owner breaks in the midst of that request, behind ASKING. The client reads slowly, and its own connection breaks in the midst of the next.
use Rattle.std.specs.Prelude.{◌≡◌, ◌≢◌, ℕ, List, [], ◌∷◌, ◌++◌, Some, Ok, true, false, codes, length, map}
use Rattle.std.specs.List.{FoldsTo, flat_map}
use Rattle.std.specs.FinMap.{get as value_at}
use Rattle.resp_wire.specs.declared.value.Value.TheVariants.{Bulk}
use Rattle.key_split.specs.declared.part.Op.TheVariants as op
use Rattle.key_split.specs.declared.travel.Told.TheVariants as told
use Rattle.key_split.specs.declared.travel.Ended.TheVariants as ended
use Rattle.node_model.specs.Nodes.{standing_at}
use Rattle.node_model.specs.declared.standing.Phase.TheVariants.{Settled}
use Rattle.proxy_turns.specs.declared.backend_step.BackendStep.TheVariants as backend
use Rattle.proxy_turns.specs.ClientTurn.{Pulled, Fed, Drained, Pushed, Parted}
use Rattle.proxy_turns.specs.WorkerModel.{Did, Finished, Took}
use Rattle.proxy_turns.specs.CarrierModel.{AtBackend}
use Rattle.proxy_turns.specs.CarrierModel as carrier
use Rattle.world_laws.specs.declared.event.Event.TheVariants.{Own, Release}
use Rattle.turn_laws.specs.Wire.{Execution, Runs}
use Rattle.turn_laws.specs.System.{System, Mark, Arrived, Executed, Answered}
use Rattle.turn_laws.specs.Steps.{SystemEvent, AtWorker, AtCarrier, Moved}
use Rattle.turn_laws.specs.Sharing.{SharedEvent, SharedSystemStep}
use Rattle.turn_laws.specs.Refines.{IsStart}
use Rattle.turn_laws.specs.LogHeadline.{IsIn}
use Rattle.turn_laws.specs.LogOutput.{answers_to}
use Rattle.turn_laws.specs.Pipelines.{Pipeline, whole_output}
use Rattle.turn_laws.specs.BytesHeadline.{BytesHeadline, sent_by, written_to}
use Rattle.turn_laws.specs.Scripts.{asked, did, get, key, ok, set, slot, ticket, up_to_asking}

-- ---- what happens

-- `GETDEL Qi`, by a client of no worker of ours
abbrev pub others_take : Execution
others_take = record { ticket = record { worker = 1; client = 9; part = 0 }; part = record { op = op.GetDel; key = key; arg = []; rest = [] }; value = Bulk (codes "4") }

-- the connection to the second node breaks, which has served ASKING and not the command behind it
abbrev pub cut_off : List SystemEvent
cut_off =
    AtCarrier (AtBackend backend.Broke)
    ∷ AtCarrier (AtBackend backend.GaveUp)
    ∷ AtCarrier carrier.Gave
    ∷ AtCarrier (AtBackend backend.Closed)
    ∷ AtWorker 0 (Took (ticket 1) told.Lost)
    ∷ AtWorker 0 (Finished 0 (ticket 1) ended.Lost)
    ∷ []

-- the first bytes of `GET Qi`
abbrev pub half : List ℕ
half = codes "*2\r\n$3\r\nGE"

-- the client takes the first bytes of the line that it is owed, and is gone in the midst of its third request
abbrev pub reading_slowly : List SystemEvent
reading_slowly =
    AtWorker 0 (Did 0 (Drained 46))
    ∷ AtWorker 0 (Did 0 (Pushed (codes "-ERR proxy: connection lost")))
    ∷ AtWorker 0 (Did 0 (Pulled half))
    ∷ AtWorker 0 (Did 0 (Fed (Ok (length half))))
    ∷ AtWorker 0 (Did 0 Parted)
    ∷ []

-- the second node owns the slot
abbrev pub moved_on : List SystemEvent
moved_on = Moved (Own slot) ∷ Moved (Release slot) ∷ []

abbrev pub byte_story : List SharedEvent
byte_story = SharedEvent.Theirs 0 false (others_take ∷ []) ∷ map SharedEvent.Ours (up_to_asking ++ (cut_off ++ (reading_slowly ++ moved_on)))

-- ---- what is seen of it

abbrev pub marks_of_bytes : List Mark
marks_of_bytes =
    Executed (others_take ∷ [])
    ∷ Arrived (ticket 0) set
    ∷ Arrived (ticket 1) get
    ∷ Executed (did 0 set ok ∷ [])
    ∷ Answered (ticket 0) (ended.Answered ok)
    ∷ Answered (ticket 1) ended.Lost
    ∷ []

-- what the client sent, and what it was written
abbrev pub came : List ℕ
came = sent_by byte_story 0 0

abbrev pub went : List ℕ
went = written_to byte_story 0 0

-- the client is owed more than it was written
abbrev pub IsOwedMore : List Mark → Type 0
IsOwedMore log = (pipeline : Pipeline came) × (more : List ℕ) × (more ≢ []) × (whole_output pipeline (flat_map (answers_to 0 0) log) ≡ went ++ more)

-- from some start these steps can be made, one after another
pub record BytesHappen (C J : Type 0) : Type 0 where
  pub start : System C J
  pub left : System C J
  -- the premises of the headline in bytes,
  pub begins : IsStart start
  pub goes : FoldsTo SharedSystemStep start byte_story left
  -- and what it says
  pub holds : BytesHeadline left.initial (length left.workers) (sent_by byte_story) (written_to byte_story) left.log
  -- this is seen
  pub log : left.log ≡ marks_of_bytes
  -- the nodes hold a value at first
  pub held : value_at start.initial key ≡ Some (codes "4")
  -- the slot was the first node's, and is the second's
  pub before : ((standing_at start.cluster slot).target ≡ 0) × ((standing_at start.cluster slot).phase ≡ Settled)
  pub after : ((standing_at left.cluster slot).target ≡ 1) × ((standing_at left.cluster slot).phase ≡ Settled)
  -- a worker is told ASK
  pub refused : IsIn byte_story (SharedEvent.Ours (AtWorker 0 (Took (ticket 1) (told.Ask slot 1))))
  -- the command behind ASKING stands on a broken connection
  pub broken : IsIn left.closed (record { id = 1; node = 1; items = Runs ((ticket 1, get) ∷ []) ∷ []; values = []; asking = true })
  -- the client sent two requests and the half of a third
  pub sent : came ≡ asked ++ half
  pub slow : IsOwedMore left.log

abbrev pub HeadlineHappens : Type 0 → Type 0 → Type 0
HeadlineHappens C J = C → BytesHappen C J
