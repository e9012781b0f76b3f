-- What the calls of a session do.
-- One definition for each call, by cases on its answer. A call that answers NoMemory leaves what was held, except
-- that words may have been taken ahead. The limit of 1,024 unanswered requests is this proxy's.
use Rattle.std.specs.Prelude.{◌≡◌, ◌⊎◌, ◌<◌, ◌≤◌, ◌+◌, ◌-◌, ◌^◌, List, [], ◌∷◌, ◌++◌, ℕ, Bool, true, false, Option, Some, None, Result, Ok, Err, length, map, replicate, nat_le, if◌then◌else◌, slice_get, slice_set, take}
use Rattle.std.specs.List.{list_any}
use Rattle.key_split.specs.PartModel.{PartModel}
use Rattle.key_split.specs.declared.travel.Ticket.{Ticket}
use Rattle.key_split.specs.declared.travel.Ended.{Ended}
use Rattle.key_split.specs.declared.travel.Ended.TheVariants.{Lost}
use Rattle.key_split.specs.declared.planned.PlanFault.{PlanFault}
use Rattle.key_split.specs.declared.planned.Planned.{Planned}
use Rattle.key_split.specs.declared.planned.Planned.TheVariants as planned
use Rattle.session_order.specs.declared.queue.PartStage.TheVariants.{Waiting, Out, Done}
use Rattle.session_order.specs.declared.closing.Closing.{Closing}
use Rattle.session_order.specs.declared.closing.Closing.TheVariants.{Open, Quit, Faulted}
use Rattle.session_order.specs.declared.closing.Broken.{Broken}
use Rattle.session_order.specs.declared.closing.Broken.TheVariants as broken
use Rattle.session_order.specs.declared.fault.SessionFault.{SessionFault}
use Rattle.session_order.specs.declared.fault.SessionFault.TheVariants.{NoMemory, Wire, NotRequest}
use Rattle.session_order.specs.Requests.{Skipped, Refused}
use Rattle.session_order.specs.Turn.{IsNext, IsFollower, handed_out, blocks, waits_for, MayPost}
use Rattle.session_order.specs.RequestReaderModel.{RequestReaderModel, NextWords, TakesValue, KeepsWords, IsDry, IsGarbled}
use Rattle.session_order.specs.PendingReply.{owed_by, plan_for}
use Rattle.session_order.specs.SessionModel.{SessionModel}
use Rattle.session_order.specs.Replies.{last_line}

-- what a broken session answers
abbrev pub fault_of : Broken → SessionFault
fault_of (broken.Wire fault) = Wire fault
fault_of broken.NotRequest = NotRequest

abbrev pub IsNotFaulted : Closing → Type 0
IsNotFaulted Open = Unit {0}
IsNotFaulted Quit = Unit {0}
IsNotFaulted (Faulted why owed) = ⊥

abbrev pub FaultedBy : Broken → Closing → Type 0
FaultedBy why closing = (owed : Bool) × (closing ≡ Faulted why owed)

-- the session may read a request
abbrev pub MayRead : SessionModel → Type 0
MayRead held = (held.closing ≡ Open) × (length held.requests < 1024)

-- what is held with one more request, which is owed by a plan
abbrev pub with_owed : SessionModel → Result Planned PlanFault → SessionModel
with_owed held plan = record held { requests = held.requests ++ owed_by plan ∷ [] }

-- the reply or the parts that a plan adds, or words that have none; nothing for more parts than can be numbered
abbrev pub added : SessionModel → Result Planned PlanFault → Result SessionModel Broken
added held (Err fault) = Ok (with_owed held (Err fault))
added held (Ok (planned.Local value)) = Ok (with_owed held (Ok (planned.Local value)))
added held (Ok planned.Close) = Ok (record (with_owed held (Ok planned.Close)) { closing = Quit })
added held (Ok (planned.Parts how parts)) =
    if nat_le (held.first + length held.stages + length parts) (2 ^ 48)
    then Ok (record (with_owed held (Ok (planned.Parts how parts))) {
      stages = held.stages ++ map Waiting parts;
      ends = held.ends ++ replicate (length parts) Lost;
    })
    else Err broken.NotRequest

-- what is held after the words of a request were read
abbrev pub with_words : SessionModel → List (List ℕ) → Result SessionModel Broken
with_words held words = added held (plan_for words)

-- what is held with these bytes in place of those that were not read
abbrev pub with_incoming : SessionModel → RequestReaderModel → SessionModel
with_incoming held incoming = record held { incoming = incoming }

-- a fault closes the session, and its line is owed
abbrev pub broken_by : SessionModel → Broken → SessionModel
broken_by held why = record held { closing = Faulted why true }

-- what adding a request's words does
abbrev pub AddOutcome : SessionModel → List (List ℕ) → Result Bool SessionFault → SessionModel → Type 0
AddOutcome old words (Ok true) new = with_words old words ≡ Ok new
AddOutcome old words (Ok false) new = ⊥
AddOutcome old words (Err NoMemory) new = new ≡ with_incoming old (record old.incoming { ahead = Some words })
AddOutcome old words (Err (Wire fault)) new = ⊥
AddOutcome old words (Err NotRequest) new = (with_words old words ≡ Err broken.NotRequest) × (new ≡ broken_by old broken.NotRequest)

-- the words of the next request are read, with this result
abbrev pub ReadsWords : SessionModel → List (List ℕ) → Result SessionModel Broken → RequestReaderModel → Type 0
ReadsWords old words result rest = NextWords old.incoming words rest × (with_words (with_incoming old rest) words ≡ result)

-- what reading at most one request does
abbrev pub ReadOutcome : SessionModel → Result Bool SessionFault → SessionModel → Type 0
ReadOutcome old (Ok true) new = MayRead old × (
    ((words : List (List ℕ)) × (rest : RequestReaderModel) × ReadsWords old words (Ok new) rest)
    ⊎ (TakesValue old.incoming Skipped new.incoming × (new ≡ with_incoming old new.incoming)))
ReadOutcome old (Ok false) new = (new ≡ old) × (
    (old.closing ≡ Quit)
    ⊎ ((old.closing ≡ Open) × (length old.requests ≡ 1024))
    ⊎ (MayRead old × IsDry old.incoming))
-- nothing was read, though a whole request or the words of one stand first; the words may have been taken ahead
ReadOutcome old (Err NoMemory) new = MayRead old × KeepsWords old.incoming new.incoming × (new ≡ with_incoming old new.incoming)
ReadOutcome old (Err (Wire fault)) new =
    (FaultedBy (broken.Wire fault) old.closing × (new ≡ old))
    ⊎ (MayRead old × IsGarbled old.incoming fault new.incoming × (new ≡ broken_by (with_incoming old new.incoming) (broken.Wire fault)))
ReadOutcome old (Err NotRequest) new =
    (FaultedBy broken.NotRequest old.closing × (new ≡ old))
    ⊎ (MayRead old × TakesValue old.incoming Refused new.incoming × (new ≡ broken_by (with_incoming old new.incoming) broken.NotRequest))
    ⊎ (MayRead old × (words : List (List ℕ)) × (rest : RequestReaderModel) × ReadsWords old words (Err broken.NotRequest) rest
    × (new ≡ broken_by (with_incoming old rest) broken.NotRequest))

-- the piece stands behind the bytes that were not read
abbrev pub fed : RequestReaderModel → List ℕ → RequestReaderModel
fed incoming piece = record incoming { input = record incoming.input { unread = incoming.input.unread ++ piece } }

-- The whole piece is taken, or nothing where 1,024 requests are unanswered. After QUIT it is thrown away.
abbrev pub FeedOutcome : SessionModel → List ℕ → Result ℕ SessionFault → SessionModel → Type 0
FeedOutcome old piece (Ok n) new =
    ((length old.requests ≡ 1024) × (n ≡ 0) × (new ≡ old) × IsNotFaulted old.closing)
    ⊎ ((length old.requests < 1024) × (n ≡ length piece)
    × (((old.closing ≡ Open) × (new ≡ with_incoming old (fed old.incoming piece)))
    ⊎ ((old.closing ≡ Quit) × (new ≡ old))))
FeedOutcome old piece (Err NoMemory) new = MayRead old × (new ≡ old)
FeedOutcome old piece (Err (Wire fault)) new = FaultedBy (broken.Wire fault) old.closing × (new ≡ old)
FeedOutcome old piece (Err NotRequest) new = FaultedBy broken.NotRequest old.closing × (new ≡ old)

-- The earliest part that was not handed out and whose turn it is is handed out.
abbrev pub ReadyOutcome : SessionModel → Option (Ticket × PartModel) → SessionModel → Type 0
ReadyOutcome old None new = ((i : ℕ) → MayPost old.stages i → ⊥) × (new ≡ old)
ReadyOutcome old (Some given) new =
    (i : ℕ) × IsNext old.stages i given.1
    × (given.0 ≡ record { worker = old.worker; client = old.client; part = old.first + i })
    × (new ≡ record old { stages = handed_out old.stages i given.1 })

-- The part that may go out behind the one with the ticket, if there is one, is handed out.
abbrev pub FollowerOutcome : SessionModel → Ticket → Option (Ticket × PartModel) → SessionModel → Type 0
FollowerOutcome old ticket None new = ((j : ℕ) (part : PartModel) → IsFollower old.stages (ticket.part - old.first) j part → ⊥) × (new ≡ old)
FollowerOutcome old ticket (Some given) new =
    (j : ℕ) × IsFollower old.stages (ticket.part - old.first) j given.1
    × (given.0 ≡ record { worker = old.worker; client = old.client; part = old.first + j })
    × (new ≡ record old { stages = handed_out old.stages j given.1 })

-- the ticket is of a part that was handed out and has not ended
abbrev pub IsHandedOut : SessionModel → Ticket → Type 0
IsHandedOut held ticket =
    (slot : ℕ) × (held.first ≤ ticket.part) × (slice_get held.stages (ticket.part - held.first) ≡ Some (Out slot))
    × (ticket.worker ≡ held.worker) × (ticket.client ≡ held.client)

-- it is out: it was handed out and has not ended, and all earlier parts for its slot have ended
abbrev pub IsOut : SessionModel → Ticket → Type 0
IsOut held ticket =
    (slot : ℕ) × (held.first ≤ ticket.part) × (slice_get held.stages (ticket.part - held.first) ≡ Some (Out slot))
    × (ticket.worker ≡ held.worker) × (ticket.client ≡ held.client)
    × (list_any (blocks slot) (take (ticket.part - held.first) held.stages) ≡ false)

-- what was out stays out
abbrev pub KeepsOut : SessionModel → SessionModel → Type 0
KeepsOut old new = (ticket : Ticket) → IsOut old ticket → IsOut new ticket

-- it is out in order: it was handed out and has not ended, and all earlier parts for its slot have ended or are out
abbrev pub IsOutInOrder : SessionModel → Ticket → Type 0
IsOutInOrder held ticket =
    (slot : ℕ) × (held.first ≤ ticket.part) × (slice_get held.stages (ticket.part - held.first) ≡ Some (Out slot))
    × (ticket.worker ≡ held.worker) × (ticket.client ≡ held.client)
    × (list_any (waits_for slot) (take (ticket.part - held.first) held.stages) ≡ false)

-- what was out in order stays so
abbrev pub KeepsOrder : SessionModel → SessionModel → Type 0
KeepsOrder old new = (ticket : Ticket) → IsOutInOrder old ticket → IsOutInOrder new ticket

-- the part is done, and its end stands at its place
abbrev pub EndOutcome : SessionModel → Ticket → Ended → SessionModel → Type 0
EndOutcome old ticket end new =
    new ≡ record old {
      stages = slice_set old.stages (ticket.part - old.first) Done;
      ends = slice_set old.ends (ticket.part - old.first) end;
    }

-- it is closed, and nothing is left to drain
abbrev pub IsFinished : SessionModel → Type 0
IsFinished held = (held.closing ≡ Open → ⊥) × (held.requests ≡ []) × (last_line held.closing ≡ [])
