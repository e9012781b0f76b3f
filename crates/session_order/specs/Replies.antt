-- A session's output: the replies in the order of the requests, up to the first that has a part which has not ended.
-- A drain writes replies that are next in order, until they have as many bytes as were asked for, or none for want of memory.
use Rattle.std.specs.Prelude.{◌≡◌, ◌<◌, ◌≤◌, ◌+◌, suc, List, [], ◌∷◌, ◌++◌, ℕ, Bool, true, false, Option, Some, None, Result, Ok, Err, if◌then◌else◌, take, drop, length, flat_map, nat_le}
use Rattle.std.specs.List.{list_all}
use Rattle.resp_wire.specs.declared.value.Value.{Value}
use Rattle.resp_wire.specs.Seen.{data_of}
use Rattle.resp_wire.specs.Canonical.{canonical}
use Rattle.key_split.specs.declared.travel.Ended.{Ended}
use Rattle.key_split.specs.declared.planned.Joining.{Joining}
use Rattle.key_split.specs.Join.{join_of, CanJoin}
use Rattle.session_order.specs.PendingReply.{protocol_error}
use Rattle.session_order.specs.declared.queue.PartStage.{PartStage}
use Rattle.session_order.specs.declared.replies.PendingReply.{PendingReply}
use Rattle.session_order.specs.declared.replies.PendingReply.TheVariants.{Reply, Parts}
use Rattle.session_order.specs.declared.replies.WrittenReply.{WrittenReply}
use Rattle.session_order.specs.declared.replies.WrittenReply.TheVariants.{Whole, Head, Nothing}
use Rattle.session_order.specs.declared.drained.Drained.{Drained}
use Rattle.session_order.specs.declared.closing.Closing.{Closing}
use Rattle.session_order.specs.declared.closing.Closing.TheVariants.{Open, Quit, Faulted}
use Rattle.resp_wire.specs.declared.fault.NoMemory.{NoMemory}
use Rattle.session_order.specs.Turn.{is_done}
use Rattle.session_order.specs.SessionModel.{SessionModel}

-- the canonical spelling of a reply
unfoldable pub spelling : Value → List ℕ
spelling value = canonical (data_of value)

-- the reply that the ends of a request's parts make
unfoldable pub joined : Joining → List Ended → Value
joined how ends = join_of how ends

-- A request's reply and how many parts it has, once all of them have ended. The stages and ends are those of its
-- parts and of the parts after them.
abbrev pub reply_of : PendingReply → List PartStage → List Ended → Option (Value × ℕ)
reply_of (Reply value) stages ends = Some (value, 0)
reply_of (Parts how n) stages ends = if list_all is_done (take n stages) then Some (joined how (take n ends), n) else None

-- the replies that are next in order; the last line follows when every request has its reply
abbrev pub replies : List PendingReply → List PartStage → List Ended → List Value → List Value
replies [] stages ends last = last
replies (owed ∷ rs) stages ends last = elim (reply_of owed stages ends) [
  | Some reply ↦ reply.0 ∷ replies rs (drop reply.1 stages) (drop reply.1 ends) last
  | None ↦ []
]

-- how many requests have their reply in order, and how many parts these have
abbrev pub replied : List PendingReply → List PartStage → List Ended → ℕ × ℕ
replied [] stages ends = (0, 0)
replied (owed ∷ rs) stages ends = elim (reply_of owed stages ends) [
  | Some reply ↦ (suc (replied rs (drop reply.1 stages) (drop reply.1 ends)).0, reply.1 + (replied rs (drop reply.1 stages) (drop reply.1 ends)).1)
  | None ↦ (0, 0)
]

-- the error line that is owed after a fault
abbrev pub last_line : Closing → List Value
last_line Open = []
last_line Quit = []
last_line (Faulted why true) = protocol_error ∷ []
last_line (Faulted why false) = []

abbrev pub lines_owed : Bool → List Value
lines_owed true = protocol_error ∷ []
lines_owed false = []

-- how many parts the requests have
abbrev pub parts_of : List PendingReply → ℕ
parts_of [] = 0
parts_of (Reply value ∷ rs) = parts_of rs
parts_of (Parts how n ∷ rs) = n + parts_of rs

-- each request with parts can be joined
abbrev pub AreJoinable : List PendingReply → Type 0
AreJoinable [] = Unit {0}
AreJoinable (Reply value ∷ rs) = AreJoinable rs
AreJoinable (Parts how n ∷ rs) = CanJoin how n × AreJoinable rs

-- the bytes of the replies
abbrev pub bytes_of : List Value → List ℕ
bytes_of values = flat_map spelling values

-- what is next: a drain that is not bounded appends it
abbrev pub output : SessionModel → List ℕ
output held = bytes_of (replies held.requests held.stages held.ends (last_line held.closing))

-- the error line was drained
abbrev pub said : Closing → Closing
said Open = Open
said Quit = Quit
said (Faulted why owed) = Faulted why false

-- what is held after these many requests and parts were drained
abbrev pub without : SessionModel → ℕ × ℕ → SessionModel
without held n = record held {
  requests = drop n.0 held.requests;
  stages = drop n.1 held.stages;
  ends = drop n.1 held.ends;
  first = held.first + n.1;
  closing = if nat_le (length held.requests) n.0 then said held.closing else held.closing;
}

abbrev pub drained : SessionModel → SessionModel
drained held = without held (replied held.requests held.stages held.ends)

-- the parts of a request are among these many, and can be joined
abbrev pub HasParts : PendingReply → ℕ → Type 0
HasParts (Reply value) n = Unit {0}
HasParts (Parts how count) n = (count ≤ n) × CanJoin how count

-- the bytes that stand behind the output and are not in it
abbrev pub bytes_behind : Option (List ℕ) → List ℕ
bytes_behind (Some tail) = tail
bytes_behind None = []

-- a tail has at least this number of bytes, where there may be one
abbrev pub MayBeTail : Option ℕ → Option (List ℕ) → Type 0
MayBeTail least None = Unit {0}
MayBeTail None (Some tail) = ⊥
MayBeTail (Some least) (Some tail) = least ≤ length tail

-- a reply was written, but for its tail
abbrev pub WritesBut : Option (List ℕ) → Value → List ℕ → List ℕ → Type 0
WritesBut None value old new = new ≡ old ++ spelling value
WritesBut (Some tail) value old new = (head : List ℕ) × (new ≡ old ++ head) × (head ++ tail ≡ spelling value)

-- what writing one request's reply does
abbrev pub ReplyOutcome : PendingReply → List PartStage → List Ended → List ℕ → Result WrittenReply NoMemory → List ℕ → Type 0
ReplyOutcome owed stages ends old (Ok (Whole n)) new =
    (value : Value) × (reply_of owed stages ends ≡ Some (value, n)) × (new ≡ old ++ spelling value)
ReplyOutcome owed stages ends old (Ok (Head n tail)) new =
    (value : Value) × (reply_of owed stages ends ≡ Some (value, n)) × WritesBut (Some tail) value old new
ReplyOutcome owed stages ends old (Ok Nothing) new = (reply_of owed stages ends ≡ None) × (new ≡ old)
ReplyOutcome owed stages ends old (Err refused) new = new ≡ old

-- the parts of a reply that was written are done
abbrev pub ArePartsDone : List PartStage → WrittenReply → Type 0
ArePartsDone stages (Whole n) = list_all is_done (take n stages) ≡ true
ArePartsDone stages (Head n tail) = list_all is_done (take n stages) ≡ true
ArePartsDone stages Nothing = Unit {0}

-- the tail of a reply, which was not written
abbrev pub tail_in : WrittenReply → Option (List ℕ)
tail_in (Whole n) = None
tail_in (Head n tail) = Some tail
tail_in Nothing = None

-- the replies to the first `count` requests; where these are all, the last lines follow
abbrev pub first_replies : ℕ → List PendingReply → List PartStage → List Ended → List Value → List Value
first_replies count requests stages ends last = replies (take count requests) stages ends (if nat_le (length requests) count then last else [])

-- Replies that are next in order, one after another until they have `most` bytes or more, or no more are next: those of the
-- first `count` requests are spelled by the bytes.
pub record AreWritten (most : ℕ) (requests : List PendingReply) (stages : List PartStage) (ends : List Ended) (last : List Value) (count : ℕ) (bytes : List ℕ) : Type 0 where
  pub in_order : count ≤ (replied requests stages ends).0
  pub spelled : bytes ≡ bytes_of (first_replies count requests stages ends last)
  pub no_more : (fewer : ℕ) → fewer < count → length (bytes_of (first_replies fewer requests stages ends last)) < most
  pub all : length bytes < most → count ≡ (replied requests stages ends).0

-- these bytes were drained: some of the output, or all of it where they are fewer than `most`
pub record Drains (most : ℕ) (old : SessionModel) (bytes : List ℕ) (new : SessionModel) : Type 0 where
  pub count : ℕ
  pub written : AreWritten most old.requests old.stages old.ends (last_line old.closing) count bytes
  pub left : new ≡ without old (count, parts_of (take count old.requests))
  pub all : length bytes < most → (bytes ≡ output old) × (new ≡ drained old)

-- what draining does: replies that are next in order are drained until they have `most` bytes or more, or nothing is done
abbrev pub DrainOutcome : ℕ → SessionModel → List ℕ → Result ℕ NoMemory → SessionModel → List ℕ → Type 0
DrainOutcome most old before (Ok n) new after = (bytes : List ℕ) × (after ≡ before ++ bytes) × (n ≡ length bytes) × Drains most old bytes new
DrainOutcome most old before (Err refused) new after = (after ≡ before) × (new ≡ old)

-- how many bytes a drain gave
abbrev pub count_of : Result Drained NoMemory → Result ℕ NoMemory
count_of (Ok given) = Ok given.count
count_of (Err refused) = Err refused

-- those of them that stand behind the output and are not in it
abbrev pub tail_of : Result Drained NoMemory → List ℕ
tail_of (Ok given) = bytes_behind given.tail
tail_of (Err refused) = []
