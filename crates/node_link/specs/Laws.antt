-- The k-th value belongs to the k-th request, whatever the order in which requests are sent and values come.
-- Statements alone; the functions of src/laws.rt prove them, for any list of calls.
use Rattle.std.specs.Prelude.{◌≡◌, ◌⊎◌, ◌≤◌, List, [], ◌∷◌, ◌++◌, Some, None, Ok, length, map, drop, slice_get}
use Rattle.resp_wire.specs.declared.value.Value.{Value}
use Rattle.key_split.specs.declared.travel.Ticket.{Ticket}
use Rattle.key_split.specs.declared.travel.Told.{Told}
use Rattle.key_split.specs.Requests.{Request}
use Rattle.slot_map.specs.Table.{Endpoint}
use Rattle.node_link.specs.declared.link.Due.{Due}
use Rattle.node_link.specs.declared.link.Due.TheVariants as due
use Rattle.node_link.specs.declared.link.Got.TheVariants as got
use Rattle.node_link.specs.LinkModel.{LinkModel}
use Rattle.node_link.specs.LinkCalls.{due_of, Sends, Receives}
use Rattle.node_link.specs.Telling.{told_by}
use Rattle.node_link.specs.Port.{PortCalls}

-- these requests were sent over the connection and these values came: the requests without a value are due
pub record StandsFor {P : Type 0} (requests : List Request) (values : List Value) (link : LinkModel P) : Type 0 where
  pub answered : length values ≤ length requests
  pub due : link.due ≡ map due_of (drop (length values) requests)

-- the next value is that of a request of this kind
abbrev pub AnswersDue : {P : Type 0} → List Request → List Value → Due → Value → LinkModel P → Type 0
AnswersDue requests values first value new =
    (slice_get (map due_of requests) (length values) ≡ Some first) × StandsFor requests (values ++ value ∷ []) new

pub record MatchesReplies {P : Type 0} (calls : PortCalls P) : Type 0 where
  -- what is sent waits behind the others
  pub sent : (requests more : List Request) (values : List Value) (old new : LinkModel P) → StandsFor requests values old
      → Sends calls old more (Ok tt) new → StandsFor (requests ++ more) values new
  -- a ticket is told what the value says that has its request's place
  pub told : (requests : List Request) (values : List Value) (old new : LinkModel P) (before after : List Endpoint) (ticket : Ticket) (told : Told)
      → StandsFor requests values old → Receives calls old before (Ok (Some (got.Ticket ticket told))) new after
      → (value : Value) × AnswersDue requests values (due.Command ticket) value new × (told_by value old.node before ≡ (told, after))
  -- and so is the answer to CLUSTER SLOTS
  pub slots : (requests : List Request) (values : List Value) (old new : LinkModel P) (before after : List Endpoint) (value : Value)
      → StandsFor requests values old → Receives calls old before (Ok (Some (got.Slots value))) new after
      → AnswersDue requests values due.Slots value new
  -- where nothing is given, no value came, or the one that has ASKING's place
  pub none : (requests : List Request) (values : List Value) (old new : LinkModel P) (before after : List Endpoint)
      → StandsFor requests values old → Receives calls old before (Ok None) new after
      → StandsFor requests values new ⊎ ((value : Value) × AnswersDue requests values due.Asking value new)
