-- What a request is owed.
-- Redis command reference, QUIT, for its reply. The plan is key_split's (Plan.antt), the refusals' texts too
-- (Texts.antt). The line after a protocol error is this proxy's.
use Rattle.std.specs.Prelude.{List, ℕ, Bool, true, false, Result, Ok, Err, codes, length}
use Rattle.resp_wire.specs.declared.value.Value.{Value}
use Rattle.resp_wire.specs.declared.value.Value.TheVariants.{Simple, Error}
use Rattle.key_split.specs.declared.planned.Planned.{Planned}
use Rattle.key_split.specs.declared.planned.Planned.TheVariants as planned
use Rattle.key_split.specs.declared.planned.PlanFault.{PlanFault}
use Rattle.key_split.specs.Texts.{refusal_of}
use Rattle.key_split.specs.Plan.{plan_of}
use Rattle.session_order.specs.declared.replies.PendingReply.{PendingReply}
use Rattle.session_order.specs.declared.replies.PendingReply.TheVariants.{Reply, Parts}

-- what the words of a request ask for
unfoldable pub plan_for : List (List ℕ) → Result Planned PlanFault
plan_for words = plan_of words

-- the reply to QUIT
abbrev pub goodbye : Value
goodbye = Simple (codes "OK")

-- the line after a fault of the client's
abbrev pub protocol_error : Value
protocol_error = Error (codes "ERR proxy: protocol error")

-- what a plan, or words that have none, owe: a reply at once, or one that is joined from the ends of parts
abbrev pub owed_by : Result Planned PlanFault → PendingReply
owed_by (Err fault) = Reply (refusal_of fault)
owed_by (Ok (planned.Local value)) = Reply value
owed_by (Ok planned.Close) = Reply goodbye
owed_by (Ok (planned.Parts how parts)) = Parts how (length parts)

abbrev pub owed_for : List (List ℕ) → PendingReply
owed_for words = owed_by (plan_for words)

-- a request by which the client ends the session
abbrev pub ends_session : Result Planned PlanFault → Bool
ends_session (Ok planned.Close) = true
ends_session (Ok (planned.Local value)) = false
ends_session (Ok (planned.Parts how parts)) = false
ends_session (Err fault) = false
