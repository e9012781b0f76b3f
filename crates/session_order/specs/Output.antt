-- Output: what a client is written, by its requests and the ends of their parts.
-- RESP2 specification, "Request-response model" (pipelining); Redis command reference, QUIT. It names nothing that a
-- session keeps: only requests, tickets and ends. Life.antt ties a session's calls to it.
use Rattle.std.specs.Prelude.{◌+◌, suc, zero, List, [], ◌∷◌, ℕ, Bool, Option, Some, None, if◌then◌else◌, nat_eq, map, option_map}
use Rattle.resp_wire.specs.declared.value.Value.{Value}
use Rattle.key_split.specs.declared.travel.Ticket.{Ticket}
use Rattle.key_split.specs.declared.travel.Ended.{Ended}
use Rattle.session_order.specs.declared.replies.PendingReply.{PendingReply}
use Rattle.session_order.specs.declared.replies.PendingReply.TheVariants.{Reply, Parts}
use Rattle.session_order.specs.PendingReply.{owed_for, plan_for, ends_session}
use Rattle.session_order.specs.Replies.{bytes_of, lines_owed, joined}

-- the requests up to the first that ends the session
abbrev pub until_quit : List (List (List ℕ)) → List (List (List ℕ))
until_quit [] = []
until_quit (words ∷ more) = words ∷ (if ends_session (plan_for words) then [] else until_quit more)

-- the end that was told of the part of this number
abbrev pub end_of : List (Ticket × Ended) → ℕ → Option Ended
end_of [] number = None
end_of (told ∷ more) number = if nat_eq told.0.part number then Some told.1 else end_of more number

-- the ends of n parts from this number on, if all were told
abbrev pub ends_from : List (Ticket × Ended) → ℕ → ℕ → Option (List Ended)
ends_from told number zero = Some []
ends_from told number (suc n) = elim (end_of told number) [
  | Some end ↦ option_map (λ ends. end ∷ ends) (ends_from told (suc number) n)
  | None ↦ None
]

-- The replies in the order of the requests, up to the first request with a part that has not ended; the last lines
-- follow when every request has its reply. The parts are numbered on from the given number.
abbrev pub replies_told : List (Ticket × Ended) → ℕ → List PendingReply → List Value → List Value
replies_told told number [] last = last
replies_told told number (Reply value ∷ rs) last = value ∷ replies_told told number rs last
replies_told told number (Parts how n ∷ rs) last = elim (ends_from told number n) [
  | Some ends ↦ joined how ends ∷ replies_told told (number + n) rs last
  | None ↦ []
]

-- The output for the requests that were read and the ends that were told. Nothing follows the reply to a request that
-- ends the session; the error line stands last, if a fault was met.
abbrev pub output_of : List (List (List ℕ)) → List (Ticket × Ended) → Bool → List ℕ
output_of read told faulted = bytes_of (replies_told told 0 (map owed_for (until_quit read)) (lines_owed faulted))
