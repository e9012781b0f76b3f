-- Where commands stand: in the list of commands, in a lane, among a link's requests, or on their way back.
-- `tally` sums over all of them, so a law can say that a command is at one place at most.
use Rattle.std.specs.Prelude.{ℕ, ◌+◌, ◌==◌, ◌&&◌, Bool, true, false, if◌then◌else◌, List, [], ◌∷◌}
use Rattle.key_split.specs.Same.{same_ticket}
use Rattle.key_split.specs.declared.travel.Ticket.{Ticket}
use Rattle.key_split.specs.declared.travel.Told.{Told}
use Rattle.key_split.specs.declared.travel.Told.TheVariants.{Reply, Moved, Ask, TryAgain, ClusterDown, Unclear, Unsent}
use Rattle.command_future.specs.declared.stage.Stage.{Stage}
use Rattle.command_future.specs.declared.stage.Stage.TheVariants.{Wants, WantsAsking, Awaits, Over}
use Rattle.world_laws.specs.State.{WorldModel, Arrival, Posted, Link, LinkRequest, LinkReply}
use Rattle.world_laws.specs.declared.state.LinkRequest.TheVariants.{Asking, Runs}
use Rattle.world_laws.specs.declared.state.LinkReply.TheVariants.{Welcome, To}

pub data Item : Type 0 where
  Stands : (c : Arrival) → Item
  Lies : (node : ℕ) (asking : Bool) (ticket : Ticket) → Item
  Sent : (is_open : Bool) (node : ℕ) (asking : Bool) (ticket : Ticket) → Item
  Comes : (ticket : Ticket) (told : Told) → Item

abbrev pub total : {X : Type 0} → (X → ℕ) → List X → ℕ
total f [] = 0
total f (x ∷ xs) = f x + total f xs

-- requests, each with the flag that it will meet
abbrev pub in_requests : (Item → ℕ) → Bool → ℕ → Bool → List LinkRequest → ℕ
in_requests f o n flag [] = 0
in_requests f o n flag (Asking ∷ rs) = in_requests f o n true rs
in_requests f o n flag (Runs ts ∷ rs) = total (λ t. f (Sent o n flag t)) ts + in_requests f o n false rs

abbrev pub in_backs : (Item → ℕ) → List LinkReply → ℕ
in_backs f [] = 0
in_backs f (Welcome ∷ bs) = in_backs f bs
in_backs f (To t told ∷ bs) = f (Comes t told) + in_backs f bs

abbrev pub in_link : (Item → ℕ) → Link → ℕ
in_link f l = in_requests f l.is_open l.node l.asking l.requests + in_backs f l.backs

abbrev pub in_lane : (Item → ℕ) → Posted → ℕ
in_lane f b = total (λ t. f (Lies b.node b.asking t)) b.tickets

-- f summed over all places
abbrev pub tally : (Item → ℕ) → WorldModel → ℕ
tally f w = total (λ c. f (Stands c)) w.commands + total (in_lane f) w.ups + total (in_link f) w.links + total (λ p. f (Comes p.0 p.1)) w.downs

abbrev pub is : Ticket → Ticket → ℕ
is t u = if same_ticket t u then 1 else 0

-- n where it goes to the node with ASKING
abbrev pub asks_in_stage : ℕ → Stage → ℕ → ℕ
asks_in_stage node (WantsAsking m) n = if m == node then n else 0
asks_in_stage node (Wants m) n = 0
asks_in_stage node Awaits n = 0
asks_in_stage node (Over e) n = 0

abbrev pub asks_in_told : ℕ → Told → ℕ → ℕ
asks_in_told node (Ask slot m) n = if m == node then n else 0
asks_in_told node (Reply v) n = 0
asks_in_told node (Moved slot m) n = 0
asks_in_told node TryAgain n = 0
asks_in_told node ClusterDown n = 0
asks_in_told node Unclear n = 0
asks_in_told node Unsent n = 0
asks_in_told node Told.Lost n = 0

-- the command of t, on its way to the node by ASK: told so, wanting it, in a lane, or among a link's requests with the flag
abbrev pub asks : ℕ → Ticket → Item → ℕ
asks node t (Stands c) = asks_in_stage node c.command.stage (is t c.command.ticket)
asks node t (Lies m asking u) = if asking && (m == node) then is t u else 0
asks node t (Sent o m asking u) = if asking && (m == node) then is t u else 0
asks node t (Comes u told) = asks_in_told node told (is t u)
