-- Where a command that ASK sent to a node may be on its way there: place by place, it is not.
-- Only private functions cite it.
use Rattle.std.specs.Prelude.{◌≡◌, ℕ, ◌==◌, ◌&&◌, Bool, true, false, if◌then◌else◌, List, All, Option, Some, None}
use Rattle.key_split.specs.Same.{same_ticket}
use Rattle.key_split.specs.declared.travel.Ticket.{Ticket}
use Rattle.world_laws.specs.State.{WorldModel, Link}
use Rattle.world_laws.specs.declared.state.LinkRequest.{LinkRequest}
use Rattle.world_laws.specs.declared.state.LinkRequest.TheVariants.{Asking, Runs}
use Rattle.world_laws.specs.declared.state.Posted.{Posted}
use Rattle.world_laws.specs.Places.{Item, asks_in_stage, asks_in_told, in_lane, in_requests, in_backs, total}
use Rattle.world_laws.specs.Places.Item.{Stands, Lies, Sent, Comes}
use Rattle.cluster_world.specs.Kept.{LinkModel, in_kept}
use Rattle.cluster_world.specs.declared.asks.Sought.{Sought}

-- a ticket is sought where it is the one that is named, or none is
abbrev pub has_ticket : Option Ticket → Ticket → Bool
has_ticket None u = true
has_ticket (Some t) u = same_ticket t u

abbrev pub weight : Option Ticket → Ticket → ℕ
weight named u = if has_ticket named u then 1 else 0

-- what is sought, item by item
abbrev pub sought : Sought → Item → ℕ
sought s (Stands c) = asks_in_stage s.node c.command.stage (weight s.ticket c.command.ticket)
sought s (Lies m asking u) = if asking && (m == s.node) then weight s.ticket u else 0
sought s (Sent o m asking u) = if asking && (m == s.node) then weight s.ticket u else 0
sought s (Comes u told) = asks_in_told s.node told (weight s.ticket u)

-- one ticket's command, and any
abbrev pub one_at : ℕ → Ticket → Sought
one_at node ticket = record { node = node; ticket = Some ticket }

abbrev pub any_at : ℕ → Sought
any_at node = record { node = node; ticket = None }

-- none of these is sought, where they go to ask
unfoldable pub TicketsRest : List Ticket → Bool → Option Ticket → Type 0
TicketsRest tickets goes named = total (λ (u : Ticket). if goes then weight named u else 0) tickets ≡ 0

-- the run has no sought command for the node behind ASKING
unfoldable pub RunRests : Posted → Sought → Type 0
RunRests b s = in_lane (sought s) b ≡ 0

-- what a link's request is of the sum over its requests, and the flag that the next meets
abbrev pub in_request : (Item → ℕ) → Bool → ℕ → Bool → LinkRequest → ℕ
in_request f o n flag Asking = 0
in_request f o n flag (Runs ts) = total (λ t. f (Sent o n flag t)) ts

abbrev pub sets_flag : LinkRequest → Bool
sets_flag Asking = true
sets_flag (Runs ts) = false

unfoldable pub RequestRests : LinkModel → Bool → LinkRequest → Sought → Type 0
RequestRests l asking request s = in_request (sought s) l.is_open l.node asking request ≡ 0

-- no request of the link is a sought command for the node behind ASKING, and no reply tells one to ask there
unfoldable pub LinkRests : Link → Sought → Type 0
LinkRests l s = (in_requests (sought s) l.is_open l.node l.asking l.requests ≡ 0) × (in_backs (sought s) l.backs ≡ 0)

-- the same of a link as the code has it
unfoldable pub LineRests : LinkModel → Sought → Type 0
LineRests l s = (in_requests (sought s) l.is_open l.node l.asking l.requests ≡ 0) × (in_kept (sought s) l.backs ≡ 0)

-- it is nowhere on its way there
pub record RestsEverywhere (w : WorldModel) (s : Sought) : Type 0 where
  pub commands : All (λ c. sought s (Stands c) ≡ 0) w.commands
  pub ups : All (λ b. RunRests b s) w.ups
  pub links : All (λ l. LinkRests l s) w.links
  pub downs : All (λ p. sought s (Comes p.0 p.1) ≡ 0) w.downs

-- the same, as one word
unfoldable pub Rests : WorldModel → Sought → Type 0
Rests w s = RestsEverywhere w s
