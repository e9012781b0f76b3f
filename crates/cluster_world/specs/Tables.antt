-- What the tables of commands say, and how they change.
-- Only private functions cite it.
use Rattle.std.specs.Prelude.{◌≡◌, ◌<◌, ◌==◌, ◌&&◌, ℕ, Bool, cond, [], ◌∷◌, ◌++◌, Option, Some, None, nat_eq}
use Rattle.std.specs.Vec.{vec_len, vec_capacity}
use Rattle.std.specs.HashMap.{HashMap, get, spare}
use Rattle.key_split.specs.declared.travel.Ticket.{Ticket}
use Rattle.command_future.specs.CommandModel.{CommandModel}
use Rattle.world_laws.specs.State.{slot_for}
use Rattle.cluster_world.specs.declared.rows.Row.{Row}
use Rattle.cluster_world.specs.declared.tables.PartKey.{PartKey}
use Rattle.cluster_world.specs.declared.tables.TurnKey.{TurnKey}
use Rattle.cluster_world.specs.declared.tables.Tables.{Tables}
use Rattle.cluster_world.specs.contracts.tables.PartKeyPartialEq.TheImpl as part_eq
use Rattle.cluster_world.specs.contracts.tables.TurnKeyPartialEq.TheImpl as turn_eq
use Rattle.cluster_world.specs.Rows.{row_at, no_row, one_more, one_over}

-- `==` on keys, as it is derived
abbrev pub same_part : PartKey → PartKey → Bool
same_part = (part_eq.ghosts).eq

abbrev pub same_turn : TurnKey → TurnKey → Bool
same_turn = (turn_eq.ghosts).eq

abbrev pub turn_key_of : CommandModel → TurnKey
turn_key_of c = record { client = c.ticket.client; slot = slot_for c.part }

abbrev pub placed_in : {S : Type 0} → HashMap PartKey ℕ S → ℕ → ℕ → Option ℕ
placed_in places client part = get same_part places (record { client = client; part = part })

-- where the client's part of this number stands
abbrev pub place_in : Tables → ℕ → ℕ → Option ℕ
place_in t client part = placed_in t.places client part

-- the client's commands, the first of which are answered
abbrev pub client_in : Tables → ℕ → Row
client_in t client = row_at nat_eq t.clients client

-- the client's commands for the slot, the first of which have ended
abbrev pub turn_in : Tables → ℕ → ℕ → Row
turn_in t client slot = row_at same_turn t.turns (record { client = client; slot = slot })

pub record SayNothing (t : Tables) : Type 0 where
  pub ranks : t.ranks.items ≡ []
  pub place : (n part : ℕ) → place_in t n part ≡ None
  pub client : (n : ℕ) → client_in t n ≡ no_row
  pub turn : (n slot : ℕ) → turn_in t n slot ≡ no_row

pub record SaySame (old new : Tables) : Type 0 where
  pub ranks : new.ranks.items ≡ old.ranks.items
  pub place : (n part : ℕ) → place_in new n part ≡ place_in old n part
  pub client : (n : ℕ) → client_in new n ≡ client_in old n
  pub turn : (n slot : ℕ) → turn_in new n slot ≡ turn_in old n slot

-- one more command can be noted without more memory
pub record HasRoom (t : Tables) : Type 0 where
  pub ranks : vec_len t.ranks < vec_capacity t.ranks
  pub places : 0 < spare t.places
  pub clients : 0 < spare t.clients
  pub turns : 0 < spare t.turns

-- the ticket's command stands at the place, behind the others of its client and of its turn
pub record Noted (ticket : Ticket) (key : TurnKey) (at : ℕ) (old new : Tables) : Type 0 where
  pub ranks : new.ranks.items ≡ old.ranks.items ++ (turn_in old key.client key.slot).count ∷ []
  pub place : (n part : ℕ) → place_in new n part ≡ cond ((ticket.client == n) && (ticket.part == part)) (Some at) (place_in old n part)
  pub client : (n : ℕ) → client_in new n ≡ cond (ticket.client == n) (one_more (client_in old ticket.client)) (client_in old n)
  pub turn : (n slot : ℕ) → turn_in new n slot ≡ cond ((key.client == n) && (key.slot == slot)) (one_more (turn_in old key.client key.slot)) (turn_in old n slot)

-- the first open command of the turn may have ended
pub record NotedTold (key : TurnKey) (ended : Bool) (old new : Tables) : Type 0 where
  pub ranks : new.ranks.items ≡ old.ranks.items
  pub place : (n part : ℕ) → place_in new n part ≡ place_in old n part
  pub client : (n : ℕ) → client_in new n ≡ client_in old n
  pub turn : (n slot : ℕ) → turn_in new n slot ≡ cond ended (cond ((key.client == n) && (key.slot == slot)) (one_over (turn_in old key.client key.slot)) (turn_in old n slot)) (turn_in old n slot)

-- the first unanswered command of the client was answered
pub record NotedAnswered (answered : ℕ) (old new : Tables) : Type 0 where
  pub ranks : new.ranks.items ≡ old.ranks.items
  pub place : (n part : ℕ) → place_in new n part ≡ place_in old n part
  pub client : (n : ℕ) → client_in new n ≡ cond (answered == n) (one_over (client_in old answered)) (client_in old n)
  pub turn : (n slot : ℕ) → turn_in new n slot ≡ turn_in old n slot
