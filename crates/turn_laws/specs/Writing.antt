-- What a node writes of a run is heard as what it told.
-- Redis Cluster specification, "MOVED Redirection" and "ASK redirection": a redirection is `MOVED slot host:port` or `ASK slot host:port`.
-- Its endpoint is one word, cut at the last colon, so a host may have colons. An empty host and `?` stand for the host of the node that
-- was asked.
use Rattle.std.specs.Prelude.{◌≡◌, ◌≢◌, ◌↔◌, ◌<◌, ◌^◌, ◌==◌, ℕ, List, [], ◌∷◌, ◌++◌, Bool, Option, Some, All, IsTrue, codes, length, not, option_map}
use Rattle.std.specs.Fmt.{decimal}
use Rattle.std.specs.List.{list_all}
use Rattle.resp_wire.specs.declared.value.Value.{Value}
use Rattle.slot_map.specs.Table.{Endpoint}
use Rattle.key_split.specs.PartModel.{PartModel}
use Rattle.key_split.specs.Told.{IsWritten}
use Rattle.key_split.specs.declared.travel.Told.{Told}
use Rattle.node_link.specs.Line.{endpoint_in, first_word}
use Rattle.node_link.specs.Telling.{endpoint_meant}
use Rattle.node_model.specs.Nodes.{ClusterModel, HasOwners, IsOpening, standing_at}
use Rattle.node_model.specs.Runs.{deed_for, DoesRun}
use Rattle.node_model.specs.Standings.{SlotStandingModel}
use Rattle.node_model.specs.declared.role.Verdict.{Verdict}
use Rattle.world_laws.specs.World.{NamesNode}
use Rattle.turn_laws.specs.Endpoints.{AreApart}
use Rattle.turn_laws.specs.Wire.{AreTold}
use Rattle.turn_laws.specs.System.{System}
use Rattle.turn_laws.specs.Steps.{SystemEvent, SystemStep}

-- A redirection can name the endpoint. That its host has no CR and no LF is not asked: a table holds none that has.
pub record CanBeNamed (at : Endpoint) : Type 0 where
  pub host : (at.host ≢ []) × (at.host ≢ codes "?")
  pub one_word : IsTrue (list_all (λ b. not (b == 32)) at.host)
  pub port : (0 < at.port) × (at.port < 2 ^ 16)

-- what is read where a redirection names the endpoint
abbrev pub read_back : List ℕ → Endpoint → Option Endpoint
read_back asked_host at = option_map (endpoint_meant asked_host) (endpoint_in (first_word (at.host ++ codes ":" ++ decimal at.port)))

-- these are just the endpoints that are read as they are, whoever was asked
abbrev pub NamedIsReadBack : Type 0
NamedIsReadBack = (at : Endpoint) → CanBeNamed at ↔ ((asked_host : List ℕ) → read_back asked_host at ≡ Some at)

-- the cluster's endpoints: one for each node, no two the same, and each can be named
pub record AreEndpointsOf (k : ClusterModel) (table : List Endpoint) : Type 0 where
  pub each : length table ≡ length k.stores
  pub apart : AreApart table
  pub named : All CanBeNamed table

-- whoever owns the slot, gets it, gives it, or is sent to for it, is one of `count` nodes
pub record StandsAmong (count : ℕ) (s : SlotStandingModel) : Type 0 where
  pub target : s.target < count
  pub source : s.source < count
  pub first : s.first < count
  pub sends : All (λ (pair : ℕ × ℕ). pair.1 < count) s.sends

-- no slot stands at a node that is not of the cluster
abbrev pub StandsAtItsNodes : ClusterModel → Type 0
StandsAtItsNodes k = (slot : ℕ) → slot < 16384 → StandsAmong (length k.stores) (standing_at k slot)

-- a node writes these values, one for each command that it told
abbrev pub AreWritten : List Endpoint → List Told → List Value → Type 0
AreWritten table [] [] = Unit {0}
AreWritten table [] (value ∷ values) = ⊥
AreWritten table (told ∷ tolds) [] = ⊥
AreWritten table (told ∷ tolds) (value ∷ values) = IsWritten told table value × AreWritten table tolds values

-- what a node writes of a run that it does is heard as what it told the run's commands
abbrev pub WrittenIsHeard : Type 0
WrittenIsHeard =
    (table : List Endpoint) (k : ClusterModel) (node : ℕ) (asking : Bool) (parts : List PartModel) (verdict : Verdict) (tolds : List Told) (k' : ClusterModel) (values : List Value)
    → AreEndpointsOf k table → StandsAtItsNodes k → NamesNode k verdict
    → DoesRun (deed_for k node asking parts verdict) k node parts tolds k' → AreWritten table tolds values → AreTold table node values tolds

-- the slots of a new cluster stand at its nodes
abbrev pub NewSlotsStand : Type 0
NewSlotsStand = (count : ℕ) (owners : ℕ → Option ℕ) (k : ClusterModel) → HasOwners count owners → IsOpening count owners k → StandsAtItsNodes k

-- and each step of a system leaves them so
abbrev pub SlotsStay : Type 0 → Type 0 → Type 0
SlotsStay C J = (event : SystemEvent) (s s' : System C J) → SystemStep s event s' → StandsAtItsNodes s.cluster → StandsAtItsNodes s'.cluster
