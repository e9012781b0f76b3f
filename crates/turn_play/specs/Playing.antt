-- What there is in a play, and which steps of a system it made.
use Rattle.std.specs.Prelude.{◌≡◌, ◌++◌, List}
use Rattle.key_split.specs.declared.travel.Told.{Told}
use Rattle.slot_map.specs.Table.{Endpoint}
use Rattle.node_model.specs.Nodes.{ClusterModel}
use Rattle.proxy_engine.specs.EngineModel.{EngineModel}
use Rattle.turn_laws.specs.System.{System}
use Rattle.turn_laws.specs.Refines.{IsStart}
use Rattle.turn_play.specs.Port.{PortModel, IsEnd}
use Rattle.turn_play.specs.May.{HearsItsNodes}
use Rattle.turn_play.specs.Turns.{ShowsEngine}
use Rattle.turn_play.specs.Played.{Step, Leads, Plays, AreGiven, Holds}
use Rattle.turn_play.specs.Beside.{StepBeside, LeadsBeside, PlaysBeside, AreGivenBeside, HoldsBeside}

pub record PlayModel (C J : Type 0) : Type 0 where
  pub engine : EngineModel C J PortModel
  pub cluster : ClusterModel
  -- where each node listens
  pub nodes : List Endpoint
  -- what was told to the others that came last
  pub told : List Told

module _ {C J : Type 0} where
  -- A system has this engine, over wires whose ends are its ports, and these nodes. How many connections were opened, which broke, and what
  -- was seen, is not held in a play: a system has it besides.
  pub record Shows (play : PlayModel C J) (s : System C J) : Type 0 where
    pub engine : ShowsEngine IsEnd play.engine s
    pub cluster : s.cluster ≡ play.cluster
    pub nodes : s.nodes ≡ play.nodes

  -- each system that showed the old play took steps to one that shows the new
  abbrev pub PlaysTo : PlayModel C J → PlayModel C J → Type 0
  PlaysTo old new = (s : System C J) → Shows old s → (s' : System C J) × Plays s s' × Shows new s'

  -- The same; and behind any steps that led there from a start that hears its nodes, none or more, where the premises hold along them and
  -- along these steps, the headline holds of them all.
  abbrev pub PlaysSoundly : PlayModel C J → PlayModel C J → Type 0
  PlaysSoundly old new = (s : System C J) → Shows old s → (s' : System C J) × (steps : List (Step C J)) × Leads s steps s' × Shows new s'
      × ((start : System C J) (before : List (Step C J)) → IsStart start → HearsItsNodes start → Leads start before s → AreGiven start (before ++ steps) → Holds start (before ++ steps) s')

  -- ---- the same where others act

  abbrev pub PlaysToBeside : PlayModel C J → PlayModel C J → Type 0
  PlaysToBeside old new = (s : System C J) → Shows old s → (s' : System C J) × PlaysBeside s s' × Shows new s'

  abbrev pub PlaysSoundlyBeside : PlayModel C J → PlayModel C J → Type 0
  PlaysSoundlyBeside old new = (s : System C J) → Shows old s → (s' : System C J) × (steps : List (StepBeside C J)) × LeadsBeside s steps s' × Shows new s'
      × ((start : System C J) (before : List (StepBeside C J)) → IsStart start → HearsItsNodes start → LeadsBeside start before s → AreGivenBeside start (before ++ steps) → HoldsBeside start (before ++ steps) s')
