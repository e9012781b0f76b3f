-- What there is in a play, over the cluster that is handed to it.
use Rattle.std.specs.Prelude.{List}
use Rattle.key_split.specs.declared.travel.Told.{Told}
use Rattle.node_model.specs.Nodes.{ClusterModel}
use Rattle.proxy_lanes.specs.declared.history.Naming as naming
use Rattle.proxy_turns.specs.declared.gate.Gate as gate
use Rattle.proxy_turns.specs.declared.port.ClientPort as port
use Rattle.proxy_engine.specs.Engine.{engine_model}
use Rattle.turn_play.specs.declared.play.Play.{Play}
use Rattle.turn_play.specs.Dialling.{no_failures}
use Rattle.turn_play.specs.Playing.{PlayModel}

module _ {C J R G : Type 0} {P : port.Ghosts C} {N : naming.Ghosts J} {L : gate.Ghosts G} where
  -- what was told to the others that came last
  abbrev pub told_in : Play C J R G P N L → List Told
  told_in play = play.told.items

  abbrev pub play_model : Play C J R G P N L → ClusterModel → PlayModel C J
  play_model play cluster = record { engine = engine_model no_failures play.engine; cluster = cluster; nodes = play.nodes; told = told_in play }
