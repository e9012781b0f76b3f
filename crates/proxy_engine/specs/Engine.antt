-- A worker and its carrier, as contracts see them.
use Rattle.std.specs.Prelude.{ℕ, List}
use Rattle.std.specs.declared.cmp.Reverse.{Reverse}
use Rattle.proxy_lanes.specs.declared.history.Naming as naming
use Rattle.proxy_turns.specs.declared.port.ClientPort as port
use Rattle.proxy_turns.specs.declared.gate.Gate as gate
use Rattle.proxy_turns.specs.declared.due_commands.PausedCommand.{PausedCommand}
use Rattle.proxy_turns.specs.Worker.{paused_in, worker_model}
use Rattle.proxy_turns.specs.CarrierModel.{carrier_model, dial_of}
use Rattle.proxy_engine.specs.declared.engine.Engine.{Engine}
use Rattle.proxy_engine.specs.EngineModel.{EngineModel}

module _ {C J R D P G : Type 0} {K : port.Ghosts C} {N : naming.Ghosts J} {L : gate.Ghosts G} where
  abbrev pub engine_model : (D → ℕ) → Engine C J R D P G K N L → EngineModel C J P
  engine_model failures engine = record { worker = worker_model engine.worker; carrier = carrier_model failures engine.carrier }

  -- the commands that wait, each with the time when it is due
  abbrev pub waiting_in : Engine C J R D P G K N L → List (Reverse PausedCommand)
  waiting_in engine = paused_in engine.worker

  -- what dials the nodes
  abbrev pub dial_in : Engine C J R D P G K N L → D
  dial_in engine = dial_of engine.carrier
