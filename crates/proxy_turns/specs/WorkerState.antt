-- What the clients of a worker stand for.
-- Only private functions cite it.
use Rattle.proxy_lanes.specs.declared.history.Naming as naming
use Rattle.proxy_turns.specs.declared.port.ClientPort as port
use Rattle.proxy_turns.specs.declared.worker_state.WorkerState.{WorkerState}
use Rattle.proxy_turns.specs.WorkerModel.{WorkerModel, clients_in}

abbrev pub state_model : {C J : Type 0} {P : port.Ghosts C} {N : naming.Ghosts J} → WorkerState C J P N → WorkerModel C J
state_model state = record {
  worker = state.worker;
  workers = state.workers;
  clients = clients_in state.clients.entries;
  newest = state.newest;
  newcomers = state.newcomers;
  left = state.left;
  outlet = state.uplink.outlet;
  view = state.uplink.view;
  inlet = state.inlet;
  answered = state.answered;
  ports = state.ports.items;
}
