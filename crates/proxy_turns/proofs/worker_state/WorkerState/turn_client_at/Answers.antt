use Rattle.std.proofs.Common.{arith, refl}
use Rattle.proxy_turns.specs.WorkerModel.{clients_in, turns_client}
use Rattle.proxy_turns.specs.WorkerState.{state_model}
use Rattle.proxy_turns.proofs.Lifting.{turned}
use Rattle.proxy_turns.proofs.Settling.{still_noted, turned_new}
use Rattle.proxy_turns.proofs.worker_state.WorkerState.turn_client_at.Goals as goal

pub returns-clause-turns : goal.returns-clause-turns
returns-clause-turns g c =
    turned g.C.ClientPort.moves turns_client (λ k event. refl) (state_model c.args.self.now) c.turn_at.result (record { clients = clients_in c.turn_at.new.self.entries; outlet = c.turn_at.new.uplink.outlet; view = c.turn_at.new.uplink.view }) c.args.self.now.clients.entries c.args.place c.turn_at.ensures.serves

pub invariant_of-self : goal.invariant_of-self
invariant_of-self g c = record {
  ports_fit = omega (arith, c.turn_at.ensures.len, c.args.self.now.ports_fit);
  due_known = still_noted (clients_in c.args.self.now.clients.entries) (clients_in c.turn_at.new.self.entries) c.args.self.now.due
      (turned_new g.C.ClientPort.moves c.turn_at.result c.args.self.now.clients.entries c.args.place (record { clients = clients_in c.args.self.now.clients.entries; outlet = c.args.self.now.uplink.outlet; view = c.args.self.now.uplink.view }) _
      (record { clients = clients_in c.turn_at.new.self.entries; outlet = c.turn_at.new.uplink.outlet; view = c.turn_at.new.uplink.view }) c.turn_at.ensures.serves) c.args.self.now.due_known;
}
