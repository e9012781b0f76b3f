use Rattle.std.proofs.Common.{arith, refl}
use Rattle.proxy_turns.specs.WorkerModel.{clients_in, settles}
use Rattle.proxy_turns.specs.WorkerState.{state_model}
use Rattle.proxy_turns.proofs.Lifting.{settled_all}
use Rattle.proxy_turns.proofs.Settling.{settled_new, still_noted}
use Rattle.proxy_turns.proofs.worker_state.WorkerState.post_one.Goals as goal

pub returns-clause-settles : goal.returns-clause-settles
returns-clause-settles g c =
    settled_all g.C.ClientPort.moves settles (λ k event. refl) (state_model c.args.self.now) c.args.ticket.client c.repost.result (record { clients = clients_in c.repost.new.self.entries; outlet = c.repost.new.uplink.outlet; view = c.repost.new.uplink.view }) c.repost.ensures.settles

pub invariant_of-self : goal.invariant_of-self
invariant_of-self g c = record {
  ports_fit = omega (arith, c.repost.ensures.len, c.args.self.now.ports_fit);
  due_known = still_noted (clients_in c.args.self.now.clients.entries) (clients_in c.repost.new.self.entries) c.args.self.now.due
      (settled_new g.C.ClientPort.moves c.repost.result (record { clients = clients_in c.args.self.now.clients.entries; outlet = c.args.self.now.uplink.outlet; view = c.args.self.now.uplink.view }) c.args.ticket.client _
      (record { clients = clients_in c.repost.new.self.entries; outlet = c.repost.new.uplink.outlet; view = c.repost.new.uplink.view }) c.repost.ensures.settles) c.args.self.now.due_known;
}
