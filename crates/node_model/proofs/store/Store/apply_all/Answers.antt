use Rattle.resp_wire.specs.declared.fault.NoMemory.{NoMemory}
use Rattle.node_model.proofs.AllDone.{performed}
use Rattle.node_model.proofs.store.Store.apply_all.Goals as goal

pub returns : goal.returns
returns c =
    performed NoMemory c.args.parts.now c.args.self.now c.in_ok-scratch.scratch c.apply_each.new.self c.in_ok-settle.ensures.ok.0 c.settle.new.self c.in_ok-tolds.tolds
    c.in_ok-scratch.ensures c.in_ok-tolds.ensures.replies c.in_ok-tolds.ensures.after c.in_ok-settle.ensures.ok.1 c.in_ok-settle.ensures.ok.2
