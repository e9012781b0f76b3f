use Rattle.std.proofs.Common.{sym, subst, Some}
use Rattle.proxy_turns.specs.declared.worker_end.WorkerOutcome.{WorkerOutcome}
use Rattle.proxy_turns.specs.Worker.{StepOutcome, worker_model}
use Rattle.proxy_turns.proofs.Polling.{gives_at_end, gives_later}
use Rattle.proxy_turns.proofs.worker.WorkerFuture.poll.Goals as goal

pub returns-in-Some-clause-value : goal.returns-in-Some-clause-value
returns-in-Some-clause-value g c =
    let gate = c.args.self.now.gate.now in
    let ports = g.C.ClientPort in
    gives_at_end ports.moves ports.gives_none ports.takes_none (g.G.Gate.says gate) (g.G.Gate.rests gate) _ _ c.in-Some.outcome c.end.result c.in-Some.ensures.does c.end.ensures.back

pub returns-in-Some-clause-polled : goal.returns-in-Some-clause-polled
returns-in-Some-clause-polled g c =
    let gate = c.args.self.now.gate.now in
    let ports = g.C.ClientPort in
    let P : WorkerOutcome → Type 0 =
    λ outcome. StepOutcome ports.moves ports.gives_none ports.takes_none (g.G.Gate.says gate) (g.G.Gate.rests gate) (worker_model c.args.self.now) (Some outcome) (worker_model c.step.new.self) in
    (worker_model c.step.new.self, subst P (sym c.end.ensures.outcome) c.in-Some.ensures.does, c.end.ensures.back)

pub returns-in-None-clause-again : goal.returns-in-None-clause-again
returns-in-None-clause-again g c = rw c.yield_now.ensures.pending (c.in-None.ensures.runs c.requires)

pub returns-in-None-clause-same : goal.returns-in-None-clause-same
returns-in-None-clause-same g c =
    let gate = c.args.self.now.gate.now in
    let ports = g.C.ClientPort in
    rw c.yield_now.ensures.pending (λ end given. gives_later ports.moves ports.gives_none ports.takes_none (g.G.Gate.says gate) (g.G.Gate.rests gate) _ _ end c.in-None.ensures.does given)
