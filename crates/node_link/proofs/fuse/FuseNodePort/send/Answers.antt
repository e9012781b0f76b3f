use Rattle.node_link.proofs.Blowing.{counts}
use Rattle.node_link.proofs.fuse.FuseNodePort.send.Goals as goal

pub returns-then-not-passes-clause-count : goal.returns-then-not-passes-clause-count
returns-then-not-passes-clause-count g c =
    counts g.P.NodePort.calls c.args.self.now c.passes.new.self c.if-not-passes.ensures
