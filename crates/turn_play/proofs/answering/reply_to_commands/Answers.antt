use Rattle.turn_play.proofs.Answered.{block-ok, single-ok}
use Rattle.turn_play.proofs.answering.reply_to_commands.Goals as goal

pub returns-then-parts-eq1-clause-ok : goal.returns-then-parts-eq1-clause-ok
returns-then-parts-eq1-clause-ok c =
    single-ok c.args.nodes.now c.args.cluster.now c.args.node c.args.asking c.args.verdict c.serve_parts.new.cluster c.args.parts.now c.serve_parts.result c.if-parts-eq1.true c.serve_parts.ensures.ok

pub returns-clause-ok : goal.returns-clause-ok
returns-clause-ok c =
    block-ok c.args.nodes.now c.args.cluster.now c.args.node c.args.asking c.args.verdict c.serve_block.new.cluster c.args.parts.now c.serve_block.result c.requires c.if-parts-eq1.false c.serve_block.ensures.ok
