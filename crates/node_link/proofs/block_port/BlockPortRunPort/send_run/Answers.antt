use Rattle.std.proofs.Common.{◌<◌, List, length, rules, subst, sym, ◌∙◌}
use Rattle.std.specs.Prelude.{OnOk}
use Rattle.node_link.specs.Blocks.{GoesAs, Item}
use Rattle.node_link.proofs.Blocking.{few_in_block, items_one, items_several, none_later}
use Rattle.node_link.proofs.block_port.BlockPortRunPort.send_run.Goals as goal

pub send_block-requires-clause-few : goal.send_block-requires-clause-few
send_block-requires-clause-few g c = few_in_block c.args.self.now.takes_blocks _ c.requires

pub returns-then-is_empty-clause-goes : goal.returns-then-is_empty-clause-goes
returns-then-is_empty-clause-goes g c =
    let none = sym c.later.ensures.value ∙ none_later c.later.result.now c.is_empty.result c.is_empty.ensures c.if-is_empty.true in
    subst (λ (items : List Item). OnOk c.send.result (GoesAs g.S.Stream.moved c.args.self.now items c.send.new.self)) (sym (items_one c.args.run.now none))
    (rw c.first.ensures at c.send.ensures.goes)

pub returns-clause-goes : goal.returns-clause-goes
returns-clause-goes g c =
    let more : 0 < length c.args.run.now.later = search rules in
    subst (λ (items : List Item). OnOk c.send_block.result (GoesAs g.S.Stream.moved c.args.self.now items c.send_block.new.self)) (sym (items_several c.args.run.now more))
    c.send_block.ensures.goes
