use Rattle.std.proofs.Common.{◌≡◌, ◌+◌, refl, sym, ap, ◌∙◌, Some, subst}
use Rattle.std.specs.Prelude.{Err}
use Rattle.node_link.specs.Bytes.{input_of}
use Rattle.node_link.specs.Blocks.{RepliesModel, first_block}
use Rattle.node_link.specs.Collecting.{ValueOutcome}
use Rattle.node_link.specs.Runs.{told_values}
use Rattle.node_link.specs.contracts.replies.Replies.{the_view}
use Rattle.node_link.proofs.Replying.{block_failed, block_told, gather_failed}
use Rattle.node_link.proofs.replies.Replies.take_block.Goals as goal

pub returns-in-Ok-clause-taken : goal.returns-in-Ok-clause-taken
returns-in-Ok-clause-taken c =
    let count = c.from-count.result in
    let first : first_block c.self.inside.awaited.items ≡ Some count = (rw (← c.self.view_is) at c.requires.first) ∙ ap (λ n. Some n) (sym c.from-count.ensures) in
    let told = c.in-Ok.ensures in
    let mid = the_view (record c.self.inside { awaited = c.pop_front.new.self; came = c.take_told.new.replies; told = c.in-Ok.told }) in
    subst (λ (old : RepliesModel). ValueOutcome (input_of c.args.inbox.now) old c.next_told.result (input_of c.gather.new.inbox) c.next_told.new.self) c.self.view_is
    (block_told count (input_of c.args.inbox.now) (input_of c.gather.new.inbox) (the_view c.self.inside) mid c.next_told.new.self
    c.gather.new.held.items (told_values c.in-Ok.told) c.next_told.result (rw (← c.self.view_is) at c.requires.told) first
    (rw c.in-Ok-true.field-0-test at c.in-Ok-true.ensures.gathered) told.0 told.2 c.pop_front.ensures.rest told.1 refl c.next_told.ensures)

pub returns-in-Err-clause-taken : goal.returns-in-Err-clause-taken
returns-in-Err-clause-taken c =
    let new = the_view (record c.self.inside { came = c.gather.new.held }) in
    subst (λ (old : RepliesModel). ValueOutcome (input_of c.args.inbox.now) old (Err c.in-Err.fault) (input_of c.gather.new.inbox) new) c.self.view_is
    (gather_failed (c.from-count.result + 2) (input_of c.args.inbox.now) (input_of c.gather.new.inbox) (the_view c.self.inside) new c.in-Err.fault c.in-Err.ensures.gathered refl refl)

pub returns-in-Err-take_told-clause-taken : goal.returns-in-Err-take_told-clause-taken
returns-in-Err-take_told-clause-taken c =
    let count = c.from-count.result in
    let first : first_block c.self.inside.awaited.items ≡ Some count = (rw (← c.self.view_is) at c.requires.first) ∙ ap (λ n. Some n) (sym c.from-count.ensures) in
    let new = the_view (record c.self.inside { came = c.take_told.new.replies }) in
    subst (λ (old : RepliesModel). ValueOutcome (input_of c.args.inbox.now) old (Err c.in-Err-take_told.fault) (input_of c.gather.new.inbox) new) c.self.view_is
    (block_failed count (input_of c.args.inbox.now) (input_of c.gather.new.inbox) (the_view c.self.inside) new c.gather.new.held.items c.in-Err-take_told.fault first
    (rw c.in-Ok-true.field-0-test at c.in-Ok-true.ensures.gathered) c.in-Err-take_told.ensures refl refl)
