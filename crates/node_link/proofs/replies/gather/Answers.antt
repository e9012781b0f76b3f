use Rattle.std.proofs.Common.{◌<◌, ◌++◌, ◌∷◌, [], List, ap, length, rules, ◌∙◌}
use Rattle.resp_wire.specs.declared.value.Value.{Value}
use Rattle.node_link.specs.Bytes.{input_of}
use Rattle.node_link.proofs.Replying.{gathers_one, grown_within}
use Rattle.node_link.proofs.replies.gather.Goals as goal

pub loop-held-preserved : goal.loop-held-preserved
loop-held-preserved c =
    let few : length c.loop-held.held.items < c.args.wanted = search rules in
    let pushed = c.push_reserved.ensures.items ∙ ap (λ (vs : List Value). vs ++ c.in-Ok-Some.value ∷ []) c.reserve.ensures.items in
    record {
      gathered = gathers_one (input_of c.args.inbox.now) (input_of c.loop-held.inbox) (input_of c.take.new.self) c.args.held.now.items c.loop-held.held.items
          c.push_reserved.new.self.items c.in-Ok-Some.value c.loop-held.invariant.gathered (rw c.in-Ok-Some.field-0-is at c.in-Ok-Some.ensures.taken) pushed;
      few = grown_within c.loop-held.held.items c.push_reserved.new.self.items c.in-Ok-Some.value c.args.wanted pushed few;
    }
