use Rattle.std.proofs.Common.{◌≡◌, ◌<◌, ◌∙◌, List, [], ◌∷◌, ap, arith, length, map, refl, subst, suc, sym}
use Rattle.std.specs.Prelude.{IfErr, IfOk}
use Rattle.key_split.specs.PartModel.{PartModel}
use Rattle.turn_laws.specs.ByteWires.{IsPlainItem}
use Rattle.turn_laws.specs.Wire.{Item, Runs}
use Rattle.turn_play.specs.Hearing.{item_of, unnumbered}
use Rattle.turn_play.specs.Stream.{CannotBeServed, IsReplied}
use Rattle.turn_play.proofs.Answered.{commands-failed, many-commands}
use Rattle.turn_play.proofs.answering.reply.Goals as goal

pub reply_to_commands-requires : goal.reply_to_commands-requires
reply_to_commands-requires c =
    let plain = subst IsPlainItem (ap item_of c.in-Commands.is) c.requires in
    omega (arith, plain.0, many-commands c.in-Commands.parts.items, ap length c.as_slice.ensures.value)

pub returns-in-Commands-clause-ok : goal.returns-in-Commands-clause-ok
returns-in-Commands-clause-ok c =
    let item : Runs (map unnumbered c.as_slice.result.now) ≡ item_of c.args.heard.now = ap (λ ps. Runs (map unnumbered ps)) c.as_slice.ensures.value ∙ sym (ap item_of c.in-Commands.is) in
    subst (λ i. IfOk c.reply_to_commands.result (λ replies. IsReplied c.args.nodes.now c.args.cluster.now c.args.node c.args.asking i c.args.verdict c.reply_to_commands.new.cluster replies.items)) item c.reply_to_commands.ensures.ok

pub returns-in-Commands-clause-err : goal.returns-in-Commands-clause-err
returns-in-Commands-clause-err c =
    let item : Runs (map unnumbered c.as_slice.result.now) ≡ item_of c.args.heard.now = ap (λ ps. Runs (map unnumbered ps)) c.as_slice.ensures.value ∙ sym (ap item_of c.in-Commands.is) in
    subst (λ i. IfErr c.reply_to_commands.result (λ fault. (c.reply_to_commands.new.cluster ≡ c.args.cluster.now) × CannotBeServed c.args.nodes.now c.args.cluster.now c.args.node c.args.asking i c.args.verdict fault)) item
    (commands-failed c.args.nodes.now c.args.cluster.now c.args.node c.args.asking c.args.verdict c.reply_to_commands.new.cluster c.as_slice.result.now c.reply_to_commands.result c.reply_to_commands.ensures.err)
