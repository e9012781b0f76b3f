use Rattle.std.proofs.Common.{◌≡◌, Err, drop, inl, inr, refl, rules}
use Rattle.turn_play.specs.Hearing.{item_of}
use Rattle.turn_play.specs.declared.fault.PlayFault.TheVariants.{NoMemory}
use Rattle.turn_play.proofs.Streamed.{item-failed}
use Rattle.turn_play.proofs.stream.PlayStream.serve.Goals as goal

pub serve_item-requires-clause-within : goal.serve_item-requires-clause-within
serve_item-requires-clause-within c = (rw c.in-Item.is at c.in_ok-heard.ensures).0

pub serve_item-requires-clause-first : goal.serve_item-requires-clause-first
serve_item-requires-clause-first c = (rw c.in-Item.is at c.in_ok-heard.ensures).1

pub returns-in_err-serve_item-in-Item : goal.returns-in_err-serve_item-in-Item
returns-in_err-serve_item-in-Item c =
    let is : c.from_residual-in_err-serve_item-in-Item.result ≡ Err c.in_err-serve_item-in-Item.field-0.0 = search rules in
    item-failed c.args.nodes.now c.args.cluster.now c.args.node c.args.self.now (item_of c.in-Item.heard) (drop c.in-Item.count c.args.self.now.unserved) c.args.verdict c.in_err-serve_item-in-Item.field-0.0 c.serve_item.new.cluster c.serve_item.new.self
    (rw c.in-Item.is at c.in_ok-heard.ensures).1 c.in_err-serve_item-in-Item.ensures c.from_residual-in_err-serve_item-in-Item.result is

pub returns-in-Short : goal.returns-in-Short
returns-in-Short c = (rw c.in-Short.is at c.in_ok-heard.ensures, refl, refl)

pub returns-in-Other : goal.returns-in-Other
returns-in-Other c = (inr (inl (refl, rw c.in-Other.is at c.in_ok-heard.ensures)), refl, refl)
