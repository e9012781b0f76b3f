use Rattle.std.proofs.Common.{sym, subst}
use Rattle.turn_play.specs.Serving.{IsRefusal, WriteOutcome}
use Rattle.turn_play.proofs.serving.write.Goals as goal

pub write_refusal-requires : goal.write_refusal-requires
write_refusal-requires c = subst IsRefusal (sym c.in-Err.ensures.0) c.in-Err.ensures.1

pub returns-in-Err : goal.returns-in-Err
returns-in-Err c = subst (λ told. WriteOutcome c.args.nodes.now told c.write_refusal.result) c.in-Err.ensures.0 c.write_refusal.ensures
