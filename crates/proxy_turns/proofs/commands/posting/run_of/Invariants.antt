use Rattle.std.proofs.Common.{◌≡◌, ◌++◌, length, map}
use Rattle.std.specs.Prelude.{All}
use Rattle.command_future.specs.CommandModel.{batch_of}
use Rattle.proxy_turns.specs.Commands.{GoesWith}
use Rattle.proxy_turns.proofs.commands.posting.run_of.Given as goal

abbrev pub invariant-loop-rest : goal.invariant-loop-rest
invariant-loop-rest l = record {
  first : l.run.first ≡ batch_of l.fn.first l.fn.node;
  later : l.run.later ++ map (λ c. batch_of c l.fn.node) l.rest ≡ map (λ c. batch_of c l.fn.node) l.fn.later;
  goes : All (GoesWith l.fn.first) l.rest;
}

abbrev pub decreases-loop-rest : goal.decreases-loop-rest
decreases-loop-rest l = length l.rest
