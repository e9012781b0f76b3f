-- What a link holds of its connection.
-- The model of `Link`: one connection, from its dial to its failure. A link that failed stays failed.
use Rattle.std.specs.Prelude.{ℕ, List, Option}
use Rattle.resp_wire.specs.declared.value.Value.{Value}
use Rattle.node_link.specs.declared.link.Due.{Due}
use Rattle.node_link.specs.declared.link.Failure.{Failure}

pub record LinkModel (P : Type 0) : Type 0 where
  pub port : P
  -- the node at the other end
  pub node : ℕ
  -- what the requests without a value wait for, oldest first
  pub due : List Due
  -- a value that came and was not given yet
  pub kept : Option Value
  -- why nothing more goes over the connection
  pub failure : Option Failure
