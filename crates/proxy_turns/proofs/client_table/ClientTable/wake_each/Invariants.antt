use Rattle.std.proofs.Common.{◌≡◌, ℕ, List, length}
use Rattle.std.specs.Prelude.{All}
use Rattle.proxy_turns.specs.Awake.{IsAwake}
use Rattle.proxy_turns.specs.Sleepers.{IsMarked}
use Rattle.proxy_turns.proofs.client_table.ClientTable.wake_each.Given as goal

-- where no other sleeps than does now, and the rest is awake, all are
abbrev pub invariant-loop-rest : goal.invariant-loop-rest
invariant-loop-rest g l = record {
  entries : l.self.entries ≡ l.initial.self.entries;
  woken : (marks : List ℕ) → ((place : ℕ) → IsMarked marks place → IsMarked l.self.marks place) → All (IsAwake l.initial.self.entries marks) l.rest → All (IsAwake l.initial.self.entries marks) l.fn.numbers;
}

abbrev pub decreases-loop-rest : goal.decreases-loop-rest
decreases-loop-rest g l = length l.rest
