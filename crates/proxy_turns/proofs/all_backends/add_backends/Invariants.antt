use Rattle.std.proofs.Common.{◌≡◌, length}
use Rattle.proxy_turns.specs.Backend.{new_backend}
use Rattle.proxy_turns.specs.Growing.{Grows}
use Rattle.proxy_turns.proofs.all_backends.add_backends.Given as goal

abbrev pub invariant-loop-next : goal.invariant-loop-next
invariant-loop-next g l = record {
  grows : Grows new_backend l.initial.backends.items l.backends.items;
  count : l._next ≡ length l.backends.items;
}
