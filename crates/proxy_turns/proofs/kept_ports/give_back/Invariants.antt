use Rattle.std.proofs.Common.{◌≤◌, ◌+◌, ℕ, List, length, vec_capacity}
use Rattle.proxy_turns.specs.WorkerModel.{GivesBack, clients_in}
use Rattle.proxy_turns.proofs.kept_ports.give_back.Given as goal

abbrev pub invariant-loop-port : goal.invariant-loop-port
invariant-loop-port g l =
    (length l.ports.items + length l.clients.entries ≤ vec_capacity l.ports)
    × ((numbers : List ℕ) (all : List _) → GivesBack (clients_in l.clients.entries) l.ports.items numbers all
    → (ns : List ℕ) × GivesBack (clients_in l.initial.clients.entries) l.initial.ports.items ns all)

abbrev pub decreases-loop-port : goal.decreases-loop-port
decreases-loop-port g l = length l.clients.entries
