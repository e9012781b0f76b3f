-- What those are told who wait on a link that is closed.
-- Only private functions cite it.
use Rattle.std.specs.Prelude.{List, map}
use Rattle.key_split.specs.declared.travel.Ticket.{Ticket}
use Rattle.key_split.specs.declared.travel.Told.{Told}

-- each is told that it is lost
abbrev pub each_lost : List Ticket → List (Ticket × Told)
each_lost tickets = map (λ t. (t, Told.Lost)) tickets
