use Rattle.proxy_lanes.specs.Opened.{book_of}
use Rattle.layer_tests.proofs.turns.row.first_named.Given as goal

-- the history that was just opened
abbrev pub ghosts-both_named : goal.ghosts-both_named
ghosts-both_named g a = record { book = book_of a.second }
