use Rattle.proxy_lanes.specs.Opened.{book_of}
use Rattle.layer_tests.proofs.way.no_call_on_the_way_may_wait.Given as goal

-- the history that was just opened
abbrev pub ghosts-goes : goal.ghosts-goes
ghosts-goes g a = record { book = book_of a.opened }
