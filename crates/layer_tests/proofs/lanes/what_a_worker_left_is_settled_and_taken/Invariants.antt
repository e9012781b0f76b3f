use Rattle.proxy_lanes.specs.Opened.{book_of}
use Rattle.layer_tests.proofs.lanes.what_a_worker_left_is_settled_and_taken.Given as goal

-- the history that was just opened
abbrev pub ghosts-settles : goal.ghosts-settles
ghosts-settles g a = record { book = book_of a.opened }
