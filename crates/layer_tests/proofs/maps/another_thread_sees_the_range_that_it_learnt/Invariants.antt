use Rattle.proxy_lanes.specs.Opened.{book_of}
use Rattle.layer_tests.proofs.maps.another_thread_sees_the_range_that_it_learnt.Given as goal

-- the history that was just opened
abbrev pub ghosts-learns_a_range : goal.ghosts-learns_a_range
ghosts-learns_a_range g a = record { book = book_of a.opened }
