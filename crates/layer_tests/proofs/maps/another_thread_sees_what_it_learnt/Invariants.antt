use Rattle.proxy_lanes.specs.Opened.{book_of}
use Rattle.layer_tests.proofs.maps.another_thread_sees_what_it_learnt.Given as goal

-- the history that was just opened
abbrev pub ghosts-learns : goal.ghosts-learns
ghosts-learns g a = record { book = book_of a.opened }
