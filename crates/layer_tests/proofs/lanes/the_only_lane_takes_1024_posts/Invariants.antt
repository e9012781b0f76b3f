use Rattle.proxy_lanes.specs.Opened.{book_of}
use Rattle.layer_tests.proofs.lanes.the_only_lane_takes_1024_posts.Given as goal

-- the history that was just opened
abbrev pub ghosts-passes_1024 : goal.ghosts-passes_1024
ghosts-passes_1024 g a = record { book = book_of a.opened }
