use Rattle.proxy_lanes.specs.Opened.{book_of}
use Rattle.layer_tests.proofs.maps.no_answer_is_older_than_the_one_before.Given as goal

-- the history that was just opened
abbrev pub ghosts-looks : goal.ghosts-looks
ghosts-looks g a = record { book = book_of a.opened }
