use Rattle.proxy_lanes.specs.Opened.{book_of}
use Rattle.layer_tests.proofs.turns.row.TurnRowAnswersRow.answer_row.Given as goal

-- the history that was just opened
abbrev pub ghosts-first_named : goal.ghosts-first_named
ghosts-first_named g a = record { book = book_of a.opened }
