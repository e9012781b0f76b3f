use Rattle.proxy_lanes.specs.Opened.{book_of}
use Rattle.script_runs.proofs.run.assembly.run_all.Given as goal

-- the history that was just opened
abbrev pub ghosts-run_named : goal.ghosts-run_named
ghosts-run_named g a = record { book = book_of a.opened }
