use Rattle.proxy_lanes.specs.Opened.{book_of}
use Rattle.socket_proxy.proofs.worker_thread.serve_anew.Given as goal

-- the history that was just opened
abbrev pub ghosts-serve : goal.ghosts-serve
ghosts-serve g a = record { book = book_of a.opened }
