-- An empty history that was just opened.
-- Its name is a fact that two types can share without holding the history.
use Rattle.logbook.specs.Pages.{Book}
use Rattle.proxy_lanes.specs.declared.history.Opened.{Opened}

-- which history it is
abbrev pub book_of : Opened → Book
book_of opened = opened.seen.book
