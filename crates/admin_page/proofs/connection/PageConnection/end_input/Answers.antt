use Rattle.http_server.specs.Connection.{history}
use Rattle.admin_page.proofs.Ended.{ended_by_nothing}
use Rattle.admin_page.proofs.connection.PageConnection.end_input.Goals as goal

pub returns-clause-ended : goal.returns-clause-ended
returns-clause-ended c =
    let read = c.in_ok-read_from.ensures.ok in
    ended_by_nothing (history c.args.self.now.http) (history c.read_from.new.self) read.0 _ read.2 read.3
