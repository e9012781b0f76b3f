use Rattle.turn_laws.proofs.EndpointsRead.{named-is-read-back}
use Rattle.turn_laws.proofs.WrittenHeard.{written-is-heard}
use Rattle.turn_laws.proofs.laws.written_is_heard.Goals as goal

pub returns-clause-heard : goal.returns-clause-heard
returns-clause-heard c = written-is-heard

pub returns-clause-named : goal.returns-clause-named
returns-clause-named c = named-is-read-back
