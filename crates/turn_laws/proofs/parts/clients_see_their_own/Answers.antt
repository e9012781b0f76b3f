use Rattle.turn_laws.proofs.ClientSees.{clients-see-their-own}
use Rattle.turn_laws.proofs.parts.clients_see_their_own.Goals as goal

pub returns : goal.returns
returns c = clients-see-their-own
