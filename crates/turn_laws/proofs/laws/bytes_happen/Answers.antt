use Rattle.turn_laws.proofs.ByteStory.{bytes-happen}
use Rattle.turn_laws.proofs.laws.bytes_happen.Goals as goal

pub returns : goal.returns
returns g c = λ port. bytes-happen g.row.C.Denot g.row.J.Denot port c.headline_of_bytes.ensures c.front_is_whole.ensures
