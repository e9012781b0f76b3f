use Rattle.turn_play.proofs.ServedWires.{ByteLaws}
use Rattle.turn_play.proofs.Fleets.{handed-in-fleets, plays-are-fleets}
use Rattle.turn_play.proofs.laws.plays_are_fleets.Goals as goal

pub returns-clause-plays : goal.returns-clause-plays
returns-clause-plays g c =
    let m = g.C.ClientPort in
    let bytes : ByteLaws = record { begins = c.nodes_serve_bytes.ensures.begins; serves = c.nodes_serve_bytes.ensures.serves; reads = c.nodes_serve_bytes.ensures.reads } in
    let f = c.headline_of_fleets.ensures in
    plays-are-fleets g.row.C.Denot g.row.J.Denot c.written_is_heard.ensures.heard f.stands f.follows f.headline m.moves m.gives_none m.takes_none c.engines_play.ensures bytes

pub returns-clause-handed : goal.returns-clause-handed
returns-clause-handed g c =
    let f = c.headline_of_fleets.ensures in
    handed-in-fleets g.row.C.Denot g.row.J.Denot c.written_is_heard.ensures.heard f.stands f.follows f.headline
