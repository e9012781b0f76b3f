use Rattle.turn_play.proofs.ServedWires.{ByteLaws}
use Rattle.turn_play.proofs.Deeds.{obeyed-plays-on}
use Rattle.turn_play.proofs.Obeyed.{obeyed-is-sound, obeyed-is-sound-beside}
use Rattle.turn_play.proofs.laws.obeyed_is_sound.Goals as goal

pub returns-clause-alone : goal.returns-clause-alone
returns-clause-alone g c =
    let bytes : ByteLaws = record { begins = c.nodes_serve_bytes.ensures.begins; serves = c.nodes_serve_bytes.ensures.serves; reads = c.nodes_serve_bytes.ensures.reads } in
    obeyed-is-sound g.row.C.Denot g.row.J.Denot g.C.ClientPort.moves g.C.ClientPort.gives_none g.C.ClientPort.takes_none c.engines_play.ensures bytes c.plays_refine.ensures

pub returns-clause-beside : goal.returns-clause-beside
returns-clause-beside g c =
    let bytes : ByteLaws = record { begins = c.nodes_serve_bytes.ensures.begins; serves = c.nodes_serve_bytes.ensures.serves; reads = c.nodes_serve_bytes.ensures.reads } in
    obeyed-is-sound-beside g.row.C.Denot g.row.J.Denot g.C.ClientPort.moves g.C.ClientPort.gives_none g.C.ClientPort.takes_none c.engines_play.ensures bytes c.plays_refine_beside.ensures

pub returns-clause-plays_on : goal.returns-clause-plays_on
returns-clause-plays_on g c =
    let bytes : ByteLaws = record { begins = c.nodes_serve_bytes.ensures.begins; serves = c.nodes_serve_bytes.ensures.serves; reads = c.nodes_serve_bytes.ensures.reads } in
    obeyed-plays-on g.row.C.Denot g.row.J.Denot g.C.ClientPort.moves g.C.ClientPort.gives_none g.C.ClientPort.takes_none c.engines_play.ensures bytes c.plays_refine_beside.ensures
