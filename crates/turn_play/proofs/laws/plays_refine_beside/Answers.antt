use Rattle.turn_play.proofs.Beside.{plays-refine-beside}
use Rattle.turn_play.proofs.Refining.{Laws}
use Rattle.turn_play.proofs.laws.plays_refine_beside.Goals as goal

pub returns : goal.returns
returns g c =
    let laws : Laws g.row.C.Denot g.row.J.Denot = record { starts = c.starts_refine.ensures; refines = c.refines.ensures; names = c.names_stay.ensures; slots = c.slots_stand_at_nodes.ensures.stay; heard = c.written_is_heard.ensures.heard } in
    plays-refine-beside g.row.C.Denot g.row.J.Denot laws c.headline_beside_others.ensures.refines c.headline_of_bytes.ensures c.headline_beside_others.ensures.held
