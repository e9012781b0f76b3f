use Rattle.turn_laws.proofs.BytesHeadline.{headline-of-bytes}
use Rattle.turn_laws.proofs.laws.headline_of_bytes.Goals as goal

pub returns : goal.returns
returns g c =
    headline-of-bytes g.row.C.Denot g.row.J.Denot c.drains_output.ensures c.front_is_whole.ensures c.front_is_faulty.ensures c.parts_of_plans_are_plain.ensures
