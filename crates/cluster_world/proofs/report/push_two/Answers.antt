use Rattle.cluster_world.proofs.Texts.{two-grow, two-ok}
use Rattle.cluster_world.proofs.report.push_two.Goals as goal

pub returns-clause-ok : goal.returns-clause-ok
returns-clause-ok c = two-ok c.extend_from_slice-2.result _ _ _ _ _ c.in_ok-extend_from_slice.ensures.items c.extend_from_slice-2.ensures.items

pub returns-clause-grows : goal.returns-clause-grows
returns-clause-grows c = two-grow c.extend_from_slice-2.result _ _ _ _ _ c.in_ok-extend_from_slice.ensures.items c.extend_from_slice-2.ensures.items
