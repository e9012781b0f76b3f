use Rattle.std.proofs.Common.{arith, refl, nat_eq, ◌≡◌, ◌-◌, Some}
use Rattle.std.specs.Prelude.{slice_get}
use Rattle.std.proofs.lemmas.Option.{slice_get_within}
use Rattle.std.specs.HashMap.{get}
use Rattle.session_order.specs.declared.queue.PartStage.TheVariants.{Out}
use Rattle.session_order.proofs.Lists.{eqb-yes}
use Rattle.session_order.proofs.Linking.{before_is}
use Rattle.session_order.proofs.Turning.{got}
use Rattle.session_order.proofs.Following.{turn_if_first}
use Rattle.session_order.proofs.queue.is_first.Goals as goal

pub returns : goal.returns
returns c =
    let t = c.args.tables.now in
    let i = c.args.number - t.first in
    let slot = c.requires.out.0 in
    let out : slice_get t.stages.items i ≡ Some (Out slot) = c.requires.out.2 in
    let links = c.requires.links in
    let stands = got t.earlier.items i _ (omega (arith, slice_get_within t.stages.items i _ out, links.earlier_places)) c.index.ensures in
    let before = before_is t.first i slot t.stages.items t.later.items t.earlier.items (get nat_eq t.last) (Out slot) out (eqb-yes slot slot refl) links _ stands in
    turn_if_first t.first c.args.number slot t.stages.items c.requires.out.1 out _ before _ c.is_none.ensures
