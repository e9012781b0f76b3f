use Rattle.std.proofs.Common.{arith, refl, nat_eq, ◌≡◌, ◌-◌, Some}
use Rattle.std.specs.Prelude.{slice_get}
use Rattle.std.proofs.lemmas.Option.{slice_get_within}
use Rattle.std.specs.HashMap.{get}
use Rattle.session_order.specs.declared.queue.PartStage.TheVariants.{Out}
use Rattle.session_order.proofs.Lists.{eqb-yes}
use Rattle.session_order.proofs.Linking.{next_is}
use Rattle.session_order.proofs.Turning.{got}
use Rattle.session_order.proofs.queue.next_open.Goals as goal

pub returns : goal.returns
returns c = λ slot out.
    let t = c.args.tables.now in
    let i = c.args.number - t.first in
    let links = c.requires.links in
    let stands = got t.later.items i _ (omega (arith, slice_get_within t.stages.items i _ out, links.later_places)) c.index.ensures in
    next_is t.first i slot t.stages.items t.later.items t.earlier.items (get nat_eq t.last) (Out slot) out (eqb-yes slot slot refl) links _ stands
