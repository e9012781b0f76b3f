use Rattle.std.proofs.Common.{arith, sym, ap, ◌∙◌, ◌<◌, ℕ, Option, None, cond, nat_eq, length, refl}
use Rattle.std.specs.Prelude.{is_some}
use Rattle.std.specs.HashMap.{get}
use Rattle.std.proofs.lemmas.Option.{slice_get_within}
use Rattle.session_order.proofs.Linking.{before_is, next_is, before_at, next_at, at_within, has_last, unlinked, follows}
use Rattle.session_order.proofs.Turning.{got}
use Rattle.session_order.proofs.queue.unlink.Goals as goal

pub link-requires : goal.link-requires
link-requires c = λ n is. (
    let t = c.args.tables.now in
    let part = c.requires.part in
    let links = c.requires.links in
    let within : c.args.i < length t.stages.items = slice_get_within t.stages.items c.args.i part.0 part.1 in
    let stands_before = got t.earlier.items c.args.i _ (omega (arith, within, links.earlier_places)) c.index-before.ensures in
    let stands_next = got t.later.items c.args.i _ (omega (arith, within, links.later_places)) c.index-next.ensures in
    let is_before = before_is t.first c.args.i c.args.slot t.stages.items t.later.items t.earlier.items (get nat_eq t.last) part.0 part.1 part.2 links _ stands_before in
    let is_next = next_is t.first c.args.i c.args.slot t.stages.items t.later.items t.earlier.items (get nat_eq t.last) part.0 part.1 part.2 links _ stands_next in
    let place = at_within t.first c.args.i c.args.slot t.stages.items t.later.items t.earlier.items (get nat_eq t.last) part.0 part.1 part.2 links n (before_at t.first c.args.i c.args.slot t.stages.items t.later.items t.earlier.items (get nat_eq t.last) part.0 part.1 part.2 links n (sym is_before ∙ is)) in
    (place.0, omega (arith, place.1, links.later_places)))

pub link-requires-2 : goal.link-requires-2
link-requires-2 c = λ n is. (
    let t = c.args.tables.now in
    let part = c.requires.part in
    let links = c.requires.links in
    let within : c.args.i < length t.stages.items = slice_get_within t.stages.items c.args.i part.0 part.1 in
    let stands_before = got t.earlier.items c.args.i _ (omega (arith, within, links.earlier_places)) c.index-before.ensures in
    let stands_next = got t.later.items c.args.i _ (omega (arith, within, links.later_places)) c.index-next.ensures in
    let is_before = before_is t.first c.args.i c.args.slot t.stages.items t.later.items t.earlier.items (get nat_eq t.last) part.0 part.1 part.2 links _ stands_before in
    let is_next = next_is t.first c.args.i c.args.slot t.stages.items t.later.items t.earlier.items (get nat_eq t.last) part.0 part.1 part.2 links _ stands_next in
    let place = at_within t.first c.args.i c.args.slot t.stages.items t.later.items t.earlier.items (get nat_eq t.last) part.0 part.1 part.2 links n (next_at t.first c.args.i c.args.slot t.stages.items t.later.items t.earlier.items (get nat_eq t.last) part.0 part.1 part.2 links n (sym is_next ∙ is)) in
    (place.0, omega (arith, place.1, links.earlier_places)))

pub put_last-requires : goal.put_last-requires
put_last-requires c =
    let t = c.args.tables.now in
    let part = c.requires.part in
    let links = c.requires.links in
    has_last t.first c.args.i c.args.slot t.stages.items t.later.items t.earlier.items (get nat_eq t.last) part.0 part.1 part.2 links

pub returns-in-Some : goal.returns-in-Some
returns-in-Some c =
    let t = c.args.tables.now in
    let part = c.requires.part in
    let links = c.requires.links in
    let within : c.args.i < length t.stages.items = slice_get_within t.stages.items c.args.i part.0 part.1 in
    let stands_before = got t.earlier.items c.args.i _ (omega (arith, within, links.earlier_places)) c.index-before.ensures in
    let stands_next = got t.later.items c.args.i _ (omega (arith, within, links.later_places)) c.index-next.ensures in
    let is_before = before_is t.first c.args.i c.args.slot t.stages.items t.later.items t.earlier.items (get nat_eq t.last) part.0 part.1 part.2 links _ stands_before in
    let is_next = next_is t.first c.args.i c.args.slot t.stages.items t.later.items t.earlier.items (get nat_eq t.last) part.0 part.1 part.2 links _ stands_next in
    record {
      first = refl;
      stages = refl;
      turns = refl;
      linked = rw (c.link.ensures, c.link-2.ensures) (unlinked t.first c.args.i c.args.slot t.stages.items t.later.items t.earlier.items (get nat_eq t.last) part.0 part.1 part.2 links (get nat_eq c.put_last.new.last) _ _ is_before is_next c.put_last.ensures.own c.put_last.ensures.others);
      follows = ap (λ o. cond {A = Option ℕ} (is_some o) None c.index-next.result.now) (sym c.in-Some.is) ∙ follows t.first c.args.i c.args.slot t.stages.items t.later.items t.earlier.items (get nat_eq t.last) part.0 part.1 part.2 links _ _ is_before is_next;
    }

pub returns-in-None : goal.returns-in-None
returns-in-None c =
    let t = c.args.tables.now in
    let part = c.requires.part in
    let links = c.requires.links in
    let within : c.args.i < length t.stages.items = slice_get_within t.stages.items c.args.i part.0 part.1 in
    let stands_before = got t.earlier.items c.args.i _ (omega (arith, within, links.earlier_places)) c.index-before.ensures in
    let stands_next = got t.later.items c.args.i _ (omega (arith, within, links.later_places)) c.index-next.ensures in
    let is_before = before_is t.first c.args.i c.args.slot t.stages.items t.later.items t.earlier.items (get nat_eq t.last) part.0 part.1 part.2 links _ stands_before in
    let is_next = next_is t.first c.args.i c.args.slot t.stages.items t.later.items t.earlier.items (get nat_eq t.last) part.0 part.1 part.2 links _ stands_next in
    record {
      first = refl;
      stages = refl;
      turns = refl;
      linked = rw (c.link.ensures, c.link-2.ensures) (unlinked t.first c.args.i c.args.slot t.stages.items t.later.items t.earlier.items (get nat_eq t.last) part.0 part.1 part.2 links (get nat_eq c.put_last.new.last) _ _ is_before is_next c.put_last.ensures.own c.put_last.ensures.others);
      follows = ap (λ o. cond {A = Option ℕ} (is_some o) None c.index-next.result.now) (sym c.in-None.is) ∙ follows t.first c.args.i c.args.slot t.stages.items t.later.items t.earlier.items (get nat_eq t.last) part.0 part.1 part.2 links _ _ is_before is_next;
    }
