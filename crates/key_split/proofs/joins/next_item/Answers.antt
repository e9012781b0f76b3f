use Rattle.std.proofs.Common.{◌∙◌, ap, sym, map, []}
use Rattle.std.specs.List.{slice_get}
use Rattle.resp_wire.specs.Seen.{data_of}
use Rattle.key_split.proofs.Weaving.{advanced-seen, seen-at}
use Rattle.key_split.proofs.joins.next_item.Goals as goal

pub returns-clause-first : goal.returns-clause-first
returns-clause-first c =
    let seen = seen-at (λ list. map data_of list.now) c.args.lists.now c.args.place c.index-lists-place.result [] c.requires c.index-lists-place.is in
    c.first_and_later.ensures.first ∙ ap (λ items. slice_get items 0) (sym seen)

pub returns-clause-later : goal.returns-clause-later
returns-clause-later c =
    advanced-seen (λ list. map data_of list.now) c.args.lists.now c.args.place c.index-lists-place.result c.first_and_later.result.1 c.requires c.index-lists-place.is c.first_and_later.ensures.later
