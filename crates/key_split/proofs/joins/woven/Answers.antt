use Rattle.std.proofs.Common.{◌∙◌, ap, sym, map, ◌==◌, ◌<◌, ◌-◌, [], take, drop, length, get_or, Some, option_map, subst}
use Rattle.std.specs.List.{list_all, slice_get}
use Rattle.resp_wire.specs.Seen.{data_of}
use Rattle.key_split.proofs.Weaving.{woven-turn, woven-end, woven-left, rest-below, first-any}
use Rattle.std.proofs.lemmas.List.{take_at}
use Rattle.key_split.specs.Woven.{advanced}
use Rattle.key_split.proofs.joins.woven.Goals as goal

pub returns-then-all_empty : goal.returns-then-all_empty
returns-then-all_empty c =
    woven-end _ (map data_of c.loop-rest.items.items) c.loop-rest.rest.now (map (λ list. map data_of list.now) c.loop-rest.lists.items) c.loop-rest.invariant.0 c.in_default.len_below
    (sym c.if-all_empty.true ∙ c.all_empty.ensures ∙ ap (λ ls. list_all (λ items. length items == 0) (map (λ list. map data_of list.now) ls)) c.deref.ensures.value)

pub returns : goal.returns
returns c =
    woven-left _ (map data_of c.loop-rest.items.items) c.loop-rest.rest.now (map (λ list. map data_of list.now) c.loop-rest.lists.items) c.loop-rest.invariant.0 c.in_default.len_below
    (sym c.if-all_empty.false ∙ c.all_empty.ensures ∙ ap (λ ls. list_all (λ items. length items == 0) (map (λ list. map data_of list.now) ls)) c.deref.ensures.value)

pub loop-rest-preserved : goal.loop-rest-preserved
loop-rest-preserved c =
    let old = c.loop-rest.lists in
    let new = c.next_item.new.lists in
    let number = get_or c.loop-rest.rest.now 0 0 in
    let count = c.next_item.ensures.count ∙ ap length c.deref_mut.ensures.value in
    let written = take_at new (drop (length new) old.items) old.len (count ∙ sym old.ok.0) in
    let same = ap length written ∙ count in (
      woven-turn data_of _ c.loop-rest.items.items _ c.loop-rest.rest.now (map (λ list. map data_of list.now) old.items) _ number c.in_ok-copy.field-0
          c.loop-rest.invariant.0 c.in-len1-up.len_at_least (first-any c.loop-rest.rest.now c.in-len1-up.len_at_least)
          (ap (λ v. Some (data_of v)) c.in_ok-copy.ensures ∙ ap (option_map (λ item. data_of item.now)) (sym c.in-Some.is) ∙ c.next_item.ensures.first
          ∙ ap (λ lists. slice_get (get_or (map (λ list. map data_of list.now) lists) number []) 0) c.deref_mut.ensures.value)
          (ap (map (λ list. map data_of list.now)) written ∙ c.next_item.ensures.later
          ∙ ap (λ lists. advanced (map (λ list. map data_of list.now) lists) number) c.deref_mut.ensures.value)
          c.in_ok-push.ensures.items,
      same ∙ c.loop-rest.invariant.1,
      λ k d h. subst (λ b. get_or (take (length c.loop-rest.rest.now - 1) (drop 1 c.loop-rest.rest.now)) k d < b) (sym same) (rest-below c.loop-rest.rest.now _ c.loop-rest.invariant.2 k d h),
    )
