use Rattle.std.proofs.Common.{length, ap, sym, ◌∙◌, arith}
use Rattle.std.proofs.lemmas.Map.Entries.{hash_map_get_place}
use Rattle.std.specs.Cmp.Lexicographic.{nat_list_eq_equiv}
use Rattle.std.specs.FinMap.{from_entries}
use Rattle.key_split.specs.declared.part.Op.TheVariants.{MSet}
use Rattle.node_model.specs.Store.{store_along}
use Rattle.node_model.proofs.Entries.{get-lookup}
use Rattle.node_model.proofs.AllDone.{laid-over}
use Rattle.node_model.proofs.together.put_all.Goals as goal

pub loop-key-preserved : goal.loop-key-preserved
loop-key-preserved c =
    let steps = c.in-Some.ensures.steps in (
      tt,
      tt,
      ap (λ s. store_along MSet s c.next.new.self) c.put_reserved.ensures.entries
          ∙ ap (store_along MSet (from_entries c.loop-key.held.entries)) (sym steps) ∙ c.loop-key.invariant.2,
      omega (arith, c.loop-key.invariant.3, ap length steps, c.put_reserved.ensures.room),
    )

pub returns : goal.returns
returns c =
    let values = c.args.values.entries in
    laid-over values (from_entries values) (from_entries c.args.held.now.entries) (from_entries c.loop-key.held.entries)
    (λ i p e. sym (get-lookup p.0 values) ∙ hash_map_get_place nat_list_eq_equiv c.args.values i p.0 p.1 c.into_iter-key-iterator.ensures.into_iter_gives.4 e)
    (λ q. get-lookup q values)
    (ap (store_along MSet (from_entries c.loop-key.held.entries)) (sym c.in-None.ensures.steps.0) ∙ c.loop-key.invariant.2)
