use Rattle.std.proofs.Common.{arith, sym, ap, subst, ◌≡◌, ◌-◌, true, length, take}
use Rattle.std.specs.List.{list_all}
use Rattle.std.proofs.lemmas.List.{length-set}
use Rattle.session_order.specs.declared.queue.PartStage.TheVariants.{Done}
use Rattle.session_order.specs.Turn.{is_done}
use Rattle.session_order.proofs.Fronting.{front_fits, front_done, front_kept}
use Rattle.session_order.proofs.queue.Queue.end.Goals as goal

pub count_done-self-inside-requires-clause-fits : goal.count_done-self-inside-requires-clause-fits
count_done-self-inside-requires-clause-fits c =
    let old = c.self.inside.tables in
    omega (arith, c.self.invariant.2, front_fits old.stages.items, ap length c.mark_done.ensures.stages, length-set old.stages.items (c.args.number - old.first) Done)

pub count_done-self-inside-requires-clause-known : goal.count_done-self-inside-requires-clause-known
count_done-self-inside-requires-clause-known c =
    let old = c.self.inside.tables in
    let done : list_all is_done (take c.self.inside.done old.stages.items) ≡ true =
    subst (λ n. list_all is_done (take n old.stages.items) ≡ true) (sym c.self.invariant.2) (front_done old.stages.items) in
    rw c.mark_done.ensures.stages (front_kept old.stages.items c.self.inside.done (c.args.number - old.first) done)
