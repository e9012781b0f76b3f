use Rattle.std.proofs.Common.{◌≡◌, List, Some, length, true, false, refl, sym, subst, arith}
use Rattle.std.specs.Prelude.{slice_get, slice_index_or}
use Rattle.std.proofs.lemmas.Option.{slice_get-get_or}
use Rattle.key_split.specs.declared.travel.Ticket.{Ticket}
use Rattle.cluster_world.specs.Posting.{way_for, ArePast}
use Rattle.cluster_world.proofs.Going.{cut-at, goes-first, goes-further, goes-not, goes-whole}
use Rattle.cluster_world.proofs.posting.go_together.Goals as goal

pub loop-count-init : goal.loop-count-init
loop-count-init c = goes-first (way_for c.args.first.now) c.args.node c.args.commands.now c.args.tickets.now c.past_of-past.result c.past_of-past.ensures

pub returns-in-None : goal.returns-in-None
returns-in-None c =
    let t : Ticket = slice_index_or c.args.tickets.now c.loop-count.count (record { worker = 0; client = 0; part = 0 }) in
    let at : slice_get c.args.tickets.now c.loop-count.count ≡ Some t = slice_get-get_or c.args.tickets.now c.loop-count.count (record { worker = 0; client = 0; part = 0 }) c.loop-count-test.true in (
      λ n. absurd (let no : false ≡ true = n in cc),
      λ whole.
          absurd (goes-not (way_for c.args.first.now) c.args.node c.args.commands.now c.args.tickets.now c.loop-count.count t at c.loop-count.invariant.0
          c.in-None.ensures whole),
    )

pub loop-count-preserved : goal.loop-count-preserved
loop-count-preserved c =
    let t : Ticket = slice_index_or c.args.tickets.now c.loop-count.count (record { worker = 0; client = 0; part = 0 }) in
    let at : slice_get c.args.tickets.now c.loop-count.count ≡ Some t = slice_get-get_or c.args.tickets.now c.loop-count.count (record { worker = 0; client = 0; part = 0 }) c.loop-count-test.true in (
      goes-further (way_for c.args.first.now) c.args.node c.args.commands.now c.args.tickets.now c.loop-count.count t at c.loop-count.invariant.0 c.in-Some.ensures.0,
      subst (λ (ts : List Ticket). ArePast (way_for c.args.first.now) ts c.in-Some.further c.args.commands.now) (sym (cut-at c.args.tickets.now c.loop-count.count t at).1) c.in-Some.ensures.1,
    )

pub returns : goal.returns
returns c =
    let end : c.loop-count.count ≡ length c.args.tickets.now = omega (arith, c.loop-count-test.false, c.loop-count.auto.count-end) in
    (λ t. goes-whole (way_for c.args.first.now) c.args.node c.args.commands.now c.args.tickets.now c.loop-count.count end c.loop-count.invariant.0, λ whole. refl)
