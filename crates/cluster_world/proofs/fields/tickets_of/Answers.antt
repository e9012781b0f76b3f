use Rattle.std.proofs.Common.{◌∙◌, ◌++◌, ap, sym}
use Rattle.std.specs.Option.{option_map}
use Rattle.std.specs.List.{slice_split}
use Rattle.cluster_world.specs.Schedule.{is_plus, tickets_of}
use Rattle.cluster_world.proofs.Pieces.{split_cut, split_whole}
use Rattle.cluster_world.proofs.TicketWords.{all-tickets, not-one, one-more}
use Rattle.cluster_world.proofs.fields.tickets_of.Goals as goal

pub returns-in_default-ticket_of : goal.returns-in_default-ticket_of
returns-in_default-ticket_of c =
    let parts = c.in-Some.ensures in
    not-one c.args.workers c.args.client c.args.parts.now c.loop-part.rest.now c.in-Some.part.now _ c.loop-part.tickets.items c.loop-part.invariant (split_cut is_plus _ _ _ parts.0 parts.1 parts.2)
    (sym c.in_default-ticket_of.is ∙ c.ticket_of.ensures)

pub loop-part-preserved : goal.loop-part-preserved
loop-part-preserved c =
    let parts = c.in-Some.ensures in
    one-more c.args.workers c.args.client c.args.parts.now c.loop-part.rest.now c.in-Some.part.now (slice_split is_plus c.in-Some.behind.now) c.loop-part.tickets.items c.in-Some-ticket_of.ticket c.loop-part.invariant
    (split_cut is_plus _ _ _ parts.0 parts.1 parts.2) (sym c.in-Some-ticket_of.is ∙ c.ticket_of.ensures)
    ∙ ap (λ items. option_map (λ ts. items ++ ts) (tickets_of c.args.workers c.args.client (slice_split is_plus c.in-Some.behind.now))) (sym c.in_ok-push.ensures.items)

pub returns-in_default-ticket_of-2 : goal.returns-in_default-ticket_of-2
returns-in_default-ticket_of-2 c =
    not-one c.args.workers c.args.client c.args.parts.now c.loop-part.rest.now c.loop-part.rest.now _ c.loop-part.tickets.items c.loop-part.invariant (split_whole is_plus _ c.in_default.ensures)
    (sym c.in_default-ticket_of-2.is ∙ c.ticket_of-2.ensures)

pub returns : goal.returns
returns c =
    all-tickets c.args.workers c.args.client c.args.parts.now c.loop-part.rest.now c.loop-part.tickets.items _ c.in-Some-ticket_of-2.ticket c.loop-part.invariant (split_whole is_plus _ c.in_default.ensures)
    (sym c.in-Some-ticket_of-2.is ∙ c.ticket_of-2.ensures) (c.new.ensures ∙ c.in_ok-push-2.ensures.items)
