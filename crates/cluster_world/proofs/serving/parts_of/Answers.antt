use Rattle.std.proofs.Common.{◌≡◌, ◌-◌, suc, rules, List, [], ◌∷◌, ◌++◌, length, Err, sym, ap, ◌∙◌, subst, append_assoc}
use Rattle.std.specs.Prelude.{take, drop, slice_get, Result, Vec}
use Rattle.std.specs.declared.alloc.Global.{Global}
use Rattle.std.proofs.lemmas.List.{append-nil}
use Rattle.key_split.specs.PartModel.{PartModel, HasOneSlot}
use Rattle.key_split.specs.declared.travel.Ticket.{Ticket}
use Rattle.cluster_world.specs.Serving.{AreParts, GivesParts}
use Rattle.cluster_world.specs.declared.fault.WorldFault.{WorldFault}
use Rattle.cluster_world.specs.declared.fault.WorldFault.TheVariants.{NoMemory}
use Rattle.cluster_world.proofs.Lookups.{place-within}
use Rattle.cluster_world.proofs.Among.{by-head, head_of}
use Rattle.cluster_world.proofs.Stepping.{none-left}
use Rattle.key_split.specs.Same.{same_ticket}
use Rattle.world_laws.specs.declared.state.Arrival.{Arrival}
use Rattle.cluster_world.proofs.serving.parts_of.Goals as goal

pub at-requires : goal.at-requires
at-requires c = (place-within (λ (x : Arrival). same_ticket (head_of c.loop-rest.rest.now) x.command.ticket) c.args.commands.now c.in-Some.place (sym c.in-Some.ensures)).1

pub returns-in_default-place_of : goal.returns-in_default-place_of
returns-in_default-place_of c =
    let rest : List Ticket = c.loop-rest.rest.now in
    let first : rest ≡ (head_of rest) ∷ take (length rest - 1) (drop 1 rest) = by-head rest c.in-len1-up.len_at_least in
    ((head_of rest), c.loop-rest.invariant.1 (head_of rest) (0, ap (λ (ts : List Ticket). slice_get ts 0) first), sym c.in_default-place_of.ensures)

pub returns-in_err-copy : goal.returns-in_err-copy
returns-in_err-copy c =
    let is : c.from_residual.result ≡ Err NoMemory = search rules in
    subst (λ (r : Result (Vec PartModel Global) WorldFault). GivesParts c.args.commands.now c.args.tickets.now r) (sym is) tt

pub returns-in_err-push : goal.returns-in_err-push
returns-in_err-push c =
    let is : c.from_residual-in_err-push.result ≡ Err NoMemory = search rules in
    subst (λ (r : Result (Vec PartModel Global) WorldFault). GivesParts c.args.commands.now c.args.tickets.now r) (sym is) tt

pub loop-rest-preserved : goal.loop-rest-preserved
loop-rest-preserved c =
    let rest : List Ticket = c.loop-rest.rest.now in
    let tail : List Ticket = take (length rest - 1) (drop 1 rest) in
    let first : rest ≡ (head_of rest) ∷ tail = by-head rest c.in-len1-up.len_at_least in
    let p : PartModel = c.in_ok-copy.field-0 in
    let same : p ≡ c.at.result.now.command.part = c.in_ok-copy.ensures ∙ c.part-part.ensures in
    let one : HasOneSlot p = subst HasOneSlot (sym c.in_ok-copy.ensures) c.slot.ensures.of_all in (
      λ more h.
          subst (λ (items : List PartModel). AreParts c.args.commands.now c.args.tickets.now items) (sym (append_assoc c.loop-rest.parts.items (p ∷ []) more) ∙ ap (λ (items : List PartModel). items ++ more) (sym c.in_ok-push.ensures.items))
          (c.loop-rest.invariant.0 (p ∷ more) (subst (λ (ts : List Ticket). AreParts c.args.commands.now ts (p ∷ more)) (sym first) ((c.in-Some.place, c.at.result.now, (sym c.in-Some.ensures, c.at.ensures), same, one), h))),
      λ t a. c.loop-rest.invariant.1 t (suc a.0, ap (λ (ts : List Ticket). slice_get ts (suc a.0)) first ∙ a.1),
    )

pub returns : goal.returns
returns c =
    subst (λ (items : List PartModel). AreParts c.args.commands.now c.args.tickets.now items) (append-nil c.loop-rest.parts.items)
    (c.loop-rest.invariant.0 [] (subst (λ (ts : List Ticket). AreParts c.args.commands.now ts []) (sym (none-left c.loop-rest.rest.now c.in_default.len_below)) tt))
