use Rattle.std.proofs.Common.{◌≡◌, ◌==◌, List, None, Bool, true, false, refl, sym, ap, ◌∙◌, subst}
use Rattle.std.specs.Prelude.{slice_set, position}
use Rattle.key_split.specs.Same.{same_ticket, same_ticket-Decides}
use Rattle.key_split.specs.declared.travel.Ticket.{Ticket}
use Rattle.key_split.specs.declared.travel.Told.{Told}
use Rattle.world_laws.specs.State.{after_told}
use Rattle.world_laws.specs.World.{IsFirst, IsOf}
use Rattle.world_laws.specs.declared.state.Arrival.{Arrival}
use Rattle.cluster_world.specs.Machine.{state_of}
use Rattle.cluster_world.proofs.Lookups.{same-item, first-same, none-first, first-at, first-passes, place-within}
use Rattle.cluster_world.proofs.machine.Machine.take.Goals as goal

-- the pair that stands first, and its command

pub returns-in_default-place_of : goal.returns-in_default-place_of
returns-in_default-place_of c =
    let downs : List (Ticket × Told) = c.args.self.now.downs.items in
    let commands : List Arrival = c.args.self.now.commands in
    let mine : Ticket × Told → Bool = λ x. x.0.worker == c.args.lane in
    let here : IsFirst mine downs c.in-Some.first c.index.result.now = first-at mine downs c.in-Some.first c.index.result.now (ap (position mine) (sym c.deref.ensures.value) ∙ sym c.in-Some.ensures) c.index.ensures in
    let none : position (λ (x : Arrival). same_ticket c.index.result.now.0 x.command.ticket) commands ≡ None = sym c.in_default-place_of.ensures in (
      (λ v d.
          let e = first-same mine downs d.0 c.in-Some.first ((d.2).command.ticket, d.3) c.index.result.now d.4 here in
          none-first (λ (x : Arrival). same_ticket c.index.result.now.0 x.command.ticket) commands d.1 d.2 none (subst (λ (t : Ticket). IsOf t commands d.1 d.2) (ap (λ (x : Ticket × Told). x.0) e.1) d.5)),
      refl,
    )

pub at-requires : goal.at-requires
at-requires c = (place-within (λ (x : Arrival). same_ticket c.index.result.now.0 x.command.ticket) c.args.self.now.commands c.in-Some-place_of.place (sym c.in-Some-place_of.ensures)).1

pub returns-then-not-awaits : goal.returns-then-not-awaits
returns-then-not-awaits c =
    let downs : List (Ticket × Told) = c.args.self.now.downs.items in
    let commands : List Arrival = c.args.self.now.commands in
    let mine : Ticket × Told → Bool = λ x. x.0.worker == c.args.lane in
    let here : IsFirst mine downs c.in-Some.first c.index.result.now = first-at mine downs c.in-Some.first c.index.result.now (ap (position mine) (sym c.deref.ensures.value) ∙ sym c.in-Some.ensures) c.index.ensures in
    let its : IsOf c.index.result.now.0 commands c.in-Some-place_of.place c.at.result.now = (sym c.in-Some-place_of.ensures, c.at.ensures) in (
      (λ v d.
          let e = first-same mine downs d.0 c.in-Some.first ((d.2).command.ticket, d.3) c.index.result.now d.4 here in
          let f = first-same (λ (x : Arrival). same_ticket c.index.result.now.0 x.command.ticket) commands d.1 c.in-Some-place_of.place d.2 c.at.result.now (subst (λ (t : Ticket). IsOf t commands d.1 d.2) (ap (λ (x : Ticket × Told). x.0) e.1) d.5) its in
          let no' : false ≡ true = c.if-not-awaits.ensures.1 (ap (λ (x : Arrival). x.command.stage) (sym f.1) ∙ d.6) in cc),
      refl,
    )

pub told-requires : goal.told-requires
told-requires c = (c.at.result.now, c.at.ensures, c.if-not-awaits.ensures.0 refl)

pub returns : goal.returns
returns c =
    let downs : List (Ticket × Told) = c.args.self.now.downs.items in
    let commands : List Arrival = c.args.self.now.commands in
    let mine : Ticket × Told → Bool = λ x. x.0.worker == c.args.lane in
    let pair : Ticket × Told = c.index.result.now in
    let its : Arrival = c.at.result.now in
    let here : IsFirst mine downs c.in-Some.first pair = first-at mine downs c.in-Some.first pair (ap (position mine) (sym c.deref.ensures.value) ∙ sym c.in-Some.ensures) c.index.ensures in
    let of' : IsOf pair.0 commands c.in-Some-place_of.place its = (sym c.in-Some-place_of.ensures, c.at.ensures) in
    let ticket : pair.0 ≡ its.command.ticket = (same_ticket-Decides pair.0 its.command.ticket).0 (first-passes (λ (x : Arrival). same_ticket pair.0 x.command.ticket) commands c.in-Some-place_of.place its of') in
    let told : c.remove-told.result ≡ pair = same-item downs c.in-Some.first c.remove-told.result pair (first-at mine downs c.in-Some.first c.remove-told.result here.0 c.remove-told.ensures.value).1 here.1 in
    let after : c.told.new.self ≡ slice_set commands c.in-Some-place_of.place (after_told its pair.1) =
    c.told.ensures its of'.1 ∙ (λ i. slice_set commands c.in-Some-place_of.place (after_told its (told i).1)) in (
      c.in-Some.first,
      c.in-Some-place_of.place,
      its,
      pair.1,
      subst (λ (t : Ticket). IsFirst mine downs c.in-Some.first (t, pair.1)) ticket here,
      subst (λ (t : Ticket). IsOf t commands c.in-Some-place_of.place its) ticket of',
      c.if-not-awaits.ensures.0 refl,
      λ i. record (state_of c.args.self.now) { commands = after i; downs = c.remove-told.ensures.items i },
    )
