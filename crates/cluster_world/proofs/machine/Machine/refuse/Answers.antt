use Rattle.std.proofs.Common.{◌≡◌, ◌++◌, List, map, Err, rules, refl, sym, ap, ◌∙◌}
use Rattle.std.specs.Prelude.{position, remove}
use Rattle.key_split.specs.declared.travel.Ticket.{Ticket}
use Rattle.key_split.specs.declared.travel.Told.{Told}
use Rattle.key_split.specs.declared.travel.Told.TheVariants.{Unsent}
use Rattle.world_laws.specs.State.{WorldModel}
use Rattle.world_laws.specs.World.{IsFirst, lies_in}
use Rattle.world_laws.specs.declared.state.Posted.{Posted}
use Rattle.world_laws.specs.declared.event.Event.TheVariants as event
use Rattle.cluster_world.specs.Machine.{state_of, Can}
use Rattle.cluster_world.specs.declared.fault.WorldFault.TheVariants.{NoMemory}
use Rattle.cluster_world.proofs.Allowing.{no-memory}
use Rattle.cluster_world.proofs.Lookups.{first-at, none-first}
use Rattle.cluster_world.proofs.machine.Machine.refuse.Goals as goal

pub returns-in_default : goal.returns-in_default
returns-in_default c = (
  (λ v d. none-first (lies_in c.args.lane) c.args.self.now.ups.items d.0 d.1 (ap (position (lies_in c.args.lane)) (sym c.deref.ensures.value) ∙ sym c.in_default.ensures) d.2),
  refl,
)

pub returns-in_err-pairs : goal.returns-in_err-pairs
returns-in_err-pairs c =
    let w : WorldModel = state_of c.args.self.now in
    let ups : List Posted = c.args.self.now.ups.items in
    let b : Posted = c.index.result.now in
    let its : IsFirst (lies_in c.args.lane) ups c.in-Some.first b = first-at (lies_in c.args.lane) ups c.in-Some.first b (ap (position (lies_in c.args.lane)) (sym c.deref.ensures.value) ∙ sym c.in-Some.ensures) c.index.ensures in
    let could : Can w (event.Refuse c.args.lane) = (record w { ups = remove w.ups c.in-Some.first; downs = w.downs ++ map (λ t. (t, Unsent)) b.tickets }, (c.in-Some.first, b, its, refl)) in
    let is : c.from_residual.result ≡ Err NoMemory = search rules in
    no-memory w w (event.Refuse c.args.lane) c.from_residual.result is could refl

pub returns-in_err-append : goal.returns-in_err-append
returns-in_err-append c =
    let w : WorldModel = state_of c.args.self.now in
    let ups : List Posted = c.args.self.now.ups.items in
    let b : Posted = c.index.result.now in
    let its : IsFirst (lies_in c.args.lane) ups c.in-Some.first b = first-at (lies_in c.args.lane) ups c.in-Some.first b (ap (position (lies_in c.args.lane)) (sym c.deref.ensures.value) ∙ sym c.in-Some.ensures) c.index.ensures in
    let could : Can w (event.Refuse c.args.lane) = (record w { ups = remove w.ups c.in-Some.first; downs = w.downs ++ map (λ t. (t, Unsent)) b.tickets }, (c.in-Some.first, b, its, refl)) in
    let is : c.from_residual-in_err-append.result ≡ Err NoMemory = search rules in
    no-memory w (record w { downs = c.append.new.self.items }) (event.Refuse c.args.lane) c.from_residual-in_err-append.result is could (λ i. record w { downs = c.in_err-append.ensures.items i })

pub returns : goal.returns
returns c =
    let ups : List Posted = c.args.self.now.ups.items in
    let b : Posted = c.index.result.now in
    let its : IsFirst (lies_in c.args.lane) ups c.in-Some.first b = first-at (lies_in c.args.lane) ups c.in-Some.first b (ap (position (lies_in c.args.lane)) (sym c.deref.ensures.value) ∙ sym c.in-Some.ensures) c.index.ensures in (
      c.in-Some.first,
      b,
      its,
      λ i. record (state_of c.args.self.now) {
        ups = c.remove.ensures.items i;
        downs = (c.in_ok-append.ensures.items ∙ ap (λ (ds : List (Ticket × Told)). c.args.self.now.downs.items ++ ds) (c.in_ok-pairs.ensures ∙ ap (map (λ t. (t, Unsent))) c.as_slice.ensures)) i;
      },
    )
