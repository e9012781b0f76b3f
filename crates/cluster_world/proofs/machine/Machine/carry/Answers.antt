use Rattle.std.proofs.Common.{ℕ, List, Err, refl, sym, ap, ◌∙◌, subst}
use Rattle.std.specs.Prelude.{position, remove}
use Rattle.world_laws.specs.State.{WorldModel}
use Rattle.world_laws.specs.World.{IsFirst, lies_in}
use Rattle.world_laws.specs.declared.state.Posted.{Posted}
use Rattle.world_laws.specs.declared.event.Event.TheVariants as event
use Rattle.cluster_world.specs.Links.{LinksModel, Carries, GoesOver}
use Rattle.cluster_world.specs.Machine.{state_of, MachineAnswers}
use Rattle.cluster_world.specs.declared.fault.WorldFault.{WorldFault}
use Rattle.cluster_world.specs.declared.fault.WorldFault.TheVariants.{NoMemory, NotNow}
use Rattle.cluster_world.proofs.Lookups.{first-same, first-at, none-first}
use Rattle.cluster_world.proofs.machine.Machine.carry.Goals as goal

-- where no link takes the run, the event is refused so
refused : (w : WorldModel) (lane link i : ℕ) (b : Posted) (fault : WorldFault) (k : LinksModel) → IsFirst (lies_in lane) w.ups i b
    → Carries {U = Unit {0}} (record { links = w.links; history = w.history }) link b (Err fault) k → MachineAnswers {U = Unit {0}} w (event.Carry lane link) (Err fault) (record w { links = k.links; history = k.history })
refused w lane link i b NotNow k first h =
    ((λ v d. h.0 d.2 (subst (λ (x : Posted). GoesOver w.links link x d.2) (first-same (lies_in lane) w.ups d.0 i d.1 b d.3 first).1 d.4)), ap (λ (x : LinksModel). record w { links = x.links; history = x.history }) h.1)
refused w lane link i b NoMemory k first h =
    ((record w { ups = remove w.ups i; links = h.0.0 }, (i, b, h.0.0, first, h.0.1, refl)), ap (λ (x : LinksModel). record w { links = x.links; history = x.history }) h.1)

pub returns-in_default : goal.returns-in_default
returns-in_default c = (
  (λ v d. none-first (lies_in c.args.lane) c.args.self.now.ups.items d.0 d.1 (ap (position (lies_in c.args.lane)) (sym c.deref.ensures.value) ∙ sym c.in_default.ensures) d.3),
  refl,
)

pub returns-in-Err : goal.returns-in-Err
returns-in-Err c =
    let ups : List Posted = c.args.self.now.ups.items in
    let its : IsFirst (lies_in c.args.lane) ups c.in-Some.first c.index.result.now = first-at (lies_in c.args.lane) ups c.in-Some.first c.index.result.now (ap (position (lies_in c.args.lane)) (sym c.deref.ensures.value) ∙ sym c.in-Some.ensures) c.index.ensures in
    refused (state_of c.args.self.now) c.args.lane c.args.link c.in-Some.first c.index.result.now c.in-Err.fault c.carry.new.self its c.in-Err.ensures

pub returns : goal.returns
returns c =
    let ups : List Posted = c.args.self.now.ups.items in
    let its : IsFirst (lies_in c.args.lane) ups c.in-Some.first c.index.result.now = first-at (lies_in c.args.lane) ups c.in-Some.first c.index.result.now (ap (position (lies_in c.args.lane)) (sym c.deref.ensures.value) ∙ sym c.in-Some.ensures) c.index.ensures in
    (c.in-Some.first, c.index.result.now, c.carry.new.self.links, its, c.in_default-carry.ensures.0, λ i. record (state_of c.args.self.now) { ups = c.remove.ensures.items i; links = c.carry.new.self.links; history = c.in_default-carry.ensures.1 i })
