use Rattle.std.proofs.Common.{◌≡◌, List, sym, ◌∙◌, subst}
use Rattle.std.specs.Prelude.{All}
use Rattle.key_split.specs.declared.travel.Ticket.{Ticket}
use Rattle.key_split.specs.declared.travel.Told.{Told}
use Rattle.world_laws.specs.Places.Item.{Stands, Comes}
use Rattle.world_laws.specs.declared.state.Arrival.{Arrival}
use Rattle.world_laws.specs.declared.state.Posted.{Posted}
use Rattle.cluster_world.specs.Rests.{sought, Rests, RunRests}
use Rattle.cluster_world.proofs.Lists.{never}
use Rattle.cluster_world.proofs.machine.Machine.rests.Goals.{then-commands_rest, else-commands_rest, then-runs_rest, else-runs_rest}
use Rattle.cluster_world.proofs.machine.Machine.rests.Goals as goal

pub returns-then-rest : goal.returns-then-rest
unfolding Rests
returns-then-rest c =
    let Arrivals = λ (cs : List Arrival). All (λ a. sought c.args.sought.now (Stands a) ≡ 0) cs in
    let Lanes = λ (bs : List Posted). All (λ b. RunRests b c.args.sought.now) bs in
    let Downs = λ (ds : List (Ticket × Told)). All (λ p. sought c.args.sought.now (Comes p.0 p.1) ≡ 0) ds in
    elim c.if-runs_rest.branch [
      | then-runs_rest w ↦ elim c.if-commands_rest.branch [
        | then-commands_rest v ↦ (
          λ t. record {
            commands = subst Arrivals c.as_slice.ensures (c.commands_rest.ensures.0 v.if-commands_rest.true);
            ups = subst Lanes v.deref.ensures.value (v.runs_rest.ensures.0 (sym v.value-is ∙ w.if-runs_rest.true));
            links = w.rest.ensures.0 (sym w.value-is ∙ c.if-rest.true);
            downs = subst Downs c.deref-then-rest.ensures.value (c.downs_rest.ensures.0 t);
          },
          λ r. c.downs_rest.ensures.1 (subst Downs (sym c.deref-then-rest.ensures.value) r.downs),
        )
        | else-commands_rest v ↦ absurd (never (sym v.if-commands_rest.false ∙ sym v.value-is ∙ w.if-runs_rest.true))
      ]
      | else-runs_rest w ↦ absurd (never (sym w.if-runs_rest.false ∙ sym w.value-is ∙ c.if-rest.true))
    ]

pub returns-else-rest : goal.returns-else-rest
unfolding Rests
returns-else-rest c = (
  λ t. absurd (never (sym c.if-rest.false ∙ t)),
  λ r. absurd (elim c.if-runs_rest.branch [
    | then-runs_rest w ↦ never (sym c.if-rest.false ∙ w.value-is ∙ w.rest.ensures.1 r.links)
    | else-runs_rest w ↦ elim c.if-commands_rest.branch [
      | then-commands_rest v ↦ never (sym w.if-runs_rest.false ∙ v.value-is ∙ v.runs_rest.ensures.1 (subst (λ (bs : List Posted). All (λ b. RunRests b c.args.sought.now) bs) (sym v.deref.ensures.value) r.ups))
      | else-commands_rest v ↦ never (sym v.if-commands_rest.false ∙ c.commands_rest.ensures.1 (subst (λ (cs : List Arrival). All (λ a. sought c.args.sought.now (Stands a) ≡ 0) cs) (sym c.as_slice.ensures) r.commands))
    ]
  ]),
)
