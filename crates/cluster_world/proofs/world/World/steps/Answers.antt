use Rattle.std.proofs.Common.{◌≡◌, ◌+◌, ◌-◌, List, [], ◌∷◌, ◌++◌, length, sym, ap, ◌∙◌}
use Rattle.std.specs.Prelude.{take, drop}
use Rattle.world_laws.specs.declared.event.Event.{Event}
use Rattle.cluster_world.proofs.Stepping.{stops, run-on, joined, one-more, by-first}
use Rattle.cluster_world.proofs.world.World.steps.Goals as goal

pub returns-in-Err : goal.returns-in-Err
returns-in-Err c =
    let rest : List Event = c.loop-rest.rest.now in
    let done : List Event = c.loop-rest.invariant.0 in
    let first : rest ≡ c.event-item.result ∷ take (length rest - 1) (drop 1 rest) = by-first rest c.event-item.result c.in-len1-up.len_at_least c.event-item.is in
    stops Unit c.args.self.now c.loop-rest.self c.step.new.self c.args.events.now done (take (length rest - 1) (drop 1 rest)) c.event-item.result (c.loop-rest.number + 1) c.in-Err.why
    (ap (λ es. done ++ es) (sym first) ∙ c.loop-rest.invariant.1) (ap (λ n. n + 1) c.loop-rest.invariant.2) c.loop-rest.invariant.3 c.in-Err.ensures

pub loop-rest-preserved : goal.loop-rest-preserved
loop-rest-preserved c =
    let rest : List Event = c.loop-rest.rest.now in
    let done : List Event = c.loop-rest.invariant.0 in
    let first : rest ≡ c.event-item.result ∷ take (length rest - 1) (drop 1 rest) = by-first rest c.event-item.result c.in-len1-up.len_at_least c.event-item.is in (
      done ++ c.event-item.result ∷ [],
      joined done (take (length rest - 1) (drop 1 rest)) c.event-item.result ∙ ap (λ es. done ++ es) (sym first) ∙ c.loop-rest.invariant.1,
      one-more done c.event-item.result ∙ ap (λ n. n + 1) c.loop-rest.invariant.2,
      run-on c.args.self.now c.loop-rest.self c.step.new.self done c.event-item.result c.loop-rest.invariant.3 c.in_default-step.ensures,
    )
