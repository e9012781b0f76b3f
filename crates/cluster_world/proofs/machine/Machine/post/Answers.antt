use Rattle.std.proofs.Common.{◌≡◌, List, ◌∷◌, [], ◌++◌, true, false, rules, refl, sym, ◌∙◌, subst, Err, arith}
use Rattle.key_split.specs.declared.travel.Ticket.{Ticket}
use Rattle.command_future.specs.CommandModel.{asks_at}
use Rattle.world_laws.specs.State.{WorldModel}
use Rattle.world_laws.specs.World.{WorldDoes, IsNode}
use Rattle.world_laws.specs.declared.event.Event.TheVariants as event
use Rattle.world_laws.specs.declared.state.Arrival.{Arrival}
use Rattle.cluster_world.specs.Machine.{state_of, Can}
use Rattle.cluster_world.specs.Posting.{way_for, GoTogether, IsHead, IsRun}
use Rattle.cluster_world.specs.declared.fault.WorldFault.TheVariants.{NoMemory}
use Rattle.cluster_world.proofs.Allowing.{no-memory}
use Rattle.cluster_world.proofs.Going.{may-post, posted-head, posted-node, posted-run, posted-together}
use Rattle.cluster_world.proofs.machine.Machine.post.Goals as goal

pub returns-then-number-nodes : goal.returns-then-number-nodes
returns-then-number-nodes c = (
  (λ v d. absurd (let there' = posted-node (state_of c.args.self.now) v c.args.tickets.now c.args.node refl d in omega (arith, there', c.number.ensures.value, c.requires, c.if-number-nodes.true))),
  refl,
)

pub returns-then-not-is_run : goal.returns-then-not-is_run
returns-then-not-is_run c = (
  (λ v d.
      let run = posted-run (state_of c.args.self.now) v c.args.tickets.now c.args.node refl d in
      let no : false ≡ true = c.if-not-is_run.ensures.1 (subst (λ (ts : List Ticket). IsRun ts c.args.self.now.commands) (sym c.as_slice-tickets.ensures) run) in
      absurd (cc)),
  refl,
)

pub returns-in_default : goal.returns-in_default
returns-in_default c = (
  (λ v d.
      let head = posted-head (state_of c.args.self.now) v c.args.tickets.now c.args.node refl d in
      absurd (c.in_default.ensures head.0 (subst (λ (ts : List Ticket). IsHead ts c.args.self.now.commands head.0) (sym c.as_slice-tickets.ensures) head.1))),
  refl,
)

pub returns-then-not-go_together : goal.returns-then-not-go_together
returns-then-not-go_together c = (
  (λ v d.
      let first : Arrival = c.in-Some.first.now in
      let commands : List Arrival = c.args.self.now.commands in
      let head : IsHead c.args.tickets.now commands first = subst (λ (ts : List Ticket). IsHead ts commands first) c.as_slice-tickets.ensures c.in-Some.ensures in
      let all = posted-together (state_of c.args.self.now) v c.args.tickets.now c.args.node refl d c.are_apart.ensures first head in
      let no : false ≡ true = c.if-not-go_together.ensures.1 (subst (λ (ts : List Ticket). GoTogether (way_for first) c.args.node [] ts commands) (sym c.as_slice-tickets.ensures) all) in
      absurd (cc)),
  refl,
)

pub returns-in_err-own : goal.returns-in_err-own
returns-in_err-own c =
    let w : WorldModel = state_of c.args.self.now in
    let first : Arrival = c.in-Some.first.now in
    let is : c.from_residual.result ≡ Err NoMemory = search rules in
    let below : IsNode w.cluster c.args.node = omega (arith, c.number.ensures.value, c.requires, c.if-number-nodes.false) in
    let m = may-post w c.as_slice-tickets.result.now c.args.node first refl c.are_apart.ensures below (c.if-not-is_run.ensures.0 refl) (c.if-not-go_together.ensures.0 refl) in
    no-memory w w (event.Post c.args.tickets.now c.args.node) c.from_residual.result is
    (subst (λ (ts : List Ticket). Can w (event.Post ts c.args.node)) c.as_slice-tickets.ensures (record w { commands = m.0; ups = w.ups ++ record { tickets = c.as_slice-tickets.result.now; node = c.args.node; asking = asks_at first.command.stage } ∷ [] }, m.2)) refl

pub returns-in_err-reserve : goal.returns-in_err-reserve
returns-in_err-reserve c =
    let w : WorldModel = state_of c.args.self.now in
    let first : Arrival = c.in-Some.first.now in
    let is : c.from_residual-in_err-reserve.result ≡ Err NoMemory = search rules in
    let below : IsNode w.cluster c.args.node = omega (arith, c.number.ensures.value, c.requires, c.if-number-nodes.false) in
    let m = may-post w c.as_slice-tickets.result.now c.args.node first refl c.are_apart.ensures below (c.if-not-is_run.ensures.0 refl) (c.if-not-go_together.ensures.0 refl) in
    no-memory w (record w { ups = c.reserve.new.self.items }) (event.Post c.args.tickets.now c.args.node) c.from_residual-in_err-reserve.result is
    (subst (λ (ts : List Ticket). Can w (event.Post ts c.args.node)) c.as_slice-tickets.ensures (record w { commands = m.0; ups = w.ups ++ record { tickets = c.as_slice-tickets.result.now; node = c.args.node; asking = asks_at first.command.stage } ∷ [] }, m.2))
    (λ i. record w { ups = c.in_err-reserve.ensures.items i })

pub go_out-requires : goal.go_out-requires
go_out-requires c =
    let w : WorldModel = state_of c.args.self.now in
    let first : Arrival = c.in-Some.first.now in
    let below : IsNode w.cluster c.args.node = omega (arith, c.number.ensures.value, c.requires, c.if-number-nodes.false) in
    let m = may-post w c.as_slice-tickets.result.now c.args.node first refl c.are_apart.ensures below (c.if-not-is_run.ensures.0 refl) (c.if-not-go_together.ensures.0 refl) in
    (m.0, m.1)

pub returns : goal.returns
returns c =
    let w : WorldModel = state_of c.args.self.now in
    let first : Arrival = c.in-Some.first.now in
    let below : IsNode w.cluster c.args.node = omega (arith, c.number.ensures.value, c.requires, c.if-number-nodes.false) in
    let m = may-post w c.as_slice-tickets.result.now c.args.node first refl c.are_apart.ensures below (c.if-not-is_run.ensures.0 refl) (c.if-not-go_together.ensures.0 refl) in
    let lies : c.push_reserved.new.self.items ≡ w.ups ++ record { tickets = c.as_slice-tickets.result.now; node = c.args.node; asking = asks_at first.command.stage } ∷ [] =
    c.push_reserved.ensures.items ∙ (λ i. c.in_ok-reserve.ensures.items i ++ record { tickets = (c.new.ensures ∙ c.in_ok-own.ensures.items) i; node = c.args.node; asking = c.asks-asking.ensures i } ∷ []) in
    subst (λ (v : WorldModel). WorldDoes w (event.Post c.args.tickets.now c.args.node) v) (λ i. record w { commands = sym (c.go_out.ensures m.0 m.1) i; ups = sym lies i })
    (subst (λ (ts : List Ticket). WorldDoes w (event.Post ts c.args.node) (record w { commands = m.0; ups = w.ups ++ record { tickets = c.as_slice-tickets.result.now; node = c.args.node; asking = asks_at first.command.stage } ∷ [] })) c.as_slice-tickets.ensures m.2)
