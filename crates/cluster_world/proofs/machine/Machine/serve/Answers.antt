use Rattle.std.proofs.Common.{◌≡◌, List, true, false, rules, refl, sym, ap, ◌∙◌, subst, Err}
use Rattle.std.specs.Prelude.{Result}
use Rattle.node_model.specs.Serving.{names_node}
use Rattle.key_split.specs.declared.travel.Ticket.{Ticket}
use Rattle.world_laws.specs.State.{WorldModel}
use Rattle.world_laws.specs.World.{NamesNode}
use Rattle.world_laws.specs.declared.event.Event.TheVariants as event
use Rattle.world_laws.specs.declared.state.LinkRequest.{LinkRequest}
use Rattle.world_laws.specs.declared.state.LinkRequest.TheVariants.{Runs}
use Rattle.cluster_world.specs.Links.{There, Begins}
use Rattle.cluster_world.specs.Machine.{state_of, MachineAnswers}
use Rattle.cluster_world.specs.Serving.{AreParts, GivesParts}
use Rattle.cluster_world.specs.declared.fault.WorldFault.{WorldFault}
use Rattle.cluster_world.proofs.Linking.{no-parts, one-slot, serve-nothing, serve-refused}
use Rattle.cluster_world.proofs.machine.Machine.serve.Goals as goal

pub returns-in_default : goal.returns-in_default
returns-in_default c = (serve-nothing (state_of c.args.self.now) c.args.link c.args.verdict c.in_default.ensures, refl)

pub serve_asking-requires : goal.serve_asking-requires
serve_asking-requires c = subst (λ (r : LinkRequest). There c.args.self.now.links c.args.link (Begins r)) c.in-Asking.is c.in-Some.ensures

pub returns-then-not-names_node : goal.returns-then-not-names_node
returns-then-not-names_node c =
    let w : WorldModel = state_of c.args.self.now in
    let first : There c.args.self.now.links c.args.link (Begins (Runs c.in-Runs.tickets)) = subst (λ (r : LinkRequest). There c.args.self.now.links c.args.link (Begins r)) c.in-Runs.is c.in-Some.ensures in
    let unnamed : NamesNode w.cluster c.args.verdict → ⊥ = λ named. (let is : false ≡ true = c.if-not-names_node.ensures ∙ ap (names_node c.args.verdict) c.requires.nodes ∙ named in cc) in
    (serve-refused w c.args.link c.args.verdict c.in-Runs.tickets first unnamed, refl)

pub returns-in_err-parts-in-Runs : goal.returns-in_err-parts-in-Runs
returns-in_err-parts-in-Runs c =
    let w : WorldModel = state_of c.args.self.now in
    let first : There c.args.self.now.links c.args.link (Begins (Runs c.in-Runs.tickets)) = subst (λ (r : LinkRequest). There c.args.self.now.links c.args.link (Begins r)) c.in-Runs.is c.in-Some.ensures in
    let named : NamesNode w.cluster c.args.verdict = ap (names_node c.args.verdict) (sym c.requires.nodes) ∙ sym c.if-not-names_node.ensures in
    let is : c.from_residual.result ≡ Err c.in_err-parts-in-Runs.field-0.0 = search rules in
    let gives : GivesParts w.commands c.in-Runs.tickets (Err c.in_err-parts-in-Runs.field-0.0) = subst (λ (ts : List Ticket). GivesParts w.commands ts (Err c.in_err-parts-in-Runs.field-0.0)) c.as_slice.ensures c.in_err-parts-in-Runs.ensures in
    subst (λ (r : Result Unit WorldFault). MachineAnswers w (event.Serve c.args.link c.args.verdict) r w) (sym is) (no-parts Unit w c.args.link c.args.verdict c.in-Runs.tickets c.in_err-parts-in-Runs.field-0.0 named c.requires.serves first gives)

pub serve_run-requires-clause-first : goal.serve_run-requires-clause-first
serve_run-requires-clause-first c =
    let w : WorldModel = state_of c.args.self.now in
    let first : There c.args.self.now.links c.args.link (Begins (Runs c.in-Runs.tickets)) = subst (λ (r : LinkRequest). There c.args.self.now.links c.args.link (Begins r)) c.in-Runs.is c.in-Some.ensures in
    (first.0, first.1, (c.in-Runs.tickets, first.2, subst (λ (ts : List Ticket). AreParts w.commands ts c.in_ok-parts-in-Runs.parts.items) c.as_slice.ensures c.in_ok-parts-in-Runs.ensures))

pub serve_run-requires-clause-slot : goal.serve_run-requires-clause-slot
serve_run-requires-clause-slot c =
    let w : WorldModel = state_of c.args.self.now in
    let first : There c.args.self.now.links c.args.link (Begins (Runs c.in-Runs.tickets)) = subst (λ (r : LinkRequest). There c.args.self.now.links c.args.link (Begins r)) c.in-Runs.is c.in-Some.ensures in
    let slot = c.requires.slots c.args.link first.0 c.in-Runs.tickets first.2.0 first.1 first.2.1 in
    one-slot w c.in-Runs.tickets c.in_ok-parts-in-Runs.parts.items slot.0 (subst (λ (ts : List Ticket). AreParts w.commands ts c.in_ok-parts-in-Runs.parts.items) c.as_slice.ensures c.in_ok-parts-in-Runs.ensures) slot.1

pub serve_run-requires-clause-named : goal.serve_run-requires-clause-named
serve_run-requires-clause-named c = ap (names_node c.args.verdict) (sym c.requires.nodes) ∙ sym c.if-not-names_node.ensures
