use Rattle.std.proofs.Common.{◌∙◌, ap, subst, sym}
use Rattle.command_future.specs.CommandModel.{CommandModel}
use Rattle.session_order.specs.Steps.{IsOut}
use Rattle.std.specs.FinMap.{get}
use Rattle.proxy_turns.specs.ClientModel.{ClientModel, IsSoundClient}
use Rattle.proxy_turns.proofs.Posting.{some_same}
use Rattle.std.proofs.lemmas.Bool.{false≢true}
use Rattle.proxy_turns.proofs.Turns.{in_turn}
use Rattle.proxy_turns.proofs.client_parts.ClientParts.may_repost.Goals as goal

pub returns-in-Some-clause-may : goal.returns-in-Some-clause-may
returns-in-Some-clause-may g c =
    let here = c.in-Some.ensures in
    rw (← c.self.view_is) (
      λ yes. (here.0, here.1, here.2, subst (IsOut c.self.inside.session) (sym here.3) (c.is_next.ensures.0 yes)),
      λ (d, at, wants, out).
          let same = some_same d here.0 (sym at ∙ here.1) in
          c.is_next.ensures.1 (subst (IsOut c.self.inside.session) (ap (λ (x : CommandModel). x.ticket) same ∙ here.3) out),
    )

pub returns-in-Some-clause-none : goal.returns-in-Some-clause-none
returns-in-Some-clause-none g c = λ no d stands wants.
    let here = c.in-Some.ensures in
    let sound = subst (λ (m : ClientModel _). IsSoundClient m.session m.commands) c.self.view_is c.self.invariant in
    let out = subst (λ (m : ClientModel _). IsOut m.session d.ticket) (sym c.self.view_is) (in_turn c.args.self.now c.args.number d sound stands wants) in
    let there = ap (λ (m : ClientModel _). get m.commands.posted c.args.number) c.self.view_is ∙ stands.0 in
    let same = some_same d here.0 (sym there ∙ here.1) in
    false≢true (sym no ∙ c.is_next.ensures.1 (subst (IsOut c.self.inside.session) (ap (λ (x : CommandModel). x.ticket) same ∙ here.3) out))

pub returns-in-None-clause-none : goal.returns-in-None-clause-none
returns-in-None-clause-none g c = rw (← c.self.view_is) (λ no d stands wants. c.in-None.ensures (d, stands.0, wants))
