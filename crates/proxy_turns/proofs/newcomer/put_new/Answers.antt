use Rattle.std.proofs.Common.{◌∙◌, sym, refl, subst, inl, inr, []}
use Rattle.std.proofs.lemmas.Bool.{false≢true}
use Rattle.proxy_turns.proofs.newcomer.put_new.Goals as goal

pub returns-then-not-may_come-clause-puts : goal.returns-then-not-may_come-clause-puts
returns-then-not-may_come-clause-puts g c =
    inr (c.closed.result, (λ new. false≢true (sym c.if-not-may_come.true ∙ c.may_come.ensures.1 new)), subst (λ port. g.C.ClientPort.moves.between port [] [] [] c.closed.result) c.into_port.ensures c.closed.ensures, refl, c.keep_port.ensures.ports, refl)

pub returns-clause-puts : goal.returns-clause-puts
returns-clause-puts g c = inl (c.may_come.ensures.0 c.if-not-may_come.false, c.put.ensures.puts, refl, refl)

pub put-requires-clause-new : goal.put-requires-clause-new
put-requires-clause-new g c = (c.may_come.ensures.0 c.if-not-may_come.false).1.1
