use Rattle.proxy_turns.proofs.client_table.ClientTable.wake.Goals as goal

pub returns-in-Some-clause-others : goal.returns-in-Some-clause-others
returns-in-Some-clause-others g c = rw (← c.self.view_is) (λ place marked. c.wake.ensures.others place marked)
