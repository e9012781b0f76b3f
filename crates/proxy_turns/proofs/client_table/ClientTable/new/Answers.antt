use Rattle.proxy_turns.proofs.client_table.ClientTable.new.Goals as goal

pub invariant_of-result : goal.invariant_of-result
invariant_of-result g c = λ place marked. absurd (c.new-2.ensures place marked)
