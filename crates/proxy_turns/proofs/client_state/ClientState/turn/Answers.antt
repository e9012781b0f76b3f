use Rattle.proxy_turns.proofs.ClientResting.{if_turned}
use Rattle.proxy_turns.proofs.client_state.ClientState.turn.Goals as goal

pub returns-clause-turns : goal.returns-clause-turns
returns-clause-turns g c = (c.in_ok-moved.ensures.turns, c.is_done-done.ensures)

pub returns-clause-rests : goal.returns-clause-rests
returns-clause-rests g c = if_turned c.in_ok-moved.moved c.in_ok-moved.ensures.rests

pub falls_asleep-asleep-requires-clause-pulled : goal.falls_asleep-asleep-requires-clause-pulled
falls_asleep-asleep-requires-clause-pulled g c = λ none. (if_turned c.in_ok-moved.moved c.in_ok-moved.ensures.rests none).pulled
