use Rattle.std.proofs.Common.{None, Some}
use Rattle.proxy_turns.specs.Pause.{pause_at}
use Rattle.proxy_turns.proofs.Noting.{pause_noted}
use Rattle.proxy_turns.proofs.worker_state.note_step.Goals as goal

pub returns-in-Rest-clause-noted : goal.returns-in-Rest-clause-noted
returns-in-Rest-clause-noted g c = λ d stands. absurd ((rw c.in-Rest.is at c.next_step.ensures) d stands)

pub returns-in-Rest-clause-until : goal.returns-in-Rest-clause-until
returns-in-Rest-clause-until g c = λ d stands. absurd ((rw c.in-Rest.is at c.next_step.ensures) d stands)

pub returns-in-End-clause-until : goal.returns-in-End-clause-until
returns-in-End-clause-until g c = λ d stands.
    pause_noted (g.G.Gate.tells c.args.gate.now) c.args.due.now c.note.new.self c.args.ticket None (pause_at d.stage d.followed) ((rw c.in-End.is at c.next_step.ensures) d stands) tt

pub returns-in-Post-clause-until : goal.returns-in-Post-clause-until
returns-in-Post-clause-until g c = λ d stands.
    pause_noted (g.G.Gate.tells c.args.gate.now) c.args.due.now c.note-in-Post.new.self c.args.ticket (Some c.in-Post.pause) (pause_at d.stage d.followed) ((rw c.in-Post.is at c.next_step.ensures) d stands) c.note-in-Post.ensures.until
