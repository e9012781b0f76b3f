use Rattle.std.proofs.Common.{◌≡◌, ◌∙◌, ◌∷◌, ap, drop, inl, inr, refl, sym}
use Rattle.std.proofs.lemmas.Result.{err_from_is_err_and}
use Rattle.std.proofs.lemmas.Bool.{false≢true}
use Rattle.proxy_turns.specs.WorkerModel.{clients_in, settles}
use Rattle.proxy_turns.specs.DueCommands.{IsToSettleAt}
use Rattle.proxy_turns.proofs.Lifting.{all_err, all_then, stays_all}
use Rattle.proxy_turns.proofs.Noting.{due_dropped, held_full, left_none}
use Rattle.proxy_turns.proofs.Settling.{shorter}
use Rattle.proxy_turns.proofs.worker_state.WorkerState.post_due.Goals as goal

pub loop-ticket-init : goal.loop-ticket-init
loop-ticket-init g c = record { goes = stays_all g.C.ClientPort.moves settles _ _ refl; ended = refl; paused = refl }

pub returns-in_err-settled-clause-settles : goal.returns-in_err-settled-clause-settles
returns-in_err-settled-clause-settles g c =
    let is = (err_from_is_err_and c.from_residual.result c.from_residual.ensures.1).1 in
    all_err g.C.ClientPort.moves settles _ _ _ _ _ _ _ c.loop-ticket.invariant.goes c.in_err-settled.ensures.settles is

pub returns-then-is_held-clause-settles : goal.returns-then-is_held-clause-settles
returns-then-is_held-clause-settles g c = all_then g.C.ClientPort.moves settles _ _ _ _ _ c.loop-ticket.invariant.goes (rw (← c.is_move-moved.ensures) at c.in_ok-settled.ensures.settles)

pub returns-in_err-settled-clause-ended : goal.returns-in_err-settled-clause-ended
returns-in_err-settled-clause-ended g c = ap (λ d. d.ended) c.post_one.ensures.due ∙ c.loop-ticket.invariant.ended

pub returns-then-is_held-clause-ended : goal.returns-then-is_held-clause-ended
returns-then-is_held-clause-ended g c = ap (λ d. d.ended) c.post_one.ensures.due ∙ c.loop-ticket.invariant.ended

pub returns-in_err-settled-clause-paused : goal.returns-in_err-settled-clause-paused
returns-in_err-settled-clause-paused g c = ap (λ d. d.paused) c.post_one.ensures.due ∙ c.loop-ticket.invariant.paused

pub returns-then-is_held-clause-paused : goal.returns-then-is_held-clause-paused
returns-then-is_held-clause-paused g c = ap (λ d. d.paused) c.post_one.ensures.due ∙ c.loop-ticket.invariant.paused

pub returns-clause-paused : goal.returns-clause-paused
returns-clause-paused g c = c.loop-ticket.invariant.paused

pub returns-then-is_held-clause-none : goal.returns-then-is_held-clause-none
returns-then-is_held-clause-none g c = inr (held_full c.in_ok-settled.settled _ c.post_one.new.self.uplink.outlet (c.is_held.ensures.0 c.if-is_held.true) c.in_ok-settled.ensures.settled)

pub invariant_of-self : goal.invariant_of-self
invariant_of-self g c =
    let ticket = c.in-Some.ticket in
    let clients = clients_in c.post_one.new.self.clients.entries in
    let first : c.post_one.new.self.due.due.items ≡ ticket ∷ c.in-Some.ensures.0 = ap (λ d. d.due.items) c.post_one.ensures.due ∙ c.in-Some.ensures.1 in
    record {
      ports_fit = c.post_one.new.self.ports_fit;
      due_known = due_dropped clients c.post_one.new.self.due c.drop_due.new.self ticket c.in-Some.ensures.0 first c.drop_due.ensures.due c.drop_due.ensures.kept
          (left_none c.in_ok-settled.settled (IsToSettleAt clients ticket.client ticket.part) c.post_one.new.self.uplink.outlet (λ held. false≢true (sym c.if-is_held.false ∙ c.is_held.ensures.1 held)) c.in_ok-settled.ensures.settled)
          c.post_one.new.self.due_known;
    }

pub loop-ticket-smaller : goal.loop-ticket-smaller
loop-ticket-smaller g c =
    shorter c.loop-ticket.self.due.due.items c.drop_due.new.self.due.items c.in-Some.ticket c.in-Some.ensures.0 c.in-Some.ensures.1 (c.drop_due.ensures.due ∙ ap (λ d. drop 1 d.due.items) c.post_one.ensures.due)

pub loop-ticket-preserved : goal.loop-ticket-preserved
loop-ticket-preserved g c = record {
  goes = all_then g.C.ClientPort.moves settles _ _ _ _ _ c.loop-ticket.invariant.goes (rw (← c.is_move-moved.ensures) at c.in_ok-settled.ensures.settles);
  ended = c.drop_due.ensures.kept.0 ∙ ap (λ d. d.ended) c.post_one.ensures.due ∙ c.loop-ticket.invariant.ended;
  paused = c.drop_due.ensures.kept.1 ∙ ap (λ d. d.paused) c.post_one.ensures.due ∙ c.loop-ticket.invariant.paused;
}

pub returns-clause-settles : goal.returns-clause-settles
returns-clause-settles g c = c.loop-ticket.invariant.goes

pub returns-clause-ended : goal.returns-clause-ended
returns-clause-ended g c = c.loop-ticket.invariant.ended

pub returns-clause-none : goal.returns-clause-none
returns-clause-none g c = inl c.in_default.ensures
