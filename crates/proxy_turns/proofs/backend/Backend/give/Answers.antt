use Rattle.std.proofs.Common.{◌≡◌, ◌∙◌, refl, sym, Some}
use Rattle.proxy_turns.proofs.Delivery.{gives, keeps, waits_to_publish}
use Rattle.proxy_turns.proofs.backend.Backend.give.Goals as goal

pub returns-then-is_unpublished-clause-gives : goal.returns-then-is_unpublished-clause-gives
returns-then-is_unpublished-clause-gives g c = (refl, waits_to_publish _ _ (sym c.is_unpublished.ensures ∙ c.if-is_unpublished.true))

pub returns-in-Ok-clause-gives : goal.returns-in-Ok-clause-gives
returns-in-Ok-clause-gives g c =
    let taken : c.args.self.now.pending_told ≡ Some c.in-Some.pending_told = cc in
    gives c.args.self.now c.in-Some.pending_told c.take.new.self _ _ taken (sym c.is_unpublished.ensures ∙ c.if-is_unpublished.false) c.in-Some.ensures.after c.in-Ok.ensures.lanes

pub returns-in-Err-clause-gives : goal.returns-in-Err-clause-gives
returns-in-Err-clause-gives g c =
    let taken : c.args.self.now.pending_told ≡ Some c.in-Some.pending_told = cc in
    keeps c.args.self.now c.in-Some.pending_told c.put.new.place _ _ (c.in-Err.ticket, c.in-Err.told) taken (sym c.is_unpublished.ensures ∙ c.if-is_unpublished.false) c.put.ensures c.in-Err.ensures.lanes
