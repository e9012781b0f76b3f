use Rattle.std.proofs.Common.{◌≡◌, ◌∙◌, ap, inl, inr, sym, refl, None, Some}
use Rattle.std.specs.List.{list_any, position}
use Rattle.std.proofs.lemmas.Option.{get_or_from_slice_get}
use Rattle.proxy_turns.specs.Backend.{has_open_link, is_unanswered}
use Rattle.proxy_turns.specs.CarrierModel.{carrier_model}
use Rattle.proxy_turns.proofs.Seeking.{first_passes, found, none_passes, sought_by_dial}
use Rattle.proxy_turns.proofs.carrier.Carrier+H+Publisher+J+R+D+P.seek.Goals as goal

pub returns-then-any_unanswered : goal.returns-then-any_unanswered
returns-then-any_unanswered g c =
    let answer : c.any_unanswered.result ≡ list_any is_unanswered c.args.self.now.backends.items = c.any_unanswered.ensures ∙ ap (list_any is_unanswered) c.deref.ensures.value in
    (refl, inl (sym answer ∙ c.if-any_unanswered.true))

pub returns-then-not-seeks : goal.returns-then-not-seeks
returns-then-not-seeks g c = ((λ i. record (carrier_model g.D.Dial.failures c.args.self.now) { failures = c.seeks.ensures.failures i }), inr (c.seeks.ensures.calm c.if-not-seeks.true))

pub returns-in-Some : goal.returns-in-Some
returns-in-Some g c =
    let backends = c.args.self.now.backends.items in
    let answer : c.any_unanswered.result ≡ list_any is_unanswered backends = c.any_unanswered.ensures ∙ ap (list_any is_unanswered) c.deref.ensures.value in
    let first : Some c.in-Some.at ≡ position has_open_link backends = sym c.in-Some.is ∙ c.first_open.ensures ∙ ap (position has_open_link) c.deref-2.ensures.value in
    let passes = first_passes has_open_link backends c.in-Some.at first in
    found g.P.NodePort.calls g.D.Dial.opens g.P.RunPort.longest (g.D.Dial.is_calm c.seeks.new.self) (carrier_model g.D.Dial.failures c.args.self.now) c.in-Some.at passes.0 c.index_mut.result.now (g.D.Dial.failures c.seeks.new.self) _
    passes.1 passes.2 (sym answer ∙ c.if-any_unanswered.false) (c.index_mut.ensures.value ∙ get_or_from_slice_get backends c.in-Some.at passes.0 c.index_mut.result.now passes.1) c.seeks.ensures.failures refl

pub returns-in-None : goal.returns-in-None
returns-in-None g c =
    let backends = c.args.self.now.backends.items in
    let first : None ≡ position has_open_link backends = sym c.in-None.is ∙ c.first_open.ensures ∙ ap (position has_open_link) c.deref-2.ensures.value in
    sought_by_dial g.P.NodePort.calls g.D.Dial.opens g.P.RunPort.longest (g.D.Dial.is_calm c.dial_next.new.self.dial) (carrier_model g.D.Dial.failures c.args.self.now) _ c.dial_next.result (carrier_model g.D.Dial.failures c.dial_next.new.self)
    (λ i. record (carrier_model g.D.Dial.failures c.args.self.now) { failures = c.seeks.ensures.failures i }) (none_passes has_open_link backends first) c.dial_next.ensures

pub dial_next-requires : goal.dial_next-requires
dial_next-requires g c =
    let backends = c.args.self.now.backends.items in
    let first : None ≡ position has_open_link backends = sym c.in-None.is ∙ c.first_open.ensures ∙ ap (position has_open_link) c.deref-2.ensures.value in
    record { closed = none_passes has_open_link backends first }
