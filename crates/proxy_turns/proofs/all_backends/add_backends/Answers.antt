use Rattle.std.proofs.Common.{◌∙◌, ◌++◌, ◌∷◌, [], suc, arith, ap, length, length-append, refl}
use Rattle.proxy_turns.proofs.all_backends.add_backends.Goals as goal

pub loop-next-init : goal.loop-next-init
loop-next-init g c = record { grows = (0, refl); count = omega (arith, c.len-next.ensures) }

pub loop-next-preserved : goal.loop-next-preserved
loop-next-preserved g c = record {
  grows = (suc c.loop-next.invariant.grows.0, c.in_ok-push.ensures.items ∙ (λ i. c.loop-next.invariant.grows.1 i ++ c.new.ensures i ∷ []));
  count = omega (arith, c.loop-next.invariant.count, ap length c.in_ok-push.ensures.items, length-append c.loop-next.backends.items (c.new.result ∷ []));
}

pub returns-in_err-push-clause-added : goal.returns-in_err-push-clause-added
returns-in_err-push-clause-added g c = (c.loop-next.invariant.grows.0, c.in_err-push.ensures.items ∙ c.loop-next.invariant.grows.1)
