use Rattle.std.proofs.Common.{◌≡◌, ◌+◌, refl, [], ◌∷◌, arith, rules, length}
use Rattle.proxy_turns.proofs.Lifting.{leaves_too}
use Rattle.proxy_turns.proofs.kept_ports.give_back.Goals as goal

pub returns : goal.returns
returns g c = c.loop-port.invariant.1 [] _ (c.in_default.ensures.takes.0, refl)

pub loop-port-preserved : goal.loop-port-preserved
loop-port-preserved g c =
    let pushed : length c.push_reserved.new.self.items ≡ length c.loop-port.ports.items + 1 = search rules in
    let left = c.in-Some.ensures.takes in (
      rw c.push_reserved.ensures.capacity (omega (arith, pushed, c.in-Some.ensures.len, c.loop-port.invariant.0)),
      λ numbers all given. c.loop-port.invariant.1 (left.0 ∷ numbers) all
          (leaves_too _ _ _ _ left.0 left.1 c.in-Some.port numbers all left.2 left.3 left.4 c.push_reserved.ensures.items given),
    )
