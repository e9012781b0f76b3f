-- The pause after a failed dial doubles five times, and is the longest from then on.
use Rattle.std.proofs.Common.{arith, ◌≡◌, ◌≤◌, ◌<◌, ℕ, ◌*◌, ◌%◌, sym}
use Rattle.std.specs.Prelude.{◌^◌}
use Rattle.std.proofs.Math.Nat.{min-eq_left}
use Rattle.std.proofs.Math.Pow.{pow_mono}
use Rattle.node_dial.specs.DialPause.{pause_millis}

-- after five doublings it is the longest
pub longest : (earlier : ℕ) → 5 ≤ earlier → 1000 ≡ pause_millis earlier
longest earlier late =
    let doubled : 2 ^ 5 ≤ 2 ^ earlier = pow_mono late in
    let long : 1000 ≤ 50 * 2 ^ earlier = omega (arith, doubled) in
    sym (min-eq_left long)

-- before that it is what a shift makes
pub shifted : (earlier : ℕ) → earlier < 5 → 50 * 2 ^ earlier % 2 ^ 64 ≡ pause_millis earlier
shifted earlier early =
    let few : earlier ≤ 4 = omega (arith, early) in
    let doubled : 2 ^ earlier ≤ 2 ^ 4 = pow_mono few in
    omega (arith, doubled)
