use Rattle.std.proofs.Common.{◌≡◌, ◌≤◌, ◌+◌, ◌*◌, ◌-◌, ℕ, drop}
use Rattle.std.specs.Prelude.{fold}
use Rattle.node_link.specs.Line.{digits_value}
use Rattle.node_link.proofs.redirect.digits_value.Given as goal

-- the value so far and the digits that are left give the value
abbrev pub invariant-loop-byte : goal.invariant-loop-byte
invariant-loop-byte l = record {
  value : fold (λ (n b : ℕ). 10 * n + (b - 48)) l.value (drop l.byte-index l.text) ≡ digits_value l.text;
  none : l.byte-index ≤ 0 → l.value ≤ 0;
  one : l.byte-index ≤ 1 → l.value ≤ 207;
  two : l.byte-index ≤ 2 → l.value ≤ 2277;
  three : l.byte-index ≤ 3 → l.value ≤ 22977;
  four : l.byte-index ≤ 4 → l.value ≤ 229977;
}
