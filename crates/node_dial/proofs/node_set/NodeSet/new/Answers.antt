use Rattle.std.proofs.Common.{◌≡◌, ℕ, zero, suc, refl}
use Rattle.std.specs.Prelude.{false, replicate, slice_get, unwrap_or}
use Rattle.node_dial.proofs.node_set.NodeSet.new.Goals as goal

none_of : (count node : ℕ) → unwrap_or (slice_get (replicate count false) node) false ≡ false
none_of zero zero = refl
none_of zero (suc node) = refl
none_of (suc count) zero = refl
none_of (suc count) (suc node) = none_of count node

pub returns : goal.returns
returns c = λ node. none_of 64 node
