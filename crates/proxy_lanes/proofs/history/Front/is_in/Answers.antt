use Rattle.std.proofs.Common.{◌≡◌, ◌≢◌, Bool, true, false, List, length, ap, subst, arith, refl}
use Rattle.std.proofs.lemmas.Bool.Decides.{nat_tests}
use Rattle.std.specs.Prelude.{MatchBool}
use mathlib.Core.List.{IsPrefix}
use lib.Dec.{leb}
use Rattle.slot_map.specs.declared.ops.MapOp.{MapOp}
use Rattle.proxy_lanes.proofs.Beginnings.{shorter_begins}
use Rattle.proxy_lanes.proofs.history.Front.is_in.Goals as goal

-- of two beginnings of one list, by their lengths
one_begins : (xs ys both : List MapOp) → IsPrefix xs both → IsPrefix ys both → (short : Bool) → leb (length xs) (length ys) ≡ short
    → MatchBool short (IsPrefix xs ys) (IsPrefix ys xs × (length xs ≢ length ys))
one_begins xs ys both p q true is = shorter_begins xs ys both p q (grind (arith, nat_tests))
one_begins xs ys both p q false is = (shorter_begins ys xs both q p (grind (arith, nat_tests)), grind (arith, nat_tests))

pub returns : goal.returns
returns g c =
    let both = c.learn.new.self.log in
    let this : IsPrefix c.self.inside.seen.log both = subst (λ (l : List MapOp). IsPrefix l both) (ap (λ s. s.log) c.again-both.ensures) c.learn.ensures.2 in
    rw (c.self.invariant.0, c.other.invariant.0, ← c.self.view_is, ← c.other.view_is)
    (one_begins c.self.inside.seen.log c.other.inside.seen.log both this c.learn.ensures.3 (leb (length c.self.inside.seen.log) (length c.other.inside.seen.log)) refl)
