-- A text with neither CR nor LF in it, byte by byte.
use Rattle.std.proofs.Common.{◌≡◌, ◌≢◌, ℕ, Bool, true, false, ◌&&◌, IsTrue, List, ◌∷◌, refl}
use Rattle.std.proofs.lemmas.Bool.{ne_eqb, false≢true}
use Rattle.resp_wire.specs.Text.{is_one_line}

pub and_both : (a b : Bool) → (a && b) ≡ true → (a ≡ true) × (b ≡ true)
and_both true true e = (refl, refl)
and_both true false e = absurd (false≢true e)
and_both false b e = absurd (false≢true e)

pub plain_head : (b : ℕ) (t : List ℕ) → IsTrue (is_one_line (b ∷ t)) → (b ≢ 13) × (b ≢ 10)
plain_head b t p =
    let h = (and_both _ (is_one_line t) p).0 in
    ((λ e. false≢true (rw e at h)), (λ e. false≢true (rw e at h)))

pub plain_tail : (b : ℕ) (t : List ℕ) → IsTrue (is_one_line (b ∷ t)) → IsTrue (is_one_line t)
plain_tail b t p = (and_both _ (is_one_line t) p).1

pub plain_more : (b : ℕ) (t : List ℕ) → (b ≢ 13) × (b ≢ 10) → IsTrue (is_one_line t) → IsTrue (is_one_line (b ∷ t))
plain_more b t h p = rw (ne_eqb b 13 h.0, ne_eqb b 10 h.1, p) refl
