-- Writing the items of an array one after another.
use Rattle.std.proofs.Common.{◌≡◌, ℕ, zero, suc, ◌+◌, ◌<◌, ◌≤◌, List, [], ◌∷◌, ◌++◌, length, map, drop, get_or, refl, sym, ap, ◌∙◌, arith, append_assoc, Result, Ok, Err}
use Rattle.std.specs.Prelude.{OnOk}
use Rattle.std.proofs.lemmas.List.{length-map}
use Rattle.resp_wire.specs.Data.{Data, items_of, array}
use Rattle.resp_wire.specs.Spelling.{count_of, star}
use Rattle.resp_wire.specs.Seen.{data_of, height, size_of}
use Rattle.resp_wire.specs.Gives.{Grows}
use Rattle.resp_wire.specs.Canonical.{canonical, canonical_all, line}
use Rattle.std.specs.Fmt.{decimal}
use Rattle.resp_wire.specs.declared.value.Value.{Value}

pub height_at : (vs : List Value) (i : ℕ) (d : Value) → i < length vs → height (data_of (get_or vs i d)) ≤ size_of (map data_of vs)
height_at [] i d h = absurd (omega arith)
height_at (v ∷ vs) zero d h = omega arith
height_at (v ∷ vs) (suc i) d h = omega (arith, height_at vs i d (omega arith))

pub canonical_more : (vs : List Value) (i : ℕ) (d : Value) → i < length vs → canonical_all (items_of (map data_of (drop i vs))) ≡ canonical (data_of (get_or vs i d)) ++ canonical_all (items_of (map data_of (drop (i + 1) vs)))
canonical_more [] i d h = absurd (omega arith)
canonical_more (v ∷ vs) zero d h = refl
canonical_more (v ∷ vs) (suc i) d h =
    let next : suc i + 1 ≡ suc (i + 1) = omega arith in
    rw next (canonical_more vs i d (omega arith))

pub counts : (ds : List Data) → count_of (items_of ds) ≡ length ds
counts [] = refl
counts (d ∷ ds) = ap suc (counts ds)

pub written : {X E : Type 0} (r : Result X E) (old mid new : List ℕ) (n : ℕ) (ds : List Data) → n ≡ length ds → mid ≡ old ++ line star (decimal n) [] → OnOk r (new ≡ mid ++ canonical_all (items_of ds)) → OnOk r (new ≡ old ++ canonical (array (items_of ds)))
written (Ok x) old mid new n ds e f h =
    h ∙ ap (λ (u : List ℕ). u ++ canonical_all (items_of ds)) f ∙ append_assoc old (line star (decimal n) []) (canonical_all (items_of ds))
    ∙ ap (λ (u : List ℕ). old ++ star ∷ u) (append_assoc (decimal n) (13 ∷ 10 ∷ []) (canonical_all (items_of ds)) ∙ ap (λ (k : ℕ). decimal k ++ 13 ∷ 10 ∷ canonical_all (items_of ds)) (e ∙ sym (counts ds)))
written (Err x) old mid new n ds e f h = tt

pub mapped_length : (vs : List Value) (ds : List Data) → map data_of vs ≡ ds → length vs ≡ length ds
mapped_length vs ds e = sym (length-map vs data_of) ∙ ap length e

pub grows_then : (old mid new : List ℕ) → Grows old mid → Grows mid new → Grows old new
grows_then old mid new g h = (g.0 ++ h.0, h.1 ∙ ap (λ (u : List ℕ). u ++ h.0) g.1 ∙ append_assoc old g.0 h.0)
