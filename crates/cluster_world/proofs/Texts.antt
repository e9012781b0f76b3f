-- Pieces of a text, one after another.
use Rattle.std.proofs.Common.{◌≡◌, ℕ, zero, suc, ◌+◌, ◌<◌, ◌≤◌, List, [], ◌∷◌, ◌++◌, Result, Ok, Err, length, take, drop, map, get_or, sym, ap, ◌∙◌, arith, append_assoc}
use Rattle.std.proofs.lemmas.List.{append-nil}
use Rattle.std.proofs.Math.Seq.{drop-nil}
use Rattle.std.specs.Prelude.{OnOk, if◌then◌else◌}
use Rattle.std.specs.List.{flat_map}
use Rattle.std.specs.Result.{is_ok}
use Rattle.resp_wire.specs.Data.{items_of}
use Rattle.resp_wire.specs.Seen.{data_of, height, size_of}
use Rattle.resp_wire.specs.declared.value.Value.{Value}
use Rattle.cluster_world.specs.Cuts.{Grows}
use Rattle.cluster_world.specs.Report.{bar, texts_of, value_text}

pub height_at : (vs : List Value) (i : ℕ) (d : Value) → i < length vs → height (data_of (get_or vs i d)) ≤ size_of (map data_of vs)
height_at [] i d h = absurd (omega arith)
height_at (v ∷ vs) zero d h = omega arith
height_at (v ∷ vs) (suc i) d h = omega (arith, height_at vs i d (omega arith))

-- the texts of items, a bar before each
abbrev pub barred : List Value → List ℕ
barred vs = flat_map (λ text. bar ++ text) (texts_of (items_of (map data_of vs)))

-- one more item of a list has its piece at the end
piece-more : {X : Type 0} (f : X → List ℕ) (xs : List X) (i : ℕ) (x : X) → i < length xs → x ≡ get_or xs i x → flat_map f (take (i + 1) xs) ≡ flat_map f (take i xs) ++ f x
piece-more f [] i x lt at = absurd (omega (arith, lt))
piece-more f (y ∷ ys) zero x lt at = append-nil (f y) ∙ ap f (sym at)
piece-more f (y ∷ ys) (suc i) x lt at =
    let same : suc i + 1 ≡ suc (i + 1) = omega arith in
    ap (λ n. flat_map f (take n (y ∷ ys))) same ∙ ap (λ text. f y ++ text) (piece-more f ys i x (omega (arith, lt)) at) ∙ sym (append_assoc (f y) (flat_map f (take i ys)) (f x))

pub text-more : {X : Type 0} (f : X → List ℕ) (xs : List X) (i : ℕ) (x : X) (old so_far new : List ℕ) → i < length xs → x ≡ get_or xs i x → so_far ≡ old ++ flat_map f (take i xs)
    → new ≡ so_far ++ f x → new ≡ old ++ flat_map f (take (i + 1) xs)
text-more f xs i x old so_far new lt at before added =
    added ∙ ap (λ text. text ++ f x) before ∙ append_assoc old (flat_map f (take i xs)) (f x) ∙ ap (λ text. old ++ text) (sym (piece-more f xs i x lt at))

-- two pieces, one after the other

pub grows-on : (a b c : List ℕ) → Grows a b → Grows b c → Grows a c
grows-on a b c (x, e) (y, f) = (x ++ y, f ∙ ap (λ text. text ++ y) e ∙ append_assoc a x y)

pub two-ok : {U E : Type 0} (r : Result U E) (old mid new x y : List ℕ) → mid ≡ old ++ x → new ≡ (if is_ok r then mid ++ y else mid) → OnOk r (new ≡ old ++ (x ++ y))
two-ok (Ok u) old mid new x y e f = f ∙ ap (λ text. text ++ y) e ∙ append_assoc old x y
two-ok (Err fault) old mid new x y e f = tt

pub two-grow : {U E : Type 0} (r : Result U E) (old mid new x y : List ℕ) → mid ≡ old ++ x → new ≡ (if is_ok r then mid ++ y else mid) → Grows old new
two-grow (Ok u) old mid new x y e f = (x ++ y, f ∙ ap (λ text. text ++ y) e ∙ append_assoc old x y)
two-grow (Err fault) old mid new x y e f = (x, f ∙ e)

pub whole-on : {U E : Type 0} (r : Result U E) (old mid new x y whole : List ℕ) → mid ≡ old ++ x → OnOk r (new ≡ mid ++ y) → x ++ y ≡ whole → OnOk r (new ≡ old ++ whole)
whole-on (Ok u) old mid new x y whole e f same = f ∙ ap (λ text. text ++ y) e ∙ append_assoc old x y ∙ ap (λ text. old ++ text) same
whole-on (Err fault) old mid new x y whole e f same = tt

-- one more item, and then none

barred-next : (vs : List Value) (i : ℕ) (d : Value) → i < length vs → d ≡ get_or vs i d → barred (drop i vs) ≡ (bar ++ value_text (data_of d)) ++ barred (drop (i + 1) vs)
barred-next [] i d lt at = absurd (omega (arith, lt))
barred-next (v ∷ vs) zero d lt at = ap (λ (x : Value). (bar ++ value_text (data_of x)) ++ barred vs) (sym at)
barred-next (v ∷ vs) (suc i) d lt at =
    let same : suc i + 1 ≡ suc (i + 1) = omega arith in
    barred-next vs i d (omega (arith, lt)) at ∙ ap (λ n. (bar ++ value_text (data_of d)) ++ barred (drop n (v ∷ vs))) (sym same)

pub barred-on : (vs : List Value) (i : ℕ) (d : Value) (out mid new whole : List ℕ) → i < length vs → d ≡ get_or vs i d → out ++ barred (drop i vs) ≡ whole → mid ≡ out ++ bar
    → new ≡ mid ++ value_text (data_of d) → new ++ barred (drop (i + 1) vs) ≡ whole
barred-on vs i d out mid new whole lt at before first second =
    let text = value_text (data_of d) in
    let rest = barred (drop (i + 1) vs) in
    ap (λ x. x ++ rest) (second ∙ ap (λ x. x ++ text) first ∙ append_assoc out bar text) ∙ append_assoc out (bar ++ text) rest ∙ ap (λ x. out ++ x) (sym (barred-next vs i d lt at)) ∙ before

dropped : (vs : List Value) (i : ℕ) → length vs ≤ i → drop i vs ≡ []
dropped [] i le = drop-nil i
dropped (v ∷ vs) zero le = absurd (omega (arith, le))
dropped (v ∷ vs) (suc i) le = dropped vs i (omega (arith, le))

pub barred-end : (vs : List Value) (i : ℕ) (out whole : List ℕ) → length vs ≤ i → out ++ barred (drop i vs) ≡ whole → out ≡ whole
barred-end vs i out whole le e = sym (append-nil out) ∙ ap (λ xs. out ++ barred xs) (sym (dropped vs i le)) ∙ e
