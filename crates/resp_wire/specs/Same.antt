-- When two values are the same.
-- `==` of values makes this test. It answers true exactly for equal data (Laws.antt, `SameValues`).
use Rattle.std.specs.Prelude.{◌≡◌, ◌&&◌, ℕ, ℤ, Bool, true, false, List, [], refl, nat_eq, pos}
use Rattle.std.specs.Bool.{Decides}
use Rattle.std.specs.Ordering.{int_eq}
use Rattle.std.specs.Cmp.{IsEquivalence, decided, signed_Decides, unsigned_Decides}
use Rattle.std.specs.Cmp.Lexicographic.{pointwise, pointwise_decides}
use Rattle.std.proofs.Common.{ap, sym, ◌∙◌, eqb, eq-eqb, arith}
use Rattle.std.proofs.lemmas.Bool.{false≢true}
use Rattle.resp_wire.specs.Data.{Data, Items, simple, error, integer, bulk, null_bulk, array, null_array, no_items, item, items_of}
use Rattle.resp_wire.specs.Seen.{data_of}
use Rattle.resp_wire.specs.declared.value.Value.{Value}

-- the same kind, and the same text, number, bytes or items
abbrev mutual
  pub same_data : Data → Data → Bool
  same_data (simple t) (simple u) = pointwise nat_eq t u
  same_data (error t) (error u) = pointwise nat_eq t u
  same_data (integer t) (integer u) = int_eq t u
  same_data (bulk t) (bulk u) = pointwise nat_eq t u
  same_data null_bulk null_bulk = true
  same_data (array ds) (array es) = same_items ds es
  same_data null_array null_array = true
  same_data x y = false

  pub same_items : Items → Items → Bool
  same_items no_items no_items = true
  same_items (item d ds) (item e es) = same_data d e && same_items ds es
  same_items x y = false

-- ---- this test tells values apart

abbrev kind : Data → ℕ
kind (simple t) = 0
kind (error t) = 1
kind (integer z) = 2
kind (bulk b) = 3
kind null_bulk = 4
kind (array ds) = 5
kind null_array = 6

bytes_decide : (t u : List ℕ) → Decides (pointwise nat_eq t u) (t ≡ u)
bytes_decide = pointwise_decides unsigned_Decides

-- values of two kinds
apart : (x y : Data) → same_data x y ≡ false → eqb (kind x) (kind y) ≡ false → Decides (same_data x y) (x ≡ y)
apart x y same other = (
  (λ e. absurd (false≢true (sym same ∙ e))),
  (λ e. absurd (false≢true (sym other ∙ eq-eqb (kind x) (kind y) (ap kind e)))),
)

both : (a b : Bool) → (a && b) ≡ true → (a ≡ true) × (b ≡ true)
both true true e = (refl, refl)
both true false e = absurd (false≢true e)
both false b e = absurd (false≢true e)

-- a payload of one kind, which its constructor keeps apart
of : {A : Type 0} (make : A → Data) (back : Data → A) → ((x : A) → back (make x) ≡ x) → (test : Bool) (t u : A) → Decides test (t ≡ u) → Decides test (make t ≡ make u)
of make back is test t u d = (
  (λ e. ap make (d.0 e)),
  (λ e. d.1 (sym (is t) ∙ ap back e ∙ is u)),
)

abbrev text_of : Data → List ℕ
text_of (simple t) = t
text_of (error t) = t
text_of (integer z) = []
text_of (bulk b) = b
text_of null_bulk = []
text_of (array ds) = []
text_of null_array = []

abbrev number_of : Data → ℤ
number_of (simple t) = pos 0
number_of (error t) = pos 0
number_of (integer z) = z
number_of (bulk b) = pos 0
number_of null_bulk = pos 0
number_of (array ds) = pos 0
number_of null_array = pos 0

abbrev all_of : Data → Items
all_of (simple t) = no_items
all_of (error t) = no_items
all_of (integer z) = no_items
all_of (bulk b) = no_items
all_of null_bulk = no_items
all_of (array ds) = ds
all_of null_array = no_items

abbrev first_of : Data → Items → Data
first_of d no_items = d
first_of d (item e es) = e

abbrev rest_of : Items → Items
rest_of no_items = no_items
rest_of (item e es) = es

abbrev count : Items → ℕ
count no_items = 0
count (item e es) = 1

mutual
  pub tells : (x y : Data) → Decides (same_data x y) (x ≡ y)
  tells (simple t) (simple u) = of simple text_of (λ _. refl) (pointwise nat_eq t u) t u (bytes_decide t u)
  tells (error t) (error u) = of error text_of (λ _. refl) (pointwise nat_eq t u) t u (bytes_decide t u)
  tells (integer t) (integer u) = of integer number_of (λ _. refl) (int_eq t u) t u (signed_Decides t u)
  tells (bulk t) (bulk u) = of bulk text_of (λ _. refl) (pointwise nat_eq t u) t u (bytes_decide t u)
  tells null_bulk null_bulk = (λ e. refl, λ e. refl)
  tells (array ds) (array es) = of array all_of (λ _. refl) (same_items ds es) ds es (tells_items ds es)
  tells null_array null_array = (λ e. refl, λ e. refl)
  tells x y = apart x y refl refl

  pub tells_items : (x y : Items) → Decides (same_items x y) (x ≡ y)
  tells_items no_items no_items = (λ e. refl, λ e. refl)
  tells_items (item d ds) (item e es) = (
    (λ h. let p = both (same_data d e) (same_items ds es) h in let q = (tells d e).0 p.0 in let r = (tells_items ds es).0 p.1 in λ i. item (q i) (r i)),
    (λ h. rw ((tells d e).1 (ap (first_of d) h), (tells_items ds es).1 (ap rest_of h)) refl),
  )
  tells_items no_items (item e es) = ((λ h. absurd (false≢true h)), (λ h. absurd (let k = ap count h in omega arith)))
  tells_items (item d ds) no_items = ((λ h. absurd (false≢true h)), (λ h. absurd (let k = ap count h in omega arith)))

-- ---- the laws of `==`

abbrev pub same_value : Value → Value → Bool
same_value a b = same_data (data_of a) (data_of b)

pub value_equiv : IsEquivalence same_value
value_equiv =
    let laws = decided same_data tells in
    record { refl = λ x. laws.refl (data_of x); symm = λ x y. laws.symm (data_of x) (data_of y); congr = λ x y z. laws.congr (data_of x) (data_of y) (data_of z) }

abbrev pub same_list : List Data → List Data → Bool
same_list a b = same_items (items_of a) (items_of b)

pub list_equiv : IsEquivalence same_list
list_equiv =
    let laws = decided same_items tells_items in
    record { refl = λ x. laws.refl (items_of x); symm = λ x y. laws.symm (items_of x) (items_of y); congr = λ x y z. laws.congr (items_of x) (items_of y) (items_of z) }
