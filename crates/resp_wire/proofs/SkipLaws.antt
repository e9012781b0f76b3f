-- What is passed over without being made.
use Rattle.std.proofs.Common.{◌≡◌, ◌≢◌, ℕ, ℤ, zero, suc, ◌<◌, ◌-◌, Bool, true, false, List, [], ◌∷◌, Option, Some, None, Result, Ok, Err, refl, sym, ap, subst, ◌∙◌, arith, is_some, inl, inr, cond, drop}
use Rattle.std.specs.Prelude.{option_map}
use Rattle.std.specs.Option.{option_map_or}
use Rattle.std.specs.Borrow.{Bor}
use Rattle.std.proofs.lemmas.Bool.{false≢true}
use Rattle.resp_wire.specs.Data.{Data, Items, simple, error, integer, bulk, null_bulk, array, null_array, no_items, item, list_of, items_of}
use Rattle.resp_wire.specs.LimitsModel.{LimitsModel}
use Rattle.resp_wire.specs.ReaderModel.{ReaderModel}
use Rattle.resp_wire.specs.FirstValue.{ReaderTakes, front, Whole, Partial, Faulty}
use Rattle.resp_wire.specs.Spelling.{plus, minus, colon, dollar, star, integer_in, length_in}
use Rattle.resp_wire.specs.Reading.{Reading, whole, partial, faulty, then_read, value_at, items_at, items_in, body_at, after_line, integer_at, bulk_at, array_at, counted_bulk, counted_array}
use Rattle.resp_wire.specs.Gives.{LengthIs, BodyGives}
use Rattle.resp_wire.specs.Places.{Finds}
use Rattle.resp_wire.specs.Seen.{data_of}
use Rattle.resp_wire.specs.Words.{words_of, bulks_of, is_bulk}
use Rattle.resp_wire.specs.Skipping.{HasWords, IsEmptyArray, IsNoRequest, IsAs, Skips, IsSkipped, AreBulks, IsBehindBulk}
use Rattle.resp_wire.specs.declared.skip.Skipped.{Skipped}
use Rattle.resp_wire.specs.declared.skip.Skipped.TheVariants.{Empty, Other}
use Rattle.resp_wire.specs.declared.value.Value.{Value}
use Rattle.resp_wire.specs.declared.value.Value.TheVariants as value
use Rattle.resp_wire.specs.declared.fault.WireFault.{WireFault}
use Rattle.resp_wire.proofs.Complete.{after_colon, after_dollar, after_star, items_none}
use Rattle.resp_wire.proofs.HeadLaws.{of_simple, of_error, of_bulk, of_null_bulk, of_bad_bulk, of_array, of_null_array, of_bad_array}
use Rattle.resp_wire.proofs.WordLaws.{bulk_kept, none_kept}
use Rattle.resp_wire.proofs.FrontLaws.{front_whole, whole_reads}
use Rattle.resp_wire.proofs.ReaderLaws.{input}

-- what holds of a value that is read, if one is
abbrev pub If : {A : Type 0} → (A → List ℕ → Type 0) → Reading A → Type 0
If {A} P r = (value : A) (rest : List ℕ) → r ≡ whole value rest → P value rest

pub if_same : {A : Type 0} (P : A → List ℕ → Type 0) (r s : Reading A) → r ≡ s → If P s → If P r
if_same {A} P r s e h value rest g = h value rest (sym e ∙ g)

pub if_whole : {A : Type 0} (P : A → List ℕ → Type 0) (v : A) (after : List ℕ) → P v after → If P (whole v after)
if_whole {A} P v after h value rest e =
    let same : v ≡ value = cc in
    let left : after ≡ rest = cc in
    subst (λ (w : A). P w rest) same (subst (λ (u : List ℕ). P v u) left h)

pub if_partial : {A : Type 0} (P : A → List ℕ → Type 0) (r : Reading A) → r ≡ partial → If P r
if_partial {A} P r is value rest e = absurd (let k = sym is ∙ e in cc)

pub if_faulty : {A : Type 0} (P : A → List ℕ → Type 0) (r : Reading A) (f : WireFault) → r ≡ faulty f → If P r
if_faulty {A} P r f is value rest e = absurd (let k = sym is ∙ e in cc)

if_cond : {A : Type 0} (P : A → List ℕ → Type 0) (b : Bool) (r s : Reading A) → If P r → If P s → If P (cond b r s)
if_cond {A} P true r s h k = h
if_cond {A} P false r s h k = k

if_option : {A B : Type 0} (P : A → List ℕ → Type 0) (f : B → Reading A) (o : Option B) (fault : WireFault) → ((x : B) → If P (f x)) → If P (option_map_or f o (faulty fault))
if_option {A} {B} P f None fault h = if_faulty P (faulty fault) fault refl
if_option {A} {B} P f (Some x) fault h = h x

if_read : {A B : Type 0} (P : A → List ℕ → Type 0) (r : Reading B) (f : B → A) → ((x : B) (after : List ℕ) → r ≡ whole x after → P (f x) after) → If P (then_read r (λ x after. whole (f x) after))
if_read {A} {B} P (whole x after) f h = if_whole P (f x) after (h x after refl)
if_read {A} {B} P partial f h = if_partial P partial refl
if_read {A} {B} P (faulty fault) f h = if_faulty P (faulty fault) fault refl

-- ---- a line of each kind

pub if_integer : (P : Data → List ℕ → Type 0) (l : LimitsModel) (items : ℕ → List ℕ → Reading Items) (text rest : List ℕ) → ((z : ℤ) → P (integer z) rest) → If P (after_line l items colon text rest)
unfolding integer_at
if_integer P l items text rest h = if_same P _ _ (after_colon l items text rest) (if_option P (λ z. whole (integer z) rest) (integer_in text) _ (λ z. if_whole P (integer z) rest (h z)))

pub if_counted : (P : Data → List ℕ → Type 0) (l : LimitsModel) (rest : List ℕ) (n : ℕ) → ((body after : List ℕ) → body_at n rest ≡ whole body after → P (bulk body) after) → If P (counted_bulk l rest n)
if_counted P l rest n h = if_cond P _ _ _ (if_faulty P _ _ refl) (if_read P (body_at n rest) (λ body. bulk body) h)

pub if_bulk : (P : Data → List ℕ → Type 0) (l : LimitsModel) (items : ℕ → List ℕ → Reading Items) (text rest : List ℕ) → P null_bulk rest → ((body after : List ℕ) → P (bulk body) after) → If P (after_line l items dollar text rest)
unfolding bulk_at
if_bulk P l items text rest null h =
    if_same P _ _ (after_dollar l items text rest) (if_cond P _ _ _ (if_whole P null_bulk rest null) (if_option P (counted_bulk l rest) (length_in text) _ (λ n. if_counted P l rest n (λ body after _. h body after))))

pub if_array : (P : Data → List ℕ → Type 0) (l : LimitsModel) (items : ℕ → List ℕ → Reading Items) (text rest : List ℕ) → P null_array rest → ((vs : Items) (after : List ℕ) → P (array vs) after) → If P (after_line l items star text rest)
unfolding array_at
if_array P l items text rest null h =
    if_same P _ _ (after_star l items text rest) (if_cond P _ _ _ (if_whole P null_array rest null) (if_option P (counted_array items rest) (length_in text) _ (λ n. if_read P (items n rest) (λ vs. array vs) (λ vs after _. h vs after))))

-- none of another kind is a request
pub simple_skipped : (l : LimitsModel) (items : ℕ → List ℕ → Reading Items) (text rest : List ℕ) → IsSkipped (after_line l items plus text rest) (Some Other)
simple_skipped l items text rest = if_same (λ v _. IsNoRequest v) _ _ (of_simple l items text rest) (if_whole (λ v _. IsNoRequest v) (simple text) rest (refl, λ bad. (let k : simple text ≡ null_array = bad in cc)))

pub error_skipped : (l : LimitsModel) (items : ℕ → List ℕ → Reading Items) (text rest : List ℕ) → IsSkipped (after_line l items minus text rest) (Some Other)
error_skipped l items text rest = if_same (λ v _. IsNoRequest v) _ _ (of_error l items text rest) (if_whole (λ v _. IsNoRequest v) (error text) rest (refl, λ bad. (let k : error text ≡ null_array = bad in cc)))

pub integer_skipped : (l : LimitsModel) (items : ℕ → List ℕ → Reading Items) (text rest : List ℕ) → IsSkipped (after_line l items colon text rest) (Some Other)
integer_skipped l items text rest = if_integer (λ v _. IsNoRequest v) l items text rest (λ z. (refl, λ bad. (let k : integer z ≡ null_array = bad in cc)))

pub bulk_skipped : (l : LimitsModel) (items : ℕ → List ℕ → Reading Items) (text rest : List ℕ) → IsSkipped (after_line l items dollar text rest) (Some Other)
bulk_skipped l items text rest =
    if_bulk (λ v _. IsNoRequest v) l items text rest (refl, λ bad. (let k : null_bulk ≡ null_array = bad in cc)) (λ body after. (refl, λ bad. (let k : bulk body ≡ null_array = bad in cc)))

-- nor a bulk string
pub behind_simple : (l : LimitsModel) (items : ℕ → List ℕ → Reading Items) (text rest : List ℕ) → IsBehindBulk (after_line l items plus text rest) None
behind_simple l items text rest = if_same (λ v _. is_bulk v ≡ false) _ _ (of_simple l items text rest) (if_whole (λ v _. is_bulk v ≡ false) (simple text) rest refl)

pub behind_error : (l : LimitsModel) (items : ℕ → List ℕ → Reading Items) (text rest : List ℕ) → IsBehindBulk (after_line l items minus text rest) None
behind_error l items text rest = if_same (λ v _. is_bulk v ≡ false) _ _ (of_error l items text rest) (if_whole (λ v _. is_bulk v ≡ false) (error text) rest refl)

pub behind_integer : (l : LimitsModel) (items : ℕ → List ℕ → Reading Items) (text rest : List ℕ) → IsBehindBulk (after_line l items colon text rest) None
behind_integer l items text rest = if_integer (λ v _. is_bulk v ≡ false) l items text rest (λ z. refl)

pub behind_array : (l : LimitsModel) (items : ℕ → List ℕ → Reading Items) (text rest : List ℕ) → IsBehindBulk (after_line l items star text rest) None
behind_array l items text rest = if_array (λ v _. is_bulk v ≡ false) l items text rest refl (λ vs after. refl)

pub behind_counted : (l : LimitsModel) (items : ℕ → List ℕ → Reading Items) (text rest : List ℕ) (n : ℕ) (behind : Option (Bor (List ℕ))) → LengthIs text (Ok (Some n))
    → IsBehindBulk (counted_bulk l rest n) behind → IsBehindBulk (after_line l items dollar text rest) behind
behind_counted l items text rest n behind is h value left e = h value left (sym (of_bulk l items text rest n is) ∙ e)

pub behind_null : (l : LimitsModel) (items : ℕ → List ℕ → Reading Items) (text rest : List ℕ) → LengthIs text (Ok None) → IsBehindBulk (after_line l items dollar text rest) None
behind_null l items text rest is = if_same (λ v _. is_bulk v ≡ false) _ _ (of_null_bulk l items text rest is) (if_whole (λ v _. is_bulk v ≡ false) null_bulk rest refl)

pub behind_no_length : (l : LimitsModel) (items : ℕ → List ℕ → Reading Items) (text rest : List ℕ) (fault : WireFault) → LengthIs text (Err fault) → IsBehindBulk (after_line l items dollar text rest) None
behind_no_length l items text rest fault is = if_faulty (λ v _. is_bulk v ≡ false) _ fault (of_bad_bulk l items text rest fault is)

pub line_behind : (l : LimitsModel) (room kind : ℕ) (text bytes rest : List ℕ) (behind : Option (Bor (List ℕ))) → value_at l room bytes ≡ after_line l (items_in l room) kind text rest
    → IsBehindBulk (after_line l (items_in l room) kind text rest) behind → IsBehindBulk (value_at l room bytes) behind
line_behind l room kind text bytes rest behind is h value left e = h value left (sym is ∙ e)

pub line_skipped : (l : LimitsModel) (kind : ℕ) (text bytes rest : List ℕ) (skipped : Option Skipped) → value_at l l.depth bytes ≡ after_line l (items_in l l.depth) kind text rest
    → IsSkipped (after_line l (items_in l l.depth) kind text rest) skipped → IsSkipped (value_at l l.depth bytes) skipped
line_skipped l kind text bytes rest skipped is h value left e = h value left (sym is ∙ e)

-- ---- bulk strings one after another

-- the items are what their first and the others are
if_items : (P : Items → List ℕ → Type 0) (read : List ℕ → Reading Data) (n : ℕ) (bytes : List ℕ) → 0 < n
    → ((v : Data) (rest : List ℕ) (vs : Items) (after : List ℕ) → read bytes ≡ whole v rest → items_at read (n - 1) rest ≡ whole vs after → P (item v vs) after) → If P (items_at read n bytes)
unfolding items_at
if_items P read zero bytes some h = absurd (omega (arith, some))
if_items P read (suc n) bytes some h =
    let less : suc n - 1 ≡ n = omega arith in
    let k : (v : Data) (rest : List ℕ) (vs : Items) (after : List ℕ) → read bytes ≡ whole v rest → items_at read n rest ≡ whole vs after → P (item v vs) after
    = λ v rest vs after e g. h v rest vs after e (ap (λ (m : ℕ). items_at read m rest) less ∙ g) in
    behind (read bytes) k
  where
    behind : (r : Reading Data) → ((v : Data) (rest : List ℕ) (vs : Items) (after : List ℕ) → r ≡ whole v rest → items_at read n rest ≡ whole vs after → P (item v vs) after)
        → If P (then_read r (λ v rest. then_read (items_at read n rest) (λ vs after. whole (item v vs) after)))
    behind (whole v rest) k = if_read P (items_at read n rest) (λ vs. item v vs) (λ vs after e. k v rest vs after refl e)
    behind partial k = if_partial P partial refl
    behind (faulty fault) k = if_faulty P (faulty fault) fault refl

-- the first is one, and so the others tell
pub bulk_first : (read : List ℕ → Reading Data) (n : ℕ) (bytes : List ℕ) (behind : Bor (List ℕ)) (test : Bool) → 0 < n → IsBehindBulk (read bytes) (Some behind)
    → AreBulks (items_at read (n - 1) behind.now) test → AreBulks (items_at read n bytes) test
bulk_first read n bytes behind test some first others =
    if_items (λ vs _. is_some (bulks_of vs) ≡ test) read n bytes some (λ v rest vs after e g.
    let f = first v rest e in
    bulk_kept v vs f.0 ∙ others vs after (ap (λ (u : List ℕ). items_at read (n - 1) u) (sym f.1) ∙ g))

pub no_bulk_first : (read : List ℕ → Reading Data) (n : ℕ) (bytes : List ℕ) → 0 < n → IsBehindBulk (read bytes) None → AreBulks (items_at read n bytes) false
no_bulk_first read n bytes some first =
    if_items (λ vs _. is_some (bulks_of vs) ≡ false) read n bytes some (λ v rest vs after e g. ap (λ (o : Option (List (List ℕ))). is_some o) (none_kept v vs (first v rest e)))

pub bulks_end : (read : List ℕ → Reading Data) (n : ℕ) (bytes : List ℕ) → n ≡ 0 → AreBulks (items_at read n bytes) true
bulks_end read n bytes none =
    if_same (λ vs _. is_some (bulks_of vs) ≡ true) _ _ (ap (λ (m : ℕ). items_at read m bytes) none ∙ items_none read bytes) (if_whole (λ vs _. is_some (bulks_of vs) ≡ true) no_items bytes refl)

-- ---- arrays

-- an array's items are read, where it is whole
if_counted_array : (P : Data → List ℕ → Type 0) (l : LimitsModel) (room n : ℕ) (rest : List ℕ)
    → ((inner : ℕ) (vs : Items) (after : List ℕ) → items_at (value_at l inner) n rest ≡ whole vs after → P (array vs) after) → If P (counted_array (items_in l room) rest n)
if_counted_array P l zero n rest h = if_faulty P _ _ refl
if_counted_array P l (suc inner) n rest h = if_read P (items_in l (suc inner) n rest) (λ vs. array vs) (λ vs after e. if_cond (λ vs after. P (array vs) after) _ _ _ (if_faulty _ _ _ refl) (h inner) vs after e)

pub empty_skipped : (l : LimitsModel) (room n : ℕ) (rest : List ℕ) → n ≡ 0 → IsSkipped (counted_array (items_in l room) rest n) (Some Empty)
empty_skipped l room n rest none =
    if_counted_array (λ v _. IsEmptyArray v) l room n rest (λ inner vs after e.
    let k : whole no_items rest ≡ whole vs after = sym (ap (λ (m : ℕ). items_at (value_at l inner) m rest) none ∙ items_none (value_at l inner) rest) ∙ e in
    let same : vs ≡ no_items = cc in
    inl (ap array same))

none_of : (o : Option (List (List ℕ))) → is_some o ≡ false → o ≡ None
none_of None e = refl
none_of (Some words) e = absurd (false≢true (sym e))

pub other_skipped : (l : LimitsModel) (room n : ℕ) (rest : List ℕ) → ((inner : ℕ) → AreBulks (items_at (value_at l inner) n rest) false) → IsSkipped (counted_array (items_in l room) rest n) (Some Other)
other_skipped l room n rest are =
    if_counted_array (λ v _. IsNoRequest v) l room n rest (λ inner vs after e. (none_of (bulks_of vs) (are inner vs after e), λ bad. (let k : array vs ≡ null_array = bad in cc)))

first_word : (first : List ℕ) (o : Option (List (List ℕ))) → is_some (option_map (λ more. first ∷ more) o) ≡ true → (more : List (List ℕ)) × (option_map (λ more. first ∷ more) o ≡ Some (first ∷ more))
first_word first None e = absurd (false≢true e)
first_word first (Some more) e = (more, refl)

words_in : (v : Data) (vs : Items) → is_some (bulks_of (item v vs)) ≡ true → HasWords (array (item v vs))
words_in (bulk first) vs e = let words = first_word first (bulks_of vs) e in (first, words.0, words.1)
words_in (simple t) vs e = absurd (false≢true e)
words_in (error t) vs e = absurd (false≢true e)
words_in (integer z) vs e = absurd (false≢true e)
words_in null_bulk vs e = absurd (false≢true e)
words_in (array ds) vs e = absurd (false≢true e)
words_in null_array vs e = absurd (false≢true e)

pub words_kept : (l : LimitsModel) (room n : ℕ) (rest : List ℕ) → 0 < n → ((inner : ℕ) → AreBulks (items_at (value_at l inner) n rest) true) → IsSkipped (counted_array (items_in l room) rest n) None
words_kept l room n rest some are =
    if_counted_array (λ v _. HasWords v) l room n rest (λ inner vs after e.
    if_items (λ vs _. is_some (bulks_of vs) ≡ true → HasWords (array vs)) (value_at l inner) n rest some (λ v left vs' after' _ _ are_bulks. words_in v vs' are_bulks) vs after e (are inner vs after e))

pub counted_skipped : (l : LimitsModel) (items : ℕ → List ℕ → Reading Items) (text rest : List ℕ) (n : ℕ) (skipped : Option Skipped) → LengthIs text (Ok (Some n)) → IsSkipped (counted_array items rest n) skipped → IsSkipped (after_line l items star text rest) skipped
counted_skipped l items text rest n skipped is h value left e = h value left (sym (of_array l items text rest n is) ∙ e)

pub null_skipped : (l : LimitsModel) (items : ℕ → List ℕ → Reading Items) (text rest : List ℕ) → LengthIs text (Ok None) → IsSkipped (after_line l items star text rest) (Some Empty)
null_skipped l items text rest is = if_same (λ v _. IsEmptyArray v) _ _ (of_null_array l items text rest is) (if_whole (λ v _. IsEmptyArray v) null_array rest (inr refl))

pub no_length_skipped : (l : LimitsModel) (items : ℕ → List ℕ → Reading Items) (text rest : List ℕ) (fault : WireFault) → LengthIs text (Err fault) → IsSkipped (after_line l items star text rest) None
no_length_skipped l items text rest fault is = if_faulty (λ v _. HasWords v) _ fault (of_bad_array l items text rest fault is)

-- ---- of a reader

-- the value that stands for some data
abbrev pub value_of : Data → Value
value_of (simple t) = value.Simple t
value_of (error t) = value.Error t
value_of (integer z) = value.Integer z
value_of (bulk b) = value.Bulk b
value_of null_bulk = value.NullBulk
value_of (array vs) = value.Array (list_of vs)
value_of null_array = value.NullArray

items_again : (vs : Items) → items_of (list_of vs) ≡ vs
items_again no_items = refl
items_again (item d ds) = ap (item d) (items_again ds)

data_again : (d : Data) → data_of (value_of d) ≡ d
data_again (simple t) = refl
data_again (error t) = refl
data_again (integer z) = refl
data_again (bulk b) = refl
data_again null_bulk = refl
data_again (array vs) = ap array (items_again vs)
data_again null_array = refl

pub skips : (l : LimitsModel) (unread : List ℕ) (position : ℕ) (skipped : Skipped) → Finds l unread position (Ok true) → IsSkipped (value_at l l.depth unread) (Some skipped)
    → Skips (input l unread None) (Some skipped) (input l (drop position unread) None)
skips l unread position skipped (v, is) kind = (
  value_of v,
  (refl, front_whole l unread (drop position unread) (data_of (value_of v)) (is ∙ ap (λ (d : Data). whole d (drop position unread)) (sym (data_again v))), refl),
  subst (λ (d : Data). IsAs d (Some skipped)) (sym (data_again v)) (kind v (drop position unread) is),
)

-- the whole value that was found goes
pub skipped_whole : (l : LimitsModel) (unread bytes again left : List ℕ) (position : ℕ) (fault : Option WireFault) (old : ReaderModel) (skipped : Skipped) → input l unread fault ≡ old → fault ≡ None → bytes ≡ unread → again ≡ unread
    → Finds l bytes position (Ok true) → IsSkipped (value_at l l.depth again) (Some skipped) → left ≡ drop position unread → Skips old (Some skipped) (input l left fault)
skipped_whole l unread bytes again left position fault old skipped are none same same' found is left_is =
    let here = skips l unread position skipped (subst (λ (u : List ℕ). Finds l u position (Ok true)) same found) (subst (λ (u : List ℕ). IsSkipped (value_at l l.depth u) (Some skipped)) same' is) in
    subst (λ (s : ReaderModel). Skips s (Some skipped) (input l left fault)) are
    (subst (λ (f : Option WireFault). Skips (input l unread f) (Some skipped) (input l left f)) (sym none)
    (subst (λ (u : List ℕ). Skips (input l unread None) (Some skipped) (input l u None)) (sym left_is) here))

pub stays : (l : LimitsModel) (unread bytes : List ℕ) (fault : Option WireFault) (old : ReaderModel) → input l unread fault ≡ old → bytes ≡ unread → IsSkipped (value_at l l.depth bytes) None → Skips old None (input l unread fault)
stays l unread bytes fault old are same is =
    let here : Skips (input l unread fault) None (input l unread fault) =
    (refl, λ _ value after e. is value after (ap (λ (u : List ℕ). value_at l l.depth u) same ∙ whole_reads l unread after value e)) in
    subst (λ (s : ReaderModel). Skips s None (input l unread fault)) are here

pub none_stays : (l : LimitsModel) (bytes : List ℕ) (position : ℕ) → Finds l bytes position (Ok false) → IsSkipped (value_at l l.depth bytes) None
none_stays l bytes position is = if_partial (λ v _. HasWords v) _ is

pub fault_stays : (l : LimitsModel) (bytes : List ℕ) (position : ℕ) (found : WireFault) → Finds l bytes position (Err found) → IsSkipped (value_at l l.depth bytes) None
fault_stays l bytes position found is = if_faulty (λ v _. HasWords v) _ found is
