-- The first few of the requests that have their reply.
use Rattle.std.proofs.Common.{◌≡◌, ◌≤◌, ◌<◌, ◌+◌, ◌-◌, ◌++◌, ◌∷◌, [], List, ℕ, length, drop, take, refl, ap, sym, subst, ◌∙◌, arith, zero, suc, Option, Some, None, cond, true, false, Bool, append_assoc, length-append, length-drop, nat_lt}
use Rattle.std.specs.Prelude.{nat_le, slice_get, slice_index_or}
use Rattle.std.specs.List.{list_all, flat_map}
use Rattle.std.proofs.lemmas.Bool.Decides.{nat_tests}
use Rattle.std.proofs.lemmas.List.{append-nil}
use Rattle.std.proofs.lemmas.Option.{slice_get_read}
use Rattle.std.proofs.lemmas.Grind.{flat_map-append}
use Rattle.resp_wire.specs.declared.value.Value.{Value}
use Rattle.key_split.specs.declared.travel.Ended.{Ended}
use Rattle.session_order.specs.declared.queue.PartStage.{PartStage}
use Rattle.session_order.specs.declared.replies.PendingReply.{PendingReply}
use Rattle.session_order.specs.declared.replies.PendingReply.TheVariants.{Reply, Parts}
use Rattle.session_order.specs.declared.closing.Closing.{Closing}
use Rattle.session_order.specs.SessionModel.{SessionModel}
use Rattle.session_order.specs.Turn.{is_done}
use Rattle.session_order.specs.Replies.{joined, reply_of, AreJoinable, HasParts, replies, replied, parts_of, bytes_of, spelling, first_replies, AreWritten, Drains, last_line, output, without, drained}
use Rattle.session_order.proofs.Draining.{counts, outcome, replies_all, replies_part, replied_bounds, replied_done}
use Rattle.session_order.proofs.Told.{is_below, is_above}

first_counts : (b : Bool) (value : Value) (n c parts : ℕ) (rest rest' : ℕ → ℕ × ℕ) → (c ≤ (rest n).0 → rest' n ≡ (c, parts)) → suc c ≤ (counts b value n rest).0
    → counts b value n rest' ≡ (suc c, n + parts)
first_counts true value n c parts rest rest' h le = ap (λ (r : ℕ × ℕ). (suc r.0, n + r.1)) (h (omega (arith, le)))
first_counts false value n c parts rest rest' h le = absurd (omega (arith, le))

none_more : (n : ℕ) → 0 + n ≡ n
none_more n = omega arith

-- each of them has its reply
pub first_replied : (c : ℕ) (requests : List PendingReply) (stages : List PartStage) (ends : List Ended) → c ≤ (replied requests stages ends).0
    → replied (take c requests) stages ends ≡ (c, parts_of (take c requests))
first_replied zero [] stages ends le = refl
first_replied zero (owed ∷ rs) stages ends le = refl
first_replied (suc c) [] stages ends le = absurd (omega (arith, le))
first_replied (suc c) (Reply value ∷ rs) stages ends le =
    ap (λ (r : ℕ × ℕ). (suc r.0, 0 + r.1)) (first_replied c rs stages ends (omega (arith, le))) ∙ ap (λ (n : ℕ). (suc c, n)) (none_more (parts_of (take c rs)))
first_replied (suc c) (Parts how n ∷ rs) stages ends le =
    first_counts (list_all is_done (take n stages)) (joined how (take n ends)) n c (parts_of (take c rs)) (λ k. replied rs (drop k stages) (drop k ends))
    (λ k. replied (take c rs) (drop k stages) (drop k ends)) (first_replied c rs (drop n stages) (drop n ends)) le

-- and each part of them has ended
pub first_done : (c : ℕ) (requests : List PendingReply) (stages : List PartStage) (ends : List Ended) → c ≤ (replied requests stages ends).0
    → list_all is_done (take (parts_of (take c requests)) stages) ≡ true
first_done c requests stages ends le =
    subst (λ (n : ℕ × ℕ). list_all is_done (take n.1 stages) ≡ true) (first_replied c requests stages ends le) (replied_done (take c requests) stages ends)

-- the parts are those of the first and of the others
pub parts_split : (c : ℕ) (requests : List PendingReply) → parts_of (drop c requests) + parts_of (take c requests) ≡ parts_of requests
parts_split zero [] = refl
parts_split zero (Reply value ∷ rs) = omega arith
parts_split zero (Parts how n ∷ rs) = omega arith
parts_split (suc c) [] = refl
parts_split (suc c) (Reply value ∷ rs) = parts_split c rs
parts_split (suc c) (Parts how n ∷ rs) = omega (arith, parts_split c rs)

pub take_few : (c : ℕ) (requests : List PendingReply) → length (take c requests) ≤ c
take_few zero [] = omega arith
take_few zero (owed ∷ rs) = omega arith
take_few (suc c) [] = omega arith
take_few (suc c) (owed ∷ rs) = omega (arith, take_few c rs)

-- what stands last stands behind their replies
pub first_last : (c : ℕ) (requests : List PendingReply) (stages : List PartStage) (ends : List Ended) (last : List Value) → c ≤ (replied requests stages ends).0
    → replies (take c requests) stages ends last ≡ replies (take c requests) stages ends [] ++ last
first_last c requests stages ends last le =
    replies_all (take c requests) stages ends last (subst (λ (n : ℕ × ℕ). length (take c requests) ≤ n.0) (sym (first_replied c requests stages ends le)) (take_few c requests))

all_counts : (b : Bool) (value : Value) (n : ℕ) (rest : ℕ → ℕ × ℕ) (how : _) (rs : List PendingReply) → (rest n).1 ≡ parts_of (take (rest n).0 rs)
    → (counts b value n rest).1 ≡ parts_of (take (counts b value n rest).0 (Parts how n ∷ rs))
all_counts true value n rest how rs h = ap (λ (k : ℕ). n + k) h
all_counts false value n rest how rs h = refl

-- the parts of all that have their reply
pub all_parts : (requests : List PendingReply) (stages : List PartStage) (ends : List Ended)
    → (replied requests stages ends).1 ≡ parts_of (take (replied requests stages ends).0 requests)
all_parts [] stages ends = refl
all_parts (Reply value ∷ rs) stages ends = none_more (replied rs stages ends).1 ∙ all_parts rs stages ends
all_parts (Parts how n ∷ rs) stages ends =
    all_counts (list_all is_done (take n stages)) (joined how (take n ends)) n (λ k. replied rs (drop k stages) (drop k ends)) how rs (all_parts rs (drop n stages) (drop n ends))

all_outcome : (b : Bool) (value : Value) (n : ℕ) (count : ℕ → ℕ × ℕ) (how : _) (rs : List PendingReply) (stages : List PartStage) (ends : List Ended) (front : ℕ → List Value) (rest : List PendingReply → ℕ → List Value)
    → list_all is_done (take n stages) ≡ b → value ≡ joined how (take n ends)
    → ((rs' : List PendingReply) → replies (Parts how n ∷ rs') stages ends [] ≡ outcome b value n (rest rs'))
    → rest (take (count n).0 rs) n ≡ front n
    → replies (take (counts b value n count).0 (Parts how n ∷ rs)) stages ends [] ≡ outcome b value n front
all_outcome true value n count how rs stages ends front rest is same opens h = opens (take (count n).0 rs) ∙ ap (λ vs. value ∷ vs) h
all_outcome false value n count how rs stages ends front rest is same opens h = refl

-- the replies of all that have theirs are the replies
pub all_replies : (requests : List PendingReply) (stages : List PartStage) (ends : List Ended)
    → replies (take (replied requests stages ends).0 requests) stages ends [] ≡ replies requests stages ends []
all_replies [] stages ends = refl
all_replies (Reply value ∷ rs) stages ends = ap (λ vs. value ∷ vs) (all_replies rs stages ends)
all_replies (Parts how n ∷ rs) stages ends =
    all_outcome (list_all is_done (take n stages)) (joined how (take n ends)) n (λ k. replied rs (drop k stages) (drop k ends)) how rs stages ends
    (λ k. replies rs (drop k stages) (drop k ends) []) (λ rs' k. replies rs' (drop k stages) (drop k ends) []) refl refl (λ rs'. refl)
    (all_replies rs (drop n stages) (drop n ends))

all_first_at : (requests : List PendingReply) (stages : List PartStage) (ends : List Ended) (last : List Value) (all : Bool)
    → nat_le (length requests) (replied requests stages ends).0 ≡ all
    → replies (take (replied requests stages ends).0 requests) stages ends (cond all last []) ≡ replies requests stages ends last
all_first_at requests stages ends last true test =
    first_last (replied requests stages ends).0 requests stages ends last (omega arith)
    ∙ ap (λ vs. vs ++ last) (all_replies requests stages ends)
    ∙ sym (replies_all requests stages ends last (is_below (length requests) (replied requests stages ends).0 test))
all_first_at requests stages ends last false test =
    all_replies requests stages ends ∙ sym (replies_part requests stages ends last (is_above (length requests) (replied requests stages ends).0 test))

pub all_first : (requests : List PendingReply) (stages : List PartStage) (ends : List Ended) (last : List Value)
    → first_replies (replied requests stages ends).0 requests stages ends last ≡ replies requests stages ends last
all_first requests stages ends last = all_first_at requests stages ends last (nat_le (length requests) (replied requests stages ends).0) refl

-- one more of them, or none
abbrev pub MoreReplied : ℕ → PendingReply → List PendingReply → List PartStage → List Ended → Value → ℕ → Type 0
MoreReplied i owed requests stages ends value n =
    (replies (take (suc i) requests) stages ends [] ≡ replies (take i requests) stages ends [] ++ value ∷ [])
    × (parts_of (take (suc i) requests) ≡ parts_of (take i requests) + n)

-- the replies at a request that has its reply, or has none
abbrev one_of : Option (Value × ℕ) → (ℕ → List Value) → List Value
one_of found rest = elim found [ Some reply ↦ reply.0 ∷ rest reply.1 | None ↦ [] ]

one_more : (found : Option (Value × ℕ)) (value : Value) (n : ℕ) (rest : ℕ → List Value) → found ≡ Some (value, n) → rest n ≡ [] → one_of found rest ≡ value ∷ []
one_more found value n rest is none = ap (λ (o : Option (Value × ℕ)). one_of o rest) is ∙ ap (λ vs. value ∷ vs) none

abbrev count_in : Option (Value × ℕ) → ℕ
count_in None = 0
count_in (Some reply) = reply.1

parts_at : (b : Bool) (value own : Value) (m n : ℕ) → cond {A = Option (Value × ℕ)} b (Some (own, m)) None ≡ Some (value, n) → m + 0 ≡ n
parts_at true value own m n is = (let same : m ≡ n = ap count_in is in omega (arith, same))
parts_at false value own m n is = absurd (cc)

parts_in : (owed : PendingReply) (stages : List PartStage) (ends : List Ended) (value : Value) (n : ℕ) → reply_of owed stages ends ≡ Some (value, n) → parts_of (owed ∷ []) ≡ n
parts_in (Reply own) stages ends value n is = ap count_in is
parts_in (Parts how m) stages ends value n is = parts_at (list_all is_done (take m stages)) value (joined how (take m ends)) m n is

more_outcome : (b : Bool) (first value : Value) (m : ℕ) (rest rest' : ℕ → List Value) (count : ℕ → ℕ × ℕ) (i : ℕ) → suc i ≤ (counts b first m count).0
    → (i ≤ (count m).0 → rest m ≡ rest' m ++ value ∷ []) → outcome b first m rest ≡ outcome b first m rest' ++ value ∷ []
more_outcome true first value m rest rest' count i le h = ap (λ vs. first ∷ vs) (h (omega (arith, le)))
more_outcome false first value m rest rest' count i le h = absurd (omega (arith, le))

drop_none : {A : Type 0} (n : ℕ) → ◌≡◌ {A = List A} (drop n []) []
drop_none zero = refl
drop_none (suc n) = refl

drop_more : {A : Type 0} (m n : ℕ) (xs : List A) → drop (m + n) xs ≡ drop n (drop m xs)
drop_more zero n xs = ap (λ (k : ℕ). drop k xs) (none_more n)
drop_more (suc m) n [] = drop_none (suc m + n) ∙ sym (ap (drop n) (drop_none (suc m)) ∙ drop_none n)
drop_more (suc m) n (x ∷ xs) = ap (λ (k : ℕ). drop k (x ∷ xs)) (let e : suc m + n ≡ suc (m + n) = omega arith in e) ∙ drop_more m n xs

take_zero : {A : Type 0} (xs : List A) → take 0 xs ≡ []
take_zero [] = refl
take_zero (x ∷ xs) = refl

more_than_none : (k n : ℕ) → k ≡ 0 → n ≡ k + n
more_than_none k n none = omega (arith, none)

-- the reply of the request behind them
pub next_replied : (i : ℕ) (owed : PendingReply) (requests : List PendingReply) (stages : List PartStage) (ends : List Ended) (value : Value) (n : ℕ)
    → slice_get requests i ≡ Some owed → i ≤ (replied requests stages ends).0
    → reply_of owed (drop (parts_of (take i requests)) stages) (drop (parts_of (take i requests)) ends) ≡ Some (value, n)
    → MoreReplied i owed requests stages ends value n
next_replied i owed [] stages ends value n at le is = absurd (cc)
next_replied zero owed (first ∷ rs) stages ends value n at le is =
    let same : first ≡ owed = cc in
    let own : reply_of first stages ends ≡ Some (value, n) = subst (λ o. reply_of o stages ends ≡ Some (value, n)) (sym same) is in (
      one_more (reply_of first stages ends) value n (λ k. replies (take 0 rs) (drop k stages) (drop k ends) []) own
          (ap (λ (xs : List PendingReply). replies xs (drop n stages) (drop n ends) []) (take_zero rs)),
      ap (λ (xs : List PendingReply). parts_of (first ∷ xs)) (take_zero rs) ∙ parts_in first stages ends value n own
          ∙ more_than_none (parts_of (take 0 (first ∷ rs))) n (ap parts_of (take_zero (first ∷ rs))),
    )
next_replied (suc i) owed (Reply own ∷ rs) stages ends value n at le is =
    let rest = next_replied i owed rs stages ends value n at (omega (arith, le)) is in (ap (λ vs. own ∷ vs) rest.0, rest.1)
next_replied (suc i) owed (Parts how m ∷ rs) stages ends value n at le is =
    let own : reply_of owed (drop (parts_of (take i rs)) (drop m stages)) (drop (parts_of (take i rs)) (drop m ends)) ≡ Some (value, n) =
    rw (drop_more m (parts_of (take i rs)) stages, drop_more m (parts_of (take i rs)) ends) at is in
    let rest = λ (few : i ≤ (replied rs (drop m stages) (drop m ends)).0). next_replied i owed rs (drop m stages) (drop m ends) value n at few own in
    let few = few_left (list_all is_done (take m stages)) (joined how (take m ends)) m (λ k. replied rs (drop k stages) (drop k ends)) i le in (
      more_outcome (list_all is_done (take m stages)) (joined how (take m ends)) value m (λ k. replies (take (suc i) rs) (drop k stages) (drop k ends) [])
          (λ k. replies (take i rs) (drop k stages) (drop k ends) []) (λ k. replied rs (drop k stages) (drop k ends)) i le (λ few. (rest few).0),
      omega (arith, (rest few).1),
    )
  where
    few_left : (b : Bool) (first : Value) (m : ℕ) (count : ℕ → ℕ × ℕ) (i : ℕ) → suc i ≤ (counts b first m count).0 → i ≤ (count m).0
    few_left true first m count i le = omega (arith, le)
    few_left false first m count i le = absurd (omega (arith, le))

-- how many have their reply from a request on that has its reply, or has none
abbrev counts_at : Option (Value × ℕ) → (ℕ → ℕ × ℕ) → ℕ × ℕ
counts_at found rest = elim found [ Some reply ↦ (suc (rest reply.1).0, reply.1 + (rest reply.1).1) | None ↦ (0, 0) ]

-- a request that has its reply is one of those that have theirs
one_less : (i : ℕ) (owed : PendingReply) (requests : List PendingReply) (stages : List PartStage) (ends : List Ended) (value : Value) (n : ℕ) → slice_get requests i ≡ Some owed
    → reply_of owed stages ends ≡ Some (value, n) → (replied (drop i requests) stages ends).0 ≡ suc (replied (drop (suc i) requests) (drop n stages) (drop n ends)).0
one_less i owed [] stages ends value n at is = absurd (cc)
one_less zero owed (first ∷ rs) stages ends value n at is =
    let same : first ≡ owed = cc in
    let own : reply_of first stages ends ≡ Some (value, n) = subst (λ o. reply_of o stages ends ≡ Some (value, n)) (sym same) is in
    ap (λ (found : Option (Value × ℕ)). (counts_at found (λ k. replied rs (drop k stages) (drop k ends))).0) own
one_less (suc i) owed (first ∷ rs) stages ends value n at is = one_less i owed rs stages ends value n at is

-- and the others are those behind it
left_behind : (i p n : ℕ) (owed : PendingReply) (requests : List PendingReply) (stages : List PartStage) (ends : List Ended) (value : Value) → slice_get requests i ≡ Some owed
    → reply_of owed (drop p stages) (drop p ends) ≡ Some (value, n) → i + (replied (drop i requests) (drop p stages) (drop p ends)).0 ≡ (replied requests stages ends).0
    → (i + 1) + (replied (drop (i + 1) requests) (drop (p + n) stages) (drop (p + n) ends)).0 ≡ (replied requests stages ends).0
left_behind i p n owed requests stages ends value at is so_far =
    let less = one_less i owed requests (drop p stages) (drop p ends) value n at is in
    let step : i + 1 ≡ suc i = omega arith in
    let same : (replied (drop (i + 1) requests) (drop (p + n) stages) (drop (p + n) ends)).0 ≡ (replied (drop (suc i) requests) (drop n (drop p stages)) (drop n (drop p ends))).0 =
    λ k. (replied (drop (step k) requests) (drop_more p n stages k) (drop_more p n ends k)).0 in
    omega (arith, so_far, less, same)

-- one more of the requests has its reply, behind these many parts
pub record OneMore (i p n : ℕ) (requests : List PendingReply) (stages : List PartStage) (ends : List Ended) (value : Value) : Type 0 where
  pub spelled : replies (take (i + 1) requests) stages ends [] ≡ replies (take i requests) stages ends [] ++ value ∷ []
  pub parts : p + n ≡ parts_of (take (i + 1) requests)
  pub bound : p + n ≤ length stages
  pub counted : parts_of (drop (i + 1) requests) ≡ length (drop (p + n) stages)
  pub left : (i + 1) + (replied (drop (i + 1) requests) (drop (p + n) stages) (drop (p + n) ends)).0 ≡ (replied requests stages ends).0

pub one_more_replied : (i : ℕ) (owed : PendingReply) (requests : List PendingReply) (stages : List PartStage) (ends own : List Ended) (p : ℕ) (value : Value) (n : ℕ)
    → slice_get requests i ≡ Some owed → i + (replied (drop i requests) (drop p stages) (drop p ends)).0 ≡ (replied requests stages ends).0 → p ≡ parts_of (take i requests) → own ≡ ends
    → parts_of requests ≡ length stages → reply_of owed (drop p stages) (drop p own) ≡ Some (value, n)
    → OneMore i p n requests stages ends value
one_more_replied i owed requests stages ends own p value n at so_far parts same counted is =
    let here = subst (λ (es : List Ended). reply_of owed (drop p stages) (drop p es) ≡ Some (value, n)) same is in
    let found = subst (λ (k : ℕ). reply_of owed (drop k stages) (drop k ends) ≡ Some (value, n)) parts here in
    let more = next_replied i owed requests stages ends value n at (omega (arith, so_far)) found in
    let step : i + 1 ≡ suc i = omega arith in
    let sum : p + n ≡ parts_of (take (i + 1) requests) = omega (arith, more.1, parts, ap (λ (k : ℕ). parts_of (take k requests)) step) in
    record {
      spelled = ap (λ (k : ℕ). replies (take k requests) stages ends []) step ∙ more.0;
      parts = sum;
      bound = omega (arith, sum, parts_split (i + 1) requests, counted);
      counted = omega (arith, sum, parts_split (i + 1) requests, counted, length-drop (p + n) stages);
      left = left_behind i p n owed requests stages ends value at here so_far;
    }

-- what was written grows by a reply
pub written_more : (before out new : List ℕ) (vs all : List Value) (value : Value) → out ≡ before ++ bytes_of vs → new ≡ out ++ spelling value → all ≡ vs ++ value ∷ [] → new ≡ before ++ bytes_of all
written_more before out new vs all value so_far more is =
    more ∙ ap (λ bytes. bytes ++ spelling value) so_far ∙ append_assoc before (bytes_of vs) (spelling value)
    ∙ ap (λ bytes. before ++ bytes) (ap (λ bytes. bytes_of vs ++ bytes) (sym (append-nil (spelling value))) ∙ sym (flat_map-append spelling vs (value ∷ [])) ∙ ap bytes_of (sym is))

not_all : (len few : ℕ) → few < len → nat_le len few ≡ false
not_all len few less = grind (arith, nat_tests, less)

are_all : (len few : ℕ) → len ≤ few → nat_le len few ≡ true
are_all len few le = grind (arith, nat_tests, le)

-- fewer than all have no last line
pub none_last : (fewer : ℕ) (requests : List PendingReply) (stages : List PartStage) (ends : List Ended) (last : List Value) → fewer < length requests
    → first_replies fewer requests stages ends last ≡ replies (take fewer requests) stages ends []
none_last fewer requests stages ends last less =
    ap (λ (b : Bool). replies (take fewer requests) stages ends (cond b last [])) (not_all (length requests) fewer less)

-- those so far were too few, and so are these
pub still_few : (most i : ℕ) (requests : List PendingReply) (stages : List PartStage) (ends : List Ended) (before out : List ℕ)
    → ((fewer : ℕ) → fewer < i → length (bytes_of (first_replies fewer requests stages ends [])) < most)
    → out ≡ before ++ bytes_of (replies (take i requests) stages ends []) → i < length requests → length out - length before < most
    → (fewer : ℕ) → fewer < i + 1 → length (bytes_of (first_replies fewer requests stages ends [])) < most
still_few most i requests stages ends before out others so_far less few fewer below = by_test (nat_lt fewer i) refl
  where
    now : length (bytes_of (replies (take i requests) stages ends [])) < most
    now = (
        let bytes = bytes_of (replies (take i requests) stages ends []) in
        let len : length out ≡ length before + length bytes = ap length so_far ∙ length-append before bytes in
        omega (arith, len, few)
        )

    by_test : (b : Bool) → nat_lt fewer i ≡ b → length (bytes_of (first_replies fewer requests stages ends [])) < most
    by_test true is = others fewer (grind (arith, nat_tests, is))
    by_test false is =
        let same : i ≡ fewer = grind (arith, nat_tests, is, below) in
        subst (λ (k : ℕ). length (bytes_of (first_replies k requests stages ends [])) < most) same
        (subst (λ (vs : List Value). length (bytes_of vs) < most) (sym (none_last i requests stages ends [] less)) now)

-- a request that has no reply ends them
pub none_replied : (i : ℕ) (owed : PendingReply) (requests : List PendingReply) (stages : List PartStage) (ends : List Ended) → slice_get requests i ≡ Some owed
    → reply_of owed stages ends ≡ None → (replied (drop i requests) stages ends).0 ≡ 0
none_replied i owed [] stages ends at is = absurd (cc)
none_replied zero owed (first ∷ rs) stages ends at is =
    let same : first ≡ owed = cc in
    let own : reply_of first stages ends ≡ None = subst (λ o. reply_of o stages ends ≡ None) (sym same) is in
    ap (λ (found : Option (Value × ℕ)). (counts_at found (λ n. replied rs (drop n stages) (drop n ends))).0) own
none_replied (suc i) owed (first ∷ rs) stages ends at is = none_replied i owed rs stages ends at is

-- and so does the end of the requests
pub none_left : (i : ℕ) (requests : List PendingReply) (stages : List PartStage) (ends : List Ended) → length requests ≤ i → (replied (drop i requests) stages ends).0 ≡ 0
none_left i [] stages ends all = ap (λ (rs : List PendingReply). (replied rs stages ends).0) (drop_none i)
none_left zero (first ∷ rs) stages ends all = absurd (omega (arith, all))
none_left (suc i) (first ∷ rs) stages ends all = none_left i rs stages ends (omega (arith, all))

-- what was written so far, and how many more requests have their reply
pub written_so_far : (most i count left : ℕ) (requests : List PendingReply) (stages : List PartStage) (ends : List Ended) (before out : List ℕ)
    → i + left ≡ (replied requests stages ends).0
    → out ≡ before ++ bytes_of (replies (take i requests) stages ends [])
    → ((fewer : ℕ) → fewer < i → length (bytes_of (first_replies fewer requests stages ends [])) < most)
    → (length out - length before < most → left ≡ 0) → i ≡ count
    → (bytes : List ℕ) × (out ≡ before ++ bytes) × AreWritten most requests stages ends [] count bytes
written_so_far most i count left requests stages ends before out total so_far no_more rest is =
    let bytes = bytes_of (replies (take i requests) stages ends []) in
    let len : length out ≡ length before + length bytes = ap length so_far ∙ length-append before bytes in
    subst (λ (n : ℕ). (bs : List ℕ) × (out ≡ before ++ bs) × AreWritten most requests stages ends [] n bs) is (
      bytes,
      so_far,
      record {
        in_order = omega (arith, total);
        spelled = ap (λ last. bytes_of (replies (take i requests) stages ends last)) (sym (nothing_last (nat_le (length requests) i)));
        no_more = no_more;
        all = λ few. (let none : left ≡ 0 = rest (omega (arith, len, few)) in omega (arith, none, total));
      },
    )
  where
    nothing_last : (b : Bool) → cond {A = List Value} b [] [] ≡ []
    nothing_last true = refl
    nothing_last false = refl

-- the parts of the first of those that are left are among theirs
pub has_parts : (i n : ℕ) (owed : PendingReply) (requests : List PendingReply) → slice_get requests i ≡ Some owed → AreJoinable (drop i requests) → parts_of (drop i requests) ≡ n → HasParts owed n
has_parts i n owed [] at joinable counted = absurd (cc)
has_parts zero n owed (first ∷ rs) at joinable counted = (let same : first ≡ owed = cc in subst (λ o. HasParts o n) same (of_first first joinable counted))
  where
    of_first : (own : PendingReply) → AreJoinable (own ∷ rs) → parts_of (own ∷ rs) ≡ n → HasParts own n
    of_first (Reply value) joinable counted = tt
    of_first (Parts how m) joinable counted = (omega (arith, counted), joinable.0)
has_parts (suc i) n owed (first ∷ rs) at joinable counted = has_parts i n owed rs at joinable counted

-- the last lines stand behind the replies of all
pub line_written : (most : ℕ) (requests : List PendingReply) (stages : List PartStage) (ends : List Ended) (last : List Value) (count : ℕ) (bytes line : List ℕ)
    → parts_of requests ≡ length stages → AreWritten most requests stages ends [] count bytes → length requests ≤ count → line ≡ bytes_of last
    → AreWritten most requests stages ends last count (bytes ++ line)
line_written most requests stages ends last count bytes line counted w all is =
    let bound = (replied_bounds requests stages ends counted).0 in
    let some = take count requests in
    let test = are_all (length requests) count all in
    record {
      in_order = w.in_order;
      spelled = ap (λ more. bytes ++ more) is
          ∙ ap (λ first. first ++ bytes_of last) (w.spelled ∙ ap (λ (b : Bool). bytes_of (replies some stages ends (cond {A = List Value} b [] []))) test)
          ∙ sym (flat_map-append spelling (replies some stages ends []) last) ∙ ap bytes_of (sym (first_last count requests stages ends last w.in_order))
          ∙ ap (λ (b : Bool). bytes_of (replies some stages ends (cond {A = List Value} b last []))) (sym test);
      no_more = λ fewer less.
          let few : fewer < length requests = omega (arith, less, w.in_order, bound) in
          subst (λ (vs : List Value). length (bytes_of vs) < most) (none_last fewer requests stages ends [] few ∙ sym (none_last fewer requests stages ends last few)) (w.no_more fewer less);
      all = λ few. omega (arith, w.in_order, bound, all);
    }

-- counts of requests and their parts are bounded, and what is left is counted
pub few_enough : (count parts : ℕ) (requests : List PendingReply) (stages : List PartStage) (ends : List Ended) → count ≤ (replied requests stages ends).0
    → parts ≡ parts_of (take count requests) → parts_of requests ≡ length stages → (count ≤ length requests) × (parts ≤ length stages)
few_enough count parts requests stages ends in_order own counted =
    (omega (arith, in_order, (replied_bounds requests stages ends counted).0), omega (arith, own, parts_split count requests, counted))

pub left_counted : (count parts : ℕ) (requests : List PendingReply) (stages : List PartStage) → parts ≡ parts_of (take count requests) → parts_of requests ≡ length stages
    → parts_of (drop count requests) + parts ≡ length stages
left_counted count parts requests stages own counted = omega (arith, own, parts_split count requests, counted)

pub parts_done : (count parts : ℕ) (requests : List PendingReply) (stages : List PartStage) (ends : List Ended) → count ≤ (replied requests stages ends).0
    → parts ≡ parts_of (take count requests) → list_all is_done (take parts stages) ≡ true
parts_done count parts requests stages ends in_order own =
    subst (λ (n : ℕ). list_all is_done (take n stages) ≡ true) (sym own) (first_done count requests stages ends in_order)

-- all that have their reply leave what a drain without bound leaves
pub all_left : (held : SessionModel) (count : ℕ) → count ≡ (replied held.requests held.stages held.ends).0 → without held (count, parts_of (take count held.requests)) ≡ drained held
all_left held count is =
    let pair : replied held.requests held.stages held.ends ≡ (count, parts_of (take count held.requests)) =
    λ i. (sym is i, (all_parts held.requests held.stages held.ends ∙ ap (λ (k : ℕ). parts_of (take k held.requests)) (sym is)) i) in
    ap (without held) (sym pair)

-- what was written is drained
pub drains : (most : ℕ) (held new : SessionModel) (count parts : ℕ) (bytes : List ℕ) → AreWritten most held.requests held.stages held.ends (last_line held.closing) count bytes
    → parts ≡ parts_of (take count held.requests) → new ≡ without held (count, parts) → Drains most held bytes new
drains most held new count parts bytes written own left =
    let now : new ≡ without held (count, parts_of (take count held.requests)) = left ∙ ap (λ (k : ℕ). without held (count, k)) own in
    record {
      count = count;
      written = written;
      left = now;
      all = λ less. (
        written.spelled ∙ ap (λ (k : ℕ). bytes_of (first_replies k held.requests held.stages held.ends (last_line held.closing))) (written.all less)
            ∙ ap bytes_of (all_first held.requests held.stages held.ends (last_line held.closing)),
        now ∙ all_left held count (written.all less),
      );
    }

pub at_place : (requests : List PendingReply) (i : ℕ) (owed : PendingReply) → i < length requests → owed ≡ slice_index_or requests i owed → slice_get requests i ≡ Some owed
at_place requests i owed less is = slice_get_read requests (length requests) i owed refl less is
