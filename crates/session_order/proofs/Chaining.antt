-- The parts of a slot, one after another, as the table of next parts changes.
use Rattle.std.proofs.Common.{◌≡◌, ◌≢◌, ◌≤◌, ◌<◌, ◌+◌, ◌-◌, ◌++◌, ◌∷◌, [], ℕ, List, Bool, true, false, Option, Some, None, zero, suc, length, take, drop, sym, ◌∙◌, arith, rules, refl}
use Rattle.std.specs.Prelude.{slice_get, slice_set}
use Rattle.session_order.specs.declared.queue.PartStage.{PartStage}
use Rattle.session_order.specs.Turn.{blocks}
use Rattle.session_order.specs.Tables.{in_front, open_parts, first_of, last_of, last_behind, Chained, Preceded, with_link}
use Rattle.session_order.proofs.Lists.{get_drop, get_take, get_set_other, get_set_same, get_append}

-- each number is above the one before, and all are from a number up to another
abbrev pub Climbs : ℕ → List ℕ → ℕ → Type 0
Climbs low [] high = Unit {0}
Climbs low (n ∷ rest) high = (low ≤ n) × (n < high) × Climbs (suc n) rest high

climbs_less : (low low' high : ℕ) (ns : List ℕ) → low' ≤ low → Climbs low ns high → Climbs low' ns high
climbs_less low low' high [] le up = tt
climbs_less low low' high (n ∷ ns) le up = (omega (arith, le, up.0), up.1, up.2)

climbs_in : (b : Bool) (n high : ℕ) (rest : List ℕ) → n < high → Climbs (suc n) rest high → Climbs n (in_front b n rest) high
climbs_in true n high rest less up = (omega arith, less, up)
climbs_in false n high rest less up = climbs_less (suc n) n high rest (omega arith) up

-- the parts of a slot stand in the order of their numbers
pub open_climbs : (slot n high : ℕ) (stages : List PartStage) → high ≡ n + length stages → Climbs n (open_parts slot n stages) high
open_climbs slot n high [] sum = tt
open_climbs slot n high (s ∷ ss) sum = climbs_in (blocks slot s) n high (open_parts slot (suc n) ss) (omega (arith, sum)) (open_climbs slot (suc n) high ss (omega (arith, sum)))

-- the last is one of the parts
pub last_climbs : (low high l : ℕ) (ns : List ℕ) → Climbs low ns high → last_of ns ≡ Some l → (low ≤ l) × (l < high)
last_climbs low high l [] up is = cc
last_climbs low high l (n ∷ []) up is = let same : n ≡ l = (let e : Some n ≡ Some l = is in search rules) in (omega (arith, same, up.0), omega (arith, same, up.1))
last_climbs low high l (n ∷ m ∷ rest) up is = let more = last_climbs (suc n) high l (m ∷ rest) up.2 is in (omega (arith, more.0, up.0), more.1)

-- the number is none of these
abbrev pub Avoids : ℕ → List ℕ → Type 0
Avoids m [] = Unit {0}
Avoids m (n ∷ ns) = (n ≢ m) × Avoids m ns

-- a place that is none of theirs does not matter
pub chained_other : (first i : ℕ) (x : Option ℕ) (later : List (Option ℕ)) (ns : List ℕ) → Avoids (first + i) ns
    → Chained first later ns → Chained first (slice_set later i x) ns
chained_other first i x later [] other chain = tt
chained_other first i x later (n ∷ ns) other chain =
    (chain.0, get_set_other later i (n - first) x (first_of ns) (λ same. other.0 (omega (arith, same, chain.0))) chain.1, chained_other first i x later ns other.1 chain.2)

-- more places behind do not matter
pub chained_more : (first : ℕ) (later more : List (Option ℕ)) (ns : List ℕ) → Chained first later ns → Chained first (later ++ more) ns
chained_more first later more [] chain = tt
chained_more first later more (n ∷ ns) chain = (chain.0, get_append later more (n - first) (first_of ns) chain.1, chained_more first later more ns chain.2)

-- places at the front that are none of theirs do not matter
pub chained_drop : (first k count high : ℕ) (later : List (Option ℕ)) (ns : List ℕ) → k ≡ first + count → Climbs k ns high
    → Chained first later ns → Chained k (drop count later) ns
chained_drop first k count high later [] sum up chain = tt
chained_drop first k count high later (n ∷ ns) sum up chain = (
  up.0,
  get_drop later count (n - k) (n - first) (omega (arith, sum, up.0)) ∙ chain.1,
  chained_drop first k count high later ns sum (climbs_less (suc n) k high ns (omega (arith, up.0)) up.2) chain.2,
)

above : (low high m : ℕ) (ns : List ℕ) → m < low → Climbs low ns high → Avoids m ns
above low high m [] less up = tt
above low high m (n ∷ ns) less up = (λ same. omega (arith, same, less, up.0), above (suc n) high m ns (omega (arith, less, up.0)) up.2)

pub get_last : {A : Type 0} (xs : List A) (x : A) (i : ℕ) → i ≡ length xs → slice_get (xs ++ x ∷ []) i ≡ Some x
get_last [] x zero is = refl
get_last [] x (suc i) is = absurd (omega (arith, is))
get_last (y ∷ ys) x zero is = absurd (omega (arith, is))
get_last (y ∷ ys) x (suc i) is = get_last ys x i (omega (arith, is))

-- one more part stands behind the last
pub chained_push : (first low high l : ℕ) (later : List (Option ℕ)) (ns : List ℕ) → first ≤ low → high ≡ first + length later → Climbs low ns high → last_of ns ≡ Some l
    → Chained first later ns → Chained first (slice_set (later ++ None ∷ []) (l - first) (Some high)) (ns ++ high ∷ [])
chained_push first low high l later [] le sum up is chain = cc
chained_push first low high l later (n ∷ []) le sum up is chain =
    let same : l ≡ n = (let e : Some n ≡ Some l = is in search rules) in
    let here : slice_get (later ++ None ∷ []) (l - first) ≡ Some None = rw same (get_append later (None ∷ []) (n - first) None chain.1) in
    let apart : high - first ≢ l - first = λ e. omega (arith, e, same, up.0, up.1, le) in (
      chain.0,
      rw same (get_set_same (later ++ None ∷ []) (n - first) None (Some high) (rw same at here)),
      (omega (arith, sum), get_set_other (later ++ None ∷ []) (l - first) (high - first) (Some high) None apart (get_last later None (high - first) (omega (arith, sum))), tt),
    )
chained_push first low high l later (n ∷ m ∷ rest) le sum up is chain =
    let last = last_climbs (suc n) high l (m ∷ rest) up.2 is in
    let apart : n - first ≢ l - first = λ e. omega (arith, e, last.0, up.0, le) in (
      chain.0,
      get_set_other (later ++ None ∷ []) (l - first) (n - first) (Some high) (Some m) apart (get_append later (None ∷ []) (n - first) (Some m) chain.1),
      chained_push first (suc n) high l later (m ∷ rest) (omega (arith, le, up.0)) sum up.2 is chain.2,
    )

pub last_push : (ns : List ℕ) (m : ℕ) → last_of (ns ++ m ∷ []) ≡ Some m
last_push [] m = refl
last_push (n ∷ []) m = refl
last_push (n ∷ n' ∷ ns) m = last_push (n' ∷ ns) m

pub last_none : (ns : List ℕ) → last_of ns ≡ None → ns ≡ []
last_none [] is = refl
last_none (n ∷ []) is = cc
last_none (n ∷ m ∷ rest) is = (let h : m ∷ rest ≡ [] = last_none (m ∷ rest) is in cc)

-- ---- the table of those before, as places change

pub preceded_other : (first i : ℕ) (x before : Option ℕ) (earlier : List (Option ℕ)) (ns : List ℕ) → Avoids (first + i) ns
    → Preceded first earlier before ns → Preceded first (slice_set earlier i x) before ns
preceded_other first i x before earlier [] other chain = tt
preceded_other first i x before earlier (n ∷ ns) other chain =
    (chain.0, get_set_other earlier i (n - first) x before (λ same. other.0 (omega (arith, same, chain.0))) chain.1, preceded_other first i x (Some n) earlier ns other.1 chain.2)

pub preceded_more : (first : ℕ) (before : Option ℕ) (earlier more : List (Option ℕ)) (ns : List ℕ) → Preceded first earlier before ns → Preceded first (earlier ++ more) before ns
preceded_more first before earlier more [] chain = tt
preceded_more first before earlier more (n ∷ ns) chain = (chain.0, get_append earlier more (n - first) before chain.1, preceded_more first (Some n) earlier more ns chain.2)

pub preceded_drop : (first k count high : ℕ) (before : Option ℕ) (earlier : List (Option ℕ)) (ns : List ℕ) → k ≡ first + count → Climbs k ns high
    → Preceded first earlier before ns → Preceded k (drop count earlier) before ns
preceded_drop first k count high before earlier [] sum up chain = tt
preceded_drop first k count high before earlier (n ∷ ns) sum up chain = (
  up.0,
  get_drop earlier count (n - k) (n - first) (omega (arith, sum, up.0)) ∙ chain.1,
  preceded_drop first k count high (Some n) earlier ns sum (climbs_less (suc n) k high ns (omega (arith, up.0)) up.2) chain.2,
)

pub preceded_push : (first high : ℕ) (before : Option ℕ) (earlier : List (Option ℕ)) (ns : List ℕ) → high ≡ first + length earlier
    → Preceded first earlier before ns → Preceded first (earlier ++ last_behind before ns ∷ []) before (ns ++ high ∷ [])
preceded_push first high before earlier [] sum chain = (omega (arith, sum), get_last earlier before (high - first) (omega (arith, sum)), tt)
preceded_push first high before earlier (n ∷ ns) sum chain =
    (chain.0, get_append earlier (last_behind (Some n) ns ∷ []) (n - first) before chain.1, preceded_push first high (Some n) earlier ns sum chain.2)

-- places behind all of them do not matter
pub chained_take : (first low count high : ℕ) (later : List (Option ℕ)) (ns : List ℕ) → high ≡ first + count → Climbs low ns high
    → Chained first later ns → Chained first (take count later) ns
chained_take first low count high later [] sum up chain = tt
chained_take first low count high later (n ∷ ns) sum up chain =
    (chain.0, get_take later count (n - first) (first_of ns) chain.1 (omega (arith, sum, up.1, chain.0)), chained_take first (suc n) count high later ns sum up.2 chain.2)

pub preceded_take : (first low count high : ℕ) (before : Option ℕ) (earlier : List (Option ℕ)) (ns : List ℕ) → high ≡ first + count → Climbs low ns high
    → Preceded first earlier before ns → Preceded first (take count earlier) before ns
preceded_take first low count high before earlier [] sum up chain = tt
preceded_take first low count high before earlier (n ∷ ns) sum up chain =
    (chain.0, get_take earlier count (n - first) before chain.1 (omega (arith, sum, up.1, chain.0)), preceded_take first (suc n) count high (Some n) earlier ns sum up.2 chain.2)

-- ---- one of them leaves

climbs_at : (low high x : ℕ) (fore aft : List ℕ) → Climbs low (fore ++ x ∷ aft) high → (low ≤ x) × Climbs (suc x) aft high
climbs_at low high x [] aft up = (up.0, up.2)
climbs_at low high x (n ∷ fore) aft up = let rest = climbs_at (suc n) high x fore aft up.2 in (omega (arith, rest.0, up.0), rest.1)

climbs_front : (low high : ℕ) (ns more : List ℕ) → Climbs low (ns ++ more) high → Climbs low ns high
climbs_front low high [] more up = tt
climbs_front low high (n ∷ ns) more up = (up.0, up.1, climbs_front (suc n) high ns more up.2)

-- what stands at its place
pub chained_at : (first x : ℕ) (later : List (Option ℕ)) (fore aft : List ℕ) → Chained first later (fore ++ x ∷ aft) → slice_get later (x - first) ≡ Some (first_of aft)
chained_at first x later [] aft chain = chain.1
chained_at first x later (n ∷ fore) aft chain = chained_at first x later fore aft chain.2

pub preceded_at : (first x : ℕ) (before : Option ℕ) (earlier : List (Option ℕ)) (fore aft : List ℕ) → Preceded first earlier before (fore ++ x ∷ aft)
    → slice_get earlier (x - first) ≡ Some (last_behind before fore)
preceded_at first x before earlier [] aft chain = chain.1
preceded_at first x before earlier (n ∷ fore) aft chain = preceded_at first x (Some n) earlier fore aft chain.2

chained_over : (first low high x l : ℕ) (later : List (Option ℕ)) (fore aft : List ℕ) → last_of fore ≡ Some l → Climbs low (fore ++ x ∷ aft) high
    → Chained first later (fore ++ x ∷ aft) → Chained first (slice_set later (l - first) (first_of aft)) (fore ++ aft)
chained_over first low high x l later [] aft is up chain = cc
chained_over first low high x l later (n ∷ []) aft is up chain =
    let same : l ≡ n = (let e : Some n ≡ Some l = is in search rules) in
    let behind = climbs_at (suc n) high x [] aft up.2 in (
      chain.0,
      rw same (get_set_same later (n - first) (Some x) (first_of aft) chain.1),
      chained_other first (l - first) (first_of aft) later aft (above (suc x) high (first + (l - first)) aft (omega (arith, same, behind.0, chain.0)) behind.1) chain.2.2,
    )
chained_over first low high x l later (n ∷ m ∷ rest) aft is up chain =
    let last = last_climbs (suc n) high l (m ∷ rest) (climbs_front (suc n) high (m ∷ rest) (x ∷ aft) up.2) is in
    let apart : n - first ≢ l - first = λ e. omega (arith, e, last.0, chain.0) in (
      chain.0,
      get_set_other later (l - first) (n - first) (first_of aft) (Some m) apart chain.1,
      chained_over first (suc n) high x l later (m ∷ rest) aft is up.2 chain.2,
    )

-- the one before it is followed by the one behind it
pub chained_cut : (first low high x : ℕ) (later : List (Option ℕ)) (fore aft : List ℕ) (before : Option ℕ) → before ≡ last_of fore → Climbs low (fore ++ x ∷ aft) high
    → Chained first later (fore ++ x ∷ aft) → Chained first (with_link later first before (first_of aft)) (fore ++ aft)
chained_cut first low high x later [] aft None is up chain = chain.2
chained_cut first low high x later (n ∷ fore) aft None is up chain = (let e : n ∷ fore ≡ [] = last_none (n ∷ fore) (sym is) in cc)
chained_cut first low high x later fore aft (Some l) is up chain = chained_over first low high x l later fore aft (sym is) up chain

preceded_front : (first x : ℕ) (before : Option ℕ) (earlier : List (Option ℕ)) (fore : List ℕ) → Preceded first earlier before (fore ++ x ∷ []) → Preceded first earlier before (fore ++ [])
preceded_front first x before earlier [] chain = tt
preceded_front first x before earlier (n ∷ fore) chain = (chain.0, chain.1, preceded_front first x (Some n) earlier fore chain.2)

preceded_over : (first low high x m : ℕ) (before : Option ℕ) (earlier : List (Option ℕ)) (fore aft : List ℕ) → Climbs low (fore ++ x ∷ m ∷ aft) high
    → Preceded first earlier before (fore ++ x ∷ m ∷ aft) → Preceded first (slice_set earlier (m - first) (last_behind before fore)) before (fore ++ m ∷ aft)
preceded_over first low high x m before earlier [] aft up chain =
    let behind = climbs_at low high x [] (m ∷ aft) up in (
      chain.2.0,
      get_set_same earlier (m - first) (Some x) before chain.2.1,
      preceded_other first (m - first) before (Some m) earlier aft (above (suc m) high (first + (m - first)) aft (omega (arith, chain.2.0)) behind.1.2) chain.2.2,
    )
preceded_over first low high x m before earlier (n ∷ fore) aft up chain =
    let behind = climbs_at (suc n) high x fore (m ∷ aft) up.2 in
    let apart : n - first ≢ m - first = λ e. omega (arith, e, behind.0, behind.1.0, chain.0) in (
      chain.0,
      get_set_other earlier (m - first) (n - first) (last_behind (Some n) fore) before apart chain.1,
      preceded_over first (suc n) high x m (Some n) earlier fore aft up.2 chain.2,
    )

-- and the one behind it has the one before it
pub preceded_cut : (first low high x : ℕ) (before : Option ℕ) (earlier : List (Option ℕ)) (fore aft : List ℕ) → Climbs low (fore ++ x ∷ aft) high
    → Preceded first earlier before (fore ++ x ∷ aft) → Preceded first (with_link earlier first (first_of aft) (last_behind before fore)) before (fore ++ aft)
preceded_cut first low high x before earlier fore [] up chain = preceded_front first x before earlier fore chain
preceded_cut first low high x before earlier fore (m ∷ aft) up chain = preceded_over first low high x m before earlier fore aft up chain

-- the last of them is the last, where another is behind it
pub last_cut : (before : Option ℕ) (x m : ℕ) (fore aft : List ℕ) → last_behind before (fore ++ x ∷ m ∷ aft) ≡ last_behind before (fore ++ m ∷ aft)
last_cut before x m [] aft = refl
last_cut before x m (n ∷ fore) aft = last_cut (Some n) x m fore aft
