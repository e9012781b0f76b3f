-- What a value tells, and what a reply to CLUSTER SLOTS says, names nodes of the table that is left.
use Rattle.std.proofs.Common.{◌≡◌, ℕ, ◌+◌, ◌<◌, ◌≤◌, Bool, true, false, List, [], ◌∷◌, ◌++◌, Option, Some, None, length, cond, refl, sym, ap, ◌∙◌, subst, arith, length-append}
use Rattle.std.specs.Prelude.{Result, Ok, Err, All, codes, position, nat_lt}
use Rattle.std.specs.List.{position_from}
use Rattle.std.specs.Str.{bytes_eq}
use Rattle.std.proofs.lemmas.List.Elements.{All-nil, All-cons}
use Rattle.std.proofs.lemmas.Iterator.Adapters.{position_from-zero}
use Rattle.resp_wire.specs.declared.value.Value.{Value}
use Rattle.resp_wire.specs.declared.value.Value.TheVariants as value
use Rattle.resp_wire.specs.Data.{Data}
use Rattle.key_split.specs.declared.travel.Told.{Told}
use Rattle.key_split.specs.declared.travel.Told.TheVariants.{Reply, Moved, Ask, TryAgain, ClusterDown, Unclear, Lost, Unsent}
use Rattle.slot_map.specs.declared.fault.MapFault.{MapFault}
use Rattle.slot_map.specs.declared.ops.MapOp.{MapOp}
use Rattle.slot_map.specs.Table.{Endpoint, Numbered, numbered, numbered_at, same_endpoint, host_of}
use Rattle.slot_map.specs.Slots.{SlotsReading, ReadStep, SlotRangeModel, endpoint_meant as range_meant, before, go_on, range_in, step_at, step_from, read_entries, read_slots}
use Rattle.node_link.specs.Line.{Target, first_word, other_words, target_in}
use Rattle.node_link.specs.Telling.{sent_on, redirected, refusal_or_reply, told_by, endpoint_meant}
use Rattle.turn_laws.specs.Naming.{SaysOneOf, SetsOneOf}
use Rattle.turn_laws.proofs.SameTold.{Telling, says, chosen}
use Rattle.turn_laws.proofs.Listed.{entries-grow}

-- ---- more nodes

pub says-more : (n m : ℕ) (told : Told) → n ≤ m → SaysOneOf n told → SaysOneOf m told
says-more n m (Moved slot node) more h = omega (arith, more, h)
says-more n m (Ask slot node) more h = omega (arith, more, h)
says-more n m (Reply v) more h = tt
says-more n m TryAgain more h = tt
says-more n m ClusterDown more h = tt
says-more n m Unclear more h = tt
says-more n m Lost more h = tt
says-more n m Unsent more h = tt

pub sets-more : (n m : ℕ) (ops : List MapOp) → n ≤ m → All (SetsOneOf n) ops → All (SetsOneOf m) ops
sets-more n m ops more h i op lt = omega (arith, more, h i op lt)

-- ---- what a value tells

found-within : {X : Type 0} (p : X → Bool) (n : ℕ) (xs : List X) (k : ℕ) → position_from p n xs ≡ Some k → k < n + length xs
found-within p n [] k e = absurd (cc)
found-within {X} p n (x ∷ xs) k e = go (p x) (found-within p (n + 1) xs k) e
  where
    go : (b : Bool) → (position_from p (n + 1) xs ≡ Some k → k < n + 1 + length xs) → cond b (Some n) (position_from p (n + 1) xs) ≡ Some k → k < n + length (x ∷ xs)
    go true later f = let same : n ≡ k = cc in omega (arith, same)
    go false later f = omega (arith, later f)

place-within : (p : Endpoint → Bool) (xs : List Endpoint) (k : ℕ) → position p xs ≡ Some k → k < length xs
place-within p xs k e = omega (arith, found-within p 0 xs k (sym (position_from-zero p xs) ∙ e))

-- the number of an endpoint is one of the table's
number-within : (table : List Endpoint) (at : Endpoint) (n : Numbered) → numbered table at ≡ Some n → n.number < length n.table
number-within table at n e = by-place (position (same_endpoint at) table) refl e
  where
    by-room : (b : Bool) → cond b (Some (record { table = table ++ at ∷ []; number = length table })) None ≡ Some n → n.number < length n.table
    by-room true is =
        let it : record { table = table ++ at ∷ []; number = length table } ≡ n = cc in
        omega (arith, length-append table (at ∷ []), ap (λ (x : Numbered). length x.table) it, ap (λ (x : Numbered). x.number) it)
    by-room false is = absurd (cc)

    by-place : (o : Option ℕ) → position (same_endpoint at) table ≡ o → numbered_at o table at ≡ Some n → n.number < length n.table
    by-place (Some k) here is =
        let it : record { table = table; number = k } ≡ n = cc in
        omega (arith, place-within (same_endpoint at) table k here, ap (λ (x : Numbered). length x.table) it, ap (λ (x : Numbered). x.number) it)
    by-place None here is = by-room (nat_lt (length table) 64) is

plain-says : (said told : Told) (table new : List Endpoint) → SaysOneOf (length table) said → says said table ≡ says told new → SaysOneOf (length new) told
plain-says said told table new h is = subst (λ (p : Telling). SaysOneOf (length p.1) p.0) is h

sent-says : (how : ℕ → ℕ → Told) (slot : ℕ) (o : Option Numbered) (table : List Endpoint) (told : Told) (new : List Endpoint)
    → ((node m : ℕ) → node < m → SaysOneOf m (how slot node)) → ((n : Numbered) → o ≡ Some n → n.number < length n.table)
    → sent_on how slot o table ≡ says told new → SaysOneOf (length new) told
sent-says how slot None table told new names within is = plain-says Unclear told table new tt is
sent-says how slot (Some n) table told new names within is = subst (λ (p : Telling). SaysOneOf (length p.1) p.0) is (names n.number (length n.table) (within n refl))

redirected-says : (how : ℕ → ℕ → Told) (host : List ℕ) (target : Option Target) (table : List Endpoint) (told : Told) (new : List Endpoint)
    → ((slot node m : ℕ) → node < m → SaysOneOf m (how slot node))
    → redirected how host target table ≡ says told new → SaysOneOf (length new) told
redirected-says how host None table told new names is = plain-says Unclear told table new tt is
redirected-says how host (Some target) table told new names is =
    let at = endpoint_meant host target.endpoint in
    sent-says how target.slot (numbered table at) table told new (names target.slot) (number-within table at) is

word-says : (moved ask again down : Bool) (m a : Telling) (said : Value) (told : Told) (table new : List Endpoint)
    → (m ≡ says told new → SaysOneOf (length new) told) → (a ≡ says told new → SaysOneOf (length new) told)
    → refusal_or_reply said table (chosen moved ask again down m a table) ≡ says told new → SaysOneOf (length new) told
word-says true ask again down m a said told table new h-m h-a is = h-m is
word-says false true again down m a said told table new h-m h-a is = h-a is
word-says false false true down m a said told table new h-m h-a is = plain-says TryAgain told table new tt is
word-says false false false true m a said told table new h-m h-a is = plain-says ClusterDown told table new tt is
word-says false false false false m a said told table new h-m h-a is = plain-says (Reply said) told table new tt is

pub told-says : (said : Value) (asked : ℕ) (table : List Endpoint) (told : Told) (new : List Endpoint) → told_by said asked table ≡ (told, new) → SaysOneOf (length new) told
told-says (value.Error line) asked table told new is =
    let host = host_of table asked in
    let target = target_in (other_words line) in
    word-says (bytes_eq (first_word line) (codes "MOVED")) (bytes_eq (first_word line) (codes "ASK")) (bytes_eq (first_word line) (codes "TRYAGAIN")) (bytes_eq (first_word line) (codes "CLUSTERDOWN"))
    (redirected Moved host target table) (redirected Ask host target table) (value.Error line) told table new
    (redirected-says Moved host target table told new (λ slot node m lt. lt)) (redirected-says Ask host target table told new (λ slot node m lt. lt)) is
told-says (value.Simple line) asked table told new is = plain-says (Reply (value.Simple line)) told table new tt is
told-says (value.Integer n) asked table told new is = plain-says (Reply (value.Integer n)) told table new tt is
told-says (value.Bulk bytes) asked table told new is = plain-says (Reply (value.Bulk bytes)) told table new tt is
told-says value.NullBulk asked table told new is = plain-says (Reply value.NullBulk) told table new tt is
told-says (value.Array words) asked table told new is = plain-says (Reply (value.Array words)) told table new tt is
told-says value.NullArray asked table told new is = plain-says (Reply value.NullArray) told table new tt is

-- ---- what CLUSTER SLOTS says

step-sets : (host : List ℕ) (table : List Endpoint) (range : Result SlotRangeModel MapFault) (step : ReadStep) → step_from host table range ≡ Ok step → SetsOneOf (length step.table) step.op
step-sets host table (Err e) step is = absurd (cc)
step-sets host table (Ok l) step is = by-number (numbered table (range_meant l host)) (number-within table (range_meant l host)) is
  where
    below : Result ReadStep MapFault → Type 0
    below (Ok x) = SetsOneOf (length x.table) x.op
    below (Err e) = Unit {0}

    by-number : (o : Option Numbered) → ((n : Numbered) → o ≡ Some n → n.number < length n.table) → step_at l o ≡ Ok step → SetsOneOf (length step.table) step.op
    by-number None within is = absurd (cc)
    by-number (Some n) within is = subst below is (within n refl)

on-sets : (step : Result ReadStep MapFault) (next : List Endpoint → Result SlotsReading MapFault) (reading : SlotsReading)
    → ((one : ReadStep) → step ≡ Ok one → SetsOneOf (length one.table) one.op)
    → ((table : List Endpoint) (later : SlotsReading) → next table ≡ Ok later → length table ≤ length later.table)
    → ((table : List Endpoint) (later : SlotsReading) → next table ≡ Ok later → All (SetsOneOf (length later.table)) later.ops)
    → go_on step next ≡ Ok reading → All (SetsOneOf (length reading.table)) reading.ops
on-sets (Err e) next reading first grows later is = absurd (cc)
on-sets (Ok one) next reading first grows later is = by-rest (next one.table) (grows one.table) (later one.table) is
  where
    by-rest : (rest : Result SlotsReading MapFault) → ((r : SlotsReading) → rest ≡ Ok r → length one.table ≤ length r.table) → ((r : SlotsReading) → rest ≡ Ok r → All (SetsOneOf (length r.table)) r.ops)
        → before one.op rest ≡ Ok reading → All (SetsOneOf (length reading.table)) reading.ops
    by-rest (Err e) g h is = absurd (cc)
    by-rest (Ok r) g h is =
        let it : record { ops = one.op ∷ r.ops; table = r.table } ≡ reading = cc in
        subst (λ (x : SlotsReading). All (SetsOneOf (length x.table)) x.ops) it
        (All-cons (SetsOneOf (length r.table)) one.op r.ops (omega (arith, first one refl, g r refl)) (h r refl))

entries-set : (asked : ℕ) (entries : List Data) (table : List Endpoint) (reading : SlotsReading) → read_entries asked entries table ≡ Ok reading → All (SetsOneOf (length reading.table)) reading.ops
entries-set asked [] table reading is =
    let it : record { ops = []; table = table } ≡ reading = cc in
    subst (λ (x : SlotsReading). All (SetsOneOf (length x.table)) x.ops) it (All-nil (SetsOneOf (length table)))
entries-set asked (d ∷ ds) table reading is =
    on-sets (step_from (host_of table asked) table (range_in d)) (λ t. read_entries asked ds t) reading
    (step-sets (host_of table asked) table (range_in d)) (λ t later e. entries-grow asked ds t later e) (λ t later e. entries-set asked ds t later e) is

pub slots-set : (said : Value) (asked : ℕ) (table : List Endpoint) (reading : SlotsReading) → read_slots said asked table ≡ Ok reading → All (SetsOneOf (length reading.table)) reading.ops
slots-set (value.Array ds) asked table reading is = entries-set asked ds table reading is
slots-set (value.Simple t) asked table reading is = absurd (cc)
slots-set (value.Error t) asked table reading is = absurd (cc)
slots-set (value.Integer n) asked table reading is = absurd (cc)
slots-set (value.Bulk b) asked table reading is = absurd (cc)
slots-set value.NullBulk asked table reading is = absurd (cc)
slots-set value.NullArray asked table reading is = absurd (cc)
