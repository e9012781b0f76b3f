-- Replies that are owed, and replies that are held.
use Rattle.std.proofs.Common.{◌≡◌, ◌⊎◌, ◌<◌, ◌≤◌, ◌+◌, ◌-◌, ◌++◌, [], ℕ, suc, zero, List, Bool, true, false, Option, Some, None, Result, Ok, Err, refl, ap, sym, subst, ◌∙◌, inl, inr, arith, length, take, drop, IsTrue, ◌↔◌, IfOk}
use Rattle.std.proofs.lemmas.Bool.{false≢true}
use Rattle.std.proofs.lemmas.List.{append-nil, drop-drop, take-append-drop, take_all, length-drop}
use Rattle.std.proofs.Math.Seq.{take-add}
use Rattle.key_split.specs.declared.travel.Ticket.{Ticket}
use Rattle.key_split.specs.declared.travel.Ended.{Ended}
use Rattle.resp_wire.specs.LimitsModel.{LimitsModel, full}
use Rattle.resp_wire.specs.Data.{Data}
use Rattle.resp_wire.specs.FirstValue.{Front, front, Whole, Partial, Faulty}
use Rattle.resp_wire.specs.ReaderModel.{ReaderModel}
use Rattle.resp_wire.specs.Laws.{FrontKeepsValue, FrontKeepsFault}
use Rattle.resp_wire.specs.declared.fault.NoMemory.{NoMemory}
use Rattle.resp_wire.specs.declared.fault.WireFault.{WireFault}
use Rattle.session_order.specs.Requests.{asked_of}
use Rattle.proxy_turns.specs.declared.owing.Effect.{Effect}
use Rattle.proxy_turns.specs.declared.owing.Effect.TheVariants.{Skips, Asks, Ends}
use Rattle.proxy_turns.specs.Owing.{Owes, unfinished, garbled, ended, skipped, asked, effect_of, Reads, Holds, RestIs, IsCounted, Took, EndsAt}
use Rattle.proxy_turns.specs.Script.{Plays, ScriptModel}
use Rattle.proxy_turns.specs.Received.{FeedOutcome, TakeOutcome, CountOutcome, IsStuck}

-- ---- what is owed is one number

abbrev OwesEffect : Effect → ℕ → List ℕ → ℕ → Type 0
OwesEffect Skips numbered after n = Owes numbered after n
OwesEffect (Asks later) numbered after n = (m : ℕ) × (n ≡ suc m) × Owes later after m
OwesEffect Ends numbered after n = n ≡ 1

abbrev OwesFrom : Front → ℕ → ℕ → Type 0
OwesFrom Partial numbered n = n ≡ 0
OwesFrom (Faulty fault) numbered n = n ≡ 1
OwesFrom (Whole value after) numbered n = OwesEffect (effect_of numbered (asked_of value)) numbered after n

by_effect : (effect effect' : Effect) (numbered : ℕ) (after : List ℕ) (n : ℕ) → effect ≡ effect' → OwesEffect effect' numbered after n → OwesEffect effect numbered after n
by_effect effect effect' numbered after n is owes = let P : Effect → Type 0 = λ e. OwesEffect e numbered after n in subst P (sym is) owes

by_front : (bytes : List ℕ) (at : Front) (numbered n : ℕ) → front full bytes ≡ at → OwesFrom at numbered n → OwesFrom (front full bytes) numbered n
by_front bytes at numbered n is owes = let P : Front → Type 0 = λ f. OwesFrom f numbered n in subst P (sym is) owes

seen : (numbered : ℕ) (bytes : List ℕ) (n : ℕ) → Owes numbered bytes n → OwesFrom (front full bytes) numbered n
seen numbered bytes n (unfinished _ _ _ at is) = by_front bytes Partial numbered n at is
seen numbered bytes n (garbled _ _ _ fault at is) = by_front bytes (Faulty fault) numbered n at is
seen numbered bytes n (ended _ _ _ after value at does is) =
    by_front bytes (Whole value after) numbered n at (by_effect (effect_of numbered (asked_of value)) Ends numbered after n does is)
seen numbered bytes n (skipped _ _ _ after value at does owes) =
    by_front bytes (Whole value after) numbered n at (by_effect (effect_of numbered (asked_of value)) Skips numbered after n does owes)
seen numbered bytes n (asked _ later _ m _ after value at does is owes) =
    by_front bytes (Whole value after) numbered n at (by_effect (effect_of numbered (asked_of value)) (Asks later) numbered after n does (m, is, owes))

at_front : (bytes : List ℕ) (at : Front) (numbered n : ℕ) → front full bytes ≡ at → Owes numbered bytes n → OwesFrom at numbered n
at_front bytes at numbered n is owes = let P : Front → Type 0 = λ f. OwesFrom f numbered n in subst P is (seen numbered bytes n owes)

at_effect : (bytes after : List ℕ) (value : Data) (effect : Effect) (numbered n : ℕ) → front full bytes ≡ Whole value after
    → effect_of numbered (asked_of value) ≡ effect → Owes numbered bytes n → OwesEffect effect numbered after n
at_effect bytes after value effect numbered n at does owes =
    let P : Effect → Type 0 = λ e. OwesEffect e numbered after n in subst P does (at_front bytes (Whole value after) numbered n at owes)

pub one_owed : (numbered : ℕ) (bytes : List ℕ) (n : ℕ) → Owes numbered bytes n → (m : ℕ) → Owes numbered bytes m → n ≡ m
one_owed numbered bytes n (unfinished _ _ _ at is) m other = is ∙ sym (at_front bytes Partial numbered m at other)
one_owed numbered bytes n (garbled _ _ _ fault at is) m other = is ∙ sym (at_front bytes (Faulty fault) numbered m at other)
one_owed numbered bytes n (ended _ _ _ after value at does is) m other = is ∙ sym (at_effect bytes after value Ends numbered m at does other)
one_owed numbered bytes n (skipped _ _ _ after value at does owes) m other =
    one_owed numbered after n owes m (at_effect bytes after value Skips numbered m at does other)
one_owed numbered bytes n (asked _ later _ k _ after value at does is owes) m other =
    let then_ = at_effect bytes after value (Asks later) numbered m at does other in
    is ∙ ap suc (one_owed later after k owes then_.0 then_.2) ∙ sym then_.1

-- ---- what is owed, as it is counted

-- what is owed to the rest is owed to the whole with those counted so far
abbrev pub GoesOn : List ℕ → ℕ → ℕ → List ℕ → Type 0
GoesOn bytes owed numbered rest = (m : ℕ) → Owes numbered rest m → Owes 0 bytes (owed + m)

pub nothing_yet : (bytes : List ℕ) → GoesOn bytes 0 0 bytes
nothing_yet bytes m owes = let P : ℕ → Type 0 = λ k. Owes 0 bytes k in let e : m ≡ 0 + m = omega arith in subst P e owes

pub went_over : (bytes : List ℕ) (owed numbered : ℕ) (old new : ReaderModel) → GoesOn bytes owed numbered old.unread → Took numbered old Skips new
    → GoesOn bytes owed numbered new.unread
went_over bytes owed numbered old new so took m owes = so m (skipped numbered m old.unread new.unread took.0 took.1 took.2 owes)

pub went_on : (bytes : List ℕ) (owed numbered later : ℕ) (old new : ReaderModel) → GoesOn bytes owed numbered old.unread → Took numbered old (Asks later) new
    → GoesOn bytes (owed + 1) later new.unread
went_on bytes owed numbered later old new so took m owes =
    let P : ℕ → Type 0 = λ k. Owes 0 bytes k in let e : owed + suc m ≡ owed + 1 + m = omega arith in
    subst P e (so (suc m) (asked numbered later (suc m) m old.unread new.unread took.0 took.1 took.2 refl owes))

pub all_read : (bytes rest : List ℕ) (owed numbered : ℕ) → GoesOn bytes owed numbered rest → front full rest ≡ Partial → Owes 0 bytes owed
all_read bytes rest owed numbered so at =
    let P : ℕ → Type 0 = λ k. Owes 0 bytes k in let e : owed + 0 ≡ owed = omega arith in
    subst P e (so 0 (unfinished numbered 0 rest at refl))

one_more : (rest : List ℕ) (at : Front) (numbered : ℕ) → front full rest ≡ at → EndsAt numbered at → Owes numbered rest 1
one_more rest Partial numbered is ends = absurd ends
one_more rest (Faulty fault) numbered is ends = garbled numbered 1 rest fault is refl
one_more rest (Whole value after) numbered is ends = ended numbered 1 rest after value is ends refl

pub ends_here : (bytes rest : List ℕ) (owed numbered : ℕ) → GoesOn bytes owed numbered rest → EndsAt numbered (front full rest) → Owes 0 bytes (owed + 1)
ends_here bytes rest owed numbered so ends = so 1 (one_more rest (front full rest) numbered refl ends)

-- ---- values that were read

read_more : (n : ℕ) (bytes rest after : List ℕ) (value : Data) → Reads n bytes rest → front full rest ≡ Whole value after → Reads (suc n) bytes after
read_more zero bytes rest after value read at = (value, after, (let P : List ℕ → Type 0 = λ b. front full b ≡ Whole value after in subst P read at), refl)
read_more (suc n) bytes rest after value read at = (read.0, read.1, read.2, read_more n read.1 rest after value read.3 at)

read_in_more : FrontKeepsValue → (n : ℕ) (bytes rest more : List ℕ) → Reads n bytes rest → Reads n (bytes ++ more) (rest ++ more)
read_in_more keeps zero bytes rest more read = ap (λ b. b ++ more) read
read_in_more keeps (suc n) bytes rest more read =
    (read.0, read.1 ++ more, keeps full bytes read.1 more read.0 read.2, read_in_more keeps n read.1 rest more read.3)

-- fewer are held too
held_below : (n m : ℕ) (bytes rest : List ℕ) → Reads n bytes rest → m ≤ n → Holds m bytes
held_below n zero bytes rest read few = (bytes, refl)
held_below zero (suc m) bytes rest read few = absurd (omega (arith, few))
held_below (suc n) (suc m) bytes rest read few =
    let then_ = held_below n m read.1 rest read.3 (omega (arith, few)) in (then_.0, (read.0, read.1, read.2, then_.1))

whole-after : (value value' : Data) (after after' : List ℕ) → Whole value after ≡ Whole value' after' → after ≡ after'
whole-after value value' after after' e = ap (λ (f : Front). rest_of f) e where
  rest_of : Front → List ℕ
  rest_of Partial = []
  rest_of (Faulty fault) = []
  rest_of (Whole v a) = a

-- where more are held, another value is whole behind those that were read
more_held : (n m : ℕ) (bytes rest : List ℕ) → Reads n bytes rest → n < m → Holds m bytes → (value : Data) × (after : List ℕ) × (front full rest ≡ Whole value after)
more_held n zero bytes rest read less holds = absurd (omega (arith, less))
more_held zero (suc m) bytes rest read less holds =
    (holds.1.0, holds.1.1, (let P : List ℕ → Type 0 = λ b. front full b ≡ Whole holds.1.0 holds.1.1 in subst P (sym read) holds.1.2))
more_held (suc n) (suc m) bytes rest read less holds =
    let same : holds.1.1 ≡ read.1 = whole-after _ _ _ _ (sym holds.1.2 ∙ read.2) in
    let P : List ℕ → Type 0 = λ b. Holds m b in
    more_held n m read.1 rest read.3 (omega (arith, less)) (subst P same (holds.0, holds.1.3))

-- ---- a reader that counts

pub none_counted : (input : ReaderModel) → input ≡ record { bounds = full; unread = []; fault = None } → IsCounted [] input 0
none_counted input is = rw is (record { rest = []; read = refl; bounds = refl; left = refl })

kept_rest : FrontKeepsFault → (fault : Option WireFault) (unread unread' rest piece : List ℕ) → RestIs fault unread rest
    → ((fault ≡ None) × (unread' ≡ unread ++ piece)) ⊎ ((f : WireFault) × (fault ≡ Some f) × (unread' ≡ unread)) → RestIs fault unread' (rest ++ piece)
kept_rest keeps None unread unread' rest piece is (inl fed) = rw (is, fed.1) refl
kept_rest keeps None unread unread' rest piece is (inr met) = cc
kept_rest keeps (Some fault) unread unread' rest piece is fed = keeps full rest piece fault is

pub fed_counted : FrontKeepsValue → FrontKeepsFault → (bytes piece : List ℕ) (old new : ReaderModel) (count : ℕ) → IsCounted bytes old count → FeedOutcome old piece (Ok tt) new
    → IsCounted (bytes ++ piece) new count
fed_counted values faults bytes piece old new count is (inl fed) = rw fed.1 (record {
  rest = is.rest ++ piece;
  read = read_in_more values count bytes is.rest piece is.read;
  bounds = is.bounds;
  left = kept_rest faults old.fault old.unread (old.unread ++ piece) is.rest piece is.left (inl (fed.0, refl));
})
fed_counted values faults bytes piece old new count is (inr met) = rw met.2 (record {
  rest = is.rest ++ piece;
  read = read_in_more values count bytes is.rest piece is.read;
  bounds = is.bounds;
  left = kept_rest faults old.fault old.unread old.unread is.rest piece is.left (inr (met.0, met.1, refl));
})

rest_unread : (fault : Option WireFault) (unread rest : List ℕ) → fault ≡ None → RestIs fault unread rest → rest ≡ unread
rest_unread None unread rest none is = is
rest_unread (Some fault) unread rest none is = cc

rest_faulty : (fault : Option WireFault) (f : WireFault) (unread rest : List ℕ) → fault ≡ Some f → RestIs fault unread rest → front full rest ≡ Faulty f
rest_faulty None f unread rest met is = cc
rest_faulty (Some fault) f unread rest met is = let P : Option WireFault → Type 0 = λ o. RestIs o unread rest in subst P met is

at_unread : (bytes : List ℕ) (old : ReaderModel) (count : ℕ) (at : Front) (is : IsCounted bytes old count) → old.fault ≡ None → front old.bounds old.unread ≡ at → front full is.rest ≡ at
at_unread bytes old count at is none looks =
    let same : is.rest ≡ old.unread = rest_unread old.fault old.unread is.rest none is.left in
    rw (same, ← is.bounds) looks

pub took_counted : (bytes : List ℕ) (old new : ReaderModel) (count : ℕ) → IsCounted bytes old count → TakeOutcome old (Ok true) new → IsCounted bytes new (count + 1)
took_counted bytes old new count is took =
    let e : suc count ≡ count + 1 = omega arith in
    let P : ℕ → Type 0 = λ k. Reads k bytes new.unread in
    let left : RestIs old.fault new.unread new.unread = (let Q : Option WireFault → Type 0 = λ o. RestIs o new.unread new.unread in subst Q (sym took.0) refl) in
    rw took.3 (record {
      rest = new.unread;
      read = subst P e (read_more count bytes is.rest new.unread took.1 is.read (at_unread bytes old count (Whole took.1 new.unread) is took.0 took.2));
      bounds = is.bounds;
      left = left;
    })

pub stuck_counted : (bytes : List ℕ) (old new : ReaderModel) (count : ℕ) → IsCounted bytes old count → TakeOutcome old (Ok false) new → IsCounted bytes new count
stuck_counted bytes old new count is (inl none) = rw none.2 is
stuck_counted bytes old new count is (inr (fault, (inl met), changed)) =
    rw changed (record { rest = is.rest; read = is.read; bounds = is.bounds; left = rest_faulty old.fault fault old.unread is.rest met is.left })
stuck_counted bytes old new count is (inr (fault, (inr met), changed)) =
    rw changed (record { rest = is.rest; read = is.read; bounds = is.bounds; left = at_unread bytes old count (Faulty fault) is met.0 met.1 })

pub is_stuck : (old new : ReaderModel) → TakeOutcome old (Ok false) new → IsStuck new
is_stuck old new (inl none) = rw none.2 (λ faultless. none.1)
is_stuck old new (inr (fault, met, changed)) = rw changed (λ faultless. cc)

no_more : (fault : Option WireFault) (bounds : LimitsModel) (unread rest after : List ℕ) (value : Data) → RestIs fault unread rest
    → (fault ≡ None → front full unread ≡ Partial) → front full rest ≡ Whole value after → ⊥
no_more None bounds unread rest after value is stuck at =
    let e : front full unread ≡ Whole value after = (let P : List ℕ → Type 0 = λ b. front full b ≡ Whole value after in subst P is at) in
    let f : Partial ≡ Whole value after = sym (stuck refl) ∙ e in cc
no_more (Some fault) bounds unread rest after value is stuck at = let f : Faulty fault ≡ Whole value after = sym is ∙ at in cc

pub all_held : (bytes : List ℕ) (input : ReaderModel) (count owed : ℕ) (reached : Bool) → IsCounted bytes input count → CountOutcome owed reached input count
    → IsTrue reached ↔ Holds owed bytes
all_held bytes input count owed true is outcome = ((λ _. held_below count owed bytes is.rest is.read outcome), (λ _. refl))
all_held bytes input count owed false is outcome = (
  (λ never. absurd (false≢true never)),
  (λ holds. let more = more_held count owed bytes is.rest is.read outcome.0 holds in
      absurd (no_more input.fault input.bounds input.unread is.rest more.1 more.0 is.left (rw (← is.bounds) outcome.1) more.2)),
)

pub held_where_counted : (result : Result Bool NoMemory) (bytes : List ℕ) (input : ReaderModel) (count owed : ℕ) → IsCounted bytes input count
    → IfOk result (λ reached. CountOutcome owed reached input count) → IfOk result (λ all. IsTrue all ↔ Holds owed bytes)
held_where_counted (Ok reached) bytes input count owed is outcome = all_held bytes input count owed reached is outcome
held_where_counted (Err refused) bytes input count owed is outcome = tt

pub served_where_held : (result : Result Bool NoMemory) (bytes pushed : List ℕ) (owed : ℕ) → Owes 0 bytes owed
    → IfOk result (λ all. IsTrue all ↔ Holds owed pushed) → IfOk result (λ all. IsTrue all ↔ ((n : ℕ) × Owes 0 bytes n × Holds n pushed))
served_where_held (Ok all) bytes pushed owed owes is = (
  (λ yes. (owed, owes, is.0 yes)),
  (λ served. is.1 (let P : ℕ → Type 0 = λ k. Holds k pushed in subst P (one_owed 0 bytes served.0 served.1 owed owes) served.2)),
)
served_where_held (Err refused) bytes pushed owed owes is = tt

pub plays_nothing : (script : ScriptModel) → Plays script [] [] [] script
plays_nothing script = (refl, λ i. record script { pulled = sym (append-nil script.pulled) i; pushed = sym (append-nil script.pushed) i; noted = sym (append-nil script.noted) i })

-- the bytes in front of the buffer leave the front of what is left
pub front_played : (client : ℕ) (bytes buffer pushed : List ℕ) (noted : List (Ticket × Ended)) (at n : ℕ)
    → take n buffer ≡ take n (take (length bytes - at) (drop at bytes))
    → Plays (record { client = client; pulled = take at bytes; left = drop at bytes; pushed = pushed; noted = noted }) (take n buffer) [] []
    (record { client = client; pulled = take (at + n) bytes; left = drop (at + n) bytes; pushed = pushed; noted = noted })
front_played client bytes buffer pushed noted at n came =
    let copied : take n buffer ≡ take n (drop at bytes) = came ∙ ap (take n) (take_all (length bytes - at) (drop at bytes) (omega (arith, length-drop at bytes))) in
    let pulled : take (at + n) bytes ≡ take at bytes ++ take n buffer = take-add at n bytes ∙ ap (λ b. take at bytes ++ b) (sym copied) in
    let left : drop at bytes ≡ take n buffer ++ drop (at + n) bytes =
    sym (take-append-drop n (drop at bytes)) ∙ (λ i. sym copied i ++ drop-drop n at bytes i) in
    let pushed_is = sym (append-nil pushed) in
    let noted_is = sym (append-nil noted) in
    (left, (λ i. record { client = client; pulled = pulled i; left = drop (at + n) bytes; pushed = pushed_is i; noted = noted_is i }))
