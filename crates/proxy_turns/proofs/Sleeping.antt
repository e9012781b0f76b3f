-- Who sleeps at a place, and goes on to.
use Rattle.std.proofs.Common.{◌≡◌, ◌≢◌, ◌∙◌, ◌<◌, ◌≤◌, ◌+◌, ◌-◌, ◌++◌, ◌∷◌, ◌==◌, [], ℕ, zero, suc, nat_eq, Bool, true, false, cond, List, Option, Some, None, inl, inr, refl, sym, ap, subst, arith, length, position, get_or, drop, slice_get, slice_range, slice_set, take, slice_index_or, swap_remove, eqb→eq}
use Rattle.std.specs.Prelude.{◌⊎◌, All, MatchOption, T}
use Rattle.std.proofs.lemmas.Bool.{false≢true}
use Rattle.std.proofs.lemmas.Bool.Decides.{nat_tests}
use Rattle.std.proofs.lemmas.List.{length-append}
use Rattle.std.proofs.lemmas.Option.{slice_get-get_or}
use Rattle.std.proofs.lemmas.List.Elements.{All-cons, All-nil}
use Rattle.std.proofs.lemmas.List.Quantifiers.{position-Some}
use Rattle.std.specs.Map.{keys_of}
use Rattle.std.specs.FinMap.{from_entries, get, insert}
use Rattle.std.specs.Ordering.{nat_cmp}
use Rattle.indexmap.specs.IndexMap.{IndexMap, IsUnique, set_value_at, values}
use Rattle.key_split.specs.Runs.{RunModel}
use Rattle.proxy_lanes.specs.declared.ring.Outlet.{Outlet}
use Rattle.proxy_turns.specs.ClientModel.{ClientModel, IsDone}
use Rattle.proxy_turns.specs.ClientRest.{HasNoPlace, IsAsleep, IsClientAtRest}
use Rattle.proxy_turns.specs.ClientTable.{IsAtRestAt, IsStillAt, RestBetween}
use Rattle.proxy_turns.specs.Sleepers.{AreAsleep, IsAsleepAt, IsMarked, IsNextAwake}
use Rattle.proxy_turns.proofs.ClientResting.{asleep_rests}
use Rattle.proxy_turns.specs.Awake.{IsAwake}
use Rattle.proxy_turns.proofs.Posting.{front_item, some_same}
use Rattle.proxy_turns.proofs.Rounds.{set_here, set_others, still_on}
use Rattle.proxy_turns.proofs.Tables.{none_some, wrote_at}

-- ---- marks

same_or_not : (P : Type 0) (a b : ℕ) → (a ≡ b → P) → (a ≢ b → P) → P
same_or_not P a b same apart = by (nat_eq a b) refl
  where
    by : (t : Bool) → nat_eq a b ≡ t → P
    by true is = same (eqb→eq a b (subst T (sym is) tt))
    by false is = apart (λ e. false≢true (sym is ∙ ap (nat_eq a) (sym e) ∙ own a))
      where
        own : (n : ℕ) → nat_eq n n ≡ true
        own n = grind (arith, nat_tests)

pub none_marked : (place : ℕ) → IsMarked [] place → ⊥
none_marked place (mark, there, is) = none_some mark there

-- a mark of one that is awake, behind all
pub marked_before : (marks : List ℕ) (place : ℕ) → IsMarked (marks ++ 0 ∷ []) place → IsMarked marks place
marked_before [] zero (mark, there, is) = absurd (is (cc))
marked_before [] (suc place) (mark, there, is) = absurd (none_some mark there)
marked_before (m ∷ marks) zero marked = marked
marked_before (m ∷ marks) (suc place) marked = marked_before marks place marked

pub marked_others : (marks : List ℕ) (place mark other : ℕ) → other ≢ place → IsMarked (slice_set marks place mark) other → IsMarked marks other
marked_others [] place mark other apart marked = marked
marked_others (m ∷ marks) zero mark zero apart marked = absurd (apart refl)
marked_others (m ∷ marks) zero mark (suc other) apart marked = marked
marked_others (m ∷ marks) (suc place) mark zero apart marked = marked
marked_others (m ∷ marks) (suc place) mark (suc other) apart marked = marked_others marks place mark other (λ same. apart (ap suc same)) marked

pub marked_here : (marks : List ℕ) (place mark : ℕ) → IsMarked (slice_set marks place mark) place → mark ≢ 0
marked_here [] place mark (m, there, is) = absurd (none_some m there)
marked_here (x ∷ marks) zero mark (m, there, is) = λ none. is (cc)
marked_here (x ∷ marks) (suc place) mark marked = marked_here marks place mark marked

-- none is marked behind them
pub marked_within : (marks : List ℕ) (place : ℕ) → IsMarked marks place → place < length marks
marked_within [] place (mark, there, is) = absurd (none_some mark there)
marked_within (m ∷ marks) zero marked = omega arith
marked_within (m ∷ marks) (suc place) marked = omega (arith, marked_within marks place marked)

-- of one that was woken
pub woken_others : (old new : List ℕ) (place : ℕ) → ((other : ℕ) → other ≢ place → IsMarked new other → IsMarked old other) → (IsMarked new place → ⊥)
    → (other : ℕ) → IsMarked new other → IsMarked old other
woken_others old new place others woken other marked =
    same_or_not (IsMarked old other) other place (λ same. absurd (woken (subst (IsMarked new) same marked))) (λ apart. others other apart marked)

-- each mark that is another
pub marked_by : (marks : List ℕ) (k : ℕ) → k < length marks → ((get_or marks k 0 == 0) ≡ true → ⊥) → IsMarked marks k
marked_by marks k lt other = (get_or marks k 0, slice_get-get_or marks k 0 lt, λ is. other (ap (λ m. m == 0) is))

-- the same place, counted from another one
marked_behind : (n : ℕ) (marks : List ℕ) (k : ℕ) → IsMarked (drop n marks) k → IsMarked marks (n + k)
marked_behind zero marks k marked = let same : k ≡ 0 + k = omega arith in subst (IsMarked marks) same marked
marked_behind (suc n) [] k (mark, there, is) = absurd (none_some mark there)
marked_behind (suc n) (m ∷ marks) k marked =
    let same : suc (n + k) ≡ suc n + k = omega arith in subst (IsMarked (m ∷ marks)) same (marked_next (n + k) m marks (marked_behind n marks k marked))
  where
    marked_next : (k : ℕ) (m : ℕ) (marks : List ℕ) → IsMarked marks k → IsMarked (m ∷ marks) (suc k)
    marked_next k m marks marked = marked

marked_front : (n : ℕ) (marks : List ℕ) (k : ℕ) → IsMarked (take n marks) k → IsMarked marks k
marked_front zero marks k marked = absurd (none_marked k marked)
marked_front (suc n) [] k marked = marked
marked_front (suc n) (m ∷ marks) zero marked = marked
marked_front (suc n) (m ∷ marks) (suc k) marked = marked_front n marks k marked

-- the same of a part of them
pub marked_in : (from to : ℕ) (all marks part : List ℕ) (place : ℕ) → all ≡ marks → part ≡ slice_range all from to → from ≤ place → IsMarked part (place - from) → IsMarked marks place
marked_in from to all marks part place same is behind marked =
    let inside : IsMarked all (from + (place - from)) = marked_behind from all (place - from) (marked_front (to - from) (drop from all) (place - from) (subst (λ xs. IsMarked xs (place - from)) is marked)) in
    let place_is : from + (place - from) ≡ place = omega (arith, behind) in
    subst (λ xs. IsMarked xs place) same (subst (IsMarked all) place_is inside)

-- ---- who stands at a place

module _ {X : Type 0} where
  at_key : (entries : List (ℕ × X)) (i k : ℕ) → i < length (keys_of entries) → nat_eq k (get_or (keys_of entries) i 0) ≡ true → (x : X) × (slice_get entries i ≡ Some (k, x))
  at_key [] i k lt is = absurd (omega (arith, lt))
  at_key (e ∷ entries) zero k lt is = let same : k ≡ e.0 = eqb→eq k e.0 (subst T (sym is) tt) in (e.1, λ j. Some (sym same j, e.1))
  at_key (e ∷ entries) (suc i) k lt is = at_key entries i k (omega (arith, lt)) is

  pub length_more : (entries : List (ℕ × X)) (e : ℕ × X) (new : List (ℕ × X)) → new ≡ entries ++ e ∷ [] → length new ≤ length entries + 1
  length_more entries e new is = omega (arith, ap length is, length-append entries (e ∷ []))

  -- who stands at the place of a number has it
  pub placed : (entries : List (ℕ × X)) (number place : ℕ) → Some place ≡ position (nat_eq number) (keys_of entries) → (x : X) × (slice_get entries place ≡ Some (number, x))
  placed entries number place is =
      let first = position-Some (nat_eq number) (keys_of entries) place 0 (sym is) in
      at_key entries place number first.0 first.1

module _ {C : Type 0} (gives_none : C → Type 0) where
  -- those before the next that is awake
  pub asleep_until : (marks : List ℕ) (entries : List (ℕ × ClientModel C)) (from end : ℕ) (result : Option ℕ) → AreAsleep gives_none marks entries → IsNextAwake marks from end result
      → (place : ℕ) → from ≤ place → MatchOption result (place < end) (λ next. place < next) → IsAsleepAt gives_none entries place
  asleep_until marks entries from end None asleep next place behind before = asleep place (next place behind before)
  asleep_until marks entries from end (Some other) asleep next place behind before = asleep place (next.2 place behind before)

  -- one was woken, and has changed
  pub asleep_but : (marks marks' : List ℕ) (entries : List (ℕ × ClientModel C)) (place : ℕ) (client : ClientModel C) → AreAsleep gives_none marks entries
      → ((other : ℕ) → IsMarked marks' other → IsMarked marks other) → (IsMarked marks' place → ⊥) → AreAsleep gives_none marks' (set_value_at entries place client)
  asleep_but marks marks' entries place client asleep others awake other marked =
      let was = asleep other (others other marked) in
      (was.0, was.1, set_others entries place other client (λ same. awake (subst (IsMarked marks') same marked)) ∙ was.2, was.3)

  -- the last has taken the place of another, neither of which slept
  taken : (n : ℕ) (entries : List (ℕ × ClientModel C)) (k : ℕ) → k < n → slice_get (take n entries) k ≡ slice_get entries k
  taken zero entries k lt = absurd (omega (arith, lt))
  taken (suc n) [] k lt = refl
  taken (suc n) (e ∷ entries) zero lt = refl
  taken (suc n) (e ∷ entries) (suc k) lt = taken n entries k (omega (arith, lt))

  put_elsewhere : (entries : List (ℕ × ClientModel C)) (i k : ℕ) (e : ℕ × ClientModel C) → k ≢ i → slice_get (slice_set entries i e) k ≡ slice_get entries k
  put_elsewhere [] i k e apart = refl
  put_elsewhere (x ∷ entries) zero zero e apart = absurd (apart refl)
  put_elsewhere (x ∷ entries) zero (suc k) e apart = refl
  put_elsewhere (x ∷ entries) (suc i) zero e apart = refl
  put_elsewhere (x ∷ entries) (suc i) (suc k) e apart = put_elsewhere entries i k e (λ same. apart (ap suc same))

  pub within : (entries : List (ℕ × ClientModel C)) (k : ℕ) (e : ℕ × ClientModel C) → slice_get entries k ≡ Some e → k < length entries
  within [] k e at = absurd (none_some e at)
  within (x ∷ entries) zero e at = omega arith
  within (x ∷ entries) (suc k) e at = omega (arith, within entries k e at)

  pub asleep_less : (marks : List ℕ) (entries : List (ℕ × ClientModel C)) (place last : ℕ) (e : ℕ × ClientModel C) → AreAsleep gives_none marks entries
      → (IsMarked marks place → ⊥) → (IsMarked marks last → ⊥) → last + 1 ≡ length entries → AreAsleep gives_none marks (swap_remove entries place e)
  asleep_less marks entries place last e asleep awake awake_too is other marked =
      let was = asleep other marked in
      let apart : other ≢ place = λ same. awake (subst (IsMarked marks) same marked) in
      let not_last : other ≢ last = λ same. awake_too (subst (IsMarked marks) same marked) in
      let lt : other < length entries - 1 = omega (arith, within entries other (was.0, was.1) was.2, not_last, is) in (
        was.0,
        was.1,
        taken (length entries - 1) (slice_set entries place (slice_index_or entries (length entries - 1) e)) other lt
            ∙ put_elsewhere entries place other (slice_index_or entries (length entries - 1) e) apart ∙ was.2,
        was.3,
      )

  -- one came behind all
  appended : (entries : List (ℕ × ClientModel C)) (k : ℕ) (e new : ℕ × ClientModel C) → slice_get entries k ≡ Some e → slice_get (entries ++ new ∷ []) k ≡ Some e
  appended [] k e new at = absurd (none_some e at)
  appended (x ∷ entries) zero e new at = at
  appended (x ∷ entries) (suc k) e new at = appended entries k e new at

  pub asleep_more : (marks : List ℕ) (entries : List (ℕ × ClientModel C)) (new : ℕ × ClientModel C) → AreAsleep gives_none marks entries → AreAsleep gives_none marks (entries ++ new ∷ [])
  asleep_more marks entries new asleep other marked = let was = asleep other marked in (was.0, was.1, appended entries other (was.0, was.1) new was.2, was.3)

  -- of one that is awake, or fell asleep
  pub asleep_if : (marks marks' : List ℕ) (entries : List (ℕ × ClientModel C)) (place k : ℕ) (client client' : ClientModel C) (asleep : Bool) → AreAsleep gives_none marks (set_value_at entries place client')
      → ((other : ℕ) → other ≢ place → IsMarked marks' other → IsMarked marks other) → (asleep ≡ false → IsMarked marks' place → ⊥)
      → slice_get entries place ≡ Some (k, client) → (asleep ≡ true → IsAsleep gives_none client') → AreAsleep gives_none marks' (set_value_at entries place client')
  asleep_if marks marks' entries place k client client' asleep were others awake at sleeps other marked =
      same_or_not (IsAsleepAt gives_none (set_value_at entries place client') other) other place
      (λ same. by asleep awake sleeps same (subst (IsMarked marks') same marked))
      (λ apart. were other (others other apart marked))
    where
      by : (b : Bool) → (b ≡ false → IsMarked marks' place → ⊥) → (b ≡ true → IsAsleep gives_none client') → other ≡ place → IsMarked marks' place → IsAsleepAt gives_none (set_value_at entries place client') other
      by true awake sleeps same marked = (k, client', ap (slice_get (set_value_at entries place client')) same ∙ set_here entries place k client client' at, sleeps refl)
      by false awake sleeps same marked = absurd (awake refl marked)

-- what a change of the client at the place of a number makes of the table
module _ {X S : Type 0} (m : IndexMap ℕ X S) (place number : ℕ) (c c' : X) where
  pub changed : slice_get (values m) place ≡ Some c → IsUnique nat_eq m → (x : X) × (slice_get m.entries place ≡ Some (number, x))
      → (get (from_entries {R = nat_cmp} m.entries) number ≡ Some c) × (from_entries {R = nat_cmp} (set_value_at m.entries place c') ≡ insert (from_entries {R = nat_cmp} m.entries) number c')
  changed at unique (x, there) =
      let put = wrote_at m place c c' at unique in
      let same : put.0 ≡ number = ap (λ (e : ℕ × X). e.0) (some_same (put.0, c) (number, x) (sym put.3 ∙ there)) in
      subst (λ k. (get (from_entries {R = nat_cmp} m.entries) k ≡ Some c) × (from_entries {R = nat_cmp} (set_value_at m.entries place c') ≡ insert (from_entries {R = nat_cmp} m.entries) k c')) same (put.1, put.2)

-- ---- those that sleep are at rest

less : (a b : ℕ) → (a < b) ⊎ (b ≤ a)
less zero zero = inr (omega arith)
less zero (suc b) = inl (omega arith)
less (suc a) zero = inr (omega arith)
less (suc a) (suc b) = by (less a b)
  where
    by : (a < b) ⊎ (b ≤ a) → (suc a < suc b) ⊎ (suc b ≤ suc a)
    by (inl l) = inl (omega (arith, l))
    by (inr g) = inr (omega (arith, g))

module _ {C : Type 0} (gives_none takes_none : C → Type 0) where
  asleep_at_rest : (entries : List (ℕ × ClientModel C)) (place : ℕ) (outlet : Outlet RunModel) → IsAsleepAt gives_none entries place → IsAtRestAt gives_none takes_none entries outlet place
  asleep_at_rest entries place outlet (number, client, there, sleeps) entry at =
      subst (λ (e : ℕ × ClientModel C). (IsDone e.1 → ⊥) × IsClientAtRest gives_none takes_none e.1 outlet) (some_same (number, client) entry (sym there ∙ at))
      (sleeps.undone, asleep_rests takes_none gives_none client outlet sleeps)

  -- nobody has had a turn yet
  pub rests_first : (from : ℕ) (entries : List (ℕ × ClientModel C)) (outlet : Outlet RunModel) → RestBetween gives_none takes_none from from entries outlet entries outlet
  rests_first from entries outlet = record { rests = by; len = refl }
    where
      by : (place : ℕ) → IsAtRestAt gives_none takes_none entries outlet place ⊎ ((from ≤ place) × (place < from)) → IsAtRestAt gives_none takes_none entries outlet place
      by place (inl was) = was
      by place (inr (behind, before)) = absurd (omega (arith, behind, before))

  module _ (from next end : ℕ) (first : List (ℕ × ClientModel C)) (o0 : Outlet RunModel) where
    -- those from the next place on sleep
    pub rests_past : (entries : List (ℕ × ClientModel C)) (o : Outlet RunModel) → RestBetween gives_none takes_none from next first o0 entries o
        → ((place : ℕ) → next ≤ place → place < end → IsAsleepAt gives_none entries place) → RestBetween gives_none takes_none from end first o0 entries o
    rests_past entries o was asleep = record { rests = by; len = was.len }
      where
        by : (place : ℕ) → IsAtRestAt gives_none takes_none first o0 place ⊎ ((from ≤ place) × (place < end)) → IsAtRestAt gives_none takes_none entries o place
        by place (inl rests) = was.rests place (inl rests)
        by place (inr (behind, before)) = by_place (less place next)
          where
            by_place : (place < next) ⊎ (next ≤ place) → IsAtRestAt gives_none takes_none entries o place
            by_place (inl l) = was.rests place (inr (behind, l))
            by_place (inr g) = asleep_at_rest entries place o (asleep place g before)

  -- one more has had its turn, which moved nothing
  pub rests_too : (from place : ℕ) (first old new : List (ℕ × ClientModel C)) (o0 o o' : Outlet RunModel) → (HasNoPlace o → HasNoPlace o') → RestBetween gives_none takes_none from place first o0 old o
      → IsStillAt gives_none takes_none old place o' new → RestBetween gives_none takes_none from (place + 1) first o0 new o'
  rests_too from place first old new o0 o o' full was still = record { rests = by; len = still.len ∙ was.len }
    where
      by : (other : ℕ) → IsAtRestAt gives_none takes_none first o0 other ⊎ ((from ≤ other) × (other < place + 1)) → IsAtRestAt gives_none takes_none new o' other
      by other (inl rests) = still_on gives_none takes_none old new place other o o' full still (was.rests other (inl rests))
      by other (inr (behind, before)) = by_place (less other place)
        where
          by_place : (other < place) ⊎ (place ≤ other) → IsAtRestAt gives_none takes_none new o' other
          by_place (inl l) = still_on gives_none takes_none old new place other o o' full still (was.rests other (inr (behind, l)))
          by_place (inr g) = let here : place ≡ other = omega (arith, g, before) in subst (IsAtRestAt gives_none takes_none new o') here still.here

  -- a whole round, in two parts
  pub rests_round : (first count : ℕ) (s0 s1 s2 : List (ℕ × ClientModel C)) (o0 o1 o2 : Outlet RunModel) → length s0 ≡ count → RestBetween gives_none takes_none first count s0 o0 s1 o1
      → RestBetween gives_none takes_none 0 first s1 o1 s2 o2 → (place : ℕ) → place < length s2 → IsAtRestAt gives_none takes_none s2 o2 place
  rests_round first count s0 s1 s2 o0 o1 o2 is behind before place lt = by (less place first)
    where
      by : (place < first) ⊎ (first ≤ place) → IsAtRestAt gives_none takes_none s2 o2 place
      by (inl l) = before.rests place (inr (omega arith, l))
      by (inr g) = before.rests place (inl (behind.rests place (inr (g, omega (arith, lt, before.len, behind.len, is)))))

-- ---- those that are woken, one after another

module _ {C : Type 0} (entries : List (ℕ × ClientModel C)) where
  awake_still : (marks marks' : List ℕ) (number : ℕ) → ((place : ℕ) → IsMarked marks' place → IsMarked marks place) → IsAwake entries marks number → IsAwake entries marks' number
  awake_still marks marks' number fewer (None, none, awake) = (None, none, tt)
  awake_still marks marks' number fewer (Some at, there, awake) = (Some at, there, λ marked. awake (fewer at marked))

  first_is : (rest : List ℕ) → 1 ≤ length rest → get_or rest 0 0 ≡ get_or rest 0 (get_or rest 0 0)
  first_is [] some = absurd (omega (arith, some))
  first_is (number ∷ rest) some = refl

  pub one_more_awake : (all rest before marks : List ℕ) → 1 ≤ length rest
      → ((place : ℕ) → IsMarked marks place → IsMarked before place) → IsAwake entries marks (get_or rest 0 0)
      → ((m : List ℕ) → ((place : ℕ) → IsMarked m place → IsMarked before place) → All (IsAwake entries m) rest → All (IsAwake entries m) all)
      → (m : List ℕ) → ((place : ℕ) → IsMarked m place → IsMarked marks place) → All (IsAwake entries m) (take (length rest - 1) (drop 1 rest)) → All (IsAwake entries m) all
  one_more_awake all rest before marks some fewer here so_far m below later =
      let number = get_or rest 0 0 in
      let tail = take (length rest - 1) (drop 1 rest) in
      so_far m (λ place marked. fewer place (below place marked))
      (subst (All (IsAwake entries m)) (sym (front_item rest number some (first_is rest some))) (All-cons (IsAwake entries m) number tail (awake_still marks m number below here) later))

pub all_awake : (P : ℕ → Type 0) (rest : List ℕ) → length rest < 1 → All P rest
all_awake P [] none = All-nil P
all_awake P (number ∷ rest) none = absurd (omega (arith, none))
