-- The log and the machine, after an event that adds one mark.
use Rattle.std.proofs.Common.{◌≡◌, ◌≢◌, ◌⊎◌, ⊎_elim, ℕ, suc, ◌+◌, ◌<◌, ◌≤◌, ◌==◌, true, false, if◌then◌else◌, List, [], ◌∷◌, ◌++◌, refl, sym, ap, ◌∙◌, arith, length}
use Rattle.std.specs.Prelude.{map}
use Rattle.std.proofs.lemmas.Bool.Decides.{eqb_tells}
use Rattle.std.proofs.lemmas.List.{append_assoc, length-append}
use Rattle.key_split.specs.PartModel.{PartModel}
use Rattle.key_split.specs.declared.travel.Ticket.{Ticket}
use Rattle.key_split.specs.declared.travel.Ended.{Ended}
use Rattle.node_model.specs.History.{EntryModel}
use Rattle.world_laws.specs.State.{WorldModel}
use Rattle.world_laws.specs.declared.state.Arrival.{Arrival}
use Rattle.world_laws.specs.declared.history.Answer.{Answer}
use Rattle.turn_laws.specs.System.{Mark, Arrived, Executed, Answered}
use Rattle.turn_laws.specs.Shadow.{LogShadow, entry_at, arrived_in, executed_in, answered_in}

-- what the machine's lists say, as marks have it
abbrev pub arrivals_of : List Arrival → List (Ticket × PartModel × ℕ)
arrivals_of commands = map (λ (c : Arrival). (c.command.ticket, c.command.part, c.arrived)) commands

abbrev pub answers_of : List Answer → List (Ticket × Ended × ℕ)
answers_of answers = map (λ (a : Answer). (a.ticket, a.ended, a.answered)) answers

-- two clocks that agree on the log: what follows begins at place e
module _ (clock later : ℕ → ℕ) (marks : List Mark) (e : ℕ) where
  abbrev Agree : ℕ → List Mark → Type 0
  Agree n log = (i : ℕ) → n ≤ i → i < e → later i ≡ clock i

  behind : (n : ℕ) (mark : Mark) (log : List Mark) → e ≡ n + length (mark ∷ log) → Agree n (mark ∷ log) → Agree (suc n) log
  behind n mark log is same i le lt = same i (omega (arith, le)) lt

  first : (n : ℕ) (mark : Mark) (log : List Mark) → e ≡ n + length (mark ∷ log) → Agree n (mark ∷ log) → later n ≡ clock n
  first n mark log is same = same n (omega arith) (omega (arith, is))

  rest : (n : ℕ) (mark : Mark) (log : List Mark) → e ≡ n + length (mark ∷ log) → e ≡ suc n + length log
  rest n mark log is = omega (arith, is)

  pub arrived-more : (n : ℕ) (log : List Mark) → e ≡ n + length log → Agree n log → arrived_in later n (log ++ marks) ≡ arrived_in clock n log ++ arrived_in later e marks
  arrived-more n [] is same = ap (λ m. arrived_in later m marks) (omega (arith, is))
  arrived-more n (Arrived t p ∷ log) is same =
      let r = arrived-more (suc n) log (rest n (Arrived t p) log is) (behind n (Arrived t p) log is same) in
      λ i. (t, p, first n (Arrived t p) log is same i) ∷ r i
  arrived-more n (Executed done ∷ log) is same = arrived-more (suc n) log (rest n (Executed done) log is) (behind n (Executed done) log is same)
  arrived-more n (Answered t end ∷ log) is same = arrived-more (suc n) log (rest n (Answered t end) log is) (behind n (Answered t end) log is same)

  pub executed-more : (n : ℕ) (log : List Mark) → e ≡ n + length log → Agree n log → executed_in later n (log ++ marks) ≡ executed_in clock n log ++ executed_in later e marks
  executed-more n [] is same = ap (λ m. executed_in later m marks) (omega (arith, is))
  executed-more n (Arrived t p ∷ log) is same = executed-more (suc n) log (rest n (Arrived t p) log is) (behind n (Arrived t p) log is same)
  executed-more n (Executed done ∷ log) is same =
      let r = executed-more (suc n) log (rest n (Executed done) log is) (behind n (Executed done) log is same) in
      (λ i. map (entry_at (first n (Executed done) log is same i)) done ++ r i) ∙ sym (append_assoc (map (entry_at (clock n)) done) (executed_in clock (suc n) log) (executed_in later e marks))
  executed-more n (Answered t end ∷ log) is same = executed-more (suc n) log (rest n (Answered t end) log is) (behind n (Answered t end) log is same)

  pub answered-more : (n : ℕ) (log : List Mark) → e ≡ n + length log → Agree n log → answered_in later n (log ++ marks) ≡ answered_in clock n log ++ answered_in later e marks
  answered-more n [] is same = ap (λ m. answered_in later m marks) (omega (arith, is))
  answered-more n (Arrived t p ∷ log) is same = answered-more (suc n) log (rest n (Arrived t p) log is) (behind n (Arrived t p) log is same)
  answered-more n (Executed done ∷ log) is same = answered-more (suc n) log (rest n (Executed done) log is) (behind n (Executed done) log is same)
  answered-more n (Answered t end ∷ log) is same =
      let r = answered-more (suc n) log (rest n (Answered t end) log is) (behind n (Answered t end) log is same) in
      λ i. (t, end, first n (Answered t end) log is same i) ∷ r i

-- the marks of one event, at its moment
abbrev pub arrived_at : ℕ → Mark → List (Ticket × PartModel × ℕ)
arrived_at moment mark = arrived_in (λ _. moment) 0 (mark ∷ [])

abbrev pub executed_at : ℕ → Mark → List EntryModel
executed_at moment mark = executed_in (λ _. moment) 0 (mark ∷ [])

abbrev pub answered_at : ℕ → Mark → List (Ticket × Ended × ℕ)
answered_at moment mark = answered_in (λ _. moment) 0 (mark ∷ [])

-- place e has this moment
module _ (clock : ℕ → ℕ) (e moment : ℕ) (is : clock e ≡ moment) where
  arrived-one : (mark : Mark) → arrived_in clock e (mark ∷ []) ≡ arrived_at moment mark
  arrived-one (Arrived t p) = ap (λ m. arrived_at m (Arrived t p)) is
  arrived-one (Executed done) = refl
  arrived-one (Answered t end) = refl

  executed-one : (mark : Mark) → executed_in clock e (mark ∷ []) ≡ executed_at moment mark
  executed-one (Arrived t p) = refl
  executed-one (Executed done) = ap (λ m. executed_at m (Executed done)) is
  executed-one (Answered t end) = refl

  answered-one : (mark : Mark) → answered_in clock e (mark ∷ []) ≡ answered_at moment mark
  answered-one (Arrived t p) = refl
  answered-one (Executed done) = refl
  answered-one (Answered t end) = ap (λ m. answered_at m (Answered t end)) is

-- the clock with this moment at this place
abbrev clock_with : (ℕ → ℕ) → ℕ → ℕ → ℕ → ℕ
clock_with clock e moment i = if i == e then moment else clock i

module _ (clock : ℕ → ℕ) (e moment : ℕ) where
  there : clock_with clock e moment e ≡ moment
  there = ⊎_elim
      (λ (z : ((e == e) ≡ true) × (e ≡ e)). ap (λ b. if b then moment else clock e) z.0)
      (λ (z : ((e == e) ≡ false) × (e ≢ e)). absurd (z.1 refl))
      (eqb_tells e e)

  elsewhere : (i : ℕ) → i < e → clock_with clock e moment i ≡ clock i
  elsewhere i lt = ⊎_elim
      (λ (z : ((i == e) ≡ true) × (i ≡ e)). absurd (omega (arith, lt, z.1)))
      (λ (z : ((i == e) ≡ false) × (i ≢ e)). ap (λ b. if b then moment else clock i) z.0)
      (eqb_tells i e)

below : (i n : ℕ) → i < n + 1 → (i < n) ⊎ (i ≡ n)
below i n lt = grind (arith, lt)

-- the log with one mark more, and the machine after that event
module _ (log : List Mark) (w w' : WorldModel) (mark : Mark) (moment : ℕ) (h : LogShadow log w) (lt : w.moment < moment) (le : moment ≤ w'.moment)
    (arrived : arrivals_of w'.commands ≡ arrivals_of w.commands ++ arrived_at moment mark)
    (executed : w'.history ≡ w.history ++ executed_at moment mark)
    (answered : answers_of w'.answers ≡ answers_of w.answers ++ answered_at moment mark) where
  abbrev e : ℕ
  e = length log

  abbrev clock : ℕ → ℕ
  clock = clock_with h.clock (length log) moment

  at : clock e ≡ moment
  at = there h.clock e moment

  within : (i : ℕ) → i < length (log ++ mark ∷ []) → (i < e) ⊎ (i ≡ e)
  within i in_log = below i e (omega (arith, in_log, length-append log (mark ∷ [])))

  same : (i : ℕ) → 0 ≤ i → i < e → clock i ≡ h.clock i
  same i _ inside = elsewhere h.clock e moment i inside

  pub log-one : LogShadow (log ++ mark ∷ []) w'
  log-one = record {
    clock = clock;
    rises = λ i j before in_log. ⊎_elim
        (λ (inside : j < e). omega (arith, same i (omega arith) (omega (arith, before, inside)), same j (omega arith) inside, h.rises i j before inside))
        (λ (last : j ≡ e). omega (arith, ap clock last, at, same i (omega arith) (omega (arith, before, last)), h.past i (omega (arith, before, last)), lt))
        (within j in_log);
    past = λ i in_log. ⊎_elim
        (λ (inside : i < e). omega (arith, same i (omega arith) inside, h.past i inside, lt, le))
        (λ (last : i ≡ e). omega (arith, ap clock last, at, le))
        (within i in_log);
    arrived = arrived-more h.clock clock (mark ∷ []) e 0 log (omega arith) same ∙ (λ i. h.arrived i ++ arrived-one clock e moment at mark i) ∙ sym arrived;
    executed = executed-more h.clock clock (mark ∷ []) e 0 log (omega arith) same ∙ (λ i. h.executed i ++ executed-one clock e moment at mark i) ∙ sym executed;
    answered = answered-more h.clock clock (mark ∷ []) e 0 log (omega arith) same ∙ (λ i. h.answered i ++ answered-one clock e moment at mark i) ∙ sym answered;
  }
