-- The headline of a log, by that of a world of which it tells.
use Rattle.std.proofs.Common.{◌≡◌, ◌≢◌, ◌⊎◌, ⊎_elim, ℕ, ◌+◌, ◌<◌, List, Some, refl, sym, ap, ◌∙◌, subst, arith, length}
use Rattle.std.specs.FinMap.{get}
use Rattle.std.proofs.lemmas.Option.{slice_get_within}
use Rattle.resp_wire.specs.Seen.{data_of}
use Rattle.resp_wire.specs.declared.value.Value.{Value}
use Rattle.slot_hash.specs.Slot.{slot_of}
use Rattle.key_split.specs.PartModel.{PartModel}
use Rattle.key_split.specs.declared.travel.Ticket.{Ticket}
use Rattle.key_split.specs.declared.travel.Ended.{Ended}
use Rattle.key_split.specs.declared.travel.Ended.TheVariants as ended
use Rattle.command_future.specs.declared.stage.Stage.TheVariants.{Over}
use Rattle.node_model.specs.History.{EntryModel, IsLegal as IsLegalInWorld, left_by as left_in_world}
use Rattle.node_model.specs.Store.{StoreModel}
use Rattle.world_laws.specs.State.{WorldModel}
use Rattle.world_laws.specs.declared.state.Arrival.{Arrival}
use Rattle.world_laws.specs.Headline.{HeadlineOf, EndedAs, store_of}
use Rattle.world_laws.specs.declared.history.Answer.{Answer}
use Rattle.world_laws.proofs.Recorded.{one_at}
use Rattle.turn_laws.specs.Wire.{Execution}
use Rattle.turn_laws.specs.System.{Mark, Arrived, Executed, Answered}
use Rattle.turn_laws.specs.Shadow.{LogShadow, entry_at}
use Rattle.turn_laws.specs.LogHeadline.{LogHeadlineOf, EachExecutionArrived, NoneIsExecutedTwice, IsHeld, At, IsIn, IsExecutedAt, HasOne, SameTurn, history, left_by}
use Rattle.turn_laws.proofs.Logs.{arrivals_of, answers_of}
use Rattle.shared_laws.specs.Shared.{IsOwn}
use Rattle.turn_laws.specs.SharedLog.{LogHeadlineFollows}
use Rattle.turn_laws.specs.Walks.{IsSharedWalked}
use Rattle.turn_laws.proofs.AnswerOrder.{answered-behind, answered-late}
use Rattle.turn_laws.proofs.LogPlaces.{at-map, map-at, arrival-in, arrival-of, answer-in, answer-of, entry-in, execution-of, entry-at-mark, legal-of, left-of}

order : (i j : ℕ) → (i < j) ⊎ ((i ≡ j) ⊎ (j < i))
order i j = grind arith

module _ (Ours : Ticket → Type 0) (log : List Mark) (w : WorldModel) (h : LogShadow log w) (walked : IsSharedWalked w) (g : HeadlineOf Ours w) where
  -- what the clock has earlier stands earlier
  earlier : (i j : ℕ) → i < length log → h.clock i < h.clock j → i < j
  earlier i j within lt = ⊎_elim
      (λ (z : i < j). z)
      (λ (z : (i ≡ j) ⊎ (j < i)). ⊎_elim
      (λ (y : i ≡ j). absurd (omega (arith, lt, ap h.clock y)))
      (λ (y : j < i). absurd (omega (arith, lt, h.rises j i y within)))
      z)
      (order i j)

  one-place : (i j : ℕ) → i < length log → j < length log → h.clock i ≡ h.clock j → i ≡ j
  one-place i j in-i in-j same = ⊎_elim
      (λ (z : i < j). absurd (omega (arith, same, h.rises i j z in-j)))
      (λ (z : (i ≡ j) ⊎ (j < i)). ⊎_elim
      (λ (y : i ≡ j). y)
      (λ (y : j < i). absurd (omega (arith, same, h.rises j i y in-i)))
      z)
      (order i j)

  inside : (i : ℕ) (mark : Mark) → At log i mark → i < length log
  inside i mark there = slice_get_within log i mark there

  -- the command of an arrival,
  command-of : (a : ℕ) (t : Ticket) (p : PartModel) → At log a (Arrived t p)
      → (c : Arrival) × IsIn w.commands c × (c.command.ticket ≡ t) × (c.command.part ≡ p) × (c.arrived ≡ h.clock a)
  command-of a t p there =
      let r = arrival-in h.clock 0 log a t p there in
      let moved : At (arrivals_of w.commands) r.0 (t, p, h.clock (0 + a)) = subst (λ xs. At xs r.0 (t, p, h.clock (0 + a))) h.arrived r.1 in
      let m = at-map (λ (c : Arrival). (c.command.ticket, c.command.part, c.arrived)) w.commands r.0 (t, p, h.clock (0 + a)) moved in
      let plain : 0 + a ≡ a = omega arith in
      (m.0, (r.0, m.1), ap (λ (z : Ticket × PartModel × ℕ). z.0) m.2, ap (λ (z : Ticket × PartModel × ℕ). z.1) m.2, ap (λ (z : Ticket × PartModel × ℕ). z.2) m.2 ∙ ap h.clock plain)

  -- and the arrival of a command
  arrival-mark : (c : Arrival) → IsIn w.commands c → (a : ℕ) × At log a (Arrived c.command.ticket c.command.part) × (c.arrived ≡ h.clock a)
  arrival-mark c (j, there) =
      let listed = map-at (λ (x : Arrival). (x.command.ticket, x.command.part, x.arrived)) w.commands j c there in
      let r = arrival-of h.clock 0 log j (c.command.ticket, c.command.part, c.arrived) (subst (λ xs. At xs j (c.command.ticket, c.command.part, c.arrived)) (sym h.arrived) listed) in
      let plain : 0 + r.0 ≡ r.0 = omega arith in
      (r.0, r.1, r.2 ∙ ap h.clock plain)

  answer-there : (n : ℕ) (t : Ticket) (end : Ended) → At log n (Answered t end) → (a : Answer) × IsIn w.answers a × (a.ticket ≡ t) × (a.ended ≡ end) × (a.answered ≡ h.clock n)
  answer-there n t end there =
      let r = answer-in h.clock 0 log n t end there in
      let moved : At (answers_of w.answers) r.0 (t, end, h.clock (0 + n)) = subst (λ xs. At xs r.0 (t, end, h.clock (0 + n))) h.answered r.1 in
      let m = at-map (λ (a : Answer). (a.ticket, a.ended, a.answered)) w.answers r.0 (t, end, h.clock (0 + n)) moved in
      let plain : 0 + n ≡ n = omega arith in
      (m.0, (r.0, m.1), ap (λ (z : Ticket × Ended × ℕ). z.0) m.2, ap (λ (z : Ticket × Ended × ℕ). z.1) m.2, ap (λ (z : Ticket × Ended × ℕ). z.2) m.2 ∙ ap h.clock plain)

  -- the entry of an execution
  entry-of : (k : ℕ) (e : Execution) → At (history log) k e → (i : ℕ) × IsExecutedAt log i e × At w.history k (entry_at (h.clock i) e)
  entry-of k e there =
      let r = entry-in h.clock 0 log k e there in
      let plain : 0 + r.0 ≡ r.0 = omega arith in
      (r.0, r.1, subst (λ xs. At xs k (entry_at (h.clock r.0) e)) h.executed (r.2 ∙ (λ j. Some (entry_at (h.clock (plain j)) e))))

  entry-there : (i : ℕ) (e : Execution) → IsExecutedAt log i e → IsIn w.history (entry_at (h.clock i) e)
  entry-there i e it =
      let r = entry-at-mark h.clock 0 log i e it in
      let plain : 0 + i ≡ i = omega arith in
      (r.0, subst (λ xs. At xs r.0 (entry_at (h.clock i) e)) h.executed (r.1 ∙ (λ j. Some (entry_at (h.clock (plain j)) e))))

  -- and the execution of an entry
  executed-as : (k : ℕ) (y : EntryModel) → At w.history k y → (i : ℕ) × (e : Execution) × IsExecutedAt log i e × (y ≡ entry_at (h.clock i) e)
  executed-as k y there =
      let r = execution-of h.clock 0 log k y (subst (λ xs. At xs k y) (sym h.executed) there) in
      let plain : 0 + r.0 ≡ r.0 = omega arith in
      (r.0, r.1, r.2, r.4 ∙ (λ j. entry_at (h.clock (plain j)) r.1))

  -- the end of a command that was answered
  ended-as : (n : ℕ) (t : Ticket) (end : Ended) → At log n (Answered t end) → (c : Arrival) × EndedAs w c end × (c.command.ticket ≡ t)
  ended-as n t end there =
      let a = answer-there n t end there in
      let b = g.told a.0 a.1 in
      (b.0, (b.1.0, b.1.1 ∙ ap Over a.3), b.2 ∙ a.2)

  -- what was answered is ours
  own-answered : (n : ℕ) (t : Ticket) (end : Ended) → At log n (Answered t end) → Ours t
  own-answered n t end there = let c = ended-as n t end there in subst (Ours) c.2 (g.ours c.0 c.1.0)

  same-command : (c d : Arrival) → IsIn w.commands c → IsIn w.commands d → c.command.ticket ≡ d.command.ticket → c ≡ d
  same-command c d (i, at-i) (j, at-j) same = one_at w.commands i j c d at-i at-j (g.own_ticket i j c d at-i at-j same)

  one-end : (x y : Ended) → Over x ≡ Over y → x ≡ y
  one-end x y e = cc

  own-ticket : (i j : ℕ) (t : Ticket) (p q : PartModel) → At log i (Arrived t p) → At log j (Arrived t q) → i ≡ j
  own-ticket i j t p q at-i at-j =
      let c = command-of i t p at-i in
      let d = command-of j t q at-j in
      let same = same-command c.0 d.0 c.1 d.1 (c.2 ∙ sym d.2) in
      one-place i j (inside i (Arrived t p) at-i) (inside j (Arrived t q) at-j) (sym c.4 ∙ ap (λ (z : Arrival). z.arrived) same ∙ d.4)

  told-end : (n : ℕ) (t : Ticket) (end : Ended) → At log n (Answered t end) → (a : ℕ) × (p : PartModel) × At log a (Arrived t p) × (a < n)
  told-end n t end there =
      let a = answer-there n t end there in
      let c = g.told a.0 a.1 in
      let m = arrival-mark c.0 c.1.0 in
      let of-t : c.0.command.ticket ≡ t = c.2 ∙ a.2 in
      let is : At log m.0 (Arrived t c.0.command.part) = m.1 ∙ (λ i. Some (Arrived (of-t i) c.0.command.part)) in
      let late = answered-late w walked a.0 a.1 in
      (m.0, c.0.command.part, is, earlier m.0 n (inside m.0 (Arrived t c.0.command.part) is) (omega (arith, m.2, c.3, late, a.4)))

  -- the answer of the machine has its mark
  answer-mark : (a : Answer) → IsIn w.answers a → (n : ℕ) × At log n (Answered a.ticket a.ended) × (a.answered ≡ h.clock n)
  answer-mark a (j, there) =
      let listed = map-at (λ (x : Answer). (x.ticket, x.ended, x.answered)) w.answers j a there in
      let r = answer-of h.clock 0 log j (a.ticket, a.ended, a.answered) (subst (λ xs. At xs j (a.ticket, a.ended, a.answered)) (sym h.answered) listed) in
      let plain : 0 + r.0 ≡ r.0 = omega arith in
      (r.0, r.1, r.2 ∙ ap h.clock plain)

  answered-in-order : (a b : ℕ) (t u : Ticket) (p q : PartModel) → At log a (Arrived t p) → At log b (Arrived u q) → t.client ≡ u.client → a < b
      → (n : ℕ) (end : Ended) → At log n (Answered u end) → (m : ℕ) × (end' : Ended) × At log m (Answered t end') × (m < n)
  answered-in-order a b t u p q at-a at-b one lt n end there =
      let c = command-of a t p at-a in
      let d = command-of b u q at-b in
      let y = answer-there n u end there in
      let z = g.told y.0 y.1 in
      let same : z.0 ≡ d.0 = same-command z.0 d.0 z.1.0 d.1 (z.2 ∙ y.2 ∙ sym d.2) in
      let first : c.0.arrived < y.0.arrived = omega (arith, c.4, d.4, ap (λ (x : Arrival). x.arrived) same, z.3, h.rises a b lt (inside b (Arrived u q) at-b)) in
      let r = answered-behind w walked y.0 y.1 c.0 c.1 (ap (λ (x : Ticket). x.client) c.2 ∙ one ∙ ap (λ (x : Ticket). x.client) (sym y.2)) first in
      let m = answer-mark r.0 r.1 in
      let of-t : r.0.ticket ≡ t = r.2 ∙ c.2 in
      let is : At log m.0 (Answered t r.0.ended) = m.1 ∙ (λ i. Some (Answered (of-t i) r.0.ended)) in
      (m.0, r.0.ended, is, earlier m.0 n (inside m.0 (Answered t r.0.ended) is) (omega (arith, m.2, r.3, y.4)))

  answered-once : (n m : ℕ) (t : Ticket) (x y : Ended) → At log n (Answered t x) → At log m (Answered t y) → n ≡ m
  answered-once n m t x y at-n at-m =
      let a = answer-there n t x at-n in
      let b = answer-there m t y at-m in
      let same = one_at w.answers a.1.0 b.1.0 a.0 b.0 a.1.1 b.1.1 (g.answered_once a.1.0 b.1.0 a.0 b.0 a.1.1 b.1.1 (a.2 ∙ sym b.2)) in
      one-place n m (inside n (Answered t x) at-n) (inside m (Answered t y) at-m) (sym a.4 ∙ ap (λ (z : Answer). z.answered) same ∙ b.4)

  arrived-earlier : (i : ℕ) (e : Execution) → IsExecutedAt log i e → Ours e.ticket → (a : ℕ) × At log a (Arrived e.ticket e.part) × (a < i)
  arrived-earlier i e it own =
      let r = g.arrived (entry_at (h.clock i) e) (entry-there i e it) own in
      let m = arrival-mark r.0 r.1.1 in
      let is : At log m.0 (Arrived e.ticket e.part) = m.1 ∙ (λ j. Some (Arrived (sym r.1.2 j) (sym r.2 j))) in
      (m.0, is, earlier m.0 i (inside m.0 (Arrived e.ticket e.part) is) (omega (arith, m.2, r.3)))

  has-one : (t : Ticket) → Ours t → HasOne log t
  has-one t own k l e f at-k at-l is-t also-t =
      let x = entry-of k e at-k in
      let y = entry-of l f at-l in
      g.once t own k l (entry_at (h.clock x.0) e) (entry_at (h.clock y.0) f) x.2 y.2 is-t also-t

  stands-between : (n : ℕ) (t : Ticket) (v : Value) → At log n (Answered t (ended.Answered v))
      → (a : ℕ) × (i : ℕ) × (e : Execution) × At log a (Arrived t e.part) × IsExecutedAt log i e × (e.ticket ≡ t) × (data_of e.value ≡ data_of v) × (a < i) × (i < n)
  stands-between n t v there =
      let c = ended-as n t (ended.Answered v) there in
      let r = g.answered c.0 v c.1 in
      let x = executed-as r.1.0.0 r.0 r.1.0.1 in
      let of-t : x.1.ticket ≡ t = sym (ap (λ (z : EntryModel). z.ticket) x.3) ∙ r.1.2 ∙ c.2 in
      let says : data_of x.1.value ≡ data_of v = sym (ap (λ (z : EntryModel). z.reply) x.3) ∙ r.2 in
      let m = arrived-earlier x.0 x.1 x.2 (subst (Ours) (sym of-t) (own-answered n t (ended.Answered v) there)) in
      let a = answer-there n t (ended.Answered v) there in
      let before = r.4 a.0 a.1 (a.2 ∙ sym c.2) in
      let within : x.0 < length log = inside x.0 (Executed x.2.0) x.2.1 in (
        m.0,
        x.0,
        x.1,
        m.1 ∙ (λ j. Some (Arrived (of-t j) x.1.part)),
        x.2,
        of-t,
        says,
        m.2,
        earlier x.0 n within (omega (arith, before, a.4, ap (λ (z : EntryModel). z.moment) x.3)),
      )

  none-refused : (n : ℕ) (t : Ticket) → At log n (Answered t ended.GaveUp) → (k : ℕ) (e : Execution) → At (history log) k e → e.ticket ≢ t
  none-refused n t there k e at-k is-t =
      let c = ended-as n t ended.GaveUp there in
      let x = entry-of k e at-k in
      g.refused c.0 c.1 (entry_at (h.clock x.0) e) ((k, x.2), c.1.0, is-t ∙ sym c.2)

  first-first : (k l : ℕ) (e f : Execution) → At (history log) k e → At (history log) l f → SameTurn e f
      → (a b : ℕ) → At log a (Arrived e.ticket e.part) → At log b (Arrived f.ticket f.part) → a < b
      → (n : ℕ) (end : Ended) → At log n (Answered e.ticket end) → end ≢ Ended.Lost → k < l
  first-first k l e f at-k at-l turn a b at-a at-b lt n end at-n kept =
      let x = entry-of k e at-k in
      let y = entry-of l f at-l in
      let c = command-of a e.ticket e.part at-a in
      let d = command-of b f.ticket f.part at-b in
      let z = ended-as n e.ticket end at-n in
      g.in_order k l (entry_at (h.clock x.0) e) (entry_at (h.clock y.0) f) c.0 d.0 x.2 y.2
      ((k, x.2), c.1, sym c.2)
      ((l, y.2), d.1, sym d.2)
      (ap (λ (t : Ticket). t.client) d.2 ∙ sym turn.0 ∙ sym (ap (λ (t : Ticket). t.client) c.2), ap (λ (p : PartModel). slot_of p.key) d.3 ∙ sym turn.1 ∙ sym (ap (λ (p : PartModel). slot_of p.key) c.3))
      (omega (arith, c.4, d.4, h.rises a b lt (inside b (Arrived f.ticket f.part) at-b)))
      (λ over. kept (one-end end Ended.Lost (sym z.1.1 ∙ ap (λ (u : Arrival). u.command.stage) (same-command z.0 c.0 z.1.0 c.1 (z.2 ∙ sym c.2)) ∙ over)))

  run-together : (i : ℕ) (run : List Execution) (e f : Execution) → At log i (Executed run) → IsIn run e → IsIn run f → SameTurn e f
  run-together i run e f there in-e in-f =
      let x = entry-there i e (run, there, in-e) in
      let y = entry-there i f (run, there, in-f) in
      let r = g.together x.0 y.0 (entry_at (h.clock i) e) (entry_at (h.clock i) f) x.1 y.1 refl in
      (r.0, r.1)

  pub log-headline : LogHeadlineOf w.initial Ours log
  log-headline = record {
    legal = legal-of h.clock 0 log w.initial (subst (λ xs. IsLegalInWorld w.initial xs) (sym h.executed) g.legal);
    together = run-together;
    own_ticket = own-ticket;
    told = told-end;
    answered_once = answered-once;
    answered_in_order = answered-in-order;
    ours = λ a t p there. let c = command-of a t p there in subst Ours c.2 (g.ours c.0 c.1);
    arrived = arrived-earlier;
    once = has-one;
    answered = stands-between;
    in_order = first-first;
    lost = λ n t there. has-one t (own-answered n t Ended.Lost there);
    refused = none-refused;
  }

  pub left : store_of w ≡ left_by w.initial (history log)
  left = ap (λ xs. left_in_world w.initial xs) (sym h.executed) ∙ left-of h.clock 0 log w.initial

  pub log-held : IsHeld w.initial log w.cluster
  log-held = record {
    one_node = g.one_node;
    union = λ key value.
        let u = g.union key value in
        ((λ p. u.0 (ap (λ (store : StoreModel). get store key) left ∙ p)), (λ p. sym (ap (λ (store : StoreModel). get store key) left) ∙ u.1 p));
  }

-- where all that was executed is ours
pub log-headline-follows : LogHeadlineFollows
log-headline-follows initial workers log ours g = record {
  legal = g.legal;
  answered = g.answered;
  lost = g.lost;
  refused = g.refused;
  in_order = g.in_order;
  ours = λ a t p there. tt;
  once = λ t x k l e f at-k at-l is-t also-t.
      let it = entry-in (λ n. n) 0 log k e at-k in
      g.once t (subst (IsOwn workers) is-t (ours it.0 e it.1)) k l e f at-k at-l is-t also-t;
  arrived = λ i e it x. g.arrived i e it (ours i e it);
  together = g.together;
  own_ticket = g.own_ticket;
  told = g.told;
  answered_once = g.answered_once;
  answered_in_order = g.answered_in_order;
}

-- where every ticket is ours
pub none-twice : NoneIsExecutedTwice
none-twice initial log g ticket = g.once ticket tt

pub each-arrived : EachExecutionArrived
each-arrived initial log g i e it = g.arrived i e it tt
