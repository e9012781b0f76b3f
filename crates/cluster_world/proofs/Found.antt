-- What is found by the tables of commands, and that they go on to find.
use Rattle.std.proofs.Common.{◌≡◌, ◌≢◌, ◌⊎◌, ◌↔◌, inl, inr, ℕ, ◌+◌, ◌^◌, ◌<◌, ◌≤◌, ◌==◌, ◌&&◌, not, Bool, true, false, cond, List, [], ◌∷◌, ◌++◌, length, take, All, Option, Some, None, refl, sym, ap, ◌∙◌, subst, arith, get_or}
use Rattle.std.specs.Prelude.{slice_get, slice_set, position, nat_lt}
use Rattle.std.specs.List.{position_or_len}
use Rattle.std.proofs.lemmas.Bool.{cases_lt}
use Rattle.std.proofs.lemmas.Bool.Decides.{nat_tests}
use Rattle.std.proofs.lemmas.List.Sums.{position_or_len_is}
use Rattle.std.proofs.lemmas.Option.{slice_get_within, slice_get-get_or}
use Rattle.key_split.specs.declared.travel.Ticket.{Ticket}
use Rattle.key_split.specs.declared.travel.Told.{Told}
use Rattle.key_split.specs.declared.travel.Ended.{Ended}
use Rattle.key_split.specs.PartModel.{PartModel}
use Rattle.key_split.specs.Same.{same_ticket, same_ticket-Decides}
use Rattle.command_future.specs.CommandModel.{fresh, IsOver, MayPostTo}
use Rattle.command_future.specs.declared.stage.Stage.{Stage}
use Rattle.command_future.specs.declared.stage.Stage.TheVariants.{Wants, WantsAsking, Awaits, Over}
use Rattle.world_laws.specs.State.{HasEnded, slot_for, awaiting, after_told}
use Rattle.world_laws.specs.declared.state.Arrival.{Arrival}
use Rattle.cluster_world.specs.declared.rows.Row.{Row}
use Rattle.cluster_world.specs.declared.tables.Tables.{Tables}
use Rattle.cluster_world.specs.Rows.{rank, no_row, one_over, IsRow, IsRowSoFar}
use Rattle.cluster_world.specs.Tables.{place_in, client_in, turn_in, turn_key_of, SayNothing, SaySame, Noted, NotedTold, NotedAnswered}
use Rattle.cluster_world.specs.Commands.{of_client, of_turn, turn_rank, count_for, place_for, unanswered_for, once_answered, IsAnswered, StandsAt, StandsSo, AreApart, Becomes, AreFound, Find}
use Rattle.cluster_world.specs.Posting.{way_for, ArePast}
use Rattle.cluster_world.proofs.Lookups.{past-none, first-is, place-within, none-before, first-passes, so-open, so-closed, open-so}
use Rattle.cluster_world.proofs.Ranking.{rank-less, rank-all, rank-fits, rank-nth, row-set, so-far-set, come}
use Rattle.cluster_world.proofs.Finding.{both-so, so-both, one-so, so-one, row-passes, so-far-passes, found-start, found-end, its-client, its-turn, found-set}

pub none-passes : {X : Type 0} (p : X → Bool) (xs : List X) → ((k : ℕ) (x : X) → slice_get xs k ≡ Some x → p x ≡ false) → position p xs ≡ None
none-passes p [] h = refl
none-passes p (x ∷ xs) h =
    let e : position_or_len p (x ∷ xs) ≡ length (x ∷ xs) =
    position_or_len_is p (x ∷ xs) (length (x ∷ xs)) x (omega arith) (λ k l. h k (get_or (x ∷ xs) k x) (slice_get-get_or (x ∷ xs) k x l)) (λ lt. absurd (omega (arith, lt))) in
    let t : nat_lt (length (x ∷ xs)) (length (x ∷ xs)) ≡ false = grind (arith, nat_tests) in
    ap (λ n. cond (nat_lt n (length (x ∷ xs))) (Some n) None) e ∙ ap (λ b. cond b (Some (length (x ∷ xs))) None) t

pub becomes-false : (b : Bool) → (b ≡ true → ⊥) → b ≡ false
becomes-false true never = absurd (never refl)
becomes-false false never = refl

is-over : (s : Stage) → IsOver s → (e : Ended) × (s ≡ Over e)
is-over (Wants named) h = absurd h
is-over (WantsAsking node) h = absurd h
is-over Awaits h = absurd h
is-over (Over e) h = (e, refl)

over-is : (s : Stage) → (e : Ended) × (s ≡ Over e) → IsOver s
over-is s h = subst IsOver (sym h.1) tt

awaits-not : (s : Stage) → s ≡ Awaits → (e : Ended) × (s ≡ Over e) → ⊥
awaits-not s a h = subst IsOver (sym h.1 ∙ a) tt

may-not : (s : Stage) (node : ℕ) → MayPostTo s node → (e : Ended) × (s ≡ Over e) → ⊥
may-not s node m h = subst (λ (t : Stage). MayPostTo t node) h.1 m

-- the tables of no commands
pub find-start : (t : Tables) → SayNothing t → Find [] t
find-start t s =
    subst (λ (q : List ℕ × (ℕ → ℕ → Option ℕ) × (ℕ → Row) × (ℕ → ℕ → Row)). AreFound [] q.0 q.1 q.2 q.3)
    (λ i. (sym s.ranks i, (λ n part. sym (s.place n part) i), (λ n. sym (s.client n) i), λ n slot. sym (s.turn n slot) i))
    found-start

pub becomes : (xs now : List Arrival) (i : ℕ) (x y : Arrival) (change : Arrival → Arrival) → xs ≡ now → slice_get xs i ≡ Some x → y ≡ change x → Becomes now i change (slice_set xs i y)
becomes xs now i x y change is at same c there =
    let one : x ≡ c = (let mine : slice_get xs i ≡ Some c = ap (λ (cs : List Arrival). slice_get cs i) is ∙ there in cc) in
    (λ k. slice_set (is k) i (same k)) ∙ ap (λ (z : Arrival). slice_set now i (change z)) one

pub unanswered-here : (xs : List Arrival) (client i : ℕ) → unanswered_for xs client ≡ Some i → i < length xs
unanswered-here xs client i first = (place-within (λ (x : Arrival). (x.command.ticket.client == client) && not x.answered) xs i first).1

module _ (xs : List Arrival) (t : Tables) (f : Find xs t) where
  pub find-same : (u : Tables) → SaySame t u → Find xs u
  find-same u s =
      subst (λ (q : List ℕ × (ℕ → ℕ → Option ℕ) × (ℕ → Row) × (ℕ → ℕ → Row)). AreFound xs q.0 q.1 q.2 q.3)
      (λ i. (sym s.ranks i, (λ n part. sym (s.place n part) i), (λ n. sym (s.client n) i), λ n slot. sym (s.turn n slot) i))
      f

  -- one more comes
  pub find-noted : (u : Tables) (ticket : Ticket) (part : PartModel) (moment : ℕ) → ticket.part ≡ count_for xs ticket.client → Noted ticket (turn_key_of (fresh ticket part)) (length xs) t u
      → Find (xs ++ record { command = fresh ticket part; arrived = moment; answered = false } ∷ []) u
  find-noted u ticket part moment number noted =
      let c : Arrival = record { command = fresh ticket part; arrived = moment; answered = false } in
      subst (λ (ranks : List ℕ). AreFound (xs ++ c ∷ []) ranks (place_in u) (client_in u) (turn_in u)) (sym noted.ranks)
      (found-end xs t.ranks.items (place_in t) (client_in t) (turn_in t) f c (place_in u) (client_in u) (turn_in u) number refl noted.place noted.client noted.turn)

  pub client-fits : (client : ℕ) → (client_in t client).count ≤ length xs
  client-fits client = omega (arith, (f.clients client).counted, rank-fits (of_client client) xs (length xs))

  pub turn-fits : (client slot : ℕ) → (turn_in t client slot).count ≤ length xs
  turn-fits client slot = omega (arith, (f.turns client slot).counted, rank-fits (of_turn client slot) xs (length xs))

  -- where a part stands
  pub stands-so : (client part : ℕ) (o : Option ℕ) → o ≡ place_in t client part → StandsSo xs client part o
  stands-so client part None e = λ place s. (let some : place_in t client part ≡ Some place = (f.placed client part place).1 s in let none : None ≡ place_in t client part = e in cc)
  stands-so client part (Some place) e = (f.placed client part place).0 (sym e)

  one-place : (client part i j : ℕ) → StandsAt xs client part i → StandsAt xs client part j → i ≡ j
  one-place client part i j a b =
      let p : place_in t client part ≡ Some i = (f.placed client part i).1 a in
      let q : place_in t client part ≡ Some j = (f.placed client part j).1 b in
      cc

  ticket-stands : (ticket : Ticket) (i : ℕ) (c : Arrival) → slice_get xs i ≡ Some c → same_ticket ticket c.command.ticket ≡ true → StandsAt xs ticket.client ticket.part i
  ticket-stands ticket i c at same =
      let is : ticket ≡ c.command.ticket = (same_ticket-Decides ticket c.command.ticket).0 same in
      (c, at, ap (λ (u : Ticket). u.client) (sym is), ap (λ (u : Ticket). u.part) (sym is))

  pub stand-apart : AreApart xs
  stand-apart i j c d at there same =
      one-place c.command.ticket.client c.command.ticket.part i j (c, at, refl, refl) (d, there, ap (λ (u : Ticket). u.client) (sym same), ap (λ (u : Ticket). u.part) (sym same))

  pub small-rank : (i r : ℕ) → i < length xs → length xs < 2 ^ 63 → slice_get t.ranks.items i ≡ Some r → r < 2 ^ 63
  small-rank i r lt small read = go (slice_get xs i) refl
    where
      go : (o : Option Arrival) → slice_get xs i ≡ o → r < 2 ^ 63
      go (Some d) at =
          let is : Some (turn_rank xs i d) ≡ Some r = sym (f.ranked i d at) ∙ read in
          let same : turn_rank xs i d ≡ r = cc in
          omega (arith, small, same, rank-fits (of_turn d.command.ticket.client (slot_for d.command.part)) xs i)
      go None none = absurd (omega (arith, lt, past-none xs i none))

  -- a number of a turn's commands have ended
  pub past-so : (c : Arrival) → ArePast (way_for c) [] (turn_in t c.command.ticket.client (slot_for c.command.part)).over xs
  past-so c i d there is lt = inl ((f.turns c.command.ticket.client (slot_for c.command.part)).over i d there is lt)

  pub place-none : (ticket : Ticket) → StandsSo xs ticket.client ticket.part None → place_for xs ticket ≡ None
  place-none ticket none = none-passes (λ (c : Arrival). same_ticket ticket c.command.ticket) xs (λ k c at. becomes-false (same_ticket ticket c.command.ticket) (λ same. none k (ticket-stands ticket k c at same)))

  pub place-here : (ticket : Ticket) (i : ℕ) (c : Arrival) → slice_get xs i ≡ Some c → same_ticket ticket c.command.ticket ≡ true → place_for xs ticket ≡ Some i
  place-here ticket i c at same =
      first-is (λ (c : Arrival). same_ticket ticket c.command.ticket) xs i c at same
      (λ k d lt there. becomes-false (same_ticket ticket d.command.ticket) (λ also. (let one : k ≡ i = one-place ticket.client ticket.part k i (ticket-stands ticket k d there also) (ticket-stands ticket i c at same) in omega (arith, one, lt))))

  pub place-other : (ticket : Ticket) (i : ℕ) (c : Arrival) → StandsAt xs ticket.client ticket.part i → slice_get xs i ≡ Some c → same_ticket ticket c.command.ticket ≡ false → place_for xs ticket ≡ None
  place-other ticket i c s at apart =
      none-passes (λ (c : Arrival). same_ticket ticket c.command.ticket) xs (λ k d there. becomes-false (same_ticket ticket d.command.ticket) (λ same.
      (let one : k ≡ i = one-place ticket.client ticket.part k i (ticket-stands ticket k d there same) s in
      let also : slice_get xs i ≡ Some d = ap (slice_get xs) (sym one) ∙ there in
      let is : d ≡ c = cc in
      let no : true ≡ false = sym same ∙ ap (λ (x : Arrival). same_ticket ticket x.command.ticket) is ∙ apart in cc)))

  pub counts : (client : ℕ) → (client_in t client).count ≡ count_for xs client
  counts client = (f.clients client).counted ∙ rank-all (of_client client) xs

  -- the rank of one that was not answered is at least the number of those that were
  open-rank : (client k : ℕ) (c : Arrival) → slice_get xs k ≡ Some c → c.command.ticket.client ≡ client → c.answered ≡ false → (client_in t client).over ≤ rank (of_client client) xs k
  open-rank client k c at mine open' = elim (cases_lt (rank (of_client client) xs k) (client_in t client).over) [
    | inl lt ↦ absurd (let yes : c.answered ≡ true = ((f.clients client).over k c at (so-one c.command.ticket.client client mine)).1 lt in cc)
    | inr le ↦ le
  ]

  pub oldest : (client : ℕ) (o : Option ℕ) → StandsSo xs client (client_in t client).over o → o ≡ unanswered_for xs client
  oldest client None none = sym (none-passes (λ (c : Arrival). (c.command.ticket.client == client) && not c.answered) xs (λ k c at. becomes-false ((c.command.ticket.client == client) && not c.answered) (λ open'.
      (let so = open-so c.command.ticket.client client c.answered open' in
      let row = f.clients client in
      let rank-at = open-rank client k c at so.0 so.1 in
      let less = rank-less (of_client client) xs k (length xs) c at (so-one c.command.ticket.client client so.0) (slice_get_within xs k c at) in
      let next = rank-nth (of_client client) xs (length xs) (client_in t client).over (omega (arith, rank-at, less)) in
      let its : (next.item).command.ticket.client ≡ client = one-so (next.item).command.ticket.client client next.kind in
      none next.place (next.item, next.there, its, f.numbered next.place next.item next.there ∙ ap (λ n. rank (of_client n) xs next.place) its ∙ next.ranks)))))
  oldest client (Some i) s =
      let c : Arrival = s.0 in
      let row = f.clients client in
      let rank-is : rank (of_client client) xs i ≡ (client_in t client).over = ap (λ n. rank (of_client n) xs i) (sym s.2) ∙ sym (f.numbered i c s.1) ∙ s.3 in
      let open' : c.answered ≡ false = becomes-false c.answered (λ yes. omega (arith, rank-is, (row.over i c s.1 (so-one c.command.ticket.client client s.2)).0 yes)) in
      sym (first-is (λ (c : Arrival). (c.command.ticket.client == client) && not c.answered) xs i c s.1 (so-open c.command.ticket.client client c.answered s.2 open')
      (λ k d lt at. so-closed d.command.ticket.client client d.answered (λ mine.
      (row.over k d at (so-one d.command.ticket.client client mine)).1 (omega (arith, rank-is, rank-less (of_client client) xs k i d at (so-one d.command.ticket.client client mine) lt)))))

  module _ (i : ℕ) (c : Arrival) (at : slice_get xs i ≡ Some c) where
    yes-turn : of_turn c.command.ticket.client (slot_for c.command.part) c ≡ true
    yes-turn = so-both c.command.ticket.client (slot_for c.command.part) c.command.ticket.client (slot_for c.command.part) refl refl

    -- it is posted
    pub find-posted : (y : Arrival) (node : ℕ) → y ≡ awaiting c → MayPostTo c.command.stage node → Find (slice_set xs i y) t
    find-posted y node is may =
        subst (λ (z : Arrival). Find (slice_set xs i z) t) (sym is)
        (found-set xs t.ranks.items (place_in t) (client_in t) (turn_in t) f i c (awaiting c) at refl refl (client_in t) (turn_in t)
        (λ n. row-set (of_client n) IsAnswered xs i c (awaiting c) at refl (client_in t n) (λ m. (λ a. a, λ a. a)) (f.clients n))
        (λ n s. so-far-set (of_turn n s) HasEnded xs i c (awaiting c) at refl (turn_in t n s) (λ m h. absurd (may-not c.command.stage node may h)) (f.turns n s)))

    -- it was told what it awaited
    pub told-within : turn_rank xs i c ≡ (turn_in t c.command.ticket.client (slot_for c.command.part)).over
        → (turn_in t c.command.ticket.client (slot_for c.command.part)).over < (turn_in t c.command.ticket.client (slot_for c.command.part)).count
    told-within next =
        omega (arith, next, (f.turns c.command.ticket.client (slot_for c.command.part)).counted, rank-less (of_turn c.command.ticket.client (slot_for c.command.part)) xs i (length xs) c at yes-turn (slice_get_within xs i c at))

    pub find-told : (u : Tables) (y : Arrival) (told : Told) (passes : Bool) → y ≡ after_told c told → c.command.stage ≡ Awaits
        → (passes ≡ true → IsOver y.command.stage × (turn_rank xs i c ≡ (turn_in t c.command.ticket.client (slot_for c.command.part)).over)) → NotedTold (turn_key_of c.command) passes t u → Find (slice_set xs i y) u
    find-told u y told passes is stage so noted =
        let same-answered : y.answered ≡ c.answered = ap (λ (z : Arrival). z.answered) is in
        subst (λ (ranks : List ℕ). AreFound (slice_set xs i y) ranks (place_in u) (client_in u) (turn_in u)) (sym noted.ranks)
        (subst (λ (q : (ℕ → ℕ → Option ℕ) × (ℕ → Row)). AreFound (slice_set xs i y) t.ranks.items q.0 q.1 (turn_in u)) (λ k. ((λ n part. sym (noted.place n part) k), λ n. sym (noted.client n) k))
        (found-set xs t.ranks.items (place_in t) (client_in t) (turn_in t) f i c y at ticket part (client_in t) (turn_in u)
        (λ n. row-set (of_client n) IsAnswered xs i c y at (its-client xs t.ranks.items (place_in t) (client_in t) (turn_in t) f i c y at ticket part n) (client_in t n) (λ m. (λ a. sym same-answered ∙ a, λ a. same-answered ∙ a)) (f.clients n))
        (λ n s. turns passes refl n s)))
      where
        ticket : y.command.ticket ≡ c.command.ticket
        ticket = ap (λ (z : Arrival). z.command.ticket) is

        part : y.command.part ≡ c.command.part
        part = ap (λ (z : Arrival). z.command.part) is

        turns : (b : Bool) → passes ≡ b → (n s : ℕ) → IsRowSoFar (of_turn n s) HasEnded (slice_set xs i y) (turn_in u n s)
        turns true e n s =
            let now : HasEnded y = is-over y.command.stage (so e).0 in
            let same-row : of_turn n s c ≡ true → turn_in t c.command.ticket.client (slot_for c.command.part) ≡ turn_in t n s =
            λ b. (let w = both-so c.command.ticket.client (slot_for c.command.part) n s b in λ k. turn_in t (w.0 k) (w.1 k)) in
            let same-rank : of_turn n s c ≡ true → rank (of_turn n s) xs i ≡ (turn_in t n s).over =
            λ b. (let w = both-so c.command.ticket.client (slot_for c.command.part) n s b in (λ k. rank (of_turn (sym w.0 k) (sym w.1 k)) xs i) ∙ (so e).1 ∙ ap (λ (r : Row). r.over) (same-row b)) in
            subst (IsRowSoFar (of_turn n s) HasEnded (slice_set xs i y)) (sym (noted.turn n s ∙ ap (λ b. cond b (cond (of_turn n s c) (one_over (turn_in t c.command.ticket.client (slot_for c.command.part))) (turn_in t n s)) (turn_in t n s)) e))
            (so-far-passes (of_turn n s) HasEnded xs i c y at (its-turn xs t.ranks.items (place_in t) (client_in t) (turn_in t) f i c y at ticket part n s) (turn_in t c.command.ticket.client (slot_for c.command.part)) (turn_in t n s) same-row same-rank now (f.turns n s))
        turns false e n s =
            subst (IsRowSoFar (of_turn n s) HasEnded (slice_set xs i y)) (sym (noted.turn n s ∙ ap (λ b. cond b (cond (of_turn n s c) (one_over (turn_in t c.command.ticket.client (slot_for c.command.part))) (turn_in t n s)) (turn_in t n s)) e))
            (so-far-set (of_turn n s) HasEnded xs i c y at (its-turn xs t.ranks.items (place_in t) (client_in t) (turn_in t) f i c y at ticket part n s) (turn_in t n s) (λ m h. absurd (awaits-not c.command.stage stage h)) (f.turns n s))

    -- it is the oldest unanswered one of its client
    pub its-own : (client : ℕ) → unanswered_for xs client ≡ Some i → (c.command.ticket.client ≡ client) × (rank (of_client client) xs i ≡ (client_in t client).over)
    its-own client first =
        let p : Arrival → Bool = λ (x : Arrival). (x.command.ticket.client == client) && not x.answered in
        let w = place-within p xs i first in
        let passes : p c ≡ true = first-passes' p first in
        let so = open-so c.command.ticket.client client c.answered passes in
        let row = f.clients client in
        let come' = come (of_client client) IsAnswered xs i (client_in t client) row in
        let below : rank (of_client client) xs i ≤ (client_in t client).over =
        come'.0 (λ k d lt there is. becomes-true d.answered (λ open'. (let yes : p d ≡ true = so-open d.command.ticket.client client d.answered (one-so d.command.ticket.client client is) open' in let no : true ≡ false = sym yes ∙ none-before p xs i first k d lt there in cc))) in
        (so.0, omega (arith, below, open-rank client i c at so.0 so.1))
      where
        becomes-true : (b : Bool) → (b ≡ false → ⊥) → b ≡ true
        becomes-true true never = refl
        becomes-true false never = absurd (never refl)

        first-passes' : (p : Arrival → Bool) → position p xs ≡ Some i → p c ≡ true
        first-passes' p e = first-passes p xs i c (e, at)

    pub answered-within : (client : ℕ) → unanswered_for xs client ≡ Some i → (client_in t client).over < (client_in t client).count
    answered-within client first =
        let own = its-own client first in
        omega (arith, own.1, (f.clients client).counted, rank-less (of_client client) xs i (length xs) c at (so-one c.command.ticket.client client own.0) (slice_get_within xs i c at))

    pub find-answered : (u : Tables) (y : Arrival) (client : ℕ) → y ≡ once_answered c → unanswered_for xs client ≡ Some i → NotedAnswered client t u → Find (slice_set xs i y) u
    find-answered u y client is first noted =
        let own = its-own client first in
        subst (λ (z : Arrival). Find (slice_set xs i z) u) (sym is)
        (subst (λ (ranks : List ℕ). AreFound (slice_set xs i (once_answered c)) ranks (place_in u) (client_in u) (turn_in u)) (sym noted.ranks)
        (subst (λ (q : (ℕ → ℕ → Option ℕ) × (ℕ → ℕ → Row)). AreFound (slice_set xs i (once_answered c)) t.ranks.items q.0 (client_in u) q.1) (λ k. ((λ n part. sym (noted.place n part) k), λ n s. sym (noted.turn n s) k))
        (found-set xs t.ranks.items (place_in t) (client_in t) (turn_in t) f i c (once_answered c) at refl refl (client_in u) (turn_in t)
        (λ n. subst (IsRow (of_client n) IsAnswered (slice_set xs i (once_answered c))) (sym (noted.client n ∙ ap (λ m. cond (m == n) (one_over (client_in t client)) (client_in t n)) (sym own.0)))
        (row-passes (of_client n) IsAnswered xs i c (once_answered c) at refl (client_in t client) (client_in t n)
        (λ b. ap (client_in t) (sym own.0 ∙ one-so c.command.ticket.client n b))
        (λ b. (let same : client ≡ n = sym own.0 ∙ one-so c.command.ticket.client n b in ap (λ m. rank (of_client m) xs i) (sym same) ∙ own.1 ∙ ap (λ m. (client_in t m).over) same))
        refl (f.clients n)))
        (λ n s. so-far-set (of_turn n s) HasEnded xs i c (once_answered c) at refl (turn_in t n s) (λ m h. h) (f.turns n s)))))
