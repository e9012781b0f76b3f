-- What the tables say of the commands, and that they go on to.
use Rattle.std.proofs.Common.{◌≡◌, ◌≢◌, ◌⊎◌, ◌↔◌, inl, inr, ℕ, zero, suc, ◌+◌, ◌<◌, ◌≤◌, ◌==◌, ◌&&◌, not, Bool, true, false, cond, List, [], ◌∷◌, ◌++◌, length, take, All, Option, Some, None, refl, sym, ap, ◌∙◌, subst, arith}
use Rattle.std.specs.Prelude.{if◌then◌else◌, slice_get, slice_set, count_by, position}
use Rattle.std.proofs.lemmas.Bool.{cases_lt}
use Rattle.std.proofs.lemmas.Bool.Decides.{nat_tests}
use Rattle.std.proofs.lemmas.Option.{slice_get_within}
use Rattle.world_laws.specs.State.{HasEnded, slot_for}
use Rattle.world_laws.specs.World.{SameTurn}
use Rattle.world_laws.specs.declared.state.Arrival.{Arrival}
use Rattle.cluster_world.specs.declared.rows.Row.{Row}
use Rattle.cluster_world.specs.Rows.{rank, no_row, one_more, one_over, IsRow, IsRowSoFar}
use Rattle.cluster_world.specs.Commands.{of_client, of_turn, turn_rank, IsAnswered, StandsAt, AreFound}
use Rattle.cluster_world.proofs.Lookups.{all-before, before-all}
use Rattle.cluster_world.proofs.Ranking.{at-set, at-end, front-stays, end-is, others-stay, set-is, set-length, end-length, which, rank-less, rank-front, rank-set, rank-all, rank-nth, row-start, row-end, row-set, row-over, come, so-far-start, so-far-end, so-far-set, so-far-over}

-- tests of numbers

pub both-so : (a b c d : ℕ) → ((a == c) && (b == d)) ≡ true → (a ≡ c) × (b ≡ d)
both-so a b c d e = (grind (arith, nat_tests), grind (arith, nat_tests))

pub so-both : (a b c d : ℕ) → a ≡ c → b ≡ d → ((a == c) && (b == d)) ≡ true
so-both a b c d e f = grind (arith, nat_tests)

pub one-so : (a c : ℕ) → (a == c) ≡ true → a ≡ c
one-so a c e = grind (arith, nat_tests)

pub so-one : (a c : ℕ) → a ≡ c → (a == c) ≡ true
so-one a c e = grind (arith, nat_tests)

-- a row by its test

row-more : (b : Bool) (r s : Row) → (b ≡ true → r ≡ s) → cond b (one_more r) s ≡ (if b then one_more s else s)
row-more true r s e = ap one_more (e refl)
row-more false r s e = refl

module _ (p : Arrival → Bool) (Over : Arrival → Type 0) where
  pub row-passes : (xs : List Arrival) (i : ℕ) (x y : Arrival) → slice_get xs i ≡ Some x → p y ≡ p x → (r s : Row) → (p x ≡ true → r ≡ s) → (p x ≡ true → rank p xs i ≡ s.over) → Over y
      → IsRow p Over xs s → IsRow p Over (slice_set xs i y) (cond (p x) (one_over r) s)
  row-passes xs i x y at same r s e next now row = go (p x) refl
    where
      go : (b : Bool) → p x ≡ b → IsRow p Over (slice_set xs i y) (cond b (one_over r) s)
      go true is = subst (λ (t : Row). IsRow p Over (slice_set xs i y) (one_over t)) (sym (e is)) (row-over p Over xs i x y at same s is (next is) now row)
      go false is = row-set p Over xs i x y at same s (λ mine. (let no : false ≡ true = sym is ∙ mine in absurd (cc))) row

  -- the same of a row of which the first are over
  pub so-far-passes : (xs : List Arrival) (i : ℕ) (x y : Arrival) → slice_get xs i ≡ Some x → p y ≡ p x → (r s : Row) → (p x ≡ true → r ≡ s) → (p x ≡ true → rank p xs i ≡ s.over) → Over y
      → IsRowSoFar p Over xs s → IsRowSoFar p Over (slice_set xs i y) (cond (p x) (one_over r) s)
  so-far-passes xs i x y at same r s e next now row = go (p x) refl
    where
      go : (b : Bool) → p x ≡ b → IsRowSoFar p Over (slice_set xs i y) (cond b (one_over r) s)
      go true is = subst (λ (t : Row). IsRowSoFar p Over (slice_set xs i y) (one_over t)) (sym (e is)) (so-far-over p Over xs i x y at same s is (next is) now row)
      go false is = so-far-set p Over xs i x y at same s (λ mine. (let no : false ≡ true = sym is ∙ mine in absurd (cc))) row

pub found-start : AreFound [] [] (λ n part. None) (λ n. no_row) (λ n slot. no_row)
found-start = record {
  numbered = λ i c at. absurd (cc);
  placed = λ n part i. (λ e. absurd (cc), λ s. absurd (let at : None ≡ Some s.0 = s.1 in cc));
  clients = λ n. row-start (of_client n) IsAnswered;
  turns = λ n slot. so-far-start (of_turn n slot) HasEnded;
  lengths = refl;
  ranked = λ i c at. absurd (cc);
}

module _ (xs : List Arrival) (ranks : List ℕ) (place : ℕ → ℕ → Option ℕ) (client : ℕ → Row) (turn : ℕ → ℕ → Row) (f : AreFound xs ranks place client turn) where
  -- one more comes
  pub found-end : (c : Arrival) (place' : ℕ → ℕ → Option ℕ) (client' : ℕ → Row) (turn' : ℕ → ℕ → Row)
      → c.command.ticket.part ≡ count_by (of_client c.command.ticket.client) xs → c.answered ≡ false
      → ((n part : ℕ) → place' n part ≡ cond ((c.command.ticket.client == n) && (c.command.ticket.part == part)) (Some (length xs)) (place n part))
      → ((n : ℕ) → client' n ≡ cond (c.command.ticket.client == n) (one_more (client c.command.ticket.client)) (client n))
      → ((n slot : ℕ) → turn' n slot ≡ cond ((c.command.ticket.client == n) && (slot_for c.command.part == slot)) (one_more (turn c.command.ticket.client (slot_for c.command.part))) (turn n slot))
      → AreFound (xs ++ c ∷ []) (ranks ++ (turn c.command.ticket.client (slot_for c.command.part)).count ∷ []) place' client' turn'
  found-end c place' client' turn' number not-answered puts-place puts-client puts-turn = record {
    numbered = numbered';
    placed = placed';
    clients = λ n. subst (IsRow (of_client n) IsAnswered (xs ++ c ∷ [])) (sym (puts-client n ∙ row-more (c.command.ticket.client == n) (client c.command.ticket.client) (client n) (λ b. ap client (one-so c.command.ticket.client n b)))) (row-end (of_client n) IsAnswered xs c (client n) (λ a. absurd (let e : false ≡ true = sym not-answered ∙ a in cc)) (f.clients n));
    turns = λ n s. subst (IsRowSoFar (of_turn n s) HasEnded (xs ++ c ∷ [])) (sym (puts-turn n s ∙ row-more ((c.command.ticket.client == n) && (slot_for c.command.part == s)) (turn c.command.ticket.client (slot_for c.command.part)) (turn n s) (same-turn n s))) (so-far-end (of_turn n s) HasEnded xs c (turn n s) (f.turns n s));
    lengths = end-length ranks (turn c.command.ticket.client (slot_for c.command.part)).count ∙ ap suc f.lengths ∙ sym (end-length xs c);
    ranked = ranked';
  }
    where
      same-turn : (n s : ℕ) → ((c.command.ticket.client == n) && (slot_for c.command.part == s)) ≡ true → turn c.command.ticket.client (slot_for c.command.part) ≡ turn n s
      same-turn n s b = λ i. turn ((both-so c.command.ticket.client (slot_for c.command.part) n s b).0 i) ((both-so c.command.ticket.client (slot_for c.command.part) n s b).1 i)

      numbered' : (i : ℕ) (d : Arrival) → slice_get (xs ++ c ∷ []) i ≡ Some d → d.command.ticket.part ≡ rank (of_client d.command.ticket.client) (xs ++ c ∷ []) i
      numbered' i d at = elim (at-end xs i c d at) [
        | inl here ↦ ap (λ (x : Arrival). x.command.ticket.part) here.1 ∙ number ∙ sym (rank-all (of_client c.command.ticket.client) xs) ∙ sym (rank-front (of_client c.command.ticket.client) xs (length xs) c (omega arith))
            ∙ (λ j. rank (of_client (sym here.1 j).command.ticket.client) (xs ++ c ∷ []) (sym here.0 j))
        | inr there ↦ f.numbered i d there.1 ∙ sym (rank-front (of_client d.command.ticket.client) xs i c (omega (arith, there.0)))
      ]

      placed' : (n part i : ℕ) → (place' n part ≡ Some i) ↔ StandsAt (xs ++ c ∷ []) n part i
      placed' n part i = go ((c.command.ticket.client == n) && (c.command.ticket.part == part)) refl
        where
          go : (b : Bool) → ((c.command.ticket.client == n) && (c.command.ticket.part == part)) ≡ b → (place' n part ≡ Some i) ↔ StandsAt (xs ++ c ∷ []) n part i
          go true is =
              let its = both-so c.command.ticket.client c.command.ticket.part n part is in
              let now : place' n part ≡ Some (length xs) = puts-place n part ∙ ap (λ b. cond b (Some (length xs)) (place n part)) is in (
                λ e. (let same : length xs ≡ i = cc in (c, ap (slice_get (xs ++ c ∷ [])) (sym same) ∙ end-is xs c, its.0, its.1)),
                λ s. elim (at-end xs i c s.0 s.1) [
                  | inl here ↦ now ∙ ap Some (sym here.0)
                  | inr there ↦ absurd (
                      let d : Arrival = s.0 in
                      let same : d.command.ticket.client ≡ c.command.ticket.client = s.2 ∙ sym its.0 in
                      let below = rank-less (of_client c.command.ticket.client) xs i (length xs) d there.1 (so-one d.command.ticket.client c.command.ticket.client same) there.0 in
                      let its-part : d.command.ticket.part ≡ rank (of_client c.command.ticket.client) xs i = f.numbered i d there.1 ∙ ap (λ m. rank (of_client m) xs i) same in
                      omega (arith, below, its-part, s.3, its.1, number, rank-all (of_client c.command.ticket.client) xs))
                ],
              )
          go false is =
              let now : place' n part ≡ place n part = puts-place n part ∙ ap (λ b. cond b (Some (length xs)) (place n part)) is in (
                λ e. (let s = (f.placed n part i).0 (sym now ∙ e) in (s.0, front-stays xs i c s.0 s.1, s.2, s.3)),
                λ s. elim (at-end xs i c s.0 s.1) [
                  | inl here ↦ absurd (
                      let yes : ((c.command.ticket.client == n) && (c.command.ticket.part == part)) ≡ true =
                      so-both c.command.ticket.client c.command.ticket.part n part (ap (λ (x : Arrival). x.command.ticket.client) (sym here.1) ∙ s.2) (ap (λ (x : Arrival). x.command.ticket.part) (sym here.1) ∙ s.3) in
                      let no : false ≡ true = sym is ∙ yes in cc)
                  | inr there ↦ now ∙ (f.placed n part i).1 (s.0, there.1, s.2, s.3)
                ],
              )

      ranked' : (i : ℕ) (d : Arrival) → slice_get (xs ++ c ∷ []) i ≡ Some d → slice_get (ranks ++ (turn c.command.ticket.client (slot_for c.command.part)).count ∷ []) i ≡ Some (turn_rank (xs ++ c ∷ []) i d)
      ranked' i d at = elim (at-end xs i c d at) [
        | inl here ↦
            let end : slice_get (ranks ++ (turn c.command.ticket.client (slot_for c.command.part)).count ∷ []) i ≡ Some (turn c.command.ticket.client (slot_for c.command.part)).count =
            ap (slice_get (ranks ++ (turn c.command.ticket.client (slot_for c.command.part)).count ∷ [])) (here.0 ∙ sym f.lengths) ∙ end-is ranks (turn c.command.ticket.client (slot_for c.command.part)).count in
            let its : turn_rank (xs ++ c ∷ []) i d ≡ (turn c.command.ticket.client (slot_for c.command.part)).count =
            (λ j. turn_rank (xs ++ c ∷ []) (here.0 j) (here.1 j)) ∙ rank-front (of_turn c.command.ticket.client (slot_for c.command.part)) xs (length xs) c (omega arith) ∙ sym (f.turns c.command.ticket.client (slot_for c.command.part)).counted in
            end ∙ ap Some (sym its)
        | inr there ↦ front-stays ranks i (turn c.command.ticket.client (slot_for c.command.part)).count (turn_rank xs i d) (f.ranked i d there.1)
            ∙ ap Some (sym (rank-front (of_turn d.command.ticket.client (slot_for d.command.part)) xs i c (omega (arith, there.0))))
      ]

  -- one changes, with the ticket and part that it had
  module _ (i : ℕ) (x y : Arrival) (at : slice_get xs i ≡ Some x) (same-ticket : y.command.ticket ≡ x.command.ticket) (same-part : y.command.part ≡ x.command.part) where
    pub its-client : (n : ℕ) → of_client n y ≡ of_client n x
    its-client n = ap (λ t. t.client == n) same-ticket

    pub its-turn : (n s : ℕ) → of_turn n s y ≡ of_turn n s x
    its-turn n s = λ j. ((same-ticket j).client == n) && (slot_for (same-part j) == s)

    pub found-set : (client' : ℕ → Row) (turn' : ℕ → ℕ → Row) → ((n : ℕ) → IsRow (of_client n) IsAnswered (slice_set xs i y) (client' n)) → ((n s : ℕ) → IsRowSoFar (of_turn n s) HasEnded (slice_set xs i y) (turn' n s))
        → AreFound (slice_set xs i y) ranks place client' turn'
    found-set client' turn' clients' turns' = record {
      numbered = λ j d there. elim (at-set xs i j y d there) [
        | inl here ↦
            (λ k. (here.1 k).command.ticket.part) ∙ ap (λ t. t.part) same-ticket ∙ f.numbered i x at ∙ sym (rank-set (of_client x.command.ticket.client) xs i i x y at (its-client x.command.ticket.client))
            ∙ (λ k. rank (of_client ((sym same-ticket k).client)) (slice_set xs i y) i) ∙ (λ k. rank (of_client (sym here.1 k).command.ticket.client) (slice_set xs i y) (sym here.0 k))
        | inr other ↦ f.numbered j d other.1 ∙ sym (rank-set (of_client d.command.ticket.client) xs i j x y at (its-client d.command.ticket.client))
      ];
      placed = λ n part j. (
        λ e. (let s = (f.placed n part j).0 e in elim (which j i) [
          | inl here ↦
              let one : s.0 ≡ x = (let mine : slice_get xs j ≡ Some s.0 = s.1 in let its : slice_get xs j ≡ Some x = ap (slice_get xs) here ∙ at in cc) in
              (y, ap (slice_get (slice_set xs i y)) here ∙ set-is xs i x y at, ap (λ t. t.client) same-ticket ∙ ap (λ (z : Arrival). z.command.ticket.client) (sym one) ∙ s.2, ap (λ t. t.part) same-ticket ∙ ap (λ (z : Arrival). z.command.ticket.part) (sym one) ∙ s.3)
          | inr apart ↦ (s.0, others-stay xs i j y s.0 apart s.1, s.2, s.3)
        ]),
        λ s. elim (at-set xs i j y s.0 s.1) [
          | inl here ↦
              (f.placed n part j).1 (x, ap (slice_get xs) here.0 ∙ at, ap (λ t. t.client) (sym same-ticket) ∙ ap (λ (z : Arrival). z.command.ticket.client) (sym here.1) ∙ s.2, ap (λ t. t.part) (sym same-ticket) ∙ ap (λ (z : Arrival). z.command.ticket.part) (sym here.1) ∙ s.3)
          | inr other ↦ (f.placed n part j).1 (s.0, other.1, s.2, s.3)
        ],
      );
      clients = clients';
      turns = turns';
      lengths = f.lengths ∙ sym (set-length xs i y);
      ranked = λ j d there. elim (at-set xs i j y d there) [
        | inl here ↦ ap (slice_get ranks) here.0 ∙ f.ranked i x at ∙ ap Some (sym (turn-here j d here.0 here.1))
        | inr other ↦ f.ranked j d other.1 ∙ ap Some (sym (rank-set (of_turn d.command.ticket.client (slot_for d.command.part)) xs i j x y at (its-turn d.command.ticket.client (slot_for d.command.part))))
      ];
    }
      where
        turn-here : (j : ℕ) (d : Arrival) → j ≡ i → d ≡ y → turn_rank (slice_set xs i y) j d ≡ turn_rank xs i x
        turn-here j d place-is item-is =
            (λ k. turn_rank (slice_set xs i y) (place-is k) (item-is k)) ∙ rank-set (of_turn y.command.ticket.client (slot_for y.command.part)) xs i i x y at (its-turn y.command.ticket.client (slot_for y.command.part))
            ∙ (λ k. rank (of_turn ((same-ticket k).client) (slot_for (same-part k))) xs i)
