-- The parts of each slot stay linked both ways, as parts are handed out, end, are added and are dropped.
use Rattle.std.proofs.Common.{◌≡◌, ◌≢◌, ◌≤◌, ◌<◌, ◌+◌, ◌-◌, ◌++◌, ◌∷◌, [], ℕ, List, Bool, true, false, Option, Some, None, suc, inl, inr, length, take, drop, length-append, length-drop, length-take-le, sym, ap, subst, ◌∙◌, arith, rules, refl, cond}
use Rattle.std.specs.Prelude.{slice_get, slice_set, is_some}
use Rattle.std.specs.List.{list_any, list_all}
use Rattle.std.proofs.lemmas.List.{length-set, append-nil}
use Rattle.std.proofs.lemmas.Option.{slice_get_within}
use Rattle.slot_hash.specs.Slot.{slot_of}
use Rattle.key_split.specs.PartModel.{PartModel}
use Rattle.session_order.specs.declared.queue.PartStage.{PartStage}
use Rattle.session_order.specs.declared.queue.PartStage.TheVariants.{Waiting, Done}
use Rattle.session_order.specs.Turn.{is_done, blocks}
use Rattle.session_order.specs.Tables.{in_front, open_parts, first_of, last_of, last_behind, Chained, Preceded, AreLinked, with_link}
use Rattle.session_order.proofs.Lists.{get_drop, get_taken, eqb-no}
use Rattle.session_order.proofs.Opening.{open_set, open_around, open_left, open_append, open_drop, open_take, any_open}
use Rattle.session_order.proofs.Chaining.{Climbs, open_climbs, last_none, last_push, get_last, chained_other, chained_more, chained_drop, chained_push, chained_take, chained_at, chained_cut, preceded_other, preceded_more, preceded_drop, preceded_push, preceded_take, preceded_at, preceded_cut, last_cut}
use Rattle.session_order.proofs.Blocking.{nat_cases, waits, blocks_one, At, first_at, last_at, avoids}

-- a stage that blocks the same slots changes nothing
pub linked_set : (first i : ℕ) (stages : List PartStage) (later earlier : List (Option ℕ)) (last : ℕ → Option ℕ) (s s' : PartStage) → slice_get stages i ≡ Some s → ((q : ℕ) → blocks q s' ≡ blocks q s)
    → AreLinked first stages later earlier last → AreLinked first (slice_set stages i s') later earlier last
linked_set first i stages later earlier last s s' at same t =
    let opens : (q : ℕ) → open_parts q first (slice_set stages i s') ≡ open_parts q first stages = λ q. open_set q first i stages s s' at (same q) in
    record {
      later_places = t.later_places ∙ sym (length-set stages i s');
      earlier_places = t.earlier_places ∙ sym (length-set stages i s');
      chained = λ q. subst (λ ns. Chained first later ns) (sym (opens q)) (t.chained q);
      preceded = λ q. subst (λ ns. Preceded first earlier None ns) (sym (opens q)) (t.preceded q);
      lasts = λ q. t.lasts q ∙ ap last_of (sym (opens q));
    }

-- ---- one leaves

some_is : (a b : Option ℕ) → (let o : Option (Option ℕ) = Some a in o ≡ Some b) → a ≡ b
some_is a b is = search rules

link_len : (table : List (Option ℕ)) (first : ℕ) (number link : Option ℕ) → length (with_link table first number link) ≡ length table
link_len table first None link = refl
link_len table first (Some n) link = length-set table (n - first) link

-- a link at a part of another slot does not matter
other_chained : (first slot q : ℕ) (stages : List PartStage) (later : List (Option ℕ)) (number link : Option ℕ) → ((n : ℕ) → number ≡ Some n → At slot first n stages) → slot ≢ q
    → Chained first later (open_parts q first stages) → Chained first (with_link later first number link) (open_parts q first stages)
other_chained first slot q stages later None link own apart chain = chain
other_chained first slot q stages later (Some n) link own apart chain =
    let at = own n refl in
    chained_other first (n - first) link later (open_parts q first stages)
    (avoids q first at.i (first + (n - first)) stages at.stage (omega (arith, at.numbered)) at.there (blocks_one slot q at.stage at.blocking apart)) chain

other_preceded : (first slot q : ℕ) (stages : List PartStage) (earlier : List (Option ℕ)) (number link : Option ℕ) → ((n : ℕ) → number ≡ Some n → At slot first n stages) → slot ≢ q
    → Preceded first earlier None (open_parts q first stages) → Preceded first (with_link earlier first number link) None (open_parts q first stages)
other_preceded first slot q stages earlier None link own apart chain = chain
other_preceded first slot q stages earlier (Some n) link own apart chain =
    let at = own n refl in
    preceded_other first (n - first) link None earlier (open_parts q first stages)
    (avoids q first at.i (first + (n - first)) stages at.stage (omega (arith, at.numbered)) at.there (blocks_one slot q at.stage at.blocking apart)) chain

module _ (first i slot : ℕ) (stages : List PartStage) (later earlier : List (Option ℕ)) (last : ℕ → Option ℕ) (s : PartStage)
    (at : slice_get stages i ≡ Some s) (own : blocks slot s ≡ true) (t : AreLinked first stages later earlier last) where
  abbrev pub fore : List ℕ
  fore = open_parts slot first (take i stages)

  abbrev pub aft : List ℕ
  aft = open_parts slot (suc (first + i)) (drop (suc i) stages)

  around : open_parts slot first stages ≡ fore ++ (first + i) ∷ aft
  around = open_around slot first i (first + i) stages s refl at own

  pub left : open_parts slot first (slice_set stages i Done) ≡ fore ++ aft
  left = open_left slot first i (first + i) stages s refl at

  climbs : Climbs first (fore ++ (first + i) ∷ aft) (first + length stages)
  climbs = subst (λ ns. Climbs first ns (first + length stages)) around (open_climbs slot first (first + length stages) stages refl)

  others : (q : ℕ) → slot ≢ q → open_parts q first (slice_set stages i Done) ≡ open_parts q first stages
  others q apart = open_set q first i stages s Done at (sym (blocks_one slot q s own apart))

  place : first + i - first ≡ i
  place = omega arith

  -- what stands at its place in the tables
  pub next_is : (next : Option ℕ) → slice_get later i ≡ Some next → next ≡ first_of aft
  next_is next is =
      let e : Some next ≡ Some (first_of aft) = sym is ∙ subst (λ n. slice_get later n ≡ Some (first_of aft)) place (chained_at first (first + i) later fore aft (subst (λ ns. Chained first later ns) around (t.chained slot))) in
      some_is next (first_of aft) e

  pub before_is : (before : Option ℕ) → slice_get earlier i ≡ Some before → before ≡ last_of fore
  before_is before is =
      let e : Some before ≡ Some (last_of fore) = sym is ∙ subst (λ n. slice_get earlier n ≡ Some (last_of fore)) place (preceded_at first (first + i) None earlier fore aft (subst (λ ns. Preceded first earlier None ns) around (t.preceded slot))) in
      some_is before (last_of fore) e

  pub before_at : (n : ℕ) → last_of fore ≡ Some n → At slot first n stages
  before_at n is =
      let a = last_at slot first n (take i stages) is in
      record { i = a.i; stage = a.stage; numbered = a.numbered; there = (get_taken stages i a.i a.stage a.there).0; blocking = a.blocking }

  pub next_at : (n : ℕ) → first_of aft ≡ Some n → At slot first n stages
  next_at n is =
      let a = first_at slot (suc (first + i)) n (drop (suc i) stages) is in
      record { i = suc i + a.i; stage = a.stage; numbered = omega (arith, a.numbered); there = sym (get_drop stages (suc i) a.i (suc i + a.i) refl) ∙ a.there; blocking = a.blocking }

  -- a part of the slot has its place in the tables
  pub at_within : (n : ℕ) → At slot first n stages → (first ≤ n) × (n - first < length stages)
  at_within n a = (omega (arith, a.numbered), omega (arith, a.numbered, slice_get_within stages a.i a.stage a.there))

  last_left : (next : Option ℕ) (was now : Option ℕ) (aft : List ℕ) → next ≡ first_of aft → now ≡ cond (is_some next) was (last_of fore) → was ≡ last_of (fore ++ (first + i) ∷ aft) → now ≡ last_of (fore ++ aft)
  last_left None was now [] following is was_last = is ∙ ap last_of (sym (append-nil fore))
  last_left None was now (m ∷ rest) following is was_last = absurd (cc)
  last_left (Some x) was now [] following is was_last = absurd (cc)
  last_left (Some x) was now (m ∷ rest) following is was_last = is ∙ was_last ∙ last_cut None (first + i) m fore rest

  -- it has ended
  pub unlinked : (last' : ℕ → Option ℕ) (before next : Option ℕ) → before ≡ last_of fore → next ≡ first_of aft → last' slot ≡ cond (is_some next) (last slot) before
      → ((q : ℕ) → slot ≢ q → last' q ≡ last q)
      → AreLinked first (slice_set stages i Done) (with_link later first before next) (with_link earlier first next before) last'
  unlinked last' before next is_before is_next its_last others_last =
      let later' = with_link later first before next in
      let earlier' = with_link earlier first next before in
      record {
        later_places = link_len later first before next ∙ t.later_places ∙ sym (length-set stages i Done);
        earlier_places = link_len earlier first next before ∙ t.earlier_places ∙ sym (length-set stages i Done);
        chained = λ q. elim (nat_cases slot q) [
          | inl same ↦ subst (λ n. Chained first later' (open_parts n first (slice_set stages i Done))) same (subst (λ ns. Chained first later' ns) (sym left)
              (subst (λ o. Chained first (with_link later first before o) (fore ++ aft)) (sym is_next)
              (chained_cut first first (first + length stages) (first + i) later fore aft before is_before climbs (subst (λ ns. Chained first later ns) around (t.chained slot)))))
          | inr apart ↦ subst (λ ns. Chained first later' ns) (sym (others q apart)) (other_chained first slot q stages later before next (λ n is. before_at n (sym is_before ∙ is)) apart (t.chained q))
        ];
        preceded = λ q. elim (nat_cases slot q) [
          | inl same ↦ subst (λ n. Preceded first earlier' None (open_parts n first (slice_set stages i Done))) same (subst (λ ns. Preceded first earlier' None ns) (sym left)
              (subst (λ o. Preceded first (with_link earlier first o before) None (fore ++ aft)) (sym is_next) (subst (λ o. Preceded first (with_link earlier first (first_of aft) o) None (fore ++ aft)) (sym is_before)
              (preceded_cut first first (first + length stages) (first + i) None earlier fore aft climbs (subst (λ ns. Preceded first earlier None ns) around (t.preceded slot))))))
          | inr apart ↦ subst (λ ns. Preceded first earlier' None ns) (sym (others q apart)) (other_preceded first slot q stages earlier next before (λ n is. next_at n (sym is_next ∙ is)) apart (t.preceded q))
        ];
        lasts = λ q. elim (nat_cases slot q) [
          | inl same ↦ subst (λ n. last' n ≡ last_of (open_parts n first (slice_set stages i Done))) same
              (last_left next (last slot) (last' slot) aft is_next (its_last ∙ ap (λ o. cond (is_some next) (last slot) o) is_before) (t.lasts slot ∙ ap last_of around) ∙ ap last_of (sym left))
          | inr apart ↦ others_last q apart ∙ t.lasts q ∙ ap last_of (sym (others q apart))
        ];
      }

  follows_at : (before next : Option ℕ) → before ≡ last_of fore → next ≡ first_of aft → (b : Bool) → b ≡ is_some (last_of fore)
      → cond (is_some before) None next ≡ cond b None (first_of (open_parts slot first (slice_set stages i Done)))
  follows_at (Some n) next is_before is_next true is = refl
  follows_at (Some n) next is_before is_next false is = (let e : false ≡ true = is ∙ ap is_some (sym is_before) in cc)
  follows_at None next is_before is_next true is = (let e : true ≡ false = is ∙ ap is_some (sym is_before) in cc)
  follows_at None next is_before is_next false is =
      let none : fore ≡ [] = last_none fore (sym is_before) in
      is_next ∙ sym (ap first_of (left ∙ ap (λ ns. ns ++ aft) none))

  -- the next one is the first of the slot, where none is before
  pub follows : (before next : Option ℕ) → before ≡ last_of fore → next ≡ first_of aft
      → cond (is_some before) None next ≡ cond (list_any (blocks slot) (take i stages)) None (first_of (open_parts slot first (slice_set stages i Done)))
  follows before next is_before is_next = follows_at before next is_before is_next (list_any (blocks slot) (take i stages)) (any_open slot first (take i stages))

  -- the slot has a last part
  pub has_last : is_some (last slot) ≡ true
  has_last = ap is_some (t.lasts slot ∙ ap last_of around) ∙ some_last fore
    where
      some_after : (before : Option ℕ) (x : ℕ) (ns : List ℕ) → is_some (last_behind before (x ∷ ns)) ≡ true
      some_after before x [] = refl
      some_after before x (n ∷ ns) = some_after (Some x) n ns

      some_from : (before : Option ℕ) (ns : List ℕ) → is_some (last_behind before (ns ++ (first + i) ∷ aft)) ≡ true
      some_from before [] = some_after before (first + i) aft
      some_from before (n ∷ ns) = some_from (Some n) ns

      some_last : (ns : List ℕ) → is_some (last_of (ns ++ (first + i) ∷ aft)) ≡ true
      some_last ns = some_from None ns

-- ---- one more

tail_of : (first : ℕ) (part : PartModel) (q : ℕ) → slot_of part.key ≢ q → open_parts q first (Waiting part ∷ []) ≡ []
tail_of first part q apart = ap (λ (b : Bool). in_front b first []) (eqb-no (slot_of part.key) q apart)

own_tail : (first : ℕ) (part : PartModel) → open_parts (slot_of part.key) first (Waiting part ∷ []) ≡ first ∷ []
own_tail first part = ap (λ (b : Bool). in_front b first []) (waits part)

pub own_more : (first number : ℕ) (stages : List PartStage) (part : PartModel) → number ≡ first + length stages
    → open_parts (slot_of part.key) first (stages ++ Waiting part ∷ []) ≡ open_parts (slot_of part.key) first stages ++ number ∷ []
own_more first number stages part sum =
    open_append (slot_of part.key) first number stages (Waiting part ∷ []) sum ∙ ap (λ ns. open_parts (slot_of part.key) first stages ++ ns) (own_tail number part)

other_more : (first number : ℕ) (stages : List PartStage) (part : PartModel) (q : ℕ) → number ≡ first + length stages → slot_of part.key ≢ q
    → open_parts q first (stages ++ Waiting part ∷ []) ≡ open_parts q first stages
other_more first number stages part q sum apart =
    open_append q first number stages (Waiting part ∷ []) sum ∙ ap (λ ns. open_parts q first stages ++ ns) (tail_of number part q apart) ∙ append-nil (open_parts q first stages)

own_chain : (first number : ℕ) (later : List (Option ℕ)) (ns : List ℕ) (before : Option ℕ) → number ≡ first + length later → before ≡ last_of ns → Climbs first ns number
    → Chained first later ns → Chained first (with_link (later ++ None ∷ []) first before (Some number)) (ns ++ number ∷ [])
own_chain first number later [] None sum is up chain = (omega (arith, sum), get_last later None (number - first) (omega (arith, sum)), tt)
own_chain first number later (n ∷ ns) None sum is up chain = (let e : n ∷ ns ≡ [] = last_none (n ∷ ns) (sym is) in cc)
own_chain first number later ns (Some l) sum is up chain = chained_push first first number l later ns (omega arith) sum up (sym is) chain

-- one more part waits behind the others
pub linked_push : (first number : ℕ) (stages : List PartStage) (later earlier : List (Option ℕ)) (last last' : ℕ → Option ℕ) (part : PartModel) → number ≡ first + length stages
    → last' (slot_of part.key) ≡ Some number → ((q : ℕ) → slot_of part.key ≢ q → last' q ≡ last q) → AreLinked first stages later earlier last
    → AreLinked first (stages ++ Waiting part ∷ []) (with_link (later ++ None ∷ []) first (last (slot_of part.key)) (Some number)) (earlier ++ last (slot_of part.key) ∷ []) last'
linked_push first number stages later earlier last last' part sum its_last others_last t =
    let slot = slot_of part.key in
    let stages' = stages ++ Waiting part ∷ [] in
    let before = last slot in
    let later' = with_link (later ++ None ∷ []) first before (Some number) in
    let own = own_more first number stages part sum in
    let more = length-append stages (Waiting part ∷ []) in
    record {
      later_places = link_len (later ++ None ∷ []) first before (Some number) ∙ omega (arith, t.later_places, more, length-append later (None ∷ []));
      earlier_places = omega (arith, t.earlier_places, more, length-append earlier (before ∷ []));
      chained = λ q. elim (nat_cases slot q) [
        | inl same ↦ subst (λ n. Chained first later' (open_parts n first stages')) same (subst (λ ns. Chained first later' ns) (sym own)
            (own_chain first number later (open_parts slot first stages) before (omega (arith, sum, t.later_places)) (t.lasts slot) (open_climbs slot first number stages sum) (t.chained slot)))
        | inr apart ↦ subst (λ ns. Chained first later' ns) (sym (other_more first number stages part q sum apart))
            (other_chained first slot q stages (later ++ None ∷ []) before (Some number) (λ n is. last_at slot first n stages (sym (t.lasts slot) ∙ is)) apart (chained_more first later (None ∷ []) (open_parts q first stages) (t.chained q)))
      ];
      preceded = λ q. elim (nat_cases slot q) [
        | inl same ↦ subst (λ n. Preceded first (earlier ++ before ∷ []) None (open_parts n first stages')) same (subst (λ ns. Preceded first (earlier ++ before ∷ []) None ns) (sym own)
            (subst (λ o. Preceded first (earlier ++ o ∷ []) None (open_parts slot first stages ++ number ∷ [])) (sym (t.lasts slot))
            (preceded_push first number None earlier (open_parts slot first stages) (omega (arith, sum, t.earlier_places)) (t.preceded slot))))
        | inr apart ↦ subst (λ ns. Preceded first (earlier ++ before ∷ []) None ns) (sym (other_more first number stages part q sum apart)) (preceded_more first None earlier (before ∷ []) (open_parts q first stages) (t.preceded q))
      ];
      lasts = λ q. elim (nat_cases slot q) [
        | inl same ↦ subst (λ n. last' n ≡ last_of (open_parts n first stages')) same (its_last ∙ sym (ap last_of own ∙ last_push (open_parts slot first stages) number))
        | inr apart ↦ others_last q apart ∙ t.lasts q ∙ ap last_of (sym (other_more first number stages part q sum apart))
      ];
    }

-- ---- parts that are done leave

pub linked_drop : (first first' count : ℕ) (stages : List PartStage) (later earlier : List (Option ℕ)) (last : ℕ → Option ℕ)
    → first' ≡ first + count → list_all is_done (take count stages) ≡ true → count ≤ length stages
    → AreLinked first stages later earlier last → AreLinked first' (drop count stages) (drop count later) (drop count earlier) last
linked_drop first first' count stages later earlier last sum done fits t =
    let stages' = drop count stages in
    let opens : (q : ℕ) → open_parts q first' stages' ≡ open_parts q first stages = λ q. open_drop q first first' count stages sum done fits in
    let climbs : (q : ℕ) → Climbs first' (open_parts q first stages) (first' + length stages') =
    λ q. subst (λ ns. Climbs first' ns (first' + length stages')) (opens q) (open_climbs q first' (first' + length stages') stages' refl) in
    record {
      later_places = length-drop count later ∙ omega (arith, t.later_places, length-drop count stages);
      earlier_places = length-drop count earlier ∙ omega (arith, t.earlier_places, length-drop count stages);
      chained = λ q. subst (λ ns. Chained first' (drop count later) ns) (sym (opens q)) (chained_drop first first' count (first' + length stages') later (open_parts q first stages) sum (climbs q) (t.chained q));
      preceded = λ q. subst (λ ns. Preceded first' (drop count earlier) None ns) (sym (opens q)) (preceded_drop first first' count (first' + length stages') None earlier (open_parts q first stages) sum (climbs q) (t.preceded q));
      lasts = λ q. t.lasts q ∙ ap last_of (sym (opens q));
    }

pub linked_take : (first count : ℕ) (stages : List PartStage) (later earlier : List (Option ℕ)) (last : ℕ → Option ℕ)
    → count ≤ length stages → ((j : ℕ) (s : PartStage) → slice_get stages j ≡ Some s → count ≤ j → is_done s ≡ true)
    → AreLinked first stages later earlier last → AreLinked first (take count stages) (take count later) (take count earlier) last
linked_take first count stages later earlier last fits done t =
    let opens : (q : ℕ) → open_parts q first (take count stages) ≡ open_parts q first stages = λ q. open_take q first count stages done in
    let len : length (take count stages) ≡ count = length-take-le count stages fits in
    let climbs : (q : ℕ) → Climbs first (open_parts q first stages) (first + count) =
    λ q. subst (λ ns. Climbs first ns (first + count)) (opens q) (open_climbs q first (first + count) (take count stages) (ap (λ n. first + n) (sym len))) in
    record {
      later_places = length-take-le count later (omega (arith, fits, t.later_places)) ∙ sym len;
      earlier_places = length-take-le count earlier (omega (arith, fits, t.earlier_places)) ∙ sym len;
      chained = λ q. subst (λ ns. Chained first (take count later) ns) (sym (opens q)) (chained_take first first count (first + count) later (open_parts q first stages) refl (climbs q) (t.chained q));
      preceded = λ q. subst (λ ns. Preceded first (take count earlier) None ns) (sym (opens q)) (preceded_take first first count (first + count) None earlier (open_parts q first stages) refl (climbs q) (t.preceded q));
      lasts = λ q. t.lasts q ∙ ap last_of (sym (opens q));
    }
