-- Replies that are collected, and the values that they tell.
use Rattle.std.proofs.Common.{◌≡◌, ◌<◌, ◌≤◌, ◌+◌, ◌++◌, ◌∷◌, [], List, ℕ, length, drop, refl, ap, sym, subst, ◌∙◌, arith, append_assoc, inl, inr, length-append}
use Rattle.std.specs.Prelude.{Option, Some, None, Result, Ok, Err, true, false}
use Rattle.std.proofs.lemmas.List.{append-nil}
use Rattle.resp_wire.specs.FirstValue.{front, Whole}
use Rattle.resp_wire.specs.Seen.{data_of}
use Rattle.resp_wire.specs.LimitsModel.{LimitsModel}
use Rattle.resp_wire.specs.ReaderModel.{ReaderModel}
use Rattle.resp_wire.specs.declared.value.Value.{Value}
use Rattle.resp_wire.proofs.KeepLaws.{front_keeps_value}
use Rattle.node_link.specs.declared.port.PortFault.{PortFault}
use Rattle.node_link.specs.declared.port.PortFault.TheVariants.{NoMemory, Failed, BadWire}
use Rattle.node_link.specs.declared.replies.Awaited.{Awaited}
use Rattle.node_link.specs.declared.replies.Awaited.TheVariants as awaited
use Rattle.node_link.specs.Bytes.{Splits, TakeOutcome}
use Rattle.node_link.specs.Blocks.{RepliesModel, Settles, Tells, first_block, still_settles, tells-nothing}
use Rattle.node_link.specs.Collecting.{Collects, GatherOutcome, Gathers, Gives, NextTold, ValueOutcome, most_held}
use Rattle.node_link.specs.Runs.{BlockOutcome, IsToldByBlock, is_answer}

-- one value more off the front
splits_one : (bounds : LimitsModel) (bytes : List ℕ) (values : List Value) (rest after : List ℕ) (value : Value) → Splits bounds bytes values rest
    → front bounds rest ≡ Whole (data_of value) after → Splits bounds bytes (values ++ value ∷ []) after
splits_one bounds bytes [] rest after value split is = (after, ap (front bounds) split ∙ is, refl)
splits_one bounds bytes (first ∷ values) rest after value split is = (split.0, split.1, splits_one bounds split.0 values rest after value split.2 is)

-- what comes behind changes none of the values that were whole
splits_then : (bounds : LimitsModel) (bytes : List ℕ) (values : List Value) (rest more : List ℕ) (further : List Value) (last : List ℕ) → Splits bounds bytes values rest
    → Splits bounds (rest ++ more) further last → Splits bounds (bytes ++ more) (values ++ further) last
splits_then bounds bytes [] rest more further last split then_split = subst (λ (b : List ℕ). Splits bounds (b ++ more) further last) (sym split) then_split
splits_then bounds bytes (first ∷ values) rest more further last split then_split =
    (split.0 ++ more, front_keeps_value bounds bytes split.0 more (data_of first) split.1, splits_then bounds split.0 values rest more further last split.2 then_split)

pub gathers_none : (input : ReaderModel) (held : List Value) → Gathers input held input held
gathers_none input held = ([], refl, refl, sym (append-nil held))

pub gathers_one : (input mid last : ReaderModel) (held so_far now : List Value) (value : Value) → Gathers input held mid so_far → TakeOutcome mid (Ok (Some value)) last
    → now ≡ so_far ++ value ∷ [] → Gathers input held last now
gathers_one input mid last held so_far now value g t is = (
  g.0 ++ value ∷ [],
  splits_one input.bounds input.unread g.0 mid.unread last.unread value g.1 (subst (λ (b : LimitsModel). front b mid.unread ≡ Whole (data_of value) last.unread) g.2 t.0),
  t.1 ∙ g.2,
  is ∙ ap (λ (vs : List Value). vs ++ value ∷ []) g.3 ∙ append_assoc held g.0 (value ∷ []),
)

pub gathers_same : (input mid last : ReaderModel) (held so_far now : List Value) → Gathers input held mid so_far → last.unread ≡ mid.unread → last.bounds ≡ mid.bounds
    → now ≡ so_far → Gathers input held last now
gathers_same input mid last held so_far now g unread bounds is =
    (g.0, subst (λ (u : List ℕ). Splits input.bounds input.unread g.0 u) (sym unread) g.1, bounds ∙ g.2, is ∙ g.3)

-- a read that gave no value ends the gathering
pub gather_fault : (wanted : ℕ) (input mid last : ReaderModel) (held so_far now : List Value) (fault : PortFault) → Gathers input held mid so_far → TakeOutcome mid (Err fault) last
    → now ≡ so_far → length so_far < wanted → GatherOutcome wanted input held (Err fault) last now
gather_fault wanted input mid last held so_far now NoMemory g t is few =
    (gathers_same input mid last held so_far now g t.0 t.1 is, omega (arith, few, ap (λ (vs : List Value). length vs) is))
gather_fault wanted input mid last held so_far now BadWire g t is few =
    (gathers_same input mid last held so_far now g t.0 t.1 is, omega (arith, few, ap (λ (vs : List Value). length vs) is), (t.2, t.3))
gather_fault wanted input mid last held so_far now Failed g t is few = absurd t

same_replies : (a b : RepliesModel) → a.awaited ≡ b.awaited → a.came ≡ b.came → a.told ≡ b.told → a ≡ b
same_replies a b w c t = λ i. record { awaited = w i; came = c i; told = t i }

none_held : (awaited : List Awaited) (came : List Value) → first_block awaited ≡ None → length came ≤ most_held (first_block awaited) → came ≡ []
none_held awaited [] first few = refl
none_held awaited (reply ∷ came) first few = absurd (omega (arith, few, ap most_held first))

tells_one : (all left : List Awaited) (came rest : List Value) (value : Value) → first_block all ≡ None → came ≡ [] → rest ≡ [] → left ≡ drop 1 all
    → Tells all (came ++ value ∷ []) (value ∷ []) left rest
tells_one [] left came rest value first none nothing is = (is, rw (none, nothing) refl)
tells_one (awaited.Reply ∷ later) left came rest value first none nothing is =
    inr (value ∷ [], [], value ∷ [], [], ap (λ (c : List Value). c ++ value ∷ []) none, (refl, refl), refl, rw (is, nothing) (tells-nothing later []))
tells_one (awaited.Block count ∷ later) left came rest value first none nothing is = absurd (cc)

tells_block : (all left : List Awaited) (replies told rest : List Value) (count : ℕ) → first_block all ≡ Some count → IsToldByBlock count replies told → rest ≡ []
    → left ≡ drop 1 all → Tells all replies told left rest
tells_block [] left replies told rest count first by nothing is = absurd (cc)
tells_block (awaited.Reply ∷ later) left replies told rest count first by nothing is = absurd (cc)
tells_block (awaited.Block many ∷ later) left replies told rest count first by nothing is =
    let same : count ≡ many = cc in
    inr (replies, [], told, [], sym (append-nil replies), subst (λ n. IsToldByBlock n replies told) same by, sym (append-nil told), rw (is, nothing) (tells-nothing later []))

pub settles_collected : (old : RepliesModel) (came : List Value) → Settles [] old came [] (record old { came = old.came ++ came })
settles_collected old came = ([], rw (append-nil old.awaited) (tells-nothing old.awaited (old.came ++ came)), append-nil old.told)

-- what is collected gives nothing
gives_none : (input input' : ReaderModel) (old new : RepliesModel) → Collects input old input' new → Gives input old [] input' new
gives_none input input' old new c = (c.0, c.1, c.2, subst (λ (r : RepliesModel). Settles [] old c.0 [] r) (sym c.3) (settles_collected old c.0))

-- a value that waited is given
pub told_next : (input : ReaderModel) (old new : RepliesModel) (value : Value) → NextTold old (Ok (Some value)) new → ValueOutcome input old (Ok (Some value)) input new
told_next input old new value n =
    let tells = tells-nothing old.awaited old.came in
    let awaited_same = ap (λ (r : RepliesModel). r.awaited) n.1 in
    let came_same = ap (λ (r : RepliesModel). r.came) n.1 in
    ([], refl, refl, ([], rw (append-nil old.awaited, append-nil old.came, awaited_same, came_same) tells, append-nil old.told ∙ n.0))

-- or none is, for want of memory
pub told_failed : (input : ReaderModel) (old new : RepliesModel) (fault : PortFault) → NextTold old (Err fault) new → ValueOutcome input old (Err fault) input new
told_failed input old new NoMemory n = ([], refl, refl, subst (λ (r : RepliesModel). Settles [] old [] [] r) (sym n) (still_settles old))
told_failed input old new BadWire n = absurd n
told_failed input old new Failed n = absurd n

-- a reply that is a value by itself
pub one_reply : (input input' : ReaderModel) (old new : RepliesModel) (value : Value) → old.told ≡ [] → first_block old.awaited ≡ None
    → length old.came ≤ most_held (first_block old.awaited) → TakeOutcome input (Ok (Some value)) input' → new.awaited ≡ drop 1 old.awaited → new.came ≡ old.came
    → new.told ≡ old.told → ValueOutcome input old (Ok (Some value)) input' new
one_reply input input' old new value none first few t w c told =
    let no_more = none_held old.awaited old.came first few in
    let tells = tells_one old.awaited new.awaited old.came new.came value first no_more (c ∙ no_more) w in (
      value ∷ [],
      (input'.unread, t.0, refl),
      t.1,
      (value ∷ [], rw (append-nil old.awaited) tells, ap (λ (vs : List Value). vs ++ value ∷ []) none ∙ ap (λ (vs : List Value). value ∷ vs) (sym (told ∙ none))),
    )

-- nothing came
nothing_came : (input input' : ReaderModel) (replies : RepliesModel) → input'.unread ≡ input.unread → input'.bounds ≡ input.bounds → Collects input replies input' replies
nothing_came input input' replies unread bounds =
    ([], sym unread, bounds, same_replies _ _ refl (sym (append-nil replies.came)) refl)

pub no_reply : (input input' : ReaderModel) (replies : RepliesModel) → replies.told ≡ [] → first_block replies.awaited ≡ None → TakeOutcome input (Ok None) input'
    → ValueOutcome input replies (Ok None) input' replies
no_reply input input' replies none first t = (nothing_came input input' replies t.0 t.1, t.2, (none, λ count is. absurd (cc)))

pub reply_fault : (input input' : ReaderModel) (replies : RepliesModel) (fault : PortFault) → TakeOutcome input (Err fault) input'
    → ValueOutcome input replies (Err fault) input' replies
reply_fault input input' replies NoMemory t = gives_none input input' replies replies (nothing_came input input' replies t.0 t.1)
reply_fault input input' replies BadWire t = (nothing_came input input' replies t.0 t.1, inl (t.2, t.3))
reply_fault input input' replies Failed t = absurd t

-- what was gathered is collected
collected : (input input' : ReaderModel) (old new : RepliesModel) → Gathers input old.came input' new.came → new.awaited ≡ old.awaited → new.told ≡ old.told
    → Collects input old input' new
collected input input' old new g w told = (g.0, g.1, g.2, same_replies _ _ w g.3 told)

pub still_short : (count : ℕ) (input input' : ReaderModel) (old new : RepliesModel) → old.told ≡ [] → first_block old.awaited ≡ Some count
    → GatherOutcome (count + 2) input old.came (Ok false) input' new.came → new.awaited ≡ old.awaited → new.told ≡ old.told
    → ValueOutcome input old (Ok None) input' new
still_short count input input' old new none first g w told = (
  collected input input' old new g.0 w told,
  g.2,
  (told ∙ none, λ other is. let same : count ≡ other = cc in subst (λ n. length new.came < n + 2) same g.1),
)

pub gather_failed : (wanted : ℕ) (input input' : ReaderModel) (old new : RepliesModel) (fault : PortFault) → GatherOutcome wanted input old.came (Err fault) input' new.came
    → new.awaited ≡ old.awaited → new.told ≡ old.told → ValueOutcome input old (Err fault) input' new
gather_failed wanted input input' old new NoMemory g w told = gives_none input input' old new (collected input input' old new g.0 w told)
gather_failed wanted input input' old new BadWire g w told = (collected input input' old new g.0 w told, inl g.2)
gather_failed wanted input input' old new Failed g w told = absurd g

-- the replies to a block that has all of them tell nothing
pub block_failed : (count : ℕ) (input input' : ReaderModel) (old new : RepliesModel) (came : List Value) (fault : PortFault) → first_block old.awaited ≡ Some count
    → GatherOutcome (count + 2) input old.came (Ok true) input' came → BlockOutcome count came (Err fault) new.came → new.awaited ≡ old.awaited → new.told ≡ old.told
    → ValueOutcome input old (Err fault) input' new
block_failed count input input' old new came NoMemory first g b w told =
    gives_none input input' old new (collected input input' old new (subst (λ (c : List Value). Gathers input old.came input' c) (sym b.0) g.0) w told)
block_failed count input input' old new came BadWire first g b w told = (
  collected input input' old new (subst (λ (c : List Value). Gathers input old.came input' c) (sym b.0) g.0) w told,
  inr (count, ap first_block w ∙ first, ap (λ (c : List Value). length c) b.0 ∙ g.1, ap (λ (c : List Value). is_answer count c) b.0 ∙ b.1),
)
block_failed count input input' old new came Failed first g b w told = absurd b

-- the replies to a block tell its commands, and these of the values were given
block_gives : (count : ℕ) (input input' : ReaderModel) (old new : RepliesModel) (came told values : List Value) → old.told ≡ []
    → first_block old.awaited ≡ Some count → GatherOutcome (count + 2) input old.came (Ok true) input' came → IsToldByBlock count came told
    → told ≡ values ++ new.told → new.awaited ≡ drop 1 old.awaited → new.came ≡ [] → Gives input old values input' new
block_gives count input input' old new came told values none first g by is w nothing =
    let all = subst (λ (c : List Value). IsToldByBlock count c told) g.0.3 by in
    let tells = tells_block old.awaited new.awaited (old.came ++ g.0.0) told new.came count first all nothing w in
    (g.0.0, g.0.1, g.0.2, (told, rw (append-nil old.awaited) tells, ap (λ (vs : List Value). vs ++ told) none ∙ is))

pub block_told : (count : ℕ) (input input' : ReaderModel) (old mid new : RepliesModel) (came told : List Value) (result : Result (Option Value) PortFault) → old.told ≡ []
    → first_block old.awaited ≡ Some count → GatherOutcome (count + 2) input old.came (Ok true) input' came → IsToldByBlock count came told → 0 < length told
    → mid.awaited ≡ drop 1 old.awaited → mid.came ≡ [] → mid.told ≡ told → NextTold mid result new → ValueOutcome input old result input' new
block_told count input input' old mid new came told (Ok (Some value)) none first g by some w nothing all n =
    block_gives count input input' old new came told (value ∷ []) none first g by (sym all ∙ n.0) (ap (λ (r : RepliesModel). r.awaited) n.1 ∙ w) (ap (λ (r : RepliesModel). r.came) n.1 ∙ nothing)
block_told count input input' old mid new came told (Err NoMemory) none first g by some w nothing all n =
    block_gives count input input' old new came told [] none first g by (sym all ∙ ap (λ (r : RepliesModel). r.told) (sym n)) (ap (λ (r : RepliesModel). r.awaited) n ∙ w) (ap (λ (r : RepliesModel). r.came) n ∙ nothing)
block_told count input input' old mid new came told (Ok None) none first g by some w nothing all n =
    absurd (omega (arith, some, ap (λ (vs : List Value). length vs) (sym all ∙ n.0)))
block_told count input input' old mid new came told (Err BadWire) none first g by some w nothing all n = absurd n
block_told count input input' old mid new came told (Err Failed) none first g by some w nothing all n = absurd n

settles_later : (old new : RepliesModel) (came further values : List Value) → Settles [] (record old { came = old.came ++ came }) further values new
    → Settles [] old (came ++ further) values new
settles_later old new came further values s =
    (s.0, subst (λ (r : List Value). Tells (old.awaited ++ []) r s.0 new.awaited new.came) (append_assoc old.came came further) s.1, s.2)

collects_then : (input mid next last : ReaderModel) (read : List ℕ) (old so_far new : RepliesModel) → Collects input old mid so_far → next.unread ≡ mid.unread ++ read
    → next.bounds ≡ mid.bounds → Collects next so_far last new → Collects (record input { unread = input.unread ++ read }) old last new
collects_then input mid next last read old so_far new c unread bounds d = (
  c.0 ++ d.0,
  splits_then input.bounds input.unread c.0 mid.unread read d.0 last.unread c.1
      (subst (λ (b : LimitsModel). Splits b (mid.unread ++ read) d.0 last.unread) (bounds ∙ c.2) (subst (λ (u : List ℕ). Splits next.bounds u d.0 last.unread) unread d.1)),
  d.2 ∙ bounds ∙ c.2,
  d.3 ∙ subst (λ (s : RepliesModel). record s { came = s.came ++ d.0 } ≡ record old { came = old.came ++ (c.0 ++ d.0) }) (sym c.3)
      (same_replies _ _ refl (append_assoc old.came c.0 d.0) refl),
)

gives_then : (input mid next last : ReaderModel) (read : List ℕ) (old so_far new : RepliesModel) (values : List Value) → Collects input old mid so_far
    → next.unread ≡ mid.unread ++ read → next.bounds ≡ mid.bounds → Gives next so_far values last new → Gives (record input { unread = input.unread ++ read }) old values last new
gives_then input mid next last read old so_far new values c unread bounds v = (
  c.0 ++ v.0,
  splits_then input.bounds input.unread c.0 mid.unread read v.0 last.unread c.1
      (subst (λ (b : LimitsModel). Splits b (mid.unread ++ read) v.0 last.unread) (bounds ∙ c.2) (subst (λ (u : List ℕ). Splits next.bounds u v.0 last.unread) unread v.1)),
  v.2 ∙ bounds ∙ c.2,
  settles_later old new c.0 v.0 values (subst (λ (s : RepliesModel). Settles [] s v.0 values new) c.3 v.3),
)

-- what a later look gives, where more bytes came since one that gave nothing
pub resumed : (input mid next last : ReaderModel) (read : List ℕ) (old so_far new : RepliesModel) (result : Result (Option Value) PortFault)
    → Collects input old mid so_far → next.unread ≡ mid.unread ++ read → next.bounds ≡ mid.bounds → ValueOutcome next so_far result last new
    → ValueOutcome (record input { unread = input.unread ++ read }) old result last new
resumed input mid next last read old so_far new (Ok (Some value)) c unread bounds v = gives_then input mid next last read old so_far new (value ∷ []) c unread bounds v
resumed input mid next last read old so_far new (Ok None) c unread bounds v = (collects_then input mid next last read old so_far new c unread bounds v.0, v.1, v.2)
resumed input mid next last read old so_far new (Err NoMemory) c unread bounds v = gives_then input mid next last read old so_far new [] c unread bounds v
resumed input mid next last read old so_far new (Err BadWire) c unread bounds v = (collects_then input mid next last read old so_far new c unread bounds v.0, v.1)
resumed input mid next last read old so_far new (Err Failed) c unread bounds v = absurd v

-- the first block stands at the front where more is awaited
pub held_before : (all : List Awaited) (last : Awaited) (came : List Value) → length came ≤ most_held (first_block all) → length came ≤ most_held (first_block (all ++ last ∷ []))
held_before [] last came few = omega (arith, few)
held_before (awaited.Reply ∷ all) last came few = few
held_before (awaited.Block count ∷ all) last came few = few

pub grown_within : (so_far now : List Value) (value : Value) (wanted : ℕ) → now ≡ so_far ++ value ∷ [] → length so_far < wanted → length now ≤ wanted
grown_within so_far now value wanted is few = omega (arith, few, ap (λ (vs : List Value). length vs) is, length-append so_far (value ∷ []))
