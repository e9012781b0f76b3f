-- A client stays sound.
use Rattle.std.proofs.Common.{◌≡◌, ◌≢◌, ◌⊎◌, ◌<◌, ◌≤◌, ◌+◌, ◌-◌, ◌++◌, ◌∷◌, [], ℕ, zero, suc, take, drop, Bool, true, false, cond, List, Option, Some, None, Result, Ok, Err, inl, inr, refl, sym, ap, subst, ◌∙◌, arith, rules, length, length-append, map, eqb→eq}
use Rattle.std.specs.Prelude.{All, T, slice_get, slice_index_or}
use Rattle.std.proofs.lemmas.Bool.{false≢true}
use Rattle.std.proofs.lemmas.List.{append_assoc, append-nil, length-map}
use Rattle.std.proofs.lemmas.List.Elements.{All-cons, All-head, All-map, All-nil, All-push, All-tail, All-weaker}
use Rattle.std.proofs.lemmas.Option.{slice_get_within}
use Rattle.std.specs.List.{list_any}
use Rattle.std.specs.Ordering.{nat_cmp, eq_by_cmp}
use Rattle.std.specs.Cmp.{nat_cmp_total, unsigned_ties, eq_by_cmp_equiv}
use Rattle.std.specs.FinMap.{FinMap, empty, get, insert, remove, get-insert, get-remove, get-empty}
use Rattle.slot_hash.specs.Slot.{slot_of}
use Rattle.resp_wire.specs.declared.fault.NoMemory.{NoMemory}
use Rattle.key_split.specs.PartModel.{PartModel}
use Rattle.key_split.specs.Runs.{RunModel, GoTogether, IsTogether, count_in}
use Rattle.key_split.specs.declared.travel.Ticket.{Ticket}
use Rattle.key_split.specs.declared.travel.Told.{Told}
use Rattle.key_split.specs.declared.travel.Ended.{Ended}
use Rattle.command_future.specs.CommandModel.{CommandModel, IsFresh, asks_at, batch_of, fresh, progress_told}
use Rattle.session_order.specs.SessionModel.{SessionModel}
use Rattle.session_order.specs.declared.queue.PartStage.TheVariants.{Waiting, Out}
use Rattle.session_order.specs.Turn.{blocks, waits_for}
use Rattle.session_order.specs.Steps.{IsOut, IsOutInOrder, IsHandedOut, KeepsOrder, ReadyOutcome, FollowerOutcome}
use Rattle.session_order.specs.Behind.{IsAmong, IsOfSession, IsOutBehind, KeepsParts}
use Rattle.session_order.proofs.Lists.{any_all, any_at, get_drop, get_set_same, one_of}
use Rattle.session_order.proofs.Behind.{follower_parts, ready_parts}
use Rattle.session_order.proofs.Keeping.{follower_keeps, follower_out, out_in_order, ready_keeps, ready_out, waits_eases}
use Rattle.proxy_lanes.specs.declared.ring.Outlet.{Outlet}
use Rattle.proxy_lanes.specs.View.{ViewModel}
use Rattle.proxy_turns.specs.Commands.{AreOneRun, BeginOutcome, CommandsModel, Drops, FollowOutcome, GoesWith, HasEnd, Hears, LastIsOut, PostsAt, PostsAtResult, PostsFresh, PostsFreshResult, awaiting, most_together, run_of, with_command, with_fresh, with_posted, with_run}
use Rattle.proxy_turns.specs.ClientModel.{GoBehind, IsSoundClient}
use Rattle.proxy_turns.proofs.Tables.{none_some}
use Rattle.proxy_turns.proofs.Posting.{some_same}

sound_new : (session : SessionModel) → IsSoundClient session (record { fresh = []; posted = empty })
sound_new session = record {
  posted = λ number c there. absurd (none_some c (sym (get-empty nat_cmp number) ∙ there));
  fresh = All-nil IsFresh;
  few = omega arith;
  order = All-nil (λ c. IsOutInOrder session c.ticket);
  turn = (0, tt);
  apart = All-nil (λ c. get empty c.ticket.part ≡ None);
}

pub sound_begun : (session : SessionModel) (commands : CommandsModel) → commands ≡ record { fresh = []; posted = empty } → IsSoundClient session commands
sound_begun session commands is = subst (IsSoundClient session) (sym is) (sound_new session)

nat_order3 : (a b : ℕ) → ((a < b) ⊎ (a ≡ b)) ⊎ (b < a)
nat_order3 zero zero = inl (inr refl)
nat_order3 zero (suc b) = inl (inl (omega arith))
nat_order3 (suc a) zero = inr (omega arith)
nat_order3 (suc a) (suc b) = elim (nat_order3 a b) [ inl (inl low) ↦ inl (inl (omega (arith, low))) | inl (inr same) ↦ inl (inr (ap suc same)) | inr high ↦ inr (omega (arith, high)) ]

among_left : (xs ys : List ℕ) (n : ℕ) → IsAmong xs n → IsAmong (xs ++ ys) n
among_left [] ys n at = absurd at
among_left (x ∷ xs) ys n (inl same) = inl same
among_left (x ∷ xs) ys n (inr later) = inr (among_left xs ys n later)

among_right : (xs ys : List ℕ) (n : ℕ) → IsAmong ys n → IsAmong (xs ++ ys) n
among_right [] ys n at = at
among_right (x ∷ xs) ys n at = inr (among_right xs ys n at)

All-last : {X : Type 0} (P : X → Type 0) (xs : List X) (x : X) → All P (xs ++ x ∷ []) → P x
All-last P [] x all = All-head P x [] all
All-last P (y ∷ xs) x all = All-last P xs x (All-tail P y (xs ++ x ∷ []) all)

map_push : {X Y : Type 0} (f : X → Y) (xs : List X) (x : X) → map f (xs ++ x ∷ []) ≡ map f xs ++ f x ∷ []
map_push f [] x = refl
map_push f (y ∷ xs) x = ap (λ ys. f y ∷ ys) (map_push f xs x)

-- ---- what is out behind others

behind_kept : (old new : SessionModel) → KeepsParts old new → (slot : ℕ) (before : List ℕ) (ticket : Ticket) → IsOutBehind old slot before ticket → IsOutBehind new slot before ticket
behind_kept old new parts slot before ticket out = record {
  owner = (out.owner.0 ∙ sym parts.owner.0, out.owner.1 ∙ sym parts.owner.1);
  out = parts.out slot ticket.part out.out;
  earlier = out.earlier;
  others = λ number opened less.
      out.others number (parts.none_opens slot number (omega (arith, less, out.out.0, slice_get_within old.stages (ticket.part - old.first) (Out slot) out.out.1)) opened) less;
}

-- where each of the commands stays behind whatever it was behind
go_each : (old new : SessionModel) (slot : ℕ) (before : List ℕ) (cs : List CommandModel)
    → All (λ c. (those : List ℕ) → IsOutBehind old slot those c.ticket → IsOutBehind new slot those c.ticket) cs → GoBehind old slot before cs → GoBehind new slot before cs
go_each old new slot before [] all goes = tt
go_each old new slot before (c ∷ cs) all (own, out, goes) =
    let Stays : CommandModel → Type 0 = λ d. (those : List ℕ) → IsOutBehind old slot those d.ticket → IsOutBehind new slot those d.ticket in
    (own, All-head Stays c cs all before out, go_each old new slot (before ++ c.ticket.part ∷ []) cs (All-tail Stays c cs all) goes)

go_kept : (old new : SessionModel) (slot : ℕ) (before : List ℕ) (cs : List CommandModel) → KeepsParts old new → GoBehind old slot before cs → GoBehind new slot before cs
go_kept old new slot before [] parts goes = tt
go_kept old new slot before (c ∷ cs) parts (own, out, goes) =
    (own, behind_kept old new parts slot before c.ticket out, go_kept old new slot (before ++ c.ticket.part ∷ []) cs parts goes)

abbrev part_of : CommandModel → ℕ
part_of c = c.ticket.part

-- one more goes behind all of them
go_push : (session : SessionModel) (slot : ℕ) (before : List ℕ) (cs : List CommandModel) (c : CommandModel) → GoBehind session slot before cs → slot_of c.part.key ≡ slot
    → IsOutBehind session slot (before ++ map part_of cs) c.ticket → GoBehind session slot before (cs ++ c ∷ [])
go_push session slot before [] c goes own out = (own, subst (λ ns. IsOutBehind session slot ns c.ticket) (append-nil before) out, tt)
go_push session slot before (d ∷ cs) c (first, there, goes) own out =
    (first, there, go_push session slot (before ++ d.ticket.part ∷ []) cs c goes own (subst (λ ns. IsOutBehind session slot ns c.ticket) (sym (append_assoc before (d.ticket.part ∷ []) (map part_of cs))) out))

-- what the last of them is behind
go_last : (session : SessionModel) (slot : ℕ) (before : List ℕ) (cs : List CommandModel) (last : CommandModel) → GoBehind session slot before (cs ++ last ∷ [])
    → IsOutBehind session slot (before ++ map part_of cs) last.ticket
go_last session slot before [] last (own, out, goes) = subst (λ ns. IsOutBehind session slot ns last.ticket) (sym (append-nil before)) out
go_last session slot before (d ∷ cs) last (first, there, goes) =
    subst (λ ns. IsOutBehind session slot ns last.ticket) (append_assoc before (d.ticket.part ∷ []) (map part_of cs)) (go_last session slot (before ++ d.ticket.part ∷ []) cs last goes)

-- all of them are of the session, for the slot
go_all : (session : SessionModel) (slot : ℕ) (before : List ℕ) (cs : List CommandModel) → GoBehind session slot before cs → All (λ c. (slot_of c.part.key ≡ slot) × IsOfSession session c.ticket) cs
go_all session slot before [] goes = All-nil (λ c. (slot_of c.part.key ≡ slot) × IsOfSession session c.ticket)
go_all session slot before (c ∷ cs) (own, out, goes) =
    All-cons (λ d. (slot_of d.part.key ≡ slot) × IsOfSession session d.ticket) c cs (own, out.owner) (go_all session slot (before ++ c.ticket.part ∷ []) cs goes)

not_blocking : (b : Bool) → (b ≡ true → ⊥) → b ≡ false
not_blocking true none = absurd (none refl)
not_blocking false none = refl

-- what is out behind none has its turn
behind_none : (session : SessionModel) (slot : ℕ) (ticket : Ticket) → IsOutBehind session slot [] ticket → IsOut session ticket
behind_none session slot ticket out = (
  slot,
  out.out.0,
  out.out.1,
  out.owner.0,
  out.owner.1,
  any_all (blocks slot) session.stages (ticket.part - session.first) (λ j stage at less. not_blocking (blocks slot stage) (λ blocking.
      out.others (session.first + j) (omega arith, stage, subst (λ n. slice_get session.stages n ≡ Some stage) (omega arith) at, blocking) (omega (arith, less)))),
)

waiting_same : (a b : PartModel) → Waiting a ≡ Waiting b → a ≡ b
waiting_same a b is = search rules

out_same : (a b : ℕ) → Out a ≡ Out b → a ≡ b
out_same a b is = search rules

-- a part that is handed out is behind none
ready_behind : (old : SessionModel) (ticket : Ticket) (part : PartModel) (new : SessionModel) → ReadyOutcome old (Some (ticket, part)) new → IsOutBehind new (slot_of part.key) [] ticket
ready_behind old ticket part new (i, (may, earliest, at), numbered, is) =
    let slot = slot_of part.key in
    let parts = ready_parts old (Some (ticket, part)) new (i, (may, earliest, at), numbered, is) in
    let place : ticket.part ≡ old.first + i = ap (λ (t : Ticket). t.part) numbered in
    let low : new.first ≡ old.first = ap (λ (m : SessionModel). m.first) is in
    let within = slice_get_within old.stages i (Waiting part) at in
    let own : may.0 ≡ part = waiting_same may.0 part (one_of old.stages i (Waiting may.0) (Waiting part) may.1 at) in
    let free : list_any (blocks slot) (take i old.stages) ≡ false = subst (λ p. list_any (blocks (slot_of p.key)) (take i old.stages) ≡ false) own may.2 in
    let there : slice_get new.stages (ticket.part - new.first) ≡ Some (Out slot) =
    subst (λ n. slice_get new.stages n ≡ Some (Out slot)) (omega (arith, place, low)) (ap (λ (m : SessionModel). slice_get m.stages i) is ∙ get_set_same old.stages i (Waiting part) (Out slot) at) in
    record {
      owner = (ap (λ (t : Ticket). t.worker) numbered ∙ sym parts.owner.0, ap (λ (t : Ticket). t.client) numbered ∙ sym parts.owner.1);
      out = (omega (arith, place, low), there);
      earlier = All-nil (λ number. number < ticket.part);
      others = λ number opened less.
          let was = parts.none_opens slot number (omega (arith, less, place, within)) opened in
          absurd (false≢true (sym (any_at (blocks slot) old.stages i (number - old.first) was.1 free was.2 (omega (arith, less, place, was.0))) ∙ was.3));
    }

ready_was_not : (old : SessionModel) (ticket : Ticket) (part : PartModel) (new : SessionModel) → ReadyOutcome old (Some (ticket, part)) new → IsHandedOut old ticket → ⊥
ready_was_not old ticket part new (i, (may, earliest, at), numbered, is) (slot, low, posted, worker, client) =
    let place : ticket.part - old.first ≡ i = omega (arith, ap (λ (t : Ticket). t.part) numbered) in
    let both : slice_get old.stages i ≡ Some (Out slot) = subst (λ n. slice_get old.stages n ≡ Some (Out slot)) place posted in cc

-- a part that is handed out behind another is behind what that one is behind, and behind that one
follower_behind : (old : SessionModel) (last ticket : Ticket) (part : PartModel) (new : SessionModel) (slot : ℕ) (before : List ℕ) → FollowerOutcome old last (Some (ticket, part)) new
    → IsOutBehind old slot before last → (slot_of part.key ≡ slot) × IsOutBehind new slot (before ++ last.part ∷ []) ticket
follower_behind old last ticket part new slot before (j, follows, numbered, is) out =
    let parts = follower_parts old last (Some (ticket, part)) new (j, follows, numbered, is) in
    let place : ticket.part ≡ old.first + j = ap (λ (t : Ticket). t.part) numbered in
    let low : new.first ≡ old.first = ap (λ (m : SessionModel). m.first) is in
    let within = slice_get_within old.stages j (Waiting part) follows.waits in
    let own : slot_of part.key ≡ slot = out_same (slot_of part.key) slot (one_of old.stages (last.part - old.first) (Out (slot_of part.key)) (Out slot) follows.out out.out.1) in
    let there : slice_get new.stages (ticket.part - new.first) ≡ Some (Out slot) =
    subst (λ n. slice_get new.stages n ≡ Some (Out slot)) (omega (arith, place, low))
    (ap (λ (m : SessionModel). slice_get m.stages j) is ∙ get_set_same old.stages j (Waiting part) (Out (slot_of part.key)) follows.waits ∙ ap (λ n. Some (Out n)) own) in
    let behind : last.part < ticket.part = omega (arith, follows.behind, place, out.out.0) in
    let free : list_any (blocks slot) (take (j - suc (last.part - old.first)) (drop (suc (last.part - old.first)) old.stages)) ≡ false =
    subst (λ n. list_any (blocks n) (take (j - suc (last.part - old.first)) (drop (suc (last.part - old.first)) old.stages)) ≡ false) own follows.next in (
      own,
      record {
        owner = (ap (λ (t : Ticket). t.worker) numbered ∙ sym parts.owner.0, ap (λ (t : Ticket). t.client) numbered ∙ sym parts.owner.1);
        out = (omega (arith, place, low), there);
        earlier = All-push (λ number. number < ticket.part) before last.part (All-weaker (λ number. number < last.part) (λ number. number < ticket.part) (λ number less. omega (arith, less, behind)) before out.earlier) behind;
        others = λ number opened less.
            let was = parts.none_opens slot number (omega (arith, less, place, within)) opened in
            elim (nat_order3 number last.part) [
              | inl (inl earlier) ↦ among_left before (last.part ∷ []) number (out.others number was earlier)
              | inl (inr same) ↦ among_right before (last.part ∷ []) number (inl same)
              | inr later ↦
                  let at : slice_get (drop (suc (last.part - old.first)) old.stages) (number - old.first - suc (last.part - old.first)) ≡ Some was.1 =
                  get_drop old.stages (suc (last.part - old.first)) (number - old.first - suc (last.part - old.first)) (number - old.first) (omega (arith, later, was.0, out.out.0)) ∙ was.2 in
                  absurd (false≢true (sym (any_at (blocks slot) (drop (suc (last.part - old.first)) old.stages) (j - suc (last.part - old.first)) (number - old.first - suc (last.part - old.first)) was.1 free at
                  (omega (arith, less, later, place, was.0, out.out.0))) ∙ was.3))
            ];
      },
    )

-- ---- the client's session goes on

-- the session keeps those that are out
pub sound_kept : (old new : SessionModel) (commands : CommandsModel) → KeepsOrder old new → KeepsParts old new → IsSoundClient old commands → IsSoundClient new commands
sound_kept old new commands order parts sound = record {
  posted = λ number c there. ((sound.posted number c there).0, order c.ticket (sound.posted number c there).1);
  fresh = sound.fresh;
  few = sound.few;
  order = All-weaker (λ c. IsOutInOrder old c.ticket) (λ c. IsOutInOrder new c.ticket) (λ c. order c.ticket) commands.fresh sound.order;
  turn = (sound.turn.0, go_kept old new sound.turn.0 [] commands.fresh parts sound.turn.1);
  apart = sound.apart;
}

none_of : {X : Type 0} (o : Option X) → ((x : X) → o ≡ Some x → ⊥) → o ≡ None
none_of None none = refl
none_of (Some x) none = absurd (none x refl)

-- no posted command is of a part that was not handed out
not_posted : (session : SessionModel) (commands : CommandsModel) (ticket : Ticket) → IsSoundClient session commands → (ticket.worker ≡ session.worker) × (ticket.client ≡ session.client)
    → (IsHandedOut session ticket → ⊥) → get commands.posted ticket.part ≡ None
not_posted session commands ticket sound owner not = none_of (get commands.posted ticket.part) (λ c there.
    let its = sound.posted ticket.part c there in
    not (its.1.0, subst (λ n. session.first ≤ n) its.0 its.1.1, subst (λ n. slice_get session.stages (n - session.first) ≡ Some (Out its.1.0)) its.0 its.1.2, owner.0, owner.1))

-- a command begins
sound_more : (old new : SessionModel) (commands : CommandsModel) (ticket : Ticket) (part : PartModel) → KeepsOrder old new → KeepsParts old new → IsOutInOrder new ticket → (IsHandedOut old ticket → ⊥)
    → length commands.fresh < most_together → (slot : ℕ) → GoBehind new slot [] (commands.fresh ++ fresh ticket part ∷ []) → IsSoundClient old commands → IsSoundClient new (with_fresh commands ticket part)
sound_more old new commands ticket part order parts out was_not few slot goes sound =
    let kept = sound_kept old new commands order parts sound in
    let c : CommandModel = fresh ticket part in
    record {
      posted = kept.posted;
      fresh = All-push IsFresh commands.fresh c kept.fresh refl;
      few = omega (arith, few, length-append commands.fresh (c ∷ []));
      order = All-push (λ d. IsOutInOrder new d.ticket) commands.fresh c kept.order out;
      turn = (slot, goes);
      apart = All-push (λ d. get commands.posted d.ticket.part ≡ None) commands.fresh c kept.apart
          (not_posted old commands ticket sound (out.3 ∙ parts.owner.0, out.4 ∙ parts.owner.1) was_not);
    }

pub sound_begins : (old new : SessionModel) (commands commands' : CommandsModel) (result : Result Bool NoMemory) → commands.fresh ≡ [] → BeginOutcome commands old result commands' new → IsSoundClient old commands → IsSoundClient new commands'
sound_begins old new commands commands' (Ok true) none (ticket, part, ready, is) sound =
    let given = ready_out old (Some (ticket, part)) new ready in
    let was_not : IsHandedOut old ticket → ⊥ = ready_was_not old ticket part new ready in
    let goes : GoBehind new (slot_of part.key) [] (commands.fresh ++ fresh ticket part ∷ []) =
    subst (λ cs. GoBehind new (slot_of part.key) [] (cs ++ fresh ticket part ∷ [])) (sym none) (refl, ready_behind old ticket part new ready, tt) in
    subst (IsSoundClient new) (sym is)
    (sound_more old new commands ticket part (ready_keeps waits_for waits_eases old (Some (ticket, part)) new ready) (ready_parts old (Some (ticket, part)) new ready) (out_in_order new ticket given.0) was_not
    (omega (arith, ap length none)) (slot_of part.key) goes sound)
sound_begins old new commands commands' (Ok false) none (ready, same) sound =
    subst (IsSoundClient new) (sym same) (sound_kept old new commands (ready_keeps waits_for waits_eases old None new ready) (ready_parts old None new ready) sound)
sound_begins old new commands commands' (Err e) none (same, kept) sound = subst (λ m. IsSoundClient m commands') (sym kept) (subst (IsSoundClient old) (sym same) sound)

pub sound_follows : (old new : SessionModel) (commands commands' : CommandsModel) (result : Result Bool NoMemory) → length commands.fresh < most_together → FollowOutcome commands old result commands' new
    → IsSoundClient old commands → IsSoundClient new commands'
sound_follows old new commands commands' (Ok true) few (ticket, part, (before, last, those, follows), is) sound =
    let given = follower_out old last.ticket (Some (ticket, part)) new follows in
    let parts = follower_parts old last.ticket (Some (ticket, part)) new follows in
    let slot = sound.turn.0 in
    let chain : GoBehind old slot [] (before ++ last ∷ []) = subst (GoBehind old slot []) those sound.turn.1 in
    let behind = follower_behind old last.ticket ticket part new slot (map part_of before) follows (go_last old slot [] before last chain) in
    let along : IsOutBehind new slot (map part_of commands.fresh) ticket = subst (λ ns. IsOutBehind new slot ns ticket) (sym (ap (map part_of) those ∙ map_push part_of before last)) behind.1 in
    let goes = go_push new slot [] commands.fresh (fresh ticket part) (go_kept old new slot [] commands.fresh parts sound.turn.1) behind.0 along in
    subst (IsSoundClient new) (sym is)
    (sound_more old new commands ticket part (follower_keeps waits_for waits_eases old last.ticket (Some (ticket, part)) new follows) parts given.0 given.1 few slot goes sound)
sound_follows old new commands commands' (Ok false) few (same, kept) sound = subst (λ m. IsSoundClient m commands') (sym kept) (subst (IsSoundClient old) (sym same) sound)
sound_follows old new commands commands' (Err e) few (same, kept) sound = subst (λ m. IsSoundClient m commands') (sym kept) (subst (IsSoundClient old) (sym same) sound)

-- the last of those that were not posted yet is out
pub last_out : (session : SessionModel) (commands : CommandsModel) → IsSoundClient session commands → LastIsOut session commands.fresh
last_out session commands sound before last those =
    let (slot, low, at, worker, client, order) = All-last (λ c. IsOutInOrder session c.ticket) before last (subst (All (λ c. IsOutInOrder session c.ticket)) those sound.order) in
    (slot, low, at, worker, client)

-- ---- commands change

-- the commands that were not posted yet are dropped
sound_dropped : (session : SessionModel) (commands : CommandsModel) → IsSoundClient session commands → IsSoundClient session (record commands { fresh = [] })
sound_dropped session commands sound = record {
  posted = sound.posted;
  fresh = All-nil IsFresh;
  few = omega arith;
  order = All-nil (λ c. IsOutInOrder session c.ticket);
  turn = (0, tt);
  apart = All-nil (λ c. get commands.posted c.ticket.part ≡ None);
}

pub sound_drops : (session : SessionModel) (commands commands' : CommandsModel) (dropped : Bool) → Drops commands dropped commands' → IsSoundClient session commands → IsSoundClient session commands'
sound_drops session commands commands' true (some, is) sound = subst (IsSoundClient session) (sym is) (sound_dropped session commands sound)
sound_drops session commands commands' false (none, same) sound = subst (IsSoundClient session) (sym same) sound

chosen : (b : Bool) (q k : ℕ) (c d : CommandModel) (other : Option CommandModel) (P : ℕ → CommandModel → Type 0) → eq_by_cmp nat_cmp q k ≡ b → cond b (Some c) other ≡ Some d
    → P k c → (other ≡ Some d → P q d) → P q d
chosen true q k c d other P same is put rest =
    let one : q ≡ k = eqb→eq q k (subst T (sym (unsigned_ties q k ∙ same)) tt) in
    subst (λ n. P n d) (sym one) (subst (P k) (some_same c d is) put)
chosen false q k c d other P same is put rest = rest is

-- what holds of each command that was posted holds after one is put
all_put : (m : FinMap nat_cmp CommandModel) (k : ℕ) (c : CommandModel) (P : ℕ → CommandModel → Type 0) → ((q : ℕ) (d : CommandModel) → get m q ≡ Some d → P q d) → P k c
    → (q : ℕ) (d : CommandModel) → get (insert m k c) q ≡ Some d → P q d
all_put m k c P all put q d there =
    chosen (eq_by_cmp nat_cmp q k) q k c d (get m q) P refl (sym (get-insert nat_cmp_total m k c q) ∙ there) put (all q d)

-- and after some are
all_posted : (m : FinMap nat_cmp CommandModel) (cs : List CommandModel) (P : ℕ → CommandModel → Type 0) → ((q : ℕ) (d : CommandModel) → get m q ≡ Some d → P q d) → All (λ c. P c.ticket.part (awaiting c)) cs
    → (q : ℕ) (d : CommandModel) → get (with_posted m cs) q ≡ Some d → P q d
all_posted m [] P all puts q d there = all q d there
all_posted m (c ∷ cs) P all puts q d there =
    all_posted (insert m c.ticket.part (awaiting c)) cs P (all_put m c.ticket.part (awaiting c) P all (All-head (λ e. P e.ticket.part (awaiting e)) c cs puts)) (All-tail (λ e. P e.ticket.part (awaiting e)) c cs puts) q d there

still_none : (m : FinMap nat_cmp CommandModel) (k q : ℕ) (c c' : CommandModel) → get m k ≡ Some c → get m q ≡ None → get (insert m k c') q ≡ None
still_none m k q c c' there none = by (eq_by_cmp nat_cmp q k) refl
  where
    by : (b : Bool) → eq_by_cmp nat_cmp q k ≡ b → get (insert m k c') q ≡ None
    by true same =
        let one : q ≡ k = eqb→eq q k (subst T (sym (unsigned_ties q k ∙ same)) tt) in
        absurd (none_some c (sym none ∙ ap (get m) one ∙ there))
    by false apart = get-insert nat_cmp_total m k c' q ∙ ap (λ b. cond b (Some c') (get m q)) apart ∙ none

-- a posted command changes, and its ticket stays
sound_put : (session : SessionModel) (commands : CommandsModel) (number : ℕ) (c c' : CommandModel) → get commands.posted number ≡ Some c → c'.ticket ≡ c.ticket
    → IsSoundClient session commands → IsSoundClient session (with_command commands number c')
sound_put session commands number c c' there same sound = record {
  posted = all_put commands.posted number c' (λ q d. (d.ticket.part ≡ q) × IsOutInOrder session d.ticket) sound.posted
      (ap (λ (t : Ticket). t.part) same ∙ (sound.posted number c there).0, subst (IsOutInOrder session) (sym same) (sound.posted number c there).1);
  fresh = sound.fresh;
  few = sound.few;
  order = sound.order;
  turn = sound.turn;
  apart = All-weaker (λ d. get commands.posted d.ticket.part ≡ None) (λ d. get (insert commands.posted number c') d.ticket.part ≡ None)
      (λ d none. still_none commands.posted number d.ticket.part c c' there none) commands.fresh sound.apart;
}

-- all that were not posted yet are
sound_run : (session : SessionModel) (commands : CommandsModel) (first : CommandModel) (later : List CommandModel) → commands.fresh ≡ first ∷ later → IsSoundClient session commands
    → IsSoundClient session (with_run (record commands { fresh = [] }) first later)
sound_run session commands first later those sound =
    let dropped = sound_dropped session commands sound in
    let P : ℕ → CommandModel → Type 0 = λ q d. (d.ticket.part ≡ q) × IsOutInOrder session d.ticket in
    record {
      posted = all_posted commands.posted (first ∷ later) P sound.posted
          (All-weaker (λ c. IsOutInOrder session c.ticket) (λ c. P c.ticket.part (awaiting c)) (λ c out. (refl, out)) (first ∷ later) (subst (All (λ c. IsOutInOrder session c.ticket)) those sound.order));
      fresh = dropped.fresh;
      few = dropped.few;
      order = dropped.order;
      turn = dropped.turn;
      apart = All-nil (λ c. get (with_posted commands.posted (first ∷ later)) c.ticket.part ≡ None);
    }

sound_fresh : (session : SessionModel) (commands commands' : CommandsModel) (o o' : Outlet RunModel) (v v' : ViewModel) (moved : Bool)
    → PostsFresh commands o v moved commands' o' v' → IsSoundClient session commands → IsSoundClient session commands'
sound_fresh session commands commands' o o' v v' true (first, later, run, those, goes, is, posts, new) sound = subst (IsSoundClient session) (sym new) (sound_run session commands first later those sound)
sound_fresh session commands commands' o o' v v' false (same, slot, tries) sound = subst (IsSoundClient session) (sym same) sound

pub sound_fresh_result : (session : SessionModel) (commands commands' : CommandsModel) (o o' : Outlet RunModel) (v v' : ViewModel) (result : Result Bool NoMemory)
    → PostsFreshResult commands o v result commands' o' v' → IsSoundClient session commands → IsSoundClient session commands'
sound_fresh_result session commands commands' o o' v v' (Ok moved) done sound = sound_fresh session commands commands' o o' v v' moved done sound
sound_fresh_result session commands commands' o o' v v' (Err e) done sound = sound_fresh session commands commands' o o' v v' false done sound

sound_again : (session : SessionModel) (commands commands' : CommandsModel) (number : ℕ) (o o' : Outlet RunModel) (v v' : ViewModel) (moved : Bool)
    → PostsAt commands number o v moved commands' o' v' → IsSoundClient session commands → IsSoundClient session commands'
sound_again session commands commands' number o o' v v' true (c, c', there, (run, goes, made, post, waits), new) sound =
    subst (IsSoundClient session) (sym new) (sound_put session commands number c c' there (ap (λ (x : CommandModel). x.ticket) waits) sound)
sound_again session commands commands' number o o' v v' false (same, slot, tries) sound = subst (IsSoundClient session) (sym same) sound

pub sound_again_result : (session : SessionModel) (commands commands' : CommandsModel) (number : ℕ) (o o' : Outlet RunModel) (v v' : ViewModel) (result : Result Bool NoMemory)
    → PostsAtResult commands number o v result commands' o' v' → IsSoundClient session commands → IsSoundClient session commands'
sound_again_result session commands commands' number o o' v v' (Ok moved) done sound = sound_again session commands commands' number o o' v v' moved done sound
sound_again_result session commands commands' number o o' v v' (Err e) done sound = sound_again session commands commands' number o o' v v' false done sound

pub sound_hears : (session : SessionModel) (commands commands' : CommandsModel) (ticket : Ticket) (told : Told) (heard : Bool)
    → Hears commands ticket told heard commands' → IsSoundClient session commands → IsSoundClient session commands'
sound_hears session commands commands' ticket told true (c, (there, named, waits), new) sound =
    subst (IsSoundClient session) (sym new) (sound_put session commands ticket.part c (progress_told c told) there refl sound)
sound_hears session commands commands' ticket told false (not, same) sound = subst (IsSoundClient session) (sym same) sound

-- ---- those that go out together

pub one_run : (session : SessionModel) (commands : CommandsModel) → IsSoundClient session commands → AreOneRun commands.fresh
one_run session commands sound = by commands.fresh sound.fresh sound.turn.0 sound.turn.1
  where
    by : (cs : List CommandModel) → All IsFresh cs → (slot : ℕ) → GoBehind session slot [] cs → AreOneRun cs
    by [] all slot goes = tt
    by (first ∷ later) all slot (own, out, goes) =
        let theirs = go_all session slot (first.ticket.part ∷ []) later goes in (
          All-head IsFresh first later all,
          λ k d less.
              let its = theirs k d less in
              record {
                fresh = All-tail IsFresh first later all k d less;
                worker = its.1.0 ∙ sym out.owner.0;
                client = its.1.1 ∙ sym out.owner.1;
                slot = its.0 ∙ sym own;
              },
        )

fresh_plain : (c : CommandModel) → IsFresh c → asks_at c.stage ≡ false
fresh_plain c is = ap (λ (x : CommandModel). asks_at x.stage) is

pub together : (first : CommandModel) (later : List CommandModel) (node : ℕ) → AreOneRun (first ∷ later) → IsTogether (run_of first later node)
together first later node (own, all) =
    All-map (GoTogether (batch_of first node)) (λ c. batch_of c node) later (All-weaker (GoesWith first) (λ c. GoTogether (batch_of first node) (batch_of c node))
    (λ c with. record { worker = with.worker; client = with.client; node = refl; slot = with.slot; first_goes_plain = fresh_plain first own; next_goes_plain = fresh_plain c with.fresh }) later all)

pub few_together : (session : SessionModel) (commands : CommandsModel) (first : CommandModel) (later : List CommandModel) (node : ℕ) → IsSoundClient session commands → commands.fresh ≡ first ∷ later
    → count_in (run_of first later node) ≤ most_together
few_together session commands first later node sound those = omega (arith, sound.few, ap length those, length-map later (λ c. batch_of c node))

-- the turn of the first has come, and the others go behind it
pub run_turn : (session : SessionModel) (commands : CommandsModel) (first : CommandModel) (later : List CommandModel) → IsSoundClient session commands → commands.fresh ≡ first ∷ later
    → IsOut session first.ticket × GoBehind session (slot_of first.part.key) (first.ticket.part ∷ []) later
run_turn session commands first later sound those =
    let (own, out, goes) = subst (GoBehind session sound.turn.0 []) those sound.turn.1 in
    (behind_none session sound.turn.0 first.ticket out, subst (λ slot. GoBehind session slot (first.ticket.part ∷ []) later) (sym own) goes)

-- ---- a part ends

pub handed_out : (session : SessionModel) (ticket : Ticket) → IsOutInOrder session ticket → IsHandedOut session ticket
handed_out session ticket (slot, low, stands, worker, client, order) = (slot, low, stands, worker, client)

-- what is said of the part of a command that has ended
pub ended_part : (session : SessionModel) (commands : CommandsModel) (number : ℕ) (ticket : Ticket) (end : Ended) → HasEnd commands number ticket end → IsSoundClient session commands
    → (number ≡ ticket.part) × IsOutInOrder session ticket
ended_part session commands number ticket end (c, there, named, over) sound =
    (sym (sound.posted number c there).0 ∙ ap (λ (t : Ticket). t.part) named, subst (IsOutInOrder session) named (sound.posted number c there).1)

left : (b : Bool) (q k : ℕ) (d : CommandModel) (other : Option CommandModel) → eq_by_cmp nat_cmp q k ≡ b → cond b None other ≡ Some d → (other ≡ Some d) × (q ≢ k)
left true q k d other same is = absurd (none_some d is)
left false q k d other same is = (is, λ one. off (subst (λ n. eq_by_cmp nat_cmp q n ≡ false) (sym one) same))
  where
    off : eq_by_cmp nat_cmp q q ≡ false → ⊥
    off e = false≢true (sym e ∙ (eq_by_cmp_equiv nat_cmp_total).refl q)

still : (m : FinMap nat_cmp CommandModel) (k q : ℕ) (d : CommandModel) → get (remove m k) q ≡ Some d → (get m q ≡ Some d) × (q ≢ k)
still m k q d there = left (eq_by_cmp nat_cmp q k) q k d (get m q) refl (sym (get-remove nat_cmp_total m k q) ∙ there)

none_left : (m : FinMap nat_cmp CommandModel) (k q : ℕ) → get m q ≡ None → get (remove m k) q ≡ None
none_left m k q none = none_of (get (remove m k) q) (λ d there. none_some d (sym none ∙ (still m k q d there).0))

pub sound_ended : (old new : SessionModel) (commands commands' : CommandsModel) (number : ℕ) (ticket : Ticket) (end : Ended) → HasEnd commands number ticket end
    → ((other : Ticket) → other ≢ ticket → IsOutInOrder old other → IsOutInOrder new other)
    → ((slot : ℕ) (before : List ℕ) (other : Ticket) → other ≢ ticket → IsOutBehind old slot before other → IsOutBehind new slot before other)
    → commands' ≡ record commands { posted = remove commands.posted number } → IsSoundClient old commands → IsSoundClient new commands'
sound_ended old new commands commands' number ticket end has order behind is sound =
    let ended = ended_part old commands number ticket end has sound in
    let others : All (λ c. c.ticket ≢ ticket) commands.fresh = All-weaker (λ c. get commands.posted c.ticket.part ≡ None) (λ c. c.ticket ≢ ticket)
    (λ c none same. none_some has.0 (sym none ∙ ap (get commands.posted) (ap (λ (t : Ticket). t.part) same ∙ sym ended.0) ∙ has.1)) commands.fresh sound.apart in
    subst (IsSoundClient new) (sym is) (record {
      posted = λ q d there.
          let was = still commands.posted number q d there in
          let part = (sound.posted q d was.0).0 in
          (part, order d.ticket (λ same. was.1 (sym part ∙ ap (λ (t : Ticket). t.part) same ∙ sym ended.0)) (sound.posted q d was.0).1);
      fresh = sound.fresh;
      few = sound.few;
      order = λ k d less. order (slice_index_or commands.fresh k d).ticket (others k d less) (sound.order k d less);
      turn = (sound.turn.0, go_each old new sound.turn.0 [] commands.fresh (λ k d less those out. behind sound.turn.0 those (slice_index_or commands.fresh k d).ticket (others k d less) out) sound.turn.1);
      apart = All-weaker (λ c. get commands.posted c.ticket.part ≡ None) (λ c. get (remove commands.posted number) c.ticket.part ≡ None) (λ c none. none_left commands.posted number c.ticket.part none) commands.fresh sound.apart;
    })
