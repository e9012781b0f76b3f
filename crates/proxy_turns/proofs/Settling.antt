-- Which commands of a worker have something to do, after what happens.
use Rattle.std.proofs.Common.{◌≡◌, ◌≢◌, ◌⊎◌, ◌<◌, ◌-◌, ◌∙◌, ◌||◌, ◌&&◌, ◌∷◌, [], ℕ, Bool, true, false, cond, List, Option, Some, None, Result, Ok, Err, inl, inr, refl, sym, ap, subst, arith, rules, drop, length, zero, suc, nat_eq, nat_lt, eqb→eq}
use Rattle.std.specs.Prelude.{T, IfSome, IsSomeAnd}
use Rattle.std.proofs.lemmas.Bool.Decides.{nat_tests}
use Rattle.std.specs.List.{FoldsTo, list_all, list_any}
use Rattle.std.specs.Ordering.{nat_cmp, eq_by_cmp}
use Rattle.std.specs.Cmp.{eq_by_cmp_equiv, nat_cmp_total, unsigned_ties}
use Rattle.std.specs.FinMap.{FinMap, empty, get, get-empty, get-insert, get-remove, insert, remove}
use Rattle.std.specs.BinaryHeap.{heap_items}
use Rattle.std.proofs.lemmas.Bool.{false≢true}
use Rattle.resp_wire.specs.declared.fault.NoMemory.{NoMemory}
use Rattle.key_split.specs.Runs.{RunModel}
use Rattle.key_split.specs.declared.travel.Ticket.{Ticket}
use Rattle.key_split.specs.declared.travel.Told.{Told}
use Rattle.key_split.specs.declared.travel.Ended.{Ended}
use Rattle.command_future.specs.declared.stage.Stage.{Stage}
use Rattle.command_future.specs.declared.stage.Stage.TheVariants.{Wants, WantsAsking, Awaits, Over}
use Rattle.command_future.specs.CommandModel.{CommandModel, WantsPost, progress_told}
use Rattle.session_order.specs.SessionModel.{SessionModel}
use Rattle.session_order.specs.declared.queue.PartStage.TheVariants.{Out}
use Rattle.session_order.specs.Turn.{blocks}
use Rattle.session_order.specs.Steps.{EndOutcome, IsHandedOut, IsOut}
use Rattle.session_order.specs.Behind.{IsOpenFor, IsOutFor, NextInTurn}
use Rattle.session_order.proofs.Behind.{drain_parts, ended_out, feed_parts, follower_parts, hangs_parts, read_parts, ready_parts}
use Rattle.session_order.proofs.Lists.{any_at}
use Rattle.proxy_lanes.specs.declared.ring.Outlet.{Outlet}
use Rattle.proxy_lanes.specs.View.{ViewModel}
use Rattle.proxy_turns.specs.declared.due_commands.DueCommands.{DueCommands}
use Rattle.proxy_turns.specs.declared.turned.Finish.{Finish}
use Rattle.proxy_turns.specs.declared.turned.Finish.TheVariants as finish
use Rattle.proxy_turns.specs.declared.turned.Settled.{Settled}
use Rattle.proxy_turns.specs.declared.turned.Turned.{Turned}
use Rattle.proxy_turns.specs.declared.turned.Settled.TheVariants as settled
use Rattle.proxy_turns.specs.Port.{Moves}
use Rattle.proxy_turns.specs.Commands.{CommandsModel, PostsAtResult, TakesRun, awaiting, with_posted}
use Rattle.proxy_turns.specs.ClientModel.{ClientModel}
use Rattle.proxy_turns.specs.ClientRest.{HasNoPlace, IfStill}
use Rattle.proxy_turns.specs.ClientTurn.{ClientContext, ClientDoes, ClientEvent, SettleOutcome, TurnOutcome, most_drained}
use Rattle.proxy_turns.specs.ClientTurn.ClientEvent.{CameBack, Drained, Dropped, Fed, Followed, HandedOut, Looked, Parted, Posted, Pulled, Pushed, Read, Tried}
use Rattle.proxy_turns.specs.Pause.{pause_at}
use Rattle.proxy_turns.specs.DueCommands.{AreNoted, AreSettled, IsFirstOut, IsSettled, IsToSettle, IsToSettleAt, KeepsNoted, is_noted, is_pause_of, is_ticket}
use Rattle.proxy_turns.specs.WorkerModel.{Leaves, Tells, WorkerDoes, WorkerEvent, WorkerGoesBy, WorkerModel, serves_client}
use Rattle.proxy_turns.specs.WorkerModel.WorkerEvent.{Came, Did, Finished, FoundNobody, FoundNone, Left, Took, TurnedAway}
use Rattle.proxy_turns.specs.Arrivals.{PutsNew}
use Rattle.proxy_turns.specs.ClientTable.{AtClient, AtPlace, ClientFinishes, ClientsContext}
use Rattle.proxy_turns.specs.WorkerRest.{ArePostedAtRest, IsPaused, IsPostedAtRest}
use Rattle.proxy_turns.proofs.EventKinds.{and_both}
use Rattle.proxy_turns.proofs.Noting.{is_above}
use Rattle.proxy_turns.proofs.Lifting.{get_put}
use Rattle.proxy_turns.proofs.Posting.{some_same}
use Rattle.proxy_turns.proofs.Tables.{none_some}

-- ---- what stands in a map after one was put, or taken off

module _ {X : Type 0} where
  put_by : (b : Bool) (q k : ℕ) (x y : X) (other : Option X) → eq_by_cmp nat_cmp q k ≡ b → cond b (Some x) other ≡ Some y → ((q ≡ k) × (y ≡ x)) ⊎ (other ≡ Some y)
  put_by true q k x y other same is = inl (eqb→eq q k (subst T (sym (unsigned_ties q k ∙ same)) tt), sym (some_same x y is))
  put_by false q k x y other same is = inr is

  pub put_or : (m : FinMap nat_cmp X) (q k : ℕ) (x y : X) → get (insert m k x) q ≡ Some y → ((q ≡ k) × (y ≡ x)) ⊎ (get m q ≡ Some y)
  put_or m q k x y at = put_by (eq_by_cmp nat_cmp q k) q k x y (get m q) refl (sym (get-insert nat_cmp_total m k x q) ∙ at)

  left_by : (b : Bool) (y : X) (other : Option X) → cond b None other ≡ Some y → other ≡ Some y
  left_by true y other is = absurd (none_some y is)
  left_by false y other is = is

  get_none : (m : FinMap nat_cmp X) (k : ℕ) → get (remove m k) k ≡ None
  get_none m k = get-remove nat_cmp_total m k k ∙ ap (λ b. cond b None (get m k)) ((eq_by_cmp_equiv nat_cmp_total).refl k)

  pub left_of : (m : FinMap nat_cmp X) (q k : ℕ) (y : X) → get (remove m k) q ≡ Some y → get m q ≡ Some y
  left_of m q k y at = left_by (eq_by_cmp nat_cmp q k) y (get m q) (sym (get-remove nat_cmp_total m k q) ∙ at)

-- ---- what a step leaves of its command

pub posted_by : {C : Type 0} (old : CommandsModel) (client : ClientModel C) (number : ℕ) (o o' : Outlet RunModel) (v v' : ViewModel) (b : Bool) → b ≡ true → PostsAtResult old number o v (Ok b) client.commands o' v'
    → (c : CommandModel) → IsToSettle client number c → WantsPost c.stage → ⊥
posted_by old client number o o' v v' true is (c, c', there, (run, goes, made, posts, awaits), put) d (at, not, turn) wants =
    let same : c' ≡ d = some_same c' d (sym (get_put old.posted number c') ∙ ap (λ (m : CommandsModel). get m.posted number) (sym put) ∙ at) in
    not (ap (λ (x : CommandModel). x.stage) (sym same ∙ awaits))
posted_by old client number o o' v v' false is done d stands wants = absurd (false≢true is)

pub settled_less : (result : Result Settled NoMemory) (P Q : CommandModel → Type 0) (outlet : Outlet RunModel) → ((c : CommandModel) → Q c → P c) → IsSettled result P outlet → IsSettled result Q outlet
settled_less (Ok settled.Posted) P Q outlet less left = λ c is wants. left c (less c is) wants
settled_less (Ok settled.Held) P Q outlet less left = left
settled_less (Ok settled.Nothing) P Q outlet less left = λ c is wants. left c (less c is) wants
settled_less (Err refused) P Q outlet less left = tt

pub nobody_there : {C : Type 0} (clients : FinMap nat_cmp (ClientModel C)) (number part : ℕ) → get clients number ≡ None → (c : CommandModel) → IsToSettleAt clients number part c → ⊥
nobody_there clients number part absent c (client, at, stands) = none_some client (sym absent ∙ at)

pub here_alone : {C : Type 0} (old new : FinMap nat_cmp (ClientModel C)) (number part : ℕ) (client : ClientModel C) → new ≡ insert old number client → (c : CommandModel) → IsToSettleAt new number part c → IsToSettle client part c
here_alone old new number part client put c (d, at, stands) =
    let same : client ≡ d = some_same client d (sym (get_put old number client) ∙ ap (λ m. get m number) (sym put) ∙ at) in
    subst (λ (x : ClientModel _). IsToSettle x part c) (sym same) stands

-- ---- nothing but what is told, or what ends, gives a command something to do

-- what is out stays out, each part for its slot
abbrev KeepsOut : SessionModel → SessionModel → Type 0
KeepsOut old new = (slot number : ℕ) → IsOutFor old slot number → IsOutFor new slot number

same_out : (old new : SessionModel) → new ≡ old → KeepsOut old new
same_out old new is slot number out = subst (λ (s : SessionModel). IsOutFor s slot number) (sym is) out

first_back : (old new : SessionModel) (part : ℕ) → KeepsOut old new → IsFirstOut new part → IsFirstOut old part
first_back old new part keeps first slot number own other less = first slot number (keeps slot part own) (keeps slot number other) less

-- what has something to do had it before
abbrev NoneNew : {C : Type 0} → ClientModel C → ClientModel C → Type 0
NoneNew old new = (part : ℕ) (c : CommandModel) → IsToSettle new part c → IsToSettle old part c

none_new : {C : Type 0} (old new : ClientModel C) → new.commands.posted ≡ old.commands.posted → KeepsOut old.session new.session → NoneNew old new
none_new old new is keeps part c (at, not, turn) = (ap (λ m. get m part) (sym is) ∙ at, not, λ wants named. first_back old.session new.session part keeps (turn wants named))

-- each of those that were posted awaits its answer
posted_or : (m : FinMap nat_cmp CommandModel) (cs : List CommandModel) (q : ℕ) (d : CommandModel) → get (with_posted m cs) q ≡ Some d → d.stage ≢ Awaits → get m q ≡ Some d
posted_or m [] q d at not = at
posted_or m (c ∷ cs) q d at not = by (put_or m q c.ticket.part (awaiting c) d (posted_or (insert m c.ticket.part (awaiting c)) cs q d at not))
  where
    by : ((q ≡ c.ticket.part) × (d ≡ awaiting c)) ⊎ (get m q ≡ Some d) → get m q ≡ Some d
    by (inl (same, is)) = absurd (not (ap (λ (x : CommandModel). x.stage) is))
    by (inr before) = before

rest_posted : (old : CommandsModel) (first : CommandModel) (later : List CommandModel) (rest : CommandsModel) → TakesRun old first later rest → rest.posted ≡ old.posted
rest_posted old first later rest (inl (those, fresh, is)) = ap (λ (m : CommandsModel). m.posted) is
rest_posted old first later rest (inr (at, none, is)) = ap (λ (m : CommandsModel). m.posted) is

module _ {C : Type 0} (moves : Moves C) where
  client_one : (event : ClientEvent) (old new : ClientContext C) → ClientDoes moves old event new → NoneNew old.client new.client
  client_one (Pulled bytes) old new (m, is) = none_new old.client new.client (ap (λ (x : ClientContext C). x.client.commands.posted) is) (same_out old.client.session new.client.session (ap (λ (x : ClientContext C). x.client.session) is))
  client_one (Fed result) old new (feeds, is) = none_new old.client new.client (ap (λ (x : ClientContext C). x.client.commands.posted) is) (feed_parts old.client.session old.client.unfed result new.client.session feeds).out
  client_one (Read result) old new (reads, is) = none_new old.client new.client (ap (λ (x : ClientContext C). x.client.commands.posted) is) (read_parts old.client.session result new.client.session reads).out
  client_one (HandedOut ticket part) old new (there, none, ready, is) =
      none_new old.client new.client (ap (λ (x : ClientContext C). x.client.commands.posted) is) (ready_parts old.client.session (Some (ticket, part)) new.client.session ready).out
  client_one (Followed ticket part) old new (there, (before, last, those, follows), is) =
      none_new old.client new.client (ap (λ (x : ClientContext C). x.client.commands.posted) is) (follower_parts old.client.session last.ticket (Some (ticket, part)) new.client.session follows).out
  client_one (Looked slot) old new (looks, is) = none_new old.client new.client (ap (λ (x : ClientContext C). x.client.commands.posted) is) (same_out old.client.session new.client.session (ap (λ (x : ClientContext C). x.client.session) is))
  client_one (CameBack run) old new (refused, is) = none_new old.client new.client (ap (λ (x : ClientContext C). x.client.commands.posted) is) (same_out old.client.session new.client.session (ap (λ (x : ClientContext C). x.client.session) is))
  client_one (Posted run) old new (first, later, rest, takes, gone, out, behind, goes, made, together, few, posts, is) = λ part d (at, not, turn). (
      let before : get rest.posted part ≡ Some d = posted_or rest.posted (first ∷ later) part d (ap (λ (x : ClientContext C). get x.client.commands.posted part) (sym is) ∙ at) not in (
        ap (λ m. get m part) (sym (rest_posted old.client.commands first later rest takes)) ∙ before,
        not,
        λ wants named. first_back old.client.session new.client.session part (same_out old.client.session new.client.session (ap (λ (x : ClientContext C). x.client.session) is)) (turn wants named),
      ))
  client_one (Drained n) old new (there, drains, is) =
      none_new old.client new.client (ap (λ (x : ClientContext C). x.client.commands.posted) is) (drain_parts most_drained old.client.session old.client.unpushed (Ok n) new.client.session new.client.unpushed drains).out
  client_one (Pushed bytes) old new (m, left, is) = none_new old.client new.client (ap (λ (x : ClientContext C). x.client.commands.posted) is) (same_out old.client.session new.client.session (ap (λ (x : ClientContext C). x.client.session) is))
  client_one Tried old new (m, is) = none_new old.client new.client (ap (λ (x : ClientContext C). x.client.commands.posted) is) (same_out old.client.session new.client.session (ap (λ (x : ClientContext C). x.client.session) is))
  client_one Parted old new (there, left, hangs, is) = none_new old.client new.client (ap (λ (x : ClientContext C). x.client.commands.posted) is) (hangs_parts old.client.session new.client.session hangs).out
  client_one (Dropped tickets) old new (gone, some, named, is) = none_new old.client new.client (ap (λ (x : ClientContext C). x.client.commands.posted) is) (same_out old.client.session new.client.session (ap (λ (x : ClientContext C). x.client.session) is))

-- the same of all clients
abbrev pub NoneNewAt : {C : Type 0} → FinMap nat_cmp (ClientModel C) → FinMap nat_cmp (ClientModel C) → Type 0
NoneNewAt old new = (number part : ℕ) (c : CommandModel) → IsToSettleAt new number part c → IsToSettleAt old number part c

module _ {C : Type 0} where
  pub same_clients : (old new : FinMap nat_cmp (ClientModel C)) → new ≡ old → NoneNewAt old new
  same_clients old new is number part c (client, at, stands) = (client, ap (λ m. get m number) (sym is) ∙ at, stands)

  -- one client changed
  client_put : (old new : FinMap nat_cmp (ClientModel C)) (k : ℕ) (client client' : ClientModel C) → get old k ≡ Some client → new ≡ insert old k client' → NoneNew client client' → NoneNewAt old new
  client_put old new k client client' there put none number part c (d, at, stands) = by (put_or old number k client' d (ap (λ m. get m number) (sym put) ∙ at))
    where
      by : ((number ≡ k) × (d ≡ client')) ⊎ (get old number ≡ Some d) → IsToSettleAt old number part c
      by (inl (same, is)) = (client, ap (get old) same ∙ there, none part c (subst (λ (x : ClientModel C). IsToSettle x part c) is stands))
      by (inr before) = (d, before, stands)

  -- one came that has no command
  client_came : (old new : FinMap nat_cmp (ClientModel C)) (k : ℕ) (client : ClientModel C) → client.commands.posted ≡ empty → new ≡ insert old k client → NoneNewAt old new
  client_came old new k client none put number part c (d, at, stands) = by (put_or old number k client d (ap (λ m. get m number) (sym put) ∙ at))
    where
      by : ((number ≡ k) × (d ≡ client)) ⊎ (get old number ≡ Some d) → IsToSettleAt old number part c
      by (inl (same, is)) = absurd (none_some c (sym (get-empty nat_cmp part) ∙ ap (λ m. get m part) (sym none) ∙ ap (λ (x : ClientModel C). get x.commands.posted part) (sym is) ∙ stands.0))
      by (inr before) = (d, before, stands)

  -- one left
  client_left : (old new : FinMap nat_cmp (ClientModel C)) (k : ℕ) → new ≡ remove old k → NoneNewAt old new
  client_left old new k is number part c (d, at, stands) = (d, left_of old number k d (ap (λ m. get m number) (sym is) ∙ at), stands)

  pub still_noted : (old new : FinMap nat_cmp (ClientModel C)) (due : DueCommands) → NoneNewAt old new → AreNoted old due → AreNoted new due
  still_noted old new due none noted number part c stands = noted number part c (none number part c stands)

  pub more_noted : (clients : FinMap nat_cmp (ClientModel C)) (old new : DueCommands) → KeepsNoted old new → AreNoted clients old → AreNoted clients new
  more_noted clients old new kept noted number part c stands = kept number part (pause_at c.stage c.followed) (noted number part c stands)

  pub nobody_noted : (clients : FinMap nat_cmp (ClientModel C)) (due : DueCommands) → clients ≡ empty → AreNoted clients due
  nobody_noted clients due is number part c (client, at, stands) = absurd (none_some client (sym (get-empty nat_cmp number) ∙ ap (λ m. get m number) (sym is) ∙ at))

  -- a command was told something, and it is noted
  pub told_noted : (old new : FinMap nat_cmp (ClientModel C)) (ticket : Ticket) (told : Told) (due due' : DueCommands) → Tells old ticket told true new → KeepsNoted due due'
      → ((c : CommandModel) → IsToSettleAt new ticket.client ticket.part c → is_noted due' ticket.client ticket.part (pause_at c.stage c.followed) ≡ true)
      → AreNoted old due → AreNoted new due'
  told_noted old new ticket told due due' (client, client', there, (c0, awaited, heard), changed, put) kept here noted number part c (d, at, stands) =
      by_client (put_or old number ticket.client client' d (ap (λ m. get m number) (sym put) ∙ at))
    where
      before : IsToSettleAt old number part c → is_noted due' number part (pause_at c.stage c.followed) ≡ true
      before was = kept number part (pause_at c.stage c.followed) (noted number part c was)

      it : number ≡ ticket.client → part ≡ ticket.part → is_noted due' number part (pause_at c.stage c.followed) ≡ true
      it same one =
          let stands' : IsToSettleAt new ticket.client ticket.part c = subst (λ n. IsToSettleAt new n ticket.part c) same (subst (λ p. IsToSettleAt new number p c) one (d, at, stands)) in
          subst (λ n. is_noted due' n part (pause_at c.stage c.followed) ≡ true) (sym same) (subst (λ p. is_noted due' ticket.client p (pause_at c.stage c.followed) ≡ true) (sym one) (here c stands'))

      session : d ≡ client' → d.session ≡ client.session
      session is = ap (λ (x : ClientModel C). x.session) (is ∙ changed)

      by_part : number ≡ ticket.client → d ≡ client' → ((part ≡ ticket.part) × (c ≡ progress_told c0 told)) ⊎ (get client.commands.posted part ≡ Some c) → is_noted due' number part (pause_at c.stage c.followed) ≡ true
      by_part same is (inl (one, it_is)) = it same one
      by_part same is (inr was) =
          before (client, ap (get old) same ∙ there, (was, stands.1, λ wants named. first_back client.session d.session part (same_out client.session d.session (session is)) (stands.2 wants named)))

      by_client : ((number ≡ ticket.client) × (d ≡ client')) ⊎ (get old number ≡ Some d) → is_noted due' number part (pause_at c.stage c.followed) ≡ true
      by_client (inl (same, is)) =
          by_part same is (put_or client.commands.posted part ticket.part (progress_told c0 told) c
          (ap (λ (m : CommandsModel). get m.posted part) (sym heard) ∙ ap (λ (x : ClientModel C). get x.commands.posted part) (sym is) ∙ stands.0))
      by_client (inr was) = before (d, was, stands)

  -- nothing was told
  pub silent_noted : (old new : FinMap nat_cmp (ClientModel C)) (ticket : Ticket) (told : Told) (due due' : DueCommands) → Tells old ticket told false new → KeepsNoted due due' → AreNoted old due → AreNoted new due'
  silent_noted old new ticket told due due' (nobody, same) kept noted = more_noted new due due' kept (still_noted old new due (same_clients old new same) noted)

-- ---- a part ends

open_of : (session : SessionModel) (slot number : ℕ) → IsOutFor session slot number → IsOpenFor session slot number
open_of session slot number (low, at) = (low, Out slot, at, grind (arith, nat_tests))

slot_same : (session : SessionModel) (a b number : ℕ) → IsOutFor session a number → IsOutFor session b number → a ≡ b
slot_same session a b number (low, at) (also, there) = out_slot (some_same (Out a) (Out b) (sym at ∙ there))
  where
    out_slot : Out a ≡ Out b → a ≡ b
    out_slot is = search rules

not_same : (a b : ℕ) → (a ≡ b) ⊎ (a < b) ⊎ (b < a)
not_same zero zero = inl refl
not_same zero (suc b) = inr (inl (omega arith))
not_same (suc a) zero = inr (inr (omega arith))
not_same (suc a) (suc b) = elim (not_same a b) [ inl same ↦ inl (ap suc same) | inr (inl low) ↦ inr (inl (omega (arith, low))) | inr (inr high) ↦ inr (inr (omega (arith, high))) ]

module _ (old : SessionModel) (ticket : Ticket) (end : Ended) (new : SessionModel) (was_out : IsHandedOut old ticket) (ends : EndOutcome old ticket end new) (part : ℕ) (apart : part ≢ ticket.part) (first : IsFirstOut new part) where
  -- none came to be the first that was not, where none is out behind the one that ended
  first_before : ((slot : ℕ) → IsOutFor old slot ticket.part → IsOutFor old slot part → ticket.part < part → ⊥) → IsFirstOut old part
  first_before none slot number own other less = by (not_same number ticket.part)
    where
      still : number ≢ ticket.part → ⊥
      still differs = first slot number (ended_out old ticket end new was_out ends slot part apart own) (ended_out old ticket end new was_out ends slot number differs other) less

      by : (number ≡ ticket.part) ⊎ (number < ticket.part) ⊎ (ticket.part < number) → ⊥
      by (inl same) = none slot (subst (IsOutFor old slot) same other) own (omega (arith, less, same))
      by (inr (inl low)) = still (λ same. omega (arith, same, low))
      by (inr (inr high)) = still (λ same. omega (arith, same, high))

  -- nor any but the next
  first_or_next : (next : Option Ticket) → NextInTurn old ticket next → IsFirstOut old part ⊎ IsSomeAnd next (λ t. part ≡ t.part)
  first_or_next None none = inl (first_before (λ slot own other less. none slot part own other less))
  first_or_next (Some next) (slot, own, out, above, owner, between) = by (not_same part next.part)
    where
      by : (part ≡ next.part) ⊎ (part < next.part) ⊎ (next.part < part) → IsFirstOut old part ⊎ (part ≡ next.part)
      by (inl same) = inr same
      by (inr (inl low)) = inl (first_before (λ s mine other less. between part (subst (λ n. IsOpenFor old n part) (slot_same old s slot ticket.part mine own) (open_of old s part other)) less low))
      by (inr (inr high)) = inl (first_before (λ s mine other less.
          let theirs : IsOutFor old s next.part = subst (λ n. IsOutFor old n next.part) (sym (slot_same old s slot ticket.part mine own)) out in
          first s next.part (ended_out old ticket end new was_out ends s part apart other) (ended_out old ticket end new was_out ends s next.part (λ same. omega (arith, same, above)) theirs) high))

module _ {C : Type 0} (moves : Moves C) where
  -- a part ended, and the next is noted
  pub finish_noted : (old new : FinMap nat_cmp (ClientModel C)) (asked : Ticket) (next : Option Ticket) (due due' : DueCommands) → ClientFinishes moves old asked (Ok (finish.Ended next)) new → KeepsNoted due due'
      → IfSome next (λ t. (c : CommandModel) → WantsPost c.stage → IsToSettleAt new asked.client t.part c → is_noted due' asked.client t.part (pause_at c.stage c.followed) ≡ true)
      → AreNoted old due → AreNoted new due'
  finish_noted old new asked next due due' (inl (absent, answers, is)) kept here noted number part c stands = kept number part (pause_at c.stage c.followed) (noted number part c (same_clients old new is number part c stands))
  finish_noted old new asked next due due' (inr (client, client', there, (ticket, end, named, was_out, (has, port, ends, is), comes), put)) kept here noted number part c (d, at, (posted, not, turn)) =
      by_client (put_or old number asked.client client' d (ap (λ m. get m number) (sym put) ∙ at))
    where
      before : IsToSettleAt old number part c → is_noted due' number part (pause_at c.stage c.followed) ≡ true
      before was = kept number part (pause_at c.stage c.followed) (noted number part c was)

      mine : d ≡ client' → get (remove client.commands.posted ticket.part) part ≡ Some c
      mine same = ap (λ (x : ClientModel C). get x.commands.posted part) (sym is) ∙ ap (λ (x : ClientModel C). get x.commands.posted part) (sym same) ∙ posted

      apart : d ≡ client' → part ≢ ticket.part
      apart same one = none_some c (sym (ap (get (remove client.commands.posted ticket.part)) one ∙ get_none client.commands.posted ticket.part) ∙ mine same)

      it : number ≡ asked.client → d ≡ client' → WantsPost c.stage → IsFirstOut client.session part ⊎ IsSomeAnd next (λ t. part ≡ t.part) → is_noted due' number part (pause_at c.stage c.followed) ≡ true
      it same one wants (inl first) = before (client, ap (get old) same ∙ there, (left_of client.commands.posted part ticket.part c (mine one), not, λ w named. first))
      it same one wants (inr is_next) =
          subst (λ n. is_noted due' n part (pause_at c.stage c.followed) ≡ true) (sym same)
          (next_here next here is_next wants (subst (λ n. IsToSettleAt new n part c) same (d, at, (posted, not, turn))))
        where
          next_here : (t : Option Ticket) → IfSome t (λ t. (e : CommandModel) → WantsPost e.stage → IsToSettleAt new asked.client t.part e → is_noted due' asked.client t.part (pause_at e.stage e.followed) ≡ true) → IsSomeAnd t (λ t. part ≡ t.part)
              → WantsPost c.stage → IsToSettleAt new asked.client part c → is_noted due' asked.client part (pause_at c.stage c.followed) ≡ true
          next_here None says is_it w stands = absurd is_it
          next_here (Some t) says is_it w stands =
              subst (λ p. is_noted due' asked.client p (pause_at c.stage c.followed) ≡ true) (sym is_it) (says c w (subst (λ p. IsToSettleAt new asked.client p c) is_it stands))

      wants_or : (stage : Stage) → stage ≢ Awaits → WantsPost stage ⊎ (WantsPost stage → ⊥)
      wants_or (Wants named) n = inl tt
      wants_or (WantsAsking node) n = inl tt
      wants_or Awaits n = inr (λ w. w)
      wants_or (Over e) n = inr (λ w. w)

      by_wants : number ≡ asked.client → d ≡ client' → WantsPost c.stage ⊎ (WantsPost c.stage → ⊥) → is_noted due' number part (pause_at c.stage c.followed) ≡ true
      by_wants same one (inl wants) = by_name (not_same c.ticket.part part)
        where
          by_name : (c.ticket.part ≡ part) ⊎ (c.ticket.part < part) ⊎ (part < c.ticket.part) → is_noted due' number part (pause_at c.stage c.followed) ≡ true
          by_name (inl its) =
              it same one wants (first_or_next client.session ticket end client'.session was_out ends part (apart one) (subst (λ (x : ClientModel C). IsFirstOut x.session part) one (turn wants its)) next comes)
          by_name (inr (inl low)) = before (client, ap (get old) same ∙ there, (left_of client.commands.posted part ticket.part c (mine one), not, λ w its. absurd (omega (arith, its, low))))
          by_name (inr (inr high)) = before (client, ap (get old) same ∙ there, (left_of client.commands.posted part ticket.part c (mine one), not, λ w its. absurd (omega (arith, its, high))))
      by_wants same one (inr never) = before (client, ap (get old) same ∙ there, (left_of client.commands.posted part ticket.part c (mine one), not, λ w. absurd (never w)))

      by_client : ((number ≡ asked.client) × (d ≡ client')) ⊎ (get old number ≡ Some d) → is_noted due' number part (pause_at c.stage c.followed) ≡ true
      by_client (inl (same, one)) = by_wants same one (wants_or c.stage not)
      by_client (inr was) = before (d, was, (posted, not, turn))

  -- no part ended
  pub open_noted : (old new : FinMap nat_cmp (ClientModel C)) (asked : Ticket) (due due' : DueCommands) → ClientFinishes moves old asked (Ok finish.Open) new → KeepsNoted due due' → AreNoted old due → AreNoted new due'
  open_noted old new asked due due' (inl (absent, answers, is)) kept noted = more_noted new due due' kept (still_noted old new due (same_clients old new is) noted)
  open_noted old new asked due due' (inr (client, client', there, (none, same), put)) kept noted =
      more_noted new due due' kept (still_noted old new due (client_put old new asked.client client client' there put (none_new client client' (ap (λ (x : ClientModel C). x.commands.posted) same) (same_out client.session client'.session (ap (λ (x : ClientModel C). x.session) same)))) noted)

  pub failed_noted : (old new : FinMap nat_cmp (ClientModel C)) (asked : Ticket) (e : NoMemory) (due due' : DueCommands) → ClientFinishes moves old asked (Err e) new → KeepsNoted due due' → AreNoted old due → AreNoted new due'
  failed_noted old new asked e due due' (inl (absent, answers, is)) kept noted = more_noted new due due' kept (still_noted old new due (same_clients old new is) noted)
  failed_noted old new asked e due due' (inr (client, client', there, (m, same), put)) kept noted =
      more_noted new due due' kept (still_noted old new due (client_put old new asked.client client client' there put (none_new client client' (ap (λ (x : ClientModel C). x.commands.posted) same) (same_out client.session client'.session (ap (λ (x : ClientModel C). x.session) same)))) noted)

  -- the command that was asked for has not ended
  pub none_over : (old new : FinMap nat_cmp (ClientModel C)) (asked : Ticket) (result : Result Finish NoMemory) (is_ok : (answer : Finish) × (result ≡ Ok answer)) → ClientFinishes moves old asked result new
      → (c : CommandModel) → IsToSettleAt new asked.client asked.part c → WantsPost c.stage
  none_over old new asked (Ok (finish.Ended next)) ok (inl (absent, answers, is)) c (d, at, stands) = absurd (none_some d (sym (ap (λ m. get m asked.client) is ∙ absent) ∙ at))
  none_over old new asked (Ok finish.Open) ok (inl (absent, answers, is)) c (d, at, stands) = absurd (none_some d (sym (ap (λ m. get m asked.client) is ∙ absent) ∙ at))
  none_over old new asked (Ok (finish.Ended next)) ok (inr (client, client', there, (ticket, end, named, was_out, (has, port, ends, is), comes), put)) c stands =
      let own = here_alone old new asked.client asked.part client' put c stands in
      absurd (none_some c (sym (ap (get (remove client.commands.posted ticket.part)) (sym named) ∙ get_none client.commands.posted ticket.part) ∙ ap (λ (x : ClientModel C). get x.commands.posted asked.part) (sym is) ∙ own.0))
  none_over old new asked (Ok finish.Open) ok (inr (client, client', there, (none, same), put)) c stands =
      let own = here_alone old new asked.client asked.part client' put c stands in
      let was : get client.commands.posted asked.part ≡ Some c = ap (λ (x : ClientModel C). get x.commands.posted asked.part) (sym same) ∙ own.0 in
      wants_left c.stage own.1 (λ end over. none (c.ticket, end, (c, was, refl, over)))
    where
      wants_left : (stage : Stage) → stage ≢ Awaits → ((end : Ended) → stage ≡ Over end → ⊥) → WantsPost stage
      wants_left (Wants n) not no_end = tt
      wants_left (WantsAsking node) not no_end = tt
      wants_left Awaits not no_end = absurd (not refl)
      wants_left (Over e) not no_end = absurd (no_end e refl)
  none_over old new asked (Err e) (answer, ok) finishes c stands = absurd (cc)

-- ---- calls on the table of clients

module _ {C : Type 0} (moves : Moves C) where
  client_all : (events : List ClientEvent) (old new : ClientContext C) → FoldsTo (ClientDoes moves) old events new → NoneNew old.client new.client
  client_all [] old new is = none_new old.client new.client (ap (λ (x : ClientContext C). x.client.commands.posted) (sym is)) (same_out old.client.session new.client.session (ap (λ (x : ClientContext C). x.client.session) (sym is)))
  client_all (event ∷ events) old new (mid, does, rest) = λ part c stands. client_one moves event old mid does part c (client_all events mid new rest part c stands)

  settled_one : (result : Result Settled NoMemory) (old new : ClientContext C) → SettleOutcome moves old result new → NoneNew old.client new.client
  settled_one (Ok settled.Posted) old new (events, folds, is) = client_all events old new folds
  settled_one (Ok settled.Held) old new (events, folds, is) = client_all events old new folds
  settled_one (Ok settled.Nothing) old new (events, folds, is) = client_all events old new folds
  settled_one (Err refused) old new (moved, (events, folds, is)) = client_all events old new folds

  turned_one : (result : Result Turned NoMemory) (old new : ClientContext C) → TurnOutcome moves old result new → NoneNew old.client new.client
  turned_one (Ok turned) old new ((events, folds, is), done) = client_all events old new folds
  turned_one (Err refused) old new (moved, (events, folds, is)) = client_all events old new folds

  pub settled_new : (result : Result Settled NoMemory) (old : ClientsContext C) (number : ℕ) (P : Type 0) (new : ClientsContext C) → AtClient old number (λ a b. SettleOutcome moves a result b) P new → NoneNewAt old.clients new.clients
  settled_new result old number P new (inl (absent, answers, is)) = same_clients old.clients new.clients (ap (λ (x : ClientsContext C). x.clients) is)
  settled_new result old number P new (inr (client, client', there, does, put)) = client_put old.clients new.clients number client client' there put (settled_one result _ _ does)

  pub turned_new : (result : Result Turned NoMemory) (entries : List (ℕ × ClientModel C)) (place : ℕ) (old : ClientsContext C) (P : Type 0) (new : ClientsContext C) → AtPlace entries place old (λ a b. TurnOutcome moves a result b) P new → NoneNewAt old.clients new.clients
  turned_new result entries place old P new (inl (answers, is, absent)) = same_clients old.clients new.clients (ap (λ (x : ClientsContext C). x.clients) is)
  turned_new result entries place old P new (inr (number, client, client', there, does, put, at)) = client_put old.clients new.clients number client client' there put (turned_one result _ _ does)

  pub came_new : (workers worker : ℕ) (old middle new : FinMap nat_cmp (ClientModel C)) (ports ports' : List C) (left newest newest' : Option ℕ) (number : ℕ) (client : ClientModel C) → middle ≡ old → client.commands.posted ≡ empty
      → PutsNew moves workers worker middle ports newest left number client new ports' newest' → NoneNewAt old new
  came_new workers worker old middle new ports ports' left newest newest' number client same none (inl (fresh, put, kept, is)) = client_came old new number client none (put ∙ ap (λ m. insert m number client) same)
  came_new workers worker old middle new ports ports' left newest newest' number client same none (inr (port, stale, closed, is, kept, was)) = same_clients old new (is ∙ same)

pub left_new : {C : Type 0} (old new : FinMap nat_cmp (ClientModel C)) (number : ℕ) (port : C) → Leaves old number port new → NoneNewAt old new
left_new old new number port (client, there, done, port_is, is) = client_left old new number is

pub shorter : (old new : List Ticket) (ticket : Ticket) (rest : List Ticket) → old ≡ ticket ∷ rest → new ≡ drop 1 old → length new < length old
shorter old new ticket rest first dropped =
    let before : length old ≡ suc (length rest) = ap length first in
    let after : length new ≡ length rest = ap length (dropped ∙ ap (drop 1) first) in
    omega (arith, before, after)

-- ---- events of the worker

-- nothing is told, and nothing ends
abbrev TellsNothing : WorkerEvent → Type 0
TellsNothing (Took ticket told) = ⊥
TellsNothing (Finished number ticket end) = ⊥
TellsNothing other = Unit {0}

serves_quietly : (event : WorkerEvent) → serves_client event ≡ true → TellsNothing event
serves_quietly (Did number event) kind = tt
serves_quietly (Finished number ticket end) kind = absurd (false≢true kind)
serves_quietly (Took ticket told) kind = absurd (false≢true kind)
serves_quietly FoundNone kind = tt
serves_quietly (Came number) kind = tt
serves_quietly (TurnedAway number) kind = tt
serves_quietly FoundNobody kind = tt
serves_quietly (Left number) kind = tt

module _ {C J : Type 0} (moves : Moves C) where
  worker_one : (event : WorkerEvent) (old new : WorkerModel C J) → TellsNothing event → WorkerDoes moves old event new → NoneNewAt old.clients new.clients
  worker_one (Did number event) old new quiet (client, client', there, does, is) =
      client_put old.clients new.clients number client client' there (ap (λ (m : WorkerModel C J). m.clients) is) (client_one moves event _ _ does)
  worker_one (Finished number ticket end) old new quiet does = absurd quiet
  worker_one (Took ticket told) old new quiet does = absurd quiet
  worker_one FoundNone old new quiet (takes, is) = same_clients old.clients new.clients (ap (λ (m : WorkerModel C J). m.clients) is)
  worker_one (Came number) old new quiet (newcomer, takes, named, one, fresh, learns, is) = client_came old.clients new.clients number _ refl (ap (λ (m : WorkerModel C J). m.clients) is)
  worker_one (TurnedAway number) old new quiet (newcomer, port, takes, named, one, stale, learns, closed, is) = same_clients old.clients new.clients (ap (λ (m : WorkerModel C J). m.clients) is)
  worker_one FoundNobody old new quiet (takes, is) = same_clients old.clients new.clients (ap (λ (m : WorkerModel C J). m.clients) is)
  worker_one (Left number) old new quiet (last, port, (client, there, done, port_is, left), closed, is) = client_left old.clients new.clients number left

  worker_all : (events : List WorkerEvent) (old new : WorkerModel C J) → list_all serves_client events ≡ true → FoldsTo (WorkerDoes moves) old events new → NoneNewAt old.clients new.clients
  worker_all [] old new all is = same_clients old.clients new.clients (ap (λ (m : WorkerModel C J). m.clients) (sym is))
  worker_all (event ∷ events) old new all (mid, does, rest) = λ number part c stands.
      let both = and_both (serves_client event) (list_all serves_client events) all in
      worker_one event old mid (serves_quietly event both.0) does number part c (worker_all events mid new both.1 rest number part c stands)

  -- clients have their turns
  pub served_new : (moved : Bool) (old new : WorkerModel C J) → WorkerGoesBy moves serves_client old moved new → NoneNewAt old.clients new.clients
  served_new moved old new (events, folds, is, all) = worker_all events old new all folds

-- ---- what is left rests

not_awaiting : (stage : Stage) → (WantsPost stage) ⊎ ((end : Ended) × (stage ≡ Over end)) → stage ≢ Awaits
not_awaiting stage (inl wants) is = subst WantsPost is wants
not_awaiting stage (inr (end, over)) is = cc

module _ (due : DueCommands) (outlet : Outlet RunModel) (ended : due.ended.items ≡ []) (posted : (due.due.items ≡ []) ⊎ HasNoPlace outlet) (number part : ℕ) where
  -- the rest of a command at this stage, after this number of refusals
  abbrev RestsAt : Stage → ℕ → Type 0
  RestsAt stage followed = WantsPost stage × (IsSomeAnd (pause_at stage followed) (λ pause. 0 < pause) ⊎ HasNoPlace outlet)

  paused_by : (pause : ℕ) → (due.due.items ≡ []) ⊎ HasNoPlace outlet → is_noted due number part (Some pause) ≡ true → (0 < pause) ⊎ HasNoPlace outlet
  paused_by pause (inr full) noted = inr full
  paused_by pause (inl none) noted =
      inl (is_above pause (and_both (nat_lt 0 pause) (list_any (is_pause_of number part) (heap_items due.paused))
      ((λ i. list_any (is_ticket number part) (sym none i) || (nat_lt 0 pause && list_any (is_pause_of number part) (heap_items due.paused))) ∙ noted)).0)

  wanting : (stage : Stage) (followed pause : ℕ) → pause_at stage followed ≡ Some pause → WantsPost stage → (0 < pause) ⊎ HasNoPlace outlet → RestsAt stage followed
  wanting stage followed pause is wants (inl lt) = (wants, inl (subst (λ o. IsSomeAnd o (λ pause. 0 < pause)) (sym is) lt))
  wanting stage followed pause is wants (inr full) = (wants, inr full)

  by_stage : (stage : Stage) (followed : ℕ) → stage ≢ Awaits → is_noted due number part (pause_at stage followed) ≡ true → RestsAt stage followed
  by_stage (Wants None) followed not noted = wanting (Wants None) followed _ refl tt (paused_by _ posted noted)
  by_stage (Wants (Some node)) followed not noted = wanting (Wants (Some node)) followed _ refl tt (paused_by _ posted noted)
  by_stage (WantsAsking node) followed not noted = wanting (WantsAsking node) followed _ refl tt (paused_by _ posted noted)
  by_stage Awaits followed not noted = absurd (not refl)
  by_stage (Over end) followed not noted = absurd (false≢true (sym (ap (list_any (is_ticket number part)) ended) ∙ noted))

-- all that had something to do, and could, did it
pub settled_rest : {C : Type 0} (clients : FinMap nat_cmp (ClientModel C)) (outlet : Outlet RunModel) (due : DueCommands) → due.ended.items ≡ [] → (due.due.items ≡ []) ⊎ HasNoPlace outlet → AreNoted clients due → AreSettled clients outlet
settled_rest clients outlet due ended posted noted number part c stands =
    by_stage due outlet ended posted number part c.stage c.followed stands.2.1 (noted number part c stands)

-- a part whose turn has come is the first of its slot that is out
out_first : (session : SessionModel) (ticket : Ticket) → IsOut session ticket → IsFirstOut session ticket.part
out_first session ticket (slot, low, at, worker, client, free) own number mine (other_low, other) less =
    let same : own ≡ slot = slot_same session own slot ticket.part mine (low, at) in
    let passes : blocks slot (Out own) ≡ false = any_at (blocks slot) session.stages (ticket.part - session.first) (number - session.first) (Out own) free other (omega (arith, less, low, other_low)) in
    false≢true (sym passes ∙ ap (λ n. nat_eq n slot) same ∙ grind (arith, nat_tests))

module _ {C J : Type 0} where
  -- what rests goes on to, where nothing has something to do that had not
  rest_on : (old new : WorkerModel C J) → NoneNewAt old.clients new.clients → (HasNoPlace old.outlet → HasNoPlace new.outlet) → AreSettled old.clients old.outlet → AreSettled new.clients new.outlet
  rest_on old new none full rests number part c stands = by (rests number part c (none number part c stands))
    where
      by : WantsPost c.stage × (IsSomeAnd (pause_at c.stage c.followed) (λ pause. 0 < pause) ⊎ HasNoPlace old.outlet) → WantsPost c.stage × (IsSomeAnd (pause_at c.stage c.followed) (λ pause. 0 < pause) ⊎ HasNoPlace new.outlet)
      by (wants, inl paused) = (wants, inl paused)
      by (wants, inr was) = (wants, inr (full was))

  posted_of : (model : WorkerModel C J) → AreSettled model.clients model.outlet → ArePostedAtRest model
  posted_of model rests number client at part c stands = by c.stage refl
    where
      settles : (not : c.stage ≢ Awaits) → (WantsPost c.stage → c.ticket.part ≡ part → IsFirstOut client.session part) → WantsPost c.stage × (IsPaused c ⊎ HasNoPlace model.outlet)
      settles not turn = rests number part c (client, at, (stands, not, turn))

      by : (stage : Stage) → c.stage ≡ stage → IsPostedAtRest client.session c model.outlet
      by (Wants named) is =
          inr (subst WantsPost (sym is) tt, λ out. (settles (λ awaits. not_awaiting (Wants named) (inl tt) (sym is ∙ awaits)) (λ wants its. subst (IsFirstOut client.session) its (out_first client.session c.ticket out))).1)
      by (WantsAsking node) is =
          inr (subst WantsPost (sym is) tt, λ out. (settles (λ awaits. not_awaiting (WantsAsking node) (inl tt) (sym is ∙ awaits)) (λ wants its. subst (IsFirstOut client.session) its (out_first client.session c.ticket out))).1)
      by Awaits is = inl is
      by (Over end) is = absurd (subst WantsPost is (settles (λ awaits. not_awaiting (Over end) (inr (end, refl)) (sym is ∙ awaits)) (λ wants. absurd (subst WantsPost is wants))).0)

  pub posted_rest : (came told settled served : Bool) (three four : WorkerModel C J) → AreSettled three.clients three.outlet → NoneNewAt three.clients four.clients
      → (served ≡ false → HasNoPlace three.outlet → HasNoPlace four.outlet) → IfStill (Ok (((came || told) || settled) || served)) (ArePostedAtRest four)
  posted_rest true told settled served three four rests none full = tt
  posted_rest false true settled served three four rests none full = tt
  posted_rest false false true served three four rests none full = tt
  posted_rest false false false true three four rests none full = tt
  posted_rest false false false false three four rests none full = posted_of four (rest_on three four none (full refl) rests)
