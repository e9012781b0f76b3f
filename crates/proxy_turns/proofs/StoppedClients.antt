-- All clients of a worker, of which no more is read.
use Rattle.std.proofs.Common.{◌≡◌, ◌∙◌, ◌⊎◌, ◌≤◌, ◌+◌, ◌∷◌, [], ℕ, zero, suc, nat_eq, Bool, true, false, cond, List, Option, Some, None, Result, Ok, Err, inl, inr, refl, sym, ap, subst, arith, length}
use Rattle.std.specs.Prelude.{option_map, slice_get}
use Rattle.std.specs.List.{FoldsTo, list_any}
use Rattle.std.specs.Map.{lookup, values_of}
use Rattle.std.specs.Ordering.{nat_cmp}
use Rattle.std.specs.FinMap.{FinMap, get, insert}
use Rattle.std.proofs.lemmas.Bool.{or_from}
use Rattle.indexmap.specs.IndexMap.{set_value_at}
use Rattle.key_split.specs.declared.travel.Ticket.{Ticket}
use Rattle.key_split.specs.declared.travel.Told.{Told}
use Rattle.session_order.specs.declared.fault.SessionFault.{SessionFault}
use Rattle.session_order.specs.Stopping.{ReadsNoMore}
use Rattle.session_order.proofs.Stopping.{stays_closed}
use Rattle.proxy_turns.specs.Port.{Moves}
use Rattle.proxy_turns.specs.ClientModel.{ClientModel}
use Rattle.proxy_turns.specs.ClientTurn.{ClientContext, ClientDoes, ClientEvent, most_drained}
use Rattle.proxy_turns.specs.ClientTurn.ClientEvent.{CameBack, Drained, Dropped, Fed, Followed, HandedOut, Looked, Parted, Posted, Pulled, Pushed, Read, Tried}
use Rattle.proxy_turns.specs.DueCommands.{IsToSettle}
use Rattle.proxy_turns.specs.WorkerModel.{OneCame, Tells, WorkerDoes, WorkerEvent, WorkerModel, clients_in}
use Rattle.proxy_turns.specs.WorkerModel.WorkerEvent.{Came, Did, Finished, FoundNobody, FoundNone, Left, Took, TurnedAway}
use Rattle.proxy_turns.specs.WorkerDrain.{AreStopped, Drains, IsDraining, StaysDraining, StopsAt, reads_request, stopped, takes_more}
use Rattle.proxy_turns.proofs.Posting.{some_same}
use Rattle.proxy_turns.proofs.Settling.{NoneNewAt, left_of, put_or}
use Rattle.proxy_turns.proofs.Tables.{at_number, none_some}

-- ---- one after another

module _ {C : Type 0} where
  -- so it is of the first clients
  abbrev pub first_stopped : ℕ → List (ℕ × ClientModel C) → List (ℕ × ClientModel C)
  first_stopped zero es = es
  first_stopped (suc n) [] = []
  first_stopped (suc n) (e ∷ es) = (e.0, stopped e.1) ∷ first_stopped n es

  one_stopped : (n : ℕ) (es : List (ℕ × ClientModel C)) (c : ClientModel C) → slice_get (values_of (first_stopped n es)) n ≡ Some c → set_value_at (first_stopped n es) n (stopped c) ≡ first_stopped (suc n) es
  one_stopped zero [] c at = absurd (none_some c at)
  one_stopped zero (e ∷ es) c at = ap (λ (d : ClientModel C). (e.0, stopped d) ∷ es) (sym (some_same e.1 c at))
  one_stopped (suc n) [] c at = absurd (none_some c at)
  one_stopped (suc n) (e ∷ es) c at = ap (λ l. (e.0, stopped e.1) ∷ l) (one_stopped n es c at)

  none_stopped : (n : ℕ) (es : List (ℕ × ClientModel C)) → slice_get (values_of (first_stopped n es)) n ≡ None → first_stopped n es ≡ first_stopped (suc n) es
  none_stopped zero [] none = refl
  none_stopped zero (e ∷ es) none = absurd (none_some e.1 (sym none))
  none_stopped (suc n) [] none = refl
  none_stopped (suc n) (e ∷ es) none = ap (λ l. (e.0, stopped e.1) ∷ l) (none_stopped n es none)

  next_by : (n : ℕ) (es now new : List (ℕ × ClientModel C)) → now ≡ first_stopped n es → StopsAt now n new → new ≡ first_stopped (suc n) es
  next_by n es now new is (inl (none, same)) = same ∙ is ∙ none_stopped n es (ap (λ l. slice_get (values_of l) n) (sym is) ∙ none)
  next_by n es now new is (inr (client, at, put)) =
      put ∙ ap (λ l. set_value_at l n (stopped client)) is ∙ one_stopped n es client (ap (λ l. slice_get (values_of l) n) (sym is) ∙ at)

  pub next_stopped : (n : ℕ) (es now new : List (ℕ × ClientModel C)) → now ≡ first_stopped n es → StopsAt now n new → new ≡ first_stopped (n + 1) es
  next_stopped n es now new is stops = (let one_more : suc n ≡ n + 1 = omega arith in next_by n es now new is stops ∙ ap (λ k. first_stopped k es) one_more)

  pub length_stopped : (n : ℕ) (es : List (ℕ × ClientModel C)) → length (first_stopped n es) ≡ length es
  length_stopped zero es = refl
  length_stopped (suc n) [] = refl
  length_stopped (suc n) (e ∷ es) = ap suc (length_stopped n es)

  found : (b : Bool) (c : ClientModel C) (new old : Option (ClientModel C)) → new ≡ option_map stopped old → cond b (Some (stopped c)) new ≡ option_map stopped (cond b (Some c) old)
  found true c new old is = refl
  found false c new old is = is

  look_up : (q n : ℕ) (es : List (ℕ × ClientModel C)) → length es ≤ n → lookup (nat_eq q) (first_stopped n es) ≡ option_map stopped (lookup (nat_eq q) es)
  look_up q zero [] le = refl
  look_up q zero (e ∷ es) le = absurd (omega (arith, le))
  look_up q (suc n) [] le = refl
  look_up q (suc n) (e ∷ es) le = found (nat_eq q e.0) e.1 _ _ (look_up q n es (omega (arith, le)))

  pub all_stopped : (n : ℕ) (es new : List (ℕ × ClientModel C)) → length es ≤ n → new ≡ first_stopped n es → AreStopped (clients_in es) (clients_in new)
  all_stopped n es new all is number =
      ap (λ l. get (clients_in l) number) is ∙ sym (at_number number (first_stopped n es)) ∙ look_up number n es all ∙ ap (option_map stopped) (at_number number es)

  -- who is there is one that was there
  was : (o : Option (ClientModel C)) (d : ClientModel C) → option_map stopped o ≡ Some d → (c : ClientModel C) × (o ≡ Some c) × (d ≡ stopped c)
  was None d is = absurd (none_some d is)
  was (Some c) d is = (c, refl, sym (some_same (stopped c) d is))

  pub stopped_new : (old new : FinMap nat_cmp (ClientModel C)) → AreStopped old new → NoneNewAt old new
  stopped_new old new are number part command (d, at, stands) =
      let before = was (get old number) d (sym (are number) ∙ at) in
      let then : IsToSettle (stopped before.0) part command = subst (λ (c : ClientModel C). IsToSettle c part command) before.2 stands in
      (before.0, before.1, then)

-- ---- what it does from then on

module _ {C : Type 0} (moves : Moves C) where
  shut : (old new : ClientContext C) → new.client.session ≡ old.client.session → ReadsNoMore old.client.session → ReadsNoMore new.client.session
  shut old new same = subst ReadsNoMore (sym same)

  none_read : (result : Result Bool SessionFault) → (result ≡ Ok true → ⊥) → reads_request (Read result) ≡ false
  none_read (Ok true) none = absurd (none refl)
  none_read (Ok false) none = refl
  none_read (Err fault) none = refl

  abbrev StaysShut : ClientEvent → ClientContext C → Type 0
  StaysShut event new = ReadsNoMore new.client.session × (reads_request event ≡ false)

  shut_one : (event : ClientEvent) (old new : ClientContext C) → ClientDoes moves old event new → ReadsNoMore old.client.session → StaysShut event new
  shut_one (Pulled bytes) old new (m, is) none = (shut old new (ap (λ (x : ClientContext C). x.client.session) is) none, refl)
  shut_one (Fed result) old new (feeds, is) none = (stays_closed.feed old.client.session old.client.unfed result new.client.session feeds none, refl)
  shut_one (Read result) old new (reads, is) none =
      let closed = stays_closed.read old.client.session result new.client.session reads none in (subst ReadsNoMore (sym closed.1) none, none_read result closed.0)
  shut_one (HandedOut ticket part) old new (there, fresh, ready, is) none = (stays_closed.ready old.client.session (Some (ticket, part)) new.client.session ready none, refl)
  shut_one (Followed ticket part) old new (there, (before, last, those, follows), is) none =
      (stays_closed.follower old.client.session last.ticket (Some (ticket, part)) new.client.session follows none, refl)
  shut_one (Looked slot) old new (looks, is) none = (shut old new (ap (λ (x : ClientContext C). x.client.session) is) none, refl)
  shut_one (CameBack run) old new (refused, is) none = (shut old new (ap (λ (x : ClientContext C). x.client.session) is) none, refl)
  shut_one (Posted run) old new (first, later, rest, takes, gone, out, behind, goes, made, together, few, posts, is) none =
      (shut old new (ap (λ (x : ClientContext C). x.client.session) is) none, refl)
  shut_one (Drained n) old new (there, drains, is) none =
      (stays_closed.drain most_drained old.client.session old.client.unpushed (Ok n) new.client.session new.client.unpushed drains none, refl)
  shut_one (Pushed bytes) old new (m, left, is) none = (shut old new (ap (λ (x : ClientContext C). x.client.session) is) none, refl)
  shut_one Tried old new (m, is) none = (shut old new (ap (λ (x : ClientContext C). x.client.session) is) none, refl)
  shut_one Parted old new (there, left, hangs, is) none = (stays_closed.hang_up old.client.session new.client.session hangs, refl)
  shut_one (Dropped tickets) old new (gone, some, named, is) none = (shut old new (ap (λ (x : ClientContext C). x.client.session) is) none, refl)

  none_came : (old new : Option ℕ) → old ≡ Some 0 → OneCame old new → ⊥
  none_came None new none came = none_some 0 none
  none_came (Some n) new none (some, is) = (let zero_is : n ≡ 0 = some_same n 0 none in omega (arith, zero_is, some))

  -- no request of any of them is read
  abbrev AreShut : FinMap nat_cmp (ClientModel C) → Type 0
  AreShut clients = (number : ℕ) (client : ClientModel C) → get clients number ≡ Some client → ReadsNoMore client.session

  put_shut : (old : FinMap nat_cmp (ClientModel C)) (k : ℕ) (client : ClientModel C) → AreShut old → ReadsNoMore client.session → AreShut (insert old k client)
  put_shut old k client are none number d at = by (put_or old number k client d at)
    where
      by : ((number ≡ k) × (d ≡ client)) ⊎ (get old number ≡ Some d) → ReadsNoMore d.session
      by (inl (same, is)) = subst (λ (c : ClientModel C). ReadsNoMore c.session) (sym is) none
      by (inr before) = are number d before

  told_shut : (old new : FinMap nat_cmp (ClientModel C)) (ticket : Ticket) (told : Told) (heard : Bool) → Tells old ticket told heard new → AreShut old → AreShut new
  told_shut old new ticket told true (client, client', there, hears, changed, put) are =
      subst AreShut (sym put) (put_shut old ticket.client client' are (subst (λ (c : ClientModel C). ReadsNoMore c.session) (sym changed) (are ticket.client client there)))
  told_shut old new ticket told false (nobody, same) are = subst AreShut (sym same) are

  module _ {J : Type 0} where
    goes_on : (old new : WorkerModel C J) → new.left ≡ old.left → IsDraining old → AreShut new.clients → IsDraining new
    goes_on old new left draining are = record { none_to_come = left ∙ draining.none_to_come; reads_no_more = are }

    as_before : (old new changed : WorkerModel C J) → new ≡ changed → changed.left ≡ old.left → changed.clients ≡ old.clients → IsDraining old → IsDraining new
    as_before old new changed is left clients draining =
        goes_on old new (ap (λ (m : WorkerModel C J). m.left) is ∙ left) draining (subst AreShut (sym (ap (λ (m : WorkerModel C J). m.clients) is ∙ clients)) draining.reads_no_more)

    one : (event : WorkerEvent) (old new : WorkerModel C J) → WorkerDoes moves old event new → IsDraining old → IsDraining new × (takes_more event ≡ false)
    one (Did number event) old new (client, client', there, does, is) draining =
        let closed = shut_one event _ _ does (draining.reads_no_more number client there) in (
          goes_on old new (ap (λ (m : WorkerModel C J). m.left) is) draining
              (subst AreShut (sym (ap (λ (m : WorkerModel C J). m.clients) is)) (put_shut old.clients number client' draining.reads_no_more closed.0)),
          closed.1,
        )
    one (Finished number ticket end) old new (client, client', there, (has, port, ends, changed), is) draining =
        let closed = stays_closed.ended client.session ticket end client'.session ends (draining.reads_no_more number client there) in (
          goes_on old new (ap (λ (m : WorkerModel C J). m.left) is) draining
              (subst AreShut (sym (ap (λ (m : WorkerModel C J). m.clients) is)) (put_shut old.clients number client' draining.reads_no_more closed)),
          refl,
        )
    one (Took ticket told) old new (takes, (heard, tells), is) draining =
        (goes_on old new (ap (λ (m : WorkerModel C J). m.left) is) draining (told_shut old.clients new.clients ticket told heard tells draining.reads_no_more), refl)
    one FoundNone old new (takes, is) draining = (as_before old new _ is refl refl draining, refl)
    one (Came number) old new (newcomer, takes, named, came, may, learns, is) draining = absurd (none_came old.left new.left draining.none_to_come came)
    one (TurnedAway number) old new (newcomer, port, takes, named, came, stale, learns, closed, is) draining = absurd (none_came old.left new.left draining.none_to_come came)
    one FoundNobody old new (takes, is) draining = (as_before old new _ is refl refl draining, refl)
    one (Left number) old new (last, port, (client, there, done, port_is, left), closed, is) draining = (
      goes_on old new (ap (λ (m : WorkerModel C J). m.left) is) draining (λ k d at. draining.reads_no_more k d (left_of old.clients k number d (ap (λ m. get m k) (sym left) ∙ at))),
      refl,
    )

    each : (old new : WorkerModel C J) (events : List WorkerEvent) → FoldsTo (WorkerDoes moves) old events new → IsDraining old → IsDraining new × (list_any takes_more events ≡ false)
    each old new [] is draining = (subst IsDraining is draining, refl)
    each old new (event ∷ events) (mid, does, rest) draining =
        let first = one event old mid does draining in
        let later = each mid new events rest first.0 in
        (later.0, or_from (takes_more event) (list_any takes_more events) first.1 later.1)

    begins : (old new : WorkerModel C J) → Drains old new → IsDraining new
    begins old new drains = record {
      none_to_come = drains.none_to_come;
      reads_no_more = λ number d at.
          let before = was (get old.clients number) d (sym (drains.clients number) ∙ at) in
          subst (λ (c : ClientModel C). ReadsNoMore c.session) (sym before.2) (stays_closed.stop before.0.session).0;
    }

    pub stays_draining : StaysDraining C J moves
    stays_draining = record { begins = begins; goes_on = each }
