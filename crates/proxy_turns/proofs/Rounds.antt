-- Each client of a worker has its turn.
use Rattle.std.proofs.Common.{◌≡◌, ◌∙◌, ◌≢◌, ◌<◌, ◌≤◌, ◌+◌, ◌-◌, ◌∷◌, [], ℕ, zero, suc, nat_eq, Bool, true, false, cond, List, Option, Some, None, Result, Ok, Err, inl, inr, refl, sym, ap, subst, arith, length, eqb→eq}
use Rattle.std.specs.Prelude.{◌⊎◌, IfOk, T, slice_get}
use Rattle.std.specs.Map.{lookup}
use Rattle.std.specs.List.{FoldsTo, list_all, list_any}
use Rattle.std.specs.FinMap.{get, insert}
use Rattle.std.proofs.lemmas.Bool.{false≢true}
use Rattle.std.proofs.lemmas.Bool.Decides.{nat_tests}
use Rattle.indexmap.specs.IndexMap.{set_value_at}
use Rattle.resp_wire.specs.declared.fault.NoMemory.{NoMemory}
use Rattle.key_split.specs.Runs.{RunModel}
use Rattle.proxy_lanes.specs.declared.ring.Outlet.{Outlet}
use Rattle.proxy_lanes.specs.View.{ViewModel}
use Rattle.proxy_turns.specs.Port.{Moves}
use Rattle.proxy_turns.specs.ClientModel.{ClientModel, IsDone}
use Rattle.proxy_turns.specs.ClientTurn.{ClientContext, ClientDoes, ClientEvent, TurnOutcome, is_client_move}
use Rattle.proxy_turns.specs.ClientTurn.ClientEvent.{CameBack, Drained, Dropped, Fed, Followed, HandedOut, Looked, Parted, Posted, Pulled, Pushed, Read, Tried}
use Rattle.proxy_turns.specs.ClientRest.{HasNoPlace, HasNoneToPost, IfStill, IfTurnedStill, IsClientAtRest}
use Rattle.proxy_turns.specs.declared.turned.Turned.{Turned}
use Rattle.proxy_turns.specs.ClientTable.{IsAtRestAt, IsStillAt, IsTurnedAt}
use Rattle.proxy_turns.specs.WorkerModel.{WorkerDoes, WorkerEvent, WorkerGoesBy, WorkerModel, clients_in, is_worker_move, serves_client}
use Rattle.proxy_turns.specs.WorkerModel.WorkerEvent.{Came, Did, Finished, FoundNobody, FoundNone, Left, Took, TurnedAway}
use Rattle.proxy_turns.specs.WorkerRest.{AreClientsAtRest}
use Rattle.proxy_turns.proofs.EventKinds.{and_both}
use Rattle.proxy_turns.proofs.ClientResting.{if_still, refused_full}
use Rattle.proxy_turns.proofs.Lifting.{get_put}
use Rattle.proxy_turns.proofs.Places.{or_false}
use Rattle.proxy_turns.proofs.Posting.{some_same}
use Rattle.proxy_turns.proofs.Tables.{at_number, none_some}

-- ---- a lane that took nothing takes nothing

module _ {C : Type 0} (moves : Moves C) where
  full_one : (event : ClientEvent) (old new : ClientContext C) → is_client_move event ≡ false → ClientDoes moves old event new → HasNoPlace old.outlet → HasNoPlace new.outlet
  full_one (Pulled bytes) old new still (m, is) full = subst HasNoPlace (sym (ap (λ (c : ClientContext C). c.outlet) is)) full
  full_one (Fed result) old new still (feeds, is) full = subst HasNoPlace (sym (ap (λ (c : ClientContext C). c.outlet) is)) full
  full_one (Read result) old new still (reads, is) full = subst HasNoPlace (sym (ap (λ (c : ClientContext C). c.outlet) is)) full
  full_one (HandedOut ticket part) old new still does full = absurd (false≢true (sym still))
  full_one (Followed ticket part) old new still does full = absurd (false≢true (sym still))
  full_one (Looked slot) old new still (looks, is) full = subst HasNoPlace (sym (ap (λ (c : ClientContext C). c.outlet) is)) full
  full_one (CameBack run) old new still (refused, is) full = refused_full old.outlet new.outlet run run refused
  full_one (Posted run) old new still does full = absurd (false≢true (sym still))
  full_one (Drained n) old new still (there, drains, is) full = subst HasNoPlace (sym (ap (λ (c : ClientContext C). c.outlet) is)) full
  full_one (Pushed bytes) old new still (m, left, is) full = subst HasNoPlace (sym (ap (λ (c : ClientContext C). c.outlet) is)) full
  full_one Tried old new still (m, is) full = subst HasNoPlace (sym (ap (λ (c : ClientContext C). c.outlet) is)) full
  full_one Parted old new still does full = absurd (false≢true (sym still))
  full_one (Dropped tickets) old new still does full = absurd (false≢true (sym still))

  module _ {J : Type 0} where
    full_served : (event : WorkerEvent) (old new : WorkerModel C J) → serves_client event ≡ true → is_worker_move event ≡ false → WorkerDoes moves old event new → HasNoPlace old.outlet → HasNoPlace new.outlet
    full_served (Did number event) old new kind still (client, client', there, does, is) full = full_one event _ _ still does full
    full_served (Finished number ticket end) old new kind still does full = absurd (false≢true kind)
    full_served (Took ticket told) old new kind still does full = absurd (false≢true kind)
    full_served FoundNone old new kind still does full = absurd (false≢true kind)
    full_served (Came number) old new kind still does full = absurd (false≢true kind)
    full_served (TurnedAway number) old new kind still does full = absurd (false≢true kind)
    full_served FoundNobody old new kind still does full = absurd (false≢true kind)
    full_served (Left number) old new kind still does full = absurd (false≢true (sym still))

    full_all : (events : List WorkerEvent) (old new : WorkerModel C J) → list_all serves_client events ≡ true → list_any is_worker_move events ≡ false → FoldsTo (WorkerDoes moves) old events new
        → HasNoPlace old.outlet → HasNoPlace new.outlet
    full_all [] old new all none is full = subst HasNoPlace (ap (λ (m : WorkerModel C J). m.outlet) is) full
    full_all (event ∷ events) old new all none (mid, does, rest) full =
        let both = and_both (serves_client event) (list_all serves_client events) all in
        let still = or_false (is_worker_move event) (list_any is_worker_move events) none in
        full_all events mid new both.1 still.1 rest (full_served event old mid both.0 still.0 does full)

    pub full_on : (moved : Bool) (old new : WorkerModel C J) → moved ≡ false → WorkerGoesBy moves serves_client old moved new → HasNoPlace old.outlet → HasNoPlace new.outlet
    full_on moved old new none (events, folds, is, all) full = full_all events old new all (sym is ∙ none) folds full

-- ---- each client has its place

module _ {X : Type 0} where
  value_or : X → Option X → X
  value_or other None = other
  value_or other (Some x) = x

  place_at : (q : ℕ) (e : ℕ × X) (es : List (ℕ × X)) (x : X) (b : Bool) → nat_eq q e.0 ≡ b → cond b (Some e.1) (lookup (nat_eq q) es) ≡ Some x
      → (lookup (nat_eq q) es ≡ Some x → (place : ℕ) × (place < length es) × (slice_get es place ≡ Some (q, x)))
      → (place : ℕ) × (place < length (e ∷ es)) × (slice_get (e ∷ es) place ≡ Some (q, x))
  unfolding value_or
  place_at q e es x true same at later =
      let key : q ≡ e.0 = eqb→eq q e.0 (subst T (sym same) tt) in
      (0, omega arith, λ i. Some (sym key i, ap (value_or x) at i))
  place_at q e es x false apart at later =
      let there = later at in (suc there.0, omega (arith, there.1), there.2)

  pub place_by : (q : ℕ) (es : List (ℕ × X)) (x : X) → lookup (nat_eq q) es ≡ Some x → (place : ℕ) × (place < length es) × (slice_get es place ≡ Some (q, x))
  place_by q [] x at = absurd (none_some x at)
  place_by q (e ∷ es) x at = place_at q e es x (nat_eq q e.0) refl at (place_by q es x)

  pub set_others : (es : List (ℕ × X)) (i other : ℕ) (x : X) → other ≢ i → slice_get (set_value_at es i x) other ≡ slice_get es other
  set_others [] i other x apart = refl
  set_others (e ∷ es) zero zero x apart = absurd (apart refl)
  set_others (e ∷ es) zero (suc other) x apart = refl
  set_others (e ∷ es) (suc i) zero x apart = refl
  set_others (e ∷ es) (suc i) (suc other) x apart = set_others es i other x (λ same. apart (ap suc same))

  key_or : ℕ → Option (ℕ × X) → ℕ
  key_or k None = k
  key_or k (Some e) = e.0

  pub set_here : (es : List (ℕ × X)) (i k : ℕ) (c x : X) → slice_get es i ≡ Some (k, c) → slice_get (set_value_at es i x) i ≡ Some (k, x)
  unfolding key_or
  set_here [] i k c x at = absurd (cc)
  set_here (e ∷ es) zero k c x at = λ j. Some (ap (key_or k) at j, x)
  set_here (e ∷ es) (suc i) k c x at = set_here es i k c x at

-- ---- a client rests while others have their turns

module _ {C : Type 0} (gives_none takes_none : C → Type 0) where
  post_on : (client : ClientModel C) (old new : Outlet RunModel) → (HasNoPlace old → HasNoPlace new) → HasNoneToPost client old → HasNoneToPost client new
  post_on client old new on none some = ((none some).0, on (none some).1)

  rest_on : (client : ClientModel C) (old new : Outlet RunModel) → (HasNoPlace old → HasNoPlace new) → IsClientAtRest gives_none takes_none client old → IsClientAtRest gives_none takes_none client new
  rest_on client old new on rests = record {
    pulled = rests.pulled;
    fed = rests.fed;
    read = rests.read;
    begun = rests.begun;
    posted = post_on client old new on rests.posted;
    drained = rests.drained;
    pushed = rests.pushed;
  }

  one_more : (old new : List (ℕ × ClientModel C)) (place other : ℕ) (o o' : Outlet RunModel) → (HasNoPlace o → HasNoPlace o') → IsStillAt gives_none takes_none old place o' new
      → (b : Bool) → nat_eq other place ≡ b → IsAtRestAt gives_none takes_none old o other → IsAtRestAt gives_none takes_none new o' other
  one_more old new place other o o' on still true same was =
      subst (IsAtRestAt gives_none takes_none new o') (sym (eqb→eq other place (subst T (sym same) tt))) still.here
  one_more old new place other o o' on still false apart was = λ entry at.
      let there = sym (still.others other apart_by) ∙ at in
      ((was entry there).0, rest_on entry.1 o o' on (was entry there).1)
    where
      same_number : (n : ℕ) → nat_eq n n ≡ true
      same_number n = grind (arith, nat_tests)

      apart_by : other ≡ place → ⊥
      apart_by same = false≢true (sym apart ∙ ap (nat_eq other) (sym same) ∙ same_number other)

  -- those that had their turns before, and the one that has it now
  pub still_on : (old new : List (ℕ × ClientModel C)) (place other : ℕ) (o o' : Outlet RunModel) → (HasNoPlace o → HasNoPlace o') → IsStillAt gives_none takes_none old place o' new
      → IsAtRestAt gives_none takes_none old o other → IsAtRestAt gives_none takes_none new o' other
  still_on old new place other o o' on still was = one_more old new place other o o' on still (nat_eq other place) refl was

  -- who is not done after a turn that moved nothing
  pub still_of : (old mid : List (ℕ × ClientModel C)) (place : ℕ) (outlet : Outlet RunModel) (turned : Turned) → IsTurnedAt gives_none takes_none old place turned outlet mid
      → length mid ≡ length old → turned.done ≡ false → IfStill (Ok turned.moved) (IsStillAt gives_none takes_none old place outlet mid)
  still_of old mid place outlet turned was len undone =
      if_still turned.moved (λ none. record {
        others = was.others;
        here = λ entry at. (was.undone undone entry at, was.rests none entry at);
        len = len;
      })

  -- what a client's turn makes of the table
  pub turned_at : (moves : Moves C) (entries : List (ℕ × ClientModel C)) (place k : ℕ) (client client' : ClientModel C) (o o' : Outlet RunModel) (v v' : ViewModel) (result : Result Turned NoMemory)
      → slice_get entries place ≡ Some (k, client) → clients_in (set_value_at entries place client') ≡ insert (clients_in entries) k client'
      → TurnOutcome moves (record { client = client; outlet = o; view = v }) result (record { client = client'; outlet = o'; view = v' })
      → IfTurnedStill result (IsClientAtRest gives_none takes_none client' o')
      → IfOk result (λ turned. IsTurnedAt gives_none takes_none entries place turned o' (set_value_at entries place client'))
  turned_at moves entries place k client client' o o' v v' (Err refused) at put does rests = tt
  turned_at moves entries place k client client' o o' v v' (Ok turned) at put does rests =
      let here = set_here entries place k client client' at in
      record {
        others = λ other apart. set_others entries place other client' apart;
        rests = λ none entry there. subst (λ (e : ℕ × ClientModel C). IsClientAtRest gives_none takes_none e.1 o') (some_same (k, client') entry (sym here ∙ there)) (rests none);
        done = λ is. (k, client', here, ap (λ m. get m k) put ∙ get_put (clients_in entries) k client', does.1.0 is);
        undone = λ is entry there done. false≢true (sym is ∙ does.1.1 (subst (λ (e : ℕ × ClientModel C). IsDone e.1) (some_same entry (k, client') (sym there ∙ here)) done));
      }

-- ---- all have had their turns

module _ {C J : Type 0} (gives_none takes_none : C → Type 0) where
  pub all_rest : (model : WorkerModel C J) (entries : List (ℕ × ClientModel C)) → model.clients ≡ clients_in entries
      → ((place : ℕ) → place < length entries → IsAtRestAt gives_none takes_none entries model.outlet place) → AreClientsAtRest gives_none takes_none model
  all_rest model entries is rests number client at =
      let there = place_by number entries client (at_number number entries ∙ ap (λ m. get m number) (sym is) ∙ at) in
      rests there.0 there.1 (number, client) there.2
