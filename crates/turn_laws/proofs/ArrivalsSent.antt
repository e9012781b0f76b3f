-- Whatever a system does, what its log shows arrived for a client is what that client sent.
use Rattle.std.proofs.Common.{◌≡◌, ◌≢◌, ◌⊎◌, inl, inr, ⊎_elim, ◌++◌, ◌∷◌, [], ◌+◌, ◌-◌, ◌<◌, List, ℕ, refl, ap, sym, subst, ◌∙◌, arith, Option, Some, None, Bool, true, false, append_assoc, drop, length, take}
use Rattle.std.specs.Prelude.{map, nat_eq, slice_get, slice_set}
use Rattle.std.specs.List.{FoldsTo, flat_map}
use Rattle.std.specs.FinMap.{FinMap, get, insert, remove, get-empty}
use Rattle.std.specs.Ordering.{nat_cmp}
use Rattle.std.proofs.Math.Seq.{drop-append_seam}
use Rattle.std.proofs.lemmas.Bool.Decides.{eqb_tells}
use Rattle.std.proofs.lemmas.Grind.{flat_map-append}
use Rattle.std.proofs.lemmas.List.{append-nil}
use Rattle.resp_wire.specs.Laws.{FrontIsFaulty, FrontIsWhole}
use Rattle.resp_wire.specs.LimitsModel.{full}
use Rattle.key_split.specs.Laws.{PlansArePlain}
use Rattle.key_split.specs.PartModel.{PartModel}
use Rattle.key_split.specs.declared.travel.Ticket.{Ticket}
use Rattle.key_split.specs.declared.travel.Told.{Told}
use Rattle.session_order.specs.Life.{DrainsOutput}
use Rattle.session_order.specs.SessionModel.{SessionModel}
use Rattle.session_order.specs.declared.queue.PartStage.TheVariants.{Waiting}
use Rattle.proxy_turns.specs.ClientModel.{ClientModel, new_client}
use Rattle.proxy_turns.specs.ClientTurn.{ClientContext, ClientEvent, Pulled, Fed, Read, HandedOut, Followed, Looked, CameBack, Posted, Drained, Pushed, Tried, Parted, Dropped, ClientDoes}
use Rattle.proxy_turns.specs.WorkerModel.{WorkerModel, WorkerEvent, Did, Finished, Took, FoundNone, Came, TurnedAway, FoundNobody, Left, WorkerDoes, IsAbove, Tells}
use Rattle.world_laws.specs.State.{WorldModel}
use Rattle.world_laws.proofs.Recorded.{set-same}
use Rattle.turn_laws.specs.PortsMay.{any_moves}
use Rattle.turn_laws.specs.System.{System, Mark}
use Rattle.turn_laws.specs.Shadow.{IsShadow}
use Rattle.turn_laws.specs.Naming.{NamesNodes}
use Rattle.turn_laws.specs.Walks.{IsSharedWalked}
use Rattle.turn_laws.specs.Refines.{IsStart}
use Rattle.turn_laws.specs.Sharing.{SharedEvent, SharedSystemStep}
use Rattle.turn_laws.specs.Steps.{SystemEvent, AtWorker, AtCarrier, Handed, AtNode, AtBroken, Thrown, Moved, SystemStep, WorkerStep, IsSeen, arrivals, log_of, seen_at}
use Rattle.turn_laws.specs.ClientSees.{bytes_from, if_own, pulled_by}
use Rattle.turn_laws.specs.Arrivals.{ArrivalsAreSent, SharedArrivalsAreSent, AreSent, arrivals_for, own_events_at, ticketed}
use Rattle.turn_laws.proofs.Addresses.{led-frame}
use Rattle.turn_laws.proofs.Arrivals.{IsAnothers, IsIts, Reading, answers-hidden, are-sent, arrivals-hidden, arrivals-shown, begins, executed-hidden, more-pulled, then-drained, then-ended, then-fed, then-followed, then-handed, then-parted, then-read}
use Rattle.turn_laws.proofs.ClientSees.{own, not-own}
use Rattle.turn_laws.proofs.CommandsOut.{none-of, still-there}
use Rattle.turn_laws.proofs.Ending.{none-some, one-of, removed-other}
use Rattle.turn_laws.proofs.OwnEvents.{ours, same-events}
use Rattle.turn_laws.proofs.Sharing.{all as all-shadows}
use Rattle.turn_laws.proofs.Starts.{start-shadow}
use Rattle.turn_laws.proofs.Tables.{put-other, put-same}
use Rattle.turn_laws.proofs.Walks.{alone-walked}
use Rattle.turn_laws.proofs.WrittenClients.{IsNoWorkers, other-place, workers-stay}

-- ---- an event of a client

module _ {C : Type 0} (law : DrainsOutput) (whole : FrontIsWhole) (faulty : FrontIsFaulty) (k number : ℕ) (came : List ℕ) (arrived : List (Ticket × PartModel)) where
  -- this client's requests were read
  abbrev pub ReadingOf : ClientModel C → Type 0
  ReadingOf client = Reading k number came arrived client.session client.unfed

  -- after an event
  abbrev ReadingAfter : ClientEvent → ClientModel C → ClientModel C → Type 0
  ReadingAfter event old new =
      Reading k number (came ++ pulled_by event) (arrived ++ flat_map (arrivals_for k number) (seen_at event old.session new.session)) new.session new.unfed

  -- the client of a context
  abbrev client_in : ClientContext C → ClientModel C
  client_in context = context.client

  -- nothing comes, and nothing is shown
  unseen : (more : List (Ticket × PartModel)) (client client' : ClientModel C) → more ≡ [] → client' ≡ client → ReadingOf client → Reading k number (came ++ []) (arrived ++ more) client'.session client'.unfed
  unseen more client client' none is r =
      subst (λ cs. Reading k number cs (arrived ++ more) client'.session client'.unfed) (sym (append-nil came))
      (subst (λ ps. Reading k number came ps client'.session client'.unfed) (sym (append-nil arrived) ∙ ap (λ xs. arrived ++ xs) (sym none))
      (subst (λ (x : ClientModel C). ReadingOf x) (sym is) r))

  pub client-does : (event : ClientEvent) (old new : ClientContext C) → ClientDoes any_moves old event new → IsIts k number (old.client).session → ReadingOf old.client → ReadingAfter event old.client new.client
  client-does (Pulled bytes) old new (moved, is) its r =
      subst (λ ps. Reading k number (came ++ bytes) ps (new.client).session (new.client).unfed) (sym (append-nil arrived))
      (subst (λ (x : ClientModel C). Reading k number (came ++ bytes) arrived x.session x.unfed) (sym (ap client_in is)) (more-pulled k number came arrived (old.client).session (old.client).unfed r bytes))
  client-does (Fed result) old new (does, is) its r = unseen [] _ new.client refl (ap client_in is) (then-fed k number came arrived (old.client).session (old.client).unfed r result (new.client).session does)
  client-does (Read result) old new (does, is) its r =
      let held : SessionModel = (old.client).session in
      let (parts, stages, more) = then-read k number came arrived held (old.client).unfed r law whole faulty result (new.client).session does in
      let behind : drop (length held.stages) (new.client).session.stages ≡ map Waiting parts = ap (drop (length held.stages)) stages ∙ drop-append_seam held.stages (map Waiting parts) in
      let shows : flat_map (arrivals_for k number) (seen_at (Read result) held (new.client).session) ≡ ticketed k number (held.first + length held.stages) parts =
      ap (λ ss. flat_map (arrivals_for k number) (arrivals held (held.first + length held.stages) ss)) behind ∙ arrivals-shown k number held (held.first + length held.stages) parts its in
      let unfed : (new.client).unfed ≡ (old.client).unfed = ap (λ (x : ClientContext C). (x.client).unfed) is in
      subst (λ cs. Reading k number cs (arrived ++ flat_map (arrivals_for k number) (seen_at (Read result) held (new.client).session)) (new.client).session (new.client).unfed) (sym (append-nil came))
      (subst (λ ps. Reading k number came (arrived ++ ps) (new.client).session (new.client).unfed) (sym shows)
      (subst (λ u. Reading k number came (arrived ++ ticketed k number (held.first + length held.stages) parts) (new.client).session u) (sym unfed) more))
  client-does (HandedOut ticket part) old new (here, none, does, is) its r =
      unseen [] _ new.client refl (ap client_in is) (then-handed k number came arrived (old.client).session (old.client).unfed r ticket part (new.client).session does)
  client-does (Followed ticket part) old new (here, (before, last, those, does), is) its r =
      unseen [] _ new.client refl (ap client_in is) (then-followed k number came arrived (old.client).session (old.client).unfed r last.ticket ticket part (new.client).session does)
  client-does (Looked slot) old new (looks, is) its r = unseen [] _ new.client refl (ap client_in is) r
  client-does (CameBack run) old new (posts, is) its r = unseen [] _ new.client refl (ap client_in is) r
  client-does (Posted run) old new does its r = unseen [] _ new.client refl (ap client_in does.12) r
  client-does (Drained n) old new (here, does, is) its r =
      unseen (flat_map (arrivals_for k number) (seen_at (Drained n) (old.client).session (new.client).session)) _ new.client
      (answers-hidden k number (old.client).session (old.client).session.first (take ((new.client).session.first - (old.client).session.first) (old.client).session.ends)) (ap client_in is)
      (then-drained k number came arrived (old.client).session (old.client).unfed r n (new.client).session (old.client).unpushed (new.client).unpushed does)
  client-does (Pushed bytes) old new (moved, split, is) its r = unseen [] _ new.client refl (ap client_in is) r
  client-does Tried old new (moved, is) its r = unseen [] _ new.client refl (ap client_in is) r
  client-does Parted old new (here, left, hangs, is) its r = unseen [] _ new.client refl (ap client_in is) (then-parted k number came arrived (old.client).session (old.client).unfed r (new.client).session hangs)
  client-does (Dropped tickets) old new (gone, some, those, is) its r = unseen [] _ new.client refl (ap client_in is) r

-- what another client shows is none of its
seen-hidden : (k number : ℕ) (event : ClientEvent) (old new : SessionModel) → IsAnothers k number old → flat_map (arrivals_for k number) (seen_at event old new) ≡ []
seen-hidden k number (Pulled bytes) old new other = refl
seen-hidden k number (Fed result) old new other = refl
seen-hidden k number (Read result) old new other = arrivals-hidden k number old (old.first + length old.stages) (drop (length old.stages) new.stages) other
seen-hidden k number (HandedOut ticket part) old new other = refl
seen-hidden k number (Followed ticket part) old new other = refl
seen-hidden k number (Looked slot) old new other = refl
seen-hidden k number (CameBack run) old new other = refl
seen-hidden k number (Posted run) old new other = refl
seen-hidden k number (Drained n) old new other = answers-hidden k number old old.first (take (new.first - old.first) old.ends)
seen-hidden k number (Pushed bytes) old new other = refl
seen-hidden k number Tried old new other = refl
seen-hidden k number Parted old new other = refl
seen-hidden k number (Dropped tickets) old new other = refl

-- ---- a worker

-- How it stands with the client of this number: where no client that came has the number or a greater one nothing came of it, and where it
-- is there its requests were read.
pub record Stands {C J : Type 0} (k number : ℕ) (came : List ℕ) (arrived : List (Ticket × PartModel)) (model : WorkerModel C J) : Type 0 where
  pub fresh : IsAbove model.newest number → (came ≡ []) × (arrived ≡ [])
  pub here : (client : ClientModel C) → get model.clients number ≡ Some client → (IsAbove model.newest number → ⊥) × Reading k number came arrived client.session client.unfed
  pub sent : AreSent k number came arrived

-- the last that came is not above itself
above-itself : (newest : Option ℕ) (other number : ℕ) → newest ≡ Some other → other ≡ number → IsAbove newest number → ⊥
above-itself newest other number is same above = below other (subst (λ o. IsAbove o number) is above) same
  where
    below : (n : ℕ) → n < number → n ≡ number → ⊥
    below n less same = omega (arith, less, same)

before-too : (newest : Option ℕ) (other number : ℕ) → IsAbove newest other → other < number → IsAbove newest number
before-too None other number above less = tt
before-too (Some last) other number above less = omega (arith, above, less)

-- each client of the worker has its number and its worker's
abbrev AreHoused : {C J : Type 0} → ℕ → WorkerModel C J → Type 0
AreHoused {C} {J} k model = (number : ℕ) (client : ClientModel C) → get model.clients number ≡ Some client → IsIts k number client.session

marks-none : (k number : ℕ) (marks : List Mark) → marks ≡ [] → flat_map (arrivals_for k number) marks ≡ []
marks-none k number marks none = ap (flat_map (arrivals_for k number)) none

module _ {C J : Type 0} (k number : ℕ) where
  -- all is as it was for this client
  aside : (came : List ℕ) (arrived : List (Ticket × PartModel)) (old new : WorkerModel C J) → get new.clients number ≡ get old.clients number → (IsAbove new.newest number → IsAbove old.newest number)
      → Stands k number came arrived old → Stands k number came arrived new
  aside came arrived old new same back stands = record {
    fresh = λ above. stands.fresh (back above);
    here = λ client at. let it = stands.here client (sym same ∙ at) in (λ above. it.0 (back above), it.1);
    sent = stands.sent;
  }

  -- it is this client now
  becomes : (came : List ℕ) (arrived : List (Ticket × PartModel)) (new : WorkerModel C J) (client : ClientModel C) → get new.clients number ≡ Some client → (IsAbove new.newest number → ⊥)
      → Reading k number came arrived client.session client.unfed → Stands k number came arrived new
  becomes came arrived new client there past r = record {
    fresh = λ above. absurd (past above);
    here = λ other at. (past, subst (λ (x : ClientModel C). Reading k number came arrived x.session x.unfed) (one-of (get new.clients number) client other there at) r);
    sent = are-sent k number came arrived client.session client.unfed r;
  }

  -- nothing is seen of an event
  silent : (came more : List ℕ) (arrived shown : List (Ticket × PartModel)) (model : WorkerModel C J) → more ≡ [] → shown ≡ [] → Stands k number came arrived model → Stands k number (came ++ more) (arrived ++ shown) model
  silent came more arrived shown model p q stands =
      subst (λ cs. Stands k number cs (arrived ++ shown) model) (sym (append-nil came) ∙ ap (λ xs. came ++ xs) (sym p))
      (subst (λ ps. Stands k number came ps model) (sym (append-nil arrived) ∙ ap (λ xs. arrived ++ xs) (sym q)) stands)

  module _ (law : DrainsOutput) (whole : FrontIsWhole) (faulty : FrontIsFaulty) (came : List ℕ) (arrived : List (Ticket × PartModel)) (old new : WorkerModel C J) (marks : List Mark) (stands : Stands k number came arrived old) where
    -- after an event that shows these marks
    abbrev After : List ℕ → Type 0
    After more = Stands k number (came ++ more) (arrived ++ flat_map (arrivals_for k number) marks) new

    -- nothing is seen, and all is as it was
    quietly : marks ≡ [] → get new.clients number ≡ get old.clients number → (IsAbove new.newest number → IsAbove old.newest number) → After []
    quietly none same back = silent came [] arrived (flat_map (arrivals_for k number) marks) new refl (marks-none k number marks none) (aside came arrived old new same back stands)

    as-it-was : marks ≡ [] → new.clients ≡ old.clients → new.newest ≡ old.newest → After []
    as-it-was none clients newest = quietly none (ap (λ (m : FinMap nat_cmp (ClientModel C)). get m number) clients) (subst (λ o. IsAbove o number) newest)

    -- the client changes, and keeps what it read
    changes : marks ≡ [] → (client client' : ClientModel C) → get old.clients number ≡ Some client → get new.clients number ≡ Some client' → new.newest ≡ old.newest
        → (Reading k number came arrived client.session client.unfed → Reading k number came arrived client'.session client'.unfed) → After []
    changes none client client' at there newest keeps =
        let it = stands.here client at in
        silent came [] arrived (flat_map (arrivals_for k number) marks) new refl (marks-none k number marks none)
        (becomes came arrived new client' there (λ above. it.0 (subst (λ o. IsAbove o number) newest above)) (keeps it.1))

    did : (other : ℕ) (event : ClientEvent) → WorkerDoes any_moves old (Did other event) new → IsSeen old (Did other event) new marks → AreHoused k old → After (if_own number other (pulled_by event))
    did other event (client, client', at, does, is) seen housed =
        let newest : new.newest ≡ old.newest = ap (λ (x : WorkerModel C J). x.newest) is in
        let was : seen.0 ≡ client = one-of (get old.clients other) seen.0 client seen.2 at in
        let now : get new.clients other ≡ Some client' = ap (λ (x : WorkerModel C J). get x.clients other) is ∙ put-same old.clients other client' in
        let goes : seen.1 ≡ client' = one-of (get new.clients other) seen.1 client' seen.3 now in
        let shows : marks ≡ seen_at event client.session client'.session = seen.4 ∙ (λ i. seen_at event (was i).session (goes i).session) in
        let its : IsIts k other client.session = housed other client at in
        ⊎_elim
        (λ (z : (nat_eq other number ≡ true) × (other ≡ number)).
        let it = stands.here client (ap (get old.clients) (sym z.1) ∙ at) in
        let r = client-does law whole faulty k number came arrived event (record { client = client; outlet = old.outlet; view = old.view }) (record { client = client'; outlet = new.outlet; view = new.view }) does
        (its.0, its.1 ∙ z.1) it.1 in
        subst (λ bs. After bs) (sym (own number other (pulled_by event) z.0))
        (becomes (came ++ pulled_by event) (arrived ++ flat_map (arrivals_for k number) marks) new client' (ap (get new.clients) (sym z.1) ∙ now) (λ above. it.0 (subst (λ o. IsAbove o number) newest above))
        (subst (λ ms. Reading k number (came ++ pulled_by event) (arrived ++ flat_map (arrivals_for k number) ms) client'.session client'.unfed) (sym shows) r)))
        (λ (z : (nat_eq other number ≡ false) × (other ≢ number)).
        silent came (if_own number other (pulled_by event)) arrived (flat_map (arrivals_for k number) marks) new (not-own number other (pulled_by event) z.0)
        (ap (flat_map (arrivals_for k number)) shows ∙ seen-hidden k number event client.session client'.session (inr (ap (λ c. nat_eq c number) its.1 ∙ z.0)))
        (aside came arrived old new (ap (λ (x : WorkerModel C J). get x.clients number) is ∙ put-other old.clients other number client' (λ e. z.1 (sym e))) (subst (λ o. IsAbove o number) newest) stands))
        (eqb_tells other number)

    -- another client changes, or this one, and no mark is made
    changed : (other : ℕ) (client client' : ClientModel C) → marks ≡ [] → get old.clients other ≡ Some client → new.clients ≡ insert old.clients other client' → new.newest ≡ old.newest
        → (Reading k number came arrived client.session client.unfed → Reading k number came arrived client'.session client'.unfed) → After []
    changed other client client' none at is newest keeps =
        let found : (q : ℕ) → get new.clients q ≡ get (insert old.clients other client') q = λ q. ap (λ (m : FinMap nat_cmp (ClientModel C)). get m q) is in
        ⊎_elim
        (λ (z : (nat_eq other number ≡ true) × (other ≡ number)).
        changes none client client' (ap (get old.clients) (sym z.1) ∙ at) (found number ∙ ap (λ q. get (insert old.clients q client') number) z.1 ∙ put-same old.clients number client') newest keeps)
        (λ (z : (nat_eq other number ≡ false) × (other ≢ number)).
        quietly none (found number ∙ put-other old.clients other number client' (λ e. z.1 (sym e))) (subst (λ o. IsAbove o number) newest))
        (eqb_tells other number)

    took : (ticket : Ticket) (told : Told) (heard : Bool) → marks ≡ [] → Tells old.clients ticket told heard new.clients → new.newest ≡ old.newest → After []
    took ticket told true none (client, client', at, heard, same, is) newest =
        changed ticket.client client client' none at is newest (λ r. subst (λ (x : ClientModel C). Reading k number came arrived x.session x.unfed) (sym same) r)
    took ticket told false none (deaf, is) newest = as-it-was none is newest

    comes : (other : ℕ) → marks ≡ [] → WorkerDoes any_moves old (Came other) new → After []
    comes other none (newcomer, takes, numbered, one, may, learns, is) =
        let fresh : ClientModel C = new_client old.worker other full newcomer.port in
        let newest : new.newest ≡ Some other = ap (λ (x : WorkerModel C J). x.newest) is in
        let found : get new.clients number ≡ get (insert old.clients other fresh) number = ap (λ (x : WorkerModel C J). get x.clients number) is in
        ⊎_elim
        (λ (z : (nat_eq other number ≡ true) × (other ≡ number)).
        let (no-bytes, no-parts) = stands.fresh (subst (IsAbove old.newest) z.1 may.1.0) in
        silent came [] arrived (flat_map (arrivals_for k number) marks) new refl (marks-none k number marks none)
        (becomes came arrived new fresh (found ∙ ap (λ q. get (insert old.clients q fresh) number) z.1 ∙ put-same old.clients number fresh) (above-itself new.newest other number newest z.1)
        (subst (λ cs. Reading k number cs arrived fresh.session []) (sym no-bytes) (subst (λ ps. Reading k number [] ps fresh.session []) (sym no-parts) (begins k number old.worker other)))))
        (λ (z : (nat_eq other number ≡ false) × (other ≢ number)).
        quietly none (found ∙ put-other old.clients other number fresh (λ e. z.1 (sym e))) (λ above. before-too old.newest other number may.1.0 (subst (λ o. IsAbove o number) newest above)))
        (eqb_tells other number)

    leaves : (other : ℕ) → marks ≡ [] → WorkerDoes any_moves old (Left other) new → After []
    leaves other none (last, port, (client, at, done, ported, gone), closed, is) =
        let newest : new.newest ≡ old.newest = ap (λ (x : WorkerModel C J). x.newest) is in
        let found : get new.clients number ≡ get (remove old.clients other) number = ap (λ (m : FinMap nat_cmp (ClientModel C)). get m number) gone in
        ⊎_elim
        (λ (z : (nat_eq other number ≡ true) × (other ≡ number)).
        let absent : get new.clients number ≡ None =
        found ∙ ap (λ q. get (remove old.clients q) number) z.1 ∙ none-of (get (remove old.clients number) number) (λ c there. (still-there old.clients number number c there).1 refl) in
        silent came [] arrived (flat_map (arrivals_for k number) marks) new refl (marks-none k number marks none) (record {
          fresh = λ above. stands.fresh (subst (λ o. IsAbove o number) newest above);
          here = λ other at. absurd (none-some (get new.clients number) other absent at);
          sent = stands.sent;
        }))
        (λ (z : (nat_eq other number ≡ false) × (other ≢ number)).
        quietly none (found ∙ removed-other old.clients other number (λ e. z.1 (sym e))) (subst (λ o. IsAbove o number) newest))
        (eqb_tells other number)

    worker-does : (event : WorkerEvent) → WorkerDoes any_moves old event new → IsSeen old event new marks → AreHoused k old → After (bytes_from number event)
    worker-does (Did other event) does seen housed = did other event does seen housed
    worker-does (Finished other ticket end) (client, client', at, (has, noted, does, is-client), is) none housed =
        changed other client client' none at (ap (λ (x : WorkerModel C J). x.clients) is) (ap (λ (x : WorkerModel C J). x.newest) is)
        (λ r. subst (λ u. Reading k number came arrived client'.session u) (sym (ap (λ (x : ClientModel C). x.unfed) is-client))
        (then-ended k number came arrived client.session client.unfed r ticket end client'.session does))
    worker-does (Took ticket told) (takes, (heard, tells), is) none housed = took ticket told heard none tells (ap (λ (x : WorkerModel C J). x.newest) is)
    worker-does FoundNone (takes, is) none housed = as-it-was none (ap (λ (x : WorkerModel C J). x.clients) is) (ap (λ (x : WorkerModel C J). x.newest) is)
    worker-does (Came other) does none housed = comes other none does
    worker-does (TurnedAway other) does none housed = as-it-was none (ap (λ (x : WorkerModel C J). x.clients) does.8) (ap (λ (x : WorkerModel C J). x.newest) does.8)
    worker-does FoundNobody (takes, is) none housed = as-it-was none (ap (λ (x : WorkerModel C J). x.clients) is) (ap (λ (x : WorkerModel C J). x.newest) is)
    worker-does (Left other) does none housed = leaves other none does

-- what happens at another worker shows nothing of it
elsewhere : {C J : Type 0} (k number j : ℕ) (event : WorkerEvent) (old new : WorkerModel C J) (marks : List Mark) → nat_eq j k ≡ false → AreHoused j old → IsSeen old event new marks
    → flat_map (arrivals_for k number) marks ≡ []
elsewhere k number j (Did other event) old new marks apart housed (client, client', at, there, shows) =
    ap (flat_map (arrivals_for k number)) shows ∙ seen-hidden k number event client.session client'.session (inl (ap (λ w. nat_eq w k) (housed other client at).0 ∙ apart))
elsewhere k number j (Finished other ticket end) old new marks apart housed none = ap (flat_map (arrivals_for k number)) none
elsewhere k number j (Took ticket told) old new marks apart housed none = ap (flat_map (arrivals_for k number)) none
elsewhere k number j FoundNone old new marks apart housed none = ap (flat_map (arrivals_for k number)) none
elsewhere k number j (Came other) old new marks apart housed none = ap (flat_map (arrivals_for k number)) none
elsewhere k number j (TurnedAway other) old new marks apart housed none = ap (flat_map (arrivals_for k number)) none
elsewhere k number j FoundNobody old new marks apart housed none = ap (flat_map (arrivals_for k number)) none
elsewhere k number j (Left other) old new marks apart housed none = ap (flat_map (arrivals_for k number)) none

-- ---- a system

-- the log of a system
abbrev log_in : {C J : Type 0} → System C J → List Mark
log_in s = s.log

-- the arrivals that it shows of this client
abbrev shown : {C J : Type 0} → ℕ → ℕ → System C J → List (Ticket × PartModel)
shown k number s = flat_map (arrivals_for k number) s.log

-- what arrived was sent, and how it stands with the client at its worker
abbrev Known : {C J : Type 0} → ℕ → ℕ → List ℕ → System C J → Type 0
Known {C} {J} k number came s =
    AreSent k number came (shown k number s) × ((model : WorkerModel C J) → slice_get s.workers k ≡ Some model → Stands k number came (shown k number s) model)

module _ {C J : Type 0} (k number : ℕ) (came : List ℕ) (s s' : System C J) where
  -- no worker moves, and no arrival is shown
  same-workers : (marks : List Mark) → s'.workers ≡ s.workers → s'.log ≡ s.log ++ marks → flat_map (arrivals_for k number) marks ≡ [] → Known k number came s → Known k number (came ++ []) s'
  same-workers marks workers log none (sent, stands) =
      let same : shown k number s' ≡ shown k number s = ap (flat_map (arrivals_for k number)) log ∙ flat_map-append (arrivals_for k number) s.log marks ∙ ap (λ xs. shown k number s ++ xs) none ∙ append-nil (shown k number s) in
      subst (λ cs. Known k number cs s') (sym (append-nil came)) (
        subst (AreSent k number came) (sym same) sent,
        λ model at. subst (λ ps. Stands k number came ps model) (sym same) (stands model (ap (λ (ws : List (WorkerModel C J)). slice_get ws k) (sym workers) ∙ at)),
      )

  at-worker : DrainsOutput → FrontIsWhole → FrontIsFaulty → (j : ℕ) (event : WorkerEvent) → WorkerStep s j event s' → ((i : ℕ) (model : WorkerModel C J) → slice_get s.workers i ≡ Some model → AreHoused i model)
      → Known k number came s → Known k number (came ++ flat_map (bytes_from number) (if_own k j (event ∷ []))) s'
  at-worker law whole faulty j event step housed (sent, stands) =
      let log : shown k number s' ≡ shown k number s ++ flat_map (arrivals_for k number) step.marks =
      ap (λ (x : System C J). flat_map (arrivals_for k number) x.log) step.leaves ∙ flat_map-append (arrivals_for k number) s.log step.marks in
      ⊎_elim
      (λ (z : (nat_eq j k ≡ true) × (j ≡ k)).
      let at : slice_get s.workers k ≡ Some step.old = ap (slice_get s.workers) (sym z.1) ∙ step.at in
      let now : slice_get s'.workers k ≡ Some step.new = ap (λ (x : System C J). slice_get x.workers k) step.leaves ∙ ap (slice_get (slice_set s.workers j step.new)) (sym z.1) ∙ set-same s.workers j step.old step.new step.at in
      let after = worker-does k number law whole faulty came (shown k number s) step.old step.new step.marks (stands step.old at) event step.does step.seen (housed k step.old at) in
      let bytes : flat_map (bytes_from number) (if_own k j (event ∷ [])) ≡ bytes_from number event = ap (flat_map (bytes_from number)) (own k j (event ∷ []) z.0) ∙ append-nil (bytes_from number event) in
      subst (λ bs. Known k number (came ++ bs) s') (sym bytes) (
        subst (AreSent k number (came ++ bytes_from number event)) (sym log) after.sent,
        λ model there. subst (λ ps. Stands k number (came ++ bytes_from number event) ps model) (sym log)
            (subst (λ (x : WorkerModel C J). Stands k number (came ++ bytes_from number event) (shown k number s ++ flat_map (arrivals_for k number) step.marks) x) (one-of (slice_get s'.workers k) step.new model now there) after),
      ))
      (λ (z : (nat_eq j k ≡ false) × (j ≢ k)).
      let none : flat_map (arrivals_for k number) step.marks ≡ [] = elsewhere k number j event step.old step.new step.marks z.0 (housed j step.old step.at) step.seen in
      let same : shown k number s' ≡ shown k number s = log ∙ ap (λ xs. shown k number s ++ xs) none ∙ append-nil (shown k number s) in
      let workers : slice_get s'.workers k ≡ slice_get s.workers k = ap (λ (x : System C J). slice_get x.workers k) step.leaves ∙ other-place s.workers j k step.new z.1 in
      let bytes : flat_map (bytes_from number) (if_own k j (event ∷ [])) ≡ [] = ap (flat_map (bytes_from number)) (not-own k j (event ∷ []) z.0) in
      subst (λ bs. Known k number (came ++ bs) s') (sym bytes) (subst (λ cs. Known k number cs s') (sym (append-nil came)) (
        subst (AreSent k number came) (sym same) sent,
        λ model there. subst (λ ps. Stands k number came ps model) (sym same) (stands model (sym workers ∙ there)),
      )))
      (eqb_tells j k)

  quiet-step : (event : SystemEvent) → IsNoWorkers event → SystemStep s event s' → (marks : List Mark) → s'.log ≡ s.log ++ marks → flat_map (arrivals_for k number) marks ≡ [] → Known k number came s
      → Known k number (came ++ []) s'
  quiet-step event none step marks log hides known = same-workers marks (workers-stay event s s' none step) log hides known

  no-mark : s'.log ≡ s.log → s'.log ≡ s.log ++ []
  no-mark same = same ∙ sym (append-nil s.log)

  one-step : DrainsOutput → FrontIsWhole → FrontIsFaulty → (event : SharedEvent) → SharedSystemStep s event s' → ((i : ℕ) (model : WorkerModel C J) → slice_get s.workers i ≡ Some model → AreHoused i model)
      → Known k number came s → Known k number (came ++ flat_map (bytes_from number) (own_events_at k event)) s'
  one-step law whole faulty (SharedEvent.Ours (AtWorker j event)) step housed known = at-worker law whole faulty j event step housed known
  one-step law whole faulty (SharedEvent.Ours (AtCarrier event)) step housed known = quiet-step (AtCarrier event) tt step [] (no-mark (ap log_in step.leaves)) refl known
  one-step law whole faulty (SharedEvent.Ours (Handed j other)) step housed known = quiet-step (Handed j other) tt step [] (no-mark (ap log_in step.4)) refl known
  one-step law whole faulty (SharedEvent.Ours (AtNode j verdict)) step housed known = quiet-step (AtNode j verdict) tt step (log_of step.4) (ap log_in step.10) (executed-hidden k number step.4) known
  one-step law whole faulty (SharedEvent.Ours (AtBroken j verdict)) step housed known = quiet-step (AtBroken j verdict) tt step (log_of step.3) (ap log_in step.7) (executed-hidden k number step.3) known
  one-step law whole faulty (SharedEvent.Ours (Thrown j)) step housed known = quiet-step (Thrown j) tt step [] (no-mark (ap log_in step.2)) refl known
  one-step law whole faulty (SharedEvent.Ours (Moved event)) step housed known = quiet-step (Moved event) tt step [] (no-mark (ap log_in step.1)) refl known
  one-step law whole faulty (SharedEvent.Led event) step housed known =
      let frame = led-frame event s s' step in
      same-workers (log_of frame.done) frame.workers frame.log (executed-hidden k number frame.done) known
  one-step law whole faulty (SharedEvent.Theirs node asking done) step housed known =
      same-workers (log_of done) (ap (λ (x : System C J). x.workers) step.1) (ap log_in step.1) (executed-hidden k number done) known

module _ (C J : Type 0) (law : DrainsOutput) (whole : FrontIsWhole) (faulty : FrontIsFaulty) (plain : PlansArePlain) where
  housed-at : (s : System C J) (w : WorldModel) → IsShadow s w → (i : ℕ) (model : WorkerModel C J) → slice_get s.workers i ≡ Some model → AreHoused i model
  housed-at s w h i model at number client got = let shadow = (h.clients i model number client at got).1 in (shadow.housed, shadow.numbered)

  every-step : (k number : ℕ) (events : List SharedEvent) (came : List ℕ) (s s' : System C J) (w : WorldModel) → IsShadow s w → NamesNodes s → IsSharedWalked w → FoldsTo SharedSystemStep s events s' → Known k number came s
      → Known k number (came ++ flat_map (bytes_from number) (flat_map (own_events_at k) events)) s'
  every-step k number [] came s s' w h names walked same known = subst (λ cs. Known k number cs s') (sym (append-nil came)) (subst (λ (x : System C J). Known k number came x) same known)
  every-step k number (event ∷ events) came s s' w h names walked (mid, step, more) known =
      let next = all-shadows C J plain (event ∷ []) s mid w h names walked (mid, step, refl) in
      let bytes : List ℕ = flat_map (bytes_from number) (own_events_at k event) in
      let rest : List ℕ = flat_map (bytes_from number) (flat_map (own_events_at k) events) in
      subst (λ cs. Known k number cs s') (append_assoc came bytes rest ∙ ap (λ bs. came ++ bs) (sym (flat_map-append (bytes_from number) (own_events_at k event) (flat_map (own_events_at k) events))))
      (every-step k number events (came ++ bytes) mid s' next.0 next.2 next.3 next.1 more (one-step k number came s mid law whole faulty event step (housed-at s w h) known))

  nothing-sent : (k number : ℕ) → AreSent k number [] []
  nothing-sent k number = record { values = []; text = []; rest = []; are = refl; spelled = refl; accepted = tt; until = refl; parts = refl }

  at-start : (k number : ℕ) (s : System C J) → IsStart s → Known k number [] s
  at-start k number s start =
      let none : shown k number s ≡ [] = ap (flat_map (arrivals_for k number)) start.log in (
        subst (AreSent k number []) (sym none) (nothing-sent k number),
        λ model at. let absent : get model.clients number ≡ None = ap (λ (m : FinMap nat_cmp (ClientModel C)). get m number) (start.idle k model at).1 ∙ get-empty nat_cmp number in
            record {
              fresh = λ above. (refl, none);
              here = λ client got. absurd (none-some (get model.clients number) client absent got);
              sent = subst (AreSent k number []) (sym none) (nothing-sent k number);
            },
      )

  pub shared-arrivals-are-sent : SharedArrivalsAreSent C J
  shared-arrivals-are-sent s s' events start steps k number =
      let b = start-shadow C J s start in
      (every-step k number events [] s s' b.0 b.2 b.3 (alone-walked b.0 b.1) steps (at-start k number s start)).0

  pub arrivals-are-sent : ArrivalsAreSent C J
  arrivals-are-sent s s' events start steps k number =
      subst (λ es. AreSent k number (flat_map (bytes_from number) es) (flat_map (arrivals_for k number) s'.log)) (same-events k events)
      (shared-arrivals-are-sent s s' (map SharedEvent.Ours events) start (ours events s s' steps) k number)
