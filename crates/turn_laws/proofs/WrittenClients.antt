-- Each client of a worker is written a front of its output.
-- A number is used once: it is still to come, or its client is there, or its client has left.
use Rattle.std.proofs.Common.{◌≡◌, ◌≢◌, ◌⊎◌, inl, inr, ⊎_elim, ◌++◌, ◌∷◌, [], ◌<◌, List, ℕ, map, refl, ap, sym, subst, ◌∙◌, Option, Some, None, Bool, true, false, append_assoc, arith}
use Rattle.std.specs.Prelude.{nat_eq, slice_get, slice_set}
use Rattle.std.specs.List.{FoldsTo, flat_map}
use Rattle.std.specs.FinMap.{FinMap, get, insert, remove, get-empty}
use Rattle.std.specs.Ordering.{nat_cmp}
use Rattle.std.proofs.lemmas.List.{append-nil}
use Rattle.std.proofs.lemmas.Bool.{false≢true}
use Rattle.std.proofs.lemmas.Bool.Decides.{eqb_tells}
use Rattle.resp_wire.specs.Laws.{FrontIsFaulty, FrontIsWhole}
use Rattle.resp_wire.specs.LimitsModel.{full}
use Rattle.key_split.specs.declared.travel.Ticket.{Ticket}
use Rattle.key_split.specs.declared.travel.Told.{Told}
use Rattle.key_split.specs.declared.travel.Ended.{Ended}
use Rattle.session_order.specs.Life.{DrainsOutput}
use Rattle.proxy_turns.specs.Port.{Moves}
use Rattle.proxy_turns.specs.ClientModel.{ClientModel, new_client}
use Rattle.proxy_turns.specs.ClientTurn.{ClientEvent}
use Rattle.proxy_turns.specs.WorkerModel.{WorkerModel, WorkerEvent, Did, Finished, Took, FoundNone, Came, TurnedAway, FoundNobody, Left, WorkerDoes, IsAbove, Tells}
use Rattle.world_laws.proofs.Recorded.{at-set, set-other, set-same}
use Rattle.turn_laws.specs.System.{System}
use Rattle.turn_laws.specs.Steps.{SystemEvent, AtWorker, AtCarrier, Handed, AtNode, AtBroken, Thrown, Moved, SystemStep, WorkerStep}
use Rattle.turn_laws.specs.Sharing.{SharedEvent, SharedSystemStep}
use Rattle.turn_laws.specs.PortsMay.{any_moves}
use Rattle.turn_laws.specs.ClientSees.{bytes_from, bytes_to, ends_for, if_own, pulled_by, pushed_by}
use Rattle.turn_laws.specs.ClientOutput.{events_at, ClientsAreWritten, AllClientsAreWritten}
use Rattle.turn_laws.specs.Arrivals.{own_events_at}
use Rattle.turn_laws.proofs.Addresses.{led-frame}
use Rattle.turn_laws.proofs.ClientSees.{own, not-own}
use Rattle.turn_laws.proofs.OwnEvents.{ours, same-events}
use Rattle.turn_laws.proofs.Tables.{put-other, put-same}
use Rattle.turn_laws.proofs.Ending.{none-some, one-of, removed-other}
use Rattle.turn_laws.proofs.OutputFronts.{IsFront}
use Rattle.turn_laws.proofs.CommandsOut.{none-of, still-there}
use Rattle.turn_laws.proofs.ClientLives.{LivesOn, served-written, born, finishes, hears, lives-on, lives-written}

-- numbers rise: one that was not above the newest is not above the next
rises : (newest : Option ℕ) (next number : ℕ) → IsAbove newest next → (IsAbove newest number → ⊥) → next < number → ⊥
rises None next number above past less = past tt
rises (Some last) next number above past less = past (omega (arith, above, less))

none-written : IsFront [] [] []
none-written = (record { values = []; text = []; rest = []; spelled = refl; are = refl; faulted = false; fault = λ met. absurd (false≢true met) }, ([], refl))

module _ {C J : Type 0} (number : ℕ) where
  -- the client of this number is still to come,
  abbrev pub IsToCome : List ℕ → List (Ticket × Ended) → List ℕ → WorkerModel C J → Type 0
  IsToCome came ends went model = (get model.clients number ≡ None) × (came ≡ []) × (ends ≡ []) × (went ≡ [])

  -- or it is here,
  abbrev pub IsHere : List ℕ → List (Ticket × Ended) → List ℕ → WorkerModel C J → Type 0
  IsHere came ends went model = (IsAbove model.newest number → ⊥) × (client : ClientModel C) × (get model.clients number ≡ Some client) × LivesOn came ends went client

  -- or it has left
  abbrev pub HasLeft : List ℕ → List (Ticket × Ended) → List ℕ → WorkerModel C J → Type 0
  HasLeft came ends went model = (IsAbove model.newest number → ⊥) × (get model.clients number ≡ None) × IsFront came ends went

  -- one of these
  abbrev pub Stands : List ℕ → List (Ticket × Ended) → List ℕ → WorkerModel C J → Type 0
  Stands came ends went model = IsToCome came ends went model ⊎ (IsHere came ends went model ⊎ HasLeft came ends went model)

  stands-written : DrainsOutput → (came : List ℕ) (ends : List (Ticket × Ended)) (went : List ℕ) (model : WorkerModel C J) → Stands came ends went model → IsFront came ends went
  stands-written law came ends went model (inl (none, no-bytes, no-ends, no-more)) =
      subst (λ ws. IsFront came ends ws) (sym no-more) (subst (λ es. IsFront came es []) (sym no-ends) (subst (λ cs. IsFront cs [] []) (sym no-bytes) none-written))
  stands-written law came ends went model (inr (inl (past, client, there, lives))) = lives-written law came ends went client lives
  stands-written law came ends went model (inr (inr (past, none, w))) = w

  -- the same lists, by other words
  alter : (came came' : List ℕ) (ends ends' : List (Ticket × Ended)) (went went' : List ℕ) (model : WorkerModel C J) → came ≡ came' → ends ≡ ends' → went ≡ went' → Stands came ends went model → Stands came' ends' went' model
  alter came came' ends ends' went went' model p q r stands =
      subst (λ ws. Stands came' ends' ws model) r (subst (λ es. Stands came' es went model) q (subst (λ cs. Stands cs ends went model) p stands))

  -- the client of this number, which is here
  pub here-is : (came : List ℕ) (ends : List (Ticket × Ended)) (went : List ℕ) (model : WorkerModel C J) (client : ClientModel C) → get model.clients number ≡ Some client → Stands came ends went model
      → (IsAbove model.newest number → ⊥) × LivesOn came ends went client
  here-is came ends went model client at (inl (none, no-bytes, no-ends, no-more)) = absurd (none-some (get model.clients number) client none at)
  here-is came ends went model client at (inr (inl (past, was, there, lives))) =
      let one : Some was ≡ Some client = sym there ∙ at in
      let same : was ≡ client = cc in
      (past, subst (λ (x : ClientModel C). LivesOn came ends went x) same lives)
  here-is came ends went model client at (inr (inr (past, none, w))) = absurd (none-some (get model.clients number) client none at)

  -- another client changes, or none
  aside : (came : List ℕ) (ends : List (Ticket × Ended)) (went : List ℕ) (old new : WorkerModel C J) → get new.clients number ≡ get old.clients number
      → ((IsAbove old.newest number → ⊥) → IsAbove new.newest number → ⊥) → Stands came ends went old → Stands came ends went new
  aside came ends went old new same past (inl (none, no-bytes, no-ends, no-more)) = inl (same ∙ none, no-bytes, no-ends, no-more)
  aside came ends went old new same past (inr (inl (above, client, there, lives))) = inr (inl (past above, client, same ∙ there, lives))
  aside came ends went old new same past (inr (inr (above, none, w))) = inr (inr (past above, same ∙ none, w))

  -- nothing is seen of an event
  unseen : (came more : List ℕ) (ends told : List (Ticket × Ended)) (went out : List ℕ) (model : WorkerModel C J) → more ≡ [] → told ≡ [] → out ≡ [] → Stands came ends went model
      → Stands (came ++ more) (ends ++ told) (went ++ out) model
  unseen came more ends told went out model p q r stands =
      alter came (came ++ more) ends (ends ++ told) went (went ++ out) model (sym (append-nil came) ∙ ap (λ x. came ++ x) (sym p)) (sym (append-nil ends) ∙ ap (λ x. ends ++ x) (sym q))
      (sym (append-nil went) ∙ ap (λ x. went ++ x) (sym r)) stands

  module _ (moves : Moves C) (law : DrainsOutput) (whole : FrontIsWhole) (faulty : FrontIsFaulty) (came : List ℕ) (ends : List (Ticket × Ended)) (went : List ℕ) (old new : WorkerModel C J) where
    -- all is as it was, but for what is not seen
    as-it-was : new.clients ≡ old.clients → new.newest ≡ old.newest → Stands came ends went old → Stands (came ++ []) (ends ++ []) (went ++ []) new
    as-it-was clients newest stands =
        unseen came [] ends [] went [] new refl refl refl (aside came ends went old new (ap (λ (m : FinMap nat_cmp (ClientModel C)). get m number) clients) (λ past above. past (subst (λ o. IsAbove o number) newest above)) stands)

    did : (other : ℕ) (event : ClientEvent) → WorkerDoes moves old (Did other event) new → Stands came ends went old
        → Stands (came ++ if_own number other (pulled_by event)) (ends ++ []) (went ++ if_own number other (pushed_by event)) new
    did other event (client, client', at, does, is) stands = ⊎_elim
        (λ (z : (nat_eq other number ≡ true) × (other ≡ number)).
        let it = here-is came ends went old client (ap (get old.clients) (sym z.1) ∙ at) stands in
        let there : get new.clients number ≡ Some client' = ap (λ (x : WorkerModel C J). get x.clients number) is ∙ ap (λ k. get (insert old.clients k client') number) z.1 ∙ put-same old.clients number client' in
        let lives = lives-on moves law whole faulty came ends went event (record { client = client; outlet = old.outlet; view = old.view }) (record { client = client'; outlet = new.outlet; view = new.view }) does it.1 in
        alter (came ++ pulled_by event) (came ++ if_own number other (pulled_by event)) ends (ends ++ []) (went ++ pushed_by event) (went ++ if_own number other (pushed_by event)) new
        (ap (λ x. came ++ x) (sym (own number other (pulled_by event) z.0))) (sym (append-nil ends)) (ap (λ x. went ++ x) (sym (own number other (pushed_by event) z.0)))
        (inr (inl (λ above. it.0 (subst (λ o. IsAbove o number) (ap (λ (x : WorkerModel C J). x.newest) is) above), client', there, lives))))
        (λ (z : (nat_eq other number ≡ false) × (other ≢ number)).
        unseen came (if_own number other (pulled_by event)) ends [] went (if_own number other (pushed_by event)) new (not-own number other (pulled_by event) z.0) refl (not-own number other (pushed_by event) z.0)
        (aside came ends went old new (ap (λ (x : WorkerModel C J). get x.clients number) is ∙ put-other old.clients other number client' (λ e. z.1 (sym e)))
        (λ past above. past (subst (λ o. IsAbove o number) (ap (λ (x : WorkerModel C J). x.newest) is) above)) stands))
        (eqb_tells other number)

    finished : (other : ℕ) (ticket : Ticket) (end : Ended) → WorkerDoes moves old (Finished other ticket end) new → Stands came ends went old
        → Stands (came ++ []) (ends ++ if_own number other ((ticket, end) ∷ [])) (went ++ []) new
    finished other ticket end (client, client', at, does, is) stands = ⊎_elim
        (λ (z : (nat_eq other number ≡ true) × (other ≡ number)).
        let it = here-is came ends went old client (ap (get old.clients) (sym z.1) ∙ at) stands in
        let there : get new.clients number ≡ Some client' = ap (λ (x : WorkerModel C J). get x.clients number) is ∙ ap (λ k. get (insert old.clients k client') number) z.1 ∙ put-same old.clients number client' in
        alter came (came ++ []) (ends ++ (ticket, end) ∷ []) (ends ++ if_own number other ((ticket, end) ∷ [])) went (went ++ []) new
        (sym (append-nil came)) (ap (λ x. ends ++ x) (sym (own number other ((ticket, end) ∷ []) z.0))) (sym (append-nil went))
        (inr (inl (λ above. it.0 (subst (λ o. IsAbove o number) (ap (λ (x : WorkerModel C J). x.newest) is) above), client', there, finishes moves law whole faulty came ends went client client' ticket end does it.1))))
        (λ (z : (nat_eq other number ≡ false) × (other ≢ number)).
        unseen came [] ends (if_own number other ((ticket, end) ∷ [])) went [] new refl (not-own number other ((ticket, end) ∷ []) z.0) refl
        (aside came ends went old new (ap (λ (x : WorkerModel C J). get x.clients number) is ∙ put-other old.clients other number client' (λ e. z.1 (sym e)))
        (λ past above. past (subst (λ o. IsAbove o number) (ap (λ (x : WorkerModel C J). x.newest) is) above)) stands))
        (eqb_tells other number)

    took : (ticket : Ticket) (told : Told) (heard : Bool) → Tells old.clients ticket told heard new.clients → new.newest ≡ old.newest → Stands came ends went old → Stands (came ++ []) (ends ++ []) (went ++ []) new
    took ticket told true (client, client', at, heard, same, is) newest stands = unseen came [] ends [] went [] new refl refl refl (⊎_elim
        (λ (z : (nat_eq ticket.client number ≡ true) × (ticket.client ≡ number)).
        let it = here-is came ends went old client (ap (get old.clients) (sym z.1) ∙ at) stands in
        let there : get new.clients number ≡ Some client' = ap (λ (m : FinMap nat_cmp (ClientModel C)). get m number) is ∙ ap (λ k. get (insert old.clients k client') number) z.1 ∙ put-same old.clients number client' in
        inr (inl (λ above. it.0 (subst (λ o. IsAbove o number) newest above), client', there, hears came ends went client client' ticket told heard same it.1)))
        (λ (z : (nat_eq ticket.client number ≡ false) × (ticket.client ≢ number)).
        aside came ends went old new (ap (λ (m : FinMap nat_cmp (ClientModel C)). get m number) is ∙ put-other old.clients ticket.client number client' (λ e. z.1 (sym e)))
        (λ past above. past (subst (λ o. IsAbove o number) newest above)) stands)
        (eqb_tells ticket.client number))
    took ticket told false (deaf, is) newest stands = as-it-was is newest stands

    comes : (other : ℕ) → WorkerDoes moves old (Came other) new → Stands came ends went old → Stands (came ++ []) (ends ++ []) (went ++ []) new
    comes other (newcomer, takes, numbered, one, may, learns, is) stands = unseen came [] ends [] went [] new refl refl refl (⊎_elim
        (λ (z : (nat_eq other number ≡ true) × (other ≡ number)).
        let there : get new.clients number ≡ Some (new_client old.worker other full newcomer.port) =
        ap (λ (x : WorkerModel C J). get x.clients number) is ∙ ap (λ k. get (insert old.clients k (new_client old.worker other full newcomer.port)) number) z.1 ∙ put-same old.clients number (new_client old.worker other full newcomer.port) in
        let newest : new.newest ≡ Some other = ap (λ (x : WorkerModel C J). x.newest) is in
        begins other newcomer.port z.1 newest there (subst (IsAbove old.newest) z.1 may.1.0) stands)
        (λ (z : (nat_eq other number ≡ false) × (other ≢ number)).
        aside came ends went old new (ap (λ (x : WorkerModel C J). get x.clients number) is ∙ put-other old.clients other number (new_client old.worker other full newcomer.port) (λ e. z.1 (sym e)))
        (λ past above. rises old.newest other number may.1.0 past (subst (λ o. IsAbove o number) (ap (λ (x : WorkerModel C J). x.newest) is) above)) stands)
        (eqb_tells other number))
      where
        begins : (other : ℕ) (port : C) → other ≡ number → new.newest ≡ Some other → get new.clients number ≡ Some (new_client old.worker other full port) → IsAbove old.newest number → Stands came ends went old
            → Stands came ends went new
        begins other port same newest there above (inl (none, no-bytes, no-ends, no-more)) =
            let past : IsAbove new.newest number → ⊥ = λ is. below other (subst (λ o. IsAbove o number) newest is) same in
            alter [] came [] ends [] went new (sym no-bytes) (sym no-ends) (sym no-more) (inr (inl (past, new_client old.worker other full port, there, born old.worker other port)))
          where
            below : (n : ℕ) → n < number → n ≡ number → ⊥
            below n less same = omega (arith, less, same)
        begins other port same newest there above (inr (inl (past, client, at, lives))) = absurd (past above)
        begins other port same newest there above (inr (inr (past, none, w))) = absurd (past above)

    leaves : (other : ℕ) → WorkerDoes moves old (Left other) new → Stands came ends went old → Stands (came ++ []) (ends ++ []) (went ++ []) new
    leaves other (last, port, (client, at, done, ported, gone), closed, is) stands = unseen came [] ends [] went [] new refl refl refl (⊎_elim
        (λ (z : (nat_eq other number ≡ true) × (other ≡ number)).
        let it = here-is came ends went old client (ap (get old.clients) (sym z.1) ∙ at) stands in
        let none : get new.clients number ≡ None =
        ap (λ (m : FinMap nat_cmp (ClientModel C)). get m number) gone ∙ ap (λ k. get (remove old.clients k) number) z.1 ∙ none-of (get (remove old.clients number) number) (λ c there. (still-there old.clients number number c there).1 refl) in
        inr (inr (λ above. it.0 (subst (λ o. IsAbove o number) (ap (λ (x : WorkerModel C J). x.newest) is) above), none, lives-written law came ends went client it.1)))
        (λ (z : (nat_eq other number ≡ false) × (other ≢ number)).
        aside came ends went old new (ap (λ (m : FinMap nat_cmp (ClientModel C)). get m number) gone ∙ removed-other old.clients other number (λ e. z.1 (sym e)))
        (λ past above. past (subst (λ o. IsAbove o number) (ap (λ (x : WorkerModel C J). x.newest) is) above)) stands)
        (eqb_tells other number))

    one-event : (event : WorkerEvent) → WorkerDoes moves old event new → Stands came ends went old → Stands (came ++ bytes_from number event) (ends ++ ends_for number event) (went ++ bytes_to number event) new
    one-event (Did other event) does stands = did other event does stands
    one-event (Finished other ticket end) does stands = finished other ticket end does stands
    one-event (Took ticket told) (takes, (heard, tells), is) stands = took ticket told heard tells (ap (λ (x : WorkerModel C J). x.newest) is) stands
    one-event FoundNone (takes, is) stands = as-it-was (ap (λ (x : WorkerModel C J). x.clients) is) (ap (λ (x : WorkerModel C J). x.newest) is) stands
    one-event (Came other) does stands = comes other does stands
    one-event (TurnedAway other) does stands = as-it-was (ap (λ (x : WorkerModel C J). x.clients) does.8) (ap (λ (x : WorkerModel C J). x.newest) does.8) stands
    one-event FoundNobody (takes, is) stands = as-it-was (ap (λ (x : WorkerModel C J). x.clients) is) (ap (λ (x : WorkerModel C J). x.newest) is) stands
    one-event (Left other) does stands = leaves other does stands

  module _ (moves : Moves C) (law : DrainsOutput) (whole : FrontIsWhole) (faulty : FrontIsFaulty) where
    pub all-events : (events : List WorkerEvent) (came : List ℕ) (ends : List (Ticket × Ended)) (went : List ℕ) (old new : WorkerModel C J) → FoldsTo (WorkerDoes moves) old events new → Stands came ends went old
        → Stands (came ++ flat_map (bytes_from number) events) (ends ++ flat_map (ends_for number) events) (went ++ flat_map (bytes_to number) events) new
    all-events [] came ends went old new same stands = unseen came [] ends [] went [] new refl refl refl (subst (λ (x : WorkerModel C J). Stands came ends went x) same stands)
    all-events (event ∷ events) came ends went old new (mid, does, more) stands =
        alter _ _ _ _ _ _ new (append_assoc came (bytes_from number event) (flat_map (bytes_from number) events)) (append_assoc ends (ends_for number event) (flat_map (ends_for number) events))
        (append_assoc went (bytes_to number event) (flat_map (bytes_to number) events))
        (all-events events (came ++ bytes_from number event) (ends ++ ends_for number event) (went ++ bytes_to number event) mid new more (one-event moves law whole faulty came ends went old mid event does stands))

-- ---- a system's worker

-- this step is none of a worker
abbrev pub IsNoWorkers : SystemEvent → Type 0
IsNoWorkers (AtWorker k event) = ⊥
IsNoWorkers event = Unit {0}

module _ {C J : Type 0} where
  -- the workers of a system
  abbrev workers_of : System C J → List (WorkerModel C J)
  workers_of s = s.workers

  -- so it leaves all of them
  pub workers-stay : (event : SystemEvent) (s s' : System C J) → IsNoWorkers event → SystemStep s event s' → s'.workers ≡ s.workers
  workers-stay (AtWorker k event) s s' none step = absurd none
  workers-stay (AtCarrier event) s s' none step = ap workers_of step.leaves
  workers-stay (Handed k number) s s' none step = ap workers_of step.4
  workers-stay (AtNode k verdict) s s' none step = ap workers_of step.10
  workers-stay (AtBroken j verdict) s s' none step = ap workers_of step.7
  workers-stay (Thrown j) s s' none step = ap workers_of step.2
  workers-stay (Moved event) s s' none step = ap workers_of step.1

  -- worker k does these events, up to this
  abbrev pub Does : WorkerModel C J → Option (WorkerModel C J) → List WorkerEvent → Type 0
  Does last o events = (old : WorkerModel C J) × (o ≡ Some old) × FoldsTo (WorkerDoes any_moves) old events last

  pub other-place : (xs : List (WorkerModel C J)) (j k : ℕ) (x : WorkerModel C J) → j ≢ k → slice_get (slice_set xs j x) k ≡ slice_get xs k
  other-place xs j k x ne = by (slice_get xs k) refl
    where
      by : (o : Option (WorkerModel C J)) → slice_get xs k ≡ o → slice_get (slice_set xs j x) k ≡ slice_get xs k
      by (Some y) is = set-other xs j x k y (λ e. ne (sym e)) is ∙ sym is
      by None is =
          none-of (slice_get (slice_set xs j x) k)
          (λ y at. ⊎_elim (λ (z : (k ≡ j) × (y ≡ x)). ne (sym z.0)) (λ (z : (k ≢ j) × (slice_get xs k ≡ Some y)). none-some (slice_get xs k) y is z.1) (at-set xs j x k y at)) ∙ sym is

  -- an event of its own is the first of those that follow
  its-own : (last old next : WorkerModel C J) (event : WorkerEvent) (events : List WorkerEvent) → WorkerDoes any_moves old event next → Does last (Some next) events → Does last (Some old) (event ∷ events)
  its-own last old next event events does d =
      let same : d.0 ≡ next = one-of (Some next) d.0 next d.1 refl in
      (old, refl, (next, does, subst (λ (x : WorkerModel C J). FoldsTo (WorkerDoes any_moves) x events last) same d.2))

  at-worker : (k j : ℕ) (last : WorkerModel C J) (event : WorkerEvent) (events : List WorkerEvent) (s s' : System C J) → WorkerStep s j event s' → Does last (slice_get s'.workers k) events
      → Does last (slice_get s.workers k) (if_own k j (event ∷ []) ++ events)
  at-worker k j last event events s s' step more = ⊎_elim
      (λ (z : (nat_eq j k ≡ true) × (j ≡ k)).
      let now : slice_get s'.workers k ≡ Some step.new = ap (λ (x : System C J). slice_get x.workers k) step.leaves ∙ ap (slice_get (slice_set s.workers j step.new)) (sym z.1) ∙ set-same s.workers j step.old step.new step.at in
      let was : slice_get s.workers k ≡ Some step.old = ap (slice_get s.workers) (sym z.1) ∙ step.at in
      subst (λ es. Does last (slice_get s.workers k) (es ++ events)) (sym (own k j (event ∷ []) z.0))
      (subst (λ o. Does last o (event ∷ events)) (sym was) (its-own last step.old step.new event events step.does (subst (λ o. Does last o events) now more))))
      (λ (z : (nat_eq j k ≡ false) × (j ≢ k)).
      let same : slice_get s'.workers k ≡ slice_get s.workers k = ap (λ (x : System C J). slice_get x.workers k) step.leaves ∙ other-place s.workers j k step.new z.1 in
      subst (λ es. Does last (slice_get s.workers k) (es ++ events)) (sym (not-own k j (event ∷ []) z.0)) (subst (λ o. Does last o events) same more))
      (eqb_tells j k)

  quiet : (k : ℕ) (last : WorkerModel C J) (event : SystemEvent) (events : List WorkerEvent) (s s' : System C J) → IsNoWorkers event → SystemStep s event s' → Does last (slice_get s'.workers k) events
      → Does last (slice_get s.workers k) events
  quiet k last event events s s' none step more = subst (λ (ws : List (WorkerModel C J)). Does last (slice_get ws k) events) (workers-stay event s s' none step) more

  pub shared-steps : (k : ℕ) (last : WorkerModel C J) (events : List SharedEvent) (s s' : System C J) → FoldsTo SharedSystemStep s events s' → slice_get s'.workers k ≡ Some last
      → Does last (slice_get s.workers k) (flat_map (own_events_at k) events)
  shared-steps k last [] s s' same at = (last, ap (λ (x : System C J). slice_get x.workers k) same ∙ at, refl)
  shared-steps k last (SharedEvent.Ours (AtWorker j event) ∷ events) s s' (mid, step, more) at = at-worker k j last event (flat_map (own_events_at k) events) s mid step (shared-steps k last events mid s' more at)
  shared-steps k last (SharedEvent.Ours (AtCarrier event) ∷ events) s s' (mid, step, more) at = quiet k last (AtCarrier event) (flat_map (own_events_at k) events) s mid tt step (shared-steps k last events mid s' more at)
  shared-steps k last (SharedEvent.Ours (Handed j number) ∷ events) s s' (mid, step, more) at = quiet k last (Handed j number) (flat_map (own_events_at k) events) s mid tt step (shared-steps k last events mid s' more at)
  shared-steps k last (SharedEvent.Ours (AtNode j verdict) ∷ events) s s' (mid, step, more) at = quiet k last (AtNode j verdict) (flat_map (own_events_at k) events) s mid tt step (shared-steps k last events mid s' more at)
  shared-steps k last (SharedEvent.Ours (AtBroken j verdict) ∷ events) s s' (mid, step, more) at = quiet k last (AtBroken j verdict) (flat_map (own_events_at k) events) s mid tt step (shared-steps k last events mid s' more at)
  shared-steps k last (SharedEvent.Ours (Thrown j) ∷ events) s s' (mid, step, more) at = quiet k last (Thrown j) (flat_map (own_events_at k) events) s mid tt step (shared-steps k last events mid s' more at)
  shared-steps k last (SharedEvent.Ours (Moved event) ∷ events) s s' (mid, step, more) at = quiet k last (Moved event) (flat_map (own_events_at k) events) s mid tt step (shared-steps k last events mid s' more at)
  shared-steps k last (SharedEvent.Led event ∷ events) s s' (mid, step, more) at =
      subst (λ (ws : List (WorkerModel C J)). Does last (slice_get ws k) (flat_map (own_events_at k) events)) (led-frame event s mid step).workers (shared-steps k last events mid s' more at)
  shared-steps k last (SharedEvent.Theirs node asking done ∷ events) s s' (mid, step, more) at =
      subst (λ (ws : List (WorkerModel C J)). Does last (slice_get ws k) (flat_map (own_events_at k) events)) (ap workers_of step.1) (shared-steps k last events mid s' more at)

  pub all-steps : (k : ℕ) (last : WorkerModel C J) (events : List SystemEvent) (s s' : System C J) → FoldsTo SystemStep s events s' → slice_get s'.workers k ≡ Some last
      → Does last (slice_get s.workers k) (flat_map (events_at k) events)
  all-steps k last events s s' steps at =
      subst (Does last (slice_get s.workers k)) (same-events k events) (shared-steps k last (map SharedEvent.Ours events) s s' (ours events s s' steps) at)

module _ (C J : Type 0) where
  pub clients-are-written : DrainsOutput → FrontIsWhole → FrontIsFaulty → ClientsAreWritten C J
  clients-are-written law whole faulty old new events none does = record {
    front = λ number. stands-written number law _ _ _ new (stands number);
    whole = λ number client at still served. served-written law _ _ _ client still served (here-is number _ _ _ new client at (stands number)).1;
  }
    where
      stands : (number : ℕ) → Stands number (flat_map (bytes_from number) events) (flat_map (ends_for number) events) (flat_map (bytes_to number) events) new
      stands number = all-events number any_moves law whole faulty events [] [] [] old new does (inl (ap (λ (m : FinMap nat_cmp (ClientModel C)). get m number) none ∙ get-empty nat_cmp number, refl, refl, refl))

  pub all-clients-are-written : DrainsOutput → FrontIsWhole → FrontIsFaulty → AllClientsAreWritten C J
  all-clients-are-written law whole faulty s s' events start steps k model at =
      let (old, was, does) = all-steps k model events s s' steps at in
      clients-are-written law whole faulty old model (flat_map (events_at k) events) (start.idle k old was).1 does
