-- A client comes: the machine does nothing.
use Rattle.std.proofs.Common.{◌≡◌, ◌≢◌, ⊎_elim, ℕ, zero, suc, ◌-◌, ◌<◌, ◌%◌, ◌==◌, Bool, true, false, List, [], ◌∷◌, ◌++◌, Some, None, refl, sym, ap, ◌∙◌, subst, arith, length}
use Rattle.std.specs.Prelude.{slice_get, slice_set, Option, IsSome, All, cond, count_by}
use Rattle.std.proofs.lemmas.List.Sums.{sum_by-cons}
use Rattle.std.specs.FinMap.{FinMap, get, insert, get-insert, get-empty}
use Rattle.std.specs.Ordering.{nat_cmp, eq_by_cmp}
use Rattle.std.specs.Cmp.{nat_cmp_total}
use Rattle.resp_wire.specs.LimitsModel.{full}
use Rattle.key_split.specs.declared.travel.Ticket.{Ticket}
use Rattle.command_future.specs.CommandModel.{CommandModel}
use Rattle.std.proofs.lemmas.Bool.{false≢true}
use Rattle.session_order.specs.declared.queue.PartStage.TheVariants.{Out}
use Rattle.proxy_lanes.specs.declared.ring.Inlet.{Inlet}
use Rattle.proxy_lanes.specs.declared.ring.Outlet.{Outlet}
use Rattle.proxy_lanes.specs.Lane.{posted}
use Rattle.proxy_turns.specs.ClientModel.{ClientModel, new_client}
use Rattle.proxy_turns.specs.WorkerModel.{WorkerModel, IsAbove, Came}
use Rattle.world_laws.specs.declared.state.Arrival.{Arrival}
use Rattle.world_laws.proofs.Nodes.{set-size}
use Rattle.world_laws.proofs.Recorded.{at-set}
use Rattle.turn_laws.specs.System.{IsInStep, seat_of}
use Rattle.turn_laws.specs.Shadow.{ClientShadow}
use Rattle.turn_laws.specs.Underway.{Holds, downs_of, downs_in, down_in}
use Rattle.turn_laws.specs.Steps.{AtWorker}
use Rattle.turn_laws.specs.Refines.{Simulates}
use Rattle.turn_laws.proofs.Downs.{Pair}
use Rattle.turn_laws.proofs.Elements.{nothing-there}
use Rattle.turn_laws.proofs.Frames.{down-fits}
use Rattle.turn_laws.proofs.Bags.{refusals, debts}
use Rattle.turn_laws.proofs.Tables.{nat_eq_by, same_number}
use Rattle.turn_laws.proofs.AtWorkers.{put-cases, rings-same}
use Rattle.turn_laws.proofs.Walks.{walked-stands}
use Rattle.turn_laws.proofs.Told.{Fitting, fitting}
use Rattle.turn_laws.proofs.Clients.{worker-frame, unseen-step, held-in}
use Rattle.turn_laws.proofs.Ending.{none-some}

-- none is counted where there is none
counted : (p : Arrival → Bool) (xs : List Arrival) (j : ℕ) (c : Arrival) → slice_get xs j ≡ Some c → p c ≡ true → 0 < count_by p xs
counted p [] j c e f = absurd (cc)
counted p (x ∷ xs) zero c e f =
    let same : x ≡ c = cc in
    let one : cond {A = ℕ} (p x) 1 0 ≡ 1 = ap (λ b. cond {A = ℕ} b 1 0) (ap p same ∙ f) in
    omega (arith, sum_by-cons (λ a. cond (p a) 1 0) x xs, one)
counted p (x ∷ xs) (suc j) c e f = omega (arith, sum_by-cons (λ a. cond (p a) 1 0) x xs, counted p xs j c e f)

new-shadow : {C : Type 0} (downs : List Pair) (worker number : ℕ) (port : C) (arrivals : List Arrival) → count_by (λ (c : Arrival). c.command.ticket.client == number) arrivals ≡ 0
    → ClientShadow downs worker number (new_client worker number full port) arrivals
new-shadow {C} downs worker number port arrivals none = record {
  numbered = refl;
  housed = refl;
  all = λ here. none;
  read = λ here part lt. absurd (omega (arith, lt));
  stands = λ t out. absurd (nothing-there (t.part - 0) (Out out.0) out.2);
  homes = λ j c e n. absurd (nobody j c e n);
  parts = λ j c e n. absurd (nobody j c e n);
  commands = record {
    posted = λ m c e. absurd (none-some (get (new_client worker number full port).commands.posted m) c (get-empty nat_cmp m) e);
    fresh = λ c e. absurd (nothing-there e.0 c e.1);
    apart = λ i j c d p q e. absurd (nothing-there i c p);
  };
  owed = refl;
  ends = refl;
  quit = λ gone. absurd (false≢true gone);
}
  where
    nobody : (j : ℕ) (c : Arrival) → slice_get arrivals j ≡ Some c → c.command.ticket.client ≡ number → ⊥
    nobody j c e n = omega (arith, none, counted (λ (c : Arrival). c.command.ticket.client == number) arrivals j c e (ap (λ m. m == number) n ∙ same_number number))

beyond : {C : Type 0} (m : FinMap nat_cmp (ClientModel C)) (number n : ℕ) (client : ClientModel C) → number < n → get m n ≡ None → get (insert m number client) n ≡ None
beyond {C} m number n client lt none = go (eq_by_cmp nat_cmp n number) refl
  where
    go : (b : Bool) → eq_by_cmp nat_cmp n number ≡ b → get (insert m number client) n ≡ None
    go true e = absurd (omega (arith, nat_eq_by n number e, lt))
    go false e = get-insert nat_cmp_total m number client n ∙ ap (λ b. cond b (Some client) (get m n)) e ∙ none

above : (newest : Option ℕ) (number m : ℕ) → IsAbove newest number → number < m → IsAbove newest m
above None number m a lt = tt
above (Some n) number m a lt = omega (arith, a, lt)

module _ (C J : Type 0) where
  pub came : (k number : ℕ) → Simulates C J (AtWorker k (Came number))
  came k number s s' w h walked on =
      let d = on.does in
      let model : WorkerModel C J = on.old in
      let model' : WorkerModel C J = on.new in
      let e = d.6 in
      let is-new = d.4.1 in
      let client : ClientModel C = new_client model.worker number full (d.0).port in
      let inlet : model'.inlet ≡ model.inlet = ap (λ (x : WorkerModel C J). x.inlet) e in
      let put : model'.clients ≡ insert model.clients number client = ap (λ (x : WorkerModel C J). x.clients) e in
      let seat : seat_of model ≡ (k, w.workers) = h.numbered k model on.at in
      let home : model.worker ≡ k = ap (λ (x : ℕ × ℕ). x.0) seat in
      let dealt : number % w.workers ≡ k = ap (λ n. number % n) (sym (ap (λ (x : ℕ × ℕ). x.1) seat)) ∙ d.4.0.1 ∙ home in
      let fits = fitting s w (walked-stands w walked) h in
      let none = (h.unseen k model number on.at dealt is-new.0).0 in
      let shadow : ClientShadow (downs_of s) k number client w.commands = subst (λ n. ClientShadow (downs_of s) n number client w.commands) home (new-shadow (downs_of s) model.worker number (d.0).port w.commands none) in
      let rings : downs_in (slice_set s.workers k model') s.carrier.lanes ≡ downs_in s.workers s.carrier.lanes = rings-same s.workers s.carrier.lanes k model model' on.at (λ o. ap (down_in o) inlet) in
      let same : downs_of (record s { workers = slice_set s.workers k model' }) ≡ downs_of s = ap (λ ps. ps ++ refusals s.carrier.pending_runs ++ debts s.carrier.backends) rings in
      let here : (j : ℕ) → j ≡ k → slice_get s.workers j ≡ Some model = λ j z. ap (slice_get s.workers) z ∙ on.at in
      let held : (t : Ticket) (c : CommandModel) → Holds s.workers t c → Holds (slice_set s.workers k model') t c = λ t c x. held-in s.workers k model model' t c on.at
      (λ y. keeps model.clients model'.clients number client put is-new.1 t c y) x in
      let fits' : Fitting (slice_set s.workers k model') (length s.carrier.lanes) w.workers (downs_of s) w.commands = record {
        sides = set-size s.workers k model' ∙ fits.sides;
        own = fits.own;
        within = fits.within;
        clients = λ j f n x p q. ⊎_elim
            (λ (z : (j ≡ k) × (f ≡ model')). ⊎_elim
            (λ (y : (n ≡ number) × (x ≡ client)).
            (ap (λ m. m % w.workers) y.0 ∙ dealt ∙ sym z.0, subst (λ m. ClientShadow (downs_of s) m n x w.commands) (sym z.0) (subst (λ m. ClientShadow (downs_of s) k m x w.commands) (sym y.0) (subst (λ (c : ClientModel C). ClientShadow (downs_of s) k number c w.commands) (sym y.1) shadow))))
            (λ (y : get model.clients n ≡ Some x). fits.clients j model n x (here j z.0) y)
            (put-cases model.clients number client n x (sym (ap (λ m. get m n) put) ∙ ap (λ (m : WorkerModel C J). get m.clients n) (sym z.1) ∙ q)))
            (λ (z : (j ≢ k) × (slice_get s.workers j ≡ Some f)). fits.clients j f n x z.1 q)
            (at-set s.workers k model' j f p);
        unseen = λ j f n p x a. ⊎_elim
            (λ (z : (j ≡ k) × (f ≡ model')).
            let lt : number < n = subst (λ o. IsAbove o n) (ap (λ (y : WorkerModel C J). y.newest) z.1 ∙ ap (λ (y : WorkerModel C J). y.newest) e) a in
            let rest = fits.unseen j model n (here j z.0) x (above model.newest number n is-new.0 lt) in
            (rest.0, ap (λ (y : WorkerModel C J). get y.clients n) z.1 ∙ ap (λ m. get m n) put ∙ beyond model.clients number n client lt rest.1))
            (λ (z : (j ≢ k) × (slice_get s.workers j ≡ Some f)). fits.unseen j f n z.1 x a)
            (at-set s.workers k model' j f p);
        once = fits.once;
        awaited = λ i pair x. let a = fits.awaited i pair x in (a.0, held pair.0 a.0 a.1, a.2);
        waiting = λ j c x awaits. held c.command.ticket c.command (fits.waiting j c x awaits);
        asking = λ j c node x wants. let a = fits.asking j c node x wants in (a.0, held c.command.ticket a.0 a.1);
      } in
      unseen-step k (Came number) s s' w on on.seen
      (worker-frame s w h k model model' on.at (ap seat_of e) (ap (λ (x : WorkerModel C J). posted x.outlet) e)
      (λ lane q. subst (λ (i : Inlet Pair). ((o : Outlet Pair) → lane.down ≡ Some o → IsInStep o i) × All (λ (p : Pair). p.0.worker ≡ k) (down_in lane.down i) × IsSome lane.down) (sym inlet) (down-fits s w h k model lane on.at q))
      (subst (λ ps. Fitting (slice_set s.workers k model') (length s.carrier.lanes) w.workers ps w.commands) (sym same) fits'))
    where
      keeps : (m m' : FinMap nat_cmp (ClientModel C)) (number : ℕ) (client : ClientModel C) → m' ≡ insert m number client → get m number ≡ None → (t : Ticket) (c : CommandModel)
          → ((x : ClientModel C) × (get m t.client ≡ Some x) × (get x.commands.posted t.part ≡ Some c) × (c.ticket ≡ t))
          → (x : ClientModel C) × (get m' t.client ≡ Some x) × (get x.commands.posted t.part ≡ Some c) × (c.ticket ≡ t)
      keeps m m' number client put none t c x = go (eq_by_cmp nat_cmp t.client number) refl
        where
          there : get m' t.client ≡ cond (eq_by_cmp nat_cmp t.client number) (Some client) (get m t.client)
          there = ap (λ y. get y t.client) put ∙ get-insert nat_cmp_total m number client t.client

          go : (b : Bool) → eq_by_cmp nat_cmp t.client number ≡ b → (x : ClientModel C) × (get m' t.client ≡ Some x) × (get x.commands.posted t.part ≡ Some c) × (c.ticket ≡ t)
          go true e = absurd (none-some (get m t.client) x.0 (ap (get m) (nat_eq_by t.client number e) ∙ none) x.1)
          go false e = (x.0, there ∙ ap (λ b. cond b (Some client) (get m t.client)) e ∙ x.1, x.2, x.3)
