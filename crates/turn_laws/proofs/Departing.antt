-- A client that is done leaves: the machine does nothing.
use Rattle.std.proofs.Common.{◌≡◌, ⊎_elim, ℕ, ◌-◌, Bool, true, false, List, [], ◌∷◌, Some, None, refl, sym, ap, ◌∙◌, arith, length}
use Rattle.std.specs.Prelude.{slice_get, cond}
use Rattle.std.specs.FinMap.{FinMap, get, remove, get-remove, get-empty}
use Rattle.std.specs.Ordering.{nat_cmp, eq_by_cmp}
use Rattle.std.specs.Cmp.{nat_cmp_total}
use Rattle.key_split.specs.declared.travel.Ticket.{Ticket}
use Rattle.command_future.specs.CommandModel.{CommandModel}
use Rattle.session_order.specs.declared.queue.PartStage.TheVariants.{Out}
use Rattle.proxy_lanes.specs.Lane.{posted, taken}
use Rattle.proxy_turns.specs.Commands.{CommandsModel}
use Rattle.proxy_turns.specs.ClientModel.{ClientModel, IsDone, IsClientServed, IsLeft}
use Rattle.session_order.specs.Replies.{parts_of}
use Rattle.proxy_turns.specs.WorkerModel.{WorkerModel, Left}
use Rattle.world_laws.specs.State.{WorldModel}
use Rattle.world_laws.specs.declared.state.Arrival.{Arrival}
use Rattle.turn_laws.specs.System.{System, seat_of}
use Rattle.turn_laws.specs.Shadow.{IsShadow, ClientShadow}
use Rattle.turn_laws.specs.Underway.{downs_of}
use Rattle.turn_laws.specs.Steps.{WorkerStep}
use Rattle.turn_laws.proofs.Downs.{Pair}
use Rattle.turn_laws.proofs.Elements.{nothing-there}
use Rattle.turn_laws.proofs.AtWorkers.{alike-itself, still-there, worker-stutter}
use Rattle.turn_laws.proofs.Tables.{nat_eq_by}

-- a client that is done has no command that was posted
done-none : {C : Type 0} (downs : List Pair) (worker number : ℕ) (client : ClientModel C) (arrivals : List Arrival) → ClientShadow downs worker number client arrivals → IsDone client
    → (part : ℕ) (c : CommandModel) → get client.commands.posted part ≡ Some c → ⊥
done-none {C} downs worker number client arrivals h done part c e = ⊎_elim
    (λ (z : IsClientServed client).
    let none : length client.session.stages ≡ 0 = sym h.owed ∙ ap parts_of z.0.1 in
    let out = ((h.commands).posted part c e).1 in
    no-place client.session.stages (c.ticket.part - client.session.first) (Out out.0) none out.2)
    (λ (z : IsLeft client).
    let none : get client.commands.posted part ≡ None = ap (λ (cs : CommandsModel). get cs.posted part) z.1 ∙ get-empty nat_cmp part in
    some-none c (sym e ∙ none))
    done
  where
    no-place : {X : Type 0} (xs : List X) (i : ℕ) (x : X) → length xs ≡ 0 → slice_get xs i ≡ Some x → ⊥
    no-place [] i x n e = nothing-there i x e
    no-place (y ∷ xs) i x n e = absurd (omega (arith, n))

    some-none : (c : CommandModel) → Some c ≡ None → ⊥
    some-none c e = cc

module _ {C J : Type 0} where
  -- a client that is done leaves: its commands stay in the machine, as they ended
  pub left : (k number : ℕ) (s s' : System C J) (w : WorldModel) → IsShadow s w → WorkerStep s k (Left number) s' → IsShadow s' w
  left k number s s' w h on =
      let d = on.does in
      let e = d.4 in
      let gone = d.2 in
      let shadow = (h.clients k on.old number gone.0 on.at gone.1).1 in
      worker-stutter k (Left number) s s' w h on on.seen
      (record {
        worker = ap seat_of e;
        newest = ap (λ (x : WorkerModel C J). x.newest) e;
        posts = ap (λ (x : WorkerModel C J). posted x.outlet) e;
        takes = ap (λ (x : WorkerModel C J). taken x.inlet) e;
        clients = λ q t at. (t, still-there on.old.clients number q t (sym (ap (λ m. get m q) gone.4) ∙ at), alike-itself t);
        keeps = λ t c x. goes on.old.clients on.new.clients number gone.0 gone.1 gone.4
            (λ part y f. done-none (downs_of s) k number gone.0 w.commands shadow gone.2 part y f) t c x;
      })
    where
      goes : (m m' : FinMap nat_cmp (ClientModel C)) (number : ℕ) (client : ClientModel C) → get m number ≡ Some client → m' ≡ remove m number
          → ((part : ℕ) (c : CommandModel) → get client.commands.posted part ≡ Some c → ⊥)
          → (t : Ticket) (c : CommandModel) → ((x : ClientModel C) × (get m t.client ≡ Some x) × (get x.commands.posted t.part ≡ Some c) × (c.ticket ≡ t))
          → (x : ClientModel C) × (get m' t.client ≡ Some x) × (get x.commands.posted t.part ≡ Some c) × (c.ticket ≡ t)
      goes m m' number client at e none t c x = go (eq_by_cmp nat_cmp t.client number) refl
        where
          there : get m' t.client ≡ cond (eq_by_cmp nat_cmp t.client number) None (get m t.client)
          there = ap (λ y. get y t.client) e ∙ get-remove nat_cmp_total m number t.client

          go : (b : Bool) → eq_by_cmp nat_cmp t.client number ≡ b → (x : ClientModel C) × (get m' t.client ≡ Some x) × (get x.commands.posted t.part ≡ Some c) × (c.ticket ≡ t)
          go true f =
              let one : Some x.0 ≡ Some client = sym x.1 ∙ ap (get m) (nat_eq_by t.client number f) ∙ at in
              let same : x.0 ≡ client = cc in
              absurd (none t.part c (ap (λ (y : ClientModel C). get y.commands.posted t.part) (sym same) ∙ x.2))
          go false f = (x.0, there ∙ ap (λ b. cond b None (get m t.client)) f ∙ x.1, x.2, x.3)
