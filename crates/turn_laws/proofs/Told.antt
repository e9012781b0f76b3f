-- The machine tells the commands what came down; of one pair after another the workers' and clients' shadows stay.
use Rattle.std.proofs.Common.{◌≡◌, ◌≢◌, ◌⊎◌, inl, inr, ⊎_elim, ℕ, zero, suc, ◌<◌, ◌≤◌, ◌%◌, ◌==◌, Bool, true, false, List, [], ◌∷◌, ◌++◌, Some, None, refl, sym, ap, ◌∙◌, subst, arith, length}
use Rattle.std.specs.Prelude.{slice_get, slice_set, count_by, map, All, if◌then◌else◌}
use Rattle.std.specs.FinMap.{get}
use Rattle.std.proofs.lemmas.List.{append_assoc, append-nil}
use Rattle.std.proofs.lemmas.Bool.Decides.{eqb_tells}
use Rattle.key_split.specs.Same.{same_ticket, same_ticket-Decides}
use Rattle.key_split.specs.PartModel.{PartModel}
use Rattle.key_split.specs.Runs.{RunModel}
use Rattle.key_split.specs.declared.travel.Ticket.{Ticket}
use Rattle.command_future.specs.CommandModel.{CommandModel}
use Rattle.command_future.specs.declared.stage.Stage.TheVariants.{Awaits, WantsAsking}
use Rattle.slot_map.specs.Table.{Endpoint}
use Rattle.node_link.specs.LinkModel.{LinkModel}
use Rattle.proxy_turns.specs.ClientModel.{ClientModel}
use Rattle.proxy_turns.specs.WorkerModel.{WorkerModel, IsAbove}
use Rattle.proxy_turns.specs.CarrierModel.{CarrierModel}
use Rattle.world_laws.specs.State.{WorldModel, Link, after_told}
use Rattle.world_laws.specs.declared.state.Arrival.{Arrival}
use Rattle.world_laws.specs.Places.{total, is}
use Rattle.world_laws.proofs.Tally.{total-append, total-found, total-one}
use Rattle.world_laws.proofs.Placed.{Standing}
use Rattle.world_laws.proofs.Lives.{same_place}
use Rattle.world_laws.proofs.Recorded.{at-set, set-same, set-other}
use Rattle.turn_laws.specs.Wire.{Wire, Item, Asks, Runs, Lists}
use Rattle.turn_laws.specs.System.{System}
use Rattle.turn_laws.specs.Settling.{Tells, TellsAll}
use Rattle.turn_laws.specs.Shadow.{IsShadow, LinksShadow, OpenShadow, ClosedShadow, IsKnown, HasPart, RunShadow, IsUnnumbered, Numbers, IsIdle, ClientShadow}
use Rattle.turn_laws.specs.Underway.{Holds, downs_of}
use Rattle.turn_laws.proofs.Downs.{Pair, SameBag, OneMore, one_for, pair-is, pair-itself, bag-has, is-other}
use Rattle.turn_laws.proofs.Frames.{client-same}
use Rattle.turn_laws.proofs.AtLanes.{short}
use Rattle.turn_laws.proofs.Telling.{told-no, own-awaits, count-set, told-client}

-- no two commands have one ticket
abbrev pub AreOwn : List Arrival → Type 0
AreOwn commands = (i j : ℕ) (x y : Arrival) → slice_get commands i ≡ Some x → slice_get commands j ≡ Some y → x.command.ticket ≡ y.command.ticket → i ≡ j

pub own-placed : (w : WorldModel) → Standing w → AreOwn w.commands
own-placed w placed i j x y p q e = same_place w placed i j x y p q e

-- a command in place of one of its ticket
pub own-set : (commands : List Arrival) (j : ℕ) (x y : Arrival) → AreOwn commands → slice_get commands j ≡ Some x → y.command.ticket ≡ x.command.ticket → AreOwn (slice_set commands j y)
own-set commands j x y own at e a b c d p q same = ⊎_elim
    (λ (u : (a ≡ j) × (c ≡ y)). ⊎_elim
    (λ (v : (b ≡ j) × (d ≡ y)). u.0 ∙ sym v.0)
    (λ (v : (b ≢ j) × (slice_get commands b ≡ Some d)). u.0 ∙ own j b x d at v.1 (sym e ∙ ap (λ (z : Arrival). z.command.ticket) (sym u.1) ∙ same))
    (at-set commands j y b d q))
    (λ (u : (a ≢ j) × (slice_get commands a ≡ Some c)). ⊎_elim
    (λ (v : (b ≡ j) × (d ≡ y)). own a j c x u.1 at (same ∙ ap (λ (z : Arrival). z.command.ticket) v.1 ∙ e) ∙ sym v.0)
    (λ (v : (b ≢ j) × (slice_get commands b ≡ Some d)). own a b c d u.1 v.1 same)
    (at-set commands j y b d q))
    (at-set commands j y a c p)

-- one of a list with one more is that one, or was there
pub more-cases : (a b : List Pair) (p : Pair) → OneMore a p b → (i : ℕ) (q : Pair) → slice_get b i ≡ Some q → ((j : ℕ) × (slice_get a j ≡ Some q)) ⊎ (q ≡ p)
more-cases a b p more i q e = go (one_for q p) refl
  where
    go : (n : ℕ) → one_for q p ≡ n → ((j : ℕ) × (slice_get a j ≡ Some q)) ⊎ (q ≡ p)
    go zero z =
        let f = total-found (one_for q) a (omega (arith, z, more (one_for q), total-one (one_for q) b i q e, pair-itself q)) in
        inl (f.0, f.2 ∙ ap Some (pair-is q f.1 f.3))
    go (suc n) z = inr (sym (pair-is q p (omega (arith, z))))

module _ {C J : Type 0} where
  -- What is on its way down, the commands of the machine, and those of the workers fit.
  pub record Fitting (workers : List (WorkerModel C J)) (lanes dealt : ℕ) (downs : List Pair) (commands : List Arrival) : Type 0 where
    pub sides : length workers ≡ lanes
    pub own : AreOwn commands
    pub within : (i : ℕ) (pair : Pair) → slice_get downs i ≡ Some pair → pair.0.worker < lanes
    pub clients : (k : ℕ) (model : WorkerModel C J) (number : ℕ) (client : ClientModel C) → slice_get workers k ≡ Some model → get model.clients number ≡ Some client
        → (number % dealt ≡ k) × ClientShadow downs k number client commands
    pub unseen : (k : ℕ) (model : WorkerModel C J) (number : ℕ) → slice_get workers k ≡ Some model → number % dealt ≡ k → IsAbove model.newest number
        → (count_by (λ (c : Arrival). c.command.ticket.client == number) commands ≡ 0) × (get model.clients number ≡ None)
    pub once : (t : Ticket) → total (λ (p : Pair). is t p.0) downs ≤ 1
    pub awaited : (i : ℕ) (pair : Pair) → slice_get downs i ≡ Some pair → (d : CommandModel) × Holds workers pair.0 d × (d.stage ≡ Awaits)
    pub waiting : (j : ℕ) (c : Arrival) → slice_get commands j ≡ Some c → c.command.stage ≡ Awaits → Holds workers c.command.ticket c.command
    pub asking : (j : ℕ) (c : Arrival) (node : ℕ) → slice_get commands j ≡ Some c → c.command.stage ≡ WantsAsking node → (d : CommandModel) × Holds workers c.command.ticket d

  pub fitting : (s : System C J) (w : WorldModel) → Standing w → IsShadow s w → Fitting s.workers (length s.carrier.lanes) w.workers (downs_of s) w.commands
  fitting s w placed h = record {
    sides = h.sides;
    own = own-placed w placed;
    within = h.within;
    clients = h.clients;
    unseen = h.unseen;
    once = h.downs;
    awaited = h.awaited;
    waiting = h.waiting;
    asking = h.asking;
  }

  module _ (workers : List (WorkerModel C J)) (lanes dealt : ℕ) (downs : List Pair) (commands : List Arrival) (h : Fitting workers lanes dealt downs commands) where
    -- who holds a ticket's command is its worker
    pub holder : (t : Ticket) (d : CommandModel) → Holds workers t d → t.worker < lanes
    holder t d x =
        let client = x.3.0 in
        let shadow = (h.clients x.0 x.1 t.client client x.2 x.3.1).1 in
        let out = ((shadow.commands).posted t.part d x.3.2).1 in
        let mine : t.worker ≡ x.0 = ap (λ (u : Ticket). u.worker) (sym x.3.3) ∙ out.3 ∙ shadow.housed in
        omega (arith, short workers x.0 x.1 x.2, mine, h.sides)

    -- who awaits in the machine is told nothing yet
    pub none-down : (j : ℕ) (c : Arrival) → slice_get commands j ≡ Some c → c.command.stage ≡ Awaits → total (λ (p : Pair). is c.command.ticket p.0) downs ≡ 0
    none-down j c at awaits =
        let x = h.waiting j c at awaits in
        let shadow = (h.clients x.0 x.1 c.command.ticket.client x.3.0 x.2 x.3.1).1 in
        own-awaits downs x.3.0 c awaits ((shadow.commands).posted c.command.ticket.part c.command x.3.2).1 (shadow.parts j c at refl)

    pub tell-one : (pair : Pair) (downs' : List Pair) → OneMore downs pair downs' → (commands' : List Arrival) → Tells commands pair commands' → Fitting workers lanes dealt downs' commands'
    tell-one pair downs' more commands' tells =
        let j : ℕ = tells.0 in
        let c : Arrival = tells.1 in
        let at : slice_get commands j ≡ Some c = tells.2.1 in
        let one : c.command.ticket ≡ pair.0 = tells.3 in
        let awaits : c.command.stage ≡ Awaits = tells.4 in
        let now : commands' ≡ slice_set commands j (after_told c pair.1) = tells.5 in
        let held : Holds workers pair.0 c.command = subst (λ (t : Ticket). Holds workers t c.command) one (h.waiting j c at awaits) in
        let none : total (λ (p : Pair). is pair.0 p.0) downs ≡ 0 = subst (λ (t : Ticket). total (λ (p : Pair). is t p.0) downs ≡ 0) one (none-down j c at awaits) in
        subst (Fitting workers lanes dealt downs') (sym now) (record {
          sides = h.sides;
          own = own-set commands j c (after_told c pair.1) h.own at refl;
          within = λ i q e. ⊎_elim
              (λ (z : (n : ℕ) × (slice_get downs n ≡ Some q)). h.within z.0 q z.1)
              (λ (z : q ≡ pair). subst (λ (p : Pair). p.0.worker < lanes) (sym z) (holder pair.0 c.command held))
              (more-cases downs downs' pair more i q e);
          clients = λ k model number client p q.
              let t = h.clients k model number client p q in
              (t.0, told-client downs downs' pair.0 pair.1 more commands h.own k number client j c at one awaits t.1);
          unseen = λ k model number p e above.
              let none = h.unseen k model number p e above in
              (count-set (λ (x : Arrival). x.command.ticket.client == number) commands j c (after_told c pair.1) at refl ∙ none.0, none.1);
          once = λ t. one-each t (same_ticket t pair.0) refl none;
          awaited = λ i q e. ⊎_elim
              (λ (z : (n : ℕ) × (slice_get downs n ≡ Some q)). h.awaited z.0 q z.1)
              (λ (z : q ≡ pair). (c.command, subst (λ (p : Pair). Holds workers p.0 c.command) (sym z) held, awaits))
              (more-cases downs downs' pair more i q e);
          waiting = λ i x e still. ⊎_elim
              (λ (z : (i ≡ j) × (x ≡ after_told c pair.1)). absurd (told-no c.command pair.1 (ap (λ (y : Arrival). y.command.stage) (sym z.1) ∙ still)))
              (λ (z : (i ≢ j) × (slice_get commands i ≡ Some x)). h.waiting i x z.1 still)
              (at-set commands j (after_told c pair.1) i x e);
          asking = λ i x node e wants. ⊎_elim
              (λ (z : (i ≡ j) × (x ≡ after_told c pair.1)). (c.command, subst (λ (t : Ticket). Holds workers t c.command) (ap (λ (y : Arrival). y.command.ticket) (sym z.1)) (h.waiting j c at awaits)))
              (λ (z : (i ≢ j) × (slice_get commands i ≡ Some x)). h.asking i x node z.1 wants)
              (at-set commands j (after_told c pair.1) i x e);
        })
      where
        one-each : (t : Ticket) (b : Bool) → same_ticket t pair.0 ≡ b → total (λ (p : Pair). is pair.0 p.0) downs ≡ 0 → total (λ (p : Pair). is t p.0) downs' ≤ 1
        one-each t true e none =
            let same : t ≡ pair.0 = (same_ticket-Decides t pair.0).0 e in
            let zero' : total (λ (p : Pair). is t p.0) downs ≡ 0 = subst (λ (u : Ticket). total (λ (p : Pair). is u p.0) downs ≡ 0) (sym same) none in
            let once : is t pair.0 ≤ 1 = at-most-one t pair.0 in
            omega (arith, more (λ (p : Pair). is t p.0), zero', once)
          where
            at-most-one : (t u : Ticket) → is t u ≤ 1
            at-most-one t u = go (same_ticket t u)
              where
                go : (b : Bool) → (if b then 1 else 0) ≤ 1
                go true = omega arith
                go false = omega arith
        one-each t false e none = omega (arith, more (λ (p : Pair). is t p.0), h.once t, is-other t pair.0 (λ same. false-true (sym e ∙ (same_ticket-Decides t pair.0).1 same)))
          where
            false-true : false ≡ true → ⊥
            false-true x = cc

  -- one pair after another
  pub tell-all : (workers : List (WorkerModel C J)) (lanes dealt : ℕ) (pairs downs : List Pair) (commands commands' : List Arrival) → Fitting workers lanes dealt downs commands
      → TellsAll commands pairs commands' → Fitting workers lanes dealt (downs ++ pairs) commands'
  tell-all workers lanes dealt [] downs commands commands' h t = subst (Fitting workers lanes dealt (downs ++ [])) (sym t) (subst (λ ps. Fitting workers lanes dealt ps commands) (sym (append-nil downs)) h)
  tell-all workers lanes dealt (p ∷ ps) downs commands commands' h t =
      let mid = tell-one workers lanes dealt downs commands h p (downs ++ p ∷ []) (λ f. omega (arith, total-append f downs (p ∷ []))) t.0 t.1 in
      subst (λ qs. Fitting workers lanes dealt qs commands') (append_assoc downs (p ∷ []) ps) (tell-all workers lanes dealt ps (downs ++ p ∷ []) t.0 commands' mid t.2)

  -- the same pairs in another order
  pub fitting-same : (workers : List (WorkerModel C J)) (lanes dealt : ℕ) (a b : List Pair) (commands : List Arrival) → SameBag a b → Fitting workers lanes dealt a commands → Fitting workers lanes dealt b commands
  fitting-same workers lanes dealt a b commands bag h =
      let back : SameBag b a = λ f. sym (bag f) in
      record {
        sides = h.sides;
        own = h.own;
        within = λ i pair e. let x = bag-has b a back i pair e in h.within x.0 pair x.1;
        clients = λ k model number client p q. let t = h.clients k model number client p q in (t.0, client-same a b bag k number client commands t.1);
        unseen = h.unseen;
        once = λ t. omega (arith, h.once t, bag (λ (p : Pair). is t p.0));
        awaited = λ i pair e. let x = bag-has b a back i pair e in h.awaited x.0 pair x.1;
        waiting = h.waiting;
        asking = h.asking;
      }

-- ---- what the machine's commands are to lanes and links

-- what is seen of a command's arrival
abbrev pub seen_of : Arrival → Ticket × PartModel × ℕ
seen_of c = (c.command.ticket, c.command.part, c.arrived)

-- parts stay where they were, and what is seen of commands
pub record SameParts (old new : List Arrival) : Type 0 where
  pub parts : (t : Ticket) (part : PartModel) → HasPart old t part → HasPart new t part
  pub seen : map seen_of new ≡ map seen_of old

pub map-set : {X Y : Type 0} (f : X → Y) (xs : List X) (j : ℕ) (x y : X) → slice_get xs j ≡ Some x → f y ≡ f x → map f (slice_set xs j y) ≡ map f xs
map-set f [] j x y at e = refl
map-set f (z ∷ xs) zero x y at e = let same : z ≡ x = cc in ap (λ u. u ∷ map f xs) (e ∙ ap f (sym same))
map-set f (z ∷ xs) (suc j) x y at e = ap (λ us. f z ∷ us) (map-set f xs j x y at e)

pub parts-set : (commands : List Arrival) (j : ℕ) (x y : Arrival) → slice_get commands j ≡ Some x → y.command.ticket ≡ x.command.ticket → y.command.part ≡ x.command.part → y.arrived ≡ x.arrived → SameParts commands (slice_set commands j y)
parts-set commands j x y at ticket part arrived = record {
  parts = λ t p h. ⊎_elim
      (λ (z : ((h.0 == j) ≡ true) × (h.0 ≡ j)).
      let one : Some (h.1) ≡ Some x = sym h.2 ∙ ap (slice_get commands) z.1 ∙ at in
      let same : h.1 ≡ x = cc in
      (j, y, set-same commands j x y at, part ∙ sym (ap (λ (c : Arrival). c.command.part) same) ∙ h.3, ticket ∙ sym (ap (λ (c : Arrival). c.command.ticket) same) ∙ h.4))
      (λ (z : ((h.0 == j) ≡ false) × (h.0 ≢ j)). (h.0, h.1, set-other commands j y h.0 h.1 z.1 h.2, h.3, h.4))
      (eqb_tells h.0 j);
  seen = map-set seen_of commands j x y at (λ i. (ticket i, part i, arrived i));
}

pub parts-told : (pairs : List Pair) (commands commands' : List Arrival) → TellsAll commands pairs commands' → SameParts commands commands'
parts-told [] commands commands' t = subst (SameParts commands) (sym t) (record { parts = λ u p h. h; seen = refl })
parts-told (pair ∷ pairs) commands commands' t =
    let c : Arrival = t.1.1 in
    let one : SameParts commands t.0 = subst (SameParts commands) (sym t.1.5) (parts-set commands t.1.0 c (after_told c pair.1) t.1.2.1 refl refl refl) in
    let rest = parts-told pairs t.0 commands' t.2 in
    record { parts = λ u p h. rest.parts u p (one.parts u p h); seen = rest.seen ∙ one.seen }

-- parts stay where they were
abbrev pub PartsStay : List Arrival → List Arrival → Type 0
PartsStay old new = (t : Ticket) (part : PartModel) → HasPart old t part → HasPart new t part

known-still : (old new : List Arrival) → PartsStay old new → (items : List Item) → All (IsKnown old) items → All (IsKnown new) items
known-still old new same items h i r lt = one _ (h i r lt)
  where
    one : (r : Item) → IsKnown old r → IsKnown new r
    one Asks x = x
    one (Runs parts) x = λ n part lt. same _ _ (x n part lt)
    one Lists x = x

pub open-still : (table : List Endpoint) (old new : List Arrival) → PartsStay old new → (link : LinkModel Wire) (l : Link) → OpenShadow table old link l → OpenShadow table new link l
open-still table old new same link l h = record {
  node = h.node;
  wired = h.wired;
  is_open = h.is_open;
  asking = h.asking;
  requests = h.requests;
  known = known-still old new same link.port.items h.known;
  answered = h.answered;
  due = h.due;
  matched = h.matched;
  backs = h.backs;
}

pub closed-still : (old new : List Arrival) → PartsStay old new → (wire : Wire) (l : Link) → ClosedShadow old wire l → ClosedShadow new wire l
closed-still old new same wire l h = record {
  node = h.node;
  is_open = h.is_open;
  asking = h.asking;
  requests = h.requests;
  known = known-still old new same wire.items h.known;
  backs = h.backs;
}

pub lists-still : (old new : List Arrival) → PartsStay old new → (k : ℕ) (runs : List RunModel) → All (RunShadow old k) runs → All (RunShadow new k) runs
lists-still old new same k runs h i run lt =
    let x = h i run lt in
    (x.0, λ n batch within. let b = x.1 n batch within in (same _ _ b.0, b.1))

-- the links' shadow, as the machine's commands go on
pub links-told : {H : Type 0} (nodes : List Endpoint) (carrier : CarrierModel H Wire) (closed : List Wire) (opened : ℕ) (w w' : WorldModel) → w'.links ≡ w.links → PartsStay w.commands w'.commands
    → LinksShadow nodes carrier closed opened w → LinksShadow nodes carrier closed opened w'
links-told {H} nodes carrier closed opened w w' links same h = record {
  ids = h.ids;
  all = h.all ∙ sym (ap length links);
  below = h.below;
  once = h.once;
  backends = λ k link x.
      let b = h.backends k link x in (
        b.0,
        b.1,
        ⊎_elim
            (λ (z : (i : ℕ) × (l : Link) × Numbers h.ids link.port.id i × (slice_get w.links i ≡ Some l) × OpenShadow nodes w.commands link l).
            inl (z.0, z.1, z.2, ap (λ ls. slice_get ls z.0) links ∙ z.3, open-still nodes w.commands w'.commands same link z.1 z.4))
            (λ (z : IsUnnumbered h.ids link.port.id × IsIdle link). inr z)
            b.2,
      );
  wires = λ j wire x.
      let b = h.wires j wire x in (
        b.0,
        ⊎_elim
            (λ (z : (i : ℕ) × (l : Link) × Numbers h.ids wire.id i × (slice_get w.links i ≡ Some l) × ClosedShadow w.commands wire l).
            inl (z.0, z.1, z.2, ap (λ ls. slice_get ls z.0) links ∙ z.3, closed-still w.commands w'.commands same wire z.1 z.4))
            (λ z. inr z)
            b.1,
      );
  apart = h.apart;
  aside = h.aside;
  each = h.each;
  seen = h.seen;
}
