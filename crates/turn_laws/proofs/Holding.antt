-- What the machine's command is to the one that a worker holds, and that one that wants to ask is still held.
use Rattle.std.proofs.Common.{◌≡◌, ◌≢◌, ◌⊎◌, inl, inr, ⊎_elim, ℕ, ◌-◌, ◌<◌, ◌≤◌, ◌==◌, true, false, List, Some, None, refl, sym, ap, ◌∙◌, subst, arith}
use Rattle.std.specs.Prelude.{slice_get, slice_set, Option}
use Rattle.std.proofs.lemmas.Bool.Decides.{eqb_tells}
use Rattle.std.specs.FinMap.{get, insert}
use Rattle.key_split.specs.declared.travel.Ticket.{Ticket}
use Rattle.key_split.specs.declared.travel.Told.{Told}
use Rattle.key_split.specs.declared.travel.Ended.{Ended}
use Rattle.command_future.specs.CommandModel.{CommandModel, progress_told}
use Rattle.command_future.specs.declared.stage.Stage.{Stage}
use Rattle.command_future.specs.declared.stage.Stage.TheVariants.{Wants, WantsAsking, Awaits, Over}
use Rattle.session_order.specs.declared.queue.PartStage.{PartStage}
use Rattle.session_order.specs.declared.queue.PartStage.TheVariants.{Out}
use Rattle.session_order.specs.Steps.{IsHandedOut}
use Rattle.proxy_turns.specs.ClientModel.{ClientModel}
use Rattle.proxy_turns.specs.WorkerModel.{WorkerModel}
use Rattle.world_laws.specs.declared.state.Arrival.{Arrival}
use Rattle.world_laws.proofs.Recorded.{set-same, set-other}
use Rattle.turn_laws.specs.Shadow.{ClientShadow, KeptShadow, IsLetGo, StageShadow, HasCommand, IsAtFirst, ToldFrom}
use Rattle.turn_laws.specs.Underway.{HasPosted, Holds}
use Rattle.turn_laws.proofs.Downs.{Pair}
use Rattle.turn_laws.proofs.Tables.{put-same, put-other}
use Rattle.turn_laws.proofs.Told.{Fitting}

item-once : {X : Type 0} (xs : List X) (k : ℕ) (x y : X) → slice_get xs k ≡ Some x → slice_get xs k ≡ Some y → x ≡ y
item-once xs k x y p q = let one : Some x ≡ Some y = sym p ∙ q in cc

some-once : {X : Type 0} (o : Option X) (x y : X) → o ≡ Some x → o ≡ Some y → x ≡ y
some-once o x y p q = let one : Some x ≡ Some y = sym p ∙ q in cc

none-not-some : {X : Type 0} (o : Option X) (x : X) → o ≡ None → o ≡ Some x → ⊥
none-not-some o x p q = cc

-- a stage is one
pub plain-asks : (node : ℕ) → Wants None ≡ WantsAsking node → ⊥
plain-asks node e = cc

pub awaits-asks : (node : ℕ) → Awaits ≡ WantsAsking node → ⊥
awaits-asks node e = cc

over-asks : (s : Stage) (ended : Ended) (node : ℕ) → s ≡ Over ended → s ≡ WantsAsking node → ⊥
over-asks s ended node p q = cc

over-awaits : (s : Stage) (ended : Ended) → s ≡ Over ended → s ≡ Awaits → ⊥
over-awaits s ended p q = cc

-- what was posted still is, or has ended
abbrev pub StaysPosted : {C : Type 0} → ClientModel C → ClientModel C → Type 0
StaysPosted client client' =
    (part : ℕ) (d : CommandModel) → get client.commands.posted part ≡ Some d
    → ((d' : CommandModel) × (get client'.commands.posted part ≡ Some d') × (d'.ticket ≡ d.ticket)) ⊎ ((ended : Ended) × (d.stage ≡ Over ended))

-- what wants to ask did so before
abbrev pub AsksBefore : List Arrival → List Arrival → Type 0
AsksBefore old new =
    (i : ℕ) (a : Arrival) (node : ℕ) → slice_get new i ≡ Some a → a.command.stage ≡ WantsAsking node
    → (j : ℕ) × (d : Arrival) × (slice_get old j ≡ Some d) × (d.command ≡ a.command)

module _ {C J : Type 0} (workers : List (WorkerModel C J)) (lanes dealt : ℕ) (downs : List Pair) (commands : List Arrival) (h : Fitting workers lanes dealt downs commands) where
  -- one command of a ticket is held
  pub held-once : (t : Ticket) (a b : CommandModel) → Holds workers t a → Holds workers t b → a ≡ b
  held-once t a b x y =
      let mine = h.clients x.0 x.1 t.client x.3.0 x.2 x.3.1 in
      let yours = h.clients y.0 y.1 t.client y.3.0 y.2 y.3.1 in
      let place : x.0 ≡ y.0 = sym mine.0 ∙ yours.0 in
      let model : x.1 ≡ y.1 = item-once workers y.0 x.1 y.1 (ap (slice_get workers) (sym place) ∙ x.2) y.2 in
      let client : x.3.0 ≡ y.3.0 = some-once (get (y.1).clients t.client) x.3.0 y.3.0 (ap (λ (m : WorkerModel C J). get m.clients t.client) (sym model) ∙ x.3.1) y.3.1 in
      some-once (get (y.3.0).commands.posted t.part) a b (ap (λ (c : ClientModel C). get c.commands.posted t.part) (sym client) ∙ x.3.2) y.3.2

  module _ (j : ℕ) (c : Arrival) (d : CommandModel) (at : slice_get commands j ≡ Some c) (x : Holds workers c.command.ticket d) where
    abbrev client : ClientModel C
    client = x.3.0

    abbrev shadow : ClientShadow downs x.0 c.command.ticket.client client commands
    shadow = (h.clients x.0 x.1 c.command.ticket.client x.3.0 x.2 x.3.1).1

    out : IsHandedOut client.session c.command.ticket
    out = subst (IsHandedOut client.session) x.3.3 ((shadow.commands).posted c.command.ticket.part d x.3.2).1

    by-stage : (end : Ended) (slot : ℕ) → StageShadow downs client.gone client.commands (Out slot) end c → ToldFrom downs d c.command
    by-stage end slot y = ⊎_elim
        (λ (z : (e : CommandModel) × HasCommand client.commands c.command.ticket.part e × ToldFrom downs e c.command). ⊎_elim
        (λ (u : IsAtFirst client.commands z.0 × ((z.0).ticket.part ≡ c.command.ticket.part)).
        absurd (none-not-some (get client.commands.posted c.command.ticket.part) d (ap (get client.commands.posted) (sym u.1) ∙ ((shadow.commands).fresh z.0 u.0).2) x.3.2))
        (λ (u : get client.commands.posted c.command.ticket.part ≡ Some z.0).
        subst (λ (e : CommandModel). ToldFrom downs e c.command) (some-once (get client.commands.posted c.command.ticket.part) z.0 d u x.3.2) z.2)
        z.1)
        (λ z. absurd (none-not-some (get client.commands.posted c.command.ticket.part) d z.2 x.3.2))
        y.1

    -- the machine's command is the one that is held, told what comes down
    pub told-from : ToldFrom downs d c.command
    told-from = ⊎_elim
        (λ (y : KeptShadow downs client c). ⊎_elim
        (λ (z : (c.command.ticket.part < client.session.first) × (c.answered ≡ true) × ((ended : Ended) × (c.command.stage ≡ Over ended))).
        absurd (omega (arith, z.0, out.1)))
        (λ (z : (client.session.first ≤ c.command.ticket.part) × (c.answered ≡ false) × ((stage : PartStage) × (end : Ended)
        × (slice_get client.session.stages (c.command.ticket.part - client.session.first) ≡ Some stage)
        × (slice_get client.session.ends (c.command.ticket.part - client.session.first) ≡ Some end)
        × StageShadow downs client.gone client.commands stage end c)).
        let is-out : z.2.0 ≡ Out out.0 = item-once client.session.stages (c.command.ticket.part - client.session.first) z.2.0 (Out out.0) z.2.2 out.2 in
        by-stage z.2.1 out.0 (subst (λ (stage : PartStage). StageShadow downs client.gone client.commands stage z.2.1 c) is-out z.2.4))
        y)
        (λ (y : IsLetGo client c.command.ticket). absurd (y.1 out))
        (shadow.parts j c at refl)

  -- one that has ended does not ask in the machine
  over-asks-not : (j : ℕ) (c : Arrival) (d : CommandModel) (node : ℕ) (ended : Ended) → slice_get commands j ≡ Some c → Holds workers c.command.ticket d → d.stage ≡ Over ended → c.command.stage ≡ WantsAsking node → ⊥
  over-asks-not j c d node ended at x over wants = ⊎_elim
      (λ z. over-asks d.stage ended node over (ap (λ (u : CommandModel). u.stage) (sym z.0) ∙ wants))
      (λ (z : (told : Told) × (i : ℕ) × (slice_get downs i ≡ Some (d.ticket, told)) × (c.command ≡ progress_told d told)).
      let a = h.awaited z.1 (d.ticket, z.0) z.2 in
      let same : a.0 ≡ d = held-once c.command.ticket a.0 d (subst (λ (t : Ticket). Holds workers t a.0) x.3.3 a.1) x in
      over-awaits d.stage ended over (ap (λ (u : CommandModel). u.stage) (sym same) ∙ a.2))
      (told-from j c d at x)

  -- one client goes on: what wants to ask is held
  module _ (k number : ℕ) (model model' : WorkerModel C J) (client client' : ClientModel C) (at : slice_get workers k ≡ Some model) (got : get model.clients number ≡ Some client)
      (put : model'.clients ≡ insert model.clients number client') (stays : StaysPosted client client') where
    abbrev Still : Ticket → CommandModel → Type 0
    Still t d = ((d' : CommandModel) × Holds (slice_set workers k model') t d') ⊎ ((ended : Ended) × (d.stage ≡ Over ended))

    in-client : (t : Ticket) (d : CommandModel) → HasPosted model t d → Still t d
    in-client t d y = ⊎_elim
        (λ (z : ((t.client == number) ≡ true) × (t.client ≡ number)).
        let same : y.0 ≡ client = some-once (get model.clients number) y.0 client (ap (get model.clients) (sym z.1) ∙ y.1) got in
        ⊎_elim
        (λ (r : (d' : CommandModel) × (get client'.commands.posted t.part ≡ Some d') × (d'.ticket ≡ d.ticket)).
        inl (r.0, (k, model', set-same workers k model model' at, (client', ap (λ m. get m t.client) put ∙ ap (get (insert model.clients number client')) z.1 ∙ put-same model.clients number client', r.1, r.2 ∙ y.3))))
        (λ (r : (ended : Ended) × (d.stage ≡ Over ended)). inr r)
        (stays t.part d (ap (λ (c : ClientModel C). get c.commands.posted t.part) (sym same) ∙ y.2)))
        (λ (z : ((t.client == number) ≡ false) × (t.client ≢ number)).
        inl (d, (k, model', set-same workers k model model' at, (y.0, ap (λ m. get m t.client) put ∙ put-other model.clients number t.client client' z.1 ∙ y.1, y.2, y.3))))
        (eqb_tells t.client number)

    still-held : (t : Ticket) (d : CommandModel) → Holds workers t d → Still t d
    still-held t d x = ⊎_elim
        (λ (z : ((x.0 == k) ≡ true) × (x.0 ≡ k)).
        let same : x.1 ≡ model = item-once workers k x.1 model (ap (slice_get workers) (sym z.1) ∙ x.2) at in
        in-client t d (subst (λ (m : WorkerModel C J). HasPosted m t d) same x.3))
        (λ (z : ((x.0 == k) ≡ false) × (x.0 ≢ k)). inl (d, (x.0, x.1, set-other workers k model' x.0 x.1 z.1 x.2, x.3)))
        (eqb_tells x.0 k)

    pub asks-still : (j : ℕ) (c : Arrival) (node : ℕ) → slice_get commands j ≡ Some c → c.command.stage ≡ WantsAsking node → (d : CommandModel) × Holds (slice_set workers k model') c.command.ticket d
    asks-still j c node p wants =
        let a = h.asking j c node p wants in
        ⊎_elim (λ (z : (d' : CommandModel) × Holds (slice_set workers k model') c.command.ticket d'). z)
        (λ (z : (ended : Ended) × ((a.0).stage ≡ Over ended)). absurd (over-asks-not j c a.0 node z.0 p a.1 z.1 wants))
        (still-held c.command.ticket a.0 a.1)
