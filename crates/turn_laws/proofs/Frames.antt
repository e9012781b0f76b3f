-- What the shadow needs of a step that the machine does not see.
use Rattle.std.proofs.Common.{◌≡◌, ◌≢◌, inl, inr, ⊎_elim, ℕ, zero, suc, ◌<◌, ◌≤◌, ◌-◌, Bool, true, false, List, [], ◌∷◌, Some, None, refl, sym, ap, ◌∙◌, subst, arith, length}
use Rattle.std.specs.Prelude.{slice_get, slice_set, IsSome, All, map}
use mathlib.Core.List.{IsPrefix}
use Rattle.std.proofs.lemmas.Bool.{false≢true}
use Rattle.key_split.specs.declared.travel.Ended.{Ended}
use Rattle.command_future.specs.CommandModel.{CommandModel}
use Rattle.command_future.specs.declared.stage.Stage.TheVariants.{Over}
use Rattle.slot_map.specs.Table.{Endpoint}
use Rattle.node_link.specs.LinkModel.{LinkModel}
use Rattle.session_order.specs.declared.queue.PartStage.{PartStage}
use Rattle.session_order.specs.declared.queue.PartStage.TheVariants.{Waiting, Out, Done}
use Rattle.proxy_lanes.specs.declared.ends.lane_ends.LaneEnds.{LaneEnds}
use Rattle.proxy_turns.specs.declared.newcomer.Newcomer.{Newcomer}
use Rattle.key_split.specs.Runs.{RunModel}
use Rattle.proxy_turns.specs.declared.pending_run.PendingRun.{PendingRun}
use Rattle.world_laws.proofs.Recorded.{at-set}
use Rattle.proxy_turns.specs.declared.backend.Backend.{Backend}
use Rattle.proxy_turns.specs.Commands.{CommandsModel}
use Rattle.proxy_turns.specs.ClientModel.{ClientModel}
use Rattle.proxy_turns.specs.WorkerModel.{WorkerModel}
use Rattle.proxy_turns.specs.CarrierModel.{CarrierModel, CarrierEvent}
use Rattle.world_laws.specs.State.{WorldModel, Link}
use Rattle.world_laws.specs.declared.history.Answer.{Answer}
use Rattle.world_laws.specs.declared.state.Arrival.{Arrival}
use Rattle.world_laws.specs.Places.{is}
use Rattle.turn_laws.specs.Wire.{Wire}
use Rattle.turn_laws.specs.System.{System, Mark}
use Rattle.turn_laws.specs.Shadow.{IsShadow, LinksShadow, LogShadow, UpsShadow, ClientShadow, KeptShadow, IsLetGo, StageShadow, HasCommand, ToldFrom, AreSeated, SeenIn}
use Rattle.turn_laws.specs.Underway.{IsWorking, DownInStep, Holds, downs_of, down_in}
use Rattle.turn_laws.specs.Endpoints.{AreApart, most_nodes}
use Rattle.turn_laws.specs.Steps.{CarrierStep, Breaks, FailsAt, opened_by}
use Rattle.turn_laws.proofs.Downs.{Pair, SameBag, bag-has, told-same}
use Rattle.turn_laws.proofs.Listed.{still-listed}
use Rattle.turn_laws.proofs.Seen.{seen-works}

-- a list as long as another has an item at each of its places
pub beside : {X Y : Type 0} (xs : List X) (ys : List Y) (i : ℕ) (y : Y) → length xs ≡ length ys → slice_get ys i ≡ Some y → (x : X) × (slice_get xs i ≡ Some x)
beside [] [] i y e at = absurd (cc)
beside [] (z ∷ ys) i y e at = absurd (omega (arith, e))
beside (x ∷ xs) [] i y e at = absurd (omega (arith, e))
beside (x ∷ xs) (z ∷ ys) zero y e at = (x, refl)
beside (x ∷ xs) (z ∷ ys) (suc i) y e at = beside xs ys i y (omega (arith, e)) at

-- a part's shadow over another list with the same items
stage-same : (a b : List Pair) → SameBag a b → (gone : Bool) (commands : CommandsModel) (stage : PartStage) (end : Ended) (c : Arrival)
    → StageShadow a gone commands stage end c → StageShadow b gone commands stage end c
stage-same a b same gone commands (Waiting part) end c h = h
stage-same a b same gone commands (Out slot) end c h = (
  h.0,
  ⊎_elim
      (λ (x : (d : CommandModel) × HasCommand commands c.command.ticket.part d × ToldFrom a d c.command). inl (x.0, x.1, told-same a b same x.0 c.command x.2))
      (λ x. inr x)
      h.1,
)
stage-same a b same gone commands Done end c h = h

kept-same : {C : Type 0} (a b : List Pair) → SameBag a b → (client : ClientModel C) (c : Arrival) → KeptShadow a client c → KeptShadow b client c
kept-same {C} a b same client c h = ⊎_elim
    (λ (x : (c.command.ticket.part < client.session.first) × (c.answered ≡ true) × ((ended : Ended) × (c.command.stage ≡ Over ended))). inl x)
    (λ (x : (client.session.first ≤ c.command.ticket.part) × (c.answered ≡ false) × ((stage : PartStage) × (end : Ended)
    × (slice_get client.session.stages (c.command.ticket.part - client.session.first) ≡ Some stage)
    × (slice_get client.session.ends (c.command.ticket.part - client.session.first) ≡ Some end)
    × StageShadow a client.gone client.commands stage end c)).
    inr (x.0, x.1, (x.2.0, x.2.1, x.2.2, x.2.3, stage-same a b same client.gone client.commands x.2.0 x.2.1 c x.2.4)))
    h

pub client-same : {C : Type 0} (a b : List Pair) → SameBag a b → (worker number : ℕ) (client : ClientModel C) (arrivals : List Arrival)
    → ClientShadow a worker number client arrivals → ClientShadow b worker number client arrivals
client-same {C} a b same worker number client arrivals h = record {
  numbered = h.numbered;
  housed = h.housed;
  all = h.all;
  read = h.read;
  stands = h.stands;
  homes = h.homes;
  parts = λ j c e n. ⊎_elim (λ (x : KeptShadow a client c). inl (kept-same a b same client c x)) (λ (x : IsLetGo client c.command.ticket). inr x) (h.parts j c e n);
  commands = h.commands;
  owed = h.owed;
  ends = h.ends;
  quit = h.quit;
}

-- the log, some events later
pub log-later : (log : List Mark) (w w' : WorldModel) → w'.commands ≡ w.commands → w'.history ≡ w.history → w'.answers ≡ w.answers → w.moment ≤ w'.moment → LogShadow log w → LogShadow log w'
log-later log w w' commands history answers later h = record {
  clock = h.clock;
  rises = h.rises;
  past = λ i lt. omega (arith, h.past i lt, later);
  arrived = h.arrived ∙ ap (map (λ (c : Arrival). (c.command.ticket, c.command.part, c.arrived))) (sym commands);
  executed = h.executed ∙ sym history;
  answered = h.answered ∙ ap (map (λ (a : Answer). (a.ticket, a.ended, a.answered))) (sym answers);
}

module _ {C J : Type 0} where
  -- backends whose links are the old ones
  abbrev pub SameLinks : System C J → System C J → Type 0
  SameLinks s s' = (k : ℕ) (backend' : Backend Wire) (link : LinkModel Wire) → slice_get s'.carrier.backends k ≡ Some backend' → backend'.link ≡ Some link
      → (backend : Backend Wire) × (slice_get s.carrier.backends k ≡ Some backend) × (backend.link ≡ Some link)

  -- each connection is still one
  abbrev pub StillSeen : System C J → System C J → Type 0
  StillSeen s s' = (n : ℕ) → SeenIn s.carrier s.closed n → SeenIn s'.carrier s.closed n

  pub seen-same : (s s' : System C J) → s'.carrier.backends ≡ s.carrier.backends → StillSeen s s'
  seen-same s s' e = seen-works s.carrier s'.carrier s.closed (λ k link x. (x.0, ap (λ xs. slice_get xs k) e ∙ x.1, x.2, x.3))

  module _ (s s' : System C J) (same : SameLinks s s') where
    pub works-still : (k : ℕ) (link : LinkModel Wire) → IsWorking s'.carrier k link → IsWorking s.carrier k link
    works-still k link h = let l = same k h.0 link h.1 h.2 in (l.0, l.1, l.2, h.3)

    pub no-failure : (k : ℕ) (link link' : LinkModel Wire) → FailsAt s k link link' s' → ⊥
    no-failure k link link' f =
        let l = same k f.1 link' f.2 f.3 in
        let one : Some (f.0.0) ≡ Some l.0 = sym f.0.1 ∙ l.1 in
        let backend : f.0.0 ≡ l.0 = cc in
        let linked : Some link ≡ Some link' = sym f.0.2 ∙ ap (λ (x : Backend Wire). x.link) backend ∙ l.2 in
        let it : link ≡ link' = cc in
        let none : link'.failure ≡ None = ap (λ (x : LinkModel Wire). x.failure) (sym it) ∙ f.0.3 in
        absurd (false≢true (subst IsSome none f.4))

  module _ (s s' : System C J) where
    pub still-closed : ((k : ℕ) (link link' : LinkModel Wire) → FailsAt s k link link' s' → ⊥) → Breaks s s' → s'.closed ≡ s.closed
    still-closed fails h = ⊎_elim (λ x. x.0) (λ x. absurd (fails x.0 x.1 x.2 x.3)) h

  pub still-opened : (event : CarrierEvent) (s s' : System C J) → CarrierStep s event s' → opened_by event s.opened ≡ s.opened → s'.opened ≡ s.opened
  still-opened event s s' step quiet = ap (λ (x : System C J). x.opened) step.leaves ∙ quiet

  -- the links' shadow, where no more connections work
  pub links-still : (nodes : List Endpoint) (a b : CarrierModel (Newcomer C J) Wire) (closed closed' : List Wire) (opened opened' : ℕ) (w : WorldModel)
      → ((k : ℕ) (link : LinkModel Wire) → IsWorking b k link → IsWorking a k link)
      → ((n : ℕ) → SeenIn a closed n → SeenIn b closed n)
      → closed' ≡ closed → opened' ≡ opened
      → LinksShadow nodes a closed opened w → LinksShadow nodes b closed' opened' w
  links-still nodes a b closed closed' opened opened' w back sight ec eo h =
      subst (λ n. LinksShadow nodes b closed' n w) (sym eo) (subst (λ xs. LinksShadow nodes b xs opened w) (sym ec) (record {
        ids = h.ids;
        all = h.all;
        below = h.below;
        once = h.once;
        backends = λ k link works. h.backends k link (back k link works);
        wires = h.wires;
        apart = λ k m x y p q. h.apart k m x y (back k x p) (back m y q);
        aside = λ k j x wire p. h.aside k j x wire (back k x p);
        each = h.each;
        seen = λ i id e. sight id (h.seen i id e);
      }))

  -- as many lanes, and each run that is pending came from one
  pub record Seats (s s' : System C J) : Type 0 where
    pub lanes : length s'.carrier.lanes ≡ length s.carrier.lanes
    pub seated : AreSeated s.carrier → AreSeated s'.carrier

  pub same-seats : (s s' : System C J) → length s'.carrier.lanes ≡ length s.carrier.lanes → s'.carrier.pending_runs ≡ s.carrier.pending_runs → Seats s s'
  same-seats s s' lanes pending_runs = record {
    lanes = lanes;
    seated = λ h k b run p q. omega (arith, lanes, h k b run (sym (ap (λ xs. slice_get xs k) pending_runs) ∙ p) q);
  }

  -- what is pending of one worker changes
  pub set-seats : (s s' : System C J) (k : ℕ) (b' : PendingRun) → length s'.carrier.lanes ≡ length s.carrier.lanes → s'.carrier.pending_runs ≡ slice_set s.carrier.pending_runs k b'
      → ((run : RunModel) → b'.run ≡ Some run → AreSeated s.carrier → k < length s.carrier.lanes) → Seats s s'
  set-seats s s' k b' lanes pending_runs one = record {
    lanes = lanes;
    seated = λ h j b run p q. ⊎_elim
        (λ (z : (j ≡ k) × (b ≡ b')). omega (arith, lanes, z.0, one run (ap (λ (x : PendingRun). x.run) (sym z.1) ∙ q) h))
        (λ (z : (j ≢ k) × (slice_get s.carrier.pending_runs j ≡ Some b)). omega (arith, lanes, h j b run z.1 q))
        (at-set s.carrier.pending_runs k b' j b (sym (ap (λ xs. slice_get xs j) pending_runs) ∙ p));
  }

  -- what comes down a lane is for its worker, and the lane is not finished
  abbrev pub DownFits : ℕ → WorkerModel C J → LaneEnds (Newcomer C J) → Type 0
  DownFits k model lane = DownInStep lane model × All (λ (pair : Pair). pair.0.worker ≡ k) (down_in lane.down model.inlet) × IsSome lane.down

  pub down-fits : (s : System C J) (w : WorldModel) → IsShadow s w → (k : ℕ) (model : WorkerModel C J) (lane : LaneEnds (Newcomer C J)) → slice_get s.workers k ≡ Some model → slice_get s.carrier.lanes k ≡ Some lane → DownFits k model lane
  down-fits s w h k model lane p q = (h.down_steps k model lane p q, h.to_worker k model lane p q, h.unfinished k lane q)

  -- A step of the carrier at which the machine's links change, and nothing else of it but the moment.
  pub link-frame : (event : CarrierEvent) (s s' : System C J) (w : WorldModel) (links' : List Link) (moment' : ℕ) → w.moment ≤ moment' → IsShadow s w
      → CarrierStep s event s'
      → LinksShadow s.nodes s'.carrier s'.closed s'.opened (record w { links = links'; moment = moment' }) → Seats s s'
      → ((k : ℕ) (model : WorkerModel C J) (lane : LaneEnds (Newcomer C J)) → slice_get s.workers k ≡ Some model → slice_get s'.carrier.lanes k ≡ Some lane → DownFits k model lane)
      → SameBag (downs_of s) (downs_of s') → UpsShadow s.workers s'.carrier w → IsShadow s' (record w { links = links'; moment = moment' })
  link-frame event s s' w links' moment' later h step links lanes steps bag ups =
      let w' : WorldModel = record w { links = links'; moment = moment' } in
      let eq : s' ≡ record s { carrier = s'.carrier; closed = s'.closed; opened = opened_by event s.opened } = step.leaves in
      let workers : s'.workers ≡ s.workers = ap (λ (x : System C J). x.workers) eq in
      let cluster : s'.cluster ≡ s.cluster = ap (λ (x : System C J). x.cluster) eq in
      let initial : s'.initial ≡ s.initial = ap (λ (x : System C J). x.initial) eq in
      let log : s'.log ≡ s.log = ap (λ (x : System C J). x.log) eq in
      let nodes : s'.nodes ≡ s.nodes = ap (λ (x : System C J). x.nodes) eq in
      let at : (k : ℕ) (model : WorkerModel C J) → slice_get s'.workers k ≡ Some model → slice_get s.workers k ≡ Some model = λ k model e. sym (ap (λ xs. slice_get xs k) workers) ∙ e in
      let back : SameBag (downs_of s') (downs_of s) = λ f. sym (bag f) in
      record {
        workers = ap length workers ∙ h.workers;
        limit = h.limit;
        cluster = h.cluster ∙ sym cluster;
        initial = h.initial ∙ sym initial;
        apart = subst AreApart (sym nodes) h.apart;
        room = subst (λ (ns : List Endpoint). length ns ≤ most_nodes) (sym nodes) h.room;
        table = subst (IsPrefix s'.carrier.nodes) (sym nodes) step.table;
        listed = still-listed event s s' step h.listed;
        numbered = λ k model e. h.numbered k model (at k model e);
        sides = ap length workers ∙ h.sides ∙ sym lanes.lanes;
        seated = lanes.seated h.seated;
        up_steps = step.in_step;
        down_steps = λ k model lane p q. (steps k model lane (at k model p) q).0;
        unfinished = λ k lane q. let model = beside s.workers s'.carrier.lanes k lane (h.sides ∙ sym lanes.lanes) q in (steps k model.0 lane model.1 q).2;
        within = λ i pair e. let x = bag-has (downs_of s') (downs_of s) back i pair e in omega (arith, h.within x.0 pair x.1, lanes.lanes);
        to_worker = λ k model lane p q. (steps k model lane (at k model p) q).1;
        told = h.told;
        lanes = subst (λ fs. UpsShadow fs s'.carrier w') (sym workers) ups;
        links = subst (λ ns. LinksShadow ns s'.carrier s'.closed s'.opened w') (sym nodes) links;
        clients = λ k model number client e g.
            let t = h.clients k model number client (at k model e) g in
            (t.0, client-same (downs_of s) (downs_of s') bag k number client w.commands t.1);
        unseen = λ k model number e. h.unseen k model number (at k model e);
        downs = λ t. omega (arith, h.downs t, bag (λ (p : Pair). is t p.0));
        awaited = λ i pair e.
            let x = bag-has (downs_of s') (downs_of s) back i pair e in
            let a = h.awaited x.0 pair x.1 in
            (a.0, subst (λ (ws : List (WorkerModel C J)). Holds ws pair.0 a.0) (sym workers) a.1, a.2);
        waiting = λ j c e awaits. subst (λ (ws : List (WorkerModel C J)). Holds ws c.command.ticket c.command) (sym workers) (h.waiting j c e awaits);
        asking = λ j c node e wants. let a = h.asking j c node e wants in (a.0, subst (λ (ws : List (WorkerModel C J)). Holds ws c.command.ticket a.0) (sym workers) a.1);
        log = subst (λ l. LogShadow l w') (sym log) (log-later s.log w w' refl refl refl later h.log);
      }

  -- a step of the carrier at which the machine does nothing
  pub carrier-frame : (event : CarrierEvent) (s s' : System C J) (w : WorldModel) → IsShadow s w → CarrierStep s event s'
      → LinksShadow s.nodes s'.carrier s'.closed s'.opened w → Seats s s'
      → ((k : ℕ) (model : WorkerModel C J) (lane : LaneEnds (Newcomer C J)) → slice_get s.workers k ≡ Some model → slice_get s'.carrier.lanes k ≡ Some lane → DownFits k model lane)
      → SameBag (downs_of s) (downs_of s') → UpsShadow s.workers s'.carrier w → IsShadow s' w
  carrier-frame event s s' w h step links lanes steps bag ups = link-frame event s s' w w.links w.moment (omega arith) h step links lanes steps bag ups

  -- a step of the carrier that the machine does not see
  pub carrier-stutter : (event : CarrierEvent) (s s' : System C J) (w : WorldModel) → IsShadow s w → CarrierStep s event s' → opened_by event s.opened ≡ s.opened
      → ((k : ℕ) (link : LinkModel Wire) → IsWorking s'.carrier k link → IsWorking s.carrier k link)
      → ((k : ℕ) (link link' : LinkModel Wire) → FailsAt s k link link' s' → ⊥) → StillSeen s s'
      → Seats s s'
      → ((k : ℕ) (model : WorkerModel C J) (lane : LaneEnds (Newcomer C J)) → slice_get s.workers k ≡ Some model → slice_get s'.carrier.lanes k ≡ Some lane → DownFits k model lane)
      → SameBag (downs_of s) (downs_of s') → UpsShadow s.workers s'.carrier w → IsShadow s' w
  carrier-stutter event s s' w h step quiet works fails sight lanes steps bag ups =
      carrier-frame event s s' w h step
      (links-still s.nodes s.carrier s'.carrier s.closed s'.closed s.opened s'.opened w works sight (still-closed s s' fails step.breaks) (still-opened event s s' step quiet) h.links)
      lanes steps bag ups
