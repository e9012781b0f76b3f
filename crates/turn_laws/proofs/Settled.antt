-- A step of the carrier by which something comes down: the machine's event, and all that came down is told at once.
use Rattle.std.proofs.Common.{◌≡◌, ℕ, ◌≤◌, List, [], ◌∷◌, ◌++◌, Some, refl, sym, ap, ◌∙◌, subst, arith, length}
use Rattle.std.specs.Prelude.{slice_get, map}
use mathlib.Core.List.{IsPrefix}
use Rattle.slot_map.specs.Table.{Endpoint}
use Rattle.world_laws.specs.declared.history.Answer.{Answer}
use Rattle.proxy_lanes.specs.declared.ends.lane_ends.LaneEnds.{LaneEnds}
use Rattle.proxy_turns.specs.declared.newcomer.Newcomer.{Newcomer}
use Rattle.proxy_turns.specs.WorkerModel.{WorkerModel}
use Rattle.proxy_turns.specs.CarrierModel.{CarrierEvent}
use Rattle.world_laws.specs.State.{WorldModel, Link}
use Rattle.world_laws.specs.declared.state.Posted.{Posted}
use Rattle.world_laws.specs.declared.state.Arrival.{Arrival}
use Rattle.world_laws.specs.World.{WorldDoes}
use Rattle.world_laws.specs.declared.event.Event.{Event}
use Rattle.world_laws.proofs.Placed.{Standing}
use Rattle.world_laws.proofs.Lives.{does-moment}
use Rattle.turn_laws.specs.Walks.{ticked, Walk, IsSharedWalked}
use Rattle.turn_laws.specs.Settling.{TellsAll}
use Rattle.turn_laws.specs.System.{System, Mark}
use Rattle.turn_laws.specs.Shadow.{IsShadow, LinksShadow, UpsShadow, LogShadow, AreListed}
use Rattle.turn_laws.specs.Endpoints.{AreApart, most_nodes}
use Rattle.turn_laws.specs.Underway.{Holds, downs_of}
use Rattle.turn_laws.specs.Steps.{CarrierStep, UpsInStep}
use Rattle.turn_laws.proofs.Downs.{Pair, SameBag}
use Rattle.turn_laws.proofs.Frames.{DownFits, Seats, beside}
use Rattle.turn_laws.proofs.Listed.{still-listed}
use Rattle.turn_laws.proofs.Walks.{walked-stands}
use Rattle.turn_laws.proofs.Settling.{settling-after}
use Rattle.turn_laws.proofs.Told.{Fitting, fitting, fitting-same, tell-all, SameParts, parts-told, links-told, lists-still}

-- moments rise
pub walk-later : (es : List Event) (w w' : WorldModel) → Walk w es w' → w.moment ≤ w'.moment
walk-later [] w w' r = omega (arith, ap (λ (x : WorldModel). x.moment) r)
walk-later (e ∷ es) w w' r = omega (arith, does-moment e (ticked w) r.0 r.1, walk-later es r.0 w' r.2)

-- the log, as the machine goes on without an entry, an arrival or an answer
pub log-on : (log : List Mark) (w w' : WorldModel) → SameParts w.commands w'.commands → w'.history ≡ w.history → w'.answers ≡ w.answers → w.moment ≤ w'.moment → LogShadow log w → LogShadow log w'
log-on log w w' same history answers later h = record {
  clock = h.clock;
  rises = h.rises;
  past = λ i lt. omega (arith, h.past i lt, later);
  arrived = h.arrived ∙ sym same.seen;
  executed = h.executed ∙ sym history;
  answered = h.answered ∙ ap (map (λ (a : Answer). (a.ticket, a.ended, a.answered))) (sym answers);
}

-- a step at the carrier leaves all else
pub record Goes {C J : Type 0} (s s' : System C J) : Type 0 where
  pub workers : s'.workers ≡ s.workers
  pub cluster : s'.cluster ≡ s.cluster
  pub initial : s'.initial ≡ s.initial
  pub log : s'.log ≡ s.log
  pub nodes : s'.nodes ≡ s.nodes
  pub table : IsPrefix s'.carrier.nodes s.nodes
  pub listed : AreListed s.carrier → AreListed s'.carrier
  pub in_step : UpsInStep s'

pub goes-of : {C J : Type 0} (event : CarrierEvent) (s s' : System C J) → CarrierStep s event s' → Goes s s'
goes-of {C} {J} event s s' step = record {
  workers = ap (λ (x : System C J). x.workers) step.leaves;
  cluster = ap (λ (x : System C J). x.cluster) step.leaves;
  initial = ap (λ (x : System C J). x.initial) step.leaves;
  log = ap (λ (x : System C J). x.log) step.leaves;
  nodes = ap (λ (x : System C J). x.nodes) step.leaves;
  table = step.table;
  listed = still-listed event s s' step;
  in_step = step.in_step;
}

module _ {C J : Type 0} where
  pub settled-frame : (s s' : System C J) (w : WorldModel) (ups' : List Posted) (links' : List Link) (pairs : List Pair) (commands' : List Arrival) (moment' : ℕ)
      → w.moment ≤ moment' → Standing w → IsShadow s w → Goes s s'
      → LinksShadow s.nodes s'.carrier s'.closed s'.opened (record w { links = links' })
      → TellsAll w.commands pairs commands' → SameBag (downs_of s ++ pairs) (downs_of s')
      → Seats s s'
      → ((k : ℕ) (model : WorkerModel C J) (lane : LaneEnds (Newcomer C J)) → slice_get s.workers k ≡ Some model → slice_get s'.carrier.lanes k ≡ Some lane → DownFits k model lane)
      → UpsShadow s.workers s'.carrier (record w { ups = ups' })
      → IsShadow s' (record w { ups = ups'; links = links'; commands = commands'; downs = []; moment = moment' })
  settled-frame s s' w ups' links' pairs commands' moment' later placed h step links tells bag lanes steps ups =
      let w' : WorldModel = record w { ups = ups'; links = links'; commands = commands'; downs = []; moment = moment' } in
      let workers : s'.workers ≡ s.workers = step.workers in
      let cluster : s'.cluster ≡ s.cluster = step.cluster in
      let log : s'.log ≡ s.log = step.log in
      let at : (k : ℕ) (model : WorkerModel C J) → slice_get s'.workers k ≡ Some model → slice_get s.workers k ≡ Some model = λ k model e. sym (ap (λ xs. slice_get xs k) workers) ∙ e in
      let n : ℕ = length s.carrier.lanes in
      let same : SameParts w.commands commands' = parts-told pairs w.commands commands' tells in
      let fits : Fitting s.workers n w.workers (downs_of s') commands' =
      fitting-same s.workers n w.workers (downs_of s ++ pairs) (downs_of s') commands' bag (tell-all s.workers n w.workers pairs (downs_of s) w.commands commands' (fitting s w placed h) tells) in
      record {
        workers = ap length workers ∙ h.workers;
        limit = h.limit;
        cluster = h.cluster ∙ sym cluster;
        initial = h.initial ∙ sym step.initial;
        apart = subst AreApart (sym step.nodes) h.apart;
        room = subst (λ (ns : List Endpoint). length ns ≤ most_nodes) (sym step.nodes) h.room;
        table = subst (IsPrefix s'.carrier.nodes) (sym step.nodes) step.table;
        listed = step.listed h.listed;
        numbered = λ k model e. h.numbered k model (at k model e);
        sides = ap length workers ∙ h.sides ∙ sym lanes.lanes;
        seated = lanes.seated h.seated;
        up_steps = step.in_step;
        down_steps = λ k model lane p q. (steps k model lane (at k model p) q).0;
        unfinished = λ k lane q. let model = beside s.workers s'.carrier.lanes k lane (h.sides ∙ sym lanes.lanes) q in (steps k model.0 lane model.1 q).2;
        within = λ i pair e. omega (arith, fits.within i pair e, lanes.lanes);
        to_worker = λ k model lane p q. (steps k model lane (at k model p) q).1;
        told = refl;
        lanes = λ k model lane p q. let x = ups k model lane (at k model p) q in (x.0, lists-still w.commands commands' same.parts k _ x.1);
        links = subst (λ ns. LinksShadow ns s'.carrier s'.closed s'.opened w') (sym step.nodes) (links-told s.nodes s'.carrier s'.closed s'.opened (record w { links = links' }) w' refl same.parts links);
        clients = λ k model number client e g. fits.clients k model number client (at k model e) g;
        unseen = λ k model number e. fits.unseen k model number (at k model e);
        downs = fits.once;
        awaited = λ i pair e. let a = fits.awaited i pair e in (a.0, subst (λ (ws : List (WorkerModel C J)). Holds ws pair.0 a.0) (sym workers) a.1, a.2);
        waiting = λ j c e awaits. subst (λ (ws : List (WorkerModel C J)). Holds ws c.command.ticket c.command) (sym workers) (fits.waiting j c e awaits);
        asking = λ j c node e wants. let a = fits.asking j c node e wants in (a.0, subst (λ (ws : List (WorkerModel C J)). Holds ws c.command.ticket a.0) (sym workers) a.1);
        log = subst (λ l. LogShadow l w') (sym log) (log-on s.log w w' same refl refl later h.log);
      }

  -- one event of the machine, and what came down by it is told, as the workers will hear it
  pub settles-as : (core : Event) (s s' : System C J) (w : WorldModel) (ups' : List Posted) (links' : List Link) (pairs said : List Pair)
      → ((commands commands' : List Arrival) → TellsAll commands pairs commands' → TellsAll commands said commands')
      → IsSharedWalked w → IsShadow s w → Goes s s'
      → WorldDoes (ticked w) core (record (ticked w) { ups = ups'; links = links'; downs = w.downs ++ pairs })
      → LinksShadow s.nodes s'.carrier s'.closed s'.opened (record w { links = links' })
      → SameBag (downs_of s ++ said) (downs_of s')
      → Seats s s'
      → ((k : ℕ) (model : WorkerModel C J) (lane : LaneEnds (Newcomer C J)) → slice_get s.workers k ≡ Some model → slice_get s'.carrier.lanes k ≡ Some lane → DownFits k model lane)
      → UpsShadow s.workers s'.carrier (record w { ups = ups' })
      → (events : List Event) × (w' : WorldModel) × Walk w events w' × IsShadow s' w'
  settles-as core s s' w ups' links' pairs said alike walked h step does links bag lanes steps ups =
      let mid : WorldModel = record (ticked w) { ups = ups'; links = links'; downs = w.downs ++ pairs } in
      let r = settling-after w mid core walked does in
      let came : w.downs ++ pairs ≡ pairs = ap (λ ps. ps ++ pairs) h.told in
      let tells : TellsAll w.commands said r.3.0 = alike w.commands r.3.0 (subst (λ ps. TellsAll w.commands ps r.3.0) came r.3.2) in
      let w' : WorldModel = record w { ups = ups'; links = links'; commands = r.3.0; downs = []; moment = r.3.1 } in
      let is : r.1 ≡ w' = r.3.3 in
      let later : w.moment ≤ r.3.1 = omega (arith, walk-later (core ∷ r.0) w r.1 r.2, ap (λ (x : WorldModel). x.moment) is) in (
        core ∷ r.0,
        w',
        subst (λ x. Walk w (core ∷ r.0) x) is r.2,
        settled-frame s s' w ups' links' said r.3.0 r.3.1 later (walked-stands w walked) h step links tells bag lanes steps ups,
      )

  -- where the workers will hear just that
  pub settles-so : (core : Event) (s s' : System C J) (w : WorldModel) (ups' : List Posted) (links' : List Link) (pairs : List Pair)
      → IsSharedWalked w → IsShadow s w → Goes s s'
      → WorldDoes (ticked w) core (record (ticked w) { ups = ups'; links = links'; downs = w.downs ++ pairs })
      → LinksShadow s.nodes s'.carrier s'.closed s'.opened (record w { links = links' })
      → SameBag (downs_of s ++ pairs) (downs_of s')
      → Seats s s'
      → ((k : ℕ) (model : WorkerModel C J) (lane : LaneEnds (Newcomer C J)) → slice_get s.workers k ≡ Some model → slice_get s'.carrier.lanes k ≡ Some lane → DownFits k model lane)
      → UpsShadow s.workers s'.carrier (record w { ups = ups' })
      → (events : List Event) × (w' : WorldModel) × Walk w events w' × IsShadow s' w'
  settles-so core s s' w ups' links' pairs = settles-as core s s' w ups' links' pairs pairs (λ commands commands' tells. tells)
