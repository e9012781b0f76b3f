-- A run of others is a step of the machine beside others, and so is a run that an address led to another node; and so is each step of the
-- system.
use Rattle.std.proofs.Common.{ℕ, ◌+◌, Bool, List, [], ◌∷◌, ◌++◌, length, refl, sym, ap, ◌∙◌, subst}
use Rattle.std.specs.List.{FoldsTo}
use Rattle.key_split.specs.Laws.{PlansArePlain}
use Rattle.node_model.specs.Nodes.{ClusterModel}
use Rattle.world_laws.specs.State.{WorldModel, start_from}
use Rattle.world_laws.proofs.Nodes.{size-with_store}
use Rattle.shared_laws.specs.Shared.{OthersExecute, SharedDoes, Step}
use Rattle.turn_laws.specs.Wire.{Execution}
use Rattle.turn_laws.specs.System.{System}
use Rattle.turn_laws.specs.Shadow.{IsShadow}
use Rattle.turn_laws.specs.Naming.{NamesNodes}
use Rattle.turn_laws.specs.Sharing.{OthersDo, SharedEvent, SharedRefines, SharedSystemStep}
use Rattle.turn_laws.specs.Walks.{IsSharedWalked, ticked}
use Rattle.turn_laws.proofs.Addresses.{led-names, led-step}
use Rattle.turn_laws.proofs.NamesStay.{names-stay}
use Rattle.turn_laws.proofs.Refines.{simulates}
use Rattle.turn_laws.proofs.Serving.{entries_at, log-served}
use Rattle.turn_laws.proofs.Starts.{start-shadow}
use Rattle.turn_laws.proofs.Walks.{alone-walked, every_shared_walk, shared-join, walked-on}

module _ {C J : Type 0} where
  -- the machine's step
  others-step : (node : ℕ) (asking : Bool) (done : List Execution) (s s' : System C J) (w : WorldModel) → IsShadow s w → OthersDo s node asking done s'
      → (w' : WorldModel) × SharedDoes (ticked w) (Step.Theirs node asking (entries_at (w.moment + 1) done)) w' × IsShadow s' w'
  others-step node asking done s s' w h on = (
    record w { cluster = s'.cluster; history = w.history ++ entries_at (w.moment + 1) done; moment = w.moment + 1 },
    (
      s'.cluster,
      subst (λ (z : ℕ × ClusterModel). OthersExecute z.0 (w.moment + 1) z.1 node asking (entries_at (w.moment + 1) done) s'.cluster) (λ i. (h.workers i, sym h.cluster i)) (on.0 (w.moment + 1)),
      refl,
    ),
    subst (λ x. IsShadow x (record w { cluster = s'.cluster; history = w.history ++ entries_at (w.moment + 1) done; moment = w.moment + 1 })) (sym on.1) (record {
      workers = h.workers;
      limit = h.limit;
      cluster = refl;
      initial = h.initial;
      apart = h.apart;
      room = h.room;
      table = h.table;
      listed = h.listed;
      numbered = h.numbered;
      sides = h.sides;
      seated = h.seated;
      up_steps = h.up_steps;
      down_steps = h.down_steps;
      unfinished = h.unfinished;
      within = h.within;
      to_worker = h.to_worker;
      told = h.told;
      lanes = h.lanes;
      links = record { ids = (h.links).ids; all = (h.links).all; below = (h.links).below; once = (h.links).once; backends = (h.links).backends; wires = (h.links).wires; apart = (h.links).apart; aside = (h.links).aside; each = (h.links).each; seen = (h.links).seen };
      clients = h.clients;
      unseen = h.unseen;
      downs = h.downs;
      awaited = h.awaited;
      waiting = h.waiting;
      asking = h.asking;
      log = log-served s.log w (record w { cluster = s'.cluster; history = w.history ++ entries_at (w.moment + 1) done; moment = w.moment + 1 }) done h.log refl refl refl refl;
    }),
  )

  -- it names no node
  others-names : (node : ℕ) (asking : Bool) (done : List Execution) (s s' : System C J) → NamesNodes s → OthersDo s node asking done s' → NamesNodes s'
  others-names node asking done s s' names on = subst NamesNodes (sym on.1) (record {
    seed = names.seed;
    each = names.each ∙ sym (ap (λ (k : ClusterModel). length k.stores) (on.0 0).7 ∙ size-with_store s.cluster node _);
    published = names.published;
    backends = names.backends;
    downs = names.downs;
    posted = names.posted;
  })

-- a step more
stepped : (w w' : WorldModel) (step : Step) → IsSharedWalked w → SharedDoes (ticked w) step w' → IsSharedWalked w'
stepped w w' step r does = (r.0, r.1, r.2, r.3, r.4 ++ step ∷ [], r.5, shared-join r.4 (step ∷ []) (start_from r.0 r.1 r.2 r.3) w w' r.6 (w', does, refl))

module _ (C J : Type 0) (plain : PlansArePlain) where
  pub all : (events : List SharedEvent) (s s' : System C J) (w : WorldModel) → IsShadow s w → NamesNodes s → IsSharedWalked w → FoldsTo SharedSystemStep s events s' → (w' : WorldModel) × IsSharedWalked w' × IsShadow s' w' × NamesNodes s'
  all [] s s' w h names r f = (w, r, subst (λ x. IsShadow x w) f h, subst NamesNodes f names)
  all (SharedEvent.Ours event ∷ events) s s' w h names r f =
      let one = simulates C J plain event s f.0 w h names r f.1 in
      all events f.0 s' one.1 one.3 (names-stay C J event s f.0 w h names f.1) (walked-on w one.1 one.0 r one.2) f.2
  all (SharedEvent.Led event ∷ events) s s' w h names r f =
      let one = led-step event s f.0 w h r f.1 in
      all events f.0 s' one.1 one.3 (led-names event s f.0 names f.1) (stepped w one.1 one.0 r one.2) f.2
  all (SharedEvent.Theirs node asking done ∷ events) s s' w h names r f =
      let one = others-step node asking done s f.0 w h f.1 in
      all events f.0 s' one.0 one.2 (others-names node asking done s f.0 names f.1) (stepped w one.0 (Step.Theirs node asking (entries_at (w.moment + 1) done)) r one.1) f.2

  pub shared-refines : SharedRefines C J
  shared-refines s s' events h f =
      let b = start-shadow C J s h in
      let r = all events s s' b.0 b.2 b.3 (alone-walked b.0 b.1) f in
      (r.0, r.1, r.2, every_shared_walk r.0 r.1)
