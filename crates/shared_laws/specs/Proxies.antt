-- Several proxies before one cluster, beside other clients that are none: each is a machine of its own (World.antt of
-- world_laws), and all share the nodes, the history and the clock.
-- What one does, each other sees as a run of others, as a step of a slot, or as time that passes. So the headline holds of
-- each proxy's commands, over the one history of all.
-- The proxies know nothing of one another. One thing alone is asked of who moves slots: a slot is imported only when no
-- proxy has a command on its way that ASK sent to the target.
use Rattle.std.specs.Prelude.{◌≡◌, ◌≢◌, ℕ, ◌+◌, ◌%◌, ◌==◌, Bool, false, if◌then◌else◌, List, [], ◌∷◌, ◌++◌, map, Option, None, Some}
use Rattle.key_split.specs.declared.travel.Ticket.{Ticket}
use Rattle.key_split.specs.declared.travel.Told.{Told}
use Rattle.node_model.specs.History.{EntryModel}
use Rattle.node_model.specs.Nodes.{ClusterModel}
use Rattle.node_model.specs.Store.{StoreModel}
use Rattle.node_model.specs.declared.role.Verdict.{Verdict}
use Rattle.world_laws.specs.State.{WorldModel, Link, start_from}
use Rattle.world_laws.specs.declared.state.Arrival.{Arrival}
use Rattle.world_laws.specs.declared.state.Posted.{Posted}
use Rattle.world_laws.specs.World.{WorldStep, NoneAsks}
use Rattle.world_laws.specs.Headline.{IsSound}
use Rattle.world_laws.specs.declared.event.Event.{Event}
use Rattle.world_laws.specs.declared.event.Event.TheVariants.{Import}
use Rattle.world_laws.specs.declared.history.Answer.{Answer}
use Rattle.shared_laws.specs.Shared.{Step, SharedStep, SharedRun}
use Rattle.shared_laws.specs.SharedHeadline.{SharedHeadline}

-- what is a proxy's own
pub record Proxy : Type 0 where
  pub workers : ℕ
  pub run_limit : ℕ
  pub commands : List Arrival
  pub ups : List Posted
  pub links : List Link
  pub downs : List (Ticket × Told)
  pub answers : List Answer

-- the proxies, by their numbers, and what they share: the nodes, what these held at the start, the history, which says whose each
-- entry is (None: of a client that is no proxy), and how many steps there were
pub record Proxies : Type 0 where
  pub proxy : ℕ → Proxy
  pub cluster : ClusterModel
  pub initial : StoreModel
  pub history : List (Option ℕ × EntryModel)
  pub moment : ℕ

abbrev pub is_of : ℕ → Option ℕ → Bool
is_of p None = false
is_of p (Some q) = q == p

-- an entry as others see it, who have `workers` workers: its ticket is none of theirs
abbrev pub as_foreign : ℕ → EntryModel → EntryModel
as_foreign workers e = record e { ticket = record (e.ticket) { worker = e.ticket.client % workers + 1 + e.ticket.worker } }

abbrev pub seen_by : ℕ → ℕ → Option ℕ × EntryModel → EntryModel
seen_by p workers x = if is_of p x.0 then x.1 else as_foreign workers x.1

abbrev pub world_of : Proxy → ClusterModel → StoreModel → List EntryModel → ℕ → WorldModel
world_of x cluster initial history moment =
    record {
      workers = x.workers;
      run_limit = x.run_limit;
      cluster = cluster;
      initial = initial;
      commands = x.commands;
      ups = x.ups;
      links = x.links;
      downs = x.downs;
      history = history;
      answers = x.answers;
      moment = moment;
    }

-- the world of proxy p: its own, and the nodes, the history and the clock of all
abbrev pub view : Proxies → ℕ → WorldModel
view s p = world_of (s.proxy p) s.cluster s.initial (map (seen_by p (s.proxy p).workers) s.history) s.moment

-- an event of a proxy, among which are the steps of slots; a run of a proxy that another node serves than the one to whose address it was
-- sent; or a run of a client that is no proxy
pub data Act : Type 0 where
  By : (p : ℕ) (event : Event) → Act
  Led : (p link node : ℕ) (verdict : Verdict) → Act
  Outside : (node : ℕ) (asking : Bool) (entries : List EntryModel) → Act

-- a slot is imported when no proxy has a command on its way that ASK sent to the target
abbrev pub ImportWaits : Proxies → Event → Type 0
ImportWaits s event = (slot target : ℕ) → event ≡ Import slot target → (q : ℕ) → NoneAsks (view s q) slot target

-- the history gains entries, whose they are
abbrev pub Writes : Option ℕ → List EntryModel → Proxies → Proxies → Type 0
Writes whose entries s s' = s'.history ≡ s.history ++ map (λ e. (whose, e)) entries

abbrev pub ActDoes : Proxies → Act → Proxies → Type 0
ActDoes s (Act.By p event) s' =
    WorldStep (view s p) event (view s' p) × ImportWaits s event × ((q : ℕ) → q ≢ p → s'.proxy q ≡ s.proxy q)
    × ((entries : List EntryModel) × Writes (Some p) entries s s')
ActDoes s (Act.Led p link node verdict) s' =
    SharedStep (view s p) (Step.Led link node verdict) (view s' p) × ((q : ℕ) → q ≢ p → s'.proxy q ≡ s.proxy q)
    × ((entries : List EntryModel) × Writes (Some p) entries s s')
ActDoes s (Act.Outside node asking entries) s' =
    Writes None entries s s'
    × ((q : ℕ) → (s'.proxy q ≡ s.proxy q)
    × SharedStep (view s q) (Step.Theirs node asking (map (as_foreign (s.proxy q).workers) entries)) (view s' q))

-- a whole schedule
abbrev pub ProxiesRun : Proxies → List Act → Proxies → Type 0
ProxiesRun s [] s' = s' ≡ s
ProxiesRun s (a ∷ as') s' = (mid : Proxies) × ActDoes s a mid × ProxiesRun mid as' s'

-- nothing has happened yet
abbrev pub proxies_start : (ℕ → ℕ) → (ℕ → ℕ) → StoreModel → ClusterModel → Proxies
proxies_start workers run_limit initial cluster = record {
  proxy = λ p. record { workers = workers p; run_limit = run_limit p; commands = []; ups = []; links = []; downs = []; answers = [] };
  cluster = cluster;
  initial = initial;
  history = [];
  moment = 0;
}

-- what each proxy has gone through is a schedule of its own machine, in which the others act
abbrev pub EachIsShared : Type 0
EachIsShared = (workers run_limit : ℕ → ℕ) (initial : StoreModel) (cluster : ClusterModel) (acts : List Act) (s : Proxies) → IsSound initial cluster
    → ProxiesRun (proxies_start workers run_limit initial cluster) acts s
    → (p : ℕ) → (steps : List Step) × SharedRun (start_from (workers p) (run_limit p) initial cluster) steps (view s p)

-- so the headline holds of each proxy's commands
abbrev pub EveryProxy : Type 0
EveryProxy = (workers run_limit : ℕ → ℕ) (initial : StoreModel) (cluster : ClusterModel) (acts : List Act) (s : Proxies) → IsSound initial cluster
    → ProxiesRun (proxies_start workers run_limit initial cluster) acts s → (p : ℕ) → SharedHeadline (view s p)
