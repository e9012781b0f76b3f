-- No event changes how many workers and nodes there are, nor what the nodes held at the start.
use Rattle.std.proofs.Common.{◌≡◌, ◌⊎◌, ℕ, inl, inr, length, refl, ap, ◌∙◌}
use Rattle.node_model.specs.Runs.{deed_for}
use Rattle.node_model.specs.declared.role.Verdict.{Verdict}
use Rattle.world_laws.specs.State.{Link, WorldModel, parts_told, tolds_of}
use Rattle.world_laws.specs.World.{WorldDoes, ServesAsking, ServesRun, ServesRunAt, FetchesWelcome, FetchesReply}
use Rattle.world_laws.specs.declared.event.Event.{Event}
use Rattle.world_laws.specs.declared.event.Event.TheVariants.{Arrive, Post, Carry, Refuse, Serve, Fetch, Take, Drop, Discard, Import, Migrate, MoveKey, Own, Release, Forget, Stay}
use Rattle.world_laws.specs.declared.event.Event.TheVariants as ev
use Rattle.world_laws.proofs.Nodes.{set-size, runs-size}

abbrev SameSizes : WorldModel → WorldModel → Type 0
SameSizes w w' = (w'.workers ≡ w.workers) × (length w'.cluster.stores ≡ length w.cluster.stores)

-- where the new world is known, and has them
same : (w w' v : WorldModel) → w' ≡ v → v.workers ≡ w.workers → length v.cluster.stores ≡ length w.cluster.stores → SameSizes w w'
same w w' v e workers nodes = (ap (λ (x : WorldModel). x.workers) e ∙ workers, ap (λ (x : WorldModel). length x.cluster.stores) e ∙ nodes)

-- a run that some node serves keeps them
pub run-sizes : (w w' : WorldModel) (link node : ℕ) (l : Link) (v : Verdict) → ServesRunAt w node link l v w' → SameSizes w w'
run-sizes w w' link node l v x = same w w' _ x.7 refl (runs-size w.cluster x.2 node (parts_told x.1) (deed_for w.cluster node l.asking (parts_told x.1) v) (tolds_of x.1) x.6)

-- every event keeps them
pub does-sizes : (e : Event) (w w' : WorldModel) → WorldDoes w e w' → SameSizes w w'
does-sizes (Arrive client part) w w' d = same w w' _ d.1 refl refl
does-sizes (Post tickets node) w w' d = same w w' _ d.5 refl refl
does-sizes (Carry lane link) w w' d = same w w' _ d.5 refl refl
does-sizes (Refuse lane) w w' d = same w w' _ d.3 refl refl
does-sizes (Serve link v) w w' d = go d.2
  where
    go : ServesAsking w link d.0 v w' ⊎ ServesRun w link d.0 v w' → SameSizes w w'
    go (inl x) = same w w' _ x.3 refl refl
    go (inr x) = run-sizes w w' link (d.0).node d.0 v x
does-sizes (Fetch link) w w' d = go d.3
  where
    go : FetchesWelcome w link d.0 w' ⊎ FetchesReply w link d.0 w' → SameSizes w w'
    go (inl x) = same w w' _ x.2 refl refl
    go (inr x) = same w w' _ x.4 refl refl
does-sizes (Take lane) w w' d = same w w' _ d.7 refl refl
does-sizes (Drop link) w w' d = same w w' _ d.3 refl refl
does-sizes (Discard link) w w' d = same w w' _ d.4 refl refl
does-sizes (ev.Answer client) w w' d = same w w' _ d.8 refl refl
does-sizes (Import slot target) w w' d = same w w' _ d.2 refl refl
does-sizes (Migrate slot) w w' d = same w w' _ d.1 refl refl
does-sizes (MoveKey slot key) w w' d = same w w' _ d.1 refl (set-size _ _ _ ∙ set-size _ _ _)
does-sizes (Own slot) w w' d = same w w' _ d.1 refl refl
does-sizes (Release slot) w w' d = same w w' _ d.1 refl refl
does-sizes (Forget slot) w w' d = same w w' _ d.1 refl refl
does-sizes (Stay slot) w w' d = same w w' _ d.1 refl refl

-- no event changes what the nodes held at the start
kept : (w w' v : WorldModel) → w' ≡ v → v.initial ≡ w.initial → w'.initial ≡ w.initial
kept w w' v e is = ap (λ (x : WorldModel). x.initial) e ∙ is

pub run-initial : (w w' : WorldModel) (link node : ℕ) (l : Link) (v : Verdict) → ServesRunAt w node link l v w' → w'.initial ≡ w.initial
run-initial w w' link node l v x = kept w w' _ x.7 refl

pub does-initial : (e : Event) (w w' : WorldModel) → WorldDoes w e w' → w'.initial ≡ w.initial
does-initial (Arrive client part) w w' d = kept w w' _ d.1 refl
does-initial (Post tickets node) w w' d = kept w w' _ d.5 refl
does-initial (Carry lane link) w w' d = kept w w' _ d.5 refl
does-initial (Refuse lane) w w' d = kept w w' _ d.3 refl
does-initial (Serve link v) w w' d = go d.2
  where
    go : ServesAsking w link d.0 v w' ⊎ ServesRun w link d.0 v w' → w'.initial ≡ w.initial
    go (inl x) = kept w w' _ x.3 refl
    go (inr x) = run-initial w w' link (d.0).node d.0 v x
does-initial (Fetch link) w w' d = go d.3
  where
    go : FetchesWelcome w link d.0 w' ⊎ FetchesReply w link d.0 w' → w'.initial ≡ w.initial
    go (inl x) = kept w w' _ x.2 refl
    go (inr x) = kept w w' _ x.4 refl
does-initial (Take lane) w w' d = kept w w' _ d.7 refl
does-initial (Drop link) w w' d = kept w w' _ d.3 refl
does-initial (Discard link) w w' d = kept w w' _ d.4 refl
does-initial (ev.Answer client) w w' d = kept w w' _ d.8 refl
does-initial (Import slot target) w w' d = kept w w' _ d.2 refl
does-initial (Migrate slot) w w' d = kept w w' _ d.1 refl
does-initial (MoveKey slot key) w w' d = kept w w' _ d.1 refl
does-initial (Own slot) w w' d = kept w w' _ d.1 refl
does-initial (Release slot) w w' d = kept w w' _ d.1 refl
does-initial (Forget slot) w w' d = kept w w' _ d.1 refl
does-initial (Stay slot) w w' d = kept w w' _ d.1 refl
