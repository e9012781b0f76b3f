-- Batches and links lead to nodes that exist: kept by every event.
use Rattle.std.proofs.Common.{◌≡◌, ◌≢◌, ◌⊎◌, inl, inr, ℕ, zero, suc, ◌<◌, Bool, true, false, List, [], ◌∷◌, length, Some, refl, sym, ◌∙◌, subst, arith}
use Rattle.std.specs.Prelude.{slice_get, slice_set, remove, All, IsSome, unwrap_or}
use Rattle.std.proofs.lemmas.List.Elements.{All-set, All-append}
use Rattle.world_laws.specs.State.{WorldModel, Arrival, Posted, Link, LinkReply, new_link, sent, replied, all_replied, parts_told, tolds_of}
use Rattle.world_laws.specs.declared.state.LinkReply.TheVariants.{Welcome}
use Rattle.world_laws.specs.Places.{is}
use Rattle.node_model.specs.Standings.{SlotStandingModel, in_phase, imported, released, stayed}
use Rattle.node_model.specs.Nodes.{ClusterModel, standing_at, with_standing}
use Rattle.node_model.specs.Runs.{deed_for}
use Rattle.node_model.specs.declared.role.Verdict.{Verdict}
use Rattle.key_split.specs.declared.travel.Told.{Told}
use Rattle.node_model.specs.declared.standing.Phase.{Phase}
use Rattle.node_model.specs.declared.standing.Phase.TheVariants.{Settled, Imported, Migrated, Owned, Released, Forgotten}
use Rattle.world_laws.specs.World.{IsNode}
use Rattle.node_model.specs.Standings.{after_own, after_release}
use Rattle.node_model.specs.Moves.{phase_at, move_key_done}
use Rattle.world_laws.specs.World.{WorldDoes, CarriesOver, ServesAsking, ServesRun, ServesRunAt, FetchesWelcome, FetchesReply}
use Rattle.world_laws.specs.declared.event.Event.{Event}
use Rattle.world_laws.specs.declared.event.Event.TheVariants.{Arrive, Post, Carry, Refuse, Serve, Fetch, Take, Drop, Discard, Import, Migrate, MoveKey, Own, Release, Forget, Stay}
use Rattle.world_laws.specs.declared.event.Event.TheVariants as ev
use Rattle.world_laws.proofs.Flow.{all_at}
use Rattle.world_laws.proofs.Nodes.{pick-slot, set-size, runs-size, runs-slots}

pub record There (w : WorldModel) : Type 0 where
  pub ups : All (λ b. IsNode w.cluster b.node) w.ups
  pub links : All (λ l. IsNode w.cluster l.node) w.links
  pub targets : (slot : ℕ) → (standing_at w.cluster slot).phase ≢ Settled → IsNode w.cluster (standing_at w.cluster slot).target

one : {X : Type 0} (P : X → Type 0) (x : X) → P x → All P (x ∷ [])
one P x h zero d lt = h
one P x h (suc k) d lt = absurd (omega arith)

All-remove : {X : Type 0} (P : X → Type 0) (xs : List X) (i : ℕ) → All P xs → All P (remove xs i)
All-remove P [] zero h k d lt = absurd (omega arith)
All-remove P [] (suc i) h k d lt = absurd (omega arith)
All-remove P (x ∷ xs) zero h k d lt = h (suc k) d (omega arith)
All-remove P (x ∷ xs) (suc i) h zero d lt = h zero d (omega arith)
All-remove P (x ∷ xs) (suc i) h (suc k) d lt = All-remove P xs i (λ k d lt. h (suc k) d (omega arith)) k d (omega arith)

node-replied : (l : Link) (b : LinkReply) → (replied l b).node ≡ l.node
node-replied l b = go l.is_open
  where
    go : (o : Bool) → (replied (record l { is_open = o }) b).node ≡ l.node
    go true = refl
    go false = refl

node-all_replied : (l : Link) (run : List (Arrival × Told)) → (all_replied l run).node ≡ l.node
node-all_replied l run = go l.is_open
  where
    go : (o : Bool) → (all_replied (record l { is_open = o }) run).node ≡ l.node
    go true = refl
    go false = refl

-- the nodes of lists, where their number stays
moved_on : (n m : ℕ) → m ≡ n → (k : ℕ) → k < n → k < m
moved_on n m e k lt = omega arith

module _ (w w' : WorldModel) (h : There w) where
  -- a link changes, and leads to the same node
  set-link : (link : ℕ) (l l' : Link) → slice_get w.links link ≡ Some l → l'.node ≡ l.node → All (λ x. IsNode w.cluster x.node) (slice_set w.links link l')
  set-link link l l' at_l same = All-set (λ (x : Link). IsNode w.cluster x.node) w.links link l' (subst (IsNode w.cluster) (sym same) (all_at (λ (x : Link). IsNode w.cluster x.node) w.links link l at_l h.links)) h.links

  -- the nodes change, and no link or batch does
  stepped : (k : ClusterModel) → w' ≡ record w { cluster = k } → length k.stores ≡ length w.cluster.stores → ((slot : ℕ) → (standing_at k slot).phase ≢ Settled → IsNode w.cluster (standing_at k slot).target) → There w'
  stepped k e size targets = subst There (sym e) (record {
    ups = λ j d lt. moved_on _ _ size _ (h.ups j d lt);
    links = λ j d lt. moved_on _ _ size _ (h.links j d lt);
    targets = λ slot ne. moved_on _ _ size _ (targets slot ne);
  })

  -- a slot changes
  slotted : (slot : ℕ) (s' : SlotStandingModel) → w' ≡ record w { cluster = with_standing w.cluster slot s' } → (s'.phase ≢ Settled → IsNode w.cluster s'.target) → There w'
  slotted slot s' is new = stepped (with_standing w.cluster slot s') is refl (λ q. pick-slot (λ (s : SlotStandingModel). s.phase ≢ Settled → IsNode w.cluster s.target) w.cluster slot s' q (λ _. new) (h.targets q))

moving : (p q : Phase) → p ≡ q → q ≢ Settled → p ≢ Settled
moving p q e ne f = ne (sym e ∙ f)

owning : (p : Phase) → IsSome (after_own p) → p ≢ Settled
owning Settled h = absurd (cc)
owning Imported h = λ x. absurd (cc)
owning Migrated h = λ x. absurd (cc)
owning Owned h = λ x. absurd (cc)
owning Released h = λ x. absurd (cc)
owning Forgotten h = λ x. absurd (cc)

releasing : (p : Phase) → IsSome (after_release p) → p ≢ Settled
releasing Settled h = absurd (cc)
releasing Imported h = λ x. absurd (cc)
releasing Migrated h = λ x. absurd (cc)
releasing Owned h = λ x. absurd (cc)
releasing Released h = λ x. absurd (cc)
releasing Forgotten h = λ x. absurd (cc)

-- a run that some node serves keeps it
pub run-there : (w w' : WorldModel) → There w → (link node : ℕ) (l : Link) (v : Verdict) → slice_get w.links link ≡ Some l → ServesRunAt w node link l v w' → There w'
run-there w w' h link node l v at_l x =
    let l' : Link = record l { requests = x.0; asking = false } in
    let size : length (x.2).stores ≡ length w.cluster.stores = runs-size w.cluster x.2 node (parts_told x.1) (deed_for w.cluster node l.asking (parts_told x.1) v) (tolds_of x.1) x.6 in
    let slots : (x.2).slots ≡ w.cluster.slots = runs-slots w.cluster x.2 node (parts_told x.1) (deed_for w.cluster node l.asking (parts_told x.1) v) (tolds_of x.1) x.6 in
    subst There (sym x.7) (record {
      ups = λ j b lt. moved_on _ _ size _ (h.ups j b lt);
      links = λ j b lt. moved_on _ _ size _ (set-link w w' h link l (all_replied l' x.1) at_l (node-all_replied l' x.1) j b lt);
      targets = λ slot ne. moved_on _ _ size _ (subst (λ (ss : List SlotStandingModel). (standing_at (record w.cluster { slots = ss }) slot).phase ≢ Settled → IsNode w.cluster (standing_at (record w.cluster { slots = ss }) slot).target) (sym slots) (h.targets slot) ne);
    })

-- every event keeps it
pub does-there : (e : Event) (w w' : WorldModel) → There w → WorldDoes w e w' → There w'
does-there (Arrive client part) w w' h d = subst There (sym d.1) (record { ups = h.ups; links = h.links; targets = h.targets })
does-there (Post tickets node) w w' h d =
    let b : Posted = record { tickets = tickets; node = node; asking = (d.0).asking } in
    subst There (sym d.5) (record { ups = All-append (λ (b : Posted). IsNode w.cluster b.node) w.ups (b ∷ []) h.ups (one (λ (b : Posted). IsNode w.cluster b.node) b d.3); links = h.links; targets = h.targets })
does-there (Carry lane link) w w' h d = subst There (sym d.5) (record { ups = All-remove (λ (b : Posted). IsNode w.cluster b.node) w.ups d.0 h.ups; links = links d.4; targets = h.targets })
  where
    links : CarriesOver w link d.1 d.2 → All (λ l. IsNode w.cluster l.node) d.2
    links (inl x) = subst (All (λ (l : Link). IsNode w.cluster l.node)) (sym x.4) (set-link w w' h link x.0 (sent x.0 d.1) x.1 refl)
    links (inr x) = subst (All (λ (l : Link). IsNode w.cluster l.node)) (sym x.1) (All-append (λ (l : Link). IsNode w.cluster l.node) w.links (sent (new_link (d.1).node) d.1 ∷ []) h.links
        (one (λ (l : Link). IsNode w.cluster l.node) (sent (new_link (d.1).node) d.1) (all_at (λ (b : Posted). IsNode w.cluster b.node) w.ups d.0 d.1 d.3.1 h.ups)))
does-there (Refuse lane) w w' h d = subst There (sym d.3) (record { ups = All-remove (λ (b : Posted). IsNode w.cluster b.node) w.ups d.0 h.ups; links = h.links; targets = h.targets })
does-there (Serve link v) w w' h d = go d.2
  where
    go : ServesAsking w link d.0 v w' ⊎ ServesRun w link d.0 v w' → There w'
    go (inl x) = subst There (sym x.3) (record { ups = h.ups; links = set-link w w' h link d.0 (replied (record (d.0) { requests = x.0; asking = true }) Welcome) d.1 (node-replied (record (d.0) { requests = x.0; asking = true }) Welcome); targets = h.targets })
    go (inr x) = run-there w w' h link (d.0).node d.0 v d.1 x
does-there (Fetch link) w w' h d = go d.3
  where
    go : FetchesWelcome w link d.0 w' ⊎ FetchesReply w link d.0 w' → There w'
    go (inl x) = subst There (sym x.2) (record { ups = h.ups; links = set-link w w' h link d.0 (record (d.0) { backs = x.0 }) d.1 refl; targets = h.targets })
    go (inr x) = subst There (sym x.4) (record { ups = h.ups; links = set-link w w' h link d.0 (record (d.0) { backs = x.0 }) d.1 refl; targets = h.targets })
does-there (Take lane) w w' h d = subst There (sym d.7) (record { ups = h.ups; links = h.links; targets = h.targets })
does-there (Drop link) w w' h d = subst There (sym d.3) (record { ups = h.ups; links = set-link w w' h link d.0 (record (d.0) { is_open = false; backs = [] }) d.1 refl; targets = h.targets })
does-there (Discard link) w w' h d = subst There (sym d.4) (record { ups = h.ups; links = set-link w w' h link d.0 (record (d.0) { requests = [] }) d.1 refl; targets = h.targets })
does-there (ev.Answer client) w w' h d = subst There (sym d.8) (record { ups = h.ups; links = h.links; targets = h.targets })
does-there (Import slot target) w w' h d = slotted w w' h slot (imported (standing_at w.cluster slot) target) d.2 (λ _. d.1.1)
does-there (Migrate slot) w w' h d = slotted w w' h slot (in_phase (standing_at w.cluster slot) Migrated) d.1 (λ _. h.targets slot (moving _ Imported d.0 (λ x. absurd (cc))))
does-there (MoveKey slot key) w w' h d = stepped w w' h (move_key_done w.cluster slot key) d.1 (set-size _ _ _ ∙ set-size _ _ _) h.targets
does-there (Own slot) w w' h d = slotted w w' h slot (in_phase (standing_at w.cluster slot) (unwrap_or (after_own (phase_at w.cluster slot)) (phase_at w.cluster slot))) d.1 (λ _. h.targets slot (owning (phase_at w.cluster slot) d.0.0))
does-there (Release slot) w w' h d = slotted w w' h slot (released (standing_at w.cluster slot) (unwrap_or (after_release (phase_at w.cluster slot)) (phase_at w.cluster slot))) d.1 (λ _. h.targets slot (releasing (phase_at w.cluster slot) d.0.0))
does-there (Forget slot) w w' h d = slotted w w' h slot (in_phase (standing_at w.cluster slot) Forgotten) d.1 (λ _. h.targets slot (moving _ Migrated d.0.0 (λ x. absurd (cc))))
does-there (Stay slot) w w' h d = slotted w w' h slot (stayed (standing_at w.cluster slot)) d.1 (λ ne. absurd (ne refl))
