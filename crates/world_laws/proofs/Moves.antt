-- Moves keep the data and the commands that ASK sent; and so every event, and every run.
use Rattle.std.proofs.Common.{arith, List, ◌≡◌, ◌≢◌, ◌⊎◌, inl, inr, ⊎_elim, ℕ, true, false, Some, None, refl, sym, ap, ◌∙◌, subst}
use Rattle.std.specs.Prelude.{slice_get, unwrap_or, Option}
use Rattle.std.specs.FinMap.{get}
use Rattle.std.specs.Str.{bytes_eq}
use Rattle.std.specs.Prelude.{is_some}
use Rattle.slot_hash.specs.Slot.{slot_of}
use Rattle.key_split.specs.PartModel.{HasOneSlot, keys_of}
use Rattle.world_laws.specs.State.{WorldModel, Arrival, Link, slot_for}
use Rattle.world_laws.specs.Places.{tally, asks}
use Rattle.node_model.specs.Store.{put}
use Rattle.node_model.specs.History.{left_by}
use Rattle.node_model.specs.Standings.{SlotStandingModel, in_phase, imported, released, stayed}
use Rattle.node_model.specs.Nodes.{ClusterModel, standing_at, store_at, at, with_standing, with_key}
use Rattle.node_model.specs.declared.standing.Phase.{Phase}
use Rattle.node_model.specs.declared.standing.Phase.TheVariants.{Settled, Migrated, Forgotten}
use Rattle.node_model.specs.Standings.{after_own, after_release}
use Rattle.node_model.specs.Moves.{phase_at, move_key_done}
use Rattle.world_laws.specs.World.{IsNode, WorldDoes, ServesAsking, ServesRun}
use Rattle.world_laws.specs.declared.event.Event.{Event}
use Rattle.world_laws.specs.declared.event.Event.TheVariants.{Arrive, Post, Carry, Refuse, Serve, Fetch, Take, Drop, Discard, Import, Migrate, MoveKey, Own, Release, Forget, Stay}
use Rattle.world_laws.specs.declared.event.Event.TheVariants as ev
use Rattle.world_laws.proofs.Flow.{all_at}
use Rattle.world_laws.proofs.Placed.{Standing}
use Rattle.node_model.specs.Laws.{Among}
use Rattle.node_model.proofs.Keys.{key_tells}
use Rattle.world_laws.proofs.Stores.{all-among}
use Rattle.world_laws.specs.Homes.{IsHome, is_bad}
use Rattle.world_laws.proofs.Homes.{home-same, import-home, migrate-home, own-home, release-home, forget-home, stay-home, movekey-home}
use Rattle.world_laws.proofs.Kept.{Kept, IsAsked, BadAsk, slot_here, asking-kept, arrive-kept, post-kept, take-kept, answer-kept, carry-kept, refuse-kept, fetch-kept, discard-kept, drop-kept}
use Rattle.world_laws.proofs.Phases.{own-good, release-good, own-moving, release-moving, giving, some-is, some-value}
use Rattle.world_laws.proofs.Serves.{all_from, run-kept}
use Rattle.world_laws.proofs.There.{There}
use Rattle.world_laws.proofs.Turns.{Turned}
use Rattle.world_laws.proofs.Nodes.{pick-slot, with_key-hit, with_key-node, with_key-key, holder, size-with_store}

-- a slot's state changes
module _ (w w' : WorldModel) (s : Kept w) (slot : ℕ) (s' : SlotStandingModel) (is : w' ≡ record w { cluster = with_standing w.cluster slot s' })
    (apart : s'.phase ≢ Settled → s'.source ≢ s'.target)
    (homes : (key : List ℕ) → slot ≡ slot_of key → IsHome s' (λ m. at w.cluster m key) (get (left_by w.initial w.history) key))
    (asked : (j : ℕ) (c : Arrival) → slice_get w.commands j ≡ Some c → slot ≡ slot_for c.command.part → (key : List ℕ) → Among key (keys_of c.command.part) → is_bad s'.phase (is_some (at w.cluster s'.source key)) ≡ true → tally (asks s'.target c.command.ticket) w ≡ 0) where
  slot-kept : Kept w'
  slot-kept = subst Kept (sym is) (record {
    apart = λ q. pick-slot (λ (x : SlotStandingModel). x.phase ≢ Settled → x.source ≢ x.target) w.cluster slot s' q (λ _. apart) (s.apart q);
    data' = λ key. pick-slot (λ (x : SlotStandingModel). IsHome x (λ m. at w.cluster m key) (get (left_by w.initial w.history) key)) w.cluster slot s' (slot_of key) (homes key) (s.data' key);
    legal = s.legal;
    asked = all_from (λ c. IsAsked (record w { cluster = with_standing w.cluster slot s' }) c.command.ticket c.command.part) w.commands (λ j c at_c. (
      (all_at (λ x. IsAsked w x.command.ticket x.command.part) w.commands j c at_c s.asked).0,
      pick-slot (λ (x : SlotStandingModel). ((key : List ℕ) × Among key (keys_of c.command.part) × (is_bad x.phase (is_some (at w.cluster x.source key)) ≡ true)) → tally (asks x.target c.command.ticket) w ≡ 0) w.cluster slot s' (slot_for c.command.part)
          (λ e b. asked j c at_c e b.0 b.1 b.2) (all_at (λ x. IsAsked w x.command.ticket x.command.part) w.commands j c at_c s.asked).1,
    ));
  })

module _ (w w' : WorldModel) (t : There w) (s : Kept w) where
  -- what the slot of a key says of it
  at-slot : (slot : ℕ) (key : List ℕ) → slot ≡ slot_of key → IsHome (standing_at w.cluster slot) (λ m. at w.cluster m key) (get (left_by w.initial w.history) key)
  at-slot slot key e = subst (λ q. IsHome (standing_at w.cluster q) (λ m. at w.cluster m key) (get (left_by w.initial w.history) key)) (sym e) (s.data' key)

  import-kept : (slot target : ℕ) → WorldDoes w (Import slot target) w' → Kept w'
  import-kept slot target d =
      slot-kept w w' s slot (imported (standing_at w.cluster slot) target) d.2
      (λ _. d.1.2)
      (λ key e. import-home (standing_at w.cluster slot) target (λ m. at w.cluster m key) (get (left_by w.initial w.history) key) d.1.0 (at-slot slot key e))
      (λ j c at_c e key k b. all_at (λ (x : Arrival). slot_for x.command.part ≡ slot → tally (asks target x.command.ticket) w ≡ 0) w.commands j c at_c d.0 (sym e))

  migrate-kept : (slot : ℕ) → WorldDoes w (Migrate slot) w' → Kept w'
  migrate-kept slot d =
      slot-kept w w' s slot (in_phase (standing_at w.cluster slot) Migrated) d.1
      (λ _. apart)
      (λ key e. migrate-home (standing_at w.cluster slot) (λ m. at w.cluster m key) (get (left_by w.initial w.history) key) d.0 apart (at-slot slot key e))
      (λ j c at_c e key k b. none j c at_c e)
    where
      apart : (standing_at w.cluster slot).source ≢ (standing_at w.cluster slot).target
      apart = s.apart slot (subst (λ p. p ≢ Settled) (sym d.0) (λ x. absurd (cc)))

      -- no ASK had been given yet
      none : (j : ℕ) (c : Arrival) → slice_get w.commands j ≡ Some c → slot ≡ slot_for c.command.part → tally (asks (standing_at w.cluster slot).target c.command.ticket) w ≡ 0
      none j c at_c e =
          let here : slot_here w.cluster c.command.part ≡ standing_at w.cluster slot = ap (standing_at w.cluster) (sym e) in
          let bad : BadAsk w.cluster c.command.part = (c.command.part.key, inl refl, subst (λ (x : SlotStandingModel). is_bad x.phase (is_some (at w.cluster x.source c.command.part.key)) ≡ true) (sym here) (ap (λ p. is_bad p (is_some (at w.cluster (standing_at w.cluster slot).source c.command.part.key))) d.0)) in
          subst (λ (x : SlotStandingModel). tally (asks x.target c.command.ticket) w ≡ 0) here ((all_at (λ (x : Arrival). IsAsked w x.command.ticket x.command.part) w.commands j c at_c s.asked).1 bad)

  own-kept : (slot : ℕ) → WorldDoes w (Own slot) w' → Kept w'
  own-kept slot d =
      let p : Phase = phase_at w.cluster slot in
      let q : Phase = unwrap_or (after_own p) p in
      let e : after_own p ≡ Some q = some-is (after_own p) p d.0.0 in
      slot-kept w w' s slot (in_phase (standing_at w.cluster slot) q) d.1
      (λ _. s.apart slot (own-moving p q e))
      (λ key x. own-home (standing_at w.cluster slot) q (λ m. at w.cluster m key) (get (left_by w.initial w.history) key) e (d.0.1 key (sym x)) (at-slot slot key x))
      (λ j c at_c x key k b. let no : is_bad q (is_some (at w.cluster (standing_at w.cluster slot).source key)) ≡ false = own-good p q _ e in absurd (cc))

  release-kept : (slot : ℕ) → WorldDoes w (Release slot) w' → Kept w'
  release-kept slot d =
      let p : Phase = phase_at w.cluster slot in
      let q : Phase = unwrap_or (after_release p) p in
      let e : after_release p ≡ Some q = some-is (after_release p) p d.0.0 in
      slot-kept w w' s slot (released (standing_at w.cluster slot) q) d.1
      (λ _. s.apart slot (release-moving p q e))
      (λ key x. release-home (standing_at w.cluster slot) q _ (λ m. at w.cluster m key) (get (left_by w.initial w.history) key) e (d.0.1 key (sym x)) (at-slot slot key x))
      (λ j c at_c x key k b. let no : is_bad q (is_some (at w.cluster (standing_at w.cluster slot).source key)) ≡ false = release-good p q _ e in absurd (cc))

  forget-kept : (slot : ℕ) → WorldDoes w (Forget slot) w' → Kept w'
  forget-kept slot d =
      slot-kept w w' s slot (in_phase (standing_at w.cluster slot) Forgotten) d.1
      (λ _. s.apart slot (subst (λ p. p ≢ Settled) (sym d.0.0) (λ x. absurd (cc))))
      (λ key x. forget-home (standing_at w.cluster slot) (λ m. at w.cluster m key) (get (left_by w.initial w.history) key) d.0.0 (d.0.1 key (sym x)) (at-slot slot key x))
      (λ j c at_c x key k b. absurd (cc))

  stay-kept : (slot : ℕ) → WorldDoes w (Stay slot) w' → Kept w'
  stay-kept slot d =
      slot-kept w w' s slot (stayed (standing_at w.cluster slot)) d.1
      (λ x. absurd (x refl))
      (λ key x. stay-home (standing_at w.cluster slot) _ (λ m. at w.cluster m key) (get (left_by w.initial w.history) key) d.0 (at-slot slot key x))
      (λ j c at_c x key k b. absurd (cc))

  movekey-kept : (slot : ℕ) (key : List ℕ) → WorldDoes w (MoveKey slot key) w' → Kept w'
  movekey-kept slot key d = subst Kept (sym d.1) (record {
    apart = s.apart;
    data' = data-after;
    legal = s.legal;
    asked = all_from (λ (c : Arrival). IsAsked (record w { cluster = k' }) c.command.ticket c.command.part) w.commands (λ j c at_c. let was = all_at (λ (x : Arrival). IsAsked w x.command.ticket x.command.part) w.commands j c at_c s.asked in (was.0, λ b. was.1 (back c was.0 b)));
  })
    where
      sl : SlotStandingModel
      sl = standing_at w.cluster slot

      held : Option (List ℕ)
      held = at w.cluster (standing_at w.cluster slot).source key

      k1 : ClusterModel
      k1 = with_key w.cluster (standing_at w.cluster slot).target key (at w.cluster (standing_at w.cluster slot).source key)

      k' : ClusterModel
      k' = move_key_done w.cluster slot key

      value : (v : List ℕ) × (at w.cluster (standing_at w.cluster slot).source key ≡ Some v)
      value = some-value (at w.cluster (standing_at w.cluster slot).source key) d.0.2

      here : standing_at w.cluster (slot_of key) ≡ standing_at w.cluster slot
      here = ap (standing_at w.cluster) d.0.1

      moving : (standing_at w.cluster slot).phase ≢ Settled
      moving = (giving (standing_at w.cluster slot).phase d.0.0).0

      apart : (standing_at w.cluster slot).source ≢ (standing_at w.cluster slot).target
      apart = s.apart slot moving

      gone : at k' (standing_at w.cluster slot).source key ≡ None
      gone = with_key-hit k1 sl.source key None (omega (arith, size-with_store w.cluster sl.target (put (store_at w.cluster sl.target) key held), holder w.cluster sl.source key value.0 value.1))

      come : at k' (standing_at w.cluster slot).target key ≡ Some value.0
      come = with_key-node k1 sl.source key None sl.target key (λ x. apart (sym x)) ∙ with_key-hit w.cluster sl.target key held (t.targets slot moving) ∙ value.1

      rest : (n : ℕ) → n ≢ (standing_at w.cluster slot).source → n ≢ (standing_at w.cluster slot).target → at k' n key ≡ at w.cluster n key
      rest n x y = with_key-node k1 sl.source key None n key x ∙ with_key-node w.cluster sl.target key held n key y

      others : (n : ℕ) (q : List ℕ) → key ≢ q → at k' n q ≡ at w.cluster n q
      others n q ne = with_key-key k1 sl.source key None n q ne ∙ with_key-key w.cluster sl.target key held n q ne

      data-after : (q : List ℕ) → IsHome (standing_at w.cluster (slot_of q)) (λ n. at k' n q) (get (left_by w.initial w.history) q)
      data-after q = ⊎_elim
          (λ (x : (bytes_eq key q ≡ true) × (key ≡ q)).
          subst (λ z. IsHome (standing_at w.cluster (slot_of z)) (λ n. at k' n z) (get (left_by w.initial w.history) z)) x.1
          (subst (λ z. IsHome z (λ n. at k' n key) (get (left_by w.initial w.history) key)) (sym here)
          (movekey-home (standing_at w.cluster slot) (λ n. at w.cluster n key) (λ n. at k' n key) (get (left_by w.initial w.history) key) (λ _. apart) value.0 d.0.0 value.1 gone come rest
          (subst (λ z. IsHome z (λ n. at w.cluster n key) (get (left_by w.initial w.history) key)) here (s.data' key)))))
          (λ (x : (bytes_eq key q ≡ false) × (key ≢ q)). home-same (standing_at w.cluster (slot_of q)) (λ n. at w.cluster n q) (λ n. at k' n q) (get (left_by w.initial w.history) q) (λ n. others n q x.1) (s.data' q))
          (key_tells key q)

      -- the key that moved can't make an ASK bad
      never : is_bad (standing_at w.cluster slot).phase (is_some (at k' (standing_at w.cluster slot).source key)) ≡ true → ⊥
      never b = let no : is_bad (standing_at w.cluster slot).phase false ≡ true = ap (λ o. is_bad (standing_at w.cluster slot).phase (is_some o)) (sym gone) ∙ b in let yes' : is_bad (standing_at w.cluster slot).phase false ≡ false = (giving (standing_at w.cluster slot).phase d.0.0).1 in cc

      back : (c : Arrival) → HasOneSlot c.command.part → BadAsk k' c.command.part → BadAsk w.cluster c.command.part
      back c one b = (
        b.0,
        b.1,
        ⊎_elim
            (λ (x : (bytes_eq key b.0 ≡ true) × (key ≡ b.0)). absurd (never (subst (λ (z : SlotStandingModel × List ℕ). is_bad z.0.phase (is_some (at k' z.0.source z.1)) ≡ true) (λ i. (is x.1 i, sym x.1 i)) b.2)))
            (λ (x : (bytes_eq key b.0 ≡ false) × (key ≢ b.0)). subst (λ o. is_bad (slot_here w.cluster c.command.part).phase (is_some o) ≡ true) (others (slot_here w.cluster c.command.part).source b.0 x.1) b.2)
            (key_tells key b.0),
      )
        where
          is : key ≡ b.0 → slot_here w.cluster c.command.part ≡ standing_at w.cluster slot
          is x = ap (standing_at w.cluster) (sym (all-among (λ q. slot_of q ≡ slot_for c.command.part) (keys_of c.command.part) b.0 one b.1) ∙ ap slot_of (sym x)) ∙ here

-- every event keeps it
pub does-kept : (e : Event) (w w' : WorldModel) → Standing w → There w → Turned w → Kept w → WorldDoes w e w' → Kept w'
does-kept (Arrive client part) w w' h t u s d = arrive-kept w w' h s client part d
does-kept (Post tickets node) w w' h t u s d = post-kept w w' s tickets node d
does-kept (Carry lane link) w w' h t u s d = carry-kept w w' s lane link h.tidy d
does-kept (Refuse lane) w w' h t u s d = refuse-kept w w' s lane d
does-kept (Serve link v) w w' h t u s d = go d.2
  where
    go : ServesAsking w link d.0 v w' ⊎ ServesRun w link d.0 v w' → Kept w'
    go (inl x) = asking-kept w w' s link d.0 v d.1 x
    go (inr x) = run-kept w w' h t s u link (d.0).node d.0 v d.1 (all_at (λ (x : Link). IsNode w.cluster x.node) w.links link d.0 d.1 t.links) (λ _. refl) x
does-kept (Fetch link) w w' h t u s d = fetch-kept w w' s link d
does-kept (Take lane) w w' h t u s d = take-kept w w' s lane d
does-kept (Drop link) w w' h t u s d = drop-kept w w' s link d
does-kept (Discard link) w w' h t u s d = discard-kept w w' s link d
does-kept (ev.Answer client) w w' h t u s d = answer-kept w w' s client d
does-kept (Import slot target) w w' h t u s d = import-kept w w' t s slot target d
does-kept (Migrate slot) w w' h t u s d = migrate-kept w w' t s slot d
does-kept (MoveKey slot key) w w' h t u s d = movekey-kept w w' t s slot key d
does-kept (Own slot) w w' h t u s d = own-kept w w' t s slot d
does-kept (Release slot) w w' h t u s d = release-kept w w' t s slot d
does-kept (Forget slot) w w' h t u s d = forget-kept w w' t s slot d
does-kept (Stay slot) w w' h t u s d = stay-kept w w' t s slot d
