-- Moves keep the data, the history and the ASKs.
use Rattle.std.proofs.Common.{arith, List, ◌≡◌, ◌≢◌, ◌⊎◌, ◌<◌, inl, inr, ⊎_elim, ℕ, Bool, true, false, length, get_or, Some, None, refl, sym, ap, ◌∙◌, subst}
use Rattle.std.specs.Prelude.{IsSome, unwrap_or, Option, All, is_some}
use Rattle.std.specs.FinMap.{empty, get}
use Rattle.std.specs.Str.{bytes_eq}
use Rattle.slot_hash.specs.Slot.{slot_of}
use Rattle.key_split.specs.PartModel.{PartModel, HasOneSlot, keys_of}
use Rattle.world_laws.specs.State.{slot_for}
use Rattle.node_model.specs.Store.{put}
use Rattle.node_model.specs.History.{left_by}
use Rattle.node_model.specs.Standings.{SlotStandingModel, in_phase, imported, released, stayed, after_own, after_release}
use Rattle.node_model.specs.Nodes.{ClusterModel, standing_at, store_at, at, with_standing, with_key}
use Rattle.node_model.specs.declared.standing.Phase.{Phase}
use Rattle.node_model.specs.declared.standing.Phase.TheVariants.{Settled, Imported, Migrated, Owned, Released, Forgotten}
use Rattle.node_model.specs.Moves.{phase_at, move_key_done, MayImport, MayMigrate, MayMoveKey, MayOwn, MayRelease, MayForget, MayStay}
use Rattle.node_model.specs.Laws.{Among}
use Rattle.local_cluster.specs.declared.step.MoveStep.{MoveStep}
use Rattle.local_cluster.specs.declared.step.MoveStep.TheVariants.{Import, Migrate, MoveKey, MoveRest, Own, Release, Forget, Stay}
use Rattle.local_cluster.specs.declared.asked.Asked.{Asked}
use Rattle.local_cluster.specs.Local.{LocalStateModel, MovesLocally, NoneAsked}
use Rattle.world_laws.specs.Homes.{is_bad, IsHome}
use Rattle.local_cluster.specs.Kept.{slot_here, BadAsk, IsGood, IsKept}
use Rattle.node_model.proofs.Keys.{key_tells}
use Rattle.world_laws.proofs.Stores.{all-among}
use Rattle.world_laws.proofs.Homes.{import-home, migrate-home, own-home, release-home, forget-home, stay-home, movekey-home}
use Rattle.world_laws.proofs.Phases.{own-good, release-good, own-moving, release-moving, giving, some-is, some-value}
use Rattle.world_laws.proofs.Homes.{home-same}
use Rattle.local_cluster.proofs.Serving.{all-of}
use Rattle.world_laws.proofs.Nodes.{pick-slot, with_key-hit, with_key-node, with_key-key, holder, size-with_store}

-- a slot's state changes
module _ (s : LocalStateModel) (kept : IsKept s) (slot : ℕ) (s' : SlotStandingModel)
    (apart : s'.phase ≢ Settled → s'.source ≢ s'.target)
    (target : s'.phase ≢ Settled → s'.target < length s.nodes.stores)
    (homes : (key : List ℕ) → slot ≡ slot_of key → IsHome s' (λ m. at s.nodes m key) (get (left_by empty s.history) key))
    (asked : All (λ a. slot ≡ slot_for a.part → (key : List ℕ) → Among key (keys_of a.part) → is_bad s'.phase (is_some (at s.nodes s'.source key)) ≡ true → s'.target ≢ a.node) s.asks) where
  slot-kept : IsKept (record s { nodes = with_standing s.nodes slot s' })
  slot-kept = record {
    apart = λ q. pick-slot (λ (x : SlotStandingModel). x.phase ≢ Settled → x.source ≢ x.target) s.nodes slot s' q (λ _. apart) (kept.apart q);
    targets = λ q. pick-slot (λ (x : SlotStandingModel). x.phase ≢ Settled → x.target < length s.nodes.stores) s.nodes slot s' q (λ _. target) (kept.targets q);
    homes = λ key. pick-slot (λ (x : SlotStandingModel). IsHome x (λ m. at s.nodes m key) (get (left_by empty s.history) key)) s.nodes slot s' (slot_of key) (homes key) (kept.homes key);
    legal = kept.legal;
    asked = λ k d lt. (
      (kept.asked k d lt).0,
      pick-slot (λ (x : SlotStandingModel). ((key : List ℕ) × Among key (keys_of (item k d).part) × (is_bad x.phase (is_some (at s.nodes x.source key)) ≡ true)) → x.target ≢ (item k d).node) s.nodes slot s' (slot_for (item k d).part)
          (λ e b. asked k d lt e b.0 b.1 b.2) (kept.asked k d lt).1,
    );
  }
    where
      item : ℕ → Asked → Asked
      item k d = get_or s.asks k d

module _ (s : LocalStateModel) (kept : IsKept s) where
  -- what the slot of a key says of it
  at-slot : (slot : ℕ) (key : List ℕ) → slot ≡ slot_of key → IsHome (standing_at s.nodes slot) (λ m. at s.nodes m key) (get (left_by empty s.history) key)
  at-slot slot key e = subst (λ q. IsHome (standing_at s.nodes q) (λ m. at s.nodes m key) (get (left_by empty s.history) key)) (sym e) (kept.homes key)

  import-kept : (slot target : ℕ) → NoneAsked s.asks slot target → MayImport s.nodes slot target → IsKept (record s { nodes = with_standing s.nodes slot (imported (standing_at s.nodes slot) target) })
  import-kept slot target none may =
      slot-kept s kept slot (imported (standing_at s.nodes slot) target)
      (λ _. may.2)
      (λ _. may.1)
      (λ key e. import-home (standing_at s.nodes slot) target (λ m. at s.nodes m key) (get (left_by empty s.history) key) may.0 (at-slot slot key e))
      (λ k d lt e key among bad same. none k d lt (sym e) (sym same))

  migrate-kept : (slot : ℕ) → MayMigrate s.nodes slot → IsKept (record s { nodes = with_standing s.nodes slot (in_phase (standing_at s.nodes slot) Migrated) })
  migrate-kept slot may =
      slot-kept s kept slot (in_phase (standing_at s.nodes slot) Migrated)
      (λ _. apart)
      (λ _. kept.targets slot moving)
      (λ key e. migrate-home (standing_at s.nodes slot) (λ m. at s.nodes m key) (get (left_by empty s.history) key) may apart (at-slot slot key e))
      (λ k d lt e key among bad. none (get_or s.asks k d) (kept.asked k d lt) e)
    where
      moving : (standing_at s.nodes slot).phase ≢ Settled
      moving = subst (λ p. p ≢ Settled) (sym may) (λ x. absurd (cc))

      apart : (standing_at s.nodes slot).source ≢ (standing_at s.nodes slot).target
      apart = kept.apart slot moving

      -- no ASK had been given yet
      none : (a : Asked) → IsGood s.nodes a → slot ≡ slot_for a.part → (standing_at s.nodes slot).target ≢ a.node
      none a good e =
          let here : slot_here s.nodes a.part ≡ standing_at s.nodes slot = ap (standing_at s.nodes) (sym e) in
          let bad : BadAsk s.nodes a.part = (a.part.key, inl refl, subst (λ (x : SlotStandingModel). is_bad x.phase (is_some (at s.nodes x.source a.part.key)) ≡ true) (sym here) (ap (λ p. is_bad p (is_some (at s.nodes (standing_at s.nodes slot).source a.part.key))) may)) in
          subst (λ (x : SlotStandingModel). x.target ≢ a.node) here (good.1 bad)

  own-kept : (slot : ℕ) → MayOwn s.nodes slot → IsKept (record s { nodes = with_standing s.nodes slot (in_phase (standing_at s.nodes slot) (unwrap_or (after_own (phase_at s.nodes slot)) (phase_at s.nodes slot))) })
  own-kept slot may =
      let p : Phase = phase_at s.nodes slot in
      let q : Phase = unwrap_or (after_own p) p in
      let e : after_own p ≡ Some q = some-is (after_own p) p may.0 in
      slot-kept s kept slot (in_phase (standing_at s.nodes slot) q)
      (λ _. kept.apart slot (own-moving p q e))
      (λ _. kept.targets slot (own-moving p q e))
      (λ key x. own-home (standing_at s.nodes slot) q (λ m. at s.nodes m key) (get (left_by empty s.history) key) e (may.1 key (sym x)) (at-slot slot key x))
      (λ k d lt x key among bad. let no : is_bad q (is_some (at s.nodes (standing_at s.nodes slot).source key)) ≡ false = own-good p q _ e in absurd (cc))

  release-kept : (slot : ℕ) → MayRelease s.nodes slot → IsKept (record s { nodes = with_standing s.nodes slot (released (standing_at s.nodes slot) (unwrap_or (after_release (phase_at s.nodes slot)) (phase_at s.nodes slot))) })
  release-kept slot may =
      let p : Phase = phase_at s.nodes slot in
      let q : Phase = unwrap_or (after_release p) p in
      let e : after_release p ≡ Some q = some-is (after_release p) p may.0 in
      slot-kept s kept slot (released (standing_at s.nodes slot) q)
      (λ _. kept.apart slot (release-moving p q e))
      (λ _. kept.targets slot (release-moving p q e))
      (λ key x. release-home (standing_at s.nodes slot) q _ (λ m. at s.nodes m key) (get (left_by empty s.history) key) e (may.1 key (sym x)) (at-slot slot key x))
      (λ k d lt x key among bad. let no : is_bad q (is_some (at s.nodes (standing_at s.nodes slot).source key)) ≡ false = release-good p q _ e in absurd (cc))

  forget-kept : (slot : ℕ) → MayForget s.nodes slot → IsKept (record s { nodes = with_standing s.nodes slot (in_phase (standing_at s.nodes slot) Forgotten) })
  forget-kept slot may =
      let moving : (standing_at s.nodes slot).phase ≢ Settled = subst (λ p. p ≢ Settled) (sym may.0) (λ x. absurd (cc)) in
      slot-kept s kept slot (in_phase (standing_at s.nodes slot) Forgotten)
      (λ _. kept.apart slot moving)
      (λ _. kept.targets slot moving)
      (λ key x. forget-home (standing_at s.nodes slot) (λ m. at s.nodes m key) (get (left_by empty s.history) key) may.0 (may.1 key (sym x)) (at-slot slot key x))
      (λ k d lt x key among bad. absurd (cc))

  stay-kept : (slot : ℕ) → MayStay s.nodes slot → IsKept (record s { nodes = with_standing s.nodes slot (stayed (standing_at s.nodes slot)) })
  stay-kept slot may =
      slot-kept s kept slot (stayed (standing_at s.nodes slot))
      (λ x. absurd (x refl))
      (λ x. absurd (x refl))
      (λ key x. stay-home (standing_at s.nodes slot) _ (λ m. at s.nodes m key) (get (left_by empty s.history) key) may (at-slot slot key x))
      (λ k d lt x key among bad. absurd (cc))

  movekey-kept : (slot : ℕ) (key : List ℕ) → MayMoveKey s.nodes slot key → IsKept (record s { nodes = move_key_done s.nodes slot key })
  movekey-kept slot key may = record {
    apart = kept.apart;
    targets = λ q moving. (let more : length k'.stores ≡ length s.nodes.stores = size-with_store k1 (standing_at s.nodes slot).source _ ∙ size-with_store s.nodes (standing_at s.nodes slot).target _ in omega (arith, more, kept.targets q moving));
    homes = data-after;
    legal = kept.legal;
    asked = all-of (IsGood s.nodes) (IsGood k') s.asks (λ a good. (good.0, λ b. good.1 (back a.part good.0 b))) kept.asked;
  }
    where
      sl : SlotStandingModel
      sl = standing_at s.nodes slot

      held : Option (List ℕ)
      held = at s.nodes (standing_at s.nodes slot).source key

      k1 : ClusterModel
      k1 = with_key s.nodes (standing_at s.nodes slot).target key (at s.nodes (standing_at s.nodes slot).source key)

      k' : ClusterModel
      k' = move_key_done s.nodes slot key

      value : (v : List ℕ) × (at s.nodes (standing_at s.nodes slot).source key ≡ Some v)
      value = some-value (at s.nodes (standing_at s.nodes slot).source key) may.2

      here : standing_at s.nodes (slot_of key) ≡ standing_at s.nodes slot
      here = ap (standing_at s.nodes) may.1

      moving : (standing_at s.nodes slot).phase ≢ Settled
      moving = (giving (standing_at s.nodes slot).phase may.0).0

      apart : (standing_at s.nodes slot).source ≢ (standing_at s.nodes slot).target
      apart = kept.apart slot moving

      gone : at k' (standing_at s.nodes slot).source key ≡ None
      gone = with_key-hit k1 sl.source key None (omega (arith, size-with_store s.nodes sl.target (put (store_at s.nodes sl.target) key held), holder s.nodes sl.source key value.0 value.1))

      come : at k' (standing_at s.nodes slot).target key ≡ Some value.0
      come = with_key-node k1 sl.source key None sl.target key (λ x. apart (sym x)) ∙ with_key-hit s.nodes sl.target key held (kept.targets slot moving) ∙ value.1

      rest : (n : ℕ) → n ≢ (standing_at s.nodes slot).source → n ≢ (standing_at s.nodes slot).target → at k' n key ≡ at s.nodes n key
      rest n x y = with_key-node k1 sl.source key None n key x ∙ with_key-node s.nodes sl.target key held n key y

      others : (n : ℕ) (q : List ℕ) → key ≢ q → at k' n q ≡ at s.nodes n q
      others n q ne = with_key-key k1 sl.source key None n q ne ∙ with_key-key s.nodes sl.target key held n q ne

      data-after : (q : List ℕ) → IsHome (standing_at s.nodes (slot_of q)) (λ n. at k' n q) (get (left_by empty s.history) q)
      data-after q = ⊎_elim
          (λ (x : (bytes_eq key q ≡ true) × (key ≡ q)).
          subst (λ z. IsHome (standing_at s.nodes (slot_of z)) (λ n. at k' n z) (get (left_by empty s.history) z)) x.1
          (subst (λ z. IsHome z (λ n. at k' n key) (get (left_by empty s.history) key)) (sym here)
          (movekey-home (standing_at s.nodes slot) (λ n. at s.nodes n key) (λ n. at k' n key) (get (left_by empty s.history) key) (λ _. apart) value.0 may.0 value.1 gone come rest
          (subst (λ z. IsHome z (λ n. at s.nodes n key) (get (left_by empty s.history) key)) here (kept.homes key)))))
          (λ (x : (bytes_eq key q ≡ false) × (key ≢ q)). home-same (standing_at s.nodes (slot_of q)) (λ n. at s.nodes n q) (λ n. at k' n q) (get (left_by empty s.history) q) (λ n. others n q x.1) (kept.homes q))
          (key_tells key q)

      -- the key that moved can't make an ASK bad
      never : is_bad (standing_at s.nodes slot).phase (is_some (at k' (standing_at s.nodes slot).source key)) ≡ true → ⊥
      never b = let no : is_bad (standing_at s.nodes slot).phase false ≡ true = ap (λ o. is_bad (standing_at s.nodes slot).phase (is_some o)) (sym gone) ∙ b in let yes' : is_bad (standing_at s.nodes slot).phase false ≡ false = (giving (standing_at s.nodes slot).phase may.0).1 in cc

      back : (part : PartModel) → HasOneSlot part → BadAsk k' part → BadAsk s.nodes part
      back part one b = (
        b.0,
        b.1,
        ⊎_elim
            (λ (x : (bytes_eq key b.0 ≡ true) × (key ≡ b.0)). absurd (never (subst (λ (z : SlotStandingModel × List ℕ). is_bad z.0.phase (is_some (at k' z.0.source z.1)) ≡ true) (λ i. (is x.1 i, sym x.1 i)) b.2)))
            (λ (x : (bytes_eq key b.0 ≡ false) × (key ≢ b.0)). subst (λ o. is_bad (slot_here s.nodes part).phase (is_some o) ≡ true) (others (slot_here s.nodes part).source b.0 x.1) b.2)
            (key_tells key b.0),
      )
        where
          is : key ≡ b.0 → slot_here s.nodes part ≡ standing_at s.nodes slot
          is x = ap (standing_at s.nodes) (sym (all-among (λ q. slot_of q ≡ slot_for part) (keys_of part) b.0 one b.1) ∙ ap slot_of (sym x)) ∙ here

-- every step keeps it
pub move-kept : (s : LocalStateModel) (step : MoveStep) (k : ClusterModel) → IsKept s → MovesLocally s step k → IsKept (record s { nodes = k })
move-kept s (Import slot target) k kept m = subst (λ (x : ClusterModel). IsKept (record s { nodes = x })) (sym m.1.1) (import-kept s kept slot target m.0 m.1.0)
move-kept s (Migrate slot) k kept m = subst (λ (x : ClusterModel). IsKept (record s { nodes = x })) (sym m.1.1) (migrate-kept s kept slot m.1.0)
move-kept s (MoveKey slot key) k kept m = subst (λ (x : ClusterModel). IsKept (record s { nodes = x })) (sym m.1.1) (movekey-kept s kept slot key m.1.0)
move-kept s (MoveRest slot) k kept m = subst (λ (x : ClusterModel). IsKept (record s { nodes = x })) (sym m.1.3) (movekey-kept s kept slot m.1.0 m.1.2)
move-kept s (Own slot) k kept m = subst (λ (x : ClusterModel). IsKept (record s { nodes = x })) (sym m.1.1) (own-kept s kept slot m.1.0)
move-kept s (Release slot) k kept m = subst (λ (x : ClusterModel). IsKept (record s { nodes = x })) (sym m.1.1) (release-kept s kept slot m.1.0)
move-kept s (Forget slot) k kept m = subst (λ (x : ClusterModel). IsKept (record s { nodes = x })) (sym m.1.1) (forget-kept s kept slot m.1.0)
move-kept s (Stay slot) k kept m = subst (λ (x : ClusterModel). IsKept (record s { nodes = x })) (sym m.1.1) (stay-kept s kept slot m.1.0)
