-- What the state keeps makes it sound; and a new cluster has it.
use Rattle.std.proofs.Common.{◌≡◌, ◌≢◌, ◌⊎◌, inl, inr, ⊎_elim, ◌==◌, ℕ, Bool, true, false, List, [], get_or, Some, None, Option, refl, sym, ap, ◌∙◌, subst, arith}
use Rattle.std.specs.Prelude.{if◌then◌else◌, is_some}
use Rattle.std.proofs.lemmas.Bool.Decides.{eqb_tells}
use Rattle.std.specs.FinMap.{empty, get, get-empty}
use Rattle.std.specs.Ordering.{nat_cmp}
use Rattle.std.specs.Cmp.Lexicographic.{slice_cmp}
use Rattle.slot_hash.specs.Slot.{slot_of}
use Rattle.key_split.specs.PartModel.{keys_of}
use Rattle.node_model.specs.History.{left_by}
use Rattle.node_model.specs.Laws.{Among}
use Rattle.node_model.specs.Standings.{SlotStandingModel, sends_to}
use Rattle.node_model.specs.Nodes.{ClusterModel, at, role_in, role_of, source_role, standing_at, target_role}
use Rattle.node_model.specs.declared.role.Role.TheVariants.{Importing, Away}
use Rattle.node_model.specs.declared.standing.Phase.{Phase}
use Rattle.node_model.specs.declared.standing.Phase.TheVariants.{Settled, Imported, Migrated, Owned, Released, Forgotten}
use Rattle.world_laws.specs.Headline.{IsNew}
use Rattle.world_laws.specs.State.{slot_for}
use Rattle.local_cluster.specs.declared.asked.Asked.{Asked}
use Rattle.local_cluster.specs.Local.{LocalStateModel, IsSound}
use Rattle.world_laws.specs.Homes.{home, home_in, is_bad, IsHome}
use Rattle.local_cluster.specs.Kept.{slot_here, IsGood, IsKept}
use Rattle.world_laws.proofs.Stores.{all-among}

-- who imports is the target, and the source is that of the standing
importer : (s : SlotStandingModel) (n source : ℕ) → role_in s n ≡ Importing source → (s.target ≡ n) × (s.source ≡ source) × ((s.phase ≡ Imported) ⊎ ((s.phase ≡ Migrated) ⊎ (s.phase ≡ Released)))
importer s n source e = go (s.target == n) refl (eqb_tells s.target n) (s.source == n) e
  where
    of-target : (p : Phase) → s.phase ≡ p → target_role p s.source ≡ Importing source → (s.source ≡ source) × ((s.phase ≡ Imported) ⊎ ((s.phase ≡ Migrated) ⊎ (s.phase ≡ Released)))
    of-target Imported is e = (let same : s.source ≡ source = cc in same, inl is)
    of-target Migrated is e = (let same : s.source ≡ source = cc in same, inr (inl is))
    of-target Released is e = (let same : s.source ≡ source = cc in same, inr (inr is))
    of-target Settled is e = absurd (cc)
    of-target Owned is e = absurd (cc)
    of-target Forgotten is e = absurd (cc)

    not-source : (p : Phase) (to away : ℕ) → source_role p to away ≡ Importing source → ⊥
    not-source Settled to away e = cc
    not-source Imported to away e = cc
    not-source Migrated to away e = cc
    not-source Owned to away e = cc
    not-source Released to away e = cc
    not-source Forgotten to away e = cc

    go : (b : Bool) → (s.target == n) ≡ b → (((s.target == n) ≡ true) × (s.target ≡ n)) ⊎ (((s.target == n) ≡ false) × (s.target ≢ n)) → (c : Bool)
        → (if s.target == n then target_role s.phase s.source else (if c then source_role s.phase s.target (sends_to s.sends s.first n) else Away (sends_to s.sends s.first n))) ≡ Importing source
        → (s.target ≡ n) × (s.source ≡ source) × ((s.phase ≡ Imported) ⊎ ((s.phase ≡ Migrated) ⊎ (s.phase ≡ Released)))
    go true x (inl t) c e =
        let role : target_role s.phase s.source ≡ Importing source = sym (ap (λ b. if b then target_role s.phase s.source else (if c then source_role s.phase s.target (sends_to s.sends s.first n) else Away (sends_to s.sends s.first n))) x) ∙ e in
        let so = of-target s.phase refl role in (t.1, so.0, so.1)
    go true x (inr t) c e = absurd (cc)
    go false x (inl t) c e = absurd (cc)
    go false x (inr t) true e = absurd (not-source s.phase s.target (sends_to s.sends s.first n) (sym (ap (λ b. if b then target_role s.phase s.source else source_role s.phase s.target (sends_to s.sends s.first n)) x) ∙ e))
    go false x (inr t) false e = absurd (let away : Away (sends_to s.sends s.first n) ≡ Importing source = sym (ap (λ b. if b then target_role s.phase s.source else Away (sends_to s.sends s.first n)) x) ∙ e in cc)

module _ (s : LocalStateModel) (kept : IsKept s) where
  at-home : (key : List ℕ) (n : ℕ) (a : List ℕ) → at s.nodes n key ≡ Some a → n ≡ home_in (standing_at s.nodes (slot_of key)) (λ x. at s.nodes x key)
  at-home key n a p = ⊎_elim (λ (x : ((n == home_in (standing_at s.nodes (slot_of key)) (λ x. at s.nodes x key)) ≡ true) × (n ≡ home_in (standing_at s.nodes (slot_of key)) (λ x. at s.nodes x key))). x.1)
      (λ (x : ((n == home_in (standing_at s.nodes (slot_of key)) (λ x. at s.nodes x key)) ≡ false) × (n ≢ home_in (standing_at s.nodes (slot_of key)) (λ x. at s.nodes x key))). let none : at s.nodes n key ≡ None = (kept.homes key).others n x.1 in absurd (cc))
      (eqb_tells n (home_in (standing_at s.nodes (slot_of key)) (λ x. at s.nodes x key)))

  -- the source of an ASK that may be followed holds none of its keys
  source-empty : (a : Asked) → IsGood s.nodes a → (source : ℕ) → role_of s.nodes a.node (slot_for a.part) ≡ Importing source → (key : List ℕ) → Among key (keys_of a.part) → at s.nodes source key ≡ None
  source-empty a good source role key among =
      let w = importer (slot_here s.nodes a.part) a.node source role in
      let sl : SlotStandingModel = slot_here s.nodes a.part in
      let bad-none : is_bad sl.phase (is_some (at s.nodes sl.source key)) ≡ true → ⊥ = λ bad. good.1 (key, among, bad) w.0 in
      subst (λ n. at s.nodes n key ≡ None) w.1 (by-phase w.2 bad-none)
    where
      here : slot_of key ≡ slot_for a.part
      here = all-among (λ q. slot_of q ≡ slot_for a.part) (keys_of a.part) key good.0 among

      its-home : IsHome (slot_here s.nodes a.part) (λ m. at s.nodes m key) (get (left_by empty s.history) key)
      its-home = subst (λ z. IsHome (standing_at s.nodes z) (λ m. at s.nodes m key) (get (left_by empty s.history) key)) here (kept.homes key)

      by-phase : ((slot_here s.nodes a.part).phase ≡ Imported) ⊎ (((slot_here s.nodes a.part).phase ≡ Migrated) ⊎ ((slot_here s.nodes a.part).phase ≡ Released))
          → (is_bad (slot_here s.nodes a.part).phase (is_some (at s.nodes (slot_here s.nodes a.part).source key)) ≡ true → ⊥) → at s.nodes (slot_here s.nodes a.part).source key ≡ None
      by-phase (inl e) bad = absurd (bad (ap (λ p. is_bad p (is_some (at s.nodes (slot_here s.nodes a.part).source key))) e))
      by-phase (inr (inl e)) bad = go (at s.nodes (slot_here s.nodes a.part).source key) refl
        where
          go : (o : Option (List ℕ)) → at s.nodes (slot_here s.nodes a.part).source key ≡ o → at s.nodes (slot_here s.nodes a.part).source key ≡ None
          go None is = is
          go (Some v) is = absurd (bad (λ i. is_bad (e i) (is_some (is i))))
      by-phase (inr (inr e)) bad =
          let apart : (slot_here s.nodes a.part).source ≢ (slot_here s.nodes a.part).target = kept.apart (slot_for a.part) (subst (λ p. p ≢ Settled) (sym e) (λ x. absurd (cc))) in
          its-home.others (slot_here s.nodes a.part).source (λ x. apart (x ∙ ap (λ p. home p (slot_here s.nodes a.part).source (slot_here s.nodes a.part).target (is_some (at s.nodes (slot_here s.nodes a.part).source key))) e))

  pub sound : IsSound s
  sound = record {
    one_node = λ key n m a b p q. at-home key n a p ∙ sym (at-home key m b q);
    legal = kept.legal;
    union = λ key v. (
      (λ p. (home_in (standing_at s.nodes (slot_of key)) (λ x. at s.nodes x key), sym (kept.homes key).holds ∙ p)),
      (λ p. (kept.homes key).holds ∙ ap (λ x. at s.nodes x key) (sym (at-home key p.0 v p.1)) ∙ p.1),
    );
    asked = λ k d lt. source-empty (get_or s.asks k d) (kept.asked k d lt);
  }

pub new-kept : (k : ClusterModel) → IsNew k → IsKept (record { nodes = k; history = []; asks = [] })
new-kept k new = record {
  apart = λ slot moving. absurd (moving (new.settled slot));
  targets = λ slot moving. absurd (moving (new.settled slot));
  homes = λ key. record { others = λ m x. new.no_keys m key; holds = get-empty (slice_cmp nat_cmp) key ∙ sym (new.no_keys _ key) };
  legal = tt;
  asked = λ j d lt. absurd (omega (arith, lt));
}
