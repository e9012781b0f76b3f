-- A sound cluster: each key has one home, and the store is what the homes hold.
use Rattle.std.proofs.Common.{◌≡◌, ◌≢◌, ℕ, List, Option, Some, None, refl, sym, ◌∙◌}
use Rattle.std.specs.FinMap.{empty, get, get-empty}
use Rattle.std.specs.Ordering.{nat_cmp}
use Rattle.std.specs.Cmp.Lexicographic.{slice_cmp}
use Rattle.slot_hash.specs.Slot.{slot_of}
use Rattle.node_model.specs.Store.{StoreModel}
use Rattle.node_model.specs.Nodes.{ClusterModel, standing_at, at}
use Rattle.world_laws.specs.Headline.{IsSound, NewIsSound}
use Rattle.world_laws.specs.Homes.{IsHome, home_in}

module _ (initial : StoreModel) (k : ClusterModel) (s : IsSound initial k) (key : List ℕ) where
  abbrev its-home : ℕ
  its-home = home_in (standing_at k (slot_of key)) (λ n. at k n key)

  -- no other node holds it
  elsewhere : (m : ℕ) → m ≢ its-home → at k m key ≡ None
  elsewhere m away = go (at k m key) refl
    where
      go : (held : Option (List ℕ)) → at k m key ≡ held → at k m key ≡ None
      go None is = is
      go (Some value) is = absurd (away (s.placed key value m is))

  -- the store holds what the home holds
  same : get initial key ≡ at k its-home key
  same = go (at k its-home key) refl (get initial key) refl
    where
      go : (held : Option (List ℕ)) → at k its-home key ≡ held → (stored : Option (List ℕ)) → get initial key ≡ stored → get initial key ≡ at k its-home key
      go (Some value) is stored was = (s.union key value).1 (its-home, is) ∙ sym is
      go None is None was = was ∙ sym is
      go None is (Some value) was =
          let there = (s.union key value).0 was in
          let here : there.0 ≡ its-home = s.placed key value there.0 there.1 in
          absurd (cc)

  pub sound-home : IsHome (standing_at k (slot_of key)) (λ n. at k n key) (get initial key)
  sound-home = record { others = elsewhere; holds = same }

none-some : {X : Type 0} (held : Option X) (x : X) → held ≡ None → held ≡ Some x → ⊥
none-some held x none some = absurd (cc)

pub new-sound : NewIsSound
new-sound k new = record {
  apart = λ slot moving. absurd (moving (new.settled slot));
  targets = λ slot moving. absurd (moving (new.settled slot));
  placed = λ key value node is. absurd (none-some (at k node key) value (new.no_keys node key) is);
  union = λ key value. (
    (λ is. absurd (none-some (get empty key) value (get-empty (slice_cmp nat_cmp) key) is)),
    (λ there. absurd (none-some (at k there.0 key) value (new.no_keys there.0 key) there.1)),
  );
}
