-- Owners that are taken over are the same owners; and what they open is new.
use Rattle.std.proofs.Common.{◌≡◌, ◌≢◌, ◌⊎◌, ⊎_elim, ℕ, zero, suc, ◌+◌, ◌<◌, ◌≤◌, ◌==◌, List, [], ◌∷◌, ◌++◌, length, Option, Some, None, Ok, Err, true, false, refl, sym, ap, ◌∙◌, subst, arith}
use Rattle.std.specs.Prelude.{reverse, slice_index_or, All, IsSome, IfSome, cond}
use Rattle.std.specs.List.{find}
use Rattle.std.specs.Option.{option_map}
use Rattle.std.specs.FinMap.{empty, get, get-empty}
use Rattle.std.specs.Ordering.{nat_cmp}
use Rattle.std.specs.Cmp.Lexicographic.{slice_cmp}
use Rattle.std.proofs.lemmas.Bool.Decides.{nat_tests}
use Rattle.std.proofs.lemmas.List.{reverse-append}
use Rattle.slot_map.specs.Map.{covers, node_in, node_after, MapShows}
use Rattle.slot_map.specs.declared.ops.MapOp.{MapOp}
use Rattle.slot_map.specs.declared.ops.MapOp.TheVariants.{SetSlot}
use Rattle.node_model.specs.Store.{StoreModel}
use Rattle.node_model.specs.Standings.{SlotStandingModel, settled_at}
use Rattle.node_model.specs.Nodes.{ClusterModel, HasOwners, Opens, one_of}
use Rattle.node_model.specs.declared.standing.Phase.TheVariants.{Settled}
use Rattle.node_model.specs.declared.cluster.ClusterFault.{ClusterFault}
use Rattle.node_model.specs.declared.cluster.ClusterFault.TheVariants.{NoMemory, BadOwners}
use Rattle.world_laws.specs.Headline.{IsNew}
use Rattle.cluster_world.specs.Owners.{IsTakenOver}
use Rattle.cluster_world.specs.Steps.{Starts}

-- who owns a slot after one more change

last-first : (changes : List MapOp) (slot node : ℕ) → reverse (changes ++ SetSlot slot node ∷ []) ≡ SetSlot slot node ∷ reverse changes
last-first changes slot node = reverse-append changes (SetSlot slot node ∷ [])

owned : (changes : List MapOp) (slot node s : ℕ) → node_after (changes ++ SetSlot slot node ∷ []) s ≡ option_map node_in (cond (s == slot) (Some (SetSlot slot node)) (find (covers s) (reverse changes)))
owned changes slot node s = ap (λ ops. option_map node_in (find (covers s) ops)) (last-first changes slot node)

owned-new : (changes : List MapOp) (slot node s : ℕ) → s ≡ slot → node_after (changes ++ SetSlot slot node ∷ []) s ≡ Some node
owned-new changes slot node s e =
    let t : (s == slot) ≡ true = grind (arith, nat_tests) in
    owned changes slot node s ∙ ap (λ b. option_map node_in (cond b (Some (SetSlot slot node)) (find (covers s) (reverse changes)))) t

owned-other : (changes : List MapOp) (slot node s : ℕ) → s ≢ slot → node_after (changes ++ SetSlot slot node ∷ []) s ≡ node_after changes s
owned-other changes slot node s ne =
    let t : (s == slot) ≡ false = grind (arith, nat_tests) in
    owned changes slot node s ∙ ap (λ b. option_map node_in (cond b (Some (SetSlot slot node)) (find (covers s) (reverse changes)))) t

-- the next slot, or an earlier one
up-to : (s n : ℕ) → s < n + 1 → (s ≡ n) ⊎ (s < n)
up-to s n lt = grind arith

module _ (old owners : List (Option ℕ)) (number : ℕ) where
  -- it has no owner
  pub taken-none : ((ops : List MapOp) → MapShows owners ops → None ≡ node_after ops number) → IsTakenOver old owners number → IsTakenOver old owners (number + 1)
  taken-none none h = (
    h.0,
    record {
      shown = (h.1).shown;
      same = λ ops shows s lt. ⊎_elim (λ (e : s ≡ number). ap (node_after (h.0)) e ∙ (h.1).beyond number (omega arith) ∙ none ops shows ∙ ap (node_after ops) (sym e)) (λ (l : s < number). (h.1).same ops shows s l) (up-to s number lt);
      beyond = λ s le. (h.1).beyond s (omega (arith, le));
    },
  )

  pub taken-some : (new : List (Option ℕ)) (slot node : ℕ) → slot ≡ number → ((ops : List MapOp) → MapShows owners ops → Some node ≡ node_after ops number) → ((ops : List MapOp) → MapShows old ops → MapShows new (ops ++ SetSlot slot node ∷ []))
      → IsTakenOver old owners number → IsTakenOver new owners (number + 1)
  taken-some new slot node is some grows h = (
    h.0 ++ SetSlot slot node ∷ [],
    record {
      shown = grows h.0 (h.1).shown;
      same = λ ops shows s lt. ⊎_elim (λ (e : s ≡ number). owned-new h.0 slot node s (e ∙ sym is) ∙ some ops shows ∙ ap (node_after ops) (sym e))
          (λ (l : s < number). owned-other h.0 slot node s (λ e. less s number l (e ∙ is)) ∙ (h.1).same ops shows s l) (up-to s number lt);
      beyond = λ s le. owned-other h.0 slot node s (λ e. more s number le (e ∙ is)) ∙ (h.1).beyond s (omega (arith, le));
    },
  )
    where
      less : (s n : ℕ) → s < n → s ≢ n
      less s n l e = omega (arith, l, e)

      more : (s n : ℕ) → n + 1 ≤ s → s ≢ n
      more s n l e = omega (arith, l, e)

-- what opens with the one owners opens with the other

module _ (count : ℕ) (a b : ℕ → Option ℕ) (same : (slot : ℕ) → slot < 16384 → a slot ≡ b slot) where
  has-owners : HasOwners count a → HasOwners count b
  has-owners h = (h.0, h.1, λ slot lt. subst (λ (o : Option ℕ). IsSome (one_of count o)) (same slot lt) (h.2 slot lt))

  opens : (k : ClusterModel) → Opens count a (Ok k) → Opens count b (Ok k)
  opens k h = (
    has-owners h.0,
    record {
      all_slots = (h.1).all_slots;
      settled = λ slot lt. subst (λ (o : Option ℕ). IfSome (one_of count o) (λ owner. slice_index_or k.slots slot (settled_at 0) ≡ settled_at owner)) (same slot lt) ((h.1).settled slot lt);
      all_nodes = (h.1).all_nodes;
      no_keys = (h.1).no_keys;
    },
  )

-- a world over taken owners, by the owners themselves
pub starts-fault : (count workers : ℕ) (a b : ℕ → Option ℕ) → ((slot : ℕ) → slot < 16384 → a slot ≡ b slot) → (fault : ClusterFault) → Opens count a (Err fault) → Starts count workers b (Err fault)
starts-fault count workers a b same NoMemory h = has-owners count a b same h
starts-fault count workers a b same BadOwners h = λ x. h (has-owners count b a (λ slot lt. sym (same slot lt)) x)

pub opens-same : (count : ℕ) (a b : ℕ → Option ℕ) → ((slot : ℕ) → slot < 16384 → a slot ≡ b slot) → (k : ClusterModel) → Opens count a (Ok k) → Opens count b (Ok k)
opens-same count a b same k h = opens count a b same k h

-- opened nodes are new

standing-new : (count : ℕ) (o : Option ℕ) (s : SlotStandingModel) → IsSome (one_of count o) → IfSome (one_of count o) (λ owner. s ≡ settled_at owner) → s.phase ≡ Settled
standing-new count o s some is = go (one_of count o) some is
  where
    go : (p : Option ℕ) → IsSome p → IfSome p (λ owner. s ≡ settled_at owner) → s.phase ≡ Settled
    go None some is = absurd (cc)
    go (Some owner) some is = ap (λ (x : SlotStandingModel). x.phase) is

beyond-all : {X : Type 0} (xs : List X) (i : ℕ) (d : X) → length xs ≤ i → slice_index_or xs i d ≡ d
beyond-all [] i d le = refl
beyond-all (x ∷ xs) zero d le = absurd (omega (arith, le))
beyond-all (x ∷ xs) (suc i) d le = beyond-all xs i d (omega (arith, le))

no-key : (stores : List StoreModel) (n : ℕ) (key : List ℕ) → All (λ store. store ≡ empty) stores → get (slice_index_or stores n empty) key ≡ None
no-key stores n key all = ⊎_elim (λ (lt : n < length stores). ap (λ store. get store key) (all n empty lt) ∙ get-empty (slice_cmp nat_cmp) key)
    (λ (le : length stores ≤ n). ap (λ store. get store key) (beyond-all stores n empty le) ∙ get-empty (slice_cmp nat_cmp) key) (within n (length stores))
  where
    within : (a b : ℕ) → (a < b) ⊎ (b ≤ a)
    within a b = grind arith

pub opens-new : (count : ℕ) (owners : ℕ → Option ℕ) (k : ClusterModel) → Opens count owners (Ok k) → IsNew k
opens-new count owners k h = record {
  settled = λ slot. ⊎_elim (λ (lt : slot < 16384). standing-new count (owners slot) (slice_index_or k.slots slot (settled_at 0)) (h.0.2 slot lt) ((h.1).settled slot lt))
      (λ (le : 16384 ≤ slot). ap (λ (s : SlotStandingModel). s.phase) (beyond-all k.slots slot (settled_at 0) (subst (λ n. n ≤ slot) (sym (h.1).all_slots) le))) (within slot);
  no_keys = λ node key. no-key k.stores node key (h.1).no_keys;
}
  where
    within : (slot : ℕ) → (slot < 16384) ⊎ (16384 ≤ slot)
    within slot = grind arith
