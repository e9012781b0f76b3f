-- A cluster that was made is new.
use Rattle.std.proofs.Common.{◌≡◌, ◌∙◌, ⊎_elim, ℕ, zero, suc, ◌<◌, ◌≤◌, List, [], ◌∷◌, length, Some, None, Option, refl, ap, arith}
use Rattle.std.specs.Prelude.{IsSome, IfSome, slice_index_or}
use Rattle.std.proofs.lemmas.Bool.{cases_lt}
use Rattle.std.specs.FinMap.{empty, get, get-empty}
use Rattle.std.specs.Ordering.{nat_cmp}
use Rattle.std.specs.Cmp.Lexicographic.{slice_cmp}
use Rattle.node_model.specs.Store.{StoreModel}
use Rattle.node_model.specs.Standings.{SlotStandingModel, settled_at}
use Rattle.node_model.specs.Nodes.{ClusterModel, HasOwners, IsOpening, owner_in, standing_at, store_at}
use Rattle.node_model.specs.declared.standing.Phase.TheVariants.{Settled}
use Rattle.world_laws.specs.Headline.{IsNew}

past : {X : Type 0} (xs : List X) (i : ℕ) (d : X) → length xs ≤ i → slice_index_or xs i d ≡ d
past [] i d le = refl
past (x ∷ xs) zero d le = absurd (omega (arith, le))
past (x ∷ xs) (suc i) d le = past xs i d (omega (arith, le))

settled : (o : Option ℕ) (s : SlotStandingModel) → IsSome o → IfSome o (λ owner. s ≡ settled_at owner) → s.phase ≡ Settled
settled None s some h = absurd (cc)
settled (Some owner) s some h = ap (λ (x : SlotStandingModel). x.phase) h

pub opened-new : (count : ℕ) (owners : ℕ → Option ℕ) (k : ClusterModel) → HasOwners count owners → IsOpening count owners k → IsNew k
opened-new count owners k has opening = record {
  settled = λ slot. ⊎_elim
      (λ (lt : slot < 16384). settled (owner_in count owners slot) (standing_at k slot) (has.2 slot lt) (opening.settled slot lt))
      (λ (ge : 16384 ≤ slot). ap (λ (x : SlotStandingModel). x.phase) (past k.slots slot (settled_at 0) (let n : length k.slots ≡ 16384 = opening.all_slots in omega (arith, n, ge))))
      (cases_lt slot 16384);
  no_keys = λ node key. ap (λ (st : StoreModel). get st key) (store node) ∙ get-empty (slice_cmp nat_cmp) key;
}
  where
    store : (node : ℕ) → store_at k node ≡ empty
    store node = ⊎_elim (λ (lt : node < length k.stores). opening.no_keys node empty lt) (λ (ge : length k.stores ≤ node). past k.stores node empty ge) (cases_lt node (length k.stores))
