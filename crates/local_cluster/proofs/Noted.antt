-- A request that was served and noted.
use Rattle.std.proofs.Common.{◌≡◌, ◌∙◌, ◌&&◌, ◌<◌, List, length, Ok, Err, Bool, false, sym, ap, subst}
use Rattle.std.specs.List.{list_any}
use Rattle.key_split.specs.PartModel.{HasOneSlot}
use Rattle.key_split.specs.declared.travel.Batch.{Batch}
use Rattle.key_split.specs.declared.travel.Told.{Told}
use Rattle.node_model.specs.History.{EntryModel}
use Rattle.node_model.specs.Nodes.{ClusterModel}
use Rattle.local_cluster.specs.declared.asked.Asked.{Asked}
use Rattle.node_model.specs.Serving.{Serves}
use Rattle.node_model.specs.declared.role.ServeFault.{ServeFault}
use Rattle.node_model.specs.declared.role.Verdict.TheVariants.{Plain, TryAgain}
use Rattle.local_cluster.specs.Local.{LocalStateModel, ServesLocally, ServesNoted, is_ask_for, asks_after, counts_as_asking}
use Rattle.local_cluster.specs.Kept.{IsKept}
use Rattle.local_cluster.proofs.Served.{serving-keeps}
use Rattle.local_cluster.proofs.Twice.{no-node, tried}

module _ (s : LocalStateModel) (b : Batch) (told : Told) (asking : Bool) (k1 k' : ClusterModel) (history' : List EntryModel) (asks1 seen asks' : List Asked) where
  -- what the call left, piece by piece, is what the definition says
  pub left-noted : (t : Told) → Serves s.nodes b.node false b.part TryAgain (Ok t) k1 → asks1 ≡ s.asks → seen ≡ asks1 → asking ≡ (b.asking && list_any (is_ask_for b) seen)
      → ServesNoted k1 s.history b asking (Ok told) k' history' → asks' ≡ asks_after asks1 b told
      → ServesLocally s b (Ok told) (record { nodes = k'; history = history'; asks = asks' })
  left-noted t first a looked counts served a' =
      let same : k1 ≡ s.nodes = (tried s.nodes k1 b.node false b.part t first).0 in
      let so : asking ≡ counts_as_asking s b = counts ∙ ap (λ asks. b.asking && list_any (is_ask_for b) asks) (looked ∙ a) in
      let here : Serves s.nodes b.node (counts_as_asking s b) b.part Plain (Ok told) k' = subst (λ (x : ClusterModel × Bool). Serves x.0 b.node x.1 b.part Plain (Ok told) k') (λ i. (same i, so i)) served.0 in
      (k', here, λ i. record { nodes = k'; history = served.1 i; asks = (a' ∙ ap (λ es. asks_after es b told) a) i })

  pub left-kept : (t : Told) → IsKept s → HasOneSlot b.part → Serves s.nodes b.node false b.part TryAgain (Ok t) k1 → asks1 ≡ s.asks → seen ≡ asks1 → asking ≡ (b.asking && list_any (is_ask_for b) seen)
      → ServesNoted k1 s.history b asking (Ok told) k' history' → asks' ≡ asks_after asks1 b told
      → IsKept (record { nodes = k'; history = history'; asks = asks' })
  left-kept t kept one_slot first a looked counts served a' =
      serving-keeps s (record { nodes = k'; history = history'; asks = asks' }) b told kept one_slot (left-noted t first a looked counts served a')

-- where a request was not served the state is the same
module _ (s : LocalStateModel) (b : Batch) (k1 : ClusterModel) where
  pub absent-kept : (fault : ServeFault) → IsKept s → Serves s.nodes b.node false b.part TryAgain (Err fault) k1 → IsKept (record { nodes = k1; history = s.history; asks = s.asks })
  absent-kept fault kept first =
      subst (λ (k : ClusterModel). IsKept (record { nodes = k; history = s.history; asks = s.asks })) (sym (no-node s.nodes k1 b.node false b.part fault first).1) kept

  pub full-kept : (t : Told) (asks1 : List Asked) → IsKept s → Serves s.nodes b.node false b.part TryAgain (Ok t) k1 → asks1 ≡ s.asks → IsKept (record { nodes = k1; history = s.history; asks = asks1 })
  full-kept t asks1 kept first a =
      let same : k1 ≡ s.nodes = (tried s.nodes k1 b.node false b.part t first).0 in
      subst (λ (x : ClusterModel × List Asked). IsKept (record { nodes = x.0; history = s.history; asks = x.1 })) (λ i. (sym same i, sym a i)) kept

  pub still-there : (t : Told) → Serves s.nodes b.node false b.part TryAgain (Ok t) k1 → b.node < length k1.stores
  still-there t first =
      let w = tried s.nodes k1 b.node false b.part t first in
      subst (λ (k : ClusterModel). b.node < length k.stores) (sym w.0) w.1

  pub refused-kept : (t : Told) (asks1 : List Asked) (asking : Bool) (fault : ServeFault) (k' : ClusterModel) (history' : List EntryModel)
      → IsKept s → Serves s.nodes b.node false b.part TryAgain (Ok t) k1 → asks1 ≡ s.asks → ServesNoted k1 s.history b asking (Err fault) k' history' → IsKept (record { nodes = k'; history = history'; asks = asks1 })
  refused-kept t asks1 asking fault k' history' kept first a served =
      let before : IsKept (record { nodes = k1; history = s.history; asks = asks1 }) = full-kept t asks1 kept first a in
      subst (λ (x : ClusterModel × List EntryModel). IsKept (record { nodes = x.0; history = x.1; asks = asks1 })) (λ i. (sym served.1 i, sym served.2 i)) before
