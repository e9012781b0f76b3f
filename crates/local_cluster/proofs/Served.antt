-- A request that was served, as the nodes' definition and the state's say.
use Rattle.std.proofs.Common.{◌≡◌, Bool, true, false, ℕ, length, Some, None, Ok, Err, refl, sym, subst}
use Rattle.std.specs.Prelude.{nat_lt, MatchOption, if◌then◌else◌, Result}
use borrow.Author.Tests.{ltb-true}
use Rattle.key_split.specs.PartModel.{PartModel, HasOneSlot}
use Rattle.key_split.specs.declared.travel.Batch.{Batch}
use Rattle.key_split.specs.declared.travel.Told.{Told}
use Rattle.node_model.specs.Nodes.{ClusterModel}
use Rattle.node_model.specs.Serving.{NodeAnswers, NodeDoes, Serves, deed_at}
use Rattle.node_model.specs.declared.role.ServeFault.{ServeFault}
use Rattle.node_model.specs.declared.role.ServeFault.TheVariants.{NoSuchNode}
use Rattle.node_model.specs.declared.role.Verdict.TheVariants.{Plain}
use Rattle.world_laws.specs.World.{IsNode}
use Rattle.local_cluster.specs.Local.{LocalStateModel, ServesLocally, counts_as_asking}
use Rattle.local_cluster.specs.Kept.{IsKept}
use Rattle.local_cluster.proofs.Serving.{serve-kept}

pub serves-plain : (k k' : ClusterModel) (node : ℕ) (asking : Bool) (c : PartModel) (told : Told) → Serves k node asking c Plain (Ok told) k' → IsNode k node × NodeDoes (deed_at k node asking c Plain) k node c told k'
serves-plain k k' node asking c told s = go (nat_lt node (length k.stores)) refl s
  where
    go : (b : Bool) → nat_lt node (length k.stores) ≡ b
        → MatchOption (if b then None else Some NoSuchNode) (NodeAnswers (deed_at k node asking c Plain) k node c (Ok told) k') (λ (fault : ServeFault). (◌≡◌ {A = Result Told ServeFault} (Ok told) (Err fault)) × (k' ≡ k))
        → IsNode k node × NodeDoes (deed_at k node asking c Plain) k node c told k'
    go true is h = (ltb-true _ _ is, h)
    go false is h = absurd (let bad : ◌≡◌ {A = Result Told ServeFault} (Ok told) (Err NoSuchNode) = h.0 in cc)

pub serving-keeps : (s s' : LocalStateModel) (b : Batch) (told : Told) → IsKept s → HasOneSlot b.part → ServesLocally s b (Ok told) s' → IsKept s'
serving-keeps s s' b told kept one_slot d =
    let w = serves-plain s.nodes d.0 b.node (counts_as_asking s b) b.part told d.1 in
    subst IsKept (sym d.2) (serve-kept s b told d.0 kept one_slot w.0 w.1)
