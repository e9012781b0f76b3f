-- A request served twice over: what each call leaves.
use Rattle.std.proofs.Common.{◌≡◌, ◌∙◌, Bool, true, false, ℕ, length, Some, None, Option, Ok, Err, Result, refl, sym, ap, subst}
use Rattle.std.specs.Prelude.{nat_lt, unwrap_or, MatchOption, if◌then◌else◌}
use Rattle.std.proofs.lemmas.Bool.Decides.{nat_tests}
use borrow.Author.Tests.{ltb-true}
use Rattle.std.proofs.Common.{arith}
use Rattle.resp_wire.specs.declared.value.Value.{Value}
use Rattle.key_split.specs.PartModel.{PartModel}
use Rattle.key_split.specs.declared.travel.Batch.{Batch}
use Rattle.key_split.specs.declared.travel.Told.{Told}
use Rattle.node_model.specs.Nodes.{ClusterModel}
use Rattle.node_model.specs.Laws.{MGetReads}
use Rattle.node_model.specs.Serving.{NodeAnswers, Serves, deed_at, refusal_of}
use Rattle.node_model.specs.declared.role.Deed.{Deed}
use Rattle.node_model.specs.declared.role.ServeFault.{ServeFault}
use Rattle.node_model.specs.declared.role.ServeFault.TheVariants.{NoMemory, NoSuchNode}
use Rattle.node_model.specs.declared.role.Verdict.TheVariants.{Plain, TryAgain}
use Rattle.world_laws.specs.World.{IsNode}
use Rattle.local_cluster.specs.Foresight.{reading, items_told, IsCopy, IsForeseen}
use Rattle.local_cluster.specs.Local.{unserved}
use Rattle.local_cluster.proofs.Foreseeing.{read-first, copy-is}

-- a node that is told to refuse changes nothing, and is there
pub tried : (k k' : ClusterModel) (node : ℕ) (asking : Bool) (c : PartModel) (told : Told) → Serves k node asking c TryAgain (Ok told) k' → (k' ≡ k) × IsNode k node
tried k k' node asking c told s = go (nat_lt node (length k.stores)) refl s
  where
    go : (b : Bool) → nat_lt node (length k.stores) ≡ b
        → MatchOption (if b then None else Some NoSuchNode) (NodeAnswers (deed_at k node asking c TryAgain) k node c (Ok told) k') (λ (fault : ServeFault). (◌≡◌ {A = Result Told ServeFault} (Ok told) (Err fault)) × (k' ≡ k))
        → (k' ≡ k) × IsNode k node
    go true is h = (h.1, ltb-true _ _ is)
    go false is h = absurd (let bad : ◌≡◌ {A = Result Told ServeFault} (Ok told) (Err NoSuchNode) = h.0 in cc)

-- where there is the node, a request that is not served found no memory
pub no-memory : (k : ClusterModel) (node : ℕ) → IsNode k node → NoMemory ≡ unserved k node
no-memory k node lt =
    let there : nat_lt node (length k.stores) ≡ true = grind (arith, nat_tests) in
    sym (ap (λ (b : Bool). unwrap_or (if b then None else Some NoSuchNode) NoMemory) there)

-- a refusal names the node that there is not, or says that there is no memory; and the nodes are the same
pub refused : (k k' : ClusterModel) (node : ℕ) (deed : Deed) (c : PartModel) (fault : ServeFault)
    → MatchOption (refusal_of k node Plain) (NodeAnswers deed k node c (Err fault) k') (λ (f : ServeFault). (◌≡◌ {A = Result Told ServeFault} (Err fault) (Err f)) × (k' ≡ k)) → (fault ≡ unserved k node) × (k' ≡ k)
refused k k' node deed c fault s = go (nat_lt node (length k.stores)) s
  where
    go : (b : Bool)
        → MatchOption (if b then None else Some NoSuchNode) (NodeAnswers deed k node c (Err fault) k') (λ (f : ServeFault). (◌≡◌ {A = Result Told ServeFault} (Err fault) (Err f)) × (k' ≡ k))
        → (fault ≡ unwrap_or (if b then None else Some NoSuchNode) NoMemory) × (k' ≡ k)
    go true h = (h.0, h.1)
    go false h = ((let same : ◌≡◌ {A = Result Told ServeFault} (Err fault) (Err NoSuchNode) = h.0 in cc), h.1)

-- the request itself is refused as its test is
pub no-node : (k k' : ClusterModel) (node : ℕ) (asking : Bool) (c : PartModel) (fault : ServeFault) → Serves k node asking c TryAgain (Err fault) k' → (fault ≡ unserved k node) × (k' ≡ k)
no-node k k' node asking c fault s = refused k k' node (deed_at k node asking c TryAgain) c fault s

-- no memory for the copy
pub copy-refused : MGetReads → (k k2 : ClusterModel) (b : Batch) (asking : Bool) (found : Told) → IsNode k b.node → Serves k b.node asking (reading b.part) Plain (Ok found) k2
    → (NoMemory ≡ unserved k b.node) × (k2 ≡ k)
copy-refused reads k k2 b asking found is-node read = (no-memory k b.node is-node, (read-first reads k k2 b.node asking b.part found read).0)

pub told-refused : MGetReads → (k k2 k3 : ClusterModel) (b : Batch) (asking : Bool) (found : Told) (fault : ServeFault) → Serves k b.node asking (reading b.part) Plain (Ok found) k2
    → Serves k2 b.node asking b.part Plain (Err fault) k3 → (fault ≡ unserved k b.node) × (k3 ≡ k)
told-refused reads k k2 k3 b asking found fault read last =
    let same : k2 ≡ k = (read-first reads k k2 b.node asking b.part found read).0 in
    let left : (fault ≡ unserved k2 b.node) × (k3 ≡ k2) = refused k2 k3 b.node (deed_at k2 b.node asking b.part Plain) b.part fault last in
    (left.0 ∙ ap (λ (x : ClusterModel). unserved x b.node) same, left.1 ∙ same)

pub twice-told : MGetReads → (k k2 k3 : ClusterModel) (b : Batch) (asking : Bool) (found told : Told) (copy : Option Value)
    → Serves k b.node asking (reading b.part) Plain (Ok found) k2 → IsForeseen b.part (items_told found) copy → Serves k2 b.node asking b.part Plain (Ok told) k3
    → Serves k b.node asking b.part Plain (Ok told) k3 × IsCopy told copy
twice-told reads k k2 k3 b asking found told copy read seen last =
    let same : k2 ≡ k = (read-first reads k k2 b.node asking b.part found read).0 in
    let here : Serves k b.node asking b.part Plain (Ok told) k3 = subst (λ (x : ClusterModel). Serves x b.node asking b.part Plain (Ok told) k3) same last in
    (here, copy-is reads k k2 k3 b.node asking b.part found told copy read seen here)
