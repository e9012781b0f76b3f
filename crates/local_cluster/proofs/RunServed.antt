-- A run that was served, as the nodes' definition and the state's say.
use Rattle.std.proofs.Common.{◌≡◌, ◌⊎◌, inl, inr, ⊎_elim, Bool, true, false, ℕ, List, [], ◌∷◌, suc, zip, length, Some, None, Ok, Err, refl, sym, ap, ◌∙◌, subst}
use Rattle.std.specs.Prelude.{nat_lt, unwrap_or, MatchOption, if◌then◌else◌, Result, Vec}
use Rattle.std.specs.declared.alloc.Global.{Global}
use borrow.Author.Tests.{ltb-true}
use Rattle.key_split.specs.PartModel.{PartModel}
use Rattle.key_split.specs.declared.travel.Ticket.{Ticket}
use Rattle.key_split.specs.declared.travel.Told.{Told}
use Rattle.node_model.specs.History.{EntryModel}
use Rattle.node_model.specs.Nodes.{ClusterModel, store_at}
use Rattle.node_model.specs.Runs.{deed_for, AllTold, AreReplies, DoesRun, HaveOneSlot, RunAnswers, ServesAll, store_after_all}
use Rattle.node_model.specs.Store.{StoreModel, store_after}
use Rattle.node_model.specs.declared.role.Deed.{Deed}
use Rattle.node_model.specs.declared.role.Deed.TheVariants.{Executes, Says}
use Rattle.node_model.specs.declared.role.ServeFault.{ServeFault}
use Rattle.node_model.specs.declared.role.ServeFault.TheVariants.{NoMemory, NoSuchNode}
use Rattle.node_model.specs.declared.role.Verdict.TheVariants.{Plain}
use Rattle.world_laws.specs.World.{IsNode}
use Rattle.world_laws.proofs.Nodes.{ExecutedAll, SaidAll, runs}
use Rattle.local_cluster.specs.Local.{LocalStateModel, unserved}
use Rattle.local_cluster.specs.LocalRuns.{history_after_run, ServesRunLocally}
use Rattle.local_cluster.specs.Kept.{IsKept}
use Rattle.local_cluster.proofs.RunKept.{run-kept, says-same}

abbrev Answer : Type 0
Answer = Result (Vec Told Global) ServeFault

pub run-plain : (k k' : ClusterModel) (node : ℕ) (cs : List PartModel) (tolds : Vec Told Global) → ServesAll k node false cs Plain (Ok tolds) k' → IsNode k node × DoesRun (deed_for k node false cs Plain) k node cs tolds.items k'
run-plain k k' node cs tolds s = go (nat_lt node (length k.stores)) refl s
  where
    go : (b : Bool) → nat_lt node (length k.stores) ≡ b
        → MatchOption (if b then None else Some NoSuchNode) (RunAnswers (deed_for k node false cs Plain) k node cs (Ok tolds) k') (λ (fault : ServeFault). (◌≡◌ {A = Answer} (Ok tolds) (Err fault)) × (k' ≡ k))
        → IsNode k node × DoesRun (deed_for k node false cs Plain) k node cs tolds.items k'
    go true is h = (ltb-true _ _ is, h)
    go false is h = absurd (let bad : ◌≡◌ {A = Answer} (Ok tolds) (Err NoSuchNode) = h.0 in cc)

pub run-refused : (k k' : ClusterModel) (node : ℕ) (cs : List PartModel) (fault : ServeFault) → ServesAll k node false cs Plain (Err fault) k' → (fault ≡ unserved k node) × (k' ≡ k)
run-refused k k' node cs fault s = go (nat_lt node (length k.stores)) s
  where
    go : (b : Bool)
        → MatchOption (if b then None else Some NoSuchNode) (RunAnswers (deed_for k node false cs Plain) k node cs (Err fault) k') (λ (f : ServeFault). (◌≡◌ {A = Answer} (Err fault) (Err f)) × (k' ≡ k))
        → (fault ≡ unwrap_or (if b then None else Some NoSuchNode) NoMemory) × (k' ≡ k)
    go true h = (h.0, h.1)
    go false h = ((let same : ◌≡◌ {A = Answer} (Err fault) (Err NoSuchNode) = h.0 in cc), h.1)

-- each command is told something

counted-replies : (store : StoreModel) (cs : List PartModel) (tolds : List Told) → AreReplies store cs tolds → length tolds ≡ length cs
counted-replies store [] [] h = refl
counted-replies store [] (t ∷ ts) h = absurd h
counted-replies store (c ∷ cs) [] h = absurd h
counted-replies store (c ∷ cs) (t ∷ ts) h = ap suc (counted-replies (store_after store c) cs ts h.1)

counted-told : (said : Told) (cs : List PartModel) (tolds : List Told) → AllTold said cs tolds → length tolds ≡ length cs
counted-told said [] [] h = refl
counted-told said [] (t ∷ ts) h = absurd h
counted-told said (c ∷ cs) [] h = absurd h
counted-told said (c ∷ cs) (t ∷ ts) h = ap suc (counted-told said cs ts h.1)

counted-does : (deed : Deed) (k k' : ClusterModel) (node : ℕ) (cs : List PartModel) (tolds : List Told) → DoesRun deed k node cs tolds k' → length tolds ≡ length cs
counted-does Executes k k' node cs tolds d = counted-replies (store_at k node) cs tolds d.0
counted-does (Says said) k k' node cs tolds d = counted-told said cs tolds d.0

pub run-counted : (k k' : ClusterModel) (node : ℕ) (cs : List PartModel) (tolds : Vec Told Global) → ServesAll k node false cs Plain (Ok tolds) k' → length tolds.items ≡ length cs
run-counted k k' node cs tolds s = counted-does (deed_for k node false cs Plain) k k' node cs tolds.items (run-plain k k' node cs tolds s).1

-- what is left, piece by piece

module _ (s : LocalStateModel) (ticket : Ticket) (node : ℕ) (cs : List PartModel) (tolds : Vec Told Global) (seen : List Told) (k' : ClusterModel) (history' : List EntryModel) where
  all-noted : history' ≡ history_after_run s.history ticket (zip cs seen) → seen ≡ tolds.items → history' ≡ history_after_run s.history ticket (zip cs tolds.items)
  all-noted h looked = h ∙ ap (λ (z : List Told). history_after_run s.history ticket (zip cs z)) looked

  pub run-left : ServesAll s.nodes node false cs Plain (Ok tolds) k' → history' ≡ history_after_run s.history ticket (zip cs seen) → seen ≡ tolds.items
      → ServesRunLocally s ticket node cs (Ok tolds) (record { nodes = k'; history = history'; asks = s.asks })
  run-left served h looked = (k', served, λ i. record { nodes = k'; history = all-noted h looked i; asks = s.asks })

  pub run-keeps : IsKept s → HaveOneSlot cs → ServesAll s.nodes node false cs Plain (Ok tolds) k' → history' ≡ history_after_run s.history ticket (zip cs seen) → seen ≡ tolds.items
      → IsKept (record { nodes = k'; history = history'; asks = s.asks })
  run-keeps kept one_slot served h looked =
      let w = run-plain s.nodes k' node cs tolds served in
      subst (λ (z : List EntryModel). IsKept (record { nodes = k'; history = z; asks = s.asks })) (sym (all-noted h looked)) (run-kept s ticket node cs tolds.items k' kept one_slot w.0 w.1)

-- each command has its reply, or nothing was executed
pub run-either : (s s' : LocalStateModel) (ticket : Ticket) (node : ℕ) (cs : List PartModel) (tolds : Vec Told Global) → ServesRunLocally s ticket node cs (Ok tolds) s'
    → AreReplies (store_at s.nodes node) cs tolds.items ⊎ ((s'.nodes ≡ s.nodes) × (s'.history ≡ s.history))
run-either s s' ticket node cs tolds d = ⊎_elim
    (λ (x : (deed_for s.nodes node false cs Plain ≡ Executes) × ExecutedAll s.nodes node cs tolds.items d.0). inl x.1.0)
    (λ (x : SaidAll (deed_for s.nodes node false cs Plain) s.nodes cs tolds.items d.0).
    inr (ap (λ (z : LocalStateModel). z.nodes) d.2 ∙ x.3, ap (λ (z : LocalStateModel). z.history) d.2 ∙ says-same s.nodes s.history ticket node cs tolds.items x.0 x.1 x.2))
    (runs s.nodes d.0 node cs tolds.items (deed_for s.nodes node false cs Plain) (run-plain s.nodes d.0 node cs tolds d.1).1)

pub runs-keep : (s s' : LocalStateModel) (ticket : Ticket) (node : ℕ) (cs : List PartModel) (tolds : Vec Told Global) → IsKept s → HaveOneSlot cs → ServesRunLocally s ticket node cs (Ok tolds) s' → IsKept s'
runs-keep s s' ticket node cs tolds kept one_slot d = subst IsKept (sym d.2) (run-keeps s ticket node cs tolds tolds.items d.0 (history_after_run s.history ticket (zip cs tolds.items)) kept one_slot d.1 refl refl)
