-- What a node says of a command that it did not execute, and that it keeps what it has.
use Rattle.std.proofs.Common.{◌≡◌, ◌<◌, ⊎_elim, ℕ, true, false, List, [], ◌∷◌, length, Some, None, Option, Ok, Err, IfOk, OnErr, OnOk, refl, sym, ap, ◌∙◌}
use Rattle.std.specs.Prelude.{slice_get, is_some, Result, Vec}
use Rattle.std.specs.declared.alloc.Global.{Global}
use Rattle.std.proofs.lemmas.Option.{slice_get_within}
use Rattle.slot_map.specs.Table.{Endpoint}
use Rattle.key_split.specs.PartModel.{PartModel}
use Rattle.key_split.specs.Plan.{Plans, PlanAnswer}
use Rattle.key_split.specs.Told.{CanBeWritten}
use Rattle.key_split.specs.declared.planned.Planned.{Planned}
use Rattle.key_split.specs.declared.planned.PlanFault.{PlanFault}
use Rattle.key_split.specs.declared.planned.PlanFault.TheVariants.{NoMemory}
use Rattle.key_split.specs.declared.travel.Batch.{Batch}
use Rattle.key_split.specs.declared.travel.Ticket.{Ticket}
use Rattle.key_split.specs.declared.travel.Told.{Told}
use Rattle.key_split.specs.declared.travel.Told.TheVariants.{Reply, Moved, Ask, TryAgain, ClusterDown, Unclear, Lost, Unsent}
use Rattle.node_model.specs.Nodes.{ClusterModel, store_at}
use Rattle.node_model.specs.Runs.{AreReplies}
use Rattle.node_model.specs.Serving.{NodeDoes, deed_at}
use Rattle.node_model.specs.Store.{StoreModel, store_after}
use Rattle.node_model.specs.declared.role.Deed.{Deed}
use Rattle.node_model.specs.declared.role.Deed.TheVariants.{Executes, Says}
use Rattle.node_model.specs.declared.role.Verdict.TheVariants.{Plain}
use Rattle.local_cluster.specs.Local.{LocalStateModel, ServesLocally, counts_as_asking, history_after}
use Rattle.local_cluster.specs.LocalRuns.{ServesRunLocally}
use Rattle.node_server.specs.NodeAnswers.{can_write, refused_in, KeepsData}
use Rattle.node_server.specs.NodeSaying.{is_reply}
use Rattle.local_cluster.proofs.Served.{serves-plain}
use Rattle.local_cluster.proofs.RunServed.{run-either}

no-way : {A : Type 0} → false ≡ true → A
no-way e = absurd (cc)

within : {X : Type 0} (xs : List X) (k : ℕ) → is_some (slice_get xs k) ≡ true → k < length xs
within {X} xs k e = go (slice_get xs k) refl
  where
    go : (o : Option X) → slice_get xs k ≡ o → k < length xs
    go None is = no-way (sym (ap is_some is) ∙ e)
    go (Some x) is = slice_get_within xs k x is

pub writable : (table : List Endpoint) (told : Told) → can_write table told ≡ true → CanBeWritten told table
writable table (Reply v) e = tt
writable table (Moved slot node) e = within table node e
writable table (Ask slot node) e = within table node e
writable table TryAgain e = tt
writable table ClusterDown e = tt
writable table Unclear e = no-way e
writable table Lost e = no-way e
writable table Unsent e = no-way e

same-history : (s : LocalStateModel) (b : Batch) (told : Told) → is_reply told ≡ false → history_after s.history b told ≡ s.history
same-history s b (Reply v) e = no-way (sym e)
same-history s b (Moved slot node) e = refl
same-history s b (Ask slot node) e = refl
same-history s b TryAgain e = refl
same-history s b ClusterDown e = refl
same-history s b Unclear e = refl
same-history s b Lost e = refl
same-history s b Unsent e = refl

same-nodes : (deed : Deed) (k : ClusterModel) (node : ℕ) (part : PartModel) (told : Told) (k' : ClusterModel) → is_reply told ≡ false → NodeDoes deed k node part told k' → k' ≡ k
same-nodes Executes k node part (Reply v) k' e d = no-way (sym e)
same-nodes Executes k node part (Moved slot to) k' e d = absurd d.0
same-nodes Executes k node part (Ask slot to) k' e d = absurd d.0
same-nodes Executes k node part TryAgain k' e d = absurd d.0
same-nodes Executes k node part ClusterDown k' e d = absurd d.0
same-nodes Executes k node part Unclear k' e d = absurd d.0
same-nodes Executes k node part Lost k' e d = absurd d.0
same-nodes Executes k node part Unsent k' e d = absurd d.0
same-nodes (Says said) k node part told k' e d = d.1

-- nothing is executed where no reply is told
pub keeps-data : (s s' : LocalStateModel) (b : Batch) (told : Told) → ServesLocally s b (Ok told) s' → is_reply told ≡ false → KeepsData s s'
keeps-data s s' b told d e =
    let w = serves-plain s.nodes d.0 b.node (counts_as_asking s b) b.part told d.1 in
    let k : d.0 ≡ s.nodes = same-nodes (deed_at s.nodes b.node (counts_as_asking s b) b.part Plain) s.nodes b.node b.part told d.0 e w.1 in
    let h = same-history s b told e in
    (ap (λ (x : LocalStateModel). x.nodes) d.2 ∙ k, ap (λ (x : LocalStateModel). x.history) d.2 ∙ h)

pub on-ok : {A B P Q : Type 0} (r : Result A B) → (P → Q) → OnOk r P → OnOk r Q
on-ok (Ok a) f h = f h
on-ok (Err b) f h = tt

pub on-err : {A B P Q : Type 0} (r : Result A B) → (P → Q) → OnErr r P → OnErr r Q
on-err (Ok a) f h = tt
on-err (Err b) f h = f h

pub if-ok : {A B : Type 0} {P Q : A → Type 0} (r : Result A B) → ((a : A) → P a → Q a) → IfOk r P → IfOk r Q
if-ok (Ok a) f h = f a h
if-ok (Err b) f h = tt

-- a plan that was answered is the plan of the words
pub planned-ok : (p : PlanAnswer) (given : Planned) → Plans p (Ok given) → p ≡ Ok given
planned-ok (Err why) given h = absurd (cc)
planned-ok (Ok planned) given h = ap Ok (sym h)

-- likewise a refusal other than that of memory
pub planned-err : (p : PlanAnswer) (why : PlanFault) → (why ≡ NoMemory → ⊥) → Plans p (Err why) → p ≡ Err why
planned-err (Err fault) why other h = sym h
planned-err (Ok planned) why other h = absurd (other h)

-- commands that were served together, of which one was told no reply

no-refusal : (store : StoreModel) (cs : List PartModel) (tolds : List Told) → AreReplies store cs tolds → refused_in tolds ≡ None
no-refusal store [] [] h = refl
no-refusal store [] (told ∷ tolds) h = absurd h
no-refusal store (c ∷ cs) [] h = absurd h
no-refusal store (c ∷ cs) (Reply v ∷ tolds) h = no-refusal (store_after store c) cs tolds h.1
no-refusal store (c ∷ cs) (Moved slot node ∷ tolds) h = absurd h.0
no-refusal store (c ∷ cs) (Ask slot node ∷ tolds) h = absurd h.0
no-refusal store (c ∷ cs) (TryAgain ∷ tolds) h = absurd h.0
no-refusal store (c ∷ cs) (ClusterDown ∷ tolds) h = absurd h.0
no-refusal store (c ∷ cs) (Unclear ∷ tolds) h = absurd h.0
no-refusal store (c ∷ cs) (Lost ∷ tolds) h = absurd h.0
no-refusal store (c ∷ cs) (Unsent ∷ tolds) h = absurd h.0

pub keeps-together : (s s' : LocalStateModel) (ticket : Ticket) (node : ℕ) (cs : List PartModel) (tolds : Vec Told Global) → ServesRunLocally s ticket node cs (Ok tolds) s' → is_some (refused_in tolds.items) ≡ true → KeepsData s s'
keeps-together s s' ticket node cs tolds d e = ⊎_elim
    (λ (x : AreReplies (store_at s.nodes node) cs tolds.items). no-way (sym (ap is_some (no-refusal (store_at s.nodes node) cs tolds.items x)) ∙ e))
    (λ (x : (s'.nodes ≡ s.nodes) × (s'.history ≡ s.history)). x)
    (run-either s s' ticket node cs tolds d)
