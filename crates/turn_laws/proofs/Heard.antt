-- The machine is told TRYAGAIN where a line is unclear: its command and the worker's stand at the same place, and nothing was executed.
use Rattle.std.proofs.Common.{◌≡◌, inl, inr, ℕ, zero, suc, List, [], ◌∷◌, ◌++◌, Some, refl, sym, ap, ◌∙◌, subst}
use Rattle.std.specs.Prelude.{slice_get, slice_set}
use Rattle.resp_wire.specs.declared.value.Value.{Value}
use Rattle.key_split.specs.PartModel.{PartModel}
use Rattle.key_split.specs.declared.travel.Ticket.{Ticket}
use Rattle.key_split.specs.declared.travel.Told.{Told}
use Rattle.key_split.specs.declared.travel.Told.TheVariants.{Reply, Moved, Ask, TryAgain, ClusterDown, Unclear, Lost, Unsent}
use Rattle.command_future.specs.CommandModel.{CommandModel}
use Rattle.slot_map.specs.Table.{Endpoint}
use Rattle.node_link.specs.Telling.{told_by}
use Rattle.node_model.specs.Nodes.{ClusterModel}
use Rattle.node_model.specs.Store.{StoreModel, store_after, reply_to}
use Rattle.node_model.specs.Serving.{IsReply}
use Rattle.node_model.specs.Runs.{AllTold, AreReplies, DoesRun, deed_for}
use Rattle.node_model.specs.declared.role.Deed.{Deed}
use Rattle.node_model.specs.declared.role.Deed.TheVariants.{Executes, Says}
use Rattle.world_laws.specs.declared.state.Arrival.{Arrival}
use Rattle.turn_laws.specs.Wire.{Part, AreTold, ServesNext, executed, executions, parts_in, plain_told}
use Rattle.turn_laws.specs.Unclear.{HeardAlike, UnclearIsRefusal}
use Rattle.turn_laws.specs.Settling.{TellsAll}
use Rattle.turn_laws.proofs.Elements.{nothing-there}

pub heard-alike : HeardAlike
heard-alike c (Reply value) = refl
heard-alike c (Moved slot node) = refl
heard-alike c (Ask slot node) = refl
heard-alike c TryAgain = refl
heard-alike c ClusterDown = refl
heard-alike c Unclear = refl
heard-alike c Lost = refl
heard-alike c Unsent = refl

-- what the machine told a command is what the worker tells it
pub told-alike : (ticket : Ticket) (told : Told) (commands commands' : List Arrival) → TellsAll commands ((ticket, plain_told told) ∷ []) commands' → TellsAll commands ((ticket, told) ∷ []) commands'
told-alike ticket told commands commands' t =
    let c : Arrival = t.1.1 in
    let same = sym (heard-alike c.command told) in
    (t.0, (t.1.0, c, t.1.2, t.1.3, t.1.4, t.1.5 ∙ ap (λ (d : CommandModel). slice_set commands t.1.0 (record c { command = d })) same), t.2)

-- ---- nothing was executed

-- TRYAGAIN stands where a line is unclear
again-there : (table : List Endpoint) (node : ℕ) (values : List Value) (tolds : List Told) → AreTold table node values tolds
    → (i : ℕ) (value : Value) → slice_get values i ≡ Some value → (told_by value node table).0 ≡ Unclear → slice_get tolds i ≡ Some TryAgain
again-there table node [] tolds h i value at unclear = absurd (nothing-there i value at)
again-there table node (v ∷ values) [] h i value at unclear = absurd h
again-there table node (v ∷ values) (t ∷ tolds) h zero value at unclear =
    let same : v ≡ value = cc in
    ap Some (sym (ap (λ (p : Told × List Endpoint). p.0) h.0) ∙ ap (λ (x : Value). plain_told (told_by x node table).0) same ∙ ap plain_told unclear)
again-there table node (v ∷ values) (t ∷ tolds) h (suc i) value at unclear = again-there table node values tolds h.1 i value at unclear

-- no reply is TRYAGAIN
no-reply : (store : StoreModel) (cs : List PartModel) (tolds : List Told) → AreReplies store cs tolds → (i : ℕ) → slice_get tolds i ≡ Some TryAgain → ⊥
no-reply store [] [] h i at = nothing-there i TryAgain at
no-reply store [] (t ∷ tolds) h i at = h
no-reply store (c ∷ cs) [] h i at = h
no-reply store (c ∷ cs) (t ∷ tolds) h zero at = let same : t ≡ TryAgain = cc in subst (λ (x : Told). IsReply x (reply_to store c)) same h.0
no-reply store (c ∷ cs) (t ∷ tolds) h (suc i) at = no-reply (store_after store c) cs tolds h.1 i at

-- where one command of a run is told TRYAGAIN, each is
each-again : (said : Told) (cs : List PartModel) (tolds : List Told) → AllTold said cs tolds → (i : ℕ) → slice_get tolds i ≡ Some TryAgain → said ≡ TryAgain
each-again said [] [] h i at = absurd (nothing-there i TryAgain at)
each-again said [] (t ∷ tolds) h i at = absurd h
each-again said (c ∷ cs) [] h i at = absurd h
each-again said (c ∷ cs) (t ∷ tolds) h zero at = let same : t ≡ TryAgain = cc in sym h.0 ∙ same
each-again said (c ∷ cs) (t ∷ tolds) h (suc i) at = each-again said cs tolds h.1 i at

none-executed : (said : Told) (parts : List Part) (tolds : List Told) → AllTold said (parts_in parts) tolds → said ≡ TryAgain → executions parts tolds ≡ []
none-executed said [] tolds h again = refl
none-executed said (part ∷ parts) [] h again = refl
none-executed said (part ∷ parts) (t ∷ tolds) h again =
    ap (λ (x : Told). executed part x ++ executions parts tolds) (h.0 ∙ again) ∙ none-executed said parts tolds h.1 again

run-refused : (deed : Deed) (k : ClusterModel) (node : ℕ) (parts : List Part) (tolds : List Told) (k' : ClusterModel) → DoesRun deed k node (parts_in parts) tolds k'
    → (i : ℕ) → slice_get tolds i ≡ Some TryAgain → (k' ≡ k) × (executions parts tolds ≡ [])
run-refused Executes k node parts tolds k' does i at = absurd (no-reply _ (parts_in parts) tolds does.0 i at)
run-refused (Says said) k node parts tolds k' does i at = (does.1, none-executed said parts tolds does.0 (each-again said (parts_in parts) tolds does.0 i at))

pub unclear-refuses : UnclearIsRefusal
unclear-refuses table k old verdict k' new values done serves i value at unclear = cases serves
  where
    cases : ServesNext table k old verdict k' new values done → (k' ≡ k) × (done ≡ [])
    cases (inl x) = (x.4, x.5)
    cases (inr (inl x)) =
        let r = run-refused (deed_for k old.node old.asking (parts_in x.1) verdict) k old.node x.1 x.2 k' x.5 i (again-there table old.node values x.2 x.6 i value at unclear) in
        (r.0, x.7 ∙ r.1)
    cases (inr (inr x)) = (x.4, x.5)
