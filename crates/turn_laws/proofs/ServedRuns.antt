-- How many values a node says, and in which order it executes a run.
use Rattle.std.proofs.Common.{◌≡◌, inl, inr, ℕ, suc, List, [], ◌∷◌, refl, sym, ap, ◌∙◌, arith, length}
use Rattle.resp_wire.specs.declared.value.Value.{Value}
use Rattle.key_split.specs.PartModel.{PartModel}
use Rattle.key_split.specs.declared.travel.Told.{Told}
use Rattle.slot_map.specs.Table.{Endpoint}
use Rattle.node_model.specs.Nodes.{ClusterModel}
use Rattle.node_model.specs.Runs.{deed_for, AllTold, AreReplies, DoesRun}
use Rattle.node_model.specs.Store.{StoreModel, store_after}
use Rattle.node_model.specs.declared.role.Deed.{Deed as NodeDeed}
use Rattle.node_model.specs.declared.role.Deed.TheVariants.{Executes, Says}
use Rattle.turn_laws.specs.Wire.{Wire, Item, Part, Asks, Runs, Lists, AreTold, ServesNext, parts_in}
use Rattle.turn_laws.specs.ServedRuns.{FirstIsServed, RunsAreInOrder, values_for}

-- as many values as commands
pub as-many-values : (table : List Endpoint) (node : ℕ) (values : List Value) (tolds : List Told) → AreTold table node values tolds → length values ≡ length tolds
as-many-values table node [] [] h = refl
as-many-values table node [] (t ∷ tolds) h = absurd h
as-many-values table node (v ∷ values) [] h = absurd h
as-many-values table node (v ∷ values) (t ∷ tolds) h = ap suc (as-many-values table node values tolds h.1)

one-replies : (p : List PartModel) (store : StoreModel) (ts : List Told) → AreReplies store p ts → length p ≡ length ts
one-replies [] store [] h = refl
one-replies [] store (t ∷ ts) h = absurd h
one-replies (c ∷ p) store [] h = absurd h
one-replies (c ∷ p) store (t ∷ ts) h = ap suc (one-replies p (store_after store c) ts h.1)

one-said : (said : Told) (p : List PartModel) (ts : List Told) → AllTold said p ts → length p ≡ length ts
one-said said [] [] h = refl
one-said said [] (t ∷ ts) h = absurd h
one-said said (c ∷ p) [] h = absurd h
one-said said (c ∷ p) (t ∷ ts) h = ap suc (one-said said p ts h.1)

-- each command of a run is told something
pub each-told : (deed : NodeDeed) (k : ClusterModel) (node : ℕ) (p : List PartModel) (ts : List Told) (k' : ClusterModel) → DoesRun deed k node p ts k' → length p ≡ length ts
each-told Executes k node p ts k' h = one-replies p _ ts h.0
each-told (Says said) k node p ts k' h = one-said said p ts h.0

as-many-parts : (parts : List Part) → length (parts_in parts) ≡ length parts
as-many-parts [] = refl
as-many-parts (part ∷ parts) = ap suc (as-many-parts parts)

pub first-is-served : FirstIsServed
first-is-served table k old verdict k' new values done serves = cases serves
  where
    first : (item : Item) (rest : List Item) → old.items ≡ item ∷ rest → new.items ≡ rest → old.items ≡ item ∷ new.items
    first item rest stood left = stood ∙ ap (λ items. item ∷ items) (sym left)

    cases : ServesNext table k old verdict k' new values done → (item : Item) × (old.items ≡ item ∷ new.items) × (length values ≡ values_for item)
    cases (inl x) = (Asks, first Asks x.0 x.2 (ap (λ (w : Wire). w.items) x.6), ap length x.3)
    cases (inr (inl x)) = (
      Runs x.1,
      first (Runs x.1) x.0 x.3 (ap (λ (w : Wire). w.items) x.8),
      as-many-values table old.node values x.2 x.6 ∙ sym (each-told (deed_for k old.node old.asking (parts_in x.1) verdict) k old.node (parts_in x.1) x.2 k' x.5) ∙ as-many-parts x.1,
    )
    cases (inr (inr x)) = (Lists, first Lists x.0 x.2 (ap (λ (w : Wire). w.items) x.6), ap length x.3)

pub runs-are-in-order : RunsAreInOrder
runs-are-in-order [] [] e = (refl, refl)
runs-are-in-order [] (v ∷ values) e = absurd (omega (arith, e))
runs-are-in-order (part ∷ parts) [] e = absurd (omega (arith, e))
runs-are-in-order (part ∷ parts) (v ∷ values) e =
    let rest = runs-are-in-order parts values (omega (arith, e)) in
    (ap (λ ps. part ∷ ps) rest.0, ap (λ vs. v ∷ vs) rest.1)
