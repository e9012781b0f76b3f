-- How a store does a run's commands together: on a copy of what it holds of their keys, which is then put back.
-- Only private functions cite it.
use Rattle.std.specs.Prelude.{◌≡◌, ℕ, List, Option, None, Some, Result, Ok, Err, Vec}
use Rattle.std.specs.declared.alloc.Global.{Global}
use Rattle.std.specs.FinMap.{get}
use Rattle.key_split.specs.PartModel.{PartModel}
use Rattle.key_split.specs.declared.travel.Told.{Told}
use Rattle.node_model.specs.Laws.{Among}
use Rattle.node_model.specs.Store.{StoreModel}
use Rattle.node_model.specs.Runs.{AreReplies, store_after_all}

-- a store holds what another holds for these keys, and nothing else
abbrev pub IsCopy : List (List ℕ) → StoreModel → StoreModel → Type 0
IsCopy keys store copy = (q : List ℕ) → (Among q keys → get copy q ≡ get store q) × ((Among q keys → ⊥) → get copy q ≡ None)

-- the keys are taken away, and no other
abbrev pub AreTaken : List (List ℕ) → StoreModel → StoreModel → Type 0
AreTaken keys old new = (q : List ℕ) → (Among q keys → get new q ≡ None) × ((Among q keys → ⊥) → get new q ≡ get old q)

-- the first of two that is there
abbrev pub or_else : Option (List ℕ) → Option (List ℕ) → Option (List ℕ)
or_else None b = b
or_else (Some v) b = Some v

-- what another store holds is laid over a store
abbrev pub IsLaidOver : StoreModel → StoreModel → StoreModel → Type 0
IsLaidOver laid old new = (q : List ℕ) → get new q ≡ or_else (get laid q) (get old q)

-- the commands were done in order, and each is told its reply; or memory was refused, and nothing changed
abbrev pub PerformsAll : {E : Type 0} → Result (Vec Told Global) E → StoreModel → StoreModel → List PartModel → Type 0
PerformsAll (Ok tolds) old new cs = AreReplies old cs tolds.items × (new ≡ store_after_all old cs)
PerformsAll (Err e) old new cs = new ≡ old
