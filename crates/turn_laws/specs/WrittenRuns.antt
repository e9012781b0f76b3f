-- A run is written as one item, which a node serves whole.
use Rattle.std.specs.Prelude.{◌≡◌, List, [], ◌∷◌, Bool, if◌then◌else◌, map}
use Rattle.key_split.specs.Runs.{RunModel, IsTogether, batches_in, requests_of_run}
use Rattle.key_split.specs.declared.travel.Batch.{Batch}
use Rattle.turn_laws.specs.Wire.{Part, Item, Asks, Runs, items_of}

abbrev pub part_of : Batch → Part
part_of batch = (batch.ticket, batch.part)

abbrev pub pieces_of : RunModel → List Part
pieces_of run = map part_of (batches_in run)

-- one item for a run, behind ASKING where its command asks
abbrev pub items_for : Bool → List Part → List Item
items_for asks parts = if asks then Asks ∷ Runs parts ∷ [] else Runs parts ∷ []

-- what is written of a run
abbrev pub RunsAreWrittenWhole : Type 0
RunsAreWrittenWhole = (run : RunModel) → IsTogether run → items_of (requests_of_run run) ≡ items_for run.first.asking (pieces_of run)
