use Rattle.script_runs.specs.Ends.{IsIndexFrom}
use Rattle.script_runs.proofs.ends.places_of.Given as goal

abbrev pub invariant-loop-place : goal.invariant-loop-place
invariant-loop-place l = IsIndexFrom l.ends l.place l.places.entries
