-- What is drained into the bytes that wait to be pushed.
use Rattle.std.specs.Prelude.{◌≡◌, ◌≢◌, ℕ, List, [], Option, Some, None, Result, Ok, Err}
use Rattle.resp_wire.specs.declared.fault.NoMemory.{NoMemory}
use Rattle.session_order.specs.SessionModel.{SessionModel}
use Rattle.session_order.specs.Replies.{DrainOutcome}

-- `n` bytes were drained, and stand behind those that waited; or nothing was done, since some waited.
abbrev pub DrainsBehind : ℕ → SessionModel → List ℕ → Result (Option ℕ) NoMemory → SessionModel → List ℕ → Type 0
DrainsBehind most old before (Ok (Some n)) new after = DrainOutcome most old before (Ok n) new after
DrainsBehind most old before (Ok None) new after = (before ≢ []) × (new ≡ old) × (after ≡ before)
DrainsBehind most old before (Err refused) new after = DrainOutcome most old before (Err refused) new after
