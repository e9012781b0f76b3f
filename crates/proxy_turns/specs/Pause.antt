-- How long a refused command waits before its next post, in milliseconds.
-- It doubles from one refusal to the next, so that sixteen take about two seconds: longer than a slot is busy while a key of
-- it moves. A redirect names a node that may have the slot, so the first are followed at once.
use Rattle.std.specs.Prelude.{◌∷◌, [], ◌&&◌, ℕ, Bool, true, false, Option, Some, None, nat_le, slice_get, unwrap_or, if◌then◌else◌}
use Rattle.command_future.specs.declared.stage.Stage.{Stage}
use Rattle.command_future.specs.declared.stage.Stage.TheVariants.{Wants, WantsAsking, Awaits, Over}

-- after no refusal, after one, and so on; after more 250
abbrev pub doubling_pause : ℕ → ℕ
doubling_pause refusals = unwrap_or (slice_get (0 ∷ 0 ∷ 1 ∷ 2 ∷ 4 ∷ 8 ∷ 16 ∷ 32 ∷ 64 ∷ 128 ∷ []) refusals) 250

-- the same, where the last refusal was a redirect, MOVED or ASK, or was not
abbrev pub pause_after : ℕ → Bool → ℕ
pause_after refusals is_redirected = if is_redirected && nat_le refusals 3 then 0 else doubling_pause refusals

-- the pause before its next post of a command at this stage, after `refusals` refusals: one that names a node was a redirect
abbrev pub pause_at : Stage → ℕ → Option ℕ
pause_at (Wants (Some node)) refusals = Some (pause_after refusals true)
pause_at (Wants None) refusals = Some (pause_after refusals false)
pause_at (WantsAsking node) refusals = Some (pause_after refusals true)
pause_at Awaits refusals = None
pause_at (Over end) refusals = None
