-- When a node is asked for CLUSTER SLOTS after a loss: at once, and again after pauses that double from 50 to 250 milliseconds.
-- A failover takes seconds, and each request costs the node that is asked a listing of all slots.
use Rattle.std.specs.Prelude.{◌≡◌, ◌<◌, ◌≤◌, ◌+◌, ◌*◌, ◌-◌, ◌^◌, ℕ, Bool, true, false, min}
use Rattle.node_dial.specs.declared.ask_schedule.AskSchedule.{AskSchedule}

-- at once
abbrev pub new_schedule : AskSchedule
new_schedule = record { next = 0; pause = 50 }

-- the next pause is the shortest again; the time of the next request stays
abbrev pub shortened : AskSchedule → AskSchedule
shortened old = record old { pause = 50 }

-- A node is asked exactly where the time has come. The next is then asked a pause later, and the pause after that is twice as long.
abbrev pub TakesAsk : AskSchedule → ℕ → Bool → AskSchedule → Type 0
TakesAsk old now true new = (old.next ≤ now) × (new ≡ record { next = min (now + old.pause) (2 ^ 64 - 1); pause = min (min (old.pause * 2) (2 ^ 64 - 1)) 250 })
TakesAsk old now false new = (now < old.next) × (new ≡ old)
