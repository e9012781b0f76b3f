-- What the stories of Scripts.antt are examples of.
use Rattle.std.specs.Prelude.{ℕ}
use Rattle.key_split.specs.declared.travel.Ended.TheVariants.{Lost}
use Rattle.turn_laws.specs.Wire.{Execution}
use Rattle.turn_laws.specs.System.{Answered}
use Rattle.turn_laws.specs.LogHeadline.{At, IsExecutedAt}
use Rattle.turn_laws.specs.Scripts.{story_of_loss}

-- a command that a node executed is answered with a connection fault
abbrev pub LostYetExecuted : Type 0
LostYetExecuted = (n : ℕ) × (i : ℕ) × (e : Execution) × At story_of_loss n (Answered e.ticket Lost) × IsExecutedAt story_of_loss i e
