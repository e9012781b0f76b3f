-- A command on one key, before any word of it is copied.
use Rattle.std.specs.Prelude.{◌≡◌, ◌<◌, [], ◌∷◌, true, Option, Some, None, Result, Ok, Err, length, if◌then◌else◌}
use Rattle.key_split.specs.declared.part.Op.{Op}
use Rattle.key_split.specs.declared.planned.Planned.TheVariants.{Parts}
use Rattle.key_split.specs.declared.planned.Joining.TheVariants.{One}
use Rattle.key_split.specs.declared.planned.PlanFault.{PlanFault}
use Rattle.key_split.specs.PartModel.{PartModel, takes_value}
use Rattle.key_split.specs.Plan.{PlanAnswer, Words, on_key, with_value, word_at}

-- the first argument is the key, and the second its value where the operation takes one
abbrev pub one_at : Op → Words → PartModel
one_at o args = if takes_value o then with_value o (word_at args 0) (word_at args 1) else on_key o (word_at args 0)

-- the arguments have them
abbrev pub HasArgs : Op → Words → Type 0
HasArgs o args = (0 < length args) × (takes_value o ≡ true → 1 < length args)

-- the operation is that of a plan of one part, and a fault is the plan's; of other plans nothing is said
abbrev pub FindsOne : PlanAnswer → Words → Result (Option Op) PlanFault → Type 0
FindsOne plan args (Ok (Some o)) = (plan ≡ Ok (Parts One (one_at o args ∷ []))) × HasArgs o args
FindsOne plan args (Ok None) = Unit {0}
FindsOne plan args (Err fault) = plan ≡ Err fault
