-- What a command asks for, before any memory is asked for.
-- Only private functions cite it.
use Rattle.std.specs.Prelude.{◌≡◌, ◌<◌, [], ◌∷◌, IsTrue, Result, Ok, Err, length}
use Rattle.resp_wire.specs.declared.value.Value.TheVariants.{Bulk}
use Rattle.key_split.specs.declared.part.Op.TheVariants as op
use Rattle.key_split.specs.declared.name.Name.TheVariants as name
use Rattle.key_split.specs.declared.planned.Planned.TheVariants.{Local, Parts, Close}
use Rattle.key_split.specs.declared.planned.Joining.TheVariants.{One}
use Rattle.key_split.specs.declared.planned.PlanFault.{PlanFault}
use Rattle.key_split.specs.declared.planner.Wish.{Wish}
use Rattle.key_split.specs.declared.planner.Wish.TheVariants.{OneKey, Sum, MGet, MSet, Ping, Echo, Select, Quit}
use Rattle.key_split.specs.Groups.{alone}
use Rattle.key_split.specs.PartModel.{takes_group}
use Rattle.key_split.specs.Plan.{PlanAnswer, Words, gathered, plan_as, pong, select, summed, word_at}
use Rattle.key_split.specs.OneKey.{HasArgs, one_at}

-- the plan that a wish makes with these arguments
abbrev pub made : Wish → Words → PlanAnswer
made (OneKey o) args = Ok (Parts One (one_at o args ∷ []))
made (Sum o) args = summed o args
made MGet args = gathered (alone args)
made MSet args = plan_as name.MSet args
made Ping args = pong args
made Echo args = Ok (Local (Bulk (word_at args 0)))
made Select args = select (word_at args 0)
made Quit args = Ok Close

-- there are as many arguments as it wants
abbrev pub HasWords : Wish → Words → Type 0
HasWords (OneKey o) args = HasArgs o args
HasWords (Sum o) args = IsTrue (takes_group o) × (0 < length args)
HasWords MGet args = 0 < length args
HasWords MSet args = 1 < length args
HasWords Ping args = Unit {0}
HasWords Echo args = 0 < length args
HasWords Select args = 0 < length args
HasWords Quit args = Unit {0}

-- what is wished makes the plan, or there is the plan's fault
abbrev pub Wishes : PlanAnswer → Words → Result Wish PlanFault → Type 0
Wishes plan args (Ok wish) = (plan ≡ made wish args) × HasWords wish args
Wishes plan args (Err fault) = plan ≡ Err fault
