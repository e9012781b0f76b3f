-- The ends of a plan's parts can be joined.
use Rattle.std.proofs.Common.{◌≡◌, ℕ, ℤ, ◌<◌, ◌+◌, List, [], ◌∷◌, length, Bool, true, false, Option, None, Some, refl, sym, subst, arith}
use Rattle.std.specs.Prelude.{All, IfOk, Ok, Err, if◌then◌else◌}
use Rattle.std.proofs.lemmas.Bool.{false≢true}
use Rattle.std.proofs.lemmas.List.Elements.{All-map, All-nil, All-cons}
use Rattle.key_split.specs.declared.part.Op.{Op}
use Rattle.key_split.specs.declared.part.Op.TheVariants as op
use Rattle.key_split.specs.declared.part.Mode.{Mode}
use Rattle.key_split.specs.declared.name.Name.{Name}
use Rattle.key_split.specs.declared.name.Name.TheVariants.{Get, Set, SetNx, GetSet, GetDel, Append, StrLen, Incr, Decr, IncrBy, Del, Exists, MGet, MSet, Ping, Echo, Select, Quit}
use Rattle.key_split.specs.declared.planned.Planned.{Planned}
use Rattle.key_split.specs.declared.planned.Planned.TheVariants.{Local}
use Rattle.key_split.specs.declared.planned.PlanFault.{PlanFault}
use Rattle.resp_wire.specs.declared.value.Value.{Value}
use Rattle.key_split.specs.PartModel.{Pair}
use Rattle.key_split.specs.Groups.{slot_at, slots, group_numbers, parts_of, alone}
use Rattle.key_split.specs.Names.{allows}
use Rattle.key_split.specs.Plan.{PlanAnswer, Plans, Words, plan_as, set_with, increase}
use Rattle.key_split.specs.Join.{CanBeJoined}
use Rattle.key_split.specs.declared.planner.Wish.{Wish}
use Rattle.key_split.specs.declared.planner.Wish.TheVariants as wish
use Rattle.key_split.specs.Wishes.{HasWords, made}
use Rattle.key_split.proofs.Grouping.{AllAmong, all-among, place, place-within, length-parts}

some-parts : (o : Op) (p : Pair) (ps : List Pair) → 0 < length (parts_of o (p ∷ ps))
some-parts o p ps = omega arith

places-among : (ps : List Pair) (ns : List ℕ) → AllAmong ps ns → All (λ p. place (slot_at p) ns < length ns) ps
places-among [] ns h = All-nil _
places-among (p ∷ ps) ns h = All-cons (λ q. place (slot_at q) ns < length ns) p ps (place-within (slot_at p) ns h.0) (places-among ps ns h.1)

places-within : (o : Op) (ps : List Pair) → All (λ place. place < length (parts_of o ps)) (group_numbers ps)
places-within o ps =
    subst (λ n. All (λ place. place < n) (group_numbers ps)) (sym (length-parts o ps))
    (All-map (λ place. place < length (slots ps)) (λ p. place (slot_at p) (slots ps)) ps (places-among ps (slots ps) (all-among ps)))

either-joins : (b : Bool) (x y : Value) → IfOk {T = Planned} {E = PlanFault} (if b then Ok (Local x) else Ok (Local y)) CanBeJoined
either-joins true x y = tt
either-joins false x y = tt

pub made-joins : (wish : Wish) (args : Words) → HasWords wish args → IfOk (made wish args) CanBeJoined
made-joins (wish.OneKey o) args h = refl
made-joins (wish.Sum o) [] h = absurd (omega (arith, h.1))
made-joins (wish.Sum o) (key ∷ keys) h = some-parts o _ _
made-joins wish.MGet [] h = absurd (omega (arith, h))
made-joins wish.MGet (key ∷ keys) h = (some-parts op.MGet _ _, places-within op.MGet (alone (key ∷ keys)))
made-joins wish.MSet [] h = absurd (omega (arith, h))
made-joins wish.MSet (key ∷ []) h = absurd (omega (arith, h))
made-joins wish.MSet (key ∷ value ∷ args) h = some-parts op.MSet _ _
made-joins wish.Ping [] h = tt
made-joins wish.Ping (text ∷ args) h = tt
made-joins wish.Echo args h = tt
made-joins wish.Select args h = either-joins _ _ _
made-joins wish.Quit args h = tt

pub IfOk-planned : (wanted given : PlanAnswer) → Plans wanted given → IfOk wanted CanBeJoined → IfOk given CanBeJoined
IfOk-planned wanted (Err e) h j = tt
IfOk-planned (Err fault) (Ok p) h j = absurd cc
IfOk-planned (Ok wanted) (Ok p) h j = subst CanBeJoined (sym h) j
