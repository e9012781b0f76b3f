-- The reply that the ends of a request's parts become.
-- The first error is the whole reply. A part that gave up or whose connection was lost counts as an error. Other parts
-- may have been executed then: a command over several slots is not atomic.
-- Redis command reference: DEL and EXISTS add integers, MGET makes an array, MSET answers OK. Replies of other kinds,
-- or a sum past 64 bits, are `unexpected reply`. Texts that begin with `ERR proxy:` are this proxy's.
use Rattle.std.specs.Prelude.{◌≡◌, ◌<◌, All, length, ℕ, ℤ, pos, ◌+ℤ◌, slice_index_or, List, [], ◌∷◌, map, Bool, true, false, if◌then◌else◌, Option, None, Some, unwrap_or, codes}
use Rattle.std.specs.List.{list_all, find}
use Rattle.std.specs.Str.{bytes_eq}
use Rattle.resp_wire.specs.Data.{Data}
use Rattle.resp_wire.specs.Data as tree
use Rattle.resp_wire.specs.declared.value.Value.{Value}
use Rattle.resp_wire.specs.declared.value.Value.TheVariants as value
use Rattle.key_split.specs.declared.travel.Ended.{Ended}
use Rattle.key_split.specs.declared.travel.Ended.TheVariants.{Answered, GaveUp, Lost}
use Rattle.key_split.specs.declared.planned.Joining.{Joining}
use Rattle.key_split.specs.declared.planned.Planned.{Planned}
use Rattle.key_split.specs.declared.planned.Planned.TheVariants.{Local, Parts, Close}
use Rattle.key_split.specs.declared.planned.Joining.TheVariants.{One, Array, AllOk, Sum}
use Rattle.key_split.specs.Number.{in_range}
use Rattle.key_split.specs.Woven.{woven}

abbrev pub unexpected : Value
unexpected = value.Error (codes "ERR proxy: unexpected reply")

-- the reply of a part
abbrev pub reply_of : Ended → Value
reply_of (Answered v) = v
reply_of GaveUp = value.Error (codes "ERR proxy: gave up, not executed")
reply_of Lost = value.Error (codes "ERR proxy: connection lost, outcome unknown")

abbrev pub is_error : Value → Bool
is_error (value.Simple t) = false
is_error (value.Error t) = true
is_error (value.Integer n) = false
is_error (value.Bulk b) = false
is_error value.NullBulk = false
is_error (value.Array ds) = false
is_error value.NullArray = false

abbrev pub is_ok_line : Value → Bool
is_ok_line (value.Simple t) = bytes_eq t (codes "OK")
is_ok_line (value.Error t) = false
is_ok_line (value.Integer n) = false
is_ok_line (value.Bulk b) = false
is_ok_line value.NullBulk = false
is_ok_line (value.Array ds) = false
is_ok_line value.NullArray = false

abbrev pub integer_in : Value → Option ℤ
integer_in (value.Simple t) = None
integer_in (value.Error t) = None
integer_in (value.Integer n) = Some n
integer_in (value.Bulk b) = None
integer_in value.NullBulk = None
integer_in (value.Array ds) = None
integer_in value.NullArray = None

-- the sum of the integers, where all replies are integers
abbrev pub plus : Option ℤ → Option ℤ → Option ℤ
plus None b = None
plus (Some a) None = None
plus (Some a) (Some b) = Some (a +ℤ b)

abbrev pub total : List Value → Option ℤ
total [] = Some (pos 0)
total (v ∷ vs) = plus (integer_in v) (total vs)

abbrev pub if_in_range : Option ℤ → Option ℤ
if_in_range None = None
if_in_range (Some n) = if in_range n then Some n else None

abbrev pub total_in_range : List Value → Option ℤ
total_in_range vs = if_in_range (total vs)

abbrev pub sum_reply : Option ℤ → Value
sum_reply None = unexpected
sum_reply (Some n) = value.Integer n

-- the items of an array of bulk strings and nulls
abbrev pub is_bulk : Data → Bool
is_bulk (tree.simple t) = false
is_bulk (tree.error t) = false
is_bulk (tree.integer n) = false
is_bulk (tree.bulk b) = true
is_bulk tree.null_bulk = true
is_bulk (tree.array ds) = false
is_bulk tree.null_array = false

abbrev pub bulks_in : Value → Option (List Data)
bulks_in (value.Simple t) = None
bulks_in (value.Error t) = None
bulks_in (value.Integer n) = None
bulks_in (value.Bulk b) = None
bulks_in value.NullBulk = None
bulks_in (value.Array ds) = if list_all is_bulk ds then Some ds else None
bulks_in value.NullArray = None

-- the arrays that the replies are, where all are arrays of bulk strings and nulls
abbrev pub in_front : Option (List Data) → Option (List (List Data)) → Option (List (List Data))
in_front None arrays = None
in_front (Some a) None = None
in_front (Some a) (Some arrays) = Some (a ∷ arrays)

abbrev pub arrays_in : List Value → Option (List (List Data))
arrays_in [] = Some []
arrays_in (v ∷ vs) = in_front (bulks_in v) (arrays_in vs)

abbrev pub array_reply : Option (List Data) → Value
array_reply None = unexpected
array_reply (Some ds) = value.Array ds

abbrev pub woven_reply : List ℕ → Option (List (List Data)) → Value
woven_reply numbers None = unexpected
woven_reply numbers (Some arrays) = array_reply (woven numbers arrays)

-- the reply that replies become, none of which is an error
abbrev pub joined : Joining → List Value → Value
joined One vs = slice_index_or vs 0 unexpected
joined (Array numbers) vs = woven_reply numbers (arrays_in vs)
joined AllOk vs = if list_all is_ok_line vs then value.Simple (codes "OK") else unexpected
joined Sum vs = sum_reply (total_in_range vs)

-- the first error among the replies, or else what they become
abbrev pub join_of : Joining → List Ended → Value
join_of joining ends = let replies = map reply_of ends in unwrap_or (find is_error replies) (joined joining replies)

-- `count` ends can be joined: there is one, or at least one, and each place is one of theirs
abbrev pub CanJoin : Joining → ℕ → Type 0
CanJoin One count = count ≡ 1
CanJoin (Array places) count = (0 < count) × All (λ place. place < count) places
CanJoin AllOk count = 0 < count
CanJoin Sum count = 0 < count

-- where the plan has parts, the ends of these can be joined
abbrev pub CanBeJoined : Planned → Type 0
CanBeJoined (Local reply) = Unit {0}
CanBeJoined (Parts joining parts) = CanJoin joining (length parts)
CanBeJoined Close = Unit {0}
