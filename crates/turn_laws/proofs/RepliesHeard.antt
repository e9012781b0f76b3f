-- A store's reply is heard as that reply: no error that a store gives looks like a refusal.
use Rattle.std.proofs.Common.{◌≡◌, ℕ, pos, negsuc, Bool, true, false, cond, List, Option, Some, None, refl, sym, ap, subst}
use Rattle.std.specs.Prelude.{is_some}
use Rattle.resp_wire.specs.Data.{Data, simple, error, integer, bulk, null_bulk, array, null_array}
use Rattle.resp_wire.specs.Seen.{data_of}
use Rattle.resp_wire.specs.declared.value.Value.{Value}
use Rattle.resp_wire.specs.declared.value.Value.TheVariants as value
use Rattle.key_split.specs.declared.part.Op.{Op}
use Rattle.key_split.specs.declared.part.Op.TheVariants.{Get, Set, SetNx, GetSet, GetDel, Append, StrLen, Incr, Decr, IncrBy, Del, Exists, MGet, MSet}
use Rattle.key_split.specs.declared.part.Mode.TheVariants.{Always, IfAbsent, IfPresent}
use Rattle.key_split.specs.declared.travel.Told.TheVariants.{Reply}
use Rattle.slot_map.specs.Table.{Endpoint, host_of}
use Rattle.node_link.specs.Telling.{refusal_in, refusal_or_reply, told_by}
use Rattle.node_model.specs.Store.{Sum, Is, NotInteger, Overflow, counted, sum_of, first, bulk_of, number, ok, replies, replies_sum}

-- it is no error, or one that is no refusal
IsNoRefusal : Data → Type 0
IsNoRefusal (error line) = (asked : List ℕ) (table : List Endpoint) → refusal_in asked line table ≡ None
IsNoRefusal (simple line) = Unit {0}
IsNoRefusal (integer z) = Unit {0}
IsNoRefusal (bulk bytes) = Unit {0}
IsNoRefusal null_bulk = Unit {0}
IsNoRefusal (array items) = Unit {0}
IsNoRefusal null_array = Unit {0}

one-or-other : (b : Bool) (x y : Data) → IsNoRefusal x → IsNoRefusal y → IsNoRefusal (cond b x y)
one-or-other true x y h k = h
one-or-other false x y h k = k

of-bulk : (o : Option (List ℕ)) → IsNoRefusal (bulk_of o)
unfolding IsNoRefusal
of-bulk None = tt
of-bulk (Some bytes) = tt

of-sum : (sum : Sum) → IsNoRefusal (replies_sum sum)
unfolding IsNoRefusal
of-sum (Is n) = tt
of-sum NotInteger = λ asked table. refl
of-sum Overflow = λ asked table. refl

of-store : (o : Op) (arg : List ℕ) (found : List (Option (List ℕ))) → IsNoRefusal (replies o arg found)
unfolding IsNoRefusal
of-store Get arg found = of-bulk (first found)
of-store (Set Always) arg found = tt
of-store (Set IfAbsent) arg found = one-or-other (is_some (first found)) null_bulk ok tt tt
of-store (Set IfPresent) arg found = one-or-other (is_some (first found)) ok null_bulk tt tt
of-store SetNx arg found = one-or-other (is_some (first found)) (number 0) (number 1) tt tt
of-store GetSet arg found = of-bulk (first found)
of-store GetDel arg found = of-bulk (first found)
of-store Append arg found = tt
of-store StrLen arg found = tt
of-store Incr arg found = of-sum (sum_of (counted (first found)) (pos 1))
of-store Decr arg found = of-sum (sum_of (counted (first found)) (negsuc 0))
of-store (IncrBy n) arg found = of-sum (sum_of (counted (first found)) n)
of-store Del arg found = tt
of-store Exists arg found = tt
of-store MGet arg found = tt
of-store MSet arg found = tt

heard-as-reply : (v : Value) (node : ℕ) (table : List Endpoint) → IsNoRefusal (data_of v) → told_by v node table ≡ (Reply v, table)
unfolding IsNoRefusal
heard-as-reply (value.Error line) node table h = ap (refusal_or_reply (value.Error line) table) (h (host_of table node) table)
heard-as-reply (value.Simple line) node table h = refl
heard-as-reply (value.Integer n) node table h = refl
heard-as-reply (value.Bulk bytes) node table h = refl
heard-as-reply value.NullBulk node table h = refl
heard-as-reply (value.Array items) node table h = refl
heard-as-reply value.NullArray node table h = refl

-- a value that is a store's reply
pub reply-heard : (o : Op) (arg : List ℕ) (found : List (Option (List ℕ))) (v : Value) (node : ℕ) (table : List Endpoint) → data_of v ≡ replies o arg found
    → told_by v node table ≡ (Reply v, table)
reply-heard o arg found v node table is = heard-as-reply v node table (subst IsNoRefusal (sym is) (of-store o arg found))
