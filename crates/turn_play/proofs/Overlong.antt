-- Which values can't be read: no bytes spell them within the largest limits.
use Rattle.std.proofs.Common.{◌≡◌, ◌↔◌, refl, ◌<◌, ◌≤◌, ◌-◌, ℕ, zero, suc, Bool, true, false, List, [], ◌∷◌, length, map, get_or, sym, ap, subst, arith, IsTrue}
use Rattle.std.specs.Prelude.{All, nat_le, slice_index_or}
use Rattle.std.proofs.lemmas.Bool.{le-leb}
use Rattle.std.proofs.lemmas.List.Elements.{All-cons, All-nil}
use Rattle.resp_wire.specs.Data.{Data, simple, error, bulk, array, items_of}
use Rattle.resp_wire.specs.LimitsModel.{full}
use Rattle.resp_wire.specs.Seen.{data_of}
use Rattle.resp_wire.specs.Spelling.{SpellsAll}
use Rattle.resp_wire.specs.declared.value.Value.{Value}
use Rattle.resp_wire.proofs.FrontLaws.{front_is_whole}
use Rattle.resp_wire.proofs.WriteLaws.{counts}
use Rattle.node_link.specs.Bytes.{Splits}
use Rattle.turn_play.specs.Stream.{AreTooLong}
use Rattle.turn_play.specs.Answering.{CanAllBeSpelled, CanBeSpelled, IsReadable}
use Rattle.turn_play.proofs.ReadBack.{bulk-told}

-- ---- a test that tells

pub both-true : {P : Type 0} → P → IsTrue true ↔ P
both-true p = ((λ t. p), (λ q. refl))

neither : {P : Type 0} (b : Bool) → b ≡ false → (P → ⊥) → IsTrue b ↔ P
neither b is never = ((λ t. absurd (cc)), (λ p. absurd (never p)))

pub fails-true : (b : Bool) → b ≡ false → IsTrue b → ⊥
fails-true b e f = cc

-- ---- what is within the limits where it can be read

pub simple-short : (text : List ℕ) (room : ℕ) → CanBeSpelled room (simple text) → length text ≤ 65536
simple-short text room s = s.1.short

pub error-short : (text : List ℕ) (room : ℕ) → CanBeSpelled room (error text) → length text ≤ 65536
error-short text room s = s.1.short

pub bulk-short : (body : List ℕ) (room : ℕ) → CanBeSpelled room (bulk body) → length body ≤ 536870912
bulk-short body room s = s.1.2

-- a bulk string can be read exactly where its length is within the limit
pub bulk-tells : (body slice : List ℕ) (room : ℕ) → slice ≡ body → IsTrue (nat_le (length slice) 536870912) ↔ CanBeSpelled room (bulk body)
bulk-tells body slice room is = (
  bulk-told body slice room is,
  λ s. le-leb (length slice) 536870912 (let short = bulk-short body room s in omega (arith, short, ap length is)),
)

pub array-few : (room : ℕ) (ds : List Data) → CanBeSpelled room (array (items_of ds)) → length ds ≤ 1048576
array-few room ds s = let few = s.1.5 in omega (arith, few, counts ds)

pub too-many : (room : ℕ) (ds : List Data) → 1048576 < length ds → IsTrue false ↔ CanBeSpelled room (array (items_of ds))
too-many room ds many = neither false refl (λ s. let few = array-few room ds s in omega (arith, few, many))

pub no-room : (ds : List Data) → CanBeSpelled 0 (array (items_of ds)) → ⊥
no-room ds s = omega (arith, s.1.3)

-- an array can be read exactly where what stands in it can be, with room for one less
pub room-tells : (room : ℕ) (d : Data) (b : Bool) → 0 < room → IsTrue b ↔ CanBeSpelled (suc (room - 1)) d → IsTrue b ↔ CanBeSpelled room d
room-tells room d b some tells = subst (λ n. IsTrue b ↔ CanBeSpelled n d) (let back : suc (room - 1) ≡ room = omega (arith, some) in back) tells

items-within : (room : ℕ) (ds : List Data) → CanBeSpelled (suc room) (array (items_of ds)) → CanAllBeSpelled room ds
items-within room ds s =
    let inner : s.1.2 ≡ room = omega (arith, s.1.3) in
    (s.1.1, subst (λ r. SpellsAll full r s.1.1 (items_of ds)) inner s.1.7)

each-within : (room : ℕ) (ds : List Data) → CanAllBeSpelled room ds → All (CanBeSpelled room) ds
each-within room [] s = All-nil (CanBeSpelled room)
each-within room (d ∷ ds) s = All-cons (CanBeSpelled room) d ds (s.1.0, s.1.3) (each-within room ds (s.1.1, s.1.4))

-- ---- an item that can't be read

mapped-at : (vs : List Value) (i : ℕ) (v : Value) (d : Data) → i < length vs → v ≡ get_or vs i v → slice_index_or (map data_of vs) i d ≡ data_of v
mapped-at [] i v d lt is = absurd (omega (arith, lt))
mapped-at (w ∷ vs) zero v d lt is = ap data_of (sym is)
mapped-at (w ∷ vs) (suc i) v d lt is = mapped-at vs i v d (omega (arith, lt)) is

mapped-many : (vs : List Value) → length (map data_of vs) ≡ length vs
mapped-many [] = refl
mapped-many (v ∷ vs) = ap suc (mapped-many vs)

-- each item of an array that can be read can be read
pub item-within : (room : ℕ) (vs : List Value) (i : ℕ) (v : Value) (ds : List Data) → i < length vs → v ≡ get_or vs i v → map data_of vs ≡ ds → CanBeSpelled (suc room) (array (items_of ds)) → CanBeSpelled room (data_of v)
item-within room vs i v ds lt is mapped s =
    let all = each-within room (map data_of vs) (items-within room (map data_of vs) (subst (λ es. CanBeSpelled (suc room) (array (items_of es))) (sym mapped) s)) in
    subst (CanBeSpelled room) (mapped-at vs i v (data_of v) lt is) (all i (data_of v) (omega (arith, lt, mapped-many vs)))

pub item-unreadable : (room : ℕ) (vs : List Value) (i : ℕ) (v : Value) (ds : List Data) (b : Bool) → i < length vs → v ≡ get_or vs i v → map data_of vs ≡ ds → (CanBeSpelled room (data_of v) → IsTrue b) → b ≡ false
    → IsTrue false ↔ CanBeSpelled (suc room) (array (items_of ds))
item-unreadable room vs i v ds b lt is mapped tells fails = neither false refl (λ s. fails-true b fails (tells (item-within room vs i v ds lt is mapped s)))

-- ---- values one after another

pub one-unreadable : (vs : List Value) (at : ℕ) (v : Value) (b : Bool) → at < length vs → v ≡ slice_index_or vs at v → (IsReadable v → IsTrue b) → b ≡ false → IsTrue false ↔ All IsReadable vs
one-unreadable vs at v b within is tells fails = neither false refl (λ all. fails-true b fails (tells (subst IsReadable (sym is) (all at v within))))

pub splits-readable : (vs : List Value) (bytes : List ℕ) → Splits full bytes vs [] → All IsReadable vs
splits-readable [] bytes s = All-nil IsReadable
splits-readable (v ∷ vs) bytes s =
    let begun = (front_is_whole full bytes s.0 (data_of v)).0 s.1 in
    All-cons IsReadable v vs (begun.0, begun.1) (splits-readable vs s.0 s.2)

pub too-long : (vs : List Value) → (All IsReadable vs → ⊥) → AreTooLong vs
too-long vs never = λ bytes s. never (splits-readable vs bytes s)
