-- Tests of whether two parts, tickets, ends or told answers are the same; each `==` ensures that its test tells exactly
-- that.
-- `==` makes these tests. A lemma `..-Decides` each says that the test answers true exactly for equal things.
use Rattle.std.proofs.Common.{◌≡◌, Bool, true, false, ◌&&◌, List, [], ◌∷◌, refl, sym, ap, ◌∙◌, subst, nat_eq, IsTrue, ◌↔◌}
use Rattle.std.specs.Bool.{Decides}
use Rattle.std.specs.Str.{bytes_eq}
use Rattle.std.specs.Cmp.{first_so, second_so, signed_Decides, unsigned_Decides}
use Rattle.std.specs.Cmp.Lexicographic.{pointwise, pointwise_decides, bytes_decides}
use Rattle.std.proofs.lemmas.Bool.{false≢true}
use Rattle.key_split.specs.declared.part.Op.{Op}
use Rattle.key_split.specs.declared.part.Op.TheVariants.{Get, Set, SetNx, GetSet, GetDel, Append, StrLen, Incr, Decr, IncrBy, Del, Exists, MGet, MSet}
use Rattle.key_split.specs.declared.part.Mode.TheVariants.{Always, IfAbsent, IfPresent}
use Rattle.key_split.specs.contracts.part.OpPartialEq.TheImpl as op_eq
use Rattle.key_split.specs.PartModel.{PartModel, Pair}
use Rattle.key_split.specs.declared.travel.Ticket.{Ticket}
use Rattle.key_split.specs.declared.travel.Ended.{Ended}
use Rattle.key_split.specs.declared.travel.Ended.TheVariants as end
use Rattle.key_split.specs.declared.travel.Told.{Told}
use Rattle.key_split.specs.declared.travel.Told.TheVariants.{Reply, Moved, Ask, TryAgain, ClusterDown, Unclear, Lost, Unsent}
use Rattle.resp_wire.specs.Data.{Data, simple, error, integer, bulk, null_bulk, array, null_array, items_of, list_of}
use Rattle.resp_wire.specs.Seen.{data_of}
use Rattle.resp_wire.specs.Same.{same_value, tells}
use Rattle.resp_wire.specs.declared.value.Value.{Value}
use Rattle.resp_wire.specs.declared.value.Value.TheVariants as value

-- `==` on operations, as it is derived
abbrev pub same_op : Op → Op → Bool
same_op = (op_eq.ghosts).eq

abbrev pub same_pair : Pair → Pair → Bool
same_pair a b = bytes_eq a.0 b.0 && bytes_eq a.1 b.1

abbrev pub same_part : PartModel → PartModel → Bool
same_part a b = same_op a.op b.op && bytes_eq a.key b.key && bytes_eq a.arg b.arg && pointwise same_pair a.rest b.rest

abbrev pub same_ticket : Ticket → Ticket → Bool
same_ticket a b = nat_eq a.worker b.worker && nat_eq a.client b.client && nat_eq a.part b.part

abbrev pub same_end : Ended → Ended → Bool
same_end (end.Answered a) (end.Answered b) = same_value a b
same_end end.GaveUp end.GaveUp = true
same_end end.Lost end.Lost = true
same_end a b = false

abbrev pub same_told : Told → Told → Bool
same_told (Reply a) (Reply b) = same_value a b
same_told (Moved s n) (Moved t m) = nat_eq s t && nat_eq n m
same_told (Ask s n) (Ask t m) = nat_eq s t && nat_eq n m
same_told TryAgain TryAgain = true
same_told ClusterDown ClusterDown = true
same_told Unclear Unclear = true
same_told Lost Lost = true
same_told Unsent Unsent = true
same_told a b = false

-- ---- each test tells its things apart

pub same_op-Decides : (a b : Op) → Decides (same_op a b) (a ≡ b)
same_op-Decides Get Get = (λ _. refl, λ _. refl)
same_op-Decides (Set Always) (Set Always) = (λ _. refl, λ _. refl)
same_op-Decides (Set IfAbsent) (Set IfAbsent) = (λ _. refl, λ _. refl)
same_op-Decides (Set IfPresent) (Set IfPresent) = (λ _. refl, λ _. refl)
same_op-Decides SetNx SetNx = (λ _. refl, λ _. refl)
same_op-Decides GetSet GetSet = (λ _. refl, λ _. refl)
same_op-Decides GetDel GetDel = (λ _. refl, λ _. refl)
same_op-Decides Append Append = (λ _. refl, λ _. refl)
same_op-Decides StrLen StrLen = (λ _. refl, λ _. refl)
same_op-Decides Incr Incr = (λ _. refl, λ _. refl)
same_op-Decides Decr Decr = (λ _. refl, λ _. refl)
same_op-Decides (IncrBy n) (IncrBy m) = (λ e. ap IncrBy ((signed_Decides n m).0 e), λ e. (signed_Decides n m).1 (let f : n ≡ m = cc in f))
same_op-Decides Del Del = (λ _. refl, λ _. refl)
same_op-Decides Exists Exists = (λ _. refl, λ _. refl)
same_op-Decides MGet MGet = (λ _. refl, λ _. refl)
same_op-Decides MSet MSet = (λ _. refl, λ _. refl)
same_op-Decides a b = (λ e. absurd (false≢true e), λ e. cc)

pub same_pair-Decides : (a b : Pair) → Decides (same_pair a b) (a ≡ b)
same_pair-Decides a b = (
  λ e. (
      let k : a.0 ≡ b.0 = (bytes_decides a.0 b.0).0 (first_so (bytes_eq a.0 b.0) (bytes_eq a.1 b.1) e) in
      let v : a.1 ≡ b.1 = (bytes_decides a.1 b.1).0 (second_so (bytes_eq a.0 b.0) (bytes_eq a.1 b.1) e) in λ i. (k i, v i)),
  λ e. subst (λ x. same_pair a x ≡ true) e (let k = (bytes_decides a.0 a.0).1 refl in let v = (bytes_decides a.1 a.1).1 refl in λ i. k i && v i),
)

same_pairs-Decides : (a b : List Pair) → Decides (pointwise same_pair a b) (a ≡ b)
same_pairs-Decides = pointwise_decides same_pair-Decides

pub same_part-Decides : (a b : PartModel) → Decides (same_part a b) (a ≡ b)
same_part-Decides a b = (
  λ e. (
      let three = first_so (same_op a.op b.op && bytes_eq a.key b.key && bytes_eq a.arg b.arg) (pointwise same_pair a.rest b.rest) e in
      let two = first_so (same_op a.op b.op && bytes_eq a.key b.key) (bytes_eq a.arg b.arg) three in
      let o : a.op ≡ b.op = (same_op-Decides a.op b.op).0 (first_so (same_op a.op b.op) (bytes_eq a.key b.key) two) in
      let k : a.key ≡ b.key = (bytes_decides a.key b.key).0 (second_so (same_op a.op b.op) (bytes_eq a.key b.key) two) in
      let v : a.arg ≡ b.arg = (bytes_decides a.arg b.arg).0 (second_so (same_op a.op b.op && bytes_eq a.key b.key) (bytes_eq a.arg b.arg) three) in
      let r : a.rest ≡ b.rest = (same_pairs-Decides a.rest b.rest).0 (second_so (same_op a.op b.op && bytes_eq a.key b.key && bytes_eq a.arg b.arg) (pointwise same_pair a.rest b.rest) e) in
      λ i. record { op = o i; key = k i; arg = v i; rest = r i }),
  λ e. subst (λ x. same_part a x ≡ true) e (
      let o = (same_op-Decides a.op a.op).1 refl in
      let k = (bytes_decides a.key a.key).1 refl in
      let v = (bytes_decides a.arg a.arg).1 refl in
      let r = (same_pairs-Decides a.rest a.rest).1 refl in λ i. o i && k i && v i && r i),
)

pub same_ticket-Decides : (a b : Ticket) → Decides (same_ticket a b) (a ≡ b)
same_ticket-Decides a b = (
  λ e. (
      let two = first_so (nat_eq a.worker b.worker && nat_eq a.client b.client) (nat_eq a.part b.part) e in
      let w : a.worker ≡ b.worker = (unsigned_Decides a.worker b.worker).0 (first_so (nat_eq a.worker b.worker) (nat_eq a.client b.client) two) in
      let c : a.client ≡ b.client = (unsigned_Decides a.client b.client).0 (second_so (nat_eq a.worker b.worker) (nat_eq a.client b.client) two) in
      let p : a.part ≡ b.part = (unsigned_Decides a.part b.part).0 (second_so (nat_eq a.worker b.worker && nat_eq a.client b.client) (nat_eq a.part b.part) e) in
      λ i. record { worker = w i; client = c i; part = p i }),
  λ e. subst (λ x. same_ticket a x ≡ true) e (
      let w = (unsigned_Decides a.worker a.worker).1 refl in
      let c = (unsigned_Decides a.client a.client).1 refl in
      let p = (unsigned_Decides a.part a.part).1 refl in λ i. w i && c i && p i),
)

-- a value, from its data
abbrev value_of : Data → Value
value_of (simple t) = value.Simple t
value_of (error t) = value.Error t
value_of (integer z) = value.Integer z
value_of (bulk b) = value.Bulk b
value_of null_bulk = value.NullBulk
value_of (array ds) = value.Array (list_of ds)
value_of null_array = value.NullArray

list_of-items_of : (ds : List Data) → list_of (items_of ds) ≡ ds
list_of-items_of [] = refl
list_of-items_of (d ∷ ds) = ap (λ es. d ∷ es) (list_of-items_of ds)

value_of-data_of : (v : Value) → value_of (data_of v) ≡ v
value_of-data_of (value.Simple t) = refl
value_of-data_of (value.Error t) = refl
value_of-data_of (value.Integer z) = refl
value_of-data_of (value.Bulk b) = refl
value_of-data_of value.NullBulk = refl
value_of-data_of (value.Array ds) = ap value.Array (list_of-items_of ds)
value_of-data_of value.NullArray = refl

pub same_value-Decides : (a b : Value) → Decides (same_value a b) (a ≡ b)
same_value-Decides a b = (
  λ e. sym (value_of-data_of a) ∙ ap value_of ((tells (data_of a) (data_of b)).0 e) ∙ value_of-data_of b,
  λ e. (tells (data_of a) (data_of b)).1 (ap data_of e),
)

pub same_end-Decides : (a b : Ended) → Decides (same_end a b) (a ≡ b)
same_end-Decides (end.Answered a) (end.Answered b) =
    (λ e. ap end.Answered ((same_value-Decides a b).0 e), λ e. (same_value-Decides a b).1 (let f : a ≡ b = cc in f))
same_end-Decides end.GaveUp end.GaveUp = (λ _. refl, λ _. refl)
same_end-Decides end.Lost end.Lost = (λ _. refl, λ _. refl)
same_end-Decides a b = (λ e. absurd (false≢true e), λ e. cc)

pub same_told-Decides : (a b : Told) → Decides (same_told a b) (a ≡ b)
same_told-Decides (Reply a) (Reply b) =
    (λ e. ap Reply ((same_value-Decides a b).0 e), λ e. (same_value-Decides a b).1 (let f : a ≡ b = cc in f))
same_told-Decides (Moved s n) (Moved t m) = (
  λ e. (
      let f : s ≡ t = (unsigned_Decides s t).0 (first_so (nat_eq s t) (nat_eq n m) e) in
      let g : n ≡ m = (unsigned_Decides n m).0 (second_so (nat_eq s t) (nat_eq n m) e) in λ i. Moved (f i) (g i)),
  λ e. (
      let f = (unsigned_Decides s t).1 (let f : s ≡ t = cc in f) in
      let g = (unsigned_Decides n m).1 (let g : n ≡ m = cc in g) in λ i. f i && g i),
)
same_told-Decides (Ask s n) (Ask t m) = (
  λ e. (
      let f : s ≡ t = (unsigned_Decides s t).0 (first_so (nat_eq s t) (nat_eq n m) e) in
      let g : n ≡ m = (unsigned_Decides n m).0 (second_so (nat_eq s t) (nat_eq n m) e) in λ i. Ask (f i) (g i)),
  λ e. (
      let f = (unsigned_Decides s t).1 (let f : s ≡ t = cc in f) in
      let g = (unsigned_Decides n m).1 (let g : n ≡ m = cc in g) in λ i. f i && g i),
)
same_told-Decides TryAgain TryAgain = (λ _. refl, λ _. refl)
same_told-Decides ClusterDown ClusterDown = (λ _. refl, λ _. refl)
same_told-Decides Unclear Unclear = (λ _. refl, λ _. refl)
same_told-Decides Lost Lost = (λ _. refl, λ _. refl)
same_told-Decides Unsent Unsent = (λ _. refl, λ _. refl)
same_told-Decides a b = (λ e. absurd (false≢true e), λ e. cc)

-- what a test that decides a fact tells
pub told : {P : Type 0} (answer test : Bool) → answer ≡ test → Decides test P → (IsTrue answer ↔ P)
told answer test e d = (λ t. d.0 (sym e ∙ t), λ p. e ∙ d.1 p)
