-- Each address stands at its number, and nowhere before it.
use Rattle.std.proofs.Common.{◌≡◌, ℕ, zero, suc, ◌+◌, ◌<◌, ◌≤◌, ◌==◌, ◌&&◌, Bool, true, false, cond, nat_lt, nat_eq, List, [], ◌∷◌, ◌++◌, length, Option, Some, None, refl, sym, ◌∙◌, ap, subst, arith, length-append}
use Rattle.std.specs.Prelude.{position}
use Rattle.std.specs.List.{position_or_len}
use Rattle.std.specs.Str.{bytes_eq}
use Rattle.std.proofs.lemmas.List.Folds.{position_or_len_push}
use Rattle.std.proofs.Math.Numerals.{add-one}
use Rattle.std.proofs.lemmas.Bool.{lt-ltb}
use Rattle.slot_map.specs.Table.{Endpoint, Interns, Numbered, numbered, numbered_at, same_endpoint}
use Rattle.slot_map.specs.declared.fault.MapFault.{MapFault}
use Rattle.std.specs.Prelude.{Ok}
use Rattle.local_cluster.specs.Addresses.{address, addresses}

pub length-addresses : (n : ℕ) → length (addresses n) ≡ n
unfolding addresses
length-addresses zero = refl
length-addresses (suc n) = omega (arith, length-append (addresses n) (address n ∷ []), length-addresses n)

-- another port
apart : (k n : ℕ) → n < k → same_endpoint (address k) (address n) ≡ false
apart k n less = grind (arith)

absent : (k n : ℕ) → n ≤ k → position_or_len (same_endpoint (address k)) (addresses n) ≡ n
unfolding addresses
absent k zero within = refl
absent k (suc n) within =
    let p = same_endpoint (address k) in
    let less : n < k = omega arith in
    let before : position_or_len p (addresses n) ≡ n = absent k n (omega arith) in
    position_or_len_push p (addresses n) (address n) ∙ rw (before, length-addresses n, apart k n less) (grind (arith))

none-of : (k : ℕ) → position (same_endpoint (address k)) (addresses k) ≡ None
none-of k = rw (absent k k (omega arith), length-addresses k) (grind (arith))

abbrev table_of : Option Numbered → List Endpoint
table_of None = []
table_of (Some n) = n.table

numbered-next : (k : ℕ) → k < 64 → table_of (numbered (addresses k) (address k)) ≡ addresses k ++ address k ∷ []
numbered-next k room =
    ap (λ p. table_of (numbered_at p (addresses k) (address k))) (none-of k)
    ∙ ap (λ b. table_of (cond b (Some (record { table = addresses k ++ address k ∷ []; number = length (addresses k) })) None))
    (let e : nat_lt (length (addresses k)) 64 ≡ true = rw (length-addresses k) (lt-ltb k 64 room) in e)

append-next : (k : ℕ) → addresses (k + 1) ≡ addresses k ++ address k ∷ []
unfolding addresses
append-next k = ap addresses (add-one k)

-- the next address gets the next number
pub listed : (k node : ℕ) (table new : List Endpoint) → k < 64 → table ≡ addresses k → Interns table (address k) (Ok node) new → new ≡ addresses (k + 1)
listed k node table new room is interns =
    let interns' : numbered (addresses k) (address k) ≡ Some (record { table = new; number = node }) = rw (sym is) interns in
    sym (ap table_of interns') ∙ numbered-next k room ∙ sym (append-next k)
