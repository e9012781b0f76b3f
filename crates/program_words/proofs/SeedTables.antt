-- Nodes that go into a table one after the other, of which one is too many.
use Rattle.std.proofs.Common.{◌≡◌, ◌≤◌, ◌<◌, ◌+◌, ◌∙◌, ◌∷◌, ◌++◌, [], ℕ, zero, suc, List, Bool, true, false, Option, Some, None, Err, length, take, get_or, refl, sym, ap, arith, if◌then◌else◌}
use Rattle.std.specs.Prelude.{is_some, nat_lt, position}
use Rattle.std.specs.List.{fold}
use Rattle.std.proofs.lemmas.Bool.{false≢true}
use Rattle.std.proofs.lemmas.Bool.Decides.{nat_tests}
use Rattle.std.proofs.lemmas.List.{length-append}
use Rattle.slot_map.specs.Table.{Endpoint, Interns, Numbered, numbered, numbered_at, same_endpoint}
use Rattle.slot_map.specs.declared.fault.MapFault.{MapFault}
use Rattle.slot_map.specs.declared.fault.MapFault.TheVariants as fault
use Rattle.program_words.specs.declared.address.Address.{Address}
use Rattle.program_words.specs.Endpoints.{endpoints_of}
use Rattle.program_words.specs.SeedTable.{IsTableOf, each_once, with_node}

abbrev pub at_of : Address → Endpoint
at_of a = record { host = a.host.now; port = a.port }

without_room : (room : Bool) (n : Numbered) → (if room then Some n else None) ≡ None → room ≡ false
without_room true n is = absurd (false≢true (ap is_some (sym is)))
without_room false n is = refl

-- a node that gets no number would be one more than 64
one_too_many : (place : Option ℕ) (table : List Endpoint) (at : Endpoint) → numbered_at place table at ≡ None → 64 < length (if is_some place then table else table ++ at ∷ [])
one_too_many (Some k) table at none = absurd (false≢true (ap is_some (sym none)))
one_too_many None table at none =
    let full : nat_lt (length table) 64 ≡ false = without_room (nat_lt (length table) 64) (record { table = table ++ at ∷ []; number = length table }) none in
    let more : length (table ++ at ∷ []) ≡ length table + 1 = length-append table (at ∷ []) in
    grind (arith, nat_tests, full, more)

no_less : (known : Bool) (table : List Endpoint) (at : Endpoint) → length table ≤ length (if known then table else table ++ at ∷ [])
no_less true table at = omega arith
no_less false table at = let more : length (table ++ at ∷ []) ≡ length table + 1 = length-append table (at ∷ []) in omega (arith, more)

-- a table only grows
longer : (table nodes : List Endpoint) → length table ≤ length (fold with_node table nodes)
longer table [] = omega arith
longer table (at ∷ nodes) =
    let first : length table ≤ length (with_node table at) = no_less (is_some (position (same_endpoint at) table)) table at in
    let rest : length (with_node table at) ≤ length (fold with_node (with_node table at) nodes) = longer (with_node table at) nodes in
    omega (arith, first, rest)

too_many : (table : List Endpoint) (seeds : List Address) (i : ℕ) (d : Address) → i < length seeds → numbered (fold with_node table (endpoints_of (take i seeds))) (at_of (get_or seeds i d)) ≡ None → 64 < length (fold with_node table (endpoints_of seeds))
too_many table [] i d below none = absurd (omega (arith, below))
too_many table (s ∷ ss) zero d below none =
    let first : 64 < length (with_node table (at_of s)) = one_too_many (position (same_endpoint (at_of s)) table) table (at_of s) none in
    let rest : length (with_node table (at_of s)) ≤ length (fold with_node (with_node table (at_of s)) (endpoints_of ss)) = longer (with_node table (at_of s)) (endpoints_of ss) in
    omega (arith, first, rest)
too_many table (s ∷ ss) (suc i) d below none = too_many (with_node table (at_of s)) ss i d (omega (arith, below)) none

-- one of the seeds was refused
pub refused : (why : MapFault) (seeds : List Address) (i : ℕ) (d : Address) (at : Endpoint) (old new : List Endpoint) → i < length seeds → at ≡ at_of (get_or seeds i d) → old ≡ each_once (endpoints_of (take i seeds))
    → Interns old at (Err why) new → IsTableOf (endpoints_of seeds) (Err why)
refused fault.TooManyNodes seeds i d at old new below place so is = too_many [] seeds i d below (ap (numbered (each_once (endpoints_of (take i seeds)))) (sym place) ∙ ap (λ table. numbered table at) (sym so) ∙ is.0)
refused fault.NoMemory seeds i d at old new below place so is = tt
refused fault.NotSlots seeds i d at old new below place so is = absurd is
refused fault.BadRange seeds i d at old new below place so is = absurd is
