-- What a table has once nodes were added to it, and how the next one is made.
use Rattle.std.proofs.Common.{◌≡◌, ◌≤◌, ◌<◌, ◌+◌, ◌++◌, ◌∷◌, [], ℕ, zero, suc, List, Bool, true, false, length, take, if◌then◌else◌, refl, sym, ap, subst, ◌∙◌, arith}
use Rattle.std.specs.Prelude.{Some, Result, Ok, Err, is_some, position, slice_get}
use Rattle.std.specs.List.{fold}
use Rattle.std.proofs.lemmas.List.{length-append}
use Rattle.resp_wire.specs.declared.value.Value.{Value}
use Rattle.resp_wire.specs.Text.{is_one_line}
use Rattle.slot_map.specs.declared.fault.MapFault.{MapFault}
use Rattle.slot_map.specs.declared.fault.MapFault.TheVariants as fault
use Rattle.slot_map.specs.declared.ops.MapOp.{MapOp}
use Rattle.slot_map.specs.Slots.{SlotsReading, ReadsAs, read_slots}
use Rattle.slot_map.specs.Table.{Endpoint, Interns, Numbered, same_endpoint}
use Rattle.node_dial.specs.NextTable.{Adds, IsNextTable, with_node, with_nodes, with_place}

-- ---- the nodes of a table, one after the other

-- those of the first places
abbrev pub with_front : List Endpoint → List Endpoint → ℕ → List Endpoint
with_front table nodes count = fold with_node table (take count nodes)

one_more_place : (table nodes : List Endpoint) (count : ℕ) → with_front table nodes (suc count) ≡ with_place (with_front table nodes count) (slice_get nodes count)
one_more_place table [] zero = refl
one_more_place table [] (suc count) = refl
one_more_place table (at ∷ nodes) zero = refl
one_more_place table (at ∷ nodes) (suc count) = one_more_place (with_node table at) nodes count

no_less : (known : Bool) (table : List Endpoint) (at : Endpoint) → length table ≤ length (if known then table else table ++ at ∷ [])
no_less true table at = omega arith
no_less false table at = let more : length (table ++ at ∷ []) ≡ length table + 1 = length-append table (at ∷ []) in omega (arith, more)

-- a table only grows
longer : (table nodes : List Endpoint) → length table ≤ length (fold with_node table nodes)
longer table [] = omega arith
longer table (at ∷ nodes) =
    let first : length table ≤ length (with_node table at) = no_less (is_some (position (same_endpoint at) table)) table at in
    let rest : length (with_node table at) ≤ length (fold with_node (with_node table at) nodes) = longer (with_node table at) nodes in
    omega (arith, first, rest)

longer_front : (table nodes : List Endpoint) (count most : ℕ) → count ≤ most → length (with_front table nodes count) ≤ length (with_front table nodes most)
longer_front table nodes zero most within = longer table (take most nodes)
longer_front table nodes (suc count) zero within = absurd (omega (arith, within))
longer_front table [] (suc count) (suc most) within = omega arith
longer_front table (at ∷ nodes) (suc count) (suc most) within = longer_front (with_node table at) nodes count most (omega (arith, within))

-- the node of one more place was added
pub front_next : (start old new nodes : List Endpoint) (count : ℕ) → old ≡ with_front start nodes count → Adds (with_place old (slice_get nodes count)) (Ok tt) new → new ≡ with_front start nodes (count + 1)
front_next start old new nodes count front adds =
    let one : suc count ≡ count + 1 = omega arith in
    adds ∙ ap (λ (t : List Endpoint). with_place t (slice_get nodes count)) front ∙ sym (one_more_place start nodes count) ∙ ap (with_front start nodes) one

-- there is no place for it, nor for all
pub front_full : (start old new nodes : List Endpoint) (count : ℕ) (why : MapFault) → count < 64 → old ≡ with_front start nodes count → Adds (with_place old (slice_get nodes count)) (Err why) new → Adds (with_nodes start nodes) (Err why) new
front_full start old new nodes count fault.TooManyNodes within front adds =
    let here : length (with_place old (slice_get nodes count)) ≡ length (with_front start nodes (suc count)) =
    ap (λ (t : List Endpoint). length (with_place t (slice_get nodes count))) front ∙ sym (ap length (one_more_place start nodes count)) in
    let more : length (with_front start nodes (suc count)) ≤ length (with_front start nodes 64) = longer_front start nodes (suc count) 64 (omega (arith, within)) in
    omega (arith, adds, more, here)
front_full start old new nodes count fault.NoMemory within front adds = tt
front_full start old new nodes count fault.NotSlots within front adds = absurd adds
front_full start old new nodes count fault.BadRange within front adds = absurd adds

-- ---- the node that answered, and those that its answer names

first_known : (start : List Endpoint) (at : Endpoint) (node : ℕ) (new : List Endpoint) → start ≡ [] → Interns start at (Ok node) new → (node ≡ 0) × (new ≡ at ∷ [])
first_known start at node new none is =
    let said : Some (record { table = at ∷ []; number = 0 }) ≡ Some (record { table = new; number = node }) = subst (λ (t : List Endpoint). Interns t at (Ok node) new) none is in
    let it : record { table = at ∷ []; number = 0 } ≡ record { table = new; number = node } = cc in
    (sym (ap (λ (n : Numbered). n.number) it), sym (ap (λ (n : Numbered). n.table) it))

-- what was read by the number that the first node was given
read_by_first : (start : List Endpoint) (at : Endpoint) (answer : Value) (node : ℕ) (first : List Endpoint) (ops : List MapOp) (known : List Endpoint) → start ≡ [] → Interns start at (Ok node) first
    → ReadsAs (read_slots answer node first) first (Ok ops) known → ReadsAs (read_slots answer 0 (at ∷ [])) (at ∷ []) (Ok ops) known
read_by_first start at answer node first ops known none is reads =
    let begun = first_known start at node first none is in
    subst (λ (xs : List Endpoint). ReadsAs (read_slots answer 0 xs) xs (Ok ops) known) begun.1
    (subst (λ (n : ℕ). ReadsAs (read_slots answer n first) first (Ok ops) known) begun.0 reads)

pub next_made : (seeds start : List Endpoint) (at : Endpoint) (answer : Value) (node : ℕ) (first : List Endpoint) (ops : List MapOp) (known table : List Endpoint) → is_one_line at.host ≡ true → start ≡ [] → Interns start at (Ok node) first
    → ReadsAs (read_slots answer node first) first (Ok ops) known → Adds (with_nodes known seeds) (Ok tt) table → IsNextTable seeds at answer (Ok table)
next_made seeds start at answer node first ops known table line none is reads adds = go (read_slots answer 0 (at ∷ [])) refl (read_by_first start at answer node first ops known none is reads)
  where
    go : (reading : Result SlotsReading MapFault) → read_slots answer 0 (at ∷ []) ≡ reading → ReadsAs reading (at ∷ []) (Ok ops) known → IsNextTable seeds at answer (Ok table)
    go (Err e) said now = absurd (let no : Ok ops ≡ Err e = now.0 in cc)
    go (Ok r) said now = (r, (line, said), adds ∙ ap (λ (t : List Endpoint). with_nodes t seeds) now.1)
