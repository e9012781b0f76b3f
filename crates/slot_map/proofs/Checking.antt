-- What the two passes over a reply keep.
use Rattle.std.proofs.Common.{◌≡◌, ℕ, ◌<◌, ◌≤◌, ◌-◌, suc, List, [], ◌∷◌, ◌++◌, length, map, take, drop, refl, sym, ◌∙◌, arith, get_or, ap, subst, append_assoc}
use Rattle.std.specs.Prelude.{Result, Ok, Err, Option, Some}
use Rattle.std.proofs.lemmas.Grind.{common_steps}
use Rattle.slot_map.specs.declared.ops.MapOp.{MapOp}
use Rattle.slot_map.specs.declared.fault.MapFault.{MapFault}
use Rattle.resp_wire.specs.declared.value.Value.{Value}
use Rattle.resp_wire.specs.Seen.{data_of}
use Rattle.std.proofs.lemmas.List.{take_all}
use Rattle.slot_map.specs.Table.{Endpoint, endpoint_of, host_of, Grows}
use Rattle.slot_map.specs.Slots.{SlotsReading, ReadStep, before, go_on, range_in, read_entries, step_from}
use Rattle.slot_map.specs.Passes.{after, fault_of, StepsAs, Tries}

pub fault_of_before : (op : MapOp) (reading : Result SlotsReading MapFault) → fault_of (before op reading) ≡ fault_of reading
fault_of_before op (Err e) = refl
fault_of_before op (Ok r) = refl

endpoint_of_more : (old more : List Endpoint) (node : ℕ) → node < length old → endpoint_of (old ++ more) node ≡ endpoint_of old node
endpoint_of_more old more node known = grind (arith, common_steps)

pub host_of_more : (old more : List Endpoint) (node : ℕ) → node < length old → host_of (old ++ more) node ≡ host_of old node
host_of_more old more node known = ap (λ (at : Endpoint). at.host) (endpoint_of_more old more node known)

one_more : (ops : List MapOp) (op : MapOp) (reading : Result SlotsReading MapFault) → after ops (before op reading) ≡ after (ops ++ op ∷ []) reading
one_more ops op (Err e) = refl
one_more ops op (Ok r) = ap (λ (os : List MapOp). Ok (record { ops = os; table = r.table })) (sym (append_assoc ops (op ∷ []) r.ops))

step_on : (step : Result ReadStep MapFault) (next : List Endpoint → Result SlotsReading MapFault) (ops : List MapOp) (op : MapOp) (old new : List Endpoint) → StepsAs step old (Ok op) new → after ops (go_on step next) ≡ after (ops ++ op ∷ []) (next new)
step_on (Err e) next ops op old new steps = absurd (let no : Ok op ≡ Err e = steps.0 in cc)
step_on (Ok s) next ops op old new steps = one_more ops s.op (next s.table) ∙ ap (λ (o : MapOp). after (ops ++ o ∷ []) (next s.table)) (sym steps.0) ∙ ap (λ (t : List Endpoint). after (ops ++ op ∷ []) (next t)) (sym steps.1)

-- an entry more was read
pub read_on : (asked : ℕ) (values : List Value) (entry : Value) (all : Result SlotsReading MapFault) (ops more : List MapOp) (op : MapOp) (old new : List Endpoint)
    → 1 ≤ length values → entry ≡ get_or values 0 entry → all ≡ after ops (read_entries asked (map data_of values) old)
    → StepsAs (step_from (host_of old asked) old (range_in (data_of entry))) old (Ok op) new → more ≡ ops ++ op ∷ []
    → all ≡ after more (read_entries asked (map data_of (take (length values - 1) (drop 1 values))) new)
read_on asked [] entry all ops more op old new some is read steps pushed = absurd (omega arith)
read_on asked (v ∷ vs) entry all ops more op old new some is read steps pushed =
    let rest : take (suc (length vs) - 1) vs ≡ vs = take_all (suc (length vs) - 1) vs (omega arith) in
    read
    ∙ step_on (step_from (host_of old asked) old (range_in (data_of v))) (read_entries asked (map data_of vs)) ops op old new
    (subst (λ (x : Value). StepsAs (step_from (host_of old asked) old (range_in (data_of x))) old (Ok op) new) is steps)
    ∙ ap (λ (os : List MapOp). after os (read_entries asked (map data_of vs) new)) (sym pushed)
    ∙ ap (λ (xs : List Value). after more (read_entries asked (map data_of xs) new)) (sym rest)

pub Grows-trans : (old middle new : List Endpoint) → Grows old middle → Grows middle new → Grows old new
Grows-trans old middle new first second = (first.0 ++ second.0, second.1 ∙ ap (λ xs. xs ++ second.0) first.1 ∙ append_assoc old first.0 second.0)

-- ---- the first pass

tried : (step : Result ReadStep MapFault) (next : List Endpoint → Result SlotsReading MapFault) (new : List Endpoint) → Tries step (Ok tt) new → fault_of (go_on step next) ≡ fault_of (next new)
tried (Err e) next new tries = absurd (let no : Ok tt ≡ Err e = tries in cc)
tried (Ok s) next new tries = fault_of_before s.op (next s.table) ∙ ap (λ (t : List Endpoint). fault_of (next t)) (sym tries.1)

refused : (step : Result ReadStep MapFault) (next : List Endpoint → Result SlotsReading MapFault) (fault : MapFault) (new : List Endpoint) → Tries step (Err fault) new → fault_of (go_on step next) ≡ Some fault
refused (Err e) next fault new tries = (let same : e ≡ fault = cc in ap Some same)
refused (Ok s) next fault new tries = absurd (let no : Err fault ≡ Ok tt = tries.0 in cc)

-- the host of the asked node, which was read before the table grew
pub host_still : (asked port : ℕ) (host : List ℕ) (table old : List Endpoint) → asked < length table → record { host = host; port = port } ≡ endpoint_of table asked → Grows table old → host ≡ host_of old asked
host_still asked port host table old known at grown =
    ap (λ (e : Endpoint). e.host) at ∙ sym (ap (λ (t : List Endpoint). host_of t asked) grown.1 ∙ host_of_more table grown.0 asked known)

-- the first of the entries, by the asked node's host
first_tried : (asked : ℕ) (first entry : Value) (host : List ℕ) (old new : List Endpoint) (given : Result (Unit {0}) MapFault) → entry ≡ first → host ≡ host_of old asked
    → Tries (step_from host old (range_in (data_of entry))) given new → Tries (step_from (host_of old asked) old (range_in (data_of first))) given new
first_tried asked first entry host old new given is host_is tries =
    subst (λ (h : List ℕ). Tries (step_from h old (range_in (data_of first))) given new) host_is
    (subst (λ (x : Value). Tries (step_from host old (range_in (data_of x))) given new) is tries)

-- an entry more has no fault
pub checked_on : (asked : ℕ) (values : List Value) (entry : Value) (host : List ℕ) (fault : Option MapFault) (old new : List Endpoint)
    → 1 ≤ length values → entry ≡ get_or values 0 entry → host ≡ host_of old asked → fault ≡ fault_of (read_entries asked (map data_of values) old)
    → Tries (step_from host old (range_in (data_of entry))) (Ok tt) new
    → fault ≡ fault_of (read_entries asked (map data_of (take (length values - 1) (drop 1 values))) new)
checked_on asked [] entry host fault old new some is host_is read tries = absurd (omega arith)
checked_on asked (v ∷ vs) entry host fault old new some is host_is read tries =
    let rest : take (suc (length vs) - 1) vs ≡ vs = take_all (suc (length vs) - 1) vs (omega arith) in
    read
    ∙ tried (step_from (host_of old asked) old (range_in (data_of v))) (read_entries asked (map data_of vs)) new (first_tried asked v entry host old new (Ok tt) is host_is tries)
    ∙ ap (λ (xs : List Value). fault_of (read_entries asked (map data_of xs) new)) (sym rest)

-- the fault of the next entry is the first
pub refused_on : (asked : ℕ) (values : List Value) (entry : Value) (host : List ℕ) (fault : Option MapFault) (own : MapFault) (old new : List Endpoint)
    → 1 ≤ length values → entry ≡ get_or values 0 entry → host ≡ host_of old asked → fault ≡ fault_of (read_entries asked (map data_of values) old)
    → Tries (step_from host old (range_in (data_of entry))) (Err own) new → fault ≡ Some own
refused_on asked [] entry host fault own old new some is host_is read tries = absurd (omega arith)
refused_on asked (v ∷ vs) entry host fault own old new some is host_is read tries =
    read ∙ refused (step_from (host_of old asked) old (range_in (data_of v))) (read_entries asked (map data_of vs)) own new (first_tried asked v entry host old new (Err own) is host_is tries)
