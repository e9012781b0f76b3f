-- Building the items of an array one after another.
use Rattle.std.proofs.Common.{◌≡◌, ◌≢◌, ℕ, zero, suc, ◌+◌, ◌-◌, ◌<◌, ◌≤◌, List, [], ◌∷◌, ◌++◌, map, Option, Result, Err, refl, sym, ap, subst, ◌∙◌, arith}
use Rattle.std.specs.Borrow.{Bor}
use Rattle.std.proofs.lemmas.List.{append-nil, map-append}
use Rattle.std.proofs.lemmas.Bool.{le-ltb}
use Rattle.resp_wire.specs.Data.{Data, Items, no_items, item, items_of, array}
use Rattle.resp_wire.specs.LimitsModel.{LimitsModel}
use Rattle.resp_wire.specs.Reading.{Reading, whole, partial, faulty, then_read, value_at, items_at, items_in, counted_array, after_line}
use Rattle.resp_wire.specs.Seen.{items_view}
use Rattle.resp_wire.specs.Gives.{Builds}
use Rattle.resp_wire.specs.declared.fault.WireFault.{WireFault}
use Rattle.resp_wire.specs.declared.fault.WireFault.TheVariants.{NoMemory, BadType, BadNumber, TooLong, TooMany, TooDeep, BadEnd}
use Rattle.resp_wire.proofs.Complete.{items_more, items_none}
use Rattle.resp_wire.proofs.Lines.{then_then}

abbrev pub prepend : List Data → Items → Items
prepend [] vs = vs
prepend (d ∷ ds) vs = item d (prepend ds vs)

pub with_front : List Data → Reading Items → Reading Items
with_front front r = then_read r (λ vs rest. whole (prepend front vs) rest)

prepend_push : (front : List Data) (v : Data) (vs : Items) → prepend (front ++ v ∷ []) vs ≡ prepend front (item v vs)
prepend_push [] v vs = refl
prepend_push (d ∷ ds) v vs = ap (item d) (prepend_push ds v vs)

prepend_none : (front : List Data) → prepend front no_items ≡ items_of front
prepend_none [] = refl
prepend_none (d ∷ ds) = ap (item d) (prepend_none ds)

pub front_start : (r : Reading Items) → with_front [] r ≡ r
unfolding with_front
front_start (whole vs rest) = refl
front_start partial = refl
front_start (faulty f) = refl

pub front_more : (read : List ℕ → Reading Data) (front : List Data) (n k : ℕ) (bytes after : List ℕ) (v : Data) → n ≡ suc k → read bytes ≡ whole v after → with_front (front ++ v ∷ []) (items_at read k after) ≡ with_front front (items_at read n bytes)
unfolding with_front
front_more read front n k bytes after v e h =
    ap (then_read (items_at read k after)) (λ i vs rest. whole (prepend_push front v vs i) rest)
    ∙ sym (ap (λ (m : ℕ). then_read (items_at read m bytes) (λ vs rest. whole (prepend front vs) rest)) e
    ∙ ap (λ r. then_read r (λ vs rest. whole (prepend front vs) rest)) (items_more read k bytes after v h)
    ∙ then_then (items_at read k after) _ _)

pub front_end : (read : List ℕ → Reading Data) (front : List Data) (n : ℕ) (bytes : List ℕ) → n ≡ 0 → with_front front (items_at read n bytes) ≡ whole (items_of front) bytes
unfolding with_front
front_end read front n bytes e =
    ap (λ (m : ℕ). then_read (items_at read m bytes) (λ vs rest. whole (prepend front vs) rest)) e
    ∙ ap (λ r. then_read r (λ vs rest. whole (prepend front vs) rest)) (items_none read bytes)
    ∙ ap (λ vs. whole vs bytes) (prepend_none front)

items_partial : (read : List ℕ → Reading Data) (k : ℕ) (bytes : List ℕ) → read bytes ≡ partial → items_at read (suc k) bytes ≡ partial
unfolding items_at
items_partial read k bytes e = rw e refl

items_faulty : (read : List ℕ → Reading Data) (k : ℕ) (bytes : List ℕ) (f : WireFault) → read bytes ≡ faulty f → items_at read (suc k) bytes ≡ faulty f
unfolding items_at
items_faulty read k bytes f e = rw e refl

pub front_partial : (read : List ℕ → Reading Data) (front : List Data) (n : ℕ) (bytes : List ℕ) → 0 < n → read bytes ≡ partial → with_front front (items_at read n bytes) ≡ partial
unfolding with_front
front_partial read front zero bytes h e = absurd (omega arith)
front_partial read front (suc k) bytes h e = rw (items_partial read k bytes e) refl

front_faulty : (read : List ℕ → Reading Data) (front : List Data) (n : ℕ) (bytes : List ℕ) (f : WireFault) → 0 < n → read bytes ≡ faulty f → with_front front (items_at read n bytes) ≡ faulty f
unfolding with_front
front_faulty read front zero bytes f h e = absurd (omega arith)
front_faulty read front (suc k) bytes f h e = rw (items_faulty read k bytes f e) refl

-- a fault below is the fault above
pub fault_up : {X Y A B : Type 0} (view : X → A) (other : Y → B) (f : WireFault) (r : Reading A) (s : Reading B) → ((g : WireFault) → r ≡ faulty g → s ≡ faulty g) → Builds view (Err f) r → Builds other (Err f) s
fault_up view other NoMemory r s up b = tt
fault_up view other BadType r s up b = up BadType b
fault_up view other BadNumber r s up b = up BadNumber b
fault_up view other TooLong r s up b = up TooLong b
fault_up view other TooMany r s up b = up TooMany b
fault_up view other TooDeep r s up b = up TooDeep b
fault_up view other BadEnd r s up b = up BadEnd b

pub fault_is : {X A : Type 0} (view : X → A) (f : WireFault) (r : Reading A) → r ≡ faulty f → Builds view (Err f) r
fault_is view NoMemory r e = tt
fault_is view BadType r e = e
fault_is view BadNumber r e = e
fault_is view TooLong r e = e
fault_is view TooMany r e = e
fault_is view TooDeep r e = e
fault_is view BadEnd r e = e

pub items_fault : {X : Type 0} (view : X → Data) (read : List ℕ → Reading Data) (front : List Data) (n : ℕ) (bytes : List ℕ) (f : WireFault) (s : Reading Items) → 0 < n → with_front front (items_at read n bytes) ≡ s → Builds view (Err f) (read bytes) → Builds items_view (Err f) s
items_fault view read front n bytes f s h e b = fault_up view items_view f (read bytes) s (λ g k. sym e ∙ front_faulty read front n bytes g h k) b

pub builds_same : {X A : Type 0} (view : X → A) (result : Result (Option (X × Bor (List ℕ))) WireFault) (r s : Reading A) → r ≡ s → Builds view result s → Builds view result r
builds_same {X} {A} view result r s e b = subst (λ (t : Reading A). Builds view result t) (sym e) b

-- a line, with nothing after the bytes
pub line_alone : (l : LimitsModel) (room kind : ℕ) (text bytes rest : List ℕ) → value_at l room (bytes ++ []) ≡ after_line l (items_in l room) kind text (rest ++ []) → value_at l room bytes ≡ after_line l (items_in l room) kind text rest
line_alone l room kind text bytes rest e =
    ap (λ (u : List ℕ). value_at l room u) (sym (append-nil bytes)) ∙ e ∙ ap (λ (u : List ℕ). after_line l (items_in l room) kind text u) (append-nil rest)

pub array_inner : (l : LimitsModel) (room n limit : ℕ) (rest : List ℕ) → room ≢ 0 → limit ≡ l.items → n ≤ limit → counted_array (items_in l room) rest n ≡ then_read (items_at (value_at l (room - 1)) n rest) (λ vs after. whole (array vs) after)
array_inner l zero n limit rest h m k = absurd (h refl)
array_inner l (suc inner) n limit rest h m k =
    let less : suc inner - 1 ≡ inner = omega arith in
    rw (le-ltb l.items n (omega arith), less) refl

pub push_more : {X : Type 0} (view : X → Data) (read : List ℕ → Reading Data) (old new : List X) (x : X) (len counter : ℕ) (bytes rest after : List ℕ) → new ≡ old ++ x ∷ [] → counter < len → read rest ≡ whole (view x) after
    → with_front (map view old) (items_at read (len - counter) rest) ≡ items_at read len bytes → with_front (map view new) (items_at read (len - (counter + 1)) after) ≡ items_at read len bytes
push_more view read old new x len counter bytes rest after e h r k =
    let less : len - counter ≡ suc (len - (counter + 1)) = omega arith in
    let mapped : map view new ≡ map view old ++ view x ∷ [] = ap (map view) e ∙ map-append view old (x ∷ []) in
    ap (λ (u : List Data). with_front u (items_at read (len - (counter + 1)) after)) mapped
    ∙ front_more read (map view old) (len - counter) (len - (counter + 1)) rest after (view x) less r ∙ k
