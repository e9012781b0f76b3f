-- What is left when the replies that are next in order are drained.
use Rattle.std.proofs.Common.{◌≡◌, ◌≤◌, ◌<◌, ◌+◌, ◌++◌, ◌∷◌, [], List, ℕ, length, drop, take, refl, ap, arith, zero, suc, Option, Some, None, length-drop, cond, true, false, Bool}
use Rattle.std.specs.List.{list_all}
use Rattle.session_order.proofs.Lists.{all_take}
use Rattle.resp_wire.specs.declared.value.Value.{Value}
use Rattle.key_split.specs.declared.travel.Ended.{Ended}
use Rattle.session_order.specs.declared.queue.PartStage.{PartStage}
use Rattle.session_order.specs.declared.replies.PendingReply.{PendingReply}
use Rattle.session_order.specs.declared.replies.PendingReply.TheVariants.{Reply, Parts}
use Rattle.session_order.specs.Turn.{is_done}
use Rattle.session_order.specs.Replies.{joined, replies, replied, parts_of, AreJoinable}

-- the counts at a request whose parts have all ended, or have not
abbrev pub counts : Bool → Value → ℕ → (ℕ → ℕ × ℕ) → ℕ × ℕ
counts b value n rest = elim (cond {A = Option (Value × ℕ)} b (Some (value, n)) None) [ Some reply ↦ (suc (rest reply.1).0, reply.1 + (rest reply.1).1) | None ↦ (0, 0) ]

counts-bounds : (b : Bool) (value : Value) (n : ℕ) (rest : ℕ → ℕ × ℕ) (len total : ℕ) → (rest n).0 ≤ len → n + (rest n).1 ≤ total
    → ((counts b value n rest).0 ≤ suc len) × ((counts b value n rest).1 ≤ total)
counts-bounds true value n rest len total short few = (omega arith, omega arith)
counts-bounds false value n rest len total short few = (omega arith, omega arith)

-- no more is replied than is held
pub replied_bounds : (requests : List PendingReply) (stages : List PartStage) (ends : List Ended) → parts_of requests ≡ length stages
    → ((replied requests stages ends).0 ≤ length requests) × ((replied requests stages ends).1 ≤ length stages)
replied_bounds [] stages ends counted = (omega arith, omega arith)
replied_bounds (Reply value ∷ rs) stages ends counted =
    let rest = replied_bounds rs stages ends counted in (omega (arith, rest.0), omega (arith, rest.1))
replied_bounds (Parts how n ∷ rs) stages ends counted =
    let left : parts_of rs ≡ length (drop n stages) = omega (arith, length-drop n stages, counted) in
    let rest = replied_bounds rs (drop n stages) (drop n ends) left in
    counts-bounds (list_all is_done (take n stages)) (joined how (take n ends)) n (λ k. replied rs (drop k stages) (drop k ends))
    (length rs) (length stages) rest.0 (omega (arith, rest.1, length-drop n stages, counted))

counts-left : (b : Bool) (how : _) (value : Value) (n : ℕ) (rest : ℕ → ℕ × ℕ) (rs : List PendingReply) (total : ℕ)
    → n + parts_of rs ≡ total → parts_of (drop (rest n).0 rs) + (n + (rest n).1) ≡ total
    → parts_of (drop (counts b value n rest).0 (Parts how n ∷ rs)) + (counts b value n rest).1 ≡ total
counts-left true how value n rest rs total whole left = left
counts-left false how value n rest rs total whole left = omega (arith, whole)

-- the parts that are left are those of the requests that are left
pub parts_of_drop : (requests : List PendingReply) (stages : List PartStage) (ends : List Ended) → parts_of requests ≡ length stages
    → parts_of (drop (replied requests stages ends).0 requests) + (replied requests stages ends).1 ≡ length stages
parts_of_drop [] stages ends counted = omega (arith, counted)
parts_of_drop (Reply value ∷ rs) stages ends counted = omega (arith, parts_of_drop rs stages ends counted)
parts_of_drop (Parts how n ∷ rs) stages ends counted =
    let left : parts_of rs ≡ length (drop n stages) = omega (arith, length-drop n stages, counted) in
    let rest = parts_of_drop rs (drop n stages) (drop n ends) left in
    counts-left (list_all is_done (take n stages)) how (joined how (take n ends)) n (λ k. replied rs (drop k stages) (drop k ends))
    rs (length stages) counted (omega (arith, rest, length-drop n stages, counted))

pub joinable_drop : (requests : List PendingReply) (n : ℕ) → AreJoinable requests → AreJoinable (drop n requests)
joinable_drop [] zero j = j
joinable_drop [] (suc n) j = j
joinable_drop (Reply value ∷ rs) zero j = j
joinable_drop (Parts how m ∷ rs) zero j = j
joinable_drop (Reply value ∷ rs) (suc n) j = joinable_drop rs n j
joinable_drop (Parts how m ∷ rs) (suc n) j = joinable_drop rs n j.1

-- the replies at a request whose parts have all ended, or have not
abbrev pub outcome : Bool → Value → ℕ → (ℕ → List Value) → List Value
outcome b value n rest = elim (cond {A = Option (Value × ℕ)} b (Some (value, n)) None) [ Some reply ↦ reply.0 ∷ rest reply.1 | None ↦ [] ]

outcome-all : (b : Bool) (value : Value) (n : ℕ) (rest rest' : ℕ → List Value) (count : ℕ → ℕ × ℕ) (len : ℕ) (last : List Value)
    → (len ≤ (count n).0 → rest n ≡ rest' n ++ last) → suc len ≤ (counts b value n count).0
    → outcome b value n rest ≡ outcome b value n rest' ++ last
outcome-all true value n rest rest' count len last h all = ap (λ vs. value ∷ vs) (h (omega (arith, all)))
outcome-all false value n rest rest' count len last h all = absurd (omega (arith, all))

-- where every request has its reply, the last lines stand behind the replies
pub replies_all : (requests : List PendingReply) (stages : List PartStage) (ends : List Ended) (last : List Value)
    → length requests ≤ (replied requests stages ends).0
    → replies requests stages ends last ≡ replies requests stages ends [] ++ last
replies_all [] stages ends last all = refl
replies_all (Reply value ∷ rs) stages ends last all = ap (λ vs. value ∷ vs) (replies_all rs stages ends last (omega (arith, all)))
replies_all (Parts how n ∷ rs) stages ends last all =
    outcome-all (list_all is_done (take n stages)) (joined how (take n ends)) n (λ k. replies rs (drop k stages) (drop k ends) last)
    (λ k. replies rs (drop k stages) (drop k ends) []) (λ k. replied rs (drop k stages) (drop k ends)) (length rs) last
    (replies_all rs (drop n stages) (drop n ends) last) all

outcome-part : (b : Bool) (value : Value) (n : ℕ) (rest rest' : ℕ → List Value) (count : ℕ → ℕ × ℕ) (len : ℕ)
    → ((count n).0 < len → rest n ≡ rest' n) → (counts b value n count).0 < suc len
    → outcome b value n rest ≡ outcome b value n rest'
outcome-part true value n rest rest' count len h part = ap (λ vs. value ∷ vs) (h (omega (arith, part)))
outcome-part false value n rest rest' count len h part = refl

-- where some request has none, no last line is written
pub replies_part : (requests : List PendingReply) (stages : List PartStage) (ends : List Ended) (last : List Value)
    → (replied requests stages ends).0 < length requests
    → replies requests stages ends last ≡ replies requests stages ends []
replies_part [] stages ends last part = absurd (omega (arith, part))
replies_part (Reply value ∷ rs) stages ends last part = ap (λ vs. value ∷ vs) (replies_part rs stages ends last (omega (arith, part)))
replies_part (Parts how n ∷ rs) stages ends last part =
    outcome-part (list_all is_done (take n stages)) (joined how (take n ends)) n (λ k. replies rs (drop k stages) (drop k ends) last)
    (λ k. replies rs (drop k stages) (drop k ends) []) (λ k. replied rs (drop k stages) (drop k ends)) (length rs)
    (replies_part rs (drop n stages) (drop n ends) last) part

counts_done : (b : Bool) (value : Value) (n : ℕ) (stages : List PartStage) (rest : ℕ → ℕ × ℕ) → list_all is_done (take n stages) ≡ b
    → list_all is_done (take (rest n).1 (drop n stages)) ≡ true
    → list_all is_done (take (counts b value n rest).1 stages) ≡ true
counts_done true value n stages rest is others = all_take is_done stages n (rest n).1 (n + (rest n).1) refl is others
counts_done false value n stages rest is others = refl

-- the parts of the requests that have their replies are done
pub replied_done : (requests : List PendingReply) (stages : List PartStage) (ends : List Ended) → list_all is_done (take (replied requests stages ends).1 stages) ≡ true
replied_done [] stages ends = refl
replied_done (Reply value ∷ rs) stages ends =
    all_take is_done stages 0 (replied rs stages ends).1 (0 + (replied rs stages ends).1) refl refl (replied_done rs stages ends)
replied_done (Parts how n ∷ rs) stages ends =
    counts_done (list_all is_done (take n stages)) (joined how (take n ends)) n stages (λ k. replied rs (drop k stages) (drop k ends)) refl
    (replied_done rs (drop n stages) (drop n ends))
