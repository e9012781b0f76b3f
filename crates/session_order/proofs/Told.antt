-- The ends that were told stand at their places in the tables.
use Rattle.std.proofs.Common.{◌≡◌, ◌≤◌, ◌<◌, ◌+◌, ◌++◌, ◌∷◌, [], List, ℕ, length, drop, take, refl, ap, sym, subst, ◌∙◌, arith, rules, zero, suc, Option, Some, None, Result, Ok, Err, length-drop, cond, true, false, Bool, nat_eq, ◌&&◌}
use Rattle.std.specs.Prelude.{option_map, map, slice_get, slice_set, replicate, nat_le}
use Rattle.std.specs.List.{list_all}
use Rattle.resp_wire.specs.declared.value.Value.{Value}
use Rattle.key_split.specs.PartModel.{PartModel}
use Rattle.key_split.specs.declared.travel.Ticket.{Ticket}
use Rattle.key_split.specs.declared.travel.Ended.{Ended}
use Rattle.key_split.specs.declared.travel.Ended.TheVariants.{Lost}
use Rattle.key_split.specs.declared.planned.Joining.{Joining}
use Rattle.session_order.specs.declared.queue.PartStage.{PartStage}
use Rattle.session_order.specs.declared.queue.PartStage.TheVariants.{Waiting, Done}
use Rattle.session_order.specs.declared.replies.PendingReply.{PendingReply}
use Rattle.session_order.specs.declared.replies.PendingReply.TheVariants.{Reply, Parts}
use Rattle.session_order.specs.declared.closing.Broken.{Broken}
use Rattle.session_order.specs.declared.closing.Broken.TheVariants as broken
use Rattle.session_order.specs.Turn.{is_done}
use Rattle.session_order.specs.SessionModel.{SessionModel}
use Rattle.session_order.specs.Replies.{joined, replies, replied, parts_of}
use Rattle.session_order.specs.Output.{end_of, ends_from, replies_told}
use Rattle.session_order.proofs.Lists.{eqb-no, eqb-yes}
use Rattle.session_order.proofs.Draining.{counts, outcome}

pub is_below : (a b : ℕ) → nat_le a b ≡ true → a ≤ b
is_below a b is = search rules

pub is_above : (a b : ℕ) → nat_le a b ≡ false → b < a
is_above a b is = search rules

-- each part that is done has its end at its place, and of no other part an end was told
abbrev pub Tables : List (Ticket × Ended) → ℕ → List PartStage → List Ended → Type 0
Tables told number [] [] = Unit {0}
Tables told number [] (e ∷ es) = ⊥
Tables told number (s ∷ ss) [] = ⊥
Tables told number (s ∷ ss) (e ∷ es) = (end_of told number ≡ cond (is_done s) (Some e) None) × Tables told (suc number) ss es

pub tables_drop : (told : List (Ticket × Ended)) (n m k : ℕ) (stages : List PartStage) (ends : List Ended) → k ≡ n + m
    → Tables told n stages ends → Tables told k (drop m stages) (drop m ends)
tables_drop told n zero k stages ends sum tables = let same : k ≡ n = omega (arith, sum) in subst (λ i. Tables told i stages ends) (sym same) tables
tables_drop told n (suc m) k [] [] sum tables = tt
tables_drop told n (suc m) k [] (e ∷ es) sum tables = absurd tables
tables_drop told n (suc m) k (s ∷ ss) [] sum tables = absurd tables
tables_drop told n (suc m) k (s ∷ ss) (e ∷ es) sum tables = tables_drop told (suc n) m k ss es (omega (arith, sum)) tables.1

abbrev both_ends : Option Ended → Option (List Ended) → Option (List Ended)
both_ends first others = elim first [ Some end ↦ option_map (λ ends. end ∷ ends) others | None ↦ None ]

ends_step : (b rest : Bool) (e : Ended) (es : List Ended) (first : Option Ended) (others : Option (List Ended))
    → first ≡ cond b (Some e) None → others ≡ cond rest (Some es) None → both_ends first others ≡ cond (b && rest) (Some (e ∷ es)) None
ends_step true true e es first others one more = ap (λ o. both_ends o others) one ∙ ap (λ o. both_ends (Some e) o) more
ends_step true false e es first others one more = ap (λ o. both_ends o others) one ∙ ap (λ o. both_ends (Some e) o) more
ends_step false rest e es first others one more = ap (λ o. both_ends o others) one

-- the ends that were told are those at the places, where all parts are done
pub ends_table : (told : List (Ticket × Ended)) (n m : ℕ) (stages : List PartStage) (ends : List Ended) → Tables told n stages ends → m ≤ length stages
    → ends_from told n m ≡ cond (list_all is_done (take m stages)) (Some (take m ends)) None
ends_table told n zero stages ends tables fits = refl
ends_table told n (suc m) [] ends tables fits = absurd (omega (arith, fits))
ends_table told n (suc m) (s ∷ ss) [] tables fits = absurd tables
ends_table told n (suc m) (s ∷ ss) (e ∷ es) tables fits =
    ends_step (is_done s) (list_all is_done (take m ss)) e (take m es) (end_of told n) (ends_from told (suc n) m) tables.0
    (ends_table told (suc n) m ss es tables.1 (omega (arith, fits)))

pick : (b : Bool) (x e : Ended) (r r' : Option Ended) → (r ≡ Some e → r' ≡ Some e) → cond b (Some x) r ≡ Some e → cond b (Some x) r' ≡ Some e
pick true x e r r' h is = is
pick false x e r r' h is = h is

end_more : (told more : List (Ticket × Ended)) (n : ℕ) (e : Ended) → end_of told n ≡ Some e → end_of (told ++ more) n ≡ Some e
end_more [] more n e is = cc
end_more (t ∷ ts) more n e is = pick (nat_eq t.0.part n) t.1 e (end_of ts n) (end_of (ts ++ more) n) (end_more ts more n e) is

joins : (first first' : Option Ended) (others others' : Option (List Ended)) (es : List Ended) → ((e : Ended) → first ≡ Some e → first' ≡ Some e)
    → ((xs : List Ended) → others ≡ Some xs → others' ≡ Some xs) → both_ends first others ≡ Some es → both_ends first' others' ≡ Some es
joins (Some e) first' (Some xs) others' es one more is = ap (λ o. both_ends o others') (one e refl) ∙ ap (λ o. both_ends (Some e) o) (more xs refl) ∙ is
joins (Some e) first' None others' es one more is = cc
joins None first' others others' es one more is = cc

-- an end that was told stays
pub ends_more : (told more : List (Ticket × Ended)) (n m : ℕ) (es : List Ended) → ends_from told n m ≡ Some es → ends_from (told ++ more) n m ≡ Some es
ends_more told more n zero es is = is
ends_more told more n (suc m) es is =
    joins (end_of told n) (end_of (told ++ more) n) (ends_from told (suc n) m) (ends_from (told ++ more) (suc n) m) es
    (end_more told more n) (ends_more told more (suc n) m) is

abbrev pub after : Option (List Ended) → Joining → List Value → List Value
after told how rest = elim told [ Some ends ↦ joined how ends ∷ rest | None ↦ [] ]

left_at : (b : Bool) (how : Joining) (m n k : ℕ) (rs later : List PendingReply) (told : List (Ticket × Ended)) (last : List Value) (ends : List Ended)
    (front : ℕ → List Value) (count : ℕ → ℕ × ℕ) → (b ≡ true → ends_from told n m ≡ Some ends)
    → k ≡ n + (counts b (joined how ends) m count).1
    → (k ≡ n + m + (count m).1 → replies_told told (n + m) (rs ++ later) last ≡ front m ++ replies_told told k (drop (count m).0 rs ++ later) last)
    → replies_told told n (Parts how m ∷ (rs ++ later)) last
    ≡ outcome b (joined how ends) m front ++ replies_told told k (drop (counts b (joined how ends) m count).0 (Parts how m ∷ rs) ++ later) last
left_at true how m n k rs later told last ends front count all sum rest =
    ap (λ o. after o how (replies_told told (n + m) (rs ++ later) last)) (all refl) ∙ ap (λ vs. joined how ends ∷ vs) (rest (omega (arith, sum)))
left_at false how m n k rs later told last ends front count all sum rest =
    let same : n ≡ k = omega (arith, sum) in ap (λ i. replies_told told i (Parts how m ∷ (rs ++ later)) last) same

-- the output is the replies that are next, and what the requests after them give, whatever is read and told later
pub replies_left : (requests : List PendingReply) (stages : List PartStage) (ends : List Ended) (told more : List (Ticket × Ended)) (n k : ℕ) (later : List PendingReply) (last : List Value)
    → Tables told n stages ends → parts_of requests ≤ length stages → k ≡ n + (replied requests stages ends).1
    → replies_told (told ++ more) n (requests ++ later) last
    ≡ replies requests stages ends [] ++ replies_told (told ++ more) k (drop (replied requests stages ends).0 requests ++ later) last
replies_left [] stages ends told more n k later last tables counted sum =
    let same : n ≡ k = omega (arith, sum) in ap (λ i. replies_told (told ++ more) i later last) same
replies_left (Reply value ∷ rs) stages ends told more n k later last tables counted sum =
    ap (λ vs. value ∷ vs) (replies_left rs stages ends told more n k later last tables counted (omega (arith, sum)))
replies_left (Parts how m ∷ rs) stages ends told more n k later last tables counted sum =
    let fits : m ≤ length stages = omega (arith, counted) in
    let left : parts_of rs ≤ length (drop m stages) = omega (arith, length-drop m stages, counted) in
    left_at (list_all is_done (take m stages)) how m n k rs later (told ++ more) last (take m ends)
    (λ i. replies rs (drop i stages) (drop i ends) []) (λ i. replied rs (drop i stages) (drop i ends))
    (λ all. ends_more told more n m (take m ends) (ends_table told n m stages ends tables fits ∙ ap (λ (b : Bool). cond {A = Option (List Ended)} b (Some (take m ends)) None) all))
    sum
    (λ rest. replies_left rs (drop m stages) (drop m ends) told more (n + m) k later last (tables_drop told n m (n + m) stages ends refl tables) left rest)

same_at : (b : Bool) (how : Joining) (m : ℕ) (es : List Ended) (rest : ℕ → List Value) (others : List Value) → rest m ≡ others
    → outcome b (joined how es) m rest ≡ after (cond {A = Option (List Ended)} b (Some es) None) how others
same_at true how m es rest others same = ap (λ vs. joined how es ∷ vs) same
same_at false how m es rest others same = refl

-- the replies by the session's tables are those by what was told
pub same_replies : (requests : List PendingReply) (stages : List PartStage) (ends : List Ended) (told : List (Ticket × Ended)) (n : ℕ) (last : List Value)
    → Tables told n stages ends → parts_of requests ≡ length stages → replies requests stages ends last ≡ replies_told told n requests last
same_replies [] stages ends told n last tables counted = refl
same_replies (Reply value ∷ rs) stages ends told n last tables counted = ap (λ vs. value ∷ vs) (same_replies rs stages ends told n last tables counted)
same_replies (Parts how m ∷ rs) stages ends told n last tables counted =
    let fits : m ≤ length stages = omega (arith, counted) in
    let left : parts_of rs ≡ length (drop m stages) = omega (arith, length-drop m stages, counted) in
    same_at (list_all is_done (take m stages)) how m (take m ends) (λ i. replies rs (drop i stages) (drop i ends) last) (replies_told told (n + m) rs last)
    (same_replies rs (drop m stages) (drop m ends) told (n + m) last (tables_drop told n m (n + m) stages ends refl tables) left)
    ∙ ap (λ (o : Option (List Ended)). after o how (replies_told told (n + m) rs last)) (sym (ends_table told n m stages ends tables fits))

pub tables_set : (told : List (Ticket × Ended)) (n i : ℕ) (stages : List PartStage) (ends : List Ended) (s s' : PartStage) → slice_get stages i ≡ Some s → is_done s' ≡ is_done s
    → Tables told n stages ends → Tables told n (slice_set stages i s') ends
tables_set told n i [] ends s s' at same tables = tables
tables_set told n i (h ∷ ss) [] s s' at same tables = absurd tables
tables_set told n zero (h ∷ ss) (e ∷ es) s s' at same tables =
    let is : h ≡ s = search rules in
    (tables.0 ∙ ap (λ (b : Bool). cond {A = Option Ended} b (Some e) None) (ap is_done is ∙ sym same), tables.1)
tables_set told n (suc i) (h ∷ ss) (e ∷ es) s s' at same tables = (tables.0, tables_set told (suc n) i ss es s s' at same tables.1)

pub end_other : (told : List (Ticket × Ended)) (ticket : Ticket) (end : Ended) (m : ℕ) → nat_eq ticket.part m ≡ false → end_of (told ++ (ticket, end) ∷ []) m ≡ end_of told m
end_other [] ticket end m other = ap (λ (b : Bool). cond {A = Option Ended} b (Some end) None) other
end_other (t ∷ ts) ticket end m other = ap (λ (o : Option Ended). cond (nat_eq t.0.part m) (Some t.1) o) (end_other ts ticket end m other)

none_pick : (b : Bool) (x e : Ended) (r r' : Option Ended) → (r ≡ None → r' ≡ Some e) → cond b (Some x) r ≡ None → cond b (Some x) r' ≡ Some e
none_pick true x e r r' h is = cc
none_pick false x e r r' h is = h is

end_here : (told : List (Ticket × Ended)) (ticket : Ticket) (end : Ended) (m : ℕ) → nat_eq ticket.part m ≡ true → end_of told m ≡ None → end_of (told ++ (ticket, end) ∷ []) m ≡ Some end
end_here [] ticket end m here none = ap (λ (b : Bool). cond {A = Option Ended} b (Some end) None) here
end_here (t ∷ ts) ticket end m here none = none_pick (nat_eq t.0.part m) t.1 end (end_of ts m) (end_of (ts ++ (ticket, end) ∷ []) m) (end_here ts ticket end m here) none

tables_later : (told : List (Ticket × Ended)) (ticket : Ticket) (end : Ended) (n : ℕ) (stages : List PartStage) (ends : List Ended) → ticket.part < n
    → Tables told n stages ends → Tables (told ++ (ticket, end) ∷ []) n stages ends
tables_later told ticket end n [] [] less tables = tt
tables_later told ticket end n [] (e ∷ es) less tables = absurd tables
tables_later told ticket end n (s ∷ ss) [] less tables = absurd tables
tables_later told ticket end n (s ∷ ss) (e ∷ es) less tables =
    let other : nat_eq ticket.part n ≡ false = eqb-no ticket.part n (λ same. omega (arith, same, less)) in
    (end_other told ticket end n other ∙ tables.0, tables_later told ticket end (suc n) ss es (omega (arith, less)) tables.1)

pub tables_end : (told : List (Ticket × Ended)) (ticket : Ticket) (end : Ended) (n i : ℕ) (stages : List PartStage) (ends : List Ended) (s : PartStage) → slice_get stages i ≡ Some s → is_done s ≡ false
    → ticket.part ≡ n + i → Tables told n stages ends → Tables (told ++ (ticket, end) ∷ []) n (slice_set stages i Done) (slice_set ends i end)
tables_end told ticket end n i [] ends s at open_is sum tables = cc
tables_end told ticket end n i (h ∷ ss) [] s at open_is sum tables = absurd tables
tables_end told ticket end n zero (h ∷ ss) (e ∷ es) s at open_is sum tables =
    let is : h ≡ s = search rules in
    let here : nat_eq ticket.part n ≡ true = eqb-yes ticket.part n (omega (arith, sum)) in
    let none : end_of told n ≡ None = tables.0 ∙ ap (λ (b : Bool). cond {A = Option Ended} b (Some e) None) (ap is_done is ∙ open_is) in
    (end_here told ticket end n here none, tables_later told ticket end (suc n) ss es (omega (arith, sum)) tables.1)
tables_end told ticket end n (suc i) (h ∷ ss) (e ∷ es) s at open_is sum tables =
    let other : nat_eq ticket.part n ≡ false = eqb-no ticket.part n (λ same. omega (arith, same, sum)) in
    (end_other told ticket end n other ∙ tables.0, tables_end told ticket end (suc n) i ss es s at open_is (omega (arith, sum)) tables.1)

pub tables_append : (told : List (Ticket × Ended)) (n k : ℕ) (stages more : List PartStage) (ends others : List Ended) → k ≡ n + length stages
    → Tables told n stages ends → Tables told k more others → Tables told n (stages ++ more) (ends ++ others)
tables_append told n k [] more [] others sum tables rest = let same : k ≡ n = omega (arith, sum) in subst (λ i. Tables told i more others) same rest
tables_append told n k [] more (e ∷ es) others sum tables rest = absurd tables
tables_append told n k (s ∷ ss) more [] others sum tables rest = absurd tables
tables_append told n k (s ∷ ss) more (e ∷ es) others sum tables rest = (tables.0, tables_append told (suc n) k ss more es others (omega (arith, sum)) tables.1 rest)

pub tables_new : (told : List (Ticket × Ended)) (n : ℕ) (parts : List PartModel) → ((k : ℕ) → n ≤ k → end_of told k ≡ None) → Tables told n (map Waiting parts) (replicate (length parts) Lost)
tables_new told n [] unused = tt
tables_new told n (p ∷ ps) unused = (unused n (omega arith), tables_new told (suc n) ps (λ k le. unused k (omega (arith, le))))

pub split_ok : (b : Bool) (wide new : SessionModel) → cond {A = Result SessionModel Broken} b (Ok wide) (Err broken.NotRequest) ≡ Ok new → new ≡ wide
split_ok true wide new is = cc
split_ok false wide new is = cc
