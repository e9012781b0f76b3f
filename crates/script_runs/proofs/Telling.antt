-- The ends of parts, among those that were told.
use Rattle.std.proofs.Common.{◌≡◌, ◌<◌, ◌+◌, ◌-◌, ◌++◌, ◌∷◌, ◌↔◌, ◌&&◌, [], append_assoc, List, ℕ, zero, suc, Bool, true, false, Option, Some, None, length, All, Any, refl, sym, ap, subst, ◌∙◌, cond, arith, rules, nat_eq}
use Rattle.std.specs.Prelude.{option_map, is_some, slice_index_or}
use Rattle.std.proofs.lemmas.List.Elements.{All-cons, All-nil, All-tail}
use Rattle.key_split.specs.PartModel.{PartModel}
use Rattle.key_split.specs.Same.{same_ticket, same_ticket-Decides}
use Rattle.key_split.specs.declared.travel.Ticket.{Ticket}
use Rattle.key_split.specs.declared.travel.Ended.{Ended}
use Rattle.session_order.specs.Output.{end_of, ends_from}
use Rattle.script_runs.specs.Ends.{Told, end_for}
use Rattle.script_runs.specs.declared.client_id.ClientId.{ClientId}
use Rattle.script_runs.specs.Run.{HaveEnds, ends_of, numbered, ticket_at}

pub no-way : {A : Type 0} → false ≡ true → A
no-way e = absurd (cc)

-- ---- one client's ends are those with its tickets

pick : (b c : Bool) (told : Told) (own : List Told) (n : ℕ) (rest : Option Ended) → nat_eq told.0.part n ≡ c → end_of own n ≡ rest
    → end_of (cond b (told ∷ own) own) n ≡ cond (b && c) (Some told.1) rest
pick true true told own n rest e r = ap (λ (x : Bool). cond x (Some told.1) (end_of own n)) e
pick true false told own n rest e r = ap (λ (x : Bool). cond x (Some told.1) (end_of own n)) e ∙ r
pick false true told own n rest e r = r
pick false false told own n rest e r = r

pub end-in : (client_id : ClientId) (ends : List Told) (n : ℕ) → end_of (ends_of client_id ends) n ≡ end_for ends (ticket_at client_id n)
end-in client_id [] n = refl
end-in client_id (told ∷ more) n =
    pick (nat_eq told.0.worker client_id.worker && nat_eq told.0.client client_id.client) (nat_eq told.0.part n) told (ends_of client_id more) n (end_for more (ticket_at client_id n)) refl (end-in client_id more n)

-- ---- the ends of many parts

-- an end before the others, where there are these
abbrev pub with_end : Option Ended → Option (List Ended) → Option (List Ended)
with_end None later = None
with_end (Some end) later = option_map (λ ends. end ∷ ends) later

pub one-more : (told : List Told) (n k : ℕ) (found : Option Ended) → end_of told n ≡ found → ends_from told n (suc k) ≡ with_end found (ends_from told (suc n) k)
one-more told n k None is = rw (is, ends_from) refl
one-more told n k (Some end) is = rw (is, ends_from) refl

is-some-map : {A B : Type 0} (f : A → B) (o : Option A) → is_some (option_map f o) ≡ is_some o
is-some-map f None = refl
is-some-map f (Some x) = refl

pub and-assoc : (a b c : Bool) → ((a && b) && c) ≡ (a && (b && c))
and-assoc true true c = refl
and-assoc true false c = refl
and-assoc false true c = refl
and-assoc false false c = refl

pub true-and : (b : Bool) → (true && b) ≡ b
true-and true = refl
true-and false = refl

false-and : (b : Bool) → (false && b) ≡ false
false-and true = refl
false-and false = refl

-- whether all of these parts have their end
abbrev pub all_told : List Told → ℕ → ℕ → Bool
all_told told n k = is_some (ends_from told n k)

append-step : (told : List Told) (n a b : ℕ) (found : Option Ended) → end_of told n ≡ found → all_told told (suc n) (a + b) ≡ (all_told told (suc n) a && all_told told (suc n + a) b)
    → all_told told n (suc a + b) ≡ (all_told told n (suc a) && all_told told (n + suc a) b)
append-step told n a b None is later =
    let sum : suc a + b ≡ suc (a + b) = omega arith in
    ap (all_told told n) sum ∙ ap is_some (one-more told n (a + b) None is)
    ∙ sym (ap (λ (o : Option (List Ended)). is_some o && all_told told (n + suc a) b) (one-more told n a None is) ∙ false-and (all_told told (n + suc a) b))
append-step told n a b (Some end) is later =
    let sum : suc a + b ≡ suc (a + b) = omega arith in
    let next : suc n + a ≡ n + suc a = omega arith in
    ap (all_told told n) sum ∙ ap is_some (one-more told n (a + b) (Some end) is)
    ∙ is-some-map (λ (ends : List Ended). end ∷ ends) (ends_from told (suc n) (a + b)) ∙ later
    ∙ ap (λ (m : ℕ). all_told told (suc n) a && all_told told m b) next
    ∙ sym (ap (λ (o : Option (List Ended)). is_some o && all_told told (n + suc a) b) (one-more told n a (Some end) is)
    ∙ ap (λ (x : Bool). x && all_told told (n + suc a) b) (is-some-map (λ (ends : List Ended). end ∷ ends) (ends_from told (suc n) a)))

pub told-append : (told : List Told) (n a b : ℕ) → all_told told n (a + b) ≡ (all_told told n a && all_told told (n + a) b)
told-append told n zero b =
    let none : zero + b ≡ b = omega arith in
    let here : n + zero ≡ n = omega arith in
    ap (all_told told n) none ∙ ap (λ (m : ℕ). all_told told m b) (sym here) ∙ sym (true-and (all_told told (n + zero) b))
told-append told n (suc a) b = append-step told n a b (end_of told n) refl (told-append told (suc n) a b)

length-step : (found : Option Ended) (later : Option (List Ended)) (k : ℕ) (ends : List Ended) → ((es : List Ended) → later ≡ Some es → length es ≡ k)
    → with_end found later ≡ Some ends → length ends ≡ suc k
length-step None later k ends rest is = absurd (let no-ends : None ≡ Some ends = is in cc)
length-step (Some end) None k ends rest is = absurd (let no-ends : None ≡ Some ends = is in cc)
length-step (Some end) (Some es) k ends rest is = let same : end ∷ es ≡ ends = (let both : Some (end ∷ es) ≡ Some ends = is in cc) in sym (ap length same) ∙ ap suc (rest es refl)

-- as many ends as parts
pub ends-length : (told : List Told) (n k : ℕ) (ends : List Ended) → ends_from told n k ≡ Some ends → length ends ≡ k
ends-length told n zero ends is = let same : [] ≡ ends = (let both : Some [] ≡ Some ends = is in cc) in sym (ap length same)
ends-length told n (suc k) ends is =
    length-step (end_of told n) (ends_from told (suc n) k) k ends (ends-length told (suc n) k) (sym (one-more told n k (end_of told n) refl) ∙ is)

-- ---- found one after another

-- ends that were found, before the others
abbrev pub behind : List Ended → Option (List Ended) → Option (List Ended)
behind own later = option_map (λ ends. own ++ ends) later

behind-one : (own : List Ended) (end : Ended) (later : Option (List Ended)) → behind own (option_map (λ ends. end ∷ ends) later) ≡ behind (own ++ end ∷ []) later
behind-one own end None = refl
behind-one own end (Some ends) = ap Some (sym (append_assoc own (end ∷ []) ends))

pub found-first : (told : List Told) (n k : ℕ) → ends_from told n k ≡ behind [] (ends_from told (n + 0) (k - 0))
found-first told n k = let here : n + 0 ≡ n = omega arith in let all : k - 0 ≡ k = omega arith in rw (here, all) (same (ends_from told n k))
  where
    same : (o : Option (List Ended)) → o ≡ behind [] o
    same None = refl
    same (Some ends) = refl

pub found-more : (told : List Told) (n k place : ℕ) (own : List Ended) (end : Ended) (all : Option (List Ended)) → place < k → end_of told (n + place) ≡ Some end
    → all ≡ behind own (ends_from told (n + place) (k - place)) → all ≡ behind (own ++ end ∷ []) (ends_from told (n + (place + 1)) (k - (place + 1)))
found-more told n k place own end all lt is so =
    let left : k - place ≡ suc (k - (place + 1)) = omega (arith, lt) in
    let next : suc (n + place) ≡ n + (place + 1) = omega arith in
    so ∙ ap (λ (m : ℕ). behind own (ends_from told (n + place) m)) left ∙ ap (behind own) (one-more told (n + place) (k - (place + 1)) (Some end) is)
    ∙ behind-one own end (ends_from told (suc (n + place)) (k - (place + 1)))
    ∙ ap (λ (m : ℕ). behind (own ++ end ∷ []) (ends_from told m (k - (place + 1)))) next

pub found-none : (told : List Told) (n k place : ℕ) (own : List Ended) (all : Option (List Ended)) → place < k → end_of told (n + place) ≡ None
    → all ≡ behind own (ends_from told (n + place) (k - place)) → None ≡ all
found-none told n k place own all lt is so =
    let left : k - place ≡ suc (k - (place + 1)) = omega (arith, lt) in
    sym (so ∙ ap (λ (m : ℕ). behind own (ends_from told (n + place) m)) left ∙ ap (behind own) (one-more told (n + place) (k - (place + 1)) None is))

pub found-all : (told : List Told) (n k place : ℕ) (own : List Ended) (all : Option (List Ended)) → place ≡ k
    → all ≡ behind own (ends_from told (n + place) (k - place)) → Some own ≡ all
found-all told n k place own all end so =
    let none : k - place ≡ zero = omega (arith, end) in
    sym (so ∙ ap (λ (m : ℕ). behind own (ends_from told (n + place) m)) none ∙ ap Some (search rules))

-- ---- a part has its end exactly where one was told of its ticket

any-later : {X : Type 0} (P : X → Type 0) (x : X) (xs : List X) → Any P xs → Any P (x ∷ xs)
any-later P x xs any = (suc any.0, any.1, omega (arith, any.2), any.3, any.4)

any-rest : {X : Type 0} (P : X → Type 0) (x : X) (xs : List X) → (P x → ⊥) → Any P (x ∷ xs) → Any P xs
any-rest {X = X} P x xs never any = go any.0 any.1 any.2 any.3 any.4
  where
    go : (k : ℕ) (y : X) → k < length (x ∷ xs) → slice_index_or (x ∷ xs) k y ≡ y → P y → Any P xs
    go zero y lt is p = absurd (never (subst P (sym is) p))
    go (suc k) y lt is p = (k, y, omega (arith, lt), is, p)

told-step : (told : Told) (more : List Told) (ticket : Ticket) (b : Bool) → same_ticket told.0 ticket ≡ b
    → (is_some (end_for more ticket) ≡ true) ↔ Any (λ end. end.0 ≡ ticket) more
    → (is_some (cond b (Some told.1) (end_for more ticket)) ≡ true) ↔ Any (λ end. end.0 ≡ ticket) (told ∷ more)
told-step told more ticket true is later = (λ e. (zero, told, omega arith, refl, (same_ticket-Decides told.0 ticket).0 is), λ any. refl)
told-step told more ticket false is later = (
  λ e. any-later (λ (end : Told). end.0 ≡ ticket) told more (later.0 e),
  λ any. later.1 (any-rest (λ (end : Told). end.0 ≡ ticket) told more (λ same. no-way (sym is ∙ (same_ticket-Decides told.0 ticket).1 same)) any),
)

pub any-told : (ends : List Told) (ticket : Ticket) → (is_some (end_for ends ticket) ≡ true) ↔ Any (λ end. end.0 ≡ ticket) ends
any-told [] ticket = (λ e. no-way e, λ any. absurd (omega (arith, any.2)))
any-told (told ∷ more) ticket = told-step told more ticket (same_ticket told.0 ticket) refl (any-told more ticket)

all-here : {X : Type 0} (P : X → Type 0) (x : X) (xs : List X) → All P (x ∷ xs) → P x
all-here P x xs all = all 0 x (omega arith)

have-step : (client_id : ClientId) (ends : List Told) (n : ℕ) (part : PartModel) (parts : List PartModel) (found : Option Ended) → end_of (ends_of client_id ends) n ≡ found
    → (all_told (ends_of client_id ends) (n + 1) (length parts) ≡ true) ↔ HaveEnds ends (numbered client_id (n + 1) parts)
    → (all_told (ends_of client_id ends) n (suc (length parts)) ≡ true) ↔ HaveEnds ends ((ticket_at client_id n, part) ∷ numbered client_id (n + 1) parts)
have-step client_id ends n part parts None is later = (
  λ e. no-way (sym (ap is_some (one-more (ends_of client_id ends) n (length parts) None is)) ∙ e),
  λ all. no-way (
      sym (ap is_some (sym (end-in client_id ends n) ∙ is))
      ∙ (any-told ends (ticket_at client_id n)).1 (all-here (λ (own : Ticket × PartModel). Any (λ end. end.0 ≡ own.0) ends) (ticket_at client_id n, part) (numbered client_id (n + 1) parts) all)),
)
have-step client_id ends n part parts (Some end) is later =
    let next : suc n ≡ n + 1 = omega arith in
    let whole : all_told (ends_of client_id ends) n (suc (length parts)) ≡ all_told (ends_of client_id ends) (n + 1) (length parts) =
    ap is_some (one-more (ends_of client_id ends) n (length parts) (Some end) is) ∙ is-some-map (λ (more : List Ended). end ∷ more) (ends_from (ends_of client_id ends) (suc n) (length parts))
    ∙ ap (λ (m : ℕ). all_told (ends_of client_id ends) m (length parts)) next in (
      λ e. All-cons (λ (own : Ticket × PartModel). Any (λ end. end.0 ≡ own.0) ends) (ticket_at client_id n, part) (numbered client_id (n + 1) parts)
          ((any-told ends (ticket_at client_id n)).0 (ap is_some (sym (end-in client_id ends n) ∙ is))) (later.0 (sym whole ∙ e)),
      λ all. whole ∙ later.1 (All-tail (λ (own : Ticket × PartModel). Any (λ end. end.0 ≡ own.0) ends) (ticket_at client_id n, part) (numbered client_id (n + 1) parts) all),
    )

pub have-ends : (client_id : ClientId) (ends : List Told) (n : ℕ) (parts : List PartModel)
    → (all_told (ends_of client_id ends) n (length parts) ≡ true) ↔ HaveEnds ends (numbered client_id n parts)
have-ends client_id ends n [] = (λ e. All-nil (λ (own : Ticket × PartModel). Any (λ end. end.0 ≡ own.0) ends), λ all. refl)
have-ends client_id ends n (part ∷ parts) = have-step client_id ends n part parts (end_of (ends_of client_id ends) n) refl (have-ends client_id ends (n + 1) parts)
