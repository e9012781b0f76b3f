-- Where each ticket's first end stands.
use Rattle.std.proofs.Common.{◌≡◌, ◌+◌, ◌∷◌, [], suc, List, ℕ, Bool, true, false, Option, Some, None, length, drop, drop-cons, refl, sym, ap, subst, ◌∙◌, cond, arith, rules}
use Rattle.std.specs.Prelude.{slice_get}
use Rattle.std.proofs.lemmas.List.{drop_all}
use Rattle.std.proofs.lemmas.Option.{get_or_from_slice_get, slice_get_within}
use Rattle.key_split.specs.Same.{same_ticket, same_ticket-Decides}
use Rattle.key_split.specs.declared.travel.Ticket.{Ticket}
use Rattle.script_runs.specs.declared.ends.Key.{Key}
use Rattle.script_runs.specs.Ends.{Told, end_for, same_key, ticket_key, found, IsPlace, IsIndexFrom}
use Rattle.script_runs.proofs.Telling.{no-way}

key-self : (k : Key) → same_key k k ≡ true
key-self k = search rules

same-key : (a b : Key) → same_key a b ≡ true → a ≡ b
same-key a b e = search rules

key-ticket : (t u : Ticket) → ticket_key t ≡ ticket_key u → t ≡ u
key-ticket t u e = λ i. record { worker = (e i).worker; client = (e i).client; part = (e i).part }

same-ticket : (t u : Ticket) → same_key (ticket_key t) (ticket_key u) ≡ true → t ≡ u
same-ticket t u e = key-ticket t u (same-key (ticket_key t) (ticket_key u) e)

-- the two tests say the same
yes : (t u : Ticket) → same_key (ticket_key t) (ticket_key u) ≡ true → same_ticket t u ≡ true
yes t u e = (same_ticket-Decides t u).1 (same-ticket t u e)

apart : (t u : Ticket) (b : Bool) → same_ticket t u ≡ b → same_key (ticket_key t) (ticket_key u) ≡ false → same_ticket t u ≡ false
apart t u false is e = is
apart t u true is e =
    let same : t ≡ u = (same_ticket-Decides t u).0 is in
    no-way (sym e ∙ subst (λ (v : Ticket). same_key (ticket_key t) (ticket_key v) ≡ true) same (key-self (ticket_key t)))

rest-from : (ends : List Told) (n : ℕ) (told : Told) → slice_get ends n ≡ Some told → drop n ends ≡ told ∷ drop (n + 1) ends
rest-from ends n told at =
    drop-cons ends n told (slice_get_within ends n told at)
    ∙ ap (λ (x : Told). x ∷ drop (suc n) ends) (get_or_from_slice_get ends n told told at)
    ∙ ap (λ (m : ℕ). told ∷ drop m ends) (let next : suc n ≡ n + 1 = omega arith in next)

pub index-start : (ends : List Told) → IsIndexFrom ends (length ends) []
index-start ends = λ ticket. ap (λ (es : List Told). end_for es ticket) (drop_all (length ends) ends (omega arith))

shift : (ends : List Told) (n : ℕ) (ticket : Ticket) (o : Option ℕ) → end_for (drop n ends) ticket ≡ end_for (drop (n + 1) ends) ticket → IsPlace ends (n + 1) ticket o → IsPlace ends n ticket o
shift ends n ticket None same is = same ∙ is
shift ends n ticket (Some place) same is = (is.0, is.1, same ∙ is.2)

place-more : (ends : List Told) (n : ℕ) (told : Told) (ticket : Ticket) (old new : Option ℕ) (b : Bool) → same_key (ticket_key told.0) (ticket_key ticket) ≡ b
    → slice_get ends n ≡ Some told → IsPlace ends (n + 1) ticket old → new ≡ cond b (Some n) old → IsPlace ends n ticket new
place-more ends n told ticket old new true is at index put =
    let P : Option ℕ → Type 0 = λ o. IsPlace ends n ticket o in
    subst P (sym put) (
      told,
      at,
      ap (λ (es : List Told). end_for es ticket) (rest-from ends n told at)
          ∙ ap (λ (c : Bool). cond c (Some told.1) (end_for (drop (n + 1) ends) ticket)) (yes told.0 ticket is),
    )
place-more ends n told ticket old new false is at index put =
    let P : Option ℕ → Type 0 = λ o. IsPlace ends n ticket o in
    subst P (sym put) (shift ends n ticket old (
    ap (λ (es : List Told). end_for es ticket) (rest-from ends n told at)
    ∙ ap (λ (c : Bool). cond c (Some told.1) (end_for (drop (n + 1) ends) ticket)) (apart told.0 ticket (same_ticket told.0 ticket) refl is)) index)

pub index-more : (ends : List Told) (k n : ℕ) (told : Told) (old new : List (Key × ℕ)) → k ≡ n + 1 → slice_get ends n ≡ Some told → IsIndexFrom ends k old
    → ((key : Key) → found new key ≡ cond (same_key (ticket_key told.0) key) (Some n) (found old key)) → IsIndexFrom ends n new
index-more ends k n told old new next at index put =
    λ ticket.
    (let P : ℕ → Type 0 = λ m. IsPlace ends m ticket (found old (ticket_key ticket)) in
    place-more ends n told ticket (found old (ticket_key ticket)) (found new (ticket_key ticket)) (same_key (ticket_key told.0) (ticket_key ticket)) refl at
    (subst P next (index ticket)) (put (ticket_key ticket)))
