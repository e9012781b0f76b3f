-- Tickets of a run.
use Rattle.std.proofs.Common.{◌≡◌, ℕ, ◌+◌, ◌^◌, List, [], ◌∷◌, ◌++◌, length, drop, Option, Some, None, refl, sym, ap, ◌∙◌, arith}
use Rattle.std.specs.Option.{option_map}
use Rattle.std.proofs.lemmas.List.{drop_all}
use Rattle.std.specs.List.{before_first, position_or_len, slice_split}
use Rattle.key_split.specs.declared.travel.Ticket.{Ticket}
use Rattle.cluster_world.specs.Script.{Words, number_below}
use Rattle.cluster_world.specs.Schedule.{both, client_in, is_dot, is_plus, ticket_of, tickets_for, tickets_in, tickets_of}
use Rattle.cluster_world.proofs.Pieces.{split_whole}

past_end : (n : ℕ) (xs : List ℕ) → n ≡ length xs → drop (n + 1) xs ≡ []
past_end n xs e = drop_all (n + 1) xs (omega (arith, e))

no_number : (bound : ℕ) → None ≡ number_below bound []
unfolding number_below
no_number bound = refl

-- where there is no dot
pub no_tickets : (workers : ℕ) (word : List ℕ) → position_or_len is_dot word ≡ length word → None ≡ tickets_in workers word
no_tickets workers word none =
    go (client_in (before_first is_dot word)) ∙ ap (λ text. tickets_for workers (client_in (before_first is_dot word)) (slice_split is_plus text)) (sym (past_end (position_or_len is_dot word) word none))
  where
    go : (client : Option ℕ) → None ≡ tickets_for workers client (slice_split is_plus [])
    go None = refl
    go (Some client) = ap (λ n. both (λ part more. ticket_of workers client part ∷ more) n (Some [])) (no_number (2 ^ 64)) ∙ ap (tickets_of workers client) (sym (split_whole is_plus [] refl))

with-one : (workers client part : ℕ) (more : Option (List Ticket)) → both (λ part more. ticket_of workers client part ∷ more) (Some part) more ≡ option_map (λ ts. ticket_of workers client part ∷ ts) more
with-one workers client part None = refl
with-one workers client part (Some ts) = refl

with-none : (workers client : ℕ) (more : Option (List Ticket)) → both (λ part more. ticket_of workers client part ∷ more) None more ≡ None
with-none workers client more = refl

joins : (so : List Ticket) (t : Ticket) (ts : List Ticket) → (so ++ t ∷ []) ++ ts ≡ so ++ (t ∷ ts)
joins [] t ts = refl
joins (x ∷ so) t ts = ap (λ us. x ∷ us) (joins so t ts)

behind-so : (so : List Ticket) (t : Ticket) (more : Option (List Ticket)) → option_map (λ ts. so ++ ts) (option_map (λ ts. t ∷ ts) more) ≡ option_map (λ ts. (so ++ t ∷ []) ++ ts) more
behind-so so t None = refl
behind-so so t (Some ts) = ap Some (sym (joins so t ts))

-- the number of a part, by its ticket
part-of : (workers client : ℕ) (number : Option ℕ) (t : Ticket) → option_map (ticket_of workers client) number ≡ Some t → (part : ℕ) × (number ≡ Some part) × (ticket_of workers client part ≡ t)
part-of workers client None t e = absurd (cc)
part-of workers client (Some part) t e = (part, refl, (let same : ticket_of workers client part ≡ t = cc in same))

none-of : (workers client : ℕ) (number : Option ℕ) → option_map (ticket_of workers client) number ≡ None → number ≡ None
none-of workers client None e = refl
none-of workers client (Some part) e = absurd (cc)

-- one more of the parts
pub one-more : (workers client : ℕ) (all rest piece : List ℕ) (pieces : Words) (so : List Ticket) (t : Ticket) → tickets_of workers client (slice_split is_plus all) ≡ option_map (λ ts. so ++ ts) (tickets_of workers client (slice_split is_plus rest))
    → slice_split is_plus rest ≡ piece ∷ pieces → Some t ≡ option_map (ticket_of workers client) (number_below (2 ^ 64) piece)
    → tickets_of workers client (slice_split is_plus all) ≡ option_map (λ ts. (so ++ t ∷ []) ++ ts) (tickets_of workers client pieces)
one-more workers client all rest piece pieces so t h next e =
    let n = part-of workers client (number_below (2 ^ 64) piece) t (sym e) in
    h ∙ ap (λ ws. option_map (λ ts. so ++ ts) (tickets_of workers client ws)) next
    ∙ ap (λ o. option_map (λ ts. so ++ ts) (both (λ part more. ticket_of workers client part ∷ more) o (tickets_of workers client pieces))) n.1
    ∙ ap (option_map (λ ts. so ++ ts)) (with-one workers client n.0 (tickets_of workers client pieces) ∙ ap (λ (x : Ticket). option_map (λ ts. x ∷ ts) (tickets_of workers client pieces)) n.2)
    ∙ behind-so so t (tickets_of workers client pieces)

-- one that is no number
pub not-one : (workers client : ℕ) (all rest piece : List ℕ) (pieces : Words) (so : List Ticket) → tickets_of workers client (slice_split is_plus all) ≡ option_map (λ ts. so ++ ts) (tickets_of workers client (slice_split is_plus rest))
    → slice_split is_plus rest ≡ piece ∷ pieces → None ≡ option_map (ticket_of workers client) (number_below (2 ^ 64) piece) → None ≡ tickets_of workers client (slice_split is_plus all)
not-one workers client all rest piece pieces so h next e =
    sym (h ∙ ap (λ ws. option_map (λ ts. so ++ ts) (tickets_of workers client ws)) next
    ∙ ap (λ o. option_map (λ ts. so ++ ts) (both (λ part more. ticket_of workers client part ∷ more) o (tickets_of workers client pieces))) (none-of workers client (number_below (2 ^ 64) piece) (sym e)))

-- the last
pub all-tickets : (workers client : ℕ) (all rest : List ℕ) (so items : List Ticket) (t : Ticket) → tickets_of workers client (slice_split is_plus all) ≡ option_map (λ ts. so ++ ts) (tickets_of workers client (slice_split is_plus rest))
    → slice_split is_plus rest ≡ rest ∷ [] → Some t ≡ option_map (ticket_of workers client) (number_below (2 ^ 64) rest) → items ≡ so ++ t ∷ []
    → Some items ≡ tickets_of workers client (slice_split is_plus all)
all-tickets workers client all rest so items t h next e is = ap Some (is ∙ sym (none-added (so ++ t ∷ []))) ∙ sym (one-more workers client all rest rest [] so t h next e)
  where
    none-added : (xs : List Ticket) → xs ++ [] ≡ xs
    none-added [] = refl
    none-added (x ∷ xs) = ap (λ ys. x ∷ ys) (none-added xs)
