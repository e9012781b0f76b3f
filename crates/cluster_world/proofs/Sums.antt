-- A command is nowhere on its way where the sum over all places is 0.
use Rattle.std.proofs.Common.{◌≡◌, ℕ, zero, suc, List, [], ◌∷◌, refl, sym, ◌∙◌, arith}
use Rattle.std.specs.Prelude.{All}
use Rattle.key_split.specs.declared.travel.Ticket.{Ticket}
use Rattle.world_laws.specs.State.{WorldModel, Link}
use Rattle.world_laws.specs.Places.{Item, asks, in_lane, in_link, tally, total}
use Rattle.world_laws.specs.Places.Item.{Stands, Lies, Sent, Comes}
use Rattle.world_laws.specs.declared.state.Posted.{Posted}
use Rattle.cluster_world.specs.Rests.{one_at, sought, LinkRests, Rests, RunRests}
use Rattle.cluster_world.specs.declared.asks.Sought.{Sought}

total-zero : {X : Type 0} (f : X → ℕ) (xs : List X) → All (λ x. f x ≡ 0) xs → total f xs ≡ 0
total-zero f [] h = refl
total-zero f (x ∷ xs) h =
    let a : f x ≡ 0 = h 0 x (omega arith) in
    let b : total f xs ≡ 0 = total-zero f xs (λ k d lt. h (suc k) d (omega arith)) in omega (arith, a, b)

zero-total : {X : Type 0} (f : X → ℕ) (xs : List X) → total f xs ≡ 0 → All (λ x. f x ≡ 0) xs
zero-total f [] e k d lt = absurd (omega arith)
zero-total f (x ∷ xs) e zero d lt = omega (arith, e)
zero-total f (x ∷ xs) e (suc k) d lt = zero-total f xs (omega (arith, e)) k d (omega arith)

run-zero : (b : Posted) (s : Sought) → RunRests b s → in_lane (sought s) b ≡ 0
unfolding RunRests
run-zero b s h = h

zero-run : (b : Posted) (s : Sought) → in_lane (sought s) b ≡ 0 → RunRests b s
unfolding RunRests
zero-run b s h = h

link-zero : (l : Link) (s : Sought) → LinkRests l s → in_link (sought s) l ≡ 0
unfolding LinkRests
link-zero l s h = omega (arith, h.0, h.1)

zero-link : (l : Link) (s : Sought) → in_link (sought s) l ≡ 0 → LinkRests l s
unfolding LinkRests
zero-link l s e = (omega (arith, e), omega (arith, e))

rests-zero : (w : WorldModel) (s : Sought) → Rests w s → tally (sought s) w ≡ 0
unfolding Rests
rests-zero w s h =
    let a : total (λ c. sought s (Stands c)) w.commands ≡ 0 = total-zero (λ c. sought s (Stands c)) w.commands h.commands in
    let b : total (in_lane (sought s)) w.ups ≡ 0 = total-zero (in_lane (sought s)) w.ups (λ k x lt. run-zero _ s (h.ups k x lt)) in
    let d : total (in_link (sought s)) w.links ≡ 0 = total-zero (in_link (sought s)) w.links (λ k x lt. link-zero _ s (h.links k x lt)) in
    let e : total (λ p. sought s (Comes p.0 p.1)) w.downs ≡ 0 = total-zero (λ p. sought s (Comes p.0 p.1)) w.downs h.downs in omega (arith, a, b, d, e)

zero-rests : (w : WorldModel) (s : Sought) → tally (sought s) w ≡ 0 → Rests w s
unfolding Rests
zero-rests w s e = record {
  commands = zero-total (λ c. sought s (Stands c)) w.commands (omega (arith, e));
  ups = λ k x lt. zero-run _ s (zero-total (in_lane (sought s)) w.ups (omega (arith, e)) k x lt);
  links = λ k x lt. zero-link _ s (zero-total (in_link (sought s)) w.links (omega (arith, e)) k x lt);
  downs = zero-total (λ p. sought s (Comes p.0 p.1)) w.downs (omega (arith, e));
}

-- one ticket's command, as the laws say it

one-asks : (node : ℕ) (ticket : Ticket) (i : Item) → sought (one_at node ticket) i ≡ asks node ticket i
one-asks node ticket (Stands c) = refl
one-asks node ticket (Lies m asking u) = refl
one-asks node ticket (Sent o m asking u) = refl
one-asks node ticket (Comes u told) = refl

same-tally : (w : WorldModel) (node : ℕ) (ticket : Ticket) → tally (sought (one_at node ticket)) w ≡ tally (asks node ticket) w
same-tally w node ticket = λ j. tally (λ i. one-asks node ticket i j) w

pub rests-none : (w : WorldModel) (node : ℕ) (ticket : Ticket) → Rests w (one_at node ticket) → tally (asks node ticket) w ≡ 0
rests-none w node ticket h = sym (same-tally w node ticket) ∙ rests-zero w (one_at node ticket) h

pub none-rests : (w : WorldModel) (node : ℕ) (ticket : Ticket) → tally (asks node ticket) w ≡ 0 → Rests w (one_at node ticket)
none-rests w node ticket e = zero-rests w (one_at node ticket) (same-tally w node ticket ∙ e)
