-- Each ticket stands in one place, and has as many entries as that place allows: kept where commands arrive, are posted, come back or are answered.
use Rattle.std.proofs.Common.{◌≡◌, ℕ, ◌+◌, ◌≤◌, ◌==◌, ◌&&◌, Bool, true, false, List, [], ◌∷◌, refl, sym, ap, ◌∙◌, subst, arith}
use Rattle.std.specs.Prelude.{All, count_by}
use Rattle.std.proofs.lemmas.List.Sums.{sum_by-cons}
use Rattle.std.proofs.lemmas.Bool.Decides.{nat_tests}
use Rattle.resp_wire.specs.Data.{Data}
use Rattle.key_split.specs.PartModel.{PartModel}
use Rattle.key_split.specs.declared.travel.Ticket.{Ticket}
use Rattle.key_split.specs.declared.travel.Told.{Told}
use Rattle.world_laws.specs.State.{WorldModel, Arrival, Posted, Link, LinkRequest, LinkReply, answered_of, sent_of, start_from}
use Rattle.node_model.specs.Store.{StoreModel}
use Rattle.world_laws.specs.declared.state.LinkRequest.TheVariants.{Asking, Runs}
use Rattle.world_laws.specs.declared.state.LinkReply.TheVariants.{Welcome, To}
use Rattle.world_laws.specs.Places.{Item, total, in_requests, in_backs, in_lane, in_link, tally, is}
use Rattle.world_laws.specs.Places.Item.{Sent, Comes}
use Rattle.node_model.specs.History.{EntryModel}
use Rattle.node_model.specs.Nodes.{ClusterModel}
use Rattle.world_laws.specs.World.{WorldDoes}
use Rattle.world_laws.specs.declared.event.Event.TheVariants.{Arrive, Post, Refuse, Take}
use Rattle.world_laws.specs.declared.event.Event.TheVariants as ev
use Rattle.world_laws.proofs.Tally.{total-append}
use Rattle.world_laws.proofs.Flow.{IsTidy, arrive-flow, post-flow, refuse-flow, take-flow, answer-flow}
use Rattle.world_laws.proofs.Counted.{one_if, if_awaits, if_ran, if_replied, here, awaits, stray, ran, replied_by, owned, entry_by, ticket-after_told, awaits-after_told, ran-after_told, replied-after_told, awaits-may_post, ran-may_post, replied-may_post}

abbrev pub numbered_so : ℕ → ℕ → Ticket → Bool
numbered_so client part u = (u.client == client) && (u.part == part)

abbrev pub owned_by : ℕ → Ticket → Bool
owned_by client u = u.client == client

pub record Placed (w : WorldModel) : Type 0 where
  -- a client's parts are numbered from 0, each number once
  pub single : (client part : ℕ) → tally (owned (numbered_so client part)) w ≤ 1
  pub below : (client part : ℕ) → tally (owned (owned_by client)) w ≤ part → tally (owned (numbered_so client part)) w ≡ 0
  -- a command that awaits stands in one place, and no other stands anywhere
  pub place : (t : Ticket) → tally (here t) w ≡ tally (awaits t) w
  -- who was told a reply or Told.Lost may have an entry or a request in a closed link, one in all; no other has
  pub once : (t : Ticket) → total (λ e. is t e.ticket) w.history + tally (stray t) w ≤ tally (ran t) w
  -- who was told a reply has an entry with it
  pub replied : (p : Data → Bool) (t : Ticket) → tally (replied_by p t) w ≤ total (entry_by p t) w.history
  -- an open link does not end with ASKING
  pub tidy : All IsTidy w.links

-- where commands stand, whatever the history has
pub record Standing (w : WorldModel) : Type 0 where
  pub single : (client part : ℕ) → tally (owned (numbered_so client part)) w ≤ 1
  pub below : (client part : ℕ) → tally (owned (owned_by client)) w ≤ part → tally (owned (numbered_so client part)) w ≡ 0
  pub place : (t : Ticket) → tally (here t) w ≡ tally (awaits t) w
  -- who has a request in a closed link was told a reply or Told.Lost
  pub strays : (t : Ticket) → tally (stray t) w ≤ tally (ran t) w
  pub tidy : All IsTidy w.links

pub standing-of : (w : WorldModel) (history : List EntryModel) → Placed (record w { history = history }) → Standing w
standing-of w history h = record { single = h.single; below = h.below; place = h.place; strays = λ t. omega (arith, h.once t); tidy = h.tidy }

pub total-zero : {X : Type 0} (xs : List X) → total (λ (x : X). 0) xs ≡ 0
total-zero [] = refl
total-zero (x ∷ xs) = omega (arith, total-zero xs)

pub total-same : {X : Type 0} (f g : X → ℕ) → ((x : X) → f x ≡ g x) → (xs : List X) → total f xs ≡ total g xs
total-same f g e [] = refl
total-same f g e (x ∷ xs) = omega (arith, e x, total-same f g e xs)

-- commands keep their tickets
pub numbering : (w w' : WorldModel) → ((p : Ticket → Bool) → tally (owned p) w' ≡ tally (owned p) w) → Placed w
    → record { single : (client part : ℕ) → tally (owned (numbered_so client part)) w' ≤ 1; below : (client part : ℕ) → tally (owned (owned_by client)) w' ≤ part → tally (owned (numbered_so client part)) w' ≡ 0 }
numbering w w' same h = record {
  single = λ client part. omega (arith, same (numbered_so client part), h.single client part);
  below = λ client part le. omega (arith, same (numbered_so client part), h.below client part (omega (arith, same (owned_by client))));
}

module _ (w w' : WorldModel) (h : Placed w) where
  pub post-keeps : (tickets : List Ticket) (node : ℕ) → WorldDoes w (Post tickets node) w' → Placed w'
  post-keeps tickets node d =
      let none : total (λ (u : Ticket). 0) tickets ≡ 0 = total-zero tickets in
      let n = numbering w w' (λ p. omega (arith, post-flow (owned p) w w' tickets node d (λ _. 0) (λ _. 0) (λ c m a. refl), none)) h in
      let hist : w'.history ≡ w.history = ap (λ (v : WorldModel). v.history) d.5 in
      record {
        single = n.single;
        below = n.below;
        place = λ t. omega (
          arith,
          h.place t,
          post-flow (here t) w w' tickets node d (λ _. 0) (λ _. 0) (λ c m a. refl),
          post-flow (awaits t) w w' tickets node d (λ _. 0) (is t) (λ c m a. omega (arith, awaits-may_post c.command.stage node (is t c.command.ticket) m)),
          none,
        );
        once = λ t. omega (
          arith,
          h.once t,
          ap (total (λ (e : EntryModel). is t e.ticket)) hist,
          post-flow (stray t) w w' tickets node d (λ _. 0) (λ _. 0) (λ c m a. refl),
          post-flow (ran t) w w' tickets node d (λ _. 0) (λ _. 0) (λ c m a. omega (arith, ran-may_post c.command.stage node (is t c.command.ticket) m)),
          none,
        );
        replied = λ p t. omega (arith, h.replied p t, ap (total (entry_by p t)) hist, post-flow (replied_by p t) w w' tickets node d (λ _. 0) (λ _. 0) (λ c m a. omega (arith, replied-may_post p c.command.stage node (is t c.command.ticket) m)), none);
        tidy = subst (All IsTidy) (sym (ap (λ (v : WorldModel). v.links) d.5)) h.tidy;
      }

  pub refuse-keeps : (lane : ℕ) → WorldDoes w (Refuse lane) w' → Placed w'
  refuse-keeps lane d =
      let none : total (λ (u : Ticket). 0) (d.1).tickets ≡ 0 = total-zero (d.1).tickets in
      let n = numbering w w' (λ p. omega (arith, refuse-flow (owned p) w w' lane d)) h in
      let hist : w'.history ≡ w.history = ap (λ (v : WorldModel). v.history) d.3 in
      record {
        single = n.single;
        below = n.below;
        place = λ t. omega (arith, h.place t, refuse-flow (here t) w w' lane d, refuse-flow (awaits t) w w' lane d);
        once = λ t. omega (arith, h.once t, ap (total (λ (e : EntryModel). is t e.ticket)) hist, refuse-flow (stray t) w w' lane d, refuse-flow (ran t) w w' lane d);
        replied = λ p t. omega (arith, h.replied p t, ap (total (entry_by p t)) hist, refuse-flow (replied_by p t) w w' lane d, none);
        tidy = subst (All IsTidy) (sym (ap (λ (v : WorldModel). v.links) d.3)) h.tidy;
      }

  pub take-keeps : (lane : ℕ) → WorldDoes w (Take lane) w' → Placed w'
  take-keeps lane d =
      let c : Arrival = d.2 in
      let told : Told = d.3 in
      let n = numbering w w' (λ p. omega (arith, take-flow (owned p) w w' lane d, ap (λ u. one_if (p u)) (ticket-after_told c told))) h in
      let hist : w'.history ≡ w.history = ap (λ (v : WorldModel). v.history) d.7 in
      record {
        single = n.single;
        below = n.below;
        place = λ t. omega (arith, h.place t, take-flow (here t) w w' lane d, take-flow (awaits t) w w' lane d, ap (λ s. if_awaits s (is t c.command.ticket)) d.6, awaits-after_told t c told);
        once = λ t. omega (arith, h.once t, ap (total (λ (e : EntryModel). is t e.ticket)) hist, take-flow (stray t) w w' lane d, take-flow (ran t) w w' lane d, ap (λ s. if_ran s (is t c.command.ticket)) d.6, ran-after_told t c told);
        replied = λ p t. omega (arith, h.replied p t, ap (total (entry_by p t)) hist, take-flow (replied_by p t) w w' lane d, ap (λ s. if_replied p s (is t c.command.ticket)) d.6, replied-after_told p t c told);
        tidy = subst (All IsTidy) (sym (ap (λ (v : WorldModel). v.links) d.7)) h.tidy;
      }

  pub answer-keeps : (client : ℕ) → WorldDoes w (ev.Answer client) w' → Placed w'
  answer-keeps client d =
      let n = numbering w w' (λ p. omega (arith, answer-flow (owned p) w w' client d)) h in
      let hist : w'.history ≡ w.history = ap (λ (v : WorldModel). v.history) d.8 in
      record {
        single = n.single;
        below = n.below;
        place = λ t. omega (arith, h.place t, answer-flow (here t) w w' client d, answer-flow (awaits t) w w' client d);
        once = λ t. omega (arith, h.once t, ap (total (λ (e : EntryModel). is t e.ticket)) hist, answer-flow (stray t) w w' client d, answer-flow (ran t) w w' client d);
        replied = λ p t. omega (arith, h.replied p t, ap (total (entry_by p t)) hist, answer-flow (replied_by p t) w w' client d);
        tidy = subst (All IsTidy) (sym (ap (λ (v : WorldModel). v.links) d.8)) h.tidy;
      }

  -- an event that changes the nodes alone
  pub nodes-keep : (k : ClusterModel) → w' ≡ record w { cluster = k } → Placed w'
  nodes-keep k e = subst Placed (sym e) (record { single = h.single; below = h.below; place = h.place; once = h.once; replied = h.replied; tidy = h.tidy })

-- requests and replies of a link, summed

pub in_requests-tickets : (f : Item → ℕ) (g : Ticket → ℕ) (o : Bool) (n : ℕ) → ((a : Bool) (u : Ticket) → f (Sent o n a u) ≡ g u) → (flag : Bool) (rs : List LinkRequest) → in_requests f o n flag rs ≡ total g (sent_of rs)
in_requests-tickets f g o n e flag [] = refl
in_requests-tickets f g o n e flag (Asking ∷ rs) = in_requests-tickets f g o n e true rs
in_requests-tickets f g o n e flag (Runs ts ∷ rs) = omega (arith, total-same (λ (t : Ticket). f (Sent o n flag t)) g (e flag) ts, total-append g ts (sent_of rs), in_requests-tickets f g o n e false rs)

pub in_backs-tickets : (f : Item → ℕ) (g : Ticket → ℕ) → ((u : Ticket) (told : Told) → f (Comes u told) ≡ g u) → (bs : List LinkReply) → in_backs f bs ≡ total g (answered_of bs)
in_backs-tickets f g e [] = refl
in_backs-tickets f g e (Welcome ∷ bs) = in_backs-tickets f g e bs
in_backs-tickets f g e (To t told ∷ bs) = omega (arith, e t told, in_backs-tickets f g e bs)

tally-owned : (p : Ticket → Bool) (w : WorldModel) → tally (owned p) w ≡ total (λ c. one_if (p c.command.ticket)) w.commands
tally-owned p w = omega (arith, lanes w.ups, total-zero w.downs, links w.links)
  where
    lanes : (bs : List Posted) → total (in_lane (owned p)) bs ≡ 0
    lanes [] = refl
    lanes (b ∷ bs) = omega (arith, total-zero b.tickets, lanes bs)

    links : (ls : List Link) → total (in_link (owned p)) ls ≡ 0
    links [] = refl
    links (l ∷ ls) = omega (arith, in_requests-tickets (owned p) (λ _. 0) l.is_open l.node (λ _ _. refl) l.asking l.requests, in_backs-tickets (owned p) (λ _. 0) (λ _ _. refl) l.backs, total-zero (sent_of l.requests), total-zero (answered_of l.backs), links ls)

total-count : {X : Type 0} (q : X → Bool) (xs : List X) → total (λ x. one_if (q x)) xs ≡ count_by q xs
total-count q [] = refl
total-count q (x ∷ xs) = omega (arith, total-count q xs, sum_by-cons (λ x. one_if (q x)) x xs)

-- the next number is new
new_single : (T N new client client' part : ℕ) → T ≤ 1 → (N ≤ part → T ≡ 0) → (client ≡ client' → N ≡ new) → T + one_if ((client == client') && (new == part)) ≤ 1
new_single T N new client client' part s b e = grind (arith, nat_tests)

new_below : (T N new client client' part : ℕ) → (N ≤ part → T ≡ 0) → (client ≡ client' → N ≡ new) → N + one_if (client == client') ≤ part → T + one_if ((client == client') && (new == part)) ≡ 0
new_below T N new client client' part b e le = grind (arith, nat_tests)

-- nothing has the client's next number yet
pub new-free : (w : WorldModel) → Standing w → (client : ℕ) → tally (owned (numbered_so client (count_by (λ (c : Arrival). c.command.ticket.client == client) w.commands))) w ≡ 0
new-free w h client = h.below client (count_by (λ (c : Arrival). c.command.ticket.client == client) w.commands) (omega (arith, tally-owned (owned_by client) w, total-count (λ (c : Arrival). c.command.ticket.client == client) w.commands))

pub arrive-keeps : (w w' : WorldModel) → Placed w → (client : ℕ) (part : PartModel) → WorldDoes w (Arrive client part) w' → Placed w'
arrive-keeps w w' h client part d =
    let flow = λ (f : Item → ℕ). arrive-flow f w w' client part d in
    let hist : w'.history ≡ w.history = ap (λ (v : WorldModel). v.history) d.1 in
    let new : ℕ = count_by (λ (c : Arrival). c.command.ticket.client == client) w.commands in
    record {
      single = λ client' k. omega (arith, flow (owned (numbered_so client' k)), new_single (tally (owned (numbered_so client' k)) w) (tally (owned (owned_by client')) w) new client client' k (h.single client' k) (h.below client' k) (count client'));
      below = λ client' k le. omega (arith, flow (owned (numbered_so client' k)), new_below (tally (owned (numbered_so client' k)) w) (tally (owned (owned_by client')) w) new client client' k (h.below client' k) (count client') (omega (arith, flow (owned (owned_by client')))));
      place = λ t. omega (arith, h.place t, flow (here t), flow (awaits t));
      once = λ t. omega (arith, h.once t, ap (total (λ (e : EntryModel). is t e.ticket)) hist, flow (stray t), flow (ran t));
      replied = λ p t. omega (arith, h.replied p t, ap (total (entry_by p t)) hist, flow (replied_by p t));
      tidy = subst (All IsTidy) (sym (ap (λ (v : WorldModel). v.links) d.1)) h.tidy;
    }
  where
    count : (client' : ℕ) → client ≡ client' → tally (owned (owned_by client')) w ≡ count_by (λ (c : Arrival). c.command.ticket.client == client) w.commands
    count client' e = subst (λ k. tally (owned (owned_by k)) w ≡ count_by (λ (c : Arrival). c.command.ticket.client == client) w.commands) e (tally-owned (owned_by client) w ∙ total-count (λ (c : Arrival). c.command.ticket.client == client) w.commands)

pub start-placed : (workers run_limit : ℕ) (initial : StoreModel) (cluster : ClusterModel) → Placed (start_from workers run_limit initial cluster)
start-placed workers run_limit initial cluster = record {
  single = λ client part. omega arith;
  below = λ client part le. refl;
  place = λ t. refl;
  once = λ t. omega arith;
  replied = λ p t. omega arith;
  tidy = λ k d lt. absurd (omega arith);
}
