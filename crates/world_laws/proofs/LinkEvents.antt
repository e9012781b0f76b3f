-- What goes over links keeps each ticket in one place; and so does every event.
use Rattle.std.proofs.Common.{◌≡◌, ◌⊎◌, inl, inr, ℕ, zero, suc, ◌+◌, ◌≤◌, Bool, true, false, List, [], ◌∷◌, ◌++◌, Some, refl, sym, ap, ◌∙◌, subst, arith}
use Rattle.std.specs.Prelude.{slice_get, slice_set, All, if◌then◌else◌}
use Rattle.std.proofs.lemmas.List.Elements.{All-set, All-append}
use Rattle.resp_wire.specs.Data.{Data}
use Rattle.key_split.specs.declared.travel.Ticket.{Ticket}
use Rattle.key_split.specs.declared.travel.Told.{Told}
use Rattle.key_split.specs.declared.travel.Told.TheVariants.{Reply, Moved, Ask, TryAgain, ClusterDown, Unclear, Unsent}
use Rattle.world_laws.specs.State.{WorldModel, Arrival, Posted, Link, LinkRequest, LinkReply, new_link, requests_of, sent, replied, all_replied, answered_of, sent_of, tickets_told}
use Rattle.world_laws.specs.declared.state.LinkRequest.TheVariants.{Asking, Runs}
use Rattle.world_laws.specs.declared.state.LinkReply.TheVariants.{Welcome, To}
use Rattle.world_laws.specs.Places.{Item, total, in_backs, tally, is}
use Rattle.world_laws.specs.Places.Item.{Sent, Comes}
use Rattle.node_model.specs.History.{EntryModel}
use Rattle.node_model.specs.declared.role.Verdict.{Verdict}
use Rattle.world_laws.specs.World.{WorldDoes, CarriesOver, ServesAsking, ServesRun, ServesRunAt, FetchesWelcome, FetchesReply, entry_of, entries_of}
use Rattle.world_laws.specs.declared.event.Event.{Event}
use Rattle.world_laws.specs.declared.event.Event.TheVariants.{Arrive, Post, Carry, Refuse, Serve, Fetch, Take, Drop, Discard, Import, Migrate, MoveKey, Own, Release, Forget, Stay}
use Rattle.world_laws.specs.declared.event.Event.TheVariants as ev
use Rattle.world_laws.proofs.Tally.{total-append, flag_after}
use Rattle.world_laws.proofs.Flow.{all_at, if_open, IsTidy, carry-flow, fetch-flow, discard-flow, drop-flow, welcome-flow, serve-flow}
use Rattle.world_laws.proofs.Counted.{if_ran_told, if_replied_told, here, awaits, stray, ran, replied_by, owned, entry_by}
use Rattle.world_laws.proofs.Placed.{Placed, numbering, in_requests-tickets, in_backs-tickets, total-zero, post-keeps, refuse-keeps, take-keeps, answer-keeps, nodes-keep, arrive-keeps}

in_backs-le : (f : Item → ℕ) (g : Ticket → ℕ) → ((u : Ticket) (told : Told) → f (Comes u told) ≤ g u) → (bs : List LinkReply) → in_backs f bs ≤ total g (answered_of bs)
in_backs-le f g e [] = omega arith
in_backs-le f g e (Welcome ∷ bs) = in_backs-le f g e bs
in_backs-le f g e (To t told ∷ bs) = omega (arith, e t told, in_backs-le f g e bs)

here-sent : (t u : Ticket) (o : Bool) (n : ℕ) (a : Bool) → here t (Sent o n a u) ≡ if_open o (is t u)
here-sent t u true n a = refl
here-sent t u false n a = refl

-- a request in a closed link
abbrev if_closed : Bool → ℕ → ℕ
if_closed true n = 0
if_closed false n = n

stray-sent : (t u : Ticket) (o : Bool) (n : ℕ) (a : Bool) → stray t (Sent o n a u) ≡ if_closed o (is t u)
stray-sent t u true n a = refl
stray-sent t u false n a = refl

ran-told-le : (told : Told) (n : ℕ) → if_ran_told told n ≤ n
ran-told-le (Reply v) n = omega arith
ran-told-le Told.Lost n = omega arith
ran-told-le (Moved s m) n = omega arith
ran-told-le (Ask s m) n = omega arith
ran-told-le TryAgain n = omega arith
ran-told-le ClusterDown n = omega arith
ran-told-le Unclear n = omega arith
ran-told-le Unsent n = omega arith

module _ (w w' : WorldModel) (h : Placed w) where
  pub fetch-keeps : (link : ℕ) → WorldDoes w (Fetch link) w' → Placed w'
  fetch-keeps link d =
      let n = numbering w w' (λ p. fetch-flow (owned p) w w' link d) h in
      let rest : (w'.history ≡ w.history) × All IsTidy w'.links = go d.3 in
      record {
        single = n.single;
        below = n.below;
        place = λ t. omega (arith, h.place t, fetch-flow (here t) w w' link d, fetch-flow (awaits t) w w' link d);
        once = λ t. omega (arith, h.once t, ap (total (λ (e : EntryModel). is t e.ticket)) rest.0, fetch-flow (stray t) w w' link d, fetch-flow (ran t) w w' link d);
        replied = λ p t. omega (arith, h.replied p t, ap (total (entry_by p t)) rest.0, fetch-flow (replied_by p t) w w' link d);
        tidy = rest.1;
      }
    where
      tidied : (rest : List LinkReply) → All IsTidy (slice_set w.links link (record (d.0) { backs = rest }))
      tidied rest = All-set IsTidy w.links link (record (d.0) { backs = rest }) (all_at IsTidy w.links link d.0 d.1 h.tidy) h.tidy

      go : FetchesWelcome w link d.0 w' ⊎ FetchesReply w link d.0 w' → (w'.history ≡ w.history) × All IsTidy w'.links
      go (inl x) = (ap (λ (v : WorldModel). v.history) x.2, subst (All IsTidy) (sym (ap (λ (v : WorldModel). v.links) x.2)) (tidied x.0))
      go (inr x) = (ap (λ (v : WorldModel). v.history) x.4, subst (All IsTidy) (sym (ap (λ (v : WorldModel). v.links) x.4)) (tidied x.0))

  pub discard-keeps : (link : ℕ) → WorldDoes w (Discard link) w' → Placed w'
  discard-keeps link d =
      let l : Link = d.0 in
      let l' : Link = record (d.0) { requests = [] } in
      let n = numbering w w' (λ p. omega (arith, discard-flow (owned p) w w' link d, in_requests-tickets (owned p) (λ _. 0) l.is_open l.node (λ _ _. refl) l.asking l.requests, total-zero (sent_of l.requests))) h in
      let hist : w'.history ≡ w.history = ap (λ (v : WorldModel). v.history) d.4 in
      record {
        single = n.single;
        below = n.below;
        place = λ t. omega (
          arith,
          h.place t,
          discard-flow (here t) w w' link d,
          discard-flow (awaits t) w w' link d,
          in_requests-tickets (here t) (λ _. 0) l.is_open l.node (λ a u. here-sent t u l.is_open l.node a ∙ ap (λ o. if_open o (is t u)) d.2) l.asking l.requests,
          in_requests-tickets (awaits t) (λ _. 0) l.is_open l.node (λ a u. refl) l.asking l.requests,
          total-zero (sent_of l.requests),
        );
        once = λ t. omega (
          arith,
          h.once t,
          ap (total (λ (e : EntryModel). is t e.ticket)) hist,
          discard-flow (stray t) w w' link d,
          discard-flow (ran t) w w' link d,
          in_requests-tickets (ran t) (λ _. 0) l.is_open l.node (λ a u. refl) l.asking l.requests,
          total-zero (sent_of l.requests),
        );
        replied = λ p t. omega (arith, h.replied p t, ap (total (entry_by p t)) hist, discard-flow (replied_by p t) w w' link d);
        tidy = subst (All IsTidy) (sym (ap (λ (v : WorldModel). v.links) d.4)) (All-set IsTidy w.links link l' (λ o. absurd (shut (sym d.2 ∙ o))) h.tidy);
      }
    where
      shut : false ≡ true → ⊥
      shut e = cc

  pub drop-keeps : (link : ℕ) → WorldDoes w (Drop link) w' → Placed w'
  drop-keeps link d =
      let l : Link = d.0 in
      let l' : Link = record (d.0) { is_open = false; backs = [] } in
      let rs : List Ticket = sent_of l.requests in
      let bs : List Ticket = answered_of l.backs in
      let n = numbering w w' (λ p. omega (
        arith,
        drop-flow (owned p) w w' link d,
        in_requests-tickets (owned p) (λ _. 0) l.is_open l.node (λ _ _. refl) l.asking l.requests,
        in_requests-tickets (owned p) (λ _. 0) false l.node (λ _ _. refl) l.asking l.requests,
        in_backs-tickets (owned p) (λ _. 0) (λ _ _. refl) l.backs,
        total-zero rs,
        total-zero bs,
      )) h in
      let hist : w'.history ≡ w.history = ap (λ (v : WorldModel). v.history) d.3 in
      record {
        single = n.single;
        below = n.below;
        place = λ t. omega (
          arith,
          h.place t,
          drop-flow (here t) w w' link d,
          drop-flow (awaits t) w w' link d,
          total-zero rs,
          total-zero bs,
          in_requests-tickets (here t) (is t) l.is_open l.node (λ a u. here-sent t u l.is_open l.node a ∙ ap (λ o. if_open o (is t u)) d.2) l.asking l.requests,
          in_requests-tickets (here t) (λ _. 0) false l.node (λ a u. refl) l.asking l.requests,
          in_backs-tickets (here t) (is t) (λ _ _. refl) l.backs,
          in_requests-tickets (awaits t) (λ _. 0) l.is_open l.node (λ a u. refl) l.asking l.requests,
          in_requests-tickets (awaits t) (λ _. 0) false l.node (λ a u. refl) l.asking l.requests,
          in_backs-tickets (awaits t) (λ _. 0) (λ _ _. refl) l.backs,
        );
        once = λ t. omega (
          arith,
          h.once t,
          ap (total (λ (e : EntryModel). is t e.ticket)) hist,
          drop-flow (stray t) w w' link d,
          drop-flow (ran t) w w' link d,
          total-zero rs,
          total-zero bs,
          in_requests-tickets (stray t) (is t) false l.node (λ a u. refl) l.asking l.requests,
          in_requests-tickets (ran t) (λ _. 0) l.is_open l.node (λ a u. refl) l.asking l.requests,
          in_requests-tickets (ran t) (λ _. 0) false l.node (λ a u. refl) l.asking l.requests,
          in_backs-le (ran t) (is t) (λ u told. ran-told-le told (is t u)) l.backs,
        );
        replied = λ p t. omega (
          arith,
          h.replied p t,
          ap (total (entry_by p t)) hist,
          drop-flow (replied_by p t) w w' link d,
          total-zero rs,
          total-zero bs,
          in_requests-tickets (replied_by p t) (λ _. 0) false l.node (λ a u. refl) l.asking l.requests,
        );
        tidy = subst (All IsTidy) (sym (ap (λ (v : WorldModel). v.links) d.3)) (All-set IsTidy w.links link l' (λ o. absurd (shut o)) h.tidy);
      }
    where
      shut : false ≡ true → ⊥
      shut e = cc

flag_after-sent : (flag : Bool) (rs : List LinkRequest) (b : Posted) → flag_after flag (rs ++ requests_of b) ≡ false
flag_after-sent flag [] b = go b.asking
  where
    go : (a : Bool) → flag_after flag (if a then Asking ∷ Runs b.tickets ∷ [] else Runs b.tickets ∷ []) ≡ false
    go true = refl
    go false = refl
flag_after-sent flag (Asking ∷ rs) b = flag_after-sent true rs b
flag_after-sent flag (Runs t ∷ rs) b = flag_after-sent false rs b

one : {X : Type 0} (P : X → Type 0) (x : X) → P x → All P (x ∷ [])
one P x h zero d lt = h
one P x h (suc k) d lt = absurd (omega arith)

-- a serve leaves an open link tidy
tidy-replied : (l : Link) (b : LinkReply) → IsTidy l → IsTidy (replied l b)
tidy-replied l b h = go l.is_open h
  where
    go : (o : Bool) → IsTidy (record l { is_open = o }) → IsTidy (replied (record l { is_open = o }) b)
    go true x = x
    go false x = x

tidy-all_replied : (l : Link) (run : List (Arrival × Told)) → IsTidy l → IsTidy (all_replied l run)
tidy-all_replied l run h = go l.is_open h
  where
    go : (o : Bool) → IsTidy (record l { is_open = o }) → IsTidy (all_replied (record l { is_open = o }) run)
    go true x = x
    go false x = x

-- tickets of a run among the requests of a link that is open, or closed

heres : (t : Ticket) (us : List Ticket) (o : Bool) (n : ℕ) (a : Bool) → total (λ u. here t (Sent o n a u)) us ≡ if_open o (total (is t) us)
heres t us true n a = refl
heres t us false n a = total-zero us

strays : (t : Ticket) (us : List Ticket) (o : Bool) (n : ℕ) (a : Bool) → total (λ u. stray t (Sent o n a u)) us ≡ if_closed o (total (is t) us)
strays t us true n a = total-zero us
strays t us false n a = refl

total-told : (g : Ticket → ℕ) (run : List (Arrival × Told)) → total g (tickets_told run) ≡ total (λ p. g p.0.command.ticket) run
total-told g [] = refl
total-told g (p ∷ ps) = omega (arith, total-told g ps)

-- what a command is told, and its entry

entry-le : (t : Ticket) (m : ℕ) (c : Arrival) (told : Told) → total (λ e. is t e.ticket) (entry_of m c told) ≤ if_ran_told told (is t c.command.ticket)
entry-le t m c (Reply value) = omega arith
entry-le t m c (Moved slot node) = omega arith
entry-le t m c (Ask slot node) = omega arith
entry-le t m c TryAgain = omega arith
entry-le t m c ClusterDown = omega arith
entry-le t m c Unclear = omega arith
entry-le t m c Told.Lost = omega arith
entry-le t m c Unsent = omega arith

entries-ran : (t : Ticket) (m : ℕ) (run : List (Arrival × Told)) → total (λ e. is t e.ticket) (entries_of m run) ≤ total (λ p. if_ran_told p.1 (is t p.0.command.ticket)) run
entries-ran t m [] = omega arith
entries-ran t m (p ∷ ps) = omega (arith, entry-le t m p.0 p.1, total-append (λ (e : EntryModel). is t e.ticket) (entry_of m p.0 p.1) (entries_of m ps), entries-ran t m ps)

rans-le : (t : Ticket) (run : List (Arrival × Told)) → total (λ p. if_ran_told p.1 (is t p.0.command.ticket)) run ≤ total (is t) (tickets_told run)
rans-le t [] = omega arith
rans-le t (p ∷ ps) = omega (arith, ran-told-le p.1 (is t p.0.command.ticket), rans-le t ps)

-- at a closed link the strays become entries, at an open one those who ran
counted : (t : Ticket) (m : ℕ) (o : Bool) (run : List (Arrival × Told)) → total (λ e. is t e.ticket) (entries_of m run) ≤ if_closed o (total (is t) (tickets_told run)) + if_open o (total (λ p. if_ran_told p.1 (is t p.0.command.ticket)) run)
counted t m true run = omega (arith, entries-ran t m run)
counted t m false run = omega (arith, entries-ran t m run, rans-le t run)

entry-by : (p : Data → Bool) (t : Ticket) (m : ℕ) (c : Arrival) (told : Told) → if_replied_told p told (is t c.command.ticket) ≤ total (entry_by p t) (entry_of m c told)
entry-by p t m c (Reply value) = omega arith
entry-by p t m c (Moved slot node) = omega arith
entry-by p t m c (Ask slot node) = omega arith
entry-by p t m c TryAgain = omega arith
entry-by p t m c ClusterDown = omega arith
entry-by p t m c Unclear = omega arith
entry-by p t m c Told.Lost = omega arith
entry-by p t m c Unsent = omega arith

entries-by : (p : Data → Bool) (t : Ticket) (m : ℕ) (run : List (Arrival × Told)) → total (λ q. if_replied_told p q.1 (is t q.0.command.ticket)) run ≤ total (entry_by p t) (entries_of m run)
entries-by p t m [] = omega arith
entries-by p t m (q ∷ qs) = omega (arith, entry-by p t m q.0 q.1, total-append (entry_by p t) (entry_of m q.0 q.1) (entries_of m qs), entries-by p t m qs)

counted-by : (p : Data → Bool) (t : Ticket) (m : ℕ) (o : Bool) (run : List (Arrival × Told)) → if_open o (total (λ q. if_replied_told p q.1 (is t q.0.command.ticket)) run) ≤ total (entry_by p t) (entries_of m run)
counted-by p t m true run = entries-by p t m run
counted-by p t m false run = omega arith

module _ (w w' : WorldModel) (h : Placed w) where
  pub carry-keeps : (lane link : ℕ) → WorldDoes w (Carry lane link) w' → Placed w'
  carry-keeps lane link d =
      let n = numbering w w' (λ p. omega (arith, carry-flow (owned p) w w' lane link d h.tidy)) h in
      let hist : w'.history ≡ w.history = ap (λ (v : WorldModel). v.history) d.5 in
      record {
        single = n.single;
        below = n.below;
        place = λ t. omega (arith, h.place t, carry-flow (here t) w w' lane link d h.tidy, carry-flow (awaits t) w w' lane link d h.tidy);
        once = λ t. omega (arith, h.once t, ap (total (λ (e : EntryModel). is t e.ticket)) hist, carry-flow (stray t) w w' lane link d h.tidy, carry-flow (ran t) w w' lane link d h.tidy);
        replied = λ p t. omega (arith, h.replied p t, ap (total (entry_by p t)) hist, carry-flow (replied_by p t) w w' lane link d h.tidy);
        tidy = subst (All IsTidy) (sym (ap (λ (v : WorldModel). v.links) d.5)) (links d.4);
      }
    where
      links : CarriesOver w link d.1 d.2 → All IsTidy d.2
      links (inl x) = subst (All IsTidy) (sym x.4) (All-set IsTidy w.links link (sent x.0 d.1) (λ _. flag_after-sent (x.0).asking (x.0).requests d.1) h.tidy)
      links (inr x) = subst (All IsTidy) (sym x.1) (All-append IsTidy w.links (sent (new_link (d.1).node) d.1 ∷ []) h.tidy (one IsTidy (sent (new_link (d.1).node) d.1) (λ _. flag_after-sent false [] d.1)))

  welcome-keeps : (link : ℕ) (l : Link) (v : Verdict) → slice_get w.links link ≡ Some l → ServesAsking w link l v w' → Placed w'
  welcome-keeps link l v at_l d =
      let l' : Link = record l { requests = d.0; asking = true } in
      let same = λ (f : Item → ℕ). welcome-flow f w w' link l v at_l d in
      let n = numbering w w' (λ p. same (owned p)) h in
      let hist : w'.history ≡ w.history = ap (λ (v : WorldModel). v.history) d.3 in
      let tidy_l : IsTidy l = all_at IsTidy w.links link l at_l h.tidy in
      record {
        single = n.single;
        below = n.below;
        place = λ t. omega (arith, h.place t, same (here t), same (awaits t));
        once = λ t. omega (arith, h.once t, ap (total (λ (e : EntryModel). is t e.ticket)) hist, same (stray t), same (ran t));
        replied = λ p t. omega (arith, h.replied p t, ap (total (entry_by p t)) hist, same (replied_by p t));
        tidy = subst (All IsTidy) (sym (ap (λ (v : WorldModel). v.links) d.3)) (All-set IsTidy w.links link (replied l' Welcome) (tidy-replied l' Welcome (λ o. ap (flag_after l.asking) (sym d.1) ∙ tidy_l o)) h.tidy);
      }

  pub serve-keeps : (link node : ℕ) (l : Link) (v : Verdict) → slice_get w.links link ≡ Some l → ServesRunAt w node link l v w' → Placed w'
  serve-keeps link node l v at_l d =
      let us : List Ticket = tickets_told d.1 in
      let flow = λ (f : Item → ℕ). serve-flow f w w' link node l v at_l d in
      let n = numbering w w' (λ p. owned-same p) h in
      record {
        single = n.single;
        below = n.below;
        place = λ t. omega (arith, h.place t, flow (here t), flow (awaits t), heres t us l.is_open l.node l.asking, back t l.is_open, open_zero l.is_open, total-zero us);
        once = λ t. omega (arith, h.once t, flow (stray t), flow (ran t), strays t us l.is_open l.node l.asking, open_zero l.is_open, total-zero us, entries (λ (e : EntryModel). is t e.ticket), counted t w.moment l.is_open d.1);
        replied = λ p t. omega (arith, h.replied p t, flow (replied_by p t), entries (entry_by p t), total-zero us, counted-by p t w.moment l.is_open d.1);
        tidy = tidied;
      }
    where
      open_zero : (o : Bool) → if_open o (total (λ (q : Arrival × Told). 0) d.1) ≡ 0
      open_zero true = total-zero d.1
      open_zero false = refl

      back : (t : Ticket) (o : Bool) → if_open o (total (λ (q : Arrival × Told). is t q.0.command.ticket) d.1) ≡ if_open o (total (is t) (tickets_told d.1))
      back t o = ap (if_open o) (sym (total-told (is t) d.1))

      owned-same : (p : Ticket → Bool) → tally (owned p) w' ≡ tally (owned p) w
      owned-same p = omega (arith, serve-flow (owned p) w w' link node l v at_l d, open_zero l.is_open, total-zero (tickets_told d.1))

      entries : (g : EntryModel → ℕ) → total g w'.history ≡ total g w.history + total g (entries_of w.moment d.1)
      entries g = ap (total g) (ap (λ (v : WorldModel). v.history) d.7) ∙ total-append g w.history (entries_of w.moment d.1)

      tidied : All IsTidy w'.links
      tidied =
          let l' : Link = record l { requests = d.0; asking = false } in
          let tidy_l : IsTidy l = all_at IsTidy w.links link l at_l h.tidy in
          subst (All IsTidy) (sym (ap (λ (v : WorldModel). v.links) d.7)) (All-set IsTidy w.links link (all_replied l' d.1) (tidy-all_replied l' d.1 (λ o. ap (flag_after l.asking) (sym d.3) ∙ tidy_l o)) h.tidy)

  pub serves-keeps : (link : ℕ) (v : Verdict) → WorldDoes w (Serve link v) w' → Placed w'
  serves-keeps link v d = go d.2
    where
      go : ServesAsking w link d.0 v w' ⊎ ServesRun w link d.0 v w' → Placed w'
      go (inl x) = welcome-keeps link d.0 v d.1 x
      go (inr x) = serve-keeps link (d.0).node d.0 v d.1 x

-- every event keeps it
pub does-keeps : (e : Event) (w w' : WorldModel) → Placed w → WorldDoes w e w' → Placed w'
does-keeps (Arrive client part) w w' h d = arrive-keeps w w' h client part d
does-keeps (Post tickets node) w w' h d = post-keeps w w' h tickets node d
does-keeps (Carry lane link) w w' h d = carry-keeps w w' h lane link d
does-keeps (Refuse lane) w w' h d = refuse-keeps w w' h lane d
does-keeps (Serve link v) w w' h d = serves-keeps w w' h link v d
does-keeps (Fetch link) w w' h d = fetch-keeps w w' h link d
does-keeps (Take lane) w w' h d = take-keeps w w' h lane d
does-keeps (Drop link) w w' h d = drop-keeps w w' h link d
does-keeps (Discard link) w w' h d = discard-keeps w w' h link d
does-keeps (ev.Answer client) w w' h d = answer-keeps w w' h client d
does-keeps (Import slot target) w w' h d = nodes-keep w w' h _ d.2
does-keeps (Migrate slot) w w' h d = nodes-keep w w' h _ d.1
does-keeps (MoveKey slot key) w w' h d = nodes-keep w w' h _ d.1
does-keeps (Own slot) w w' h d = nodes-keep w w' h _ d.1
does-keeps (Release slot) w w' h d = nodes-keep w w' h _ d.1
does-keeps (Forget slot) w w' h d = nodes-keep w w' h _ d.1
does-keeps (Stay slot) w w' h d = nodes-keep w w' h _ d.1
