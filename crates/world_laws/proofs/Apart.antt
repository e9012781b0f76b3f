-- No run on its way is longer than the limit; so where the limit is one, no two entries share a moment. Kept by every
-- event.
use Rattle.std.proofs.Common.{◌≡◌, ◌⊎◌, inl, inr, ⊎_elim, ℕ, zero, suc, ◌<◌, ◌≤◌, Bool, true, false, List, [], ◌∷◌, ◌++◌, length, Some, refl, sym, ap, ◌∙◌, subst, arith}
use Rattle.std.specs.Prelude.{slice_get, slice_set, All, if◌then◌else◌}
use Rattle.std.proofs.lemmas.Option.{slice_get_within}
use Rattle.std.proofs.lemmas.List.Elements.{All-set, All-append}
use Rattle.key_split.specs.declared.travel.Told.{Told}
use Rattle.key_split.specs.declared.travel.Told.TheVariants.{Reply, Moved, Ask, TryAgain, ClusterDown, Unclear, Unsent}
use Rattle.node_model.specs.History.{EntryModel}
use Rattle.node_model.specs.declared.role.Verdict.{Verdict}
use Rattle.world_laws.specs.State.{WorldModel, Arrival, Posted, Link, LinkRequest, LinkReply, new_link, requests_of, sent, replied, all_replied, tickets_told}
use Rattle.world_laws.specs.declared.state.LinkRequest.TheVariants.{Asking, Runs}
use Rattle.world_laws.specs.declared.state.LinkReply.TheVariants.{Welcome}
use Rattle.world_laws.specs.World.{WorldDoes, CarriesOver, ServesAsking, ServesRun, ServesRunAt, FetchesWelcome, FetchesReply, entry_of, entries_of}
use Rattle.world_laws.specs.declared.event.Event.{Event}
use Rattle.world_laws.specs.declared.event.Event.TheVariants.{Arrive, Post, Carry, Refuse, Serve, Fetch, Take, Drop, Discard, Import, Migrate, MoveKey, Own, Release, Forget, Stay}
use Rattle.world_laws.specs.declared.event.Event.TheVariants as ev
use Rattle.world_laws.specs.Headline.{At}
use Rattle.world_laws.proofs.Flow.{all_at}
use Rattle.world_laws.proofs.Turns.{All-remove, one}

abbrev pub AreShort : ℕ → List LinkRequest → Type 0
AreShort n [] = Unit {0}
AreShort n (Asking ∷ rs) = AreShort n rs
AreShort n (Runs ts ∷ rs) = (length ts ≤ n) × AreShort n rs

-- each entry is later than those before it
abbrev pub AreApart : List EntryModel → Type 0
AreApart hs = (k l : ℕ) (e f : EntryModel) → At hs k e → At hs l f → k < l → e.moment < f.moment

pub record Short (w : WorldModel) : Type 0 where
  pub ups : All (λ b. length b.tickets ≤ w.run_limit) w.ups
  pub links : All (λ l. AreShort w.run_limit l.requests) w.links
  pub apart : w.run_limit ≤ 1 → AreApart w.history

-- requests

short-sent : (n : ℕ) (rs : List LinkRequest) (b : Posted) → AreShort n rs → length b.tickets ≤ n → AreShort n (rs ++ requests_of b)
short-sent n [] b h r = go b.asking
  where
    go : (a : Bool) → AreShort n (if a then Asking ∷ Runs b.tickets ∷ [] else Runs b.tickets ∷ [])
    go true = (r, tt)
    go false = (r, tt)
short-sent n (Asking ∷ rs) b h r = short-sent n rs b h r
short-sent n (Runs ts ∷ rs) b h r = (h.0, short-sent n rs b h.1 r)

short-replied : (n : ℕ) (l : Link) (b : LinkReply) → AreShort n l.requests → AreShort n (replied l b).requests
short-replied n l b h = go l.is_open
  where
    go : (o : Bool) → AreShort n (replied (record l { is_open = o }) b).requests
    go true = h
    go false = h

short-all_replied : (n : ℕ) (l : Link) (run : List (Arrival × Told)) → AreShort n l.requests → AreShort n (all_replied l run).requests
short-all_replied n l run h = go l.is_open
  where
    go : (o : Bool) → AreShort n (all_replied (record l { is_open = o }) run).requests
    go true = h
    go false = h

-- entries

entry-one : (m : ℕ) (c : Arrival) (told : Told) → (entry_of m c told ≡ []) ⊎ ((e : EntryModel) × (entry_of m c told ≡ e ∷ []) × (e.moment ≡ m))
entry-one m c (Reply value) = inr (_, refl, refl)
entry-one m c (Moved slot node) = inl refl
entry-one m c (Ask slot node) = inl refl
entry-one m c TryAgain = inl refl
entry-one m c ClusterDown = inl refl
entry-one m c Unclear = inl refl
entry-one m c Told.Lost = inl refl
entry-one m c Unsent = inl refl

no-more : {X : Type 0} (xs : List X) → xs ++ [] ≡ xs
no-more [] = refl
no-more (x ∷ xs) = ap (λ ys. x ∷ ys) (no-more xs)

at-either : (hs : List EntryModel) (e0 : EntryModel) (k : ℕ) (e : EntryModel) → At (hs ++ e0 ∷ []) k e → At hs k e ⊎ ((k ≡ length hs) × (e ≡ e0))
at-either [] e0 zero e p = inr (refl, (let same : e0 ≡ e = cc in sym same))
at-either [] e0 (suc k) e p = absurd (cc)
at-either (x ∷ xs) e0 zero e p = inl p
at-either (x ∷ xs) e0 (suc k) e p = ⊎_elim (λ (h : At xs k e). inl h) (λ (h : (k ≡ length xs) × (e ≡ e0)). inr (ap suc h.0, h.1)) (at-either xs e0 k e p)

apart-one : (hs : List EntryModel) (e0 : EntryModel) → AreApart hs → ((k : ℕ) (e : EntryModel) → At hs k e → e.moment < e0.moment) → AreApart (hs ++ e0 ∷ [])
apart-one hs e0 h past k l e f p q lt = go (at-either hs e0 k e p) (at-either hs e0 l f q)
  where
    go : At hs k e ⊎ ((k ≡ length hs) × (e ≡ e0)) → At hs l f ⊎ ((l ≡ length hs) × (f ≡ e0)) → e.moment < f.moment
    go (inl x) (inl y) = h k l e f x y lt
    go (inl x) (inr y) = subst (λ (z : EntryModel). e.moment < z.moment) (sym y.1) (past k e x)
    go (inr x) (inl y) = absurd (omega (arith, lt, x.0, slice_get_within hs l f y))
    go (inr x) (inr y) = absurd (omega (arith, lt, x.0, y.0))

apart-more : (m : ℕ) (hs : List EntryModel) (run : List (Arrival × Told)) → length (tickets_told run) ≤ 1 → AreApart hs → ((k : ℕ) (e : EntryModel) → At hs k e → e.moment < m) → AreApart (hs ++ entries_of m run)
apart-more m hs [] lt h past = subst AreApart (sym (no-more hs)) h
apart-more m hs (p ∷ q ∷ ps) lt h past = absurd (omega (arith, lt))
apart-more m hs (p ∷ []) lt h past = ⊎_elim
    (λ (x : entry_of m p.0 p.1 ≡ []). subst AreApart (sym (ap (λ z. hs ++ (z ++ [])) x ∙ no-more hs)) h)
    (λ (x : (e : EntryModel) × (entry_of m p.0 p.1 ≡ e ∷ []) × (e.moment ≡ m)). subst AreApart (sym (ap (λ z. hs ++ (z ++ [])) x.1))
    (apart-one hs x.0 h (λ k e at_k. subst (λ n. e.moment < n) (sym x.2) (past k e at_k))))
    (entry-one m p.0 p.1)

-- the events

module _ (w : WorldModel) (h : Short w) where
  set-link : (link : ℕ) (l' : Link) → AreShort w.run_limit l'.requests → All (λ l. AreShort w.run_limit l.requests) (slice_set w.links link l')
  set-link link l' x = All-set (λ (l : Link). AreShort w.run_limit l.requests) w.links link l' x h.links

  at-link : (link : ℕ) (l : Link) → slice_get w.links link ≡ Some l → AreShort w.run_limit l.requests
  at-link link l e = all_at (λ (l : Link). AreShort w.run_limit l.requests) w.links link l e h.links

-- a run that some node serves keeps it
pub run-short : (w w' : WorldModel) → Short w → ((k : ℕ) (e : EntryModel) → At w.history k e → e.moment < w.moment) → (link node : ℕ) (l : Link) (v : Verdict) → slice_get w.links link ≡ Some l → ServesRunAt w node link l v w' → Short w'
run-short w w' h past link node l v at_l x =
    let l' : Link = record l { requests = x.0; asking = false } in
    let all' : AreShort w.run_limit (Runs (tickets_told x.1) ∷ x.0) = subst (AreShort w.run_limit) x.3 (at-link w h link l at_l) in
    subst Short (sym x.7) (record {
      ups = h.ups;
      links = set-link w h link (all_replied l' x.1) (short-all_replied w.run_limit l' x.1 all'.1);
      apart = λ small. apart-more w.moment w.history x.1 (omega (arith, small, all'.0)) (h.apart small) past;
    })

pub does-short : (e : Event) (w w' : WorldModel) → Short w → ((k : ℕ) (e : EntryModel) → At w.history k e → e.moment < w.moment) → WorldDoes w e w' → Short w'
does-short (Arrive client part) w w' h past d = subst Short (sym d.1) (record { ups = h.ups; links = h.links; apart = h.apart })
does-short (Post tickets node) w w' h past d =
    let b : Posted = record { tickets = tickets; node = node; asking = (d.0).asking } in
    subst Short (sym d.5) (record { ups = All-append (λ (x : Posted). length x.tickets ≤ w.run_limit) w.ups (b ∷ []) h.ups (one (λ (x : Posted). length x.tickets ≤ w.run_limit) b d.2.1); links = h.links; apart = h.apart })
does-short (Carry lane link) w w' h past d =
    subst Short (sym d.5) (record { ups = All-remove (λ (b : Posted). length b.tickets ≤ w.run_limit) w.ups d.0 h.ups; links = links d.4; apart = h.apart })
  where
    run : length (d.1).tickets ≤ w.run_limit
    run = all_at (λ (b : Posted). length b.tickets ≤ w.run_limit) w.ups d.0 d.1 d.3.1 h.ups

    links : CarriesOver w link d.1 d.2 → All (λ l. AreShort w.run_limit l.requests) d.2
    links (inl x) = subst (All (λ (l : Link). AreShort w.run_limit l.requests)) (sym x.4) (set-link w h link (sent x.0 d.1) (short-sent w.run_limit (x.0).requests d.1 (at-link w h link x.0 x.1) run))
    links (inr x) = subst (All (λ (l : Link). AreShort w.run_limit l.requests)) (sym x.1) (All-append (λ (l : Link). AreShort w.run_limit l.requests) w.links (sent (new_link (d.1).node) d.1 ∷ []) h.links
        (one (λ (l : Link). AreShort w.run_limit l.requests) (sent (new_link (d.1).node) d.1) (short-sent w.run_limit [] d.1 tt run)))
does-short (Refuse lane) w w' h past d =
    subst Short (sym d.3) (record { ups = All-remove (λ (b : Posted). length b.tickets ≤ w.run_limit) w.ups d.0 h.ups; links = h.links; apart = h.apart })
does-short (Serve link v) w w' h past d = go d.2
  where
    here : AreShort w.run_limit (d.0).requests
    here = at-link w h link d.0 d.1

    go : ServesAsking w link d.0 v w' ⊎ ServesRun w link d.0 v w' → Short w'
    go (inl x) =
        let l' : Link = record (d.0) { requests = x.0; asking = true } in
        subst Short (sym x.3) (record { ups = h.ups; links = set-link w h link (replied l' Welcome) (short-replied w.run_limit l' Welcome (subst (AreShort w.run_limit) x.1 here)); apart = h.apart })
    go (inr x) = run-short w w' h past link (d.0).node d.0 v d.1 x
does-short (Fetch link) w w' h past d = go d.3
  where
    here : AreShort w.run_limit (d.0).requests
    here = at-link w h link d.0 d.1

    go : FetchesWelcome w link d.0 w' ⊎ FetchesReply w link d.0 w' → Short w'
    go (inl x) = subst Short (sym x.2) (record { ups = h.ups; links = set-link w h link (record (d.0) { backs = x.0 }) here; apart = h.apart })
    go (inr x) = subst Short (sym x.4) (record { ups = h.ups; links = set-link w h link (record (d.0) { backs = x.0 }) here; apart = h.apart })
does-short (Take lane) w w' h past d = subst Short (sym d.7) (record { ups = h.ups; links = h.links; apart = h.apart })
does-short (Drop link) w w' h past d =
    subst Short (sym d.3) (record { ups = h.ups; links = set-link w h link (record (d.0) { is_open = false; backs = [] }) (at-link w h link d.0 d.1); apart = h.apart })
does-short (Discard link) w w' h past d = subst Short (sym d.4) (record { ups = h.ups; links = set-link w h link (record (d.0) { requests = [] }) tt; apart = h.apart })
does-short (ev.Answer client) w w' h past d = subst Short (sym d.8) (record { ups = h.ups; links = h.links; apart = h.apart })
does-short (Import slot target) w w' h past d = subst Short (sym d.2) (record { ups = h.ups; links = h.links; apart = h.apart })
does-short (Migrate slot) w w' h past d = subst Short (sym d.1) (record { ups = h.ups; links = h.links; apart = h.apart })
does-short (MoveKey slot key) w w' h past d = subst Short (sym d.1) (record { ups = h.ups; links = h.links; apart = h.apart })
does-short (Own slot) w w' h past d = subst Short (sym d.1) (record { ups = h.ups; links = h.links; apart = h.apart })
does-short (Release slot) w w' h past d = subst Short (sym d.1) (record { ups = h.ups; links = h.links; apart = h.apart })
does-short (Forget slot) w w' h past d = subst Short (sym d.1) (record { ups = h.ups; links = h.links; apart = h.apart })
does-short (Stay slot) w w' h past d = subst Short (sym d.1) (record { ups = h.ups; links = h.links; apart = h.apart })
