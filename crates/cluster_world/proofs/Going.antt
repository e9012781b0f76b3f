-- A run may go out, said step by step and of the commands as they stand.
use Rattle.std.proofs.Common.{◌≡◌, ◌≢◌, ◌⊎◌, ◌↔◌, inl, inr, ℕ, zero, suc, ◌+◌, ◌<◌, ◌≤◌, Bool, true, false, List, [], ◌∷◌, ◌++◌, length, take, drop, All, Option, Some, None, refl, sym, ap, ◌∙◌, subst, arith}
use Rattle.std.specs.Prelude.{slice_get, slice_set, slice_index_or, position}
use Rattle.std.proofs.lemmas.Bool.{cases_lt}
use Rattle.std.proofs.lemmas.Option.{slice_get_within, slice_get-get_or}
use Rattle.key_split.specs.Same.{same_ticket, same_ticket-Decides}
use Rattle.key_split.specs.declared.travel.Ticket.{Ticket}
use Rattle.command_future.specs.CommandModel.{MayPostTo, asks_at}
use Rattle.world_laws.specs.State.{WorldModel, HasEnded, slot_for, awaiting}
use Rattle.world_laws.specs.World.{Way, WorldDoes, GoOut, IsAmong, IsNode, IsOf, MayGo, MayRun, SameTurn}
use Rattle.world_laws.specs.declared.event.Event.TheVariants.{Post}
use Rattle.world_laws.specs.declared.state.Arrival.{Arrival}
use Rattle.world_laws.specs.declared.state.Posted.{Posted}
use Rattle.cluster_world.specs.Commands.{of_turn, place_for, turn_rank, AreApart, HasTurn}
use Rattle.cluster_world.specs.Machine.{run_limit}
use Rattle.cluster_world.specs.Posting.{way_for, ArePast, Follows, GoesOut, GoTogether, IsFresh, IsHead, IsRun, MayFollow}
use Rattle.cluster_world.specs.Rows.{rank}
use Rattle.cluster_world.proofs.Lookups.{all-before, before-all, first-is, first-passes, first-same, none-before, past-none, same-item}
use Rattle.cluster_world.proofs.Ranking.{at-end, end-is, front-stays, others-stay, rank-less, rank-one, set-is, set-length, which}
use Rattle.cluster_world.proofs.Finding.{both-so, so-both}
use Rattle.cluster_world.proofs.Served.{all-at}

-- tickets, one after another

pub among-more : (before : List Ticket) (t u : Ticket) → IsAmong before u → IsAmong (before ++ t ∷ []) u
among-more before t u a = (a.0, front-stays before a.0 t u a.1)

pub among-last : (before : List Ticket) (t : Ticket) → IsAmong (before ++ t ∷ []) t
among-last before t = (length before, end-is before t)

among-which : (before : List Ticket) (t u : Ticket) → IsAmong (before ++ t ∷ []) u → IsAmong before u ⊎ (u ≡ t)
among-which before t u a = elim (at-end before a.0 t u a.1) [ inl here ↦ inr here.1 | inr there ↦ inl (a.0, there.1) ]

none-among : (u : Ticket) → IsAmong [] u → ⊥
none-among u a = let at : slice_get [] a.0 ≡ Some u = a.1 in cc

pub cut-at : {X : Type 0} (xs : List X) (n : ℕ) (x : X) → slice_get xs n ≡ Some x → (drop n xs ≡ x ∷ drop (n + 1) xs) × (take (n + 1) xs ≡ take n xs ++ x ∷ [])
cut-at [] n x at = absurd (cc)
cut-at (y ∷ xs) zero x at = let same : y ≡ x = cc in (ap (λ z. z ∷ xs) same, ap (λ z. z ∷ []) same)
cut-at (y ∷ xs) (suc n) x at =
    let r = cut-at xs n x at in
    let e : suc n + 1 ≡ suc (n + 1) = omega arith in
    (r.0 ∙ ap (λ k. x ∷ drop k (y ∷ xs)) (sym e), ap (λ k. take k (y ∷ xs)) e ∙ ap (λ zs. y ∷ zs) r.1)

its-ticket : (t : Ticket) (commands : List Arrival) (i : ℕ) (c : Arrival) → IsOf t commands i c → t ≡ c.command.ticket
its-ticket t commands i c of' = (same_ticket-Decides t c.command.ticket).0 (first-passes (λ (x : Arrival). same_ticket t x.command.ticket) commands i c of')

-- the loop over a run's tickets

module _ (way : Way) (node : ℕ) (commands : List Arrival) (tickets : List Ticket) (n : ℕ) (t : Ticket) (at : slice_get tickets n ≡ Some t) (so : GoTogether way node (take n tickets) (drop n tickets) commands ↔ GoTogether way node [] tickets commands) where
  here-too : GoTogether way node (take n tickets) (t ∷ drop (n + 1) tickets) commands ↔ GoTogether way node [] tickets commands
  here-too = subst (λ (ts : List Ticket). GoTogether way node (take n tickets) ts commands ↔ GoTogether way node [] tickets commands) (cut-at tickets n t at).0 so

  pub goes-further : MayFollow way node (take n tickets) t commands → GoTogether way node (take (n + 1) tickets) (drop (n + 1) tickets) commands ↔ GoTogether way node [] tickets commands
  goes-further may =
      subst (λ (ts : List Ticket). GoTogether way node ts (drop (n + 1) tickets) commands ↔ GoTogether way node [] tickets commands) (sym (cut-at tickets n t at).1)
      ((λ more. here-too.0 (may, more)), λ whole. (here-too.1 whole).1)

  pub goes-not : (MayFollow way node (take n tickets) t commands → ⊥) → GoTogether way node [] tickets commands → ⊥
  goes-not never whole = never (here-too.1 whole).0

pub take-length : {X : Type 0} (xs : List X) (n : ℕ) → n ≤ length xs → n ≡ length (take n xs)
take-length [] zero le = refl
take-length [] (suc n) le = absurd (omega (arith, le))
take-length (x ∷ xs) zero le = refl
take-length (x ∷ xs) (suc n) le = ap suc (take-length xs n (omega (arith, le)))

-- where the loop begins, and where it ends

no-cut : {X : Type 0} (xs : List X) → (take 0 xs ≡ []) × (drop 0 xs ≡ xs)
no-cut [] = (refl, refl)
no-cut (x ∷ xs) = (refl, refl)

pub goes-first : (way : Way) (node : ℕ) (commands : List Arrival) (tickets : List Ticket) (past : ℕ) → ArePast way [] past commands
    → (GoTogether way node (take 0 tickets) (drop 0 tickets) commands ↔ GoTogether way node [] tickets commands) × ArePast way (take 0 tickets) past commands
goes-first way node commands tickets past are = (
  subst (λ (p : List Ticket × List Ticket). GoTogether way node p.0 p.1 commands ↔ GoTogether way node [] tickets commands) (λ i. (sym (no-cut tickets).0 i, sym (no-cut tickets).1 i)) (λ x. x, λ x. x),
  subst (λ (ts : List Ticket). ArePast way ts past commands) (sym (no-cut tickets).0) are,
)

all-cut : {X : Type 0} (xs : List X) (n : ℕ) → n ≡ length xs → drop n xs ≡ []
all-cut [] zero e = refl
all-cut [] (suc n) e = refl
all-cut (x ∷ xs) zero e = absurd (omega (arith, e))
all-cut (x ∷ xs) (suc n) e = all-cut xs n (omega (arith, e))

pub goes-whole : (way : Way) (node : ℕ) (commands : List Arrival) (tickets : List Ticket) (n : ℕ) → n ≡ length tickets → GoTogether way node (take n tickets) (drop n tickets) commands ↔ GoTogether way node [] tickets commands → GoTogether way node [] tickets commands
goes-whole way node commands tickets n end so = so.0 (subst (λ (ts : List Ticket). GoTogether way node (take n tickets) ts commands) (sym (all-cut tickets n end)) tt)

-- one more goes behind those before it

module _ (way : Way) (before : List Ticket) (t : Ticket) (commands : List Arrival) (past : ℕ) (are : ArePast way before past commands) where
  pub still-past : ArePast way (before ++ t ∷ []) past commands
  still-past i c at is lt = elim (are i c at is lt) [ inl e ↦ inl e | inr a ↦ inr (among-more before t c.command.ticket a) ]

  module _ (place : ℕ) (c : Arrival) (of' : IsOf t commands place c) (is : of_turn way.client way.slot c ≡ true) where
    -- those before it are past
    pub turn-by-rank : (same : way ≡ record way { client = c.command.ticket.client; slot = slot_for c.command.part }) → rank (of_turn way.client way.slot) commands place ≤ past → HasTurn before commands place c
    turn-by-rank same le =
        all-before (λ d. SameTurn c d → HasEnded d ⊎ IsAmong before d.command.ticket) commands place (λ k d lt there turn.
        (let mine : of_turn way.client way.slot d ≡ true = so-both d.command.ticket.client (slot_for d.command.part) way.client way.slot (turn.0 ∙ sym (ap (λ (v : Way). v.client) same)) (turn.1 ∙ sym (ap (λ (v : Way). v.slot) same)) in
        are k d there mine (omega (arith, le, rank-less (of_turn way.client way.slot) commands k place d there mine lt))))

    pub one-past : rank (of_turn way.client way.slot) commands place ≡ past → ArePast way (before ++ t ∷ []) (past + 1) commands
    one-past next i d at mine lt = elim (cases_lt (rank (of_turn way.client way.slot) commands i) past) [
      | inl less ↦ still-past i d at mine less
      | inr le ↦
          let here : i ≡ place = rank-one (of_turn way.client way.slot) commands i place d c at of'.1 mine is (omega (arith, le, lt, next)) in
          let one : slice_get commands place ≡ Some d = ap (slice_get commands) (sym here) ∙ at in
          let same : d ≡ c = same-item commands place d c one of'.1 in
          inr (subst (λ (u : Ticket). IsAmong (before ++ t ∷ []) u) (its-ticket t commands place c of' ∙ ap (λ (x : Arrival). x.command.ticket) (sym same)) (among-last before t))
    ]

-- the commands, of which those before went out

record Gone (before : List Ticket) (commands now : List Arrival) : Type 0 where
  long : length now ≡ length commands
  there : (j : ℕ) (c : Arrival) → slice_get commands j ≡ Some c
      → ((slice_get now j ≡ Some c) × (IsAmong before c.command.ticket → ⊥)) ⊎ ((slice_get now j ≡ Some (awaiting c)) × IsAmong before c.command.ticket)

gone-none : (commands : List Arrival) → Gone [] commands commands
gone-none commands = record { long = refl; there = λ j c at. inl (at, none-among c.command.ticket) }

abbrev Was : List Ticket → List Arrival → ℕ → Arrival → Type 0
Was before commands j d = (c : Arrival) × (slice_get commands j ≡ Some c) × (((d ≡ c) × (IsAmong before c.command.ticket → ⊥)) ⊎ ((d ≡ awaiting c) × IsAmong before c.command.ticket))

module _ (before : List Ticket) (commands now : List Arrival) (g : Gone before commands now) where
  was : (j : ℕ) (d : Arrival) → slice_get now j ≡ Some d → Was before commands j d
  was j d at = go (slice_get commands j) refl
    where
      go : (o : Option Arrival) → slice_get commands j ≡ o → Was before commands j d
      go (Some c) here = (c, here, elim (g.there j c here) [ inl x ↦ inl (same-item now j d c at x.0, x.1) | inr x ↦ inr (same-item now j d (awaiting c) at x.0, x.1) ])
      go None none = absurd (omega (arith, slice_get_within now j d at, g.long, past-none commands j none))

  -- the first of a ticket stands where it stood
  its-now : (t : Ticket) (i : ℕ) (c d : Arrival) → IsOf t commands i c → slice_get now i ≡ Some d → d.command.ticket ≡ c.command.ticket → IsOf t now i d
  its-now t i c d of' at same = (
    first-is (λ (x : Arrival). same_ticket t x.command.ticket) now i d at (ap (same_ticket t) same ∙ first-passes (λ (x : Arrival). same_ticket t x.command.ticket) commands i c of')
        (λ k x lt there.
        (let w = was k x there in
        let b : same_ticket t (w.0).command.ticket ≡ false = none-before (λ (y : Arrival). same_ticket t y.command.ticket) commands i of'.0 k w.0 lt w.1 in
        ap (same_ticket t) (elim w.2 [ inl e ↦ ap (λ (y : Arrival). y.command.ticket) e.0 | inr e ↦ ap (λ (y : Arrival). y.command.ticket) e.0 ]) ∙ b)),
    at,
  )

  its-then : (t : Ticket) (i : ℕ) (c d : Arrival) → IsOf t now i d → slice_get commands i ≡ Some c → d.command.ticket ≡ c.command.ticket → IsOf t commands i c
  its-then t i c d of' at same = (
    first-is (λ (x : Arrival). same_ticket t x.command.ticket) commands i c at (ap (same_ticket t) (sym same) ∙ first-passes (λ (x : Arrival). same_ticket t x.command.ticket) now i d of')
        (λ k x lt there. elim (g.there k x there) [
          | inl e ↦ none-before (λ (y : Arrival). same_ticket t y.command.ticket) now i of'.0 k x lt e.0
          | inr e ↦ none-before (λ (y : Arrival). same_ticket t y.command.ticket) now i of'.0 k (awaiting x) lt e.0
        ]),
    at,
  )

  turn-now : (i : ℕ) (c : Arrival) → HasTurn before commands i c → HasTurn before now i c
  turn-now i c turn = all-before (λ d. SameTurn c d → HasEnded d ⊎ IsAmong before d.command.ticket) now i (λ k d lt at.
      (let w = was k d at in elim w.2 [
        | inl e ↦ subst (λ (x : Arrival). SameTurn c x → HasEnded x ⊎ IsAmong before x.command.ticket) (sym e.0) (before-all (λ x. SameTurn c x → HasEnded x ⊎ IsAmong before x.command.ticket) commands i k w.0 turn lt w.1)
        | inr e ↦ λ same. inr (subst (IsAmong before) (ap (λ (x : Arrival). x.command.ticket) (sym e.0)) e.1)
      ]))

  turn-then : (i : ℕ) (c : Arrival) → HasTurn before now i c → HasTurn before commands i c
  turn-then i c turn = all-before (λ d. SameTurn c d → HasEnded d ⊎ IsAmong before d.command.ticket) commands i (λ k d lt at. elim (g.there k d at) [
    | inl e ↦ before-all (λ x. SameTurn c x → HasEnded x ⊎ IsAmong before x.command.ticket) now i k d turn lt e.0
    | inr e ↦ λ same. inr e.1
  ])

  module _ (apart : AreApart commands) (t : Ticket) (i : ℕ) (c : Arrival) (of' : IsOf t commands i c) where
    one-more : Gone (before ++ t ∷ []) commands (slice_set now i (awaiting c))
    one-more = record {
      long = set-length now i (awaiting c) ∙ g.long;
      there = λ j x at. elim (which j i) [
        | inl here ↦
            let same : x ≡ c = same-item commands i x c (ap (slice_get commands) (sym here) ∙ at) of'.1 in
            let now-there : slice_get (slice_set now i (awaiting c)) i ≡ Some (awaiting c) = elim (g.there i c of'.1) [ inl e ↦ set-is now i c (awaiting c) e.0 | inr e ↦ set-is now i (awaiting c) (awaiting c) e.0 ] in
            inr (
              ap (slice_get (slice_set now i (awaiting c))) here ∙ now-there ∙ ap (λ (y : Arrival). Some (awaiting y)) (sym same),
              subst (λ (u : Ticket). IsAmong (before ++ t ∷ []) u) (its-ticket t commands i c of' ∙ ap (λ (y : Arrival). y.command.ticket) (sym same)) (among-last before t),
            )
        | inr other ↦ elim (g.there j x at) [
          | inl e ↦ inl (
            others-stay now i j (awaiting c) x other e.0,
            λ a. elim (among-which before t x.command.ticket a) [
              | inl early ↦ e.1 early
              | inr its ↦ other (apart j i x c at of'.1 (its ∙ its-ticket t commands i c of'))
            ],
          )
          | inr e ↦ inr (others-stay now i j (awaiting c) (awaiting x) other e.0, among-more before t x.command.ticket e.1)
        ]
      ];
    }

module _ (way : Way) (node : ℕ) (commands : List Arrival) (apart : AreApart commands) where
  together-out : (ts before : List Ticket) (now : List Arrival) → Gone before commands now → GoTogether way node before ts commands → (after : List Arrival) × GoOut way node before ts now after
  together-out [] before now g may = (now, refl)
  together-out (t ∷ ts) before now g may =
      let i : ℕ = may.0.1.0 in
      let c : Arrival = may.0.1.1 in
      let of' : IsOf t commands i c = may.0.1.2 in
      let at : slice_get now i ≡ Some c = elim (g.there i c of'.1) [ inl e ↦ e.0 | inr e ↦ absurd (may.0.0 (subst (IsAmong before) (sym (its-ticket t commands i c of')) e.1)) ] in
      let rest = together-out ts (before ++ t ∷ []) (slice_set now i (awaiting c)) (one-more before commands now g apart t i c of') may.1 in
      (rest.0, (i, c, its-now before commands now g t i c c of' at refl, may.0.1.3, turn-now before commands now g i c may.0.1.4, rest.1))

  out-together : (ts before : List Ticket) (now after : List Arrival) → Gone before commands now → GoOut way node before ts now after → GoTogether way node before ts commands
  out-together [] before now after g out = tt
  out-together (t ∷ ts) before now after g out =
      let i : ℕ = out.0 in
      let d : Arrival = out.1 in
      let w = was before commands now g i d out.2.1 in elim w.2 [
        | inl e ↦
            let of' : IsOf t commands i w.0 = its-then before commands now g t i w.0 d out.2 w.1 (ap (λ (x : Arrival). x.command.ticket) e.0) in
            let rest : GoOut way node (before ++ t ∷ []) ts (slice_set now i (awaiting w.0)) after = subst (λ (x : Arrival). GoOut way node (before ++ t ∷ []) ts (slice_set now i (awaiting x)) after) e.0 out.5 in (
              (
                (λ a. e.1 (subst (IsAmong before) (its-ticket t commands i w.0 of') a)),
                (i, w.0, of', subst (MayGo way node) e.0 out.3, turn-then before commands now g i w.0 (subst (λ (x : Arrival). HasTurn before now i x) e.0 out.4)),
              ),
              out-together ts (before ++ t ∷ []) (slice_set now i (awaiting w.0)) after (one-more before commands now g apart t i w.0 of') rest,
            )
        | inr e ↦ absurd (subst (λ (x : Arrival). MayPostTo x.command.stage node) e.0 out.3.2)
      ]

-- the run goes out, one step

pub goes-on : (way : Way) (node : ℕ) (before rest later : List Ticket) (now now' after : List Arrival) (t : Ticket) (place : ℕ) → rest ≡ t ∷ later → place_for now t ≡ Some place
    → ((c : Arrival) → slice_get now place ≡ Some c → now' ≡ slice_set now place (awaiting c)) → GoOut way node before rest now after → GoOut way node (before ++ t ∷ []) later now' after
goes-on way node before rest later now now' after t place first its step out = go (subst (λ (ts : List Ticket). GoOut way node before ts now after) first out)
  where
    go : GoOut way node before (t ∷ later) now after → GoOut way node (before ++ t ∷ []) later now' after
    go x =
        let here : x.0 ≡ place = (let p : place_for now t ≡ Some x.0 = x.2.0 in cc) in
        let set : now' ≡ slice_set now x.0 (awaiting x.1) = step x.1 (ap (slice_get now) (sym here) ∙ x.2.1) ∙ ap (λ (p : ℕ). slice_set now p (awaiting x.1)) (sym here) in
        subst (λ (cs : List Arrival). GoOut way node (before ++ t ∷ []) later cs after) (sym set) x.5

pub may-post-here : (way : Way) (node : ℕ) (before rest later : List Ticket) (now after : List Arrival) (t : Ticket) (place : ℕ) → rest ≡ t ∷ later → place_for now t ≡ Some place → GoOut way node before rest now after
    → (c : Arrival) × (slice_get now place ≡ Some c) × MayPostTo c.command.stage node
may-post-here way node before rest later now after t place first its out = go (subst (λ (ts : List Ticket). GoOut way node before ts now after) first out)
  where
    go : GoOut way node before (t ∷ later) now after → (c : Arrival) × (slice_get now place ≡ Some c) × MayPostTo c.command.stage node
    go x =
        let here : x.0 ≡ place = (let p : place_for now t ≡ Some x.0 = x.2.0 in cc) in
        (x.1, ap (slice_get now) (sym here) ∙ x.2.1, x.3.2)

pub goes-nowhere : (way : Way) (node : ℕ) (before rest later : List Ticket) (now after : List Arrival) (t : Ticket) → rest ≡ t ∷ later → place_for now t ≡ None → GoOut way node before rest now after → ⊥
goes-nowhere way node before rest later now after t first none out = go (subst (λ (ts : List Ticket). GoOut way node before ts now after) first out)
  where
    go : GoOut way node before (t ∷ later) now after → ⊥
    go x = let p : place_for now t ≡ Some x.0 = x.2.0 in cc

pub gone-all : (way : Way) (node : ℕ) (before rest : List Ticket) (now after : List Arrival) → rest ≡ [] → GoOut way node before rest now after → now ≡ after
gone-all way node before rest now after none out = sym (subst (λ (ts : List Ticket). GoOut way node before ts now after) none out)

-- the event

-- none of the run's commands was refused yet
fresh-all : (tickets : List Ticket) (commands : List Arrival) → All (λ c. IsAmong tickets c.command.ticket → c.command.followed ≡ 0) commands → All (IsFresh commands) tickets
fresh-all tickets commands none k d lt i c of' =
    all-at (λ (c : Arrival). IsAmong tickets c.command.ticket → c.command.followed ≡ 0) commands i c none of'.1
    (k, slice_get-get_or tickets k d lt ∙ ap Some (its-ticket (slice_index_or tickets k d) commands i c of'))

all-fresh : (tickets : List Ticket) (commands : List Arrival) → AreApart commands → All (IsFresh commands) tickets → All (λ c. IsAmong tickets c.command.ticket → c.command.followed ≡ 0) commands
all-fresh tickets commands apart fresh k d lt among =
    let c : Arrival = slice_index_or commands k d in
    let at : slice_get commands k ≡ Some c = slice_get-get_or commands k d lt in
    let p : Arrival → Bool = λ (x : Arrival). same_ticket c.command.ticket x.command.ticket in
    all-at (IsFresh commands) tickets among.0 c.command.ticket fresh among.1 k c (
      first-is p commands k c at ((same_ticket-Decides c.command.ticket c.command.ticket).1 refl)
          (λ j x below there. otherwise (same_ticket c.command.ticket x.command.ticket) (λ yes. omega (arith, below, apart j k x c there at (sym ((same_ticket-Decides c.command.ticket x.command.ticket).0 yes))))),
      at,
    )
  where
    otherwise : (b : Bool) → (b ≡ true → ⊥) → b ≡ false
    otherwise true never = absurd (never refl)
    otherwise false never = refl

head-so : (way : Way) (node : ℕ) (tickets : List Ticket) (commands after : List Arrival) → tickets ≢ [] → GoOut way node [] tickets commands after → (c : Arrival) × IsHead tickets commands c
head-so way node [] commands after some out = absurd (some refl)
head-so way node (t ∷ ts) commands after some out = (out.1, (t, ts, out.0, refl, out.2))

its-way : (way : Way) (node : ℕ) (tickets : List Ticket) (commands after : List Arrival) (first : Arrival) → IsHead tickets commands first → GoOut way node [] tickets commands after → way ≡ way_for first
its-way way node tickets commands after first head out = go (subst (λ (ts : List Ticket). GoOut way node [] ts commands after) head.3 out)
  where
    go : GoOut way node [] (head.0 ∷ head.1) commands after → way ≡ way_for first
    go x =
        let same : x.1 ≡ first = (first-same (λ (c : Arrival). same_ticket head.0 c.command.ticket) commands x.0 head.2 x.1 first x.2 head.4).1 in
        (λ i. record { client = sym x.3.0 i; slot = sym x.3.1 i; asking = sym x.3.3 i }) ∙ ap way_for same

module _ (w v : WorldModel) (tickets : List Ticket) (node : ℕ) (limit : w.run_limit ≡ run_limit) (d : WorldDoes w (Post tickets node) v) where
  pub posted-node : IsNode w.cluster node
  posted-node = d.3

  pub posted-run : IsRun tickets w.commands
  posted-run = (d.2.0, omega (arith, d.2.1, limit), elim d.2.2 [ inl one ↦ inl one | inr none ↦ inr (fresh-all tickets w.commands none) ])

  pub posted-head : (c : Arrival) × IsHead tickets w.commands c
  posted-head = head-so d.0 node tickets w.commands d.1 d.2.0 d.4

  pub posted-together : AreApart w.commands → (first : Arrival) → IsHead tickets w.commands first → GoTogether (way_for first) node [] tickets w.commands
  posted-together apart first head =
      subst (λ (way : Way). GoTogether way node [] tickets w.commands) (its-way d.0 node tickets w.commands d.1 first head d.4)
      (out-together d.0 node w.commands apart tickets [] w.commands d.1 (gone-none w.commands) d.4)

pub may-post : (w : WorldModel) (tickets : List Ticket) (node : ℕ) (first : Arrival) → w.run_limit ≡ run_limit → AreApart w.commands → IsNode w.cluster node → IsRun tickets w.commands → GoTogether (way_for first) node [] tickets w.commands
    → (after : List Arrival) × GoesOut node tickets w.commands after
    × WorldDoes w (Post tickets node) (record w { commands = after; ups = w.ups ++ record { tickets = tickets; node = node; asking = asks_at first.command.stage } ∷ [] })
may-post w tickets node first limit apart there' run may =
    let out = together-out (way_for first) node w.commands apart tickets [] w.commands (gone-none w.commands) may in
    let fresh : MayRun w tickets = (run.0, omega (arith, run.1, limit), elim run.2 [ inl one ↦ inl one | inr all ↦ inr (all-fresh tickets w.commands apart all) ]) in
    (out.0, (way_for first, out.1), (way_for first, out.0, fresh, there', out.1, refl))

-- what a look at one ticket says

module _ (way : Way) (node : ℕ) (before : List Ticket) (t : Ticket) (commands : List Arrival) where
  pub not-there : place_for commands t ≡ None → MayFollow way node before t commands → ⊥
  not-there none m = let p : place_for commands t ≡ Some m.1.0 = m.1.2.0 in cc

  module _ (place : ℕ) (c : Arrival) (of' : IsOf t commands place c) where
    one-place : (m : MayFollow way node before t commands) → (m.1.0 ≡ place) × (m.1.1 ≡ c)
    one-place m = first-same (λ (x : Arrival). same_ticket t x.command.ticket) commands m.1.0 place m.1.1 c m.1.2 of'

    pub not-going : (MayGo way node c → ⊥) → MayFollow way node before t commands → ⊥
    not-going never m = never (subst (MayGo way node) (one-place m).1 m.1.3)

    pub not-its-turn : (HasTurn before commands place c → ⊥) → MayFollow way node before t commands → ⊥
    not-its-turn never m = never (subst (λ (p : ℕ × Arrival). HasTurn before commands p.0 p.1) (λ i. ((one-place m).0 i, (one-place m).1 i)) m.1.4)

    module _ (never : IsAmong before t → ⊥) (go : MayGo way node c) (past : ℕ) (are : ArePast way before past commands) where
      pub follows-so : HasTurn before commands place c → Follows way node before t commands (Some past)
      follows-so turn = ((never, (place, c, of', go, turn)), still-past way before t commands past are)

      its-way' : way ≡ record way { client = c.command.ticket.client; slot = slot_for c.command.part }
      its-way' = λ i. record way { client = sym go.0 i; slot = sym go.1 i }

      mine : of_turn way.client way.slot c ≡ true
      mine = so-both c.command.ticket.client (slot_for c.command.part) way.client way.slot go.0 go.1

      its-rank : (r : ℕ) → r ≡ turn_rank commands place c → rank (of_turn way.client way.slot) commands place ≡ r
      its-rank r is = (λ i. rank (of_turn (sym go.0 i) (sym go.1 i)) commands place) ∙ sym is

      by-rank : (r : ℕ) → r ≡ turn_rank commands place c → r ≤ past → HasTurn before commands place c
      by-rank r is le = turn-by-rank way before t commands past are place c of' mine its-way' (omega (arith, le, its-rank r is))

      pub follows-low : (r : ℕ) → r ≡ turn_rank commands place c → r ≤ past → Follows way node before t commands (Some past)
      follows-low r is le = follows-so (by-rank r is le)

      pub follows-next : (r : ℕ) → r ≡ turn_rank commands place c → r ≡ past → Follows way node before t commands (Some (past + 1))
      follows-next r is next = ((never, (place, c, of', go, by-rank r is (omega (arith, next)))), one-past way before t commands past are place c of' mine (its-rank r is ∙ next))
