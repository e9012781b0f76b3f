-- The commands of a run are posted, each behind those before it: so they are in the machine.
use Rattle.std.proofs.Common.{◌≡◌, ◌≢◌, ◌⊎◌, inl, inr, ⊎_elim, ℕ, suc, ◌-◌, ◌<◌, ◌≤◌, ◌==◌, true, false, List, [], ◌∷◌, ◌++◌, Some, refl, sym, ap, ◌∙◌, subst, arith}
use Rattle.std.specs.Prelude.{slice_get, slice_set, All, count_by, map, nat_eq, take}
use Rattle.std.specs.FinMap.{get}
use Rattle.std.proofs.lemmas.Bool.{false≢true}
use Rattle.std.proofs.lemmas.Bool.Decides.{eqb_tells}
use Rattle.std.proofs.lemmas.List.{map-append}
use Rattle.std.proofs.lemmas.List.Elements.{All-append, All-cons, All-nil}
use Rattle.slot_hash.specs.Slot.{slot_of}
use Rattle.key_split.specs.Same.{same_ticket, same_ticket-Decides}
use Rattle.key_split.specs.declared.travel.Ticket.{Ticket}
use Rattle.key_split.specs.declared.travel.Told.{Told}
use Rattle.key_split.specs.declared.travel.Ended.{Ended}
use Rattle.command_future.specs.CommandModel.{CommandModel, IsFresh, MayPostTo, asks_at}
use Rattle.command_future.specs.declared.stage.Stage.{Stage}
use Rattle.command_future.specs.declared.stage.Stage.TheVariants.{Awaits, Over}
use Rattle.session_order.specs.SessionModel.{SessionModel}
use Rattle.session_order.specs.Behind.{IsOutBehind, IsOfSession}
use Rattle.session_order.specs.Behind as behind
use Rattle.session_order.specs.Steps.{IsHandedOut, IsOut}
use Rattle.session_order.specs.Turn.{blocks}
use Rattle.session_order.specs.declared.queue.PartStage.{PartStage}
use Rattle.session_order.specs.declared.queue.PartStage.TheVariants.{Out}
use Rattle.proxy_turns.specs.Commands.{with_posted}
use Rattle.proxy_turns.specs.ClientModel.{ClientModel, GoBehind}
use Rattle.world_laws.specs.State.{HasEnded, awaiting, slot_for}
use Rattle.world_laws.specs.declared.state.Arrival.{Arrival}
use Rattle.world_laws.specs.World.{Way, GoOut, MayGo, IsOf, IsAmong, SameTurn}
use Rattle.world_laws.proofs.Allowed.{first-of}
use Rattle.world_laws.proofs.Recorded.{at-set, set-same}
use Rattle.turn_laws.specs.Shadow.{ClientShadow, KeptShadow, IsLetGo, StageShadow, HasCommand, HasPart, StandsAt}
use Rattle.turn_laws.proofs.Begun.{free}
use Rattle.turn_laws.proofs.Downs.{Pair}
use Rattle.turn_laws.proofs.Ending.{one-item}
use Rattle.turn_laws.proofs.Holding.{AsksBefore, awaits-asks}
use Rattle.turn_laws.proofs.Onward.{others-set}
use Rattle.turn_laws.proofs.Posting.{Takes, takes-has, goes-no-await, all-before, same-itself, only, stood, same, client2, at-own, at-other, goes-on, posted-shadow}
use Rattle.turn_laws.proofs.Rising.{Rising}
use Rattle.turn_laws.proofs.Tables.{same_number}
use Rattle.turn_laws.proofs.Standing.{GoesOn, was-there}
use Rattle.turn_laws.proofs.Telling.{count-set}
use Rattle.turn_laws.proofs.Told.{AreOwn, SameParts, own-set, parts-set}

abbrev pub tickets_of : List CommandModel → List Ticket
tickets_of cs = map (λ (c : CommandModel). c.ticket) cs

abbrev pub numbers_of : List Ticket → List ℕ
numbers_of ts = map (λ (t : Ticket). t.part) ts

-- ---- who stands before

ticket-is : (t u : Ticket) → t.worker ≡ u.worker → t.client ≡ u.client → t.part ≡ u.part → t ≡ u
ticket-is t u a b c = λ i. record { worker = a i; client = b i; part = c i }

-- a part that is among these numbers is of one of these tickets
among-of : (held : SessionModel) (ts : List Ticket) (t : Ticket) → IsOfSession held t → All (IsOfSession held) ts → behind.IsAmong (numbers_of ts) t.part → IsAmong ts t
among-of held [] t mine all h = absurd h
among-of held (u ∷ ts) t mine all h = ⊎_elim
    (λ (e : t.part ≡ u.part). let theirs = all 0 u (omega arith) in (0, ap Some (ticket-is u t (theirs.0 ∙ sym mine.0) (theirs.1 ∙ sym mine.1) (sym e))))
    (λ (e : behind.IsAmong (numbers_of ts) t.part). let r = among-of held ts t mine (λ n v lt. all (suc n) v (omega (arith, lt))) e in (suc r.0, r.1))
    h

-- the tickets rise after a command goes on
rising-set : (xs : List Arrival) (j : ℕ) (x y : Arrival) → slice_get xs j ≡ Some x → GoesOn x y → Rising xs → Rising (slice_set xs j y)
rising-set xs j x y at on h a b c d p q lt same =
    let u = was-there xs j x y at on a c p in
    let v = was-there xs j x y at on b d q in
    let theirs : (v.0).command.ticket.client ≡ (u.0).command.ticket.client = ap (λ (t : Ticket). t.client) (sym v.2.0) ∙ same ∙ ap (λ (t : Ticket). t.client) u.2.0 in
    let less : (v.0).command.ticket.part < (u.0).command.ticket.part = h a b u.0 v.0 u.1 v.1 lt theirs in
    subst (λ n. n < c.command.ticket.part) (ap (λ (t : Ticket). t.part) (sym v.2.0)) (subst (λ n. (v.0).command.ticket.part < n) (ap (λ (t : Ticket). t.part) (sym u.2.0)) less)

-- what is out is out behind none where nothing earlier of its slot blocks
pub out-first : (held : SessionModel) (ticket : Ticket) (slot : ℕ) (o : IsOut held ticket) → o.0 ≡ slot → IsOutBehind held slot [] ticket
out-first held ticket slot o same = record {
  owner = (o.3, o.4);
  out = (o.1, o.2 ∙ ap (λ n. Some (Out n)) same);
  earlier = λ i n lt. absurd (omega (arith, lt));
  others = λ number is-open lt.
      let free' : blocks slot is-open.1 ≡ false = subst (λ n. blocks n is-open.1 ≡ false) same
      (free (blocks o.0) held.stages (ticket.part - held.first) (number - held.first) is-open.1 (nearer held.first number ticket.part is-open.0 lt) is-open.2 o.5) in
      false≢true (sym free' ∙ is-open.3);
}
  where
    nearer : (first a b : ℕ) → first ≤ a → a < b → a - first < b - first
    nearer first a b le lt = omega (arith, le, lt)

pub handed-out : (held : SessionModel) (slot : ℕ) (before : List ℕ) (ticket : Ticket) → IsOutBehind held slot before ticket → IsHandedOut held ticket
handed-out held slot before ticket b = (slot, b.out.0, b.out.1, b.owner.0, b.owner.1)

-- the command of a ticket, by the first place of its ticket
found-own : (arrivals : List Arrival) → AreOwn arrivals → (t : Ticket) (i : ℕ) (x : Arrival) → slice_get arrivals i ≡ Some x → x.command.ticket ≡ t → (j : ℕ) × IsOf t arrivals j x
found-own arrivals own t i x at is =
    let f = first-of (λ (y : Arrival). same_ticket t y.command.ticket) arrivals i x at (subst (λ u. same_ticket t u ≡ true) (sym is) (same-itself t)) in
    let theirs : (f.1).command.ticket ≡ t = sym ((same_ticket-Decides t (f.1).command.ticket).0 f.3) in
    let place : f.0 ≡ i = own f.0 i f.1 x f.2.1 at (theirs ∙ sym is) in
    (f.0, (f.2.0, ap (slice_get arrivals) place ∙ at))

-- ---- commands that were not posted yet

pub wants-post : (node : ℕ) (c : CommandModel) → IsFresh c → MayPostTo c.stage node
wants-post node c e = subst (λ (s : Stage). MayPostTo s node) (ap (λ (d : CommandModel). d.stage) (sym e)) tt

asks-not : (c : CommandModel) → IsFresh c → asks_at c.stage ≡ false
asks-not c e = ap (λ (d : CommandModel). asks_at d.stage) e

with-more : (before : List Ticket) (c : CommandModel) → numbers_of (before ++ c.ticket ∷ []) ≡ numbers_of before ++ c.ticket.part ∷ []
with-more before c = map-append (λ (t : Ticket). t.part) before (c.ticket ∷ [])

-- ---- what posting does to a client and to the machine's commands

module _ {C : Type 0} (downs : List Pair) (k number : ℕ) (way : Way) (node : ℕ) where
  -- who is told something awaits it
  abbrev pub Awaited : ClientModel C → Type 0
  Awaited client = (t : Ticket) (i : ℕ) (told : Told) → slice_get downs i ≡ Some (t, told) → t.client ≡ number → (d : CommandModel) × (get client.commands.posted t.part ≡ Some d) × (d.stage ≡ Awaits)

  pub record PostsAll (client client' : ClientModel C) (old new : List Arrival) (before : List Ticket) (cs : List CommandModel) : Type 0 where
    pub shadow : ClientShadow downs k number client' new
    pub own : AreOwn new
    pub others : (n m : ℕ) (c : ClientModel C) → n ≢ number → ClientShadow downs m n c old → ClientShadow downs m n c new
    pub counts : (n : ℕ) → count_by (λ (c : Arrival). c.command.ticket.client == n) new ≡ count_by (λ (c : Arrival). c.command.ticket.client == n) old
    pub parts : SameParts old new
    pub keeps : (part : ℕ) (d : CommandModel) → get client.commands.posted part ≡ Some d → d.stage ≡ Awaits → get client'.commands.posted part ≡ Some d
    -- what awaits did so before, or is the client's now
    pub waits : (i : ℕ) (a : Arrival) → slice_get new i ≡ Some a → a.command.stage ≡ Awaits
        → ((j : ℕ) × (d : Arrival) × (slice_get old j ≡ Some d) × (d.command ≡ a.command))
        ⊎ ((a.command.ticket.client ≡ number) × (get client'.commands.posted a.command.ticket.part ≡ Some a.command))
    -- what was posted still is, perhaps once more
    pub stays : (part : ℕ) (d : CommandModel) → get client.commands.posted part ≡ Some d → (d' : CommandModel) × (get client'.commands.posted part ≡ Some d') × (d'.ticket ≡ d.ticket)
    -- what wants to ask did so before
    pub asks_still : AsksBefore old new
    pub goes : GoOut way node before (tickets_of cs) old new
    pub under : All (λ (c : CommandModel). HasPart new c.ticket c.part × (c.ticket.worker ≡ k)) cs

  -- ---- one command

  module _ (client : ClientModel C) (arrivals : List Arrival) (old : ClientShadow downs k number client arrivals) (own : AreOwn arrivals) (awaits : Awaited client) (rising : Rising arrivals)
      (c : CommandModel) (later : List CommandModel) (takes : Takes client.commands c later)
      (was-posted : client.gone ≡ true → get client.commands.posted c.ticket.part ≡ Some c)
      (before : List Ticket) (theirs : All (IsOfSession client.session) before) (stands-behind : IsOutBehind client.session (slot_of c.part.key) (numbers_of before) c.ticket)
      (may : MayPostTo c.stage node) (ours : way.client ≡ number) (slot : slot_of c.part.key ≡ way.slot) (asking : asks_at c.stage ≡ way.asking) where
    abbrev pub out : IsHandedOut client.session c.ticket
    out = handed-out client.session (slot_of c.part.key) (numbers_of before) c.ticket stands-behind

    has : HasCommand client.commands c.ticket.part c
    has = takes-has client.commands c later takes

    pub stands : StandsAt arrivals c.ticket
    stands = stood downs k number client arrivals old awaits c has was-posted out node may

    abbrev pub x : Arrival
    x = stands.1

    pub place : (i : ℕ) × IsOf c.ticket arrivals i x
    place = found-own arrivals own c.ticket stands.0 x stands.2 stands.3

    abbrev pub j : ℕ
    j = place.0

    at : slice_get arrivals j ≡ Some x
    at = place.1.1

    pub is-it : x.command ≡ c
    is-it = same downs k number client arrivals old awaits c has was-posted out node may j x at stands.3

    further : GoesOn x (awaiting x)
    further = goes-on downs k number client arrivals old own awaits c later takes was-posted out node may j x at stands.3

    abbrev pub arrivals2 : List Arrival
    arrivals2 = slice_set arrivals j (awaiting x)

    abbrev pub next : ClientModel C
    next = client2 downs k number client arrivals old own awaits c later takes was-posted out node may

    of-client : x.command.ticket.client ≡ number
    of-client = ap (λ (t : Ticket). t.client) stands.3 ∙ out.4 ∙ old.numbered

    -- an earlier one of its turn that is awaited stands before it
    is-before : (i : ℕ) (d : Arrival) → slice_get arrivals i ≡ Some d → i < j → SameTurn x d → IsHandedOut client.session d.command.ticket → IsAmong before d.command.ticket
    is-before i d e lt turn o =
        let less : d.command.ticket.part < c.ticket.part = subst (λ n. d.command.ticket.part < n) (ap (λ (t : Ticket). t.part) stands.3) (rising j i x d at e lt turn.0) in
        let same-slot : o.0 ≡ slot_of c.part.key = slot-of-it (old.parts i d e (turn.0 ∙ of-client)) ∙ turn.1 ∙ ap (λ (u : CommandModel). slot_of u.part.key) is-it in
        let blocked : blocks (slot_of c.part.key) (Out o.0) ≡ true = ap (λ n. nat_eq n (slot_of c.part.key)) same-slot ∙ same_number (slot_of c.part.key) in
        among-of client.session before d.command.ticket (o.3, o.4) theirs (stands-behind.others d.command.ticket.part (o.1, Out o.0, o.2, blocked) less)
      where
        slot-of-it : KeptShadow downs client d ⊎ IsLetGo client d.command.ticket → o.0 ≡ slot_for d.command.part
        slot-of-it h = ⊎_elim
            (λ (y : KeptShadow downs client d). ⊎_elim
            (λ (z : (d.command.ticket.part < client.session.first) × (d.answered ≡ true) × ((ended : Ended) × (d.command.stage ≡ Over ended))). absurd (omega (arith, z.0, o.1)))
            (λ (z : (client.session.first ≤ d.command.ticket.part) × (d.answered ≡ false) × ((stage : PartStage) × (end : Ended)
            × (slice_get client.session.stages (d.command.ticket.part - client.session.first) ≡ Some stage)
            × (slice_get client.session.ends (d.command.ticket.part - client.session.first) ≡ Some end)
            × StageShadow downs client.gone client.commands stage end d)).
            let is-out : z.2.0 ≡ Out o.0 = one-item client.session.stages (d.command.ticket.part - client.session.first) z.2.0 (Out o.0) z.2.2 o.2 in
            (subst (λ (s : PartStage). StageShadow downs client.gone client.commands s z.2.1 d) is-out z.2.4).0)
            y)
            (λ (y : IsLetGo client d.command.ticket). absurd (y.1 o))
            h

    pub earlier : All (λ (d : Arrival). SameTurn x d → HasEnded d ⊎ IsAmong before d.command.ticket) (take j arrivals)
    earlier = all-before (λ (d : Arrival). SameTurn x d → HasEnded d ⊎ IsAmong before d.command.ticket) arrivals j (λ i d lt e turn. ⊎_elim
        (λ (y : HasEnded d). inl y)
        (λ (y : IsHandedOut client.session d.command.ticket). inr (is-before i d e lt turn y))
        ((old.stands c.ticket out).1 j i x d at e lt stands.3 turn))

    pub goes-its-way : MayGo way node x
    goes-its-way = (
      of-client ∙ sym ours,
      ap (λ (u : CommandModel). slot_of u.part.key) is-it ∙ slot,
      subst (λ (u : CommandModel). MayPostTo u.stage node) (sym is-it) may,
      ap (λ (u : CommandModel). asks_at u.stage) is-it ∙ asking,
    )

    pub is-of : IsOf c.ticket arrivals j x
    is-of = place.1

    pub shadow-next : ClientShadow downs k number next arrivals2
    shadow-next = posted-shadow downs k number client arrivals old own awaits c later takes was-posted out node may j x at stands.3

    pub own-next : AreOwn arrivals2
    own-next = own-set arrivals j x (awaiting x) own at refl

    pub rising-next : Rising arrivals2
    rising-next = rising-set arrivals j x (awaiting x) at further rising

    pub others-next : (n m : ℕ) (d : ClientModel C) → n ≢ number → ClientShadow downs m n d arrivals → ClientShadow downs m n d arrivals2
    others-next n m d ne sh = others-set downs m n d arrivals j x (awaiting x) at further (λ e. ne (e ∙ of-client)) sh

    pub counts-next : (n : ℕ) → count_by (λ (d : Arrival). d.command.ticket.client == n) arrivals2 ≡ count_by (λ (d : Arrival). d.command.ticket.client == n) arrivals
    counts-next n = count-set (λ (d : Arrival). d.command.ticket.client == n) arrivals j x (awaiting x) at refl

    pub parts-next : SameParts arrivals arrivals2
    parts-next = parts-set arrivals j x (awaiting x) at refl refl refl

    pub keeps-next : (part : ℕ) (d : CommandModel) → get client.commands.posted part ≡ Some d → d.stage ≡ Awaits → get next.commands.posted part ≡ Some d
    keeps-next part d e still = ⊎_elim
        (λ (z : ((part == c.ticket.part) ≡ true) × (part ≡ c.ticket.part)).
        let one : d ≡ c = only downs k number client arrivals old awaits c has was-posted out node may d (inr (ap (get client.commands.posted) (sym z.1) ∙ e)) in
        absurd (goes-no-await c.stage node may (ap (λ (u : CommandModel). u.stage) (sym one) ∙ still)))
        (λ (z : ((part == c.ticket.part) ≡ false) × (part ≢ c.ticket.part)). at-other downs k number client arrivals old own awaits c later takes was-posted out node may part z.1 ∙ e)
        (eqb_tells part c.ticket.part)

    pub awaited-next : Awaited next
    awaited-next t i told e m = let a = awaits t i told e m in (a.0, keeps-next t.part a.0 a.1 a.2, a.2)

    pub waits-next : (i : ℕ) (a : Arrival) → slice_get arrivals2 i ≡ Some a → a.command.stage ≡ Awaits
        → ((n : ℕ) × (d : Arrival) × (slice_get arrivals n ≡ Some d) × (d.command ≡ a.command))
        ⊎ ((a.command.ticket.client ≡ number) × (get next.commands.posted a.command.ticket.part ≡ Some a.command))
    waits-next i a e still = ⊎_elim
        (λ (z : (i ≡ j) × (a ≡ awaiting x)). inr (subst (λ (u : Arrival). (u.command.ticket.client ≡ number) × (get next.commands.posted u.command.ticket.part ≡ Some u.command)) (sym z.1) (
          of-client,
          ap (get next.commands.posted) (ap (λ (t : Ticket). t.part) stands.3) ∙ at-it ∙ (λ n. Some (record (sym is-it n) { stage = Awaits })),
        )))
        (λ (z : (i ≢ j) × (slice_get arrivals i ≡ Some a)). inl (i, a, z.1, refl))
        (at-set arrivals j (awaiting x) i a e)
      where
        at-it : get next.commands.posted c.ticket.part ≡ Some (record c { stage = Awaits })
        at-it = at-own downs k number client arrivals old own awaits c later takes was-posted out node may

    pub stays-next : (part : ℕ) (d : CommandModel) → get client.commands.posted part ≡ Some d → (d' : CommandModel) × (get next.commands.posted part ≡ Some d') × (d'.ticket ≡ d.ticket)
    stays-next part d e = ⊎_elim
        (λ (z : ((part == c.ticket.part) ≡ true) × (part ≡ c.ticket.part)).
        let one : d ≡ c = only downs k number client arrivals old awaits c has was-posted out node may d (inr (ap (get client.commands.posted) (sym z.1) ∙ e)) in
        (record c { stage = Awaits }, ap (get next.commands.posted) z.1 ∙ at-own downs k number client arrivals old own awaits c later takes was-posted out node may, ap (λ (u : CommandModel). u.ticket) (sym one)))
        (λ (z : ((part == c.ticket.part) ≡ false) × (part ≢ c.ticket.part)). (d, at-other downs k number client arrivals old own awaits c later takes was-posted out node may part z.1 ∙ e, refl))
        (eqb_tells part c.ticket.part)

    pub asks-next : AsksBefore arrivals arrivals2
    asks-next i a n e wants = ⊎_elim
        (λ (z : (i ≡ j) × (a ≡ awaiting x)). absurd (awaits-asks n (ap (λ (u : Arrival). u.command.stage) (sym z.1) ∙ wants)))
        (λ (z : (i ≢ j) × (slice_get arrivals i ≡ Some a)). (i, a, z.1, refl))
        (at-set arrivals j (awaiting x) i a e)

    pub under-next : HasPart arrivals2 c.ticket c.part × (c.ticket.worker ≡ k)
    under-next = (
      (j, awaiting x, set-same arrivals j x (awaiting x) at, ap (λ (u : CommandModel). u.part) is-it, stands.3),
      out.3 ∙ old.housed,
    )

    -- and then those behind it
    pub then-posts : (client' : ClientModel C) (new : List Arrival) (cs : List CommandModel) → PostsAll next client' arrivals2 new (before ++ c.ticket ∷ []) cs → PostsAll client client' arrivals new before (c ∷ cs)
    then-posts client' new cs rest = record {
      shadow = rest.shadow;
      own = rest.own;
      others = λ n m d ne sh. rest.others n m d ne (others-next n m d ne sh);
      counts = λ n. rest.counts n ∙ counts-next n;
      parts = record { parts = λ t p e. rest.parts.parts t p (parts-next.parts t p e); seen = rest.parts.seen ∙ parts-next.seen };
      keeps = λ part d e still. rest.keeps part d (keeps-next part d e still) still;
      waits = λ i a e still. ⊎_elim
          (λ (z : (n : ℕ) × (d : Arrival) × (slice_get arrivals2 n ≡ Some d) × (d.command ≡ a.command)). ⊎_elim
          (λ (u : (n : ℕ) × (d : Arrival) × (slice_get arrivals n ≡ Some d) × (d.command ≡ (z.1).command)). inl (u.0, u.1, u.2, u.3 ∙ z.3))
          (λ (u : ((z.1).command.ticket.client ≡ number) × (get next.commands.posted (z.1).command.ticket.part ≡ Some (z.1).command)).
          let there : get next.commands.posted a.command.ticket.part ≡ Some a.command = subst (λ (y : CommandModel). get next.commands.posted y.ticket.part ≡ Some y) z.3 u.1 in
          inr (ap (λ (y : CommandModel). y.ticket.client) (sym z.3) ∙ u.0, rest.keeps a.command.ticket.part a.command there still))
          (waits-next z.0 z.1 z.2 (ap (λ (y : CommandModel). y.stage) z.3 ∙ still)))
          (λ z. inr z)
          (rest.waits i a e still);
      stays = λ part d e. let one = stays-next part d e in let two = rest.stays part one.0 one.1 in (two.0, two.1, two.2 ∙ one.2);
      asks_still = λ i a n e wants.
          let z = rest.asks_still i a n e wants in
          let u = asks-next z.0 z.1 n z.2 (ap (λ (y : CommandModel). y.stage) z.3 ∙ wants) in
          (u.0, u.1, u.2, u.3 ∙ z.3);
      goes = (j, x, is-of, goes-its-way, earlier, rest.goes);
      under = All-cons (λ (d : CommandModel). HasPart new d.ticket d.part × (d.ticket.worker ≡ k)) c cs (rest.parts.parts c.ticket c.part under-next.0, under-next.1) rest.under;
    }

  -- none are posted
  pub posts-none : (client : ClientModel C) (arrivals : List Arrival) (before : List Ticket) → ClientShadow downs k number client arrivals → AreOwn arrivals → PostsAll client client arrivals arrivals before []
  posts-none client arrivals before old own = record {
    shadow = old;
    own = own;
    others = λ n m d ne sh. sh;
    counts = λ n. refl;
    parts = record { parts = λ t p e. e; seen = refl };
    keeps = λ part d e still. e;
    waits = λ i a e still. inl (i, a, e, refl);
    stays = λ part d e. (d, e, refl);
    asks_still = λ i a n e wants. (i, a, e, refl);
    goes = refl;
    under = All-nil (λ (d : CommandModel). HasPart arrivals d.ticket d.part × (d.ticket.worker ≡ k));
  }

  -- ---- all that were not posted yet

  abbrev pub after-posts : ClientModel C → List CommandModel → ClientModel C
  after-posts client cs = record client { commands = record { fresh = []; posted = with_posted client.commands.posted cs } }

  pub posts-fresh : (cs : List CommandModel) (client : ClientModel C) (arrivals : List Arrival) → ClientShadow downs k number client arrivals → AreOwn arrivals → Awaited client → Rising arrivals
      → client.commands.fresh ≡ cs → client.gone ≡ false → All IsFresh cs
      → (before : List Ticket) → All (IsOfSession client.session) before → GoBehind client.session way.slot (numbers_of before) cs
      → way.client ≡ number → way.asking ≡ false
      → (new : List Arrival) × PostsAll client (after-posts client cs) arrivals new before cs
  posts-fresh [] client arrivals old own awaits rising has here fresh before theirs go ours plain =
      let same : after-posts client [] ≡ client = λ i. record client { commands = record { fresh = sym has i; posted = client.commands.posted } } in
      (arrivals, subst (λ (c : ClientModel C). PostsAll client c arrivals arrivals before []) (sym same) (posts-none client arrivals before old own))
  posts-fresh (c ∷ cs) client arrivals old own awaits rising has here fresh before theirs go ours plain =
      let first : IsFresh c = fresh 0 c (omega arith) in
      let stands-behind : IsOutBehind client.session (slot_of c.part.key) (numbers_of before) c.ticket = subst (λ n. IsOutBehind client.session n (numbers_of before) c.ticket) (sym go.0) go.1 in
      let gone : client.gone ≡ true → get client.commands.posted c.ticket.part ≡ Some c = λ g. absurd (false≢true (sym here ∙ g)) in
      let may : MayPostTo c.stage node = wants-post node c first in
      let asks : asks_at c.stage ≡ way.asking = asks-not c first ∙ sym plain in
      let client1 : ClientModel C = next client arrivals old own awaits rising c cs (inl has) gone before theirs stands-behind may ours go.0 asks in
      let rest = posts-fresh cs client1 (arrivals2 client arrivals old own awaits rising c cs (inl has) gone before theirs stands-behind may ours go.0 asks)
      (shadow-next client arrivals old own awaits rising c cs (inl has) gone before theirs stands-behind may ours go.0 asks)
      (own-next client arrivals old own awaits rising c cs (inl has) gone before theirs stands-behind may ours go.0 asks)
      (awaited-next client arrivals old own awaits rising c cs (inl has) gone before theirs stands-behind may ours go.0 asks)
      (rising-next client arrivals old own awaits rising c cs (inl has) gone before theirs stands-behind may ours go.0 asks)
      refl here (λ n d lt. fresh (suc n) d (omega (arith, lt)))
      (before ++ c.ticket ∷ [])
      (All-append (IsOfSession client.session) before (c.ticket ∷ []) theirs (All-cons (IsOfSession client.session) c.ticket [] (go.1).owner (All-nil (IsOfSession client.session))))
      (subst (λ ns. GoBehind client.session way.slot ns cs) (sym (with-more before c)) go.2) ours plain in
      (rest.0, then-posts client arrivals old own awaits rising c cs (inl has) gone before theirs stands-behind may ours go.0 asks (after-posts client1 cs) rest.0 cs rest.1)
