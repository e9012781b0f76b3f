-- A client's life, event by event: while it is there its session lives by calls, and what these drained went out or waits to be pushed.
use Rattle.std.proofs.Common.{◌≡◌, ◌⊎◌, inl, inr, ◌++◌, ◌∷◌, [], List, ℕ, refl, ap, sym, subst, ◌∙◌, Some, None, Result, Ok, Bool, true, false, append_assoc, length, arith}
use Rattle.std.specs.Prelude.{nat_le, if◌then◌else◌}
use Rattle.std.specs.FinMap.{empty, get, remove, get-empty}
use Rattle.std.specs.Ordering.{nat_cmp}
use Rattle.std.proofs.lemmas.Bool.{false≢true}
use Rattle.std.proofs.lemmas.List.{append-nil}
use Rattle.std.proofs.lemmas.List.Elements.{All-nil}
use Rattle.resp_wire.specs.Laws.{FrontIsFaulty, FrontIsWhole}
use Rattle.resp_wire.specs.LimitsModel.{full}
use Rattle.key_split.specs.PartModel.{PartModel}
use Rattle.key_split.specs.declared.travel.Ticket.{Ticket}
use Rattle.key_split.specs.declared.travel.Told.{Told}
use Rattle.key_split.specs.declared.travel.Ended.{Ended}
use Rattle.command_future.specs.CommandModel.{progress_told}
use Rattle.session_order.specs.SessionModel.{SessionModel}
use Rattle.session_order.specs.Turn.{waits_for}
use Rattle.session_order.specs.declared.closing.Broken.{Broken}
use Rattle.session_order.specs.declared.closing.Closing.{Closing}
use Rattle.session_order.specs.declared.closing.Closing.TheVariants.{Open, Quit, Faulted}
use Rattle.session_order.specs.Replies.{said, DrainOutcome}
use Rattle.session_order.specs.declared.fault.SessionFault.{SessionFault}
use Rattle.session_order.specs.Steps.{FaultedBy, EndOutcome, FeedOutcome, FollowerOutcome, IsOutInOrder, ReadOutcome, ReadyOutcome}
use Rattle.session_order.specs.Life.{DrainsOutput, fresh as new_session, Fed as FedIn, Read as ReadIn, Handed as HandedIn, Followed as FollowedIn, Told as ToldIn, Drained as DrainedIn}
use Rattle.session_order.proofs.Keeping.{drain_keeps, feed_keeps, follower_keeps, follower_out, out_in_order, read_keeps, ready_keeps, ready_out, waits_eases}
use Rattle.proxy_turns.specs.Port.{Moves}
use Rattle.proxy_turns.specs.Commands.{HasEnd, Hears, with_fresh}
use Rattle.proxy_turns.specs.ClientModel.{ClientModel, IsClientServed, new_client}
use Rattle.proxy_turns.specs.ClientTurn.{ClientContext, ClientEvent, Pulled, Fed, Read, HandedOut, Followed, Looked, CameBack, Posted, Drained, Pushed, Tried, Parted, Dropped, ClientDoes, Finishes, left_of, most_drained}
use Rattle.turn_laws.specs.ClientSees.{pulled_by, pushed_by}
use Rattle.turn_laws.proofs.OutputFronts.{IsFront, IsWhole, written-on}
use Rattle.turn_laws.proofs.RequestsRead.{AreCounted, HasRead, fed, kept, open-faulted, pulled, reads}
use Rattle.turn_laws.proofs.SessionLives.{Lived, one-call, front-written, whole-written}
use Rattle.turn_laws.proofs.Ending.{none-some}
use Rattle.turn_laws.proofs.CommandsOut.{AreOut, ended-out, not-posted, out-begun, out-ended, out-kept, out-put, out-run}

-- ---- one client

-- it is there, and its session lives,
abbrev pub IsThere : {C : Type 0} → List ℕ → List (Ticket × Ended) → List ℕ → ClientModel C → Type 0
IsThere came ends went client = (client.gone ≡ false) × Lived came ends went client.session client.unfed client.unpushed × AreOut client.session client.commands

-- or it is gone, and nothing more goes out
abbrev pub IsGone : {C : Type 0} → List ℕ → List (Ticket × Ended) → List ℕ → ClientModel C → Type 0
IsGone came ends went client = (client.gone ≡ true) × (client.unpushed ≡ []) × IsFront came ends went

-- one of these
abbrev pub LivesOn : {C : Type 0} → List ℕ → List (Ticket × Ended) → List ℕ → ClientModel C → Type 0
LivesOn came ends went client = IsThere came ends went client ⊎ IsGone came ends went client

-- it is written a front of its output,
pub lives-written : DrainsOutput → {C : Type 0} (came : List ℕ) (ends : List (Ticket × Ended)) (went : List ℕ) (client : ClientModel C) → LivesOn came ends went client → IsFront came ends went
lives-written law came ends went client (inl (here, lived, out)) = front-written law came ends went client.session client.unfed client.unpushed lived
lives-written law came ends went client (inr (gone, none, w)) = w

-- and all of it where it is served and not gone
pub served-written : DrainsOutput → {C : Type 0} (came : List ℕ) (ends : List (Ticket × Ended)) (went : List ℕ) (client : ClientModel C) → client.gone ≡ false → IsClientServed client
    → LivesOn came ends went client → IsWhole came ends went
served-written law came ends went client still (finished, none) (inl (here, lived, out)) = whole-written law came ends went client.session client.unfed client.unpushed finished none lived
served-written law came ends went client still served (inr (gone, none, w)) = absurd (false≢true (sym still ∙ gone))

-- a new client
pub born : {C : Type 0} (worker number : ℕ) (port : C) → LivesOn [] [] [] (new_client worker number full port)
born worker number port = inl (
  refl,
  record {
    worker = worker;
    number = number;
    calls = [];
    lives = refl;
    told = refl;
    drained = refl;
    counted = (refl, refl);
    held = (tt, λ part le. refl);
    met = λ e. absurd (false≢true e);
    closed = tt;
    replied = record { gone = []; line = []; owed = refl; parts = refl; known = λ part low less. absurd (omega (arith, less)); bytes = refl; lined = inl refl };
    read = record { values = []; text = []; rest = []; spelled = refl; read_is = refl; accepted = tt; are = refl; next = λ is. (refl, [], refl, refl); fault = λ why f. absurd (open-faulted why Open refl f) };
  },
  record {
    posted = λ q c there. absurd (none-some (get empty q) c (get-empty nat_cmp q) there);
    fresh = All-nil (λ c. IsOutInOrder (new_session worker number full) c.ticket × (get empty c.ticket.part ≡ None));
  },
)

-- it hears of a command
pub hears : {C : Type 0} (came : List ℕ) (ends : List (Ticket × Ended)) (went : List ℕ) (old new : ClientModel C) (ticket : Ticket) (told : Told) → Hears old.commands ticket told true new.commands
    → new ≡ record old { commands = new.commands } → LivesOn came ends went old → LivesOn came ends went new
hears {C} came ends went old new ticket told (c, (there, named, awaits), is) same (inl (here, lived, out)) =
    subst (λ (x : ClientModel C). LivesOn came ends went x) (sym same) (inl (here, lived, subst (AreOut old.session) (sym is) (out-put old.session old.commands ticket.part c (progress_told c told) there refl out)))
hears {C} came ends went old new ticket told heard same (inr (gone, none, w)) = subst (λ (x : ClientModel C). LivesOn came ends went x) (sym same) (inr (gone, none, w))

-- ---- its events

-- nothing is read by a call
nothing-read : (came : List ℕ) (old new : SessionModel) (unfed : List ℕ) → new.incoming ≡ old.incoming → (new.closing ≡ Open → old.closing ≡ Open)
    → ((why : Broken) → FaultedBy why new.closing → FaultedBy why old.closing) → (read : List (List (List ℕ))) → AreCounted read old
    → HasRead came read old.incoming old.closing unfed → HasRead came (read ++ []) new.incoming new.closing unfed
nothing-read came old new unfed same opens faults read counted h =
    subst (λ all. HasRead came all new.incoming new.closing unfed) (sym (append-nil read)) (kept came read old.incoming new.incoming old.closing new.closing unfed same opens faults h)

stays-closed : (came : List ℕ) (old new : SessionModel) (unfed : List ℕ) → new.incoming ≡ old.incoming → new.closing ≡ old.closing → (read : List (List (List ℕ))) → AreCounted read old
    → HasRead came read old.incoming old.closing unfed → HasRead came (read ++ []) new.incoming new.closing unfed
stays-closed came old new unfed same closing = nothing-read came old new unfed same (λ e. sym closing ∙ e) (λ why f. subst (FaultedBy why) closing f)

pub faulted-said : (b : Bool) (closing : Closing) (why : Broken) → FaultedBy why (if b then said closing else closing) → FaultedBy why closing
faulted-said true Open why f = f
faulted-said true Quit why f = f
faulted-said true (Faulted own line) why (owed, is) = let same : own ≡ why = cc in (line, ap (λ w. Faulted w line) same)
faulted-said false closing why f = f

pub open-said : (b : Bool) (closing : Closing) → (if b then said closing else closing) ≡ Open → closing ≡ Open
open-said true Open is = refl
open-said true Quit is = is
open-said true (Faulted why owed) is = absurd (cc)
open-said false closing is = is

module _ {C : Type 0} (law : DrainsOutput) (whole : FrontIsWhole) (faulty : FrontIsFaulty) (came : List ℕ) (ends : List (Ticket × Ended)) (went : List ℕ) (old : ClientModel C) where
  pulled-there : (port : C) (bytes : List ℕ) → IsThere came ends went old → IsThere (came ++ bytes) ends went (record old { port = port; unfed = old.unfed ++ bytes })
  pulled-there port bytes (here, lived, out) = (
    here,
    record {
      worker = lived.worker;
      number = lived.number;
      calls = lived.calls;
      lives = lived.lives;
      told = lived.told;
      drained = lived.drained;
      counted = lived.counted;
      held = lived.held;
      met = lived.met;
      closed = lived.closed;
      replied = lived.replied;
      read = pulled came _ (old.session).incoming (old.session).closing old.unfed bytes lived.read;
    },
    out,
  )

  fed-there : (result : Result ℕ SessionFault) (session : SessionModel) → FeedOutcome old.session old.unfed result session → IsThere came ends went old
      → IsThere came ends went (record old { session = session; unfed = left_of old.unfed result })
  fed-there result session does (here, lived, out) = (
    here,
    one-call came ends ends went old.session session old.unfed (left_of old.unfed result) old.unpushed old.unpushed (FedIn old.unfed result) lived does (sym (append-nil ends)) (sym (append-nil old.unpushed))
        (λ read counted h. subst (λ all. HasRead came all session.incoming session.closing (left_of old.unfed result)) (sym (append-nil read)) (fed came read old.session old.unfed result session does h)),
    out-kept old.session session old.commands (feed_keeps waits_for old.session old.unfed result session does) out,
  )

  read-there : (result : Result Bool SessionFault) (session : SessionModel) → ReadOutcome old.session result session → IsThere came ends went old → IsThere came ends went (record old { session = session })
  read-there result session does (here, lived, out) =
      let by = law.reads old.session result session does in (
        here,
        one-call came ends ends went old.session session old.unfed old.unfed old.unpushed old.unpushed (ReadIn result by.0) lived by.1 (sym (append-nil ends)) (sym (append-nil old.unpushed))
            (λ read counted h. reads whole faulty came read old.session old.unfed result by.0 session counted by.1 h),
        out-kept old.session session old.commands (read_keeps waits_for old.session result session does) out,
      )

  handed-there : (ticket : Ticket) (part : PartModel) (session : SessionModel) → ReadyOutcome old.session (Some (ticket, part)) session → IsThere came ends went old
      → IsThere came ends went (record old { session = session; commands = with_fresh old.commands ticket part })
  handed-there ticket part session does (here, lived, out) =
      let is = does.3 in (
        here,
        one-call came ends ends went old.session session old.unfed old.unfed old.unpushed old.unpushed (HandedIn (Some (ticket, part))) lived does (sym (append-nil ends)) (sym (append-nil old.unpushed))
            (stays-closed came old.session session old.unfed (ap (λ (held : SessionModel). held.incoming) is) (ap (λ (held : SessionModel). held.closing) is)),
        out-begun old.session session old.commands ticket part (ready_keeps waits_for waits_eases old.session (Some (ticket, part)) session does)
            (out_in_order session ticket (ready_out old.session (Some (ticket, part)) session does).0)
            (not-posted old.session old.commands does.0 ticket.part part does.1.2 (ap (λ (t : Ticket). t.part) does.2) out) out,
      )

  followed-there : (last ticket : Ticket) (part : PartModel) (session : SessionModel) → FollowerOutcome old.session last (Some (ticket, part)) session → IsThere came ends went old
      → IsThere came ends went (record old { session = session; commands = with_fresh old.commands ticket part })
  followed-there last ticket part session does (here, lived, out) =
      let is = does.3 in (
        here,
        one-call came ends ends went old.session session old.unfed old.unfed old.unpushed old.unpushed (FollowedIn last (Some (ticket, part))) lived does (sym (append-nil ends)) (sym (append-nil old.unpushed))
            (stays-closed came old.session session old.unfed (ap (λ (held : SessionModel). held.incoming) is) (ap (λ (held : SessionModel). held.closing) is)),
        out-begun old.session session old.commands ticket part (follower_keeps waits_for waits_eases old.session last (Some (ticket, part)) session does)
            (follower_out old.session last (Some (ticket, part)) session does).0
            (not-posted old.session old.commands does.0 ticket.part part (does.1).waits (ap (λ (t : Ticket). t.part) does.2) out) out,
      )

  drained-there : (n : ℕ) (session : SessionModel) (unpushed : List ℕ) → DrainOutcome most_drained old.session old.unpushed (Ok n) session unpushed → IsThere came ends went old
      → IsThere came ends went (record old { session = session; unpushed = unpushed })
  drained-there n session unpushed (bytes, grown, count, drains) (here, lived, out) =
      let is = drains.left in (
        here,
        one-call came ends ends went old.session session old.unfed old.unfed old.unpushed unpushed (DrainedIn most_drained (Ok n) bytes) lived (bytes, refl, count, drains) (sym (append-nil ends)) grown
            (nothing-read came old.session session old.unfed (ap (λ (held : SessionModel). held.incoming) is)
            (λ e. open-said (nat_le (length (old.session).requests) drains.count) (old.session).closing (sym (ap (λ (held : SessionModel). held.closing) is) ∙ e))
            (λ why f. faulted-said (nat_le (length (old.session).requests) drains.count) (old.session).closing why (subst (FaultedBy why) (ap (λ (held : SessionModel). held.closing) is) f))),
        out-kept old.session session old.commands (drain_keeps waits_for most_drained old.session old.unpushed (Ok n) session unpushed (bytes, grown, count, drains)) out,
      )

  pushed-there : (port : C) (bytes unpushed : List ℕ) → old.unpushed ≡ bytes ++ unpushed → IsThere came ends went old → IsThere came ends (went ++ bytes) (record old { port = port; unpushed = unpushed })
  pushed-there port bytes unpushed split (here, lived, out) = (
    here,
    record {
      worker = lived.worker;
      number = lived.number;
      calls = lived.calls;
      lives = lived.lives;
      told = lived.told;
      drained = lived.drained ∙ ap (λ bs. went ++ bs) split ∙ sym (append_assoc went bytes unpushed);
      counted = lived.counted;
      held = lived.held;
      met = lived.met;
      closed = lived.closed;
      replied = lived.replied;
      read = lived.read;
    },
    out,
  )

  -- a part of it ends
  finished-there : (ticket : Ticket) (end : Ended) (port : C) (session : SessionModel) → HasEnd old.commands ticket.part ticket end → EndOutcome old.session ticket end session → IsThere came ends went old
      → IsThere came (ends ++ (ticket, end) ∷ []) went (record old { port = port; session = session; commands = record (old.commands) { posted = remove (old.commands).posted ticket.part } })
  finished-there ticket end port session has does (here, lived, out) = (
    here,
    one-call came ends (ends ++ (ticket, end) ∷ []) went old.session session old.unfed old.unfed old.unpushed old.unpushed (ToldIn ticket end) lived (ended-out old.session old.commands ticket end has out, does) refl
        (sym (append-nil old.unpushed))
        (stays-closed came old.session session old.unfed (ap (λ (held : SessionModel). held.incoming) does) (ap (λ (held : SessionModel). held.closing) does)),
    out-ended old.session session old.commands ticket end has does out,
  )

true-false : (b : Bool) → b ≡ true → b ≡ false → ⊥
true-false b p q = false≢true (sym q ∙ p)

-- nothing stands before an empty list
pub front-none : (xs ys : List ℕ) → [] ≡ xs ++ ys → (xs ≡ []) × (ys ≡ [])
front-none [] ys e = (refl, sym e)
front-none (x ∷ xs) ys e = absurd (cc)

module _ {C : Type 0} where
  plain : (came : List ℕ) (ends : List (Ticket × Ended)) (went : List ℕ) (client : ClientModel C) → LivesOn came ends went client → LivesOn (came ++ []) ends (went ++ []) client
  plain came ends went client lives =
      subst (λ cs. LivesOn cs ends (went ++ []) client) (sym (append-nil came)) (subst (λ ws. LivesOn came ends ws client) (sym (append-nil went)) lives)

  -- by an event at which nothing comes or goes the client becomes this
  becomes : (came : List ℕ) (ends : List (Ticket × Ended)) (went : List ℕ) (new : ClientContext C) (client : ClientModel C) → new.client ≡ client → LivesOn came ends went client
      → LivesOn (came ++ []) ends (went ++ []) new.client
  becomes came ends went new client is lives = plain came ends went new.client (subst (λ (x : ClientModel C). LivesOn came ends went x) (sym is) lives)

  -- the client of a context
  abbrev client_in : ClientContext C → ClientModel C
  client_in context = context.client

  module _ (moves : Moves C) (law : DrainsOutput) (whole : FrontIsWhole) (faulty : FrontIsFaulty) where
    -- an event of a client that is there
    there-on : (came : List ℕ) (ends : List (Ticket × Ended)) (went : List ℕ) (event : ClientEvent) (old new : ClientContext C) → ClientDoes moves old event new → IsThere came ends went old.client
        → LivesOn (came ++ pulled_by event) ends (went ++ pushed_by event) new.client
    there-on came ends went (Pulled bytes) old new (moved, is) there =
        subst (λ ws. LivesOn (came ++ bytes) ends ws new.client) (sym (append-nil went))
        (subst (λ (x : ClientModel C). LivesOn (came ++ bytes) ends went x) (sym (ap client_in is)) (inl (pulled-there law whole faulty came ends went old.client (new.client).port bytes there)))
    there-on came ends went (Fed result) old new (does, is) there = becomes came ends went new _ (ap client_in is) (inl (fed-there law whole faulty came ends went old.client result _ does there))
    there-on came ends went (Read result) old new (does, is) there = becomes came ends went new _ (ap client_in is) (inl (read-there law whole faulty came ends went old.client result _ does there))
    there-on came ends went (HandedOut ticket part) old new (here, none, does, is) there =
        becomes came ends went new _ (ap client_in is) (inl (handed-there law whole faulty came ends went old.client ticket part _ does there))
    there-on came ends went (Followed ticket part) old new (here, (before, last, those, does), is) there =
        becomes came ends went new _ (ap client_in is) (inl (followed-there law whole faulty came ends went old.client last.ticket ticket part _ does there))
    there-on came ends went (Looked slot) old new (looks, is) there = becomes came ends went new _ (ap client_in is) (inl there)
    there-on came ends went (CameBack run) old new (posts, is) there = becomes came ends went new _ (ap client_in is) (inl there)
    there-on came ends went (Posted run) old new does (here, lived, out) =
        becomes came ends went new _ (ap client_in does.12) (inl (here, lived, out-run (old.client).session (old.client).commands does.0 does.1 does.2 does.3 out))
    there-on came ends went (Drained n) old new (here, does, is) there = becomes came ends went new _ (ap client_in is) (inl (drained-there law whole faulty came ends went old.client n _ _ does there))
    there-on came ends went (Pushed bytes) old new (moved, split, is) there =
        subst (λ cs. LivesOn cs ends (went ++ bytes) new.client) (sym (append-nil came))
        (subst (λ (x : ClientModel C). LivesOn came ends (went ++ bytes) x) (sym (ap client_in is)) (inl (pushed-there law whole faulty came ends went old.client (new.client).port bytes (new.client).unpushed split there)))
    there-on came ends went Tried old new (moved, is) there = becomes came ends went new _ (ap client_in is) (inl there)
    there-on came ends went Parted old new (here, left, hangs, is) there =
        becomes came ends went new _ (ap client_in is) (inr (refl, refl, lives-written law came ends went old.client (inl there)))
    there-on came ends went (Dropped tickets) old new (gone, some, those, is) (here, lived, out) = absurd (true-false (old.client).gone gone here)

    -- an event of a client that is gone
    gone-on : (came : List ℕ) (ends : List (Ticket × Ended)) (went : List ℕ) (event : ClientEvent) (old new : ClientContext C) → ClientDoes moves old event new → IsGone came ends went old.client
        → LivesOn (came ++ pulled_by event) ends (went ++ pushed_by event) new.client
    gone-on came ends went (Pulled bytes) old new (moved, is) (gone, none, w) =
        subst (λ ws. LivesOn (came ++ bytes) ends ws new.client) (sym (append-nil went))
        (subst (λ (x : ClientModel C). LivesOn (came ++ bytes) ends went x) (sym (ap client_in is))
        (inr (gone, none, subst (λ es. IsFront (came ++ bytes) es went) (append-nil ends) (written-on came ends went bytes [] w))))
    gone-on came ends went (Fed result) old new (does, is) (gone, none, w) = becomes came ends went new _ (ap client_in is) (inr (gone, none, w))
    gone-on came ends went (Read result) old new (does, is) (gone, none, w) = becomes came ends went new _ (ap client_in is) (inr (gone, none, w))
    gone-on came ends went (HandedOut ticket part) old new (here, none, does, is) (gone, empty-handed, w) = absurd (true-false (old.client).gone gone here)
    gone-on came ends went (Followed ticket part) old new (here, does, is) (gone, none, w) = absurd (true-false (old.client).gone gone here)
    gone-on came ends went (Looked slot) old new (looks, is) (gone, none, w) = becomes came ends went new _ (ap client_in is) (inr (gone, none, w))
    gone-on came ends went (CameBack run) old new (posts, is) (gone, none, w) = becomes came ends went new _ (ap client_in is) (inr (gone, none, w))
    gone-on came ends went (Posted run) old new does (gone, none, w) = becomes came ends went new _ (ap client_in does.12) (inr (gone, none, w))
    gone-on came ends went (Drained n) old new (here, does, is) (gone, none, w) = absurd (true-false (old.client).gone gone here)
    gone-on came ends went (Pushed bytes) old new (moved, split, is) (gone, none, w) =
        let nothing = front-none bytes (new.client).unpushed (sym none ∙ split) in
        subst (λ cs. LivesOn cs ends (went ++ bytes) new.client) (sym (append-nil came))
        (subst (λ bs. LivesOn came ends (went ++ bs) new.client) (sym nothing.0) (subst (λ ws. LivesOn came ends ws new.client) (sym (append-nil went))
        (subst (λ (x : ClientModel C). LivesOn came ends went x) (sym (ap client_in is)) (inr (gone, nothing.1, w)))))
    gone-on came ends went Tried old new (moved, is) (gone, none, w) = becomes came ends went new _ (ap client_in is) (inr (gone, none, w))
    gone-on came ends went Parted old new (here, left, hangs, is) (gone, none, w) = absurd (true-false (old.client).gone gone here)
    gone-on came ends went (Dropped tickets) old new (still, some, those, is) (gone, none, w) = becomes came ends went new _ (ap client_in is) (inr (gone, none, w))

    pub lives-on : (came : List ℕ) (ends : List (Ticket × Ended)) (went : List ℕ) (event : ClientEvent) (old new : ClientContext C) → ClientDoes moves old event new → LivesOn came ends went old.client
        → LivesOn (came ++ pulled_by event) ends (went ++ pushed_by event) new.client
    lives-on came ends went event old new does (inl there) = there-on came ends went event old new does there
    lives-on came ends went event old new does (inr gone) = gone-on came ends went event old new does gone

    pub finishes : (came : List ℕ) (ends : List (Ticket × Ended)) (went : List ℕ) (old new : ClientModel C) (ticket : Ticket) (end : Ended) → Finishes moves old ticket end new → LivesOn came ends went old
        → LivesOn came (ends ++ (ticket, end) ∷ []) went new
    finishes came ends went old new ticket end (has, noted, does, is) (inl there) =
        subst (λ (x : ClientModel C). LivesOn came (ends ++ (ticket, end) ∷ []) went x) (sym is) (inl (finished-there law whole faulty came ends went old ticket end new.port new.session has does there))
    finishes came ends went old new ticket end (has, noted, does, is) (inr (gone, none, w)) =
        subst (λ (x : ClientModel C). LivesOn came (ends ++ (ticket, end) ∷ []) went x) (sym is)
        (inr (gone, none, subst (λ cs. IsFront cs (ends ++ (ticket, end) ∷ []) went) (append-nil came) (written-on came ends went [] ((ticket, end) ∷ []) w)))
