-- What arrives for a client is what it sent: the requests that its session reads are those that its bytes begin with, and each that is read
-- has its parts arrive.
use Rattle.std.proofs.Common.{◌≡◌, ◌≢◌, ◌⊎◌, inl, inr, ⊎_elim, ◌++◌, ◌∷◌, [], ◌+◌, ◌-◌, ◌^◌, List, ℕ, suc, refl, ap, sym, subst, ◌∙◌, arith, Option, Some, None, Result, Ok, Err, Bool, true, false, cond, length, length-append}
use Rattle.std.specs.Prelude.{if◌then◌else◌, map, nat_eq, nat_le}
use Rattle.std.specs.List.{flat_map, list_any}
use Rattle.std.proofs.lemmas.Bool.{false≢true, or_from, or_parts}
use Rattle.std.proofs.lemmas.Bool.Decides.{eqb_tells}
use Rattle.std.proofs.lemmas.Grind.{flat_map-append}
use Rattle.std.proofs.lemmas.List.{append-nil, length-set}
use Rattle.resp_wire.specs.Laws.{FrontIsFaulty, FrontIsWhole}
use Rattle.resp_wire.specs.LimitsModel.{full}
use Rattle.key_split.specs.PartModel.{PartModel}
use Rattle.key_split.specs.declared.planned.Planned.{Planned}
use Rattle.key_split.specs.declared.planned.Planned.TheVariants as planned
use Rattle.key_split.specs.declared.planned.PlanFault.{PlanFault}
use Rattle.key_split.specs.declared.travel.Ticket.{Ticket}
use Rattle.key_split.specs.declared.travel.Ended.{Ended}
use Rattle.session_order.specs.Output.{until_quit}
use Rattle.session_order.specs.SessionModel.{SessionModel}
use Rattle.session_order.specs.HangingUp.{HangsUp}
use Rattle.session_order.specs.Life.{DrainsOutput, Reads, SessionCall, SessionDoes, fresh as new_session, read_by, Fed as FedIn, Read as ReadIn, Handed as HandedIn, Followed as FollowedIn, Drained as DrainedIn}
use Rattle.session_order.specs.PendingReply.{ends_session, owed_by, owed_for, plan_for}
use Rattle.session_order.specs.Replies.{DrainOutcome, parts_of}
use Rattle.session_order.specs.Steps.{EndOutcome, FaultedBy, FeedOutcome, FollowerOutcome, ReadOutcome, ReadyOutcome, added, with_incoming, with_owed}
use Rattle.session_order.specs.declared.closing.Closing.TheVariants.{Open, Quit}
use Rattle.session_order.specs.declared.fault.SessionFault.{SessionFault}
use Rattle.session_order.specs.declared.fault.SessionFault.TheVariants as session_fault
use Rattle.session_order.specs.declared.fault.SessionFault.TheVariants.{Wire, NotRequest}
use Rattle.session_order.specs.declared.queue.PartStage.{PartStage}
use Rattle.session_order.specs.declared.queue.PartStage.TheVariants.{Waiting, Out, Done}
use Rattle.session_order.specs.declared.replies.PendingReply.{PendingReply}
use Rattle.session_order.specs.declared.replies.PendingReply.TheVariants.{Parts}
use Rattle.session_order.proofs.Told.{split_ok}
use Rattle.proxy_turns.specs.ClientTurn.{left_of, most_drained}
use Rattle.turn_laws.specs.Wire.{Execution}
use Rattle.turn_laws.specs.Steps.{answers, arrivals, log_of, ticket_at}
use Rattle.turn_laws.specs.ClientSees.{if_own}
use Rattle.turn_laws.specs.Arrivals.{AreSent, arrivals_for, parts_for, parts_in, ticketed}
use Rattle.turn_laws.proofs.ClientSees.{own, not-own}
use Rattle.turn_laws.proofs.ClientLives.{faulted-said, open-said}
use Rattle.turn_laws.proofs.RequestsRead.{AreCounted, HasRead, fed, kept, open-faulted, pulled, quit-faulted, reads}
use Rattle.turn_laws.proofs.SessionKeeps.{keeps}

-- ---- parts and their numbers

ticketed-more : (k number next : ℕ) (parts more : List PartModel) → ticketed k number next (parts ++ more) ≡ ticketed k number next parts ++ ticketed k number (next + length parts) more
ticketed-more k number next [] more = ap (λ n. ticketed k number n more) (omega arith)
ticketed-more k number next (part ∷ parts) more =
    ap (λ all. (record { worker = k; client = number; part = next }, part) ∷ all) (ticketed-more k number (suc next) parts more ∙ ap (λ n. ticketed k number (suc next) parts ++ ticketed k number n more) (omega arith))

-- as many parts as are owed
plan-counts : (plan : Result Planned PlanFault) (parts : List PartModel) (owed : List PendingReply) → length parts ≡ parts_of owed → length (parts_in plan ++ parts) ≡ parts_of (owed_by plan ∷ owed)
plan-counts (Err fault) parts owed same = same
plan-counts (Ok (planned.Local value)) parts owed same = same
plan-counts (Ok planned.Close) parts owed same = same
plan-counts (Ok (planned.Parts how own)) parts owed same = length-append own parts ∙ ap (λ n. length own + n) same

parts-count : (read : List (List (List ℕ))) → length (flat_map parts_for read) ≡ parts_of (map owed_for read)
parts-count [] = refl
parts-count (words ∷ read) = plan-counts (plan_for words) (flat_map parts_for read) (map owed_for read) (parts-count read)

-- ---- what a log shows of a client

if-none : {X : Type 0} (b : Bool) → ◌≡◌ {A = List X} (if b then [] else []) []
if-none true = refl
if-none false = refl

-- it is of another client, or of another worker's
abbrev pub IsAnothers : ℕ → ℕ → SessionModel → Type 0
IsAnothers k number held = (nat_eq held.worker k ≡ false) ⊎ (nat_eq held.client number ≡ false)

hidden : {X : Type 0} (k number : ℕ) (held : SessionModel) (xs : List X) → IsAnothers k number held → if_own k held.worker (if_own number held.client xs) ≡ []
hidden k number held xs (inl worker) = not-own k held.worker (if_own number held.client xs) worker
hidden k number held xs (inr client) = ap (if_own k held.worker) (not-own number held.client xs client) ∙ if-none (nat_eq held.worker k)

pub arrivals-hidden : (k number : ℕ) (held : SessionModel) (next : ℕ) (stages : List PartStage) → IsAnothers k number held → flat_map (arrivals_for k number) (arrivals held next stages) ≡ []
arrivals-hidden k number held next [] other = refl
arrivals-hidden k number held next (Waiting part ∷ stages) other =
    (λ i. hidden k number held ((ticket_at held next, part) ∷ []) other i ++ flat_map (arrivals_for k number) (arrivals held (suc next) stages)) ∙ arrivals-hidden k number held (suc next) stages other
arrivals-hidden k number held next (Out slot ∷ stages) other = arrivals-hidden k number held (suc next) stages other
arrivals-hidden k number held next (Done ∷ stages) other = arrivals-hidden k number held (suc next) stages other

pub answers-hidden : (k number : ℕ) (held : SessionModel) (next : ℕ) (ends : List Ended) → flat_map (arrivals_for k number) (answers held next ends) ≡ []
answers-hidden k number held next [] = refl
answers-hidden k number held next (end ∷ ends) = answers-hidden k number held (suc next) ends

pub executed-hidden : (k number : ℕ) (done : List Execution) → flat_map (arrivals_for k number) (log_of done) ≡ []
executed-hidden k number [] = refl
executed-hidden k number (one ∷ done) = refl

-- it is of this client
abbrev pub IsIts : ℕ → ℕ → SessionModel → Type 0
IsIts k number held = (held.worker ≡ k) × (held.client ≡ number)

itself : (n : ℕ) → nat_eq n n ≡ true
itself n = ⊎_elim (λ (z : (nat_eq n n ≡ true) × (n ≡ n)). z.0) (λ (z : (nat_eq n n ≡ false) × (n ≢ n)). absurd (z.1 refl)) (eqb_tells n n)

pub arrivals-shown : (k number : ℕ) (held : SessionModel) (next : ℕ) (parts : List PartModel) → IsIts k number held
    → flat_map (arrivals_for k number) (arrivals held next (map Waiting parts)) ≡ ticketed k number next parts
arrivals-shown k number held next [] its = refl
arrivals-shown k number held next (part ∷ parts) (worker, client) =
    let ours : if_own k held.worker (if_own number held.client ((ticket_at held next, part) ∷ [])) ≡ (ticket_at held next, part) ∷ [] =
    own k held.worker (if_own number held.client ((ticket_at held next, part) ∷ [])) (ap (λ w. nat_eq w k) worker ∙ itself k)
    ∙ own number held.client ((ticket_at held next, part) ∷ []) (ap (λ c. nat_eq c number) client ∙ itself number) in
    (λ i. ours i ++ arrivals-shown k number held (suc next) parts (worker, client) i)
    ∙ (λ i. (record { worker = worker i; client = client i; part = next }, part) ∷ ticketed k number (suc next) parts)

-- ---- a request is read

-- the parts of a plan stand behind the others
plan-stages : (old : SessionModel) (plan : Result Planned PlanFault) (new : SessionModel) → added old plan ≡ Ok new → new.stages ≡ old.stages ++ map Waiting (parts_in plan)
plan-stages old (Err fault) new is = ap (λ (s : SessionModel). s.stages) (split_ok true (with_owed old (Err fault)) new is) ∙ sym (append-nil old.stages)
plan-stages old (Ok (planned.Local value)) new is = ap (λ (s : SessionModel). s.stages) (split_ok true (with_owed old (Ok (planned.Local value))) new is) ∙ sym (append-nil old.stages)
plan-stages old (Ok planned.Close) new is = ap (λ (s : SessionModel). s.stages) (split_ok true (record (with_owed old (Ok planned.Close)) { closing = Quit }) new is) ∙ sym (append-nil old.stages)
plan-stages old (Ok (planned.Parts how parts)) new is = ap (λ (s : SessionModel). s.stages) (split_ok (nat_le (old.first + length old.stages + length parts) (2 ^ 48)) _ new is)

same-stages : (old new : SessionModel) → new.stages ≡ old.stages → new.stages ≡ old.stages ++ []
same-stages old new same = same ∙ sym (append-nil old.stages)

read-stages : (old : SessionModel) (result : Result Bool SessionFault) (words : Option (List (List ℕ))) (new : SessionModel) → Reads old result words new
    → new.stages ≡ old.stages ++ map Waiting (flat_map parts_for (read_by (ReadIn result words)))
read-stages old (Ok true) (Some words) new (may, rest, (next, is)) =
    plan-stages (with_incoming old rest) (plan_for words) new is ∙ ap (λ parts. old.stages ++ map Waiting parts) (sym (append-nil (parts_for words)))
read-stages old (Ok true) None new (may, takes, is) = same-stages old new (ap (λ (s : SessionModel). s.stages) is)
read-stages old (Ok false) None new (is, why) = same-stages old new (ap (λ (s : SessionModel). s.stages) is)
read-stages old (Ok false) (Some words) new does = absurd does
read-stages old (Err session_fault.NoMemory) None new (may, keeps, is) = same-stages old new (ap (λ (s : SessionModel). s.stages) is)
read-stages old (Err (Wire fault)) None new (inl (was, is)) = same-stages old new (ap (λ (s : SessionModel). s.stages) is)
read-stages old (Err (Wire fault)) None new (inr (may, garbled, is)) = same-stages old new (ap (λ (s : SessionModel). s.stages) is)
read-stages old (Err NotRequest) None new (inl (was, is)) = same-stages old new (ap (λ (s : SessionModel). s.stages) is)
read-stages old (Err NotRequest) None new (inr (inl (may, takes, is))) = same-stages old new (ap (λ (s : SessionModel). s.stages) is)
read-stages old (Err NotRequest) None new (inr (inr (may, words, rest, refused, is))) = same-stages old new (ap (λ (s : SessionModel). s.stages) is)
read-stages old (Err session_fault.NoMemory) (Some words) new does = absurd does
read-stages old (Err (Wire fault)) (Some words) new does = absurd does
read-stages old (Err NotRequest) (Some words) new does = absurd does

-- a session that is not open reads nothing
abbrev IsIdle : SessionModel → Option (List (List ℕ)) → SessionModel → Type 0
IsIdle old words new = (words ≡ None) × (new ≡ old)

open-or-idle : (old : SessionModel) (result : Result Bool SessionFault) (words : Option (List (List ℕ))) (new : SessionModel) → Reads old result words new → (old.closing ≡ Open) ⊎ IsIdle old words new
open-or-idle old (Ok true) (Some words) new (may, rest, is) = inl may.0
open-or-idle old (Ok true) None new (may, takes, is) = inl may.0
open-or-idle old (Ok false) None new (is, why) = inr (refl, is)
open-or-idle old (Ok false) (Some words) new does = absurd does
open-or-idle old (Err session_fault.NoMemory) None new (may, keeps, is) = inl may.0
open-or-idle old (Err (Wire fault)) None new (inl (was, is)) = inr (refl, is)
open-or-idle old (Err (Wire fault)) None new (inr (may, garbled, is)) = inl may.0
open-or-idle old (Err NotRequest) None new (inl (was, is)) = inr (refl, is)
open-or-idle old (Err NotRequest) None new (inr (inl (may, takes, is))) = inl may.0
open-or-idle old (Err NotRequest) None new (inr (inr (may, words, rest, refused, is))) = inl may.0
open-or-idle old (Err session_fault.NoMemory) (Some words) new does = absurd does
open-or-idle old (Err (Wire fault)) (Some words) new does = absurd does
open-or-idle old (Err NotRequest) (Some words) new does = absurd does

-- ---- none is read behind one that ends the session

abbrev ends : List (List ℕ) → Bool
ends words = ends_session (plan_for words)

-- what was read before: none of it ends a session that is open
abbrev EndsLast : List (List (List ℕ)) → SessionModel → Type 0
EndsLast read held = (until_quit read ≡ read) × (held.closing ≡ Open → list_any ends read ≡ false)

one-first : (b : Bool) (w : List (List ℕ)) (ws rest : List (List (List ℕ))) → b ≡ false → rest ≡ ws → w ∷ cond {A = List (List (List ℕ))} b [] rest ≡ w ∷ ws
one-first true w ws rest is same = absurd (false≢true (sym is))
one-first false w ws rest is same = ap (λ xs. w ∷ xs) same

one-alone : (b : Bool) (w : List (List ℕ)) → w ∷ cond {A = List (List (List ℕ))} b [] [] ≡ w ∷ []
one-alone true w = refl
one-alone false w = refl

until-push : (read : List (List (List ℕ))) (words : List (List ℕ)) → list_any ends read ≡ false → until_quit (read ++ words ∷ []) ≡ read ++ words ∷ []
until-push [] words none = one-alone (ends words) words
until-push (w ∷ ws) words none =
    let both = or_parts (ends w) (list_any ends ws) none in
    one-first (ends w) w (ws ++ words ∷ []) (until_quit (ws ++ words ∷ [])) both.0 (until-push ws words both.1)

none-push : (read : List (List (List ℕ))) (words : List (List ℕ)) → list_any ends read ≡ false → ends words ≡ false → list_any ends (read ++ words ∷ []) ≡ false
none-push [] words none last = or_from (ends words) false last refl
none-push (w ∷ ws) words none last =
    let both = or_parts (ends w) (list_any ends ws) none in
    or_from (ends w) (list_any ends (ws ++ words ∷ [])) both.0 (none-push ws words both.1 last)

quit-open : Quit ≡ Open → ⊥
quit-open e = absurd (cc)

plan-open : (old : SessionModel) (plan : Result Planned PlanFault) (new : SessionModel) → added old plan ≡ Ok new → new.closing ≡ Open → ends_session plan ≡ false
plan-open old (Err fault) new is opened = refl
plan-open old (Ok (planned.Local value)) new is opened = refl
plan-open old (Ok (planned.Parts how parts)) new is opened = refl
plan-open old (Ok planned.Close) new is opened =
    absurd (quit-open (sym (ap (λ (s : SessionModel). s.closing) (split_ok true (record (with_owed old (Ok planned.Close)) { closing = Quit }) new is)) ∙ opened))

same-last : (read : List (List (List ℕ))) (old new : SessionModel) → (new.closing ≡ Open → old.closing ≡ Open) → EndsLast read old → EndsLast (read ++ []) new
same-last read old new back (last, none) = subst (λ rs. EndsLast rs new) (sym (append-nil read)) (last, λ opened. none (back opened))

read-last : (read : List (List (List ℕ))) (old : SessionModel) (result : Result Bool SessionFault) (words : Option (List (List ℕ))) (new : SessionModel) → old.closing ≡ Open → Reads old result words new → EndsLast read old
    → EndsLast (read ++ read_by (ReadIn result words)) new
read-last read old (Ok true) (Some words) new opened (may, rest, (next, is)) (last, none) =
    (until-push read words (none opened), λ still. none-push read words (none opened) (plan-open (with_incoming old rest) (plan_for words) new is still))
read-last read old (Ok true) None new opened does before = same-last read old new (λ still. opened) before
read-last read old (Ok false) None new opened does before = same-last read old new (λ still. opened) before
read-last read old (Ok false) (Some words) new opened does before = absurd does
read-last read old (Err fault) None new opened does before = same-last read old new (λ still. opened) before
read-last read old (Err fault) (Some words) new opened does before = absurd does

-- ---- a session that has read

-- These requests were read of these bytes, and their parts arrived.
pub record Reading (k number : ℕ) (came : List ℕ) (arrived : List (Ticket × PartModel)) (session : SessionModel) (unfed : List ℕ) : Type 0 where
  pub read : List (List (List ℕ))
  pub has : HasRead came read session.incoming session.closing unfed
  pub counted : session.closing ≡ Open → AreCounted read session
  pub last : EndsLast read session
  pub seen : arrived ≡ ticketed k number 0 (flat_map parts_for read)

pub are-sent : (k number : ℕ) (came : List ℕ) (arrived : List (Ticket × PartModel)) (session : SessionModel) (unfed : List ℕ) → Reading k number came arrived session unfed → AreSent k number came arrived
are-sent k number came arrived session unfed r = record {
  values = (r.has).values;
  text = (r.has).text;
  rest = (r.has).rest;
  are = (r.has).are;
  spelled = (r.has).spelled;
  accepted = (r.has).accepted;
  until = subst (λ rs. until_quit rs ≡ rs) (r.has).read_is r.last.0;
  parts = r.seen ∙ ap (λ rs. ticketed k number 0 (flat_map parts_for rs)) (r.has).read_is;
}

pub begins : (k number worker client : ℕ) → Reading k number [] [] (new_session worker client full) []
begins k number worker client = record {
  read = [];
  has = record { values = []; text = []; rest = []; spelled = refl; read_is = refl; accepted = tt; are = refl; next = λ is. (refl, [], refl, refl); fault = λ why f. absurd (open-faulted why Open refl f) };
  counted = λ is. (refl, refl);
  last = (refl, λ is. refl);
  seen = refl;
}

module _ (k number : ℕ) (came : List ℕ) (arrived : List (Ticket × PartModel)) (old : SessionModel) (unfed : List ℕ) (r : Reading k number came arrived old unfed) where
  -- nothing is read
  quiet : (new : SessionModel) (left : List ℕ) → HasRead came r.read new.incoming new.closing left → (new.closing ≡ Open → old.closing ≡ Open) → (AreCounted r.read old → AreCounted r.read new)
      → Reading k number came arrived new left
  quiet new left has back counts = record {
    read = r.read;
    has = has;
    counted = λ is. counts (r.counted (back is));
    last = (r.last.0, λ is. r.last.1 (back is));
    seen = r.seen;
  }

  -- by a call of the session that reads nothing
  called : (call : SessionCall) (new : SessionModel) → read_by call ≡ [] → SessionDoes old call new → AreCounted r.read old → AreCounted r.read new
  called call new none does c = subst (λ rs. AreCounted rs new) (ap (λ rs. r.read ++ rs) none ∙ append-nil r.read) ((keeps r.read call old new does).counted c)

  -- what came in stays, and so does what closed the session
  still : (new : SessionModel) → new.incoming ≡ old.incoming → new.closing ≡ old.closing → (AreCounted r.read old → AreCounted r.read new) → Reading k number came arrived new unfed
  still new incoming closing counts =
      quiet new unfed (kept came r.read old.incoming new.incoming old.closing new.closing unfed incoming (λ is. sym closing ∙ is) (λ why f. subst (FaultedBy why) closing f) r.has)
      (λ is. sym closing ∙ is) counts

  pub more-pulled : (bytes : List ℕ) → Reading k number (came ++ bytes) arrived old (unfed ++ bytes)
  more-pulled bytes = record { read = r.read; has = pulled came r.read old.incoming old.closing unfed bytes r.has; counted = r.counted; last = r.last; seen = r.seen }

  feed-back : (result : Result ℕ SessionFault) (new : SessionModel) → FeedOutcome old unfed result new → new.closing ≡ old.closing
  feed-back (Ok n) new (inl (full-up, none, is, opened)) = ap (λ (s : SessionModel). s.closing) is
  feed-back (Ok n) new (inr (few, all, inl (opened, is))) = ap (λ (s : SessionModel). s.closing) is
  feed-back (Ok n) new (inr (few, all, inr (quit, is))) = ap (λ (s : SessionModel). s.closing) is
  feed-back (Err session_fault.NoMemory) new (may, is) = ap (λ (s : SessionModel). s.closing) is
  feed-back (Err (Wire fault)) new (was, is) = ap (λ (s : SessionModel). s.closing) is
  feed-back (Err NotRequest) new (was, is) = ap (λ (s : SessionModel). s.closing) is

  pub then-fed : (result : Result ℕ SessionFault) (new : SessionModel) → FeedOutcome old unfed result new → Reading k number came arrived new (left_of unfed result)
  then-fed result new does =
      quiet new (left_of unfed result) (fed came r.read old unfed result new does r.has) (λ is. sym (feed-back result new does) ∙ is) (called (FedIn unfed result) new refl does)

  pub then-handed : (ticket : Ticket) (part : PartModel) (new : SessionModel) → ReadyOutcome old (Some (ticket, part)) new → Reading k number came arrived new unfed
  then-handed ticket part new does =
      still new (ap (λ (s : SessionModel). s.incoming) does.3) (ap (λ (s : SessionModel). s.closing) does.3) (called (HandedIn (Some (ticket, part))) new refl does)

  pub then-followed : (last ticket : Ticket) (part : PartModel) (new : SessionModel) → FollowerOutcome old last (Some (ticket, part)) new → Reading k number came arrived new unfed
  then-followed last ticket part new does =
      still new (ap (λ (s : SessionModel). s.incoming) does.3) (ap (λ (s : SessionModel). s.closing) does.3) (called (FollowedIn last (Some (ticket, part))) new refl does)

  pub then-drained : (n : ℕ) (new : SessionModel) (before after : List ℕ) → DrainOutcome most_drained old before (Ok n) new after → Reading k number came arrived new unfed
  then-drained n new before after (bytes, grown, count, drains) =
      let is = drains.left in
      let closing = ap (λ (s : SessionModel). s.closing) is in
      let back : new.closing ≡ Open → old.closing ≡ Open = λ e. open-said (nat_le (length old.requests) drains.count) old.closing (sym closing ∙ e) in
      quiet new unfed
      (kept came r.read old.incoming new.incoming old.closing new.closing unfed (ap (λ (s : SessionModel). s.incoming) is) back
      (λ why f. faulted-said (nat_le (length old.requests) drains.count) old.closing why (subst (FaultedBy why) closing f)) r.has)
      back (called (DrainedIn most_drained (Ok n) bytes) new refl (bytes, refl, count, drains))

  pub then-ended : (ticket : Ticket) (end : Ended) (new : SessionModel) → EndOutcome old ticket end new → Reading k number came arrived new unfed
  then-ended ticket end new is =
      still new (ap (λ (s : SessionModel). s.incoming) is) (ap (λ (s : SessionModel). s.closing) is) counts
    where
      counts : AreCounted r.read old → AreCounted r.read new
      counts (all, owed) =
          let first : new.first ≡ old.first = ap (λ (s : SessionModel). s.first) is in
          let long : length new.stages ≡ length old.stages = ap (λ (s : SessionModel). length s.stages) is ∙ length-set old.stages (ticket.part - old.first) Done in
          (omega (arith, first, long, all), ap (λ (s : SessionModel). parts_of s.requests) is ∙ owed ∙ sym long)

  pub then-parted : (new : SessionModel) → HangsUp old new → Reading k number came arrived new []
  then-parted new hangs =
      let quit : new.closing ≡ Quit = hangs.unread.2 in
      let shut : new.closing ≡ Open → ⊥ = λ is. quit-open (sym quit ∙ is) in
      record {
        read = r.read;
        has = record {
          values = (r.has).values;
          text = (r.has).text;
          rest = (r.has).rest;
          spelled = (r.has).spelled;
          read_is = (r.has).read_is;
          accepted = (r.has).accepted;
          are = (r.has).are;
          next = λ is. absurd (shut is);
          fault = λ why f. absurd (quit-faulted why (subst (FaultedBy why) quit f));
        };
        counted = λ is. absurd (shut is);
        last = (r.last.0, λ is. absurd (shut is));
        seen = r.seen;
      }

  module _ (law : DrainsOutput) (whole : FrontIsWhole) (faulty : FrontIsFaulty) where
    -- what a call of read adds: the parts of a request, or none
    abbrev pub ReadsMore : SessionModel → Type 0
    ReadsMore new = (parts : List PartModel) × (new.stages ≡ old.stages ++ map Waiting parts) × Reading k number came (arrived ++ ticketed k number (old.first + length old.stages) parts) new unfed

    pub then-read : (result : Result Bool SessionFault) (new : SessionModel) → ReadOutcome old result new → ReadsMore new
    then-read result new does = let by = law.reads old result new does in ⊎_elim
        (λ (opened : old.closing ≡ Open). opens by.0 by.1 opened)
        (λ (idle : IsIdle old by.0 new). idles idle.1)
        (open-or-idle old result by.0 new by.1)
      where
        opens : (words : Option (List (List ℕ))) → Reads old result words new → old.closing ≡ Open → ReadsMore new
        opens words does opened =
            let parts : List PartModel = flat_map parts_for (read_by (ReadIn result words)) in
            let count = r.counted opened in
            let all : length (flat_map parts_for r.read) ≡ old.first + length old.stages = parts-count r.read ∙ sym count.0 in
            let next : 0 + length (flat_map parts_for r.read) ≡ old.first + length old.stages = omega (arith, all) in (
              parts,
              read-stages old result words new does,
              record {
                read = r.read ++ read_by (ReadIn result words);
                has = reads whole faulty came r.read old unfed result words new count does r.has;
                counted = λ is. (keeps r.read (ReadIn result words) old new does).counted count;
                last = read-last r.read old result words new opened does r.last;
                seen = (λ i. r.seen i ++ ticketed k number (sym next i) parts) ∙ sym (ticketed-more k number 0 (flat_map parts_for r.read) parts)
                    ∙ ap (ticketed k number 0) (sym (flat_map-append parts_for r.read (read_by (ReadIn result words))));
              },
            )

        idles : new ≡ old → ReadsMore new
        idles is = (
          [],
          same-stages old new (ap (λ (s : SessionModel). s.stages) is),
          subst (λ a. Reading k number came a new unfed) (sym (append-nil arrived)) (subst (λ s. Reading k number came arrived s unfed) (sym is) r),
        )
