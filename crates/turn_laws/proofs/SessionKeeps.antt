-- What each call of a session keeps: the parts of the requests that were read are counted, and a fault stays.
use Rattle.std.proofs.Common.{◌≡◌, ◌⊎◌, ◌||◌, inl, inr, ◌++◌, ◌∷◌, [], ◌+◌, ◌-◌, ◌^◌, List, ℕ, refl, ap, sym, subst, ◌∙◌, arith, Option, Some, None, Result, Ok, Err, Bool, true, false, length, take, length-append, length-drop}
use Rattle.std.specs.Prelude.{if◌then◌else◌, map, nat_le}
use Rattle.std.specs.List.{list_any}
use Rattle.std.proofs.lemmas.Bool.{false≢true}
use Rattle.std.proofs.lemmas.List.Folds.{list_any-append}
use Rattle.std.proofs.lemmas.List.{append-nil, length-map, length-set}
use Rattle.slot_hash.specs.Slot.{slot_of}
use Rattle.key_split.specs.declared.planned.Planned.{Planned}
use Rattle.key_split.specs.declared.planned.Planned.TheVariants as planned
use Rattle.key_split.specs.declared.planned.PlanFault.{PlanFault}
use Rattle.session_order.specs.SessionModel.{SessionModel}
use Rattle.session_order.specs.declared.queue.PartStage.TheVariants.{Waiting, Out, Done}
use Rattle.session_order.specs.declared.closing.Closing.{Closing}
use Rattle.session_order.specs.declared.closing.Closing.TheVariants.{Open, Quit, Faulted}
use Rattle.session_order.specs.declared.closing.Broken.{Broken}
use Rattle.session_order.specs.declared.fault.SessionFault.{SessionFault}
use Rattle.session_order.specs.declared.fault.SessionFault.TheVariants as session_fault
use Rattle.session_order.specs.declared.fault.SessionFault.TheVariants.{Wire, NotRequest}
use Rattle.session_order.specs.PendingReply.{ends_session, owed_by, plan_for}
use Rattle.session_order.specs.Replies.{parts_of, said, without}
use Rattle.session_order.specs.Steps.{FaultedBy, added, with_incoming, with_owed}
use Rattle.session_order.specs.Life.{SessionCall, Fed, Read, Handed, Followed, Told, Drained, Reads, SessionDoes, read_by, met_fault}
use Rattle.session_order.proofs.Added.{parts_of_push}
use Rattle.session_order.proofs.Fewer.{parts_split}
use Rattle.session_order.proofs.Told.{split_ok}
use Rattle.turn_laws.specs.Pipelines.{ends_it}
use Rattle.turn_laws.proofs.RequestsRead.{AreCounted, open-faulted, parts-more}

-- a fault was met
abbrev pub IsFaulted : Closing → Type 0
IsFaulted closing = (why : Broken) × FaultedBy why closing

-- a session that is closed read a request that ends it, or met a fault
abbrev pub ClosedBy : List (List (List ℕ)) → Bool → Closing → Type 0
ClosedBy read faulted Open = Unit {0}
ClosedBy read faulted Quit = list_any ends_it read ≡ true
ClosedBy read faulted (Faulted why owed) = faulted ≡ true

pub or-more : (a b : Bool) → b ≡ true → (a || b) ≡ true
or-more true b e = refl
or-more false b e = e

closed-more : (read more : List (List (List ℕ))) (faulted met : Bool) (closing : Closing) → ClosedBy read faulted closing → ClosedBy (read ++ more) (faulted || met) closing
closed-more read more faulted met Open c = tt
closed-more read more faulted met Quit c = list_any-append ends_it read more ∙ ap (λ b. b || list_any ends_it more) c
closed-more read more faulted met (Faulted why owed) c = ap (λ b. b || met) c

closed-faulted : (read : List (List (List ℕ))) (faulted : Bool) (closing : Closing) → IsFaulted closing → faulted ≡ true → ClosedBy read faulted closing
closed-faulted read faulted Open f met = tt
closed-faulted read faulted Quit (why, (owed, is)) met = absurd (cc)
closed-faulted read faulted (Faulted why owed) f met = met

-- what a call keeps of these
pub record Keeps (read : List (List (List ℕ))) (call : SessionCall) (old new : SessionModel) : Type 0 where
  pub counted : AreCounted read old → AreCounted (read ++ read_by call) new
  pub stays : IsFaulted old.closing → IsFaulted new.closing
  pub meets : met_fault call ≡ true → IsFaulted new.closing
  pub closes : (faulted : Bool) → ClosedBy read faulted old.closing → ClosedBy (read ++ read_by call) (faulted || met_fault call) new.closing

-- the session is this one
by : {read : List (List (List ℕ))} {call : SessionCall} {old new other : SessionModel} → new ≡ other → Keeps read call old other → Keeps read call old new
by {read} {call} {old} is keeps = subst (Keeps read call old) (sym is) keeps

counted-same : (read more : List (List (List ℕ))) (old new : SessionModel) → more ≡ [] → new.first ≡ old.first → length new.stages ≡ length old.stages → new.requests ≡ old.requests
    → AreCounted read old → AreCounted (read ++ more) new
counted-same read more old new none first long same (all, owed) =
    subst (λ rs. AreCounted (read ++ rs) new) (sym none) (subst (λ rs. AreCounted rs new) (sym (append-nil read)) (omega (arith, first, long, all), ap parts_of same ∙ owed ∙ sym long))

-- nothing is read, and no fault is met
quiet : {read : List (List (List ℕ))} {call : SessionCall} {old new : SessionModel} → read_by call ≡ [] → met_fault call ≡ false → new.first ≡ old.first → length new.stages ≡ length old.stages
    → new.requests ≡ old.requests → new.closing ≡ old.closing → Keeps read call old new
quiet {read} {call} {old} {new} none unmet first long same closing = record {
  counted = counted-same read (read_by call) old new none first long same;
  stays = subst IsFaulted (sym closing);
  meets = λ met. absurd (false≢true (sym unmet ∙ met));
  closes = λ faulted c. subst (ClosedBy (read ++ read_by call) (faulted || met_fault call)) (sym closing) (closed-more read (read_by call) faulted (met_fault call) old.closing c);
}

-- a fault is met, or was
broken : {read : List (List (List ℕ))} {call : SessionCall} {old new : SessionModel} → read_by call ≡ [] → met_fault call ≡ true → new.first ≡ old.first → length new.stages ≡ length old.stages → new.requests ≡ old.requests
    → IsFaulted new.closing → Keeps read call old new
broken {read} {call} {old} {new} none hit first long same faulted = record {
  counted = counted-same read (read_by call) old new none first long same;
  stays = λ before. faulted;
  meets = λ met. faulted;
  closes = λ before c. closed-faulted (read ++ read_by call) (before || met_fault call) new.closing faulted (or-more before (met_fault call) hit);
}

-- ---- a request is read

-- its parts stand behind the others
abbrev Adds : SessionModel → Result Planned PlanFault → SessionModel → Type 0
Adds old plan new = (new.first ≡ old.first) × (length new.stages ≡ length old.stages + parts_of (owed_by plan ∷ [])) × (parts_of new.requests ≡ parts_of old.requests + parts_of (owed_by plan ∷ []))

adds : (old : SessionModel) (plan : Result Planned PlanFault) (new : SessionModel) → added old plan ≡ Ok new → Adds old plan new
adds old (Err fault) new is = subst (Adds old (Err fault)) (sym (split_ok true (with_owed old (Err fault)) new is)) (refl, omega arith, parts_of_push old.requests (owed_by (Err fault)))
adds old (Ok (planned.Local value)) new is =
    subst (Adds old (Ok (planned.Local value))) (sym (split_ok true (with_owed old (Ok (planned.Local value))) new is)) (refl, omega arith, parts_of_push old.requests (owed_by (Ok (planned.Local value))))
adds old (Ok planned.Close) new is =
    subst (Adds old (Ok planned.Close)) (sym (split_ok true (record (with_owed old (Ok planned.Close)) { closing = Quit }) new is)) (refl, omega arith, parts_of_push old.requests (owed_by (Ok planned.Close)))
adds old (Ok (planned.Parts how parts)) new is =
    subst (Adds old (Ok (planned.Parts how parts))) (sym (split_ok (nat_le (old.first + length old.stages + length parts) (2 ^ 48)) _ new is))
    (refl, omega (arith, length-append old.stages (map Waiting parts), length-map parts Waiting), parts_of_push old.requests (owed_by (Ok (planned.Parts how parts))))

-- it leaves the session open, or ends it
abbrev Closes : Result Planned PlanFault → SessionModel → Type 0
Closes plan new = (new.closing ≡ Open) ⊎ ((new.closing ≡ Quit) × (ends_session plan ≡ true))

added-closes : (old : SessionModel) (plan : Result Planned PlanFault) (new : SessionModel) → added old plan ≡ Ok new → old.closing ≡ Open → Closes plan new
added-closes old (Err fault) new is opened = inl (ap (λ (s : SessionModel). s.closing) (split_ok true (with_owed old (Err fault)) new is) ∙ opened)
added-closes old (Ok (planned.Local value)) new is opened = inl (ap (λ (s : SessionModel). s.closing) (split_ok true (with_owed old (Ok (planned.Local value))) new is) ∙ opened)
added-closes old (Ok planned.Close) new is opened = inr (ap (λ (s : SessionModel). s.closing) (split_ok true (record (with_owed old (Ok planned.Close)) { closing = Quit }) new is), refl)
added-closes old (Ok (planned.Parts how parts)) new is opened = inl (ap (λ (s : SessionModel). s.closing) (split_ok (nat_le (old.first + length old.stages + length parts) (2 ^ 48)) _ new is) ∙ opened)

words-close : (read : List (List (List ℕ))) (words : List (List ℕ)) (faulted : Bool) (new : SessionModel) → Closes (plan_for words) new → ClosedBy (read ++ words ∷ []) (faulted || false) new.closing
words-close read words faulted new (inl opened) = subst (ClosedBy (read ++ words ∷ []) (faulted || false)) (sym opened) tt
words-close read words faulted new (inr (quit, ends)) =
    subst (ClosedBy (read ++ words ∷ []) (faulted || false)) (sym quit)
    (list_any-append ends_it read (words ∷ []) ∙ or-more (list_any ends_it read) (ends_it words || false) (ap (λ b. b || false) ends))

reads : (read : List (List (List ℕ))) (result : Result Bool SessionFault) (words : Option (List (List ℕ))) (old new : SessionModel) → Reads old result words new → Keeps read (Read result words) old new
reads read (Ok true) (Some words) old new (may, rest, (next, is)) =
    let (first, long, requests) = adds (with_incoming old rest) (plan_for words) new is in
    record {
      counted = λ c. (omega (arith, c.0, first, long, parts-more read words), omega (arith, c.1, long, requests));
      stays = λ before. absurd (open-faulted before.0 old.closing may.0 before.1);
      meets = λ met. absurd (false≢true met);
      closes = λ faulted c. words-close read words faulted new (added-closes (with_incoming old rest) (plan_for words) new is may.0);
    }
reads read (Ok true) None old new (may, takes, is) = by is (quiet refl refl refl refl refl refl)
reads read (Ok false) None old new (is, why) = by is (quiet refl refl refl refl refl refl)
reads read (Ok false) (Some words) old new does = absurd does
reads read (Err session_fault.NoMemory) None old new (may, keeps, is) = by is (quiet refl refl refl refl refl refl)
reads read (Err (Wire fault)) None old new (inl (was, is)) = by is (broken refl refl refl refl refl (_, was))
reads read (Err (Wire fault)) None old new (inr (may, garbled, is)) = by is (broken refl refl refl refl refl (_, (true, refl)))
reads read (Err NotRequest) None old new (inl (was, is)) = by is (broken refl refl refl refl refl (_, was))
reads read (Err NotRequest) None old new (inr (inl (may, takes, is))) = by is (broken refl refl refl refl refl (_, (true, refl)))
reads read (Err NotRequest) None old new (inr (inr (may, words, rest, refused, is))) = by is (broken refl refl refl refl refl (_, (true, refl)))
reads read (Err session_fault.NoMemory) (Some words) old new does = absurd does
reads read (Err (Wire fault)) (Some words) old new does = absurd does
reads read (Err NotRequest) (Some words) old new does = absurd does

-- ---- replies are drained

said-faulted : (b : Bool) (closing : Closing) → IsFaulted closing → IsFaulted (if b then said closing else closing)
said-faulted true Open (why, (owed, is)) = absurd (cc)
said-faulted true Quit (why, (owed, is)) = absurd (cc)
said-faulted true (Faulted why owed) before = (why, (false, refl))
said-faulted false closing before = before

said-closed : (read : List (List (List ℕ))) (faulted b : Bool) (closing : Closing) → ClosedBy read faulted closing → ClosedBy read faulted (if b then said closing else closing)
said-closed read faulted true Open c = c
said-closed read faulted true Quit c = c
said-closed read faulted true (Faulted why owed) c = c
said-closed read faulted false closing c = c

drains : (read : List (List (List ℕ))) (old : SessionModel) (count : ℕ) → AreCounted read old → AreCounted (read ++ []) (without old (count, parts_of (take count old.requests)))
drains read old count (all, owed) =
    let m : ℕ = parts_of (take count old.requests) in
    let split = parts_split count old.requests in
    let long = length-drop m old.stages in
    subst (λ rs. AreCounted rs (without old (count, m))) (sym (append-nil read)) (omega (arith, all, owed, split, long), omega (arith, owed, split, long))

-- ---- all calls

pub keeps : (read : List (List (List ℕ))) (call : SessionCall) (old new : SessionModel) → SessionDoes old call new → Keeps read call old new
keeps read (Fed piece (Ok n)) old new (inl (full-up, none, is, opened)) = by is (quiet refl refl refl refl refl refl)
keeps read (Fed piece (Ok n)) old new (inr (few, all, inl (opened, is))) = by is (quiet refl refl refl refl refl refl)
keeps read (Fed piece (Ok n)) old new (inr (few, all, inr (quit, is))) = by is (quiet refl refl refl refl refl refl)
keeps read (Fed piece (Err session_fault.NoMemory)) old new (may, is) = by is (quiet refl refl refl refl refl refl)
keeps read (Fed piece (Err (Wire fault))) old new (was, is) = by is (quiet refl refl refl refl refl refl)
keeps read (Fed piece (Err NotRequest)) old new (was, is) = by is (quiet refl refl refl refl refl refl)
keeps read (Read result words) old new does = reads read result words old new does
keeps read (Handed None) old new (none, is) = by is (quiet refl refl refl refl refl refl)
keeps read (Handed (Some (ticket, part))) old new (i, next, numbered, is) = by is (quiet refl refl refl (length-set old.stages i (Out (slot_of part.key))) refl refl)
keeps read (Followed last None) old new (none, is) = by is (quiet refl refl refl refl refl refl)
keeps read (Followed last (Some (ticket, part))) old new (i, next, numbered, is) = by is (quiet refl refl refl (length-set old.stages i (Out (slot_of part.key))) refl refl)
keeps read (Told ticket end) old new (out, is) = by is (quiet refl refl refl (length-set old.stages (ticket.part - old.first) Done) refl refl)
keeps read (Drained most (Ok n) bytes) old new (own, is-own, all, written) =
    by written.left (record {
      counted = drains read old written.count;
      stays = said-faulted (nat_le (length old.requests) written.count) old.closing;
      meets = λ met. absurd (false≢true met);
      closes = λ faulted c. said-closed (read ++ []) (faulted || false) (nat_le (length old.requests) written.count) old.closing (closed-more read [] faulted false old.closing c);
    })
keeps read (Drained most (Err refused) bytes) old new (none, is) = by is (quiet refl refl refl refl refl refl)
