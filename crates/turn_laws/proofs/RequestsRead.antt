-- The requests that a session read are those that the bytes which came begin with.
use Rattle.std.proofs.Common.{◌≡◌, ◌++◌, ◌∷◌, [], ◌+◌, ◌^◌, List, ℕ, ◌<◌, refl, ap, sym, arith, subst, ◌∙◌, inl, inr, Option, Some, None, Result, Ok, Err, Bool, true, false, length, drop, append_assoc}
use Rattle.std.specs.Prelude.{cond, map, nat_le}
use Rattle.std.proofs.Math.Seq.{drop-length}
use Rattle.std.proofs.lemmas.Grind.{flat_map-append}
use Rattle.std.proofs.lemmas.List.{append-nil, map-append}
use Rattle.resp_wire.specs.Data.{Data, items_of}
use Rattle.resp_wire.specs.Seen.{data_of}
use Rattle.resp_wire.specs.LimitsModel.{LimitsModel, full}
use Rattle.resp_wire.specs.FirstValue.{front, Whole, Faulty}
use Rattle.resp_wire.specs.Laws.{FrontIsFaulty, FrontIsWhole}
use Rattle.resp_wire.specs.Spelling.{Spells, SpellsAll}
use Rattle.key_split.specs.declared.planned.Planned.{Planned}
use Rattle.key_split.specs.declared.planned.Planned.TheVariants as planned
use Rattle.key_split.specs.declared.planned.PlanFault.{PlanFault}
use Rattle.session_order.specs.declared.closing.Closing.{Closing}
use Rattle.session_order.specs.declared.closing.Closing.TheVariants.{Open, Quit, Faulted}
use Rattle.session_order.specs.declared.closing.Broken.{Broken}
use Rattle.session_order.specs.declared.closing.Broken.TheVariants as broken
use Rattle.session_order.specs.declared.fault.SessionFault.{SessionFault}
use Rattle.session_order.specs.declared.fault.SessionFault.TheVariants as session_fault
use Rattle.session_order.specs.declared.fault.SessionFault.TheVariants.{Wire, NotRequest}
use Rattle.session_order.specs.Requests.{RequestKindModel, Words, Skipped, Refused, asked_of}
use Rattle.session_order.specs.RequestReaderModel.{RequestReaderModel, NextWords, TakesValue, KeepsWords}
use Rattle.session_order.specs.PendingReply.{owed_by, owed_for, plan_for}
use Rattle.session_order.specs.SessionModel.{SessionModel}
use Rattle.session_order.specs.Steps.{FaultedBy, FeedOutcome, added, with_incoming, with_owed}
use Rattle.session_order.specs.Replies.{parts_of}
use Rattle.session_order.specs.Life.{Read, Reads, read_by}
use Rattle.session_order.proofs.Added.{parts_of_push}
use Rattle.session_order.proofs.Told.{is_above, split_ok}
use Rattle.proxy_turns.specs.ClientTurn.{left_of}
use Rattle.turn_laws.specs.Pipelines.{AreAccepted, BeginsWithFault, IsRefused, is_accepted, request_of, requests_of}
use Rattle.turn_laws.proofs.OutputFronts.{fault-then}

-- the bytes of a request that was taken off and not read yet, if there is one
abbrev pub IsAhead : Option (List (List ℕ)) → List ℕ → Type 0
IsAhead None bytes = bytes ≡ []
IsAhead (Some words) bytes = (value : Data) × Spells full full.depth bytes value × (asked_of value ≡ Words words)

-- behind the text that was read stand the bytes of that request, those that were not read, and those that were not fed
abbrev pub IsNext : List ℕ → List ℕ → RequestReaderModel → List ℕ → Type 0
IsNext came text incoming unfed =
    (incoming.input.bounds ≡ full) × (ahead : List ℕ) × IsAhead incoming.ahead ahead × (came ≡ text ++ (ahead ++ (incoming.input.unread ++ unfed)))

-- These requests were read: the bytes that came are their spellings and a rest. An open session goes on there, and where a fault was met
-- one is there.
pub record HasRead (came : List ℕ) (read : List (List (List ℕ))) (incoming : RequestReaderModel) (closing : Closing) (unfed : List ℕ) : Type 0 where
  pub values : List Data
  pub text : List ℕ
  pub rest : List ℕ
  pub spelled : SpellsAll full full.depth text (items_of values)
  pub read_is : read ≡ requests_of values
  pub accepted : AreAccepted values
  pub are : came ≡ text ++ rest
  pub next : closing ≡ Open → IsNext came text incoming unfed
  pub fault : (why : Broken) → FaultedBy why closing → BeginsWithFault read rest

spells-push : (l : LimitsModel) (room : ℕ) (text bytes : List ℕ) (values : List Data) (value : Data) → SpellsAll l room text (items_of values) → Spells l room bytes value
    → SpellsAll l room (text ++ bytes) (items_of (values ++ value ∷ []))
spells-push l room text bytes [] value none one = (bytes, [], ap (λ front. front ++ bytes) none ∙ sym (append-nil bytes), one, refl)
spells-push l room text bytes (v ∷ values) value (first, rest, is, own, all) one =
    (first, rest ++ bytes, ap (λ front. front ++ bytes) is ∙ append_assoc first rest bytes, own, spells-push l room rest bytes values value all one)

accepted-push : (values : List Data) (value : Data) → AreAccepted values → is_accepted (asked_of value) ≡ true → AreAccepted (values ++ value ∷ [])
accepted-push [] value all one = (one, tt)
accepted-push (v ∷ values) value all one = (all.0, accepted-push values value all.1 one)

-- nothing changes of what is read
pub kept : (came : List ℕ) (read : List (List (List ℕ))) (incoming incoming' : RequestReaderModel) (closing closing' : Closing) (unfed : List ℕ) → incoming' ≡ incoming → (closing' ≡ Open → closing ≡ Open)
    → ((why : Broken) → FaultedBy why closing' → FaultedBy why closing) → HasRead came read incoming closing unfed → HasRead came read incoming' closing' unfed
kept came read incoming incoming' closing closing' unfed same opens faults h = record {
  values = h.values;
  text = h.text;
  rest = h.rest;
  spelled = h.spelled;
  read_is = h.read_is;
  accepted = h.accepted;
  are = h.are;
  next = λ is. subst (λ now. IsNext came h.text now unfed) (sym same) (h.next (opens is));
  fault = λ why f. h.fault why (faults why f);
}

-- bytes come
pub pulled : (came : List ℕ) (read : List (List (List ℕ))) (incoming : RequestReaderModel) (closing : Closing) (unfed bytes : List ℕ) → HasRead came read incoming closing unfed
    → HasRead (came ++ bytes) read incoming closing (unfed ++ bytes)
pulled came read incoming closing unfed bytes h = record {
  values = h.values;
  text = h.text;
  rest = h.rest ++ bytes;
  spelled = h.spelled;
  read_is = h.read_is;
  accepted = h.accepted;
  are = ap (λ front. front ++ bytes) h.are ∙ append_assoc h.text h.rest bytes;
  next = λ is. let (bounds, ahead, its, all) = h.next is in (bounds, ahead, its, ap (λ front. front ++ bytes) all ∙ simp append_assoc);
  fault = λ why f. fault-then read h.rest bytes (h.fault why f);
}

-- ---- bytes are fed

fed-open : (came text : List ℕ) (old new : SessionModel) (unfed : List ℕ) → new.incoming ≡ record old.incoming { input = record old.incoming.input { unread = old.incoming.input.unread ++ unfed } }
    → IsNext came text old.incoming unfed → IsNext came text new.incoming []
fed-open came text old new unfed is (bounds, ahead, its, all) =
    subst (λ now. IsNext came text now []) (sym is) (bounds, ahead, its, all ∙ ap (λ more. text ++ (ahead ++ more)) (sym (append-nil (old.incoming.input.unread ++ unfed))))

quit-open : Quit ≡ Open → ⊥
quit-open e = absurd (cc)

-- what was read stays, and how the session is closed
feeds : (came : List ℕ) (read : List (List (List ℕ))) (old new : SessionModel) (unfed left : List ℕ) → new.closing ≡ old.closing → (h : HasRead came read old.incoming old.closing unfed)
    → (old.closing ≡ Open → IsNext came h.text new.incoming left) → HasRead came read new.incoming new.closing left
feeds came read old new unfed left same h next = record {
  values = h.values;
  text = h.text;
  rest = h.rest;
  spelled = h.spelled;
  read_is = h.read_is;
  accepted = h.accepted;
  are = h.are;
  next = λ is. next (sym same ∙ is);
  fault = λ why f. h.fault why (subst (FaultedBy why) same f);
}

same-read : (came : List ℕ) (read : List (List (List ℕ))) (old new : SessionModel) (unfed : List ℕ) → new ≡ old → HasRead came read old.incoming old.closing unfed → HasRead came read new.incoming new.closing unfed
same-read came read old new unfed is h = subst (λ (held : SessionModel). HasRead came read held.incoming held.closing unfed) (sym is) h

pub fed : (came : List ℕ) (read : List (List (List ℕ))) (old : SessionModel) (unfed : List ℕ) (result : Result ℕ SessionFault) (new : SessionModel) → FeedOutcome old unfed result new
    → HasRead came read old.incoming old.closing unfed → HasRead came read new.incoming new.closing (left_of unfed result)
fed came read old unfed (Ok n) new (inl (full-up, none, is, unfaulted)) h = same-read came read old new (drop n unfed) is (subst (λ m. HasRead came read old.incoming old.closing (drop m unfed)) (sym none) h)
fed came read old unfed (Ok n) new (inr (few, all, inl (opened, is))) h =
    let none : drop n unfed ≡ [] = ap (λ m. drop m unfed) all ∙ drop-length unfed in
    subst (λ left. HasRead came read new.incoming new.closing left) (sym none)
    (feeds came read old new unfed [] (ap (λ (held : SessionModel). held.closing) is) h (λ still. fed-open came h.text old new unfed (ap (λ (held : SessionModel). held.incoming) is) (h.next opened)))
fed came read old unfed (Ok n) new (inr (few, all, inr (quit, is))) h =
    feeds came read old new unfed (drop n unfed) (ap (λ (held : SessionModel). held.closing) is) h (λ still. absurd (quit-open (sym quit ∙ still)))
fed came read old unfed (Err session_fault.NoMemory) new (may, is) h = same-read came read old new unfed is h
fed came read old unfed (Err (Wire fault)) new (faulted, is) h = same-read came read old new unfed is h
fed came read old unfed (Err NotRequest) new (faulted, is) h = same-read came read old new unfed is h

-- ---- a value is taken off

-- the bytes of the value that was next, and what is next behind it
abbrev Takes : List ℕ → List ℕ → RequestKindModel → RequestReaderModel → List ℕ → Type 0
Takes came text asked rest unfed =
    (bytes : List ℕ) × (value : Data) × Spells full full.depth bytes value × (asked_of value ≡ asked) × IsNext came (text ++ bytes) rest unfed

-- what is next, where nothing is ahead
none-ahead : (came text : List ℕ) (incoming : RequestReaderModel) (unfed : List ℕ) → incoming.ahead ≡ None → IsNext came text incoming unfed → came ≡ text ++ (incoming.input.unread ++ unfed)
none-ahead came text incoming unfed none (bounds, ahead, its, all) =
    let empty : ahead ≡ [] = subst (λ o. IsAhead o ahead) none its in all ∙ ap (λ a. text ++ (a ++ (incoming.input.unread ++ unfed))) empty

module _ (whole : FrontIsWhole) where
  taken : (came text : List ℕ) (old : RequestReaderModel) (asked : RequestKindModel) (rest : RequestReaderModel) (unfed : List ℕ) → TakesValue old asked rest → IsNext came text old unfed
      → Takes came text asked rest unfed
  taken came text old asked rest unfed (none, value, (unfaulty, begins, left), kind, is) next =
      let bounds = next.0 in
      let (bytes, spells, are) = (whole full old.input.unread rest.input.unread (data_of value)).0 (subst (λ l. front l old.input.unread ≡ Whole (data_of value) rest.input.unread) bounds begins) in
      let no-more : rest.ahead ≡ None = ap (λ (r : RequestReaderModel). r.ahead) is ∙ none in
      let same : rest.input.bounds ≡ full = ap (λ r. r.bounds) left ∙ bounds in
      let behind : came ≡ (text ++ bytes) ++ ([] ++ (rest.input.unread ++ unfed)) =
      none-ahead came text old unfed none next ∙ ap (λ u. text ++ (u ++ unfed)) are ∙ simp append_assoc in
      (bytes, data_of value, spells, kind, (same, [], subst (λ o. IsAhead o []) (sym no-more) refl, behind))

  next-words : (came text : List ℕ) (old : RequestReaderModel) (words : List (List ℕ)) (rest : RequestReaderModel) (unfed : List ℕ) → NextWords old words rest → IsNext came text old unfed
      → Takes came text (Words words) rest unfed
  next-words came text old words rest unfed (inl (some, is)) (bounds, ahead, its, all) =
      let (value, spells, kind) = subst (λ o. IsAhead o ahead) some its in
      subst (λ now. Takes came text (Words words) now unfed) (sym is)
      (ahead, value, spells, kind, (bounds, [], refl, all ∙ sym (append_assoc text ahead (old.input.unread ++ unfed))))
  next-words came text old words rest unfed (inr takes) next = taken came text old (Words words) rest unfed takes next

-- nothing is ahead behind the words that were next
words-off : (old : RequestReaderModel) (words : List (List ℕ)) (rest : RequestReaderModel) → NextWords old words rest → rest.ahead ≡ None
words-off old words rest (inl (some, is)) = ap (λ (r : RequestReaderModel). r.ahead) is
words-off old words rest (inr (none, value, takes, kind, is)) = ap (λ (r : RequestReaderModel). r.ahead) is ∙ none

-- its request is read
one-more : (came : List ℕ) (read more : List (List (List ℕ))) (old new : RequestReaderModel) (closing closing' : Closing) (unfed : List ℕ) (asked : RequestKindModel)
    → (h : HasRead came read old closing unfed) → Takes came h.text asked new unfed → more ≡ request_of asked → is_accepted asked ≡ true → ((why : Broken) → FaultedBy why closing' → ⊥) → HasRead came (read ++ more) new closing' unfed
one-more came read more old new closing closing' unfed asked h (bytes, value, spells, kind, next) words taken-on faultless = record {
  values = h.values ++ value ∷ [];
  text = h.text ++ bytes;
  rest = next.1 ++ (new.input.unread ++ unfed);
  spelled = spells-push full full.depth h.text bytes h.values value h.spelled spells;
  read_is = (λ i. h.read_is i ++ words i) ∙ ap (λ k. requests_of h.values ++ request_of k) (sym kind) ∙ ap (λ last. requests_of h.values ++ last) (sym (append-nil (request_of (asked_of value))))
      ∙ sym (flat_map-append (λ v. request_of (asked_of v)) h.values (value ∷ []));
  accepted = accepted-push h.values value h.accepted (ap is_accepted kind ∙ taken-on);
  are = next.3;
  next = λ is. next;
  fault = λ why f. absurd (faultless why f);
}

-- ---- a call of read

-- a plan is added: what came in stays, and no fault is met
added-incoming : (old : SessionModel) (plan : Result Planned PlanFault) (new : SessionModel) → added old plan ≡ Ok new → new.incoming ≡ old.incoming
added-incoming old (Err fault) new is = ap (λ (held : SessionModel). held.incoming) (split_ok true (with_owed old (Err fault)) new is)
added-incoming old (Ok (planned.Local value)) new is = ap (λ (held : SessionModel). held.incoming) (split_ok true (with_owed old (Ok (planned.Local value))) new is)
added-incoming old (Ok planned.Close) new is = ap (λ (held : SessionModel). held.incoming) (split_ok true (record (with_owed old (Ok planned.Close)) { closing = Quit }) new is)
added-incoming old (Ok (planned.Parts how parts)) new is = ap (λ (held : SessionModel). held.incoming) (split_ok (nat_le (old.first + length old.stages + length parts) (2 ^ 48)) _ new is)

pub quit-faulted : (why : Broken) → FaultedBy why Quit → ⊥
quit-faulted why (owed, e) = absurd (cc)

pub open-faulted : (why : Broken) (closing : Closing) → closing ≡ Open → FaultedBy why closing → ⊥
open-faulted why closing opened (owed, e) = let both : Open ≡ Faulted why owed = sym opened ∙ e in absurd (cc)

added-faultless : (old : SessionModel) (plan : Result Planned PlanFault) (new : SessionModel) → added old plan ≡ Ok new → old.closing ≡ Open → (why : Broken) → FaultedBy why new.closing → ⊥
added-faultless old (Err fault) new is opened why f = open-faulted why new.closing (ap (λ (held : SessionModel). held.closing) (split_ok true (with_owed old (Err fault)) new is) ∙ opened) f
added-faultless old (Ok (planned.Local value)) new is opened why f = open-faulted why new.closing (ap (λ (held : SessionModel). held.closing) (split_ok true (with_owed old (Ok (planned.Local value))) new is) ∙ opened) f
added-faultless old (Ok planned.Close) new is opened why f =
    quit-faulted why (subst (FaultedBy why) (ap (λ (held : SessionModel). held.closing) (split_ok true (record (with_owed old (Ok planned.Close)) { closing = Quit }) new is)) f)
added-faultless old (Ok (planned.Parts how parts)) new is opened why f =
    open-faulted why new.closing (ap (λ (held : SessionModel). held.closing) (split_ok (nat_le (old.first + length old.stages + length parts) (2 ^ 48)) _ new is) ∙ opened) f

by-split : (b : Bool) (wide : SessionModel) (why : Broken) → cond {A = Result SessionModel Broken} b (Ok wide) (Err broken.NotRequest) ≡ Err why → b ≡ false
by-split true wide why is = absurd (cc)
by-split false wide why is = refl

-- it is not added only for its parts
too-many : (held : SessionModel) (plan : Result Planned PlanFault) (why : Broken) → added held plan ≡ Err why → 2 ^ 48 < held.first + length held.stages + parts_of (owed_by plan ∷ [])
too-many held (Err fault) why is = absurd (cc)
too-many held (Ok (planned.Local value)) why is = absurd (cc)
too-many held (Ok planned.Close) why is = absurd (cc)
too-many held (Ok (planned.Parts how parts)) why is =
    omega (arith, is_above (held.first + length held.stages + length parts) (2 ^ 48) (by-split (nat_le (held.first + length held.stages + length parts) (2 ^ 48)) _ why is))

-- the parts of the requests that were read are numbered without a gap
abbrev pub AreCounted : List (List (List ℕ)) → SessionModel → Type 0
AreCounted read held = (held.first + length held.stages ≡ parts_of (map owed_for read)) × (parts_of held.requests ≡ length held.stages)

pub parts-more : (read : List (List (List ℕ))) (words : List (List ℕ)) → parts_of (map owed_for (read ++ words ∷ [])) ≡ parts_of (map owed_for read) + parts_of (owed_for words ∷ [])
parts-more read words = ap parts_of (map-append owed_for read (words ∷ [])) ∙ parts_of_push (map owed_for read) (owed_for words)

-- a fault is met
breaks : (came : List ℕ) (read : List (List (List ℕ))) (old new : SessionModel) (unfed : List ℕ) (why : Broken) → new.closing ≡ Faulted why true → (h : HasRead came read old.incoming old.closing unfed)
    → (rest : List ℕ) → came ≡ h.text ++ rest → BeginsWithFault read rest → HasRead came read new.incoming new.closing unfed
breaks came read old new unfed why closed h rest are bad = record {
  values = h.values;
  text = h.text;
  rest = rest;
  spelled = h.spelled;
  read_is = h.read_is;
  accepted = h.accepted;
  are = are;
  next = λ is. absurd (open-faulted why new.closing is (true, closed));
  fault = λ other f. bad;
}

-- the value that is next is refused
refuses : (came : List ℕ) (read : List (List (List ℕ))) (old new : SessionModel) (unfed : List ℕ) (why : Broken) (asked : RequestKindModel) (after : RequestReaderModel) → new.closing ≡ Faulted why true
    → (h : HasRead came read old.incoming old.closing unfed) → Takes came h.text asked after unfed → IsRefused read asked → HasRead came read new.incoming new.closing unfed
refuses came read old new unfed why asked after closed h (bytes, value, spells, kind, next) refused =
    let more : List ℕ = next.1 ++ (after.input.unread ++ unfed) in
    breaks came read old new unfed why closed h (bytes ++ more) (next.3 ∙ append_assoc h.text bytes more) (bytes, (more, refl), inr (value, spells, subst (IsRefused read) (sym kind) refused))

none-read : (came : List ℕ) (read : List (List (List ℕ))) (new : SessionModel) (unfed : List ℕ) → HasRead came read new.incoming new.closing unfed → HasRead came (read ++ []) new.incoming new.closing unfed
none-read came read new unfed h = subst (λ all. HasRead came all new.incoming new.closing unfed) (sym (append-nil read)) h

module _ (whole : FrontIsWhole) (faulty : FrontIsFaulty) where
  keeps-words : (came : List ℕ) (read : List (List (List ℕ))) (old new : RequestReaderModel) (closing closing' : Closing) (unfed : List ℕ) → closing ≡ Open → closing' ≡ closing → KeepsWords old new
      → HasRead came read old closing unfed → HasRead came read new closing' unfed
  keeps-words came read old new closing closing' unfed opened still (inl (lacks, same)) h = kept came read old new closing closing' unfed same (λ is. opened) (λ why f. subst (FaultedBy why) still f) h
  keeps-words came read old new closing closing' unfed opened still (inr (words, rest, takes, is)) h =
      let (bytes, value, spells, kind, next) = next-words whole came h.text old words rest unfed takes (h.next opened) in
      let behind : came ≡ h.text ++ (bytes ++ (rest.input.unread ++ unfed)) =
      none-ahead came (h.text ++ bytes) rest unfed (words-off old words rest takes) next ∙ append_assoc h.text bytes (rest.input.unread ++ unfed) in
      record {
        values = h.values;
        text = h.text;
        rest = h.rest;
        spelled = h.spelled;
        read_is = h.read_is;
        accepted = h.accepted;
        are = h.are;
        next = λ _. subst (λ now. IsNext came h.text now unfed) (sym is) (next.0, bytes, (value, spells, kind), behind);
        fault = λ why f. h.fault why (subst (FaultedBy why) still f);
      }

  pub reads : (came : List ℕ) (read : List (List (List ℕ))) (old : SessionModel) (unfed : List ℕ) (result : Result Bool SessionFault) (words : Option (List (List ℕ))) (new : SessionModel) → AreCounted read old
      → Reads old result words new → HasRead came read old.incoming old.closing unfed → HasRead came (read ++ read_by (Read result words)) new.incoming new.closing unfed
  reads came read old unfed (Ok true) (Some words) new counted (may, rest, (next, is)) h =
      let same : new.incoming ≡ rest = added-incoming (with_incoming old rest) (plan_for words) new is in
      one-more came read (words ∷ []) old.incoming new.incoming old.closing new.closing unfed (Words words) h
      (subst (λ now. Takes came h.text (Words words) now unfed) (sym same) (next-words whole came h.text old.incoming words rest unfed next (h.next may.0))) refl refl
      (added-faultless (with_incoming old rest) (plan_for words) new is may.0)
  reads came read old unfed (Ok true) None new counted (may, takes, is) h =
      one-more came read [] old.incoming new.incoming old.closing new.closing unfed Skipped h (taken whole came h.text old.incoming Skipped new.incoming unfed takes (h.next may.0)) refl refl
      (λ why. open-faulted why new.closing (ap (λ (held : SessionModel). held.closing) is ∙ may.0))
  reads came read old unfed (Ok false) None new counted (is, why) h = none-read came read new unfed (same-read came read old new unfed is h)
  reads came read old unfed (Ok false) (Some words) new counted does h = absurd does
  reads came read old unfed (Err session_fault.NoMemory) None new counted (may, keeps, is) h =
      none-read came read new unfed (keeps-words came read old.incoming new.incoming old.closing new.closing unfed may.0 (ap (λ (held : SessionModel). held.closing) is) keeps h)
  reads came read old unfed (Err (Wire fault)) None new counted (inl (faulted, is)) h = none-read came read new unfed (same-read came read old new unfed is h)
  reads came read old unfed (Err (Wire fault)) None new counted (inr (may, (none, begins, left), is)) h =
      let next = h.next may.0 in
      let has = (faulty full old.incoming.input.unread fault).0 (subst (λ l. front l old.incoming.input.unread ≡ Faulty fault) next.0 begins) in
      none-read came read new unfed
      (breaks came read old new unfed (broken.Wire fault) (ap (λ (held : SessionModel). held.closing) is) h (old.incoming.input.unread ++ unfed) (none-ahead came h.text old.incoming unfed none next)
      (old.incoming.input.unread, (unfed, refl), inl (fault, has)))
  reads came read old unfed (Err NotRequest) None new counted (inl (faulted, is)) h = none-read came read new unfed (same-read came read old new unfed is h)
  reads came read old unfed (Err NotRequest) None new counted (inr (inl (may, takes, is))) h =
      none-read came read new unfed (refuses came read old new unfed broken.NotRequest Refused new.incoming (ap (λ (held : SessionModel). held.closing) is) h
      (taken whole came h.text old.incoming Refused new.incoming unfed takes (h.next may.0)) tt)
  reads came read old unfed (Err NotRequest) None new counted (inr (inr (may, words, rest, (next, refused), is))) h =
      none-read came read new unfed (refuses came read old new unfed broken.NotRequest (Words words) rest (ap (λ (held : SessionModel). held.closing) is) h
      (next-words whole came h.text old.incoming words rest unfed next (h.next may.0))
      (omega (arith, too-many (with_incoming old rest) (plan_for words) broken.NotRequest refused, counted.0, parts-more read words)))
  reads came read old unfed (Err session_fault.NoMemory) (Some words) new counted does h = absurd does
  reads came read old unfed (Err (Wire fault)) (Some words) new counted does h = absurd does
  reads came read old unfed (Err NotRequest) (Some words) new counted does h = absurd does
