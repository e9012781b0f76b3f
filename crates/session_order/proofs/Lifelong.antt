-- What was drained and what is next are the output of the requests that were read and the ends that were told.
use Rattle.std.proofs.Common.{◌≡◌, ◌≤◌, ◌<◌, ◌+◌, ◌-◌, ◌^◌, ◌++◌, ◌∷◌, [], List, ℕ, length, drop, take, refl, ap, sym, subst, ◌∙◌, inl, inr, arith, zero, suc, Option, Some, None, Result, Ok, Err, length-drop, length-append, append_assoc, cond, true, false, Bool, ◌||◌, ◌⊎◌}
use Rattle.std.specs.Prelude.{map, replicate, nat_le, slice_get}
use Rattle.std.specs.List.{list_any, flat_map, FoldsTo}
use Rattle.std.proofs.lemmas.Grind.{flat_map-append}
use Rattle.std.proofs.Math.ListN.{take-append-drop}
use Rattle.std.proofs.lemmas.List.{append-nil, map-append, length-set, length-map}
use Rattle.std.proofs.lemmas.Option.{slice_get_within}
use Rattle.std.proofs.Math.Bool.{or-false, or-true}
use Rattle.slot_hash.specs.Slot.{slot_of}
use Rattle.resp_wire.specs.LimitsModel.{LimitsModel}
use Rattle.resp_wire.specs.declared.value.Value.{Value}
use Rattle.resp_wire.specs.declared.fault.WireFault.{WireFault}
use Rattle.key_split.specs.PartModel.{PartModel}
use Rattle.key_split.specs.declared.travel.Ticket.{Ticket}
use Rattle.key_split.specs.declared.travel.Ended.{Ended}
use Rattle.key_split.specs.declared.travel.Ended.TheVariants.{Lost}
use Rattle.key_split.specs.declared.planned.Planned.{Planned}
use Rattle.key_split.specs.declared.planned.Planned.TheVariants as planned
use Rattle.key_split.specs.declared.planned.PlanFault.{PlanFault}
use Rattle.key_split.specs.Texts.{refusal_of}
use Rattle.session_order.specs.declared.queue.PartStage.{PartStage}
use Rattle.session_order.specs.declared.queue.PartStage.TheVariants.{Waiting, Out, Done}
use Rattle.session_order.specs.declared.replies.PendingReply.{PendingReply}
use Rattle.session_order.specs.declared.replies.PendingReply.TheVariants.{Reply, Parts}
use Rattle.session_order.specs.declared.closing.Broken.{Broken}
use Rattle.session_order.specs.declared.closing.Broken.TheVariants as broken
use Rattle.session_order.specs.declared.closing.Closing.{Closing}
use Rattle.session_order.specs.declared.closing.Closing.TheVariants.{Open, Quit, Faulted}
use Rattle.session_order.specs.declared.fault.SessionFault.{SessionFault}
use Rattle.session_order.specs.declared.fault.SessionFault.TheVariants.{NoMemory, Wire, NotRequest}
use Rattle.session_order.specs.RequestReaderModel.{RequestReaderModel}
use Rattle.session_order.specs.PendingReply.{owed_by, owed_for, plan_for, goodbye, protocol_error}
use Rattle.session_order.specs.SessionModel.{SessionModel}
use Rattle.session_order.specs.Turn.{handed_out}
use Rattle.session_order.specs.Replies.{replies, replied, first_replies, parts_of, bytes_of, spelling, last_line, lines_owed, output, said, Drains, DrainOutcome}
use Rattle.session_order.specs.Steps.{added, with_incoming, ReadsWords, FeedOutcome, ReadOutcome, ReadyOutcome, FollowerOutcome, IsHandedOut, EndOutcome, FaultedBy}
use Rattle.session_order.specs.Output.{end_of, replies_told}
use Rattle.session_order.specs.Life.{SessionCall, Fed, Read, Handed, Followed, Told, Drained, Reads, SessionDoes, read_by, told_by, drained_by, met_fault, output_for, fresh, DrainsOutput}
use Rattle.session_order.proofs.Lists.{eqb-no}
use Rattle.session_order.proofs.Added.{parts_of_push}
use Rattle.session_order.proofs.Fewer.{first_replied, first_last, parts_split, take_few}
use Rattle.session_order.proofs.Told.{is_below, Tables, tables_drop, replies_left, same_replies, tables_set, end_other, tables_end, tables_append, tables_new, split_ok}
use Rattle.session_order.proofs.Quitting.{quit_is_last}

-- how the session is closed, whether a fault was met, and the lines that were drained behind the replies
abbrev Line : Closing → Bool → List Value → List PendingReply → Type 0
Line Open faulted tail requests = (faulted ≡ false) × (tail ≡ [])
Line Quit faulted tail requests = (faulted ≡ false) × (tail ≡ [])
Line (Faulted why true) faulted tail requests = (faulted ≡ true) × (tail ≡ [])
Line (Faulted why false) faulted tail requests = (faulted ≡ true) × (tail ≡ protocol_error ∷ []) × (requests ≡ [])

-- what is so after any calls
record Lived (read : List (List (List ℕ))) (told : List (Ticket × Ended)) (faulted : Bool) (drained : List ℕ) (held : SessionModel) : Type 0 where
  said : List Value
  tail : List Value
  wrote : drained ≡ bytes_of (said ++ tail)
  owing : (more : List (Ticket × Ended)) (later : List PendingReply) (last : List Value)
      → replies_told (told ++ more) 0 (map owed_for read ++ later) last ≡ said ++ replies_told (told ++ more) held.first (held.requests ++ later) last
  tables : Tables told held.first held.stages held.ends
  counted : parts_of held.requests ≡ length held.stages
  unused : (k : ℕ) → held.first + length held.stages ≤ k → end_of told k ≡ None
  line : Line held.closing faulted tail held.requests

-- at the end: the error line stands last where a fault was met
lines_at : (closing : Closing) (faulted : Bool) (tail : List Value) (requests : List PendingReply) (told : List (Ticket × Ended)) (first : ℕ) → Line closing faulted tail requests
    → tail ++ replies_told told first requests (last_line closing) ≡ replies_told told first requests (lines_owed faulted)
lines_at Open faulted tail requests told first (met, none) = rw (met, none) refl
lines_at Quit faulted tail requests told first (met, none) = rw (met, none) refl
lines_at (Faulted why true) faulted tail requests told first (met, none) = rw (met, none) refl
lines_at (Faulted why false) faulted tail requests told first (met, one, empty) = rw (met, one, empty) refl

balanced : (read : List (List (List ℕ))) (told : List (Ticket × Ended)) (faulted : Bool) (drained : List ℕ) (held : SessionModel)
    → Lived read told faulted drained held → drained ++ output held ≡ bytes_of (replies_told told 0 (map owed_for read) (lines_owed faulted))
balanced read told faulted drained held lived =
    let next : List Value = replies_told told held.first held.requests (last_line held.closing) in
    let all : List Value = replies_told told held.first held.requests (lines_owed faulted) in
    let tables : replies held.requests held.stages held.ends (last_line held.closing) ≡ next =
    same_replies held.requests held.stages held.ends told held.first (last_line held.closing) lived.tables lived.counted in
    let owing : replies_told told 0 (map owed_for read) (lines_owed faulted) ≡ lived.said ++ all =
    rw (append-nil told, append-nil (map owed_for read), append-nil held.requests) at (lived.owing [] [] (lines_owed faulted)) in
    ap (λ bytes. bytes ++ output held) lived.wrote
    ∙ ap (λ vs. bytes_of (lived.said ++ lived.tail) ++ bytes_of vs) tables
    ∙ sym (flat_map-append spelling (lived.said ++ lived.tail) next)
    ∙ ap bytes_of (append_assoc lived.said lived.tail next ∙ ap (λ vs. lived.said ++ vs) (lines_at held.closing faulted lived.tail held.requests told held.first lived.line))
    ∙ sym (ap bytes_of owing)

plain : (r : List (List (List ℕ))) (t : List (Ticket × Ended)) (f : Bool) (d : List ℕ) (held : SessionModel) → Lived r t f d held → Lived (r ++ []) (t ++ []) (f || false) (d ++ []) held
plain r t f d held lived = rw (append-nil r, append-nil t, or-false f, append-nil d) lived

-- nothing that counts here changed
moved : (r : List (List (List ℕ))) (t : List (Ticket × Ended)) (f : Bool) (d : List ℕ) (old new : SessionModel) → new.requests ≡ old.requests → new.stages ≡ old.stages → new.ends ≡ old.ends
    → new.first ≡ old.first → new.closing ≡ old.closing → Lived r t f d old → Lived r t f d new
moved r t f d old new requests stages ends first closing l = record {
  said = l.said;
  tail = l.tail;
  wrote = l.wrote;
  owing = λ more later last. rw (first, requests) (l.owing more later last);
  tables = rw (first, stages, ends) l.tables;
  counted = rw (requests, stages) l.counted;
  unused = λ k. rw (first, stages) (l.unused k);
  line = rw (closing, requests) l.line;
}

-- a fault closed the session
broke : (r : List (List (List ℕ))) (t : List (Ticket × Ended)) (f : Bool) (d : List ℕ) (why : Broken) (old new : SessionModel) → new.requests ≡ old.requests → new.stages ≡ old.stages → new.ends ≡ old.ends
    → new.first ≡ old.first → old.closing ≡ Open → new.closing ≡ Faulted why true → Lived r t f d old → Lived r t true d new
broke r t f d why old new requests stages ends first opened closing l = record {
  said = l.said;
  tail = l.tail;
  wrote = l.wrote;
  owing = λ more later last. rw (first, requests) (l.owing more later last);
  tables = rw (first, stages, ends) l.tables;
  counted = rw (requests, stages) l.counted;
  unused = λ k. rw (first, stages) (l.unused k);
  line = (let was : Line Open f l.tail old.requests = subst (λ c. Line c f l.tail old.requests) opened l.line in rw closing (refl, was.1));
}

faulted_stays : (closing : Closing) (why : Broken) (owed f : Bool) (tail : List Value) (requests : List PendingReply) → closing ≡ Faulted why owed → Line closing f tail requests → f ≡ true
faulted_stays closing why true f tail requests is line = (subst (λ c. Line c f tail requests) is line).0
faulted_stays closing why false f tail requests is line = (subst (λ c. Line c f tail requests) is line).0

-- one more request, none of whose parts has ended
pushed : (r : List (List (List ℕ))) (t : List (Ticket × Ended)) (f : Bool) (d : List ℕ) (old new : SessionModel) (words : List (List ℕ)) (owed : PendingReply) (parts : List PartModel)
    → owed_for words ≡ owed → parts_of (owed ∷ []) ≡ length parts
    → new.requests ≡ old.requests ++ owed ∷ [] → new.stages ≡ old.stages ++ map Waiting parts → new.ends ≡ old.ends ++ replicate (length parts) Lost
    → new.first ≡ old.first → old.closing ≡ Open → (new.closing ≡ Open) ⊎ (new.closing ≡ Quit) → Lived r t f d old → Lived (r ++ words ∷ []) t f d new
pushed r t f d old new words owed parts is many requests stages ends first opened closing l =
    let was : Line Open f l.tail old.requests = subst (λ c. Line c f l.tail old.requests) opened l.line in
    let fewer : length (map Waiting parts) ≡ length parts = length-map parts Waiting in
    record {
      said = l.said;
      tail = l.tail;
      wrote = l.wrote;
      owing = λ more later last. rw (map-append owed_for r (words ∷ []), append_assoc (map owed_for r) (owed_for words ∷ []) later, is, requests, append_assoc old.requests (owed ∷ []) later, first)
          (l.owing more (owed ∷ later) last);
      tables = rw (first, stages, ends) (tables_append t old.first (old.first + length old.stages) old.stages (map Waiting parts) old.ends (replicate (length parts) Lost) refl l.tables
          (tables_new t (old.first + length old.stages) parts l.unused));
      counted = rw (requests, stages) (omega (arith, parts_of_push old.requests owed, length-append old.stages (map Waiting parts), fewer, many, l.counted));
      unused = λ k. rw (first, stages) (λ le. l.unused k (omega (arith, le, length-append old.stages (map Waiting parts))));
      line = elim closing [ inl open_is ↦ rw open_is was | inr quit ↦ rw quit was ];
    }

lived_added : (r : List (List (List ℕ))) (t : List (Ticket × Ended)) (f : Bool) (d : List ℕ) (old new : SessionModel) (words : List (List ℕ)) (plan : Result Planned PlanFault)
    → owed_for words ≡ owed_by plan → old.closing ≡ Open → added old plan ≡ Ok new → Lived r t f d old → Lived (r ++ words ∷ []) t f d new
lived_added r t f d old new words (Err fault) is opened adds l = let now = split_ok true _ new adds in
    pushed r t f d old new words (Reply (refusal_of fault)) [] is refl (rw now refl) (rw now (sym (append-nil old.stages))) (rw now (sym (append-nil old.ends))) (rw now refl) opened (inl (rw now opened)) l
lived_added r t f d old new words (Ok (planned.Local value)) is opened adds l = let now = split_ok true _ new adds in
    pushed r t f d old new words (Reply value) [] is refl (rw now refl) (rw now (sym (append-nil old.stages))) (rw now (sym (append-nil old.ends))) (rw now refl) opened (inl (rw now opened)) l
lived_added r t f d old new words (Ok planned.Close) is opened adds l = let now = split_ok true _ new adds in
    pushed r t f d old new words (Reply goodbye) [] is refl (rw now refl) (rw now (sym (append-nil old.stages))) (rw now (sym (append-nil old.ends))) (rw now refl) opened (inr (rw now refl)) l
lived_added r t f d old new words (Ok (planned.Parts how parts)) is opened adds l = let now = split_ok (nat_le (old.first + length old.stages + length parts) (2 ^ 48)) _ new adds in
    pushed r t f d old new words (Parts how (length parts)) parts is (omega arith) (rw now refl) (rw now refl) (rw now refl) (rw now refl) opened (inl (rw now opened)) l

lived_words : (r : List (List (List ℕ))) (t : List (Ticket × Ended)) (f : Bool) (d : List ℕ) (old : SessionModel) (rest : RequestReaderModel) (new : SessionModel) (words : List (List ℕ)) → old.closing ≡ Open
    → ReadsWords old words (Ok new) rest → Lived r t f d old → Lived (r ++ words ∷ []) t f d new
lived_words r t f d old rest new words opened (next, adds) l =
    lived_added r t f d (with_incoming old rest) new words (plan_for words) refl opened adds
    (moved r t f d old (with_incoming old rest) refl refl refl refl refl l)

drop-all : (n : ℕ) (requests : List PendingReply) → length requests ≤ n → drop n requests ≡ []
drop-all zero [] le = refl
drop-all zero (o ∷ rs) le = absurd (omega (arith, le))
drop-all (suc n) [] le = refl
drop-all (suc n) (o ∷ rs) le = drop-all n rs (omega (arith, le))

-- the requests that are left have their line
line_left : (closing : Closing) (f : Bool) (tail : List Value) (requests : List PendingReply) (n : ℕ) (all : Bool) → nat_le (length requests) n ≡ all
    → Line closing f tail requests → Line (cond all (said closing) closing) f (cond all (tail ++ last_line closing) tail) (drop n requests)
line_left Open f tail requests n true all line = (line.0, append-nil tail ∙ line.1)
line_left Open f tail requests n false all line = line
line_left Quit f tail requests n true all line = (line.0, append-nil tail ∙ line.1)
line_left Quit f tail requests n false all line = line
line_left (Faulted why true) f tail requests n true all line =
    (line.0, rw line.1 refl, drop-all n requests (is_below (length requests) n all))
line_left (Faulted why true) f tail requests n false all line = line
line_left (Faulted why false) f tail requests n true all line = (line.0, append-nil tail ∙ line.1, drop-all n requests (is_below (length requests) n all))
line_left (Faulted why false) f tail requests n false all line = (line.0, line.1, drop-all n requests (rw line.2 (omega arith)))

empty_line : (all : Bool) (said tail : List Value) → (said ++ tail) ++ cond {A = List Value} all [] [] ≡ (said ++ []) ++ cond {A = List Value} all (tail ++ []) tail
empty_line true said tail = append-nil (said ++ tail) ∙ rw (append-nil said, append-nil tail) refl
empty_line false said tail = append-nil (said ++ tail) ∙ rw (append-nil said) refl

no_tail : (last said tail : List Value) (requests : List PendingReply) (stages : List PartStage) (ends : List Ended) (count : ℕ) (all : Bool)
    → count ≤ (replied requests stages ends).0 → tail ≡ []
    → (said ++ tail) ++ replies (take count requests) stages ends (cond {A = List Value} all last [])
    ≡ (said ++ replies (take count requests) stages ends []) ++ cond {A = List Value} all (tail ++ last) tail
no_tail last said tail requests stages ends count true in_order none =
    let first = take count requests in
    ap (λ vs. (said ++ vs) ++ replies first stages ends last) none ∙ ap (λ vs. vs ++ replies first stages ends last) (append-nil said)
    ∙ ap (λ vs. said ++ vs) (first_last count requests stages ends last in_order) ∙ sym (append_assoc said (replies first stages ends []) last)
    ∙ ap (λ vs. (said ++ replies first stages ends []) ++ (vs ++ last)) (sym none)
no_tail last said tail requests stages ends count false in_order none =
    let first = take count requests in
    ap (λ vs. (said ++ vs) ++ replies first stages ends []) none ∙ ap (λ vs. vs ++ replies first stages ends []) (append-nil said)
    ∙ sym (append-nil (said ++ replies first stages ends []))
    ∙ ap (λ vs. (said ++ replies first stages ends []) ++ vs) (sym none)

take_none : (count : ℕ) → ◌≡◌ {A = List PendingReply} (take count []) []
take_none zero = refl
take_none (suc count) = refl

-- what is drained stands behind what was
said_line : (closing : Closing) (f : Bool) (said tail : List Value) (requests : List PendingReply) (stages : List PartStage) (ends : List Ended) (count : ℕ) (all : Bool)
    → count ≤ (replied requests stages ends).0 → Line closing f tail requests
    → (said ++ tail) ++ replies (take count requests) stages ends (cond all (last_line closing) [])
    ≡ (said ++ replies (take count requests) stages ends []) ++ cond all (tail ++ last_line closing) tail
said_line Open f said tail requests stages ends count all in_order line = no_tail [] said tail requests stages ends count all in_order line.1
said_line Quit f said tail requests stages ends count all in_order line = no_tail [] said tail requests stages ends count all in_order line.1
said_line (Faulted why true) f said tail requests stages ends count all in_order line = no_tail (last_line (Faulted why true)) said tail requests stages ends count all in_order line.1
said_line (Faulted why false) f said tail requests stages ends count all in_order line =
    let none : take count requests ≡ [] = ap (take count) line.2 ∙ take_none count in
    ap (λ rs. (said ++ tail) ++ replies rs stages ends (cond {A = List Value} all [] [])) none ∙ empty_line all said tail
    ∙ ap (λ rs. (said ++ replies rs stages ends []) ++ cond {A = List Value} all (tail ++ []) tail) (sym none)

-- the output is the replies of the first requests, and what the others give
first_left : (t more : List (Ticket × Ended)) (first count : ℕ) (requests later : List PendingReply) (stages : List PartStage) (ends : List Ended) (last : List Value)
    → Tables t first stages ends → parts_of requests ≡ length stages → count ≤ (replied requests stages ends).0
    → replies_told (t ++ more) first (requests ++ later) last
    ≡ replies (take count requests) stages ends [] ++ replies_told (t ++ more) (first + parts_of (take count requests)) (drop count requests ++ later) last
first_left t more first count requests later stages ends last tables counted in_order =
    let some = take count requests in
    let others = drop count requests ++ later in
    let whole : requests ++ later ≡ some ++ others = ap (λ rs. rs ++ later) (sym (take-append-drop count requests)) ∙ append_assoc some (drop count requests) later in
    let pair : replied some stages ends ≡ (count, parts_of some) = first_replied count requests stages ends in_order in
    let parts : first + parts_of some ≡ first + (replied some stages ends).1 = ap (λ (n : ℕ × ℕ). first + n.1) (sym pair) in
    let none : drop (replied some stages ends).0 some ≡ [] = ap (λ (n : ℕ × ℕ). drop n.0 some) pair ∙ drop-all count some (take_few count requests) in
    ap (λ rs. replies_told (t ++ more) first rs last) whole
    ∙ replies_left some stages ends t more first (first + parts_of some) others last tables (omega (arith, parts_split count requests, counted)) parts
    ∙ ap (λ rs. replies some stages ends [] ++ replies_told (t ++ more) (first + parts_of some) (rs ++ others) last) none

lived_drained : (r : List (List (List ℕ))) (t : List (Ticket × Ended)) (f : Bool) (d : List ℕ) (most : ℕ) (old new : SessionModel) (bytes : List ℕ) → Drains most old bytes new
    → Lived r t f d old → Lived r t f (d ++ bytes) new
lived_drained r t f d most old new bytes drains l =
    let count = drains.count in
    let some = take count old.requests in
    let parts = parts_of some in
    let all = nat_le (length old.requests) count in
    subst (λ held. Lived r t f (d ++ bytes) held) (sym drains.left) (record {
      said = l.said ++ replies some old.stages old.ends [];
      tail = cond all (l.tail ++ last_line old.closing) l.tail;
      wrote = ap (λ before. before ++ bytes) l.wrote ∙ ap (λ more. bytes_of (l.said ++ l.tail) ++ more) drains.written.spelled
          ∙ sym (flat_map-append spelling (l.said ++ l.tail) (first_replies count old.requests old.stages old.ends (last_line old.closing)))
          ∙ ap bytes_of (said_line old.closing f l.said l.tail old.requests old.stages old.ends count all drains.written.in_order l.line);
      owing = λ more later last. l.owing more later last
          ∙ ap (λ vs. l.said ++ vs) (first_left t more old.first count old.requests later old.stages old.ends last l.tables l.counted drains.written.in_order)
          ∙ sym (append_assoc l.said (replies some old.stages old.ends []) (replies_told (t ++ more) (old.first + parts) (drop count old.requests ++ later) last));
      tables = tables_drop t old.first parts (old.first + parts) old.stages old.ends refl l.tables;
      counted = omega (arith, parts_split count old.requests, l.counted, length-drop parts old.stages);
      unused = λ k le. l.unused k (omega (arith, le, length-drop parts old.stages));
      line = line_left old.closing f l.tail old.requests count all refl l.line;
    })

same_held : (r : List (List (List ℕ))) (t : List (Ticket × Ended)) (f : Bool) (d : List ℕ) (old new : SessionModel) → new ≡ old → Lived r t f d old → Lived r t f d new
same_held r t f d old new is l = subst (λ held. Lived r t f d held) (sym is) l

fed : (r : List (List (List ℕ))) (t : List (Ticket × Ended)) (f : Bool) (d : List ℕ) (piece : List ℕ) (old : SessionModel) (result : Result ℕ SessionFault) (new : SessionModel)
    → FeedOutcome old piece result new → Lived r t f d old → Lived r t f d new
fed r t f d piece old (Ok n) new (inl (full, none, is, opened)) l = same_held r t f d old new is l
fed r t f d piece old (Ok n) new (inr (few, all, inl (opened, is))) l = moved r t f d old new (rw is refl) (rw is refl) (rw is refl) (rw is refl) (rw is refl) l
fed r t f d piece old (Ok n) new (inr (few, all, inr (quit, is))) l = same_held r t f d old new is l
fed r t f d piece old (Err NoMemory) new (may, is) l = same_held r t f d old new is l
fed r t f d piece old (Err (Wire fault)) new (faulted, is) l = same_held r t f d old new is l
fed r t f d piece old (Err NotRequest) new (faulted, is) l = same_held r t f d old new is l

still_faulted : (r : List (List (List ℕ))) (t : List (Ticket × Ended)) (f : Bool) (d : List ℕ) (why : Broken) (old new : SessionModel) → FaultedBy why old.closing → new ≡ old
    → Lived r t f d old → Lived r t true d new
still_faulted r t f d why old new (owed, closing) is l =
    subst (λ b. Lived r t b d new) (faulted_stays old.closing why owed f l.tail old.requests closing l.line) (same_held r t f d old new is l)

misread : (r : List (List (List ℕ))) (t : List (Ticket × Ended)) (f : Bool) (d : List ℕ) (old new : SessionModel) → ReadOutcome old (Err NotRequest) new → Lived r t f d old → Lived r t true d new
misread r t f d old new (inl (faulted, is)) l = still_faulted r t f d broken.NotRequest old new faulted is l
misread r t f d old new (inr (inl (may, takes, is))) l =
    broke r t f d broken.NotRequest old new (rw is refl) (rw is refl) (rw is refl) (rw is refl) may.0 (rw is refl) l
misread r t f d old new (inr (inr (may, words, rest, reads, is))) l =
    broke r t f d broken.NotRequest old new (rw is refl) (rw is refl) (rw is refl) (rw is refl) may.0 (rw is refl) l

garbled : (r : List (List (List ℕ))) (t : List (Ticket × Ended)) (f : Bool) (d : List ℕ) (fault : WireFault) (old new : SessionModel) → ReadOutcome old (Err (Wire fault)) new → Lived r t f d old → Lived r t true d new
garbled r t f d fault old new (inl (faulted, is)) l = still_faulted r t f d (broken.Wire fault) old new faulted is l
garbled r t f d fault old new (inr (may, first, is)) l = broke r t f d (broken.Wire fault) old new (rw is refl) (rw is refl) (rw is refl) (rw is refl) may.0 (rw is refl) l

wanting : (r : List (List (List ℕ))) (t : List (Ticket × Ended)) (f : Bool) (d : List ℕ) (old new : SessionModel) → ReadOutcome old (Err NoMemory) new → Lived r t f d old → Lived r t f d new
wanting r t f d old new (may, keeps, is) l = moved r t f d old new (rw is refl) (rw is refl) (rw is refl) (rw is refl) (rw is refl) l

-- the part at i is handed out
handed_at : (r : List (List (List ℕ))) (t : List (Ticket × Ended)) (f : Bool) (d : List ℕ) (old new : SessionModel) (i : ℕ) (part : PartModel) → slice_get old.stages i ≡ Some (Waiting part)
    → new ≡ record old { stages = handed_out old.stages i part } → Lived r t f d old → Lived r t f d new
handed_at r t f d old new i part at is l = subst (λ held. Lived r t f d held) (sym is) (record {
  said = l.said;
  tail = l.tail;
  wrote = l.wrote;
  owing = l.owing;
  tables = tables_set t old.first i old.stages old.ends (Waiting part) (Out (slot_of part.key)) at refl l.tables;
  counted = l.counted ∙ sym (length-set old.stages i (Out (slot_of part.key)));
  unused = λ k le. l.unused k (omega (arith, le, length-set old.stages i (Out (slot_of part.key))));
  line = l.line;
})

handed : (r : List (List (List ℕ))) (t : List (Ticket × Ended)) (f : Bool) (d : List ℕ) (old : SessionModel) (given : Option (Ticket × PartModel)) (new : SessionModel) → ReadyOutcome old given new
    → Lived r t f d old → Lived r t f d new
handed r t f d old None new (none, is) l = same_held r t f d old new is l
handed r t f d old (Some (ticket, part)) new (i, (may, earliest, at), numbered, is) l = handed_at r t f d old new i part at is l

followed : (r : List (List (List ℕ))) (t : List (Ticket × Ended)) (f : Bool) (d : List ℕ) (old : SessionModel) (ticket : Ticket) (given : Option (Ticket × PartModel)) (new : SessionModel) → FollowerOutcome old ticket given new
    → Lived r t f d old → Lived r t f d new
followed r t f d old ticket None new (none, is) l = same_held r t f d old new is l
followed r t f d old ticket (Some (given, part)) new (j, follows, numbered, is) l = handed_at r t f d old new j part follows.waits is l

ended : (r : List (List (List ℕ))) (t : List (Ticket × Ended)) (f : Bool) (d : List ℕ) (ticket : Ticket) (end : Ended) (old new : SessionModel) → IsHandedOut old ticket → EndOutcome old ticket end new
    → Lived r t f d old → Lived r (t ++ (ticket, end) ∷ []) f d new
ended r t f d ticket end old new (slot, le, posted, w, c) is l =
    let i = ticket.part - old.first in
    let within : i < length old.stages = slice_get_within old.stages i (Out slot) posted in
    subst (λ held. Lived r (t ++ (ticket, end) ∷ []) f d held) (sym is) (record {
      said = l.said;
      tail = l.tail;
      wrote = l.wrote;
      owing = λ more later last. rw (append_assoc t ((ticket, end) ∷ []) more) (l.owing ((ticket, end) ∷ more) later last);
      tables = tables_end t ticket end old.first i old.stages old.ends (Out slot) posted refl (omega (arith, le)) l.tables;
      counted = l.counted ∙ sym (length-set old.stages i Done);
      unused = λ k past. end_other t ticket end k (eqb-no ticket.part k (λ same. omega (arith, same, past, within, le, length-set old.stages i Done)))
          ∙ l.unused k (omega (arith, past, length-set old.stages i Done));
      line = l.line;
    })

step : (r : List (List (List ℕ))) (t : List (Ticket × Ended)) (f : Bool) (d : List ℕ) (call : SessionCall) (old new : SessionModel) → SessionDoes old call new → Lived r t f d old
    → Lived (r ++ read_by call) (t ++ told_by call) (f || met_fault call) (d ++ drained_by call) new
step r t f d (Fed piece result) old new does l = plain r t f d new (fed r t f d piece old result new does l)
step r t f d (Read (Ok true) (Some words)) old new (may, rest, reads) l =
    rw (append-nil t, or-false f, append-nil d) (lived_words r t f d old rest new words may.0 reads l)
step r t f d (Read (Ok true) None) old new (may, takes, is) l =
    plain r t f d new (moved r t f d old new (rw is refl) (rw is refl) (rw is refl) (rw is refl) (rw is refl) l)
step r t f d (Read (Ok false) None) old new (is, why) l = plain r t f d new (same_held r t f d old new is l)
step r t f d (Read (Ok false) (Some words)) old new does l = absurd does
step r t f d (Read (Err NoMemory) None) old new does l = plain r t f d new (wanting r t f d old new does l)
step r t f d (Read (Err (Wire fault)) None) old new does l = rw (append-nil r, append-nil t, or-true f, append-nil d) (garbled r t f d fault old new does l)
step r t f d (Read (Err NotRequest) None) old new does l = rw (append-nil r, append-nil t, or-true f, append-nil d) (misread r t f d old new does l)
step r t f d (Read (Err NoMemory) (Some words)) old new does l = absurd does
step r t f d (Read (Err (Wire fault)) (Some words)) old new does l = absurd does
step r t f d (Read (Err NotRequest) (Some words)) old new does l = absurd does
step r t f d (Handed given) old new does l = plain r t f d new (handed r t f d old given new does l)
step r t f d (Followed ticket given) old new does l = plain r t f d new (followed r t f d old ticket given new does l)
step r t f d (Told ticket end) old new (out, ends) l = rw (append-nil r, or-false f, append-nil d) (ended r t f d ticket end old new out ends l)
step r t f d (Drained most (Ok n) bytes) old new (own, is_bytes, count, drains) l =
    rw (append-nil r, append-nil t, or-false f, is_bytes) (lived_drained r t f d most old new own drains l)
step r t f d (Drained most (Err refused) bytes) old new (is_bytes, is) l = rw is_bytes (plain r t f d new (same_held r t f d old new is l))

or_assoc : (a b c : Bool) → (a || b) || c ≡ a || (b || c)
or_assoc true b c = refl
or_assoc false b c = refl

steps : (calls : List SessionCall) (r : List (List (List ℕ))) (t : List (Ticket × Ended)) (f : Bool) (d : List ℕ) (old new : SessionModel) → FoldsTo SessionDoes old calls new → Lived r t f d old
    → Lived (r ++ flat_map read_by calls) (t ++ flat_map told_by calls) (f || list_any met_fault calls) (d ++ flat_map drained_by calls) new
steps [] r t f d old new same l = plain r t f d new (subst (λ held. Lived r t f d held) same l)
steps (call ∷ calls) r t f d old new (mid, does, more) l =
    rw (
      ← append_assoc r (read_by call) (flat_map read_by calls),
      ← append_assoc t (told_by call) (flat_map told_by calls),
      ← or_assoc f (met_fault call) (list_any met_fault calls),
      ← append_assoc d (drained_by call) (flat_map drained_by calls),
    )
    (steps calls (r ++ read_by call) (t ++ told_by call) (f || met_fault call) (d ++ drained_by call) mid new more (step r t f d call old mid does l))

at_first : (worker client : ℕ) (bounds : LimitsModel) → Lived [] [] false [] (fresh worker client bounds)
at_first worker client bounds = record {
  said = [];
  tail = [];
  wrote = refl;
  owing = λ more later last. refl;
  tables = tt;
  counted = refl;
  unused = λ k le. refl;
  line = (refl, refl);
}

-- the last of some calls
last_call : (calls : List SessionCall) (call : SessionCall) (old new : SessionModel) → FoldsTo SessionDoes old (calls ++ call ∷ []) new → (mid : SessionModel) × FoldsTo SessionDoes old calls mid × SessionDoes mid call new
last_call [] call old new (mid, does, same) = (old, refl, subst (λ held. SessionDoes old call held) same does)
last_call (c ∷ cs) call old new (next, does, more) = let rest = last_call cs call next new more in (rest.0, (next, does, rest.1), rest.2)

by_reads : (old : SessionModel) (result : Result Bool SessionFault) (new : SessionModel) → ReadOutcome old result new → (words : Option (List (List ℕ))) × Reads old result words new
by_reads old (Ok true) new (may, inl (words, rest, reads)) = (Some words, (may, rest, reads))
by_reads old (Ok true) new (may, inr (takes, is)) = (None, (may, takes, is))
by_reads old (Ok false) new does = (None, does)
by_reads old (Err fault) new does = (None, does)

balance : (worker client : ℕ) (bounds : LimitsModel) (calls : List SessionCall) (held : SessionModel) → FoldsTo SessionDoes (fresh worker client bounds) calls held
    → flat_map drained_by calls ++ output held ≡ output_for calls
balance worker client bounds calls held runs =
    let read = flat_map read_by calls in
    let told = flat_map told_by calls in
    let lines = lines_owed (list_any met_fault calls) in
    balanced (flat_map read_by calls) (flat_map told_by calls) (list_any met_fault calls) (flat_map drained_by calls) held
    (steps calls [] [] false [] (fresh worker client bounds) held runs (at_first worker client bounds))
    ∙ ap (λ (rs : List (List (List ℕ))). bytes_of (replies_told told 0 (map owed_for rs) lines)) (sym (quit_is_last worker client bounds calls held runs))

any_push : (calls : List SessionCall) (most n : ℕ) (bytes : List ℕ) → list_any met_fault (calls ++ Drained most (Ok n) bytes ∷ []) ≡ list_any met_fault calls
any_push [] most n bytes = refl
any_push (c ∷ cs) most n bytes = ap (λ (b : Bool). met_fault c || b) (any_push cs most n bytes)

all_bytes : (most n : ℕ) (old new : SessionModel) (bytes : List ℕ) → n < most → DrainOutcome most old [] (Ok n) new bytes → bytes ≡ output old
all_bytes most n old new bytes less (own, is_bytes, count, drains) = is_bytes ∙ (drains.all (subst (λ k. k < most) count less)).0

all_drained : (worker client : ℕ) (bounds : LimitsModel) (calls : List SessionCall) (most n : ℕ) (bytes : List ℕ) (held : SessionModel) → n < most
    → FoldsTo SessionDoes (fresh worker client bounds) (calls ++ Drained most (Ok n) bytes ∷ []) held
    → flat_map drained_by (calls ++ Drained most (Ok n) bytes ∷ []) ≡ output_for (calls ++ Drained most (Ok n) bytes ∷ [])
all_drained worker client bounds calls most n bytes held less runs =
    let last = last_call calls (Drained most (Ok n) bytes) (fresh worker client bounds) held runs in
    rw (
      flat_map-append read_by calls (Drained most (Ok n) bytes ∷ []),
      flat_map-append told_by calls (Drained most (Ok n) bytes ∷ []),
      flat_map-append drained_by calls (Drained most (Ok n) bytes ∷ []),
      any_push calls most n bytes,
      append-nil (flat_map read_by calls),
      append-nil (flat_map told_by calls),
      append-nil bytes,
      all_bytes most n last.0 held bytes less last.2,
    )
    (balance worker client bounds calls last.0 last.1)

pub drains_output : DrainsOutput
drains_output = record {
  balance = balance;
  all_drained = all_drained;
  reads = by_reads;
  quit_is_last = quit_is_last;
}
