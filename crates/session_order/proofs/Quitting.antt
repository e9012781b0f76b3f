-- No request is read behind one that ends the session.
use Rattle.std.proofs.Common.{◌≡◌, ◌++◌, ◌∷◌, [], List, ℕ, length, take, refl, ap, sym, ◌∙◌, inl, inr, Option, Some, None, Result, Ok, Err, append_assoc, cond, true, false, Bool}
use Rattle.std.specs.Prelude.{nat_le}
use Rattle.std.specs.List.{list_any, flat_map, FoldsTo}
use Rattle.std.proofs.lemmas.List.{append-nil}
use Rattle.std.proofs.lemmas.Bool.{or_from, or_parts}
use Rattle.resp_wire.specs.LimitsModel.{LimitsModel}
use Rattle.key_split.specs.PartModel.{PartModel}
use Rattle.key_split.specs.declared.travel.Ticket.{Ticket}
use Rattle.key_split.specs.declared.planned.Planned.{Planned}
use Rattle.key_split.specs.declared.planned.Planned.TheVariants as planned
use Rattle.key_split.specs.declared.planned.PlanFault.{PlanFault}
use Rattle.session_order.specs.declared.closing.Closing.{Closing}
use Rattle.session_order.specs.declared.closing.Closing.TheVariants.{Open, Quit, Faulted}
use Rattle.session_order.specs.declared.fault.SessionFault.{SessionFault}
use Rattle.session_order.specs.declared.fault.SessionFault.TheVariants.{NoMemory, Wire, NotRequest}
use Rattle.session_order.specs.PendingReply.{plan_for, ends_session}
use Rattle.session_order.specs.SessionModel.{SessionModel}
use Rattle.session_order.specs.Replies.{parts_of, said, without}
use Rattle.session_order.specs.Steps.{added, with_incoming, FeedOutcome, ReadOutcome, ReadyOutcome, FollowerOutcome}
use Rattle.session_order.specs.Output.{until_quit}
use Rattle.session_order.specs.Life.{SessionCall, Fed, Read, Handed, Followed, Told, Drained, SessionDoes, read_by, fresh}
use Rattle.session_order.proofs.Told.{split_ok}

abbrev quits : List (List ℕ) → Bool
quits words = ends_session (plan_for words)

-- a session that is open has read no request that ends it
abbrev Quits : List (List (List ℕ)) → SessionModel → Type 0
Quits read held = (until_quit read ≡ read) × (held.closing ≡ Open → list_any quits read ≡ false)

quit_at : (b : Bool) (w : List (List ℕ)) (ws : List (List (List ℕ))) (rest : List (List (List ℕ))) → b ≡ false → rest ≡ ws → w ∷ cond {A = List (List (List ℕ))} b [] rest ≡ w ∷ ws
quit_at true w ws rest open_is same = cc
quit_at false w ws rest open_is same = ap (λ xs. w ∷ xs) same

quit_one : (b : Bool) (w : List (List ℕ)) → w ∷ cond {A = List (List (List ℕ))} b [] [] ≡ w ∷ []
quit_one true w = refl
quit_one false w = refl

quit_push : (read : List (List (List ℕ))) (words : List (List ℕ)) → list_any quits read ≡ false → until_quit (read ++ words ∷ []) ≡ read ++ words ∷ []
quit_push [] words none = quit_one (quits words) words
quit_push (w ∷ ws) words none =
    let both = or_parts (quits w) (list_any quits ws) none in
    quit_at (quits w) w (ws ++ words ∷ []) (until_quit (ws ++ words ∷ [])) both.0 (quit_push ws words both.1)

any_last : (read : List (List (List ℕ))) (words : List (List ℕ)) → list_any quits read ≡ false → quits words ≡ false → list_any quits (read ++ words ∷ []) ≡ false
any_last [] words none last = or_from (quits words) false last refl
any_last (w ∷ ws) words none last =
    let both = or_parts (quits w) (list_any quits ws) none in
    or_from (quits w) (list_any quits (ws ++ words ∷ [])) both.0 (any_last ws words both.1 last)

added_open : (old new : SessionModel) (plan : Result Planned PlanFault) → added old plan ≡ Ok new → new.closing ≡ Open → ends_session plan ≡ false
added_open old new (Err fault) adds opened = refl
added_open old new (Ok (planned.Local value)) adds opened = refl
added_open old new (Ok (planned.Parts how parts)) adds opened = refl
added_open old new (Ok planned.Close) adds opened =
    let now = split_ok true _ new adds in
    let quit : new.closing ≡ Quit = rw now refl in cc

quits_same : (r : List (List (List ℕ))) (old new : SessionModel) → (new.closing ≡ Open → old.closing ≡ Open) → Quits r old → Quits (r ++ []) new
quits_same r old new back (last, none) = rw (append-nil r) (last, λ opened. none (back opened))

pub said_open : (b : Bool) (closing : Closing) → cond b (said closing) closing ≡ Open → closing ≡ Open
said_open true Open is = is
said_open true Quit is = is
said_open true (Faulted why owed) is = cc
said_open false closing is = is

pub fed_back : (piece : List ℕ) (old : SessionModel) (result : Result ℕ SessionFault) (new : SessionModel) → FeedOutcome old piece result new → new.closing ≡ old.closing
fed_back piece old (Ok n) new (inl (full, none, is, opened)) = rw is refl
fed_back piece old (Ok n) new (inr (few, all, inl (opened, is))) = rw is refl
fed_back piece old (Ok n) new (inr (few, all, inr (quit, is))) = rw is refl
fed_back piece old (Err NoMemory) new (may, is) = rw is refl
fed_back piece old (Err (Wire fault)) new (faulted, is) = rw is refl
fed_back piece old (Err NotRequest) new (faulted, is) = rw is refl

err_back : (old : SessionModel) (fault : SessionFault) (new : SessionModel) → ReadOutcome old (Err fault) new → new.closing ≡ Open → old.closing ≡ Open
err_back old NoMemory new (may, keeps, is) opened = may.0
err_back old (Wire fault) new (inl (faulted, is)) opened = rw is at opened
err_back old (Wire fault) new (inr (may, first, is)) opened = may.0
err_back old NotRequest new (inl (faulted, is)) opened = rw is at opened
err_back old NotRequest new (inr (inl (may, takes, is))) opened = may.0
err_back old NotRequest new (inr (inr (may, words, rest, reads, is))) opened = may.0

pub handed_back : (old : SessionModel) (given : Option (Ticket × PartModel)) (new : SessionModel) → ReadyOutcome old given new → new.closing ≡ old.closing
handed_back old None new (none, is) = rw is refl
handed_back old (Some given) new (i, next, numbered, is) = rw is refl

pub followed_back : (old : SessionModel) (ticket : Ticket) (given : Option (Ticket × PartModel)) (new : SessionModel) → FollowerOutcome old ticket given new → new.closing ≡ old.closing
followed_back old ticket None new (none, is) = rw is refl
followed_back old ticket (Some given) new (j, follows, numbered, is) = rw is refl

quit_step : (r : List (List (List ℕ))) (call : SessionCall) (old new : SessionModel) → SessionDoes old call new → Quits r old → Quits (r ++ read_by call) new
quit_step r (Fed piece result) old new does q = quits_same r old new (λ o. sym (fed_back piece old result new does) ∙ o) q
quit_step r (Read (Ok true) (Some words)) old new (may, rest, reads) (last, none) =
    (quit_push r words (none may.0), λ opened. any_last r words (none may.0) (added_open (with_incoming old rest) new (plan_for words) reads.1 opened))
quit_step r (Read (Ok true) None) old new (may, takes, is) q = quits_same r old new (λ o. may.0) q
quit_step r (Read (Ok false) None) old new (is, why) q = quits_same r old new (λ o. rw is at o) q
quit_step r (Read (Ok false) (Some words)) old new does q = absurd does
quit_step r (Read (Err fault) None) old new does q = quits_same r old new (err_back old fault new does) q
quit_step r (Read (Err fault) (Some words)) old new does q = absurd does
quit_step r (Handed given) old new does q = quits_same r old new (λ o. sym (handed_back old given new does) ∙ o) q
quit_step r (Followed ticket given) old new does q = quits_same r old new (λ o. sym (followed_back old ticket given new does) ∙ o) q
quit_step r (Told ticket end) old new (out, is) q = let same : new.closing ≡ old.closing = rw is refl in quits_same r old new (λ o. sym same ∙ o) q
quit_step r (Drained most (Ok n) bytes) old new (own, is_bytes, count, drains) q =
    let same : new.closing ≡ (without old (drains.count, parts_of (take drains.count old.requests))).closing = rw drains.left refl in
    quits_same r old new (λ o. said_open (nat_le (length old.requests) drains.count) old.closing (sym same ∙ o)) q
quit_step r (Drained most (Err refused) bytes) old new (is_bytes, is) q = let same : new.closing ≡ old.closing = rw is refl in quits_same r old new (λ o. sym same ∙ o) q

quit_steps : (calls : List SessionCall) (r : List (List (List ℕ))) (old new : SessionModel) → FoldsTo SessionDoes old calls new → Quits r old → Quits (r ++ flat_map read_by calls) new
quit_steps [] r old new same q = quits_same r old new (λ o. (let is : old.closing ≡ new.closing = ap (λ held. held.closing) same in is ∙ o)) q
quit_steps (call ∷ calls) r old new (mid, does, more) q =
    rw (← append_assoc r (read_by call) (flat_map read_by calls)) (quit_steps calls (r ++ read_by call) mid new more (quit_step r call old mid does q))

pub quit_is_last : (worker client : ℕ) (bounds : LimitsModel) (calls : List SessionCall) (held : SessionModel) → FoldsTo SessionDoes (fresh worker client bounds) calls held
    → until_quit (flat_map read_by calls) ≡ flat_map read_by calls
quit_is_last worker client bounds calls held runs = (quit_steps calls [] (fresh worker client bounds) held runs (refl, λ opened. refl)).0
