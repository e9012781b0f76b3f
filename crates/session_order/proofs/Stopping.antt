-- A session that reads no more.
use Rattle.std.proofs.Common.{◌≡◌, ◌≢◌, ◌∙◌, ℕ, List, Bool, true, false, Result, Ok, Err, inl, inr, refl, ap, sym, take, length}
use Rattle.std.specs.Prelude.{nat_le}
use Rattle.resp_wire.specs.declared.fault.NoMemory.{NoMemory}
use Rattle.session_order.specs.declared.closing.Closing.{Closing}
use Rattle.session_order.specs.declared.closing.Closing.TheVariants.{Open, Quit, Faulted}
use Rattle.session_order.specs.declared.fault.SessionFault.{SessionFault}
use Rattle.session_order.specs.declared.fault.SessionFault.TheVariants as session_fault
use Rattle.session_order.specs.declared.fault.SessionFault.TheVariants.{Wire, NotRequest}
use Rattle.session_order.specs.SessionModel.{SessionModel}
use Rattle.session_order.specs.Replies.{DrainOutcome, last_line, output, parts_of, without, bytes_of, replies}
use Rattle.session_order.specs.Steps.{ReadOutcome}
use Rattle.session_order.specs.Stopping.{ReadsNoMore, StaysClosed, closed, without_reading}
use Rattle.session_order.proofs.Quitting.{fed_back, followed_back, handed_back, said_open}

closed_shut : (closing : Closing) → closed closing ≢ Open
closed_shut Open is = cc
closed_shut Quit is = cc
closed_shut (Faulted why owed) is = cc

same_line : (closing : Closing) → last_line (closed closing) ≡ last_line closing
same_line Open = refl
same_line Quit = refl
same_line (Faulted why owed) = refl

stops : (held : SessionModel) → ReadsNoMore (without_reading held) × (output (without_reading held) ≡ output held)
stops held = (closed_shut held.closing, ap (λ line. bytes_of (replies held.requests held.stages held.ends line)) (same_line held.closing))

-- what does not open reads no more
shut_by : (old new : SessionModel) → (new.closing ≡ Open → old.closing ≡ Open) → ReadsNoMore old → ReadsNoMore new
shut_by old new back shut opened = shut (back opened)

none_read : (result : Result Bool SessionFault) → result ≡ Ok false → result ≢ Ok true
none_read result none is = cc

failed_read : (result : Result Bool SessionFault) (fault : SessionFault) → result ≡ Err fault → result ≢ Ok true
failed_read result fault failed is = cc

reads_none : (old : SessionModel) (result : Result Bool SessionFault) (new : SessionModel) → ReadOutcome old result new → ReadsNoMore old → (result ≢ Ok true) × (new ≡ old)
reads_none old (Ok true) new (may, how) shut = absurd (shut may.0)
reads_none old (Ok false) new (is, why) shut = (none_read (Ok false) refl, is)
reads_none old (Err session_fault.NoMemory) new (may, keeps, is) shut = absurd (shut may.0)
reads_none old (Err (Wire fault)) new (inl (faulted, is)) shut = (failed_read (Err (Wire fault)) (Wire fault) refl, is)
reads_none old (Err (Wire fault)) new (inr (may, first, is)) shut = absurd (shut may.0)
reads_none old (Err NotRequest) new (inl (faulted, is)) shut = (failed_read (Err NotRequest) NotRequest refl, is)
reads_none old (Err NotRequest) new (inr (inl (may, takes, is))) shut = absurd (shut may.0)
reads_none old (Err NotRequest) new (inr (inr (may, words, rest, reads, is))) shut = absurd (shut may.0)

drained_back : (most : ℕ) (old : SessionModel) (before : List ℕ) (result : Result ℕ NoMemory) (new : SessionModel) (after : List ℕ)
    → DrainOutcome most old before result new after → new.closing ≡ Open → old.closing ≡ Open
drained_back most old before (Ok n) new after (own, is_bytes, count, drains) opened =
    let same : new.closing ≡ (without old (drains.count, parts_of (take drains.count old.requests))).closing = ap (λ (held : SessionModel). held.closing) drains.left in
    said_open (nat_le (length old.requests) drains.count) old.closing (sym same ∙ opened)
drained_back most old before (Err refused) new after (is_bytes, is) opened = (let same : new.closing ≡ old.closing = ap (λ (held : SessionModel). held.closing) is in sym same ∙ opened)

quit_shut : (closing : Closing) → closing ≡ Quit → closing ≢ Open
quit_shut closing quit opened = cc

pub stays_closed : StaysClosed
stays_closed = record {
  stop = stops;
  read = reads_none;
  feed = λ old piece result new does. shut_by old new (λ opened. sym (fed_back piece old result new does) ∙ opened);
  ready = λ old given new does. shut_by old new (λ opened. sym (handed_back old given new does) ∙ opened);
  follower = λ old ticket given new does. shut_by old new (λ opened. sym (followed_back old ticket given new does) ∙ opened);
  ended = λ old ticket end new does. shut_by old new (λ opened. sym (ap (λ (held : SessionModel). held.closing) does) ∙ opened);
  drain = λ most old before result new after does. shut_by old new (drained_back most old before result new after does);
  hang_up = λ old new does. quit_shut new.closing does.unread.2;
}
