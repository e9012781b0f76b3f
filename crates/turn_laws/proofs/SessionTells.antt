-- The ends that a session holds at the places of its parts are those that it was told.
use Rattle.std.proofs.Common.{◌≡◌, inl, inr, ◌++◌, ◌∷◌, [], ◌+◌, ◌-◌, ◌≤◌, ◌^◌, List, ℕ, refl, sym, subst, ◌∙◌, arith, Option, Some, None, Result, Ok, Err, Bool, true, false, length, take, length-append, length-drop}
use Rattle.std.specs.Prelude.{map, nat_le, replicate, slice_get, slice_set}
use Rattle.std.proofs.lemmas.List.{append-nil, length-map, length-set}
use Rattle.std.proofs.lemmas.Option.{slice_get_within}
use Rattle.slot_hash.specs.Slot.{slot_of}
use Rattle.key_split.specs.PartModel.{PartModel}
use Rattle.key_split.specs.declared.planned.Planned.{Planned}
use Rattle.key_split.specs.declared.planned.Planned.TheVariants as planned
use Rattle.key_split.specs.declared.planned.PlanFault.{PlanFault}
use Rattle.key_split.specs.declared.travel.Ticket.{Ticket}
use Rattle.key_split.specs.declared.travel.Ended.{Ended}
use Rattle.key_split.specs.declared.travel.Ended.TheVariants.{Lost}
use Rattle.session_order.specs.SessionModel.{SessionModel}
use Rattle.session_order.specs.declared.queue.PartStage.TheVariants.{Waiting, Out, Done}
use Rattle.session_order.specs.declared.closing.Closing.TheVariants.{Quit}
use Rattle.session_order.specs.declared.fault.SessionFault.{SessionFault}
use Rattle.session_order.specs.declared.fault.SessionFault.TheVariants as session_fault
use Rattle.session_order.specs.declared.fault.SessionFault.TheVariants.{Wire, NotRequest}
use Rattle.session_order.specs.PendingReply.{plan_for}
use Rattle.session_order.specs.Replies.{parts_of, without}
use Rattle.session_order.specs.Steps.{EndOutcome, IsHandedOut, added, with_incoming, with_owed}
use Rattle.session_order.specs.Output.{end_of}
use Rattle.session_order.specs.Life.{SessionCall, Fed, Read, Handed, Followed, Told, Drained, Reads, SessionDoes, told_by}
use Rattle.session_order.proofs.Lists.{eqb-no}
use Rattle.session_order.proofs.Told.{Tables, end_other, split_ok, tables_append, tables_drop, tables_end, tables_new, tables_set}

-- each part that is done has the end that was told of it, and of the others none was told
abbrev pub HasTold : List (Ticket × Ended) → SessionModel → Type 0
HasTold told held = Tables told held.first held.stages held.ends × ((number : ℕ) → held.first + length held.stages ≤ number → end_of told number ≡ None)

-- a call that tells nothing
none-told : (told : List (Ticket × Ended)) (new : SessionModel) → HasTold told new → HasTold (told ++ []) new
none-told told new h = subst (λ es. HasTold es new) (sym (append-nil told)) h

same-told : (told : List (Ticket × Ended)) (other new : SessionModel) → new ≡ other → HasTold told other → HasTold (told ++ []) new
same-told told other new is h = none-told told new (subst (HasTold told) (sym is) h)

-- a part is handed out
handed-told : (told : List (Ticket × Ended)) (old : SessionModel) (i slot : ℕ) (part : PartModel) → slice_get old.stages i ≡ Some (Waiting part) → HasTold told old
    → HasTold told (record old { stages = slice_set old.stages i (Out slot) })
handed-told told old i slot part at (tables, unused) =
    (tables_set told old.first i old.stages old.ends (Waiting part) (Out slot) at refl tables, λ number le. unused number (omega (arith, le, length-set old.stages i (Out slot))))

-- a plan is added
added-told : (told : List (Ticket × Ended)) (old : SessionModel) (plan : Result Planned PlanFault) (new : SessionModel) → added old plan ≡ Ok new → HasTold told old → HasTold told new
added-told told old (Err fault) new is h = subst (HasTold told) (sym (split_ok true (with_owed old (Err fault)) new is)) h
added-told told old (Ok (planned.Local value)) new is h = subst (HasTold told) (sym (split_ok true (with_owed old (Ok (planned.Local value))) new is)) h
added-told told old (Ok planned.Close) new is h = subst (HasTold told) (sym (split_ok true (record (with_owed old (Ok planned.Close)) { closing = Quit }) new is)) h
added-told told old (Ok (planned.Parts how parts)) new is (tables, unused) =
    subst (HasTold told) (sym (split_ok (nat_le (old.first + length old.stages + length parts) (2 ^ 48)) _ new is)) (
      tables_append told old.first (old.first + length old.stages) old.stages (map Waiting parts) old.ends (replicate (length parts) Lost) refl tables (tables_new told (old.first + length old.stages) parts unused),
      λ number le. unused number (omega (arith, le, length-append old.stages (map Waiting parts), length-map parts Waiting)),
    )

-- an end is told
ended-told : (told : List (Ticket × Ended)) (old : SessionModel) (ticket : Ticket) (end : Ended) (new : SessionModel) → IsHandedOut old ticket → EndOutcome old ticket end new → HasTold told old
    → HasTold (told ++ (ticket, end) ∷ []) new
ended-told told old ticket end new (slot, low, at, worker, client) is (tables, unused) =
    let i : ℕ = ticket.part - old.first in
    let within = slice_get_within old.stages i (Out slot) at in
    subst (HasTold (told ++ (ticket, end) ∷ [])) (sym is) (
      tables_end told ticket end old.first i old.stages old.ends (Out slot) at refl (omega (arith, low)) tables,
      λ number past.
          let long = length-set old.stages i Done in
          end_other told ticket end number (eqb-no ticket.part number (λ same. omega (arith, same, past, within, low, long))) ∙ unused number (omega (arith, past, long)),
    )

-- replies are drained
drained-told : (told : List (Ticket × Ended)) (old : SessionModel) (count : ℕ) → HasTold told old → HasTold told (without old (count, parts_of (take count old.requests)))
drained-told told old count (tables, unused) =
    let m : ℕ = parts_of (take count old.requests) in (
      tables_drop told old.first m (old.first + m) old.stages old.ends refl tables,
      λ number le. unused number (omega (arith, le, length-drop m old.stages)),
    )

read-told : (told : List (Ticket × Ended)) (result : Result Bool SessionFault) (words : Option (List (List ℕ))) (old new : SessionModel) → Reads old result words new → HasTold told old → HasTold (told ++ []) new
read-told told (Ok true) (Some words) old new (may, rest, (next, is)) h = none-told told new (added-told told (with_incoming old rest) (plan_for words) new is h)
read-told told (Ok true) None old new (may, takes, is) h = same-told told _ new is h
read-told told (Ok false) None old new (is, why) h = same-told told _ new is h
read-told told (Ok false) (Some words) old new does h = absurd does
read-told told (Err session_fault.NoMemory) None old new (may, keeps, is) h = same-told told _ new is h
read-told told (Err (Wire fault)) None old new (inl (was, is)) h = same-told told _ new is h
read-told told (Err (Wire fault)) None old new (inr (may, garbled, is)) h = same-told told _ new is h
read-told told (Err NotRequest) None old new (inl (was, is)) h = same-told told _ new is h
read-told told (Err NotRequest) None old new (inr (inl (may, takes, is))) h = same-told told _ new is h
read-told told (Err NotRequest) None old new (inr (inr (may, words, rest, refused, is))) h = same-told told _ new is h
read-told told (Err session_fault.NoMemory) (Some words) old new does h = absurd does
read-told told (Err (Wire fault)) (Some words) old new does h = absurd does
read-told told (Err NotRequest) (Some words) old new does h = absurd does

pub tells : (told : List (Ticket × Ended)) (call : SessionCall) (old new : SessionModel) → SessionDoes old call new → HasTold told old → HasTold (told ++ told_by call) new
tells told (Fed piece (Ok n)) old new (inl (full-up, none, is, opened)) h = same-told told _ new is h
tells told (Fed piece (Ok n)) old new (inr (few, all, inl (opened, is))) h = same-told told _ new is h
tells told (Fed piece (Ok n)) old new (inr (few, all, inr (quit, is))) h = same-told told _ new is h
tells told (Fed piece (Err session_fault.NoMemory)) old new (may, is) h = same-told told _ new is h
tells told (Fed piece (Err (Wire fault))) old new (was, is) h = same-told told _ new is h
tells told (Fed piece (Err NotRequest)) old new (was, is) h = same-told told _ new is h
tells told (Read result words) old new does h = read-told told result words old new does h
tells told (Handed None) old new (none, is) h = same-told told _ new is h
tells told (Handed (Some (ticket, part))) old new (i, (may, earliest, at), numbered, is) h = same-told told _ new is (handed-told told old i (slot_of part.key) part at h)
tells told (Followed last None) old new (none, is) h = same-told told _ new is h
tells told (Followed last (Some (ticket, part))) old new (i, follows, numbered, is) h = same-told told _ new is (handed-told told old i (slot_of part.key) part follows.waits h)
tells told (Told ticket end) old new (out, is) h = ended-told told old ticket end new out is h
tells told (Drained most (Ok n) bytes) old new (own, is-own, all, written) h = same-told told _ new written.left (drained-told told old written.count h)
tells told (Drained most (Err refused) bytes) old new (none, is) h = same-told told _ new is h
