-- What is found first in what is left of a script.
use Rattle.std.proofs.Common.{◌≡◌, ◌<◌, ◌≤◌, ◌+◌, ◌^◌, List, ℕ, Bool, true, false, Some, None, Result, Ok, Err, IfOk, length, refl, sym, ap, subst, ◌∙◌, cond, arith, rules, inl, inr}
use Rattle.std.specs.Prelude.{nat_le}
use Rattle.resp_wire.specs.FirstValue.{Front, Whole, Partial, Faulty, front, ReaderTakes}
use Rattle.resp_wire.specs.ReaderModel.{ReaderModel}
use Rattle.resp_wire.specs.Laws.{FrontIsWhole}
use Rattle.resp_wire.specs.Seen.{data_of}
use Rattle.resp_wire.specs.declared.fault.WireFault.{WireFault}
use Rattle.resp_wire.specs.declared.fault.WireFault.TheVariants as wire
use Rattle.resp_wire.specs.declared.fault.NoMemory.{NoMemory}
use Rattle.resp_wire.specs.declared.value.Value.{Value}
use Rattle.key_split.specs.PartModel.{PartModel}
use Rattle.key_split.specs.Join.{CanJoin}
use Rattle.key_split.specs.Plan.{PlanAnswer, Plans}
use Rattle.key_split.specs.Texts.{refusal_of}
use Rattle.key_split.specs.declared.planned.Joining.{Joining}
use Rattle.key_split.specs.declared.planned.Planned.{Planned}
use Rattle.key_split.specs.declared.planned.Planned.TheVariants as planned
use Rattle.key_split.specs.declared.planned.PlanFault.{PlanFault}
use Rattle.key_split.specs.declared.planned.PlanFault.TheVariants as fault
use Rattle.session_order.specs.PendingReply.{plan_for, ends_session, owed_by}
use Rattle.session_order.specs.Requests.{asked_of}
use Rattle.script_runs.proofs.Fronts.{faulty, full-front, goes-on}
use Rattle.script_runs.specs.Requests.{Request, First, Ends, Asks, Quits, first_as, first_of, first_in, request_first, parts_planned}
use Rattle.script_runs.specs.Wanted.{IsOpen, Means, GoesOn, Leaves, Wants, Fits}
use Rattle.script_runs.specs.declared.wanted.Wanted.{Wanted}
use Rattle.script_runs.specs.declared.wanted.Wanted.TheVariants.{Nothing, Skip, Reply, Parts, Close}

-- ---- by what the reader answers

leaves : (wanted : Wanted) (old new : ReaderModel) → GoesOn old new → Leaves wanted old new
leaves (Nothing faulted) old new goes = tt
leaves Skip old new goes = goes
leaves (Reply value) old new goes = goes
leaves (Parts how parts) old new goes = goes
leaves Close old new goes = tt

pub first-is : (n : ℕ) (old : ReaderModel) (f : Front) → IsOpen old → front old.bounds old.unread ≡ f → first_in n old.unread ≡ first_of n f
unfolding first_in
first-is n old f is_open is = ap (first_of n) (full-front old is_open ∙ is)

pub value-found : (n : ℕ) (old new : ReaderModel) (value : Value) (given : Result Wanted NoMemory) → FrontIsWhole → IsOpen old → ReaderTakes old (Ok (Some value)) new
    → IfOk given (λ wanted. (rest : List ℕ) → Means n (first_as n (asked_of (data_of value)) rest) wanted rest) → IfOk given (λ wanted. Wants n old wanted new)
value-found n old new value (Err refused) law is_open takes means = means
value-found n old new value (Ok wanted) law is_open takes means =
    let P : First → Type 0 = λ f. Means n f wanted new.unread in (
      subst P (sym (first-is n old (Whole (data_of value) new.unread) is_open takes.1)) (means new.unread),
      leaves wanted old new (goes-on old new value law is_open takes),
    )

pub none-found : (n : ℕ) (old new : ReaderModel) → IsOpen old → ReaderTakes old (Ok None) new → first_in n old.unread ≡ Ends false
none-found n old new is_open takes = first-is n old Partial is_open takes.1

pub fault-found : (n : ℕ) (old new : ReaderModel) (found : WireFault) → (found ≡ wire.NoMemory → ⊥) → IsOpen old → ReaderTakes old (Err found) new → first_in n old.unread ≡ Ends true
fault-found n old new found other is_open takes = first-is n old (Faulty found) is_open (faulty old new found other is_open.1 takes)

-- ---- by what words are planned as

pub planned-as : (answer : PlanAnswer) (p : Planned) → Plans answer (Ok p) → answer ≡ Ok p
planned-as (Err found) p e = absurd (let no : Ok p ≡ Err found = e in cc)
planned-as (Ok q) p e = ap Ok (sym e)

pub refused-as : (answer : PlanAnswer) (found : PlanFault) → (found ≡ fault.NoMemory → ⊥) → Plans answer (Err found) → answer ≡ Err found
refused-as (Err other) found not e = sym e
refused-as (Ok q) found not e = absurd (not e)

within : (n m : ℕ) → n ≤ m → nat_le n m ≡ true
within n m le = search rules

beyond : (n m : ℕ) → m < n → nat_le n m ≡ false
beyond n m lt = search rules

by-plan : (n : ℕ) (words : Request) (rest : List ℕ) (plan : PlanAnswer) → plan_for words ≡ plan
    → request_first n words rest ≡ cond (ends_session plan) (Quits words) (cond (nat_le (n + length (parts_planned plan)) (2 ^ 48)) (Asks words rest) (Ends true))
by-plan n words rest plan is = ap (λ (p : PlanAnswer). cond (ends_session p) (Quits words) (cond (nat_le (n + length (parts_planned p)) (2 ^ 48)) (Asks words rest) (Ends true))) is

asks-on : (n : ℕ) (words : Request) (rest : List ℕ) (plan : PlanAnswer) → plan_for words ≡ plan → ends_session plan ≡ false → n + length (parts_planned plan) ≤ 2 ^ 48
    → request_first n words rest ≡ Asks words rest
asks-on n words rest plan is stays le =
    by-plan n words rest plan is ∙ ap (λ (b : Bool). cond b (Quits words) (cond (nat_le (n + length (parts_planned plan)) (2 ^ 48)) (Asks words rest) (Ends true))) stays
    ∙ ap (λ (b : Bool). cond b (Asks words rest) (Ends true)) (within (n + length (parts_planned plan)) (2 ^ 48) le)

too-many : (n : ℕ) (words : Request) (rest : List ℕ) (plan : PlanAnswer) → plan_for words ≡ plan → ends_session plan ≡ false → 2 ^ 48 < n + length (parts_planned plan)
    → request_first n words rest ≡ Ends true
too-many n words rest plan is stays lt =
    by-plan n words rest plan is ∙ ap (λ (b : Bool). cond b (Quits words) (cond (nat_le (n + length (parts_planned plan)) (2 ^ 48)) (Asks words rest) (Ends true))) stays
    ∙ ap (λ (b : Bool). cond b (Asks words rest) (Ends true)) (beyond (n + length (parts_planned plan)) (2 ^ 48) lt)

pub local-means : (n : ℕ) (words : Request) (value : Value) → n ≤ 2 ^ 48 → plan_for words ≡ Ok (planned.Local value) → (rest : List ℕ) → Means n (request_first n words rest) (Reply value) rest
local-means n words value le is rest = (words, asks-on n words rest (Ok (planned.Local value)) is refl (let none : n + 0 ≤ 2 ^ 48 = omega (arith, le) in none), ap owed_by is, ap parts_planned is)

pub refused-means : (n : ℕ) (words : Request) (found : PlanFault) (value : Value) → n ≤ 2 ^ 48 → plan_for words ≡ Err found → value ≡ refusal_of found → (rest : List ℕ)
    → Means n (request_first n words rest) (Reply value) rest
refused-means n words found value le is says rest =
    let P : Value → Type 0 = λ v. Means n (request_first n words rest) (Reply v) rest in
    subst P (sym says) (words, asks-on n words rest (Err found) is refl (let none : n + 0 ≤ 2 ^ 48 = omega (arith, le) in none), ap owed_by is, ap parts_planned is)

pub close-means : (n : ℕ) (words : Request) → plan_for words ≡ Ok planned.Close → (rest : List ℕ) → Means n (request_first n words rest) Close rest
close-means n words is rest = (words, by-plan n words rest (Ok planned.Close) is, ap owed_by is, ap parts_planned is)

pub parts-mean : (n : ℕ) (words : Request) (how : Joining) (parts : List PartModel) (wanted : Wanted) → plan_for words ≡ Ok (planned.Parts how parts) → CanJoin how (length parts)
    → Fits n how parts wanted → (rest : List ℕ) → Means n (request_first n words rest) wanted rest
parts-mean n words how parts wanted is can fits rest =
    let P : Wanted → Type 0 = λ w. Means n (request_first n words rest) w rest in
    elim fits [
      | inl (e, le) ↦ subst P (sym e) (words, asks-on n words rest (Ok (planned.Parts how parts)) is refl le, ap owed_by is, ap parts_planned is, can, le)
      | inr (e, lt) ↦ subst P (sym e) (too-many n words rest (Ok (planned.Parts how parts)) is refl lt)
    ]
