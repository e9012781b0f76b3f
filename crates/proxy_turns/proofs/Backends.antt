-- What tests and faults say of a backend.
use Rattle.std.proofs.Common.{◌≡◌, ◌≢◌, ◌∙◌, ◌<◌, inl, inr, ℕ, Bool, List, false, Option, Some, None, Result, Ok, Err, is_some, refl, sym, subst, ap}
use Rattle.std.proofs.lemmas.Bool.{false≢true}
use Rattle.std.specs.Prelude.{IsTrue, IsSome}
use Rattle.slot_map.specs.declared.fault.MapFault.{MapFault}
use Rattle.slot_map.specs.declared.fault.MapFault.TheVariants.{NoMemory}
use Rattle.slot_map.specs.declared.ops.MapOp.{MapOp}
use Rattle.slot_map.specs.Slots.{SlotsReading, ReadsAs}
use Rattle.slot_map.specs.Table.{Endpoint}
use Rattle.key_split.specs.Runs.{RunModel, count_in}
use Rattle.node_link.specs.LinkModel.{LinkModel}
use Rattle.node_link.specs.LinkCalls.{Receives}
use Rattle.node_link.specs.declared.link.Got.{Got}
use Rattle.node_link.specs.declared.link.Got.TheVariants as got
use Rattle.node_link.specs.Port.{PortCalls}
use Rattle.proxy_turns.specs.Backend.{HoldOutcome, BackendFetches}
use Rattle.proxy_turns.specs.Sending.{IsTooLong}
use Rattle.proxy_turns.specs.declared.backend.Backend.{Backend}
use Rattle.proxy_turns.specs.declared.backend_step.BackendStep.{BackendStep}

pub none_where : {X : Type 0} (o : Option X) → is_some o ≡ false → o ≡ None
none_where None is = refl
none_where (Some x) is = cc

-- operations that were given are those of the reading
pub read_well : (reading : Result SlotsReading MapFault) (old new : List Endpoint) (ops : List MapOp) → ReadsAs reading old (Ok ops) new
    → (r : SlotsReading) × (reading ≡ Ok r) × (ops ≡ r.ops) × (new ≡ r.table)
read_well (Ok r) old new ops (is, table) = (r, refl, is, table)
read_well (Err e) old new ops (is, table) = absurd (cc)

-- a fault that is not want of memory is that of the reading
pub read_ill : (reading : Result SlotsReading MapFault) (old new : List Endpoint) (why : MapFault) → why ≢ NoMemory → ReadsAs reading old (Err why) new
    → (reading ≡ Err why) × (new ≡ old)
read_ill (Ok r) old new why other (is, some, table) = absurd (other is)
read_ill (Err e) old new why other (is, table) = let same : e ≡ why = cc in (ap (λ x. Err x) same, table)

-- where memory ran out the table is as it was
pub read_none : (reading : Result SlotsReading MapFault) (old new : List Endpoint) (why : MapFault) → ReadsAs reading old (Err why) new → new ≡ old
read_none (Ok r) old new why (is, some, table) = table
read_none (Err e) old new why (is, table) = table

pub never : {A : Type 0} → (A → IsTrue false) → A → ⊥
never f a = false≢true (f a)

pub none_unless : {X : Type 0} (o : Option X) → (IsSome o → IsTrue false) → o ≡ None
none_unless None f = refl
none_unless (Some x) f = absurd (false≢true (f refl))

-- an open link whose port takes no run as long
pub too_long_for : {P : Type 0} (longest : P → ℕ) (run : RunModel) (o : Option (LinkModel P)) (link : LinkModel P) → o ≡ Some link → link.failure ≡ None → longest link.port < count_in run
    → 1 < count_in run → IsTooLong longest run o
too_long_for longest run None link is open_still long several = absurd (cc)
too_long_for longest run (Some other) link is open_still long several =
    let same : link ≡ other = cc in
    let Q : LinkModel _ → Type 0 = λ l. (l.failure ≡ None) × (longest l.port < count_in run) × (1 < count_in run) in
    subst Q same (open_still, long, several)

-- a link on which a call waited has not failed
pub waits : {P : Type 0} (calls : PortCalls P) (link link' : LinkModel P) (nodes nodes' : List Endpoint)
    → Receives calls link nodes (Ok None) link' nodes' → is_some link'.failure ≡ false
waits calls link link' nodes nodes' (none, table, (inl came)) = ap (λ (l : LinkModel _). is_some l.failure) came.1 ∙ ap (λ f. is_some f) none
waits calls link link' nodes nodes' (none, table, (inr (value, comes, owed, is))) = ap (λ (l : LinkModel _). is_some l.failure) is ∙ ap (λ f. is_some f) none

-- what a link gave is held
module _ {P : Type 0} (calls : PortCalls P) where
  pub holds : (unanswered : Bool) (old new : Backend P) (link link' : LinkModel P) (nodes nodes' : List Endpoint) (published : List MapOp) (got : Got) (step : BackendStep)
      → old.link ≡ Some link → old.pending_told ≡ None → old.answer ≡ None
      → Receives calls link nodes (Ok (Some got)) link' nodes'
      → HoldOutcome (record old { link = Some link' }) got step new
      → BackendFetches calls unanswered
      (record { backend = old; nodes = nodes; published = published }) (Ok step) (record { backend = new; nodes = nodes'; published = published })
  holds unanswered old new link link' nodes nodes' published (got.Ticket ticket told) step is pending_told answer receives (fetched, now) =
      let P : BackendStep → Type 0 = λ s. BackendFetches calls unanswered
      (record { backend = old; nodes = nodes; published = published }) (Ok s) (record { backend = new; nodes = nodes'; published = published }) in
      subst P (sym fetched) ((link, link', ticket, told, pending_told, (is, receives), λ i. record { backend = now i; nodes = nodes'; published = published }), refl, λ still. absurd (false≢true (sym still)))
  holds unanswered old new link link' nodes nodes' published (got.Slots value) step is pending_told answer receives (answered, now) =
      let P : BackendStep → Type 0 = λ s. BackendFetches calls unanswered
      (record { backend = old; nodes = nodes; published = published }) (Ok s) (record { backend = new; nodes = nodes'; published = published }) in
      subst P (sym answered) ((link, link', value, answer, (is, receives), λ i. record { backend = now i; nodes = nodes'; published = published }), refl, λ still. absurd (false≢true (sym still)))
