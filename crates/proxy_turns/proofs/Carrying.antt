-- One event of the carrier's, or none, and one after another.
use Rattle.std.proofs.Common.{◌≡◌, ◌||◌, ◌∙◌, ◌<◌, inl, inr, ℕ, zero, suc, List, [], ◌∷◌, ◌++◌, length, Bool, true, false, Option, Some, None, Result, Ok, Err, refl, sym, ap, subst}
use Rattle.std.specs.Prelude.{IfSome, slice_get, slice_set, slice_index_or}
use Rattle.std.specs.List.{FoldsTo, list_all, list_any}
use Rattle.std.proofs.lemmas.List.Folds.{list_all-append, list_any-append}
use Rattle.std.proofs.lemmas.Option.{slice_get_read}
use Rattle.resp_wire.specs.declared.fault.NoMemory.{NoMemory}
use Rattle.key_split.specs.Runs.{RunModel}
use Rattle.slot_map.specs.Table.{Endpoint}
use Rattle.slot_map.specs.declared.ops.MapOp.{MapOp}
use Rattle.proxy_lanes.specs.declared.ends.lane_ends.LaneEnds.{LaneEnds}
use Rattle.node_link.specs.Port.{PortCalls}
use Rattle.proxy_turns.specs.declared.pending_run.PendingRun.{PendingRun}
use Rattle.proxy_turns.specs.declared.backend.Backend.{Backend}
use Rattle.proxy_turns.specs.declared.backend_step.BackendStep.{BackendStep}
use Rattle.proxy_turns.specs.Growing.{Grows, grown}
use Rattle.proxy_turns.specs.Backend.{BackendDoes, Starves, is_backend_move, is_unanswered, new_backend}
use Rattle.proxy_turns.specs.Sending.{DialOutcome, IsUnreached, SendOutcome}
use Rattle.proxy_turns.specs.declared.backend.Dialled.TheVariants as dialled
use Rattle.proxy_turns.specs.declared.backend.RunStep.TheVariants as run_step
use Rattle.key_split.specs.declared.travel.Ticket.{Ticket}
use Rattle.proxy_turns.proofs.EventKinds.{and_true, and_both}
use Rattle.proxy_turns.specs.PendingRun.{GiveOutcome, TellOutcome, TakeOutcome, no_pending_run, target_of}
use Rattle.proxy_turns.specs.RefusedRun.{tickets_in}
use Rattle.proxy_turns.specs.CarrierModel.{CarrierModel, CarrierEvent, CarrierDoes, CarrierGoes, CarrierGoesBy, CarrierTurns, CarrierTurnsBy, is_carrier_move, context_of}
use Rattle.proxy_turns.specs.CarrierModel.CarrierEvent.{AtBackend, Starved, WorkerAdded, BackendAdded, Looked, Took, Opened, Refused, Missed, SeedReached, Sent, Gave, GaveUnsent}

-- events were made until memory ran out
abbrev pub Stops : {H P : Type 0} → PortCalls P → (Endpoint → Option P → ℕ → ℕ → Type 0) → (P → ℕ) → (CarrierEvent → Bool) → CarrierModel H P → CarrierModel H P → Type 0
Stops calls opens longest may old new = (moved : Bool) × CarrierGoesBy calls opens longest may old moved new

pub at-place : {X : Type 0} (xs : List X) (i : ℕ) (x : X) → i < length xs → x ≡ slice_index_or xs i x → slice_get xs i ≡ Some x
at-place xs i x lt e = slice_get_read xs (length xs) i x refl lt e

-- what is written is what was there
pub set-itself : {X : Type 0} (xs : List X) (i : ℕ) (x : X) → slice_get xs i ≡ Some x → slice_set xs i x ≡ xs
set-itself [] i x e = absurd (cc)
set-itself (z ∷ xs) zero x e = let same : z ≡ x = cc in ap (λ y. y ∷ xs) (sym same)
set-itself (z ∷ xs) (suc i) x e = ap (λ ys. z ∷ ys) (set-itself xs i x e)

pub same-item : {X : Type 0} (xs : List X) (i : ℕ) (x y : X) → slice_get xs i ≡ Some x → slice_get xs i ≡ Some y → x ≡ y
same-item xs i x y e f = cc

true_or : (b : Bool) → b ≡ (b || false)
true_or true = refl
true_or false = refl

all_wider : (few may : CarrierEvent → Bool) → ((event : CarrierEvent) → few event ≡ true → may event ≡ true) → (events : List CarrierEvent)
    → list_all few events ≡ true → list_all may events ≡ true
all_wider few may wider [] all = refl
all_wider few may wider (event ∷ events) all =
    let both = and_both (few event) (list_all few events) all in
    and_true (may event) (list_all may events) (wider event both.0) (all_wider few may wider events both.1)

module _ {H P : Type 0} (calls : PortCalls P) (opens : Endpoint → Option P → ℕ → ℕ → Type 0) (longest : P → ℕ) (may : CarrierEvent → Bool) where
  pub goes_by : (old : CarrierModel H P) (event : CarrierEvent) (new : CarrierModel H P) → may event ≡ true → CarrierDoes calls opens longest old event new
      → CarrierGoesBy calls opens longest may old (is_carrier_move event) new
  goes_by old event new kind does = (event ∷ [], (new, does, refl), true_or (is_carrier_move event), and_true (may event) true kind refl)

  pub stays : (old : CarrierModel H P) → CarrierGoesBy calls opens longest may old false old
  stays old = ([], refl, refl, refl)

  folds_after : (old : CarrierModel H P) (first : List CarrierEvent) (mid : CarrierModel H P) (next : List CarrierEvent) (new : CarrierModel H P)
      → FoldsTo (CarrierDoes calls opens longest) old first mid → FoldsTo (CarrierDoes calls opens longest) mid next new
      → FoldsTo (CarrierDoes calls opens longest) old (first ++ next) new
  folds_after old [] mid next new is then = let Q : CarrierModel H P → Type 0 = λ d. FoldsTo (CarrierDoes calls opens longest) d next new in subst Q (sym is) then
  folds_after old (event ∷ first) mid next new (d, does, rest) then = (d, does, folds_after d first mid next new rest then)

  -- first the one, then the other
  pub goes_then : (old : CarrierModel H P) (first : Bool) (mid : CarrierModel H P) (next : Bool) (new : CarrierModel H P)
      → CarrierGoesBy calls opens longest may old first mid → CarrierGoesBy calls opens longest may mid next new → CarrierGoesBy calls opens longest may old (first || next) new
  goes_then old first mid next new (es, folds, is, few) (fs, then, so, more) = (
    es ++ fs,
    folds_after old es mid fs new folds then,
    ap (λ a. a || next) is ∙ ap (λ b. list_any is_carrier_move es || b) so ∙ sym (list_any-append is_carrier_move es fs),
    list_all-append may es fs ∙ and_true (list_all may es) (list_all may fs) few more,
  )

  -- backends are made
  backends_grown : may BackendAdded ≡ true → (old : CarrierModel H P) (n : ℕ) → CarrierGoesBy calls opens longest may old false (record old { backends = grown n new_backend old.backends })
  backends_grown kind old zero = stays old
  backends_grown kind old (suc n) =
      let mid : CarrierModel H P = record old { backends = grown n new_backend old.backends } in
      let new : CarrierModel H P = record mid { backends = mid.backends ++ new_backend ∷ [] } in
      goes_then old false mid false new (backends_grown kind old n) (goes_by mid BackendAdded new kind refl)

  pub backends_added : may BackendAdded ≡ true → (old : CarrierModel H P) (backends' : List (Backend P)) → Grows new_backend old.backends backends'
      → CarrierGoesBy calls opens longest may old false (record old { backends = backends' })
  backends_added kind old backends' (n, is) =
      let Q : List (Backend P) → Type 0 = λ xs. CarrierGoesBy calls opens longest may old false (record old { backends = xs }) in
      subst Q (sym is) (backends_grown kind old n)

  -- places for pending runs are made
  places_grown : may WorkerAdded ≡ true → (old : CarrierModel H P) (n : ℕ) → CarrierGoesBy calls opens longest may old false (record old { pending_runs = grown n no_pending_run old.pending_runs })
  places_grown kind old zero = stays old
  places_grown kind old (suc n) =
      let mid : CarrierModel H P = record old { pending_runs = grown n no_pending_run old.pending_runs } in
      let new : CarrierModel H P = record mid { pending_runs = mid.pending_runs ++ no_pending_run ∷ [] } in
      goes_then old false mid false new (places_grown kind old n) (goes_by mid WorkerAdded new kind refl)

  pub places_added : may WorkerAdded ≡ true → (old : CarrierModel H P) (pending_runs' : List PendingRun) → Grows no_pending_run old.pending_runs pending_runs'
      → CarrierGoesBy calls opens longest may old false (record old { pending_runs = pending_runs' })
  places_added kind old pending_runs' (n, is) =
      let Q : List PendingRun → Type 0 = λ xs. CarrierGoesBy calls opens longest may old false (record old { pending_runs = xs }) in
      subst Q (sym is) (places_grown kind old n)

  -- a call after others found no memory
  pub turns_err : (rests : CarrierModel H P → Type 0) (old : CarrierModel H P) (first : Bool) (mid new : CarrierModel H P) (e' : NoMemory) (result : Result Bool NoMemory)
      → CarrierGoesBy calls opens longest may old first mid → Stops calls opens longest may mid new → result ≡ Err e'
      → CarrierTurnsBy calls opens longest may rests old result new
  turns_err rests old first mid new e' result goes (moved, more) is =
      let Q : Result Bool NoMemory → Type 0 = λ r. CarrierTurnsBy calls opens longest may rests old r new in
      subst Q (sym is) (first || moved, goes_then old first mid moved new goes more)

  -- memory ran out, and nothing changed
  pub err_stays : (rests : CarrierModel H P → Type 0) (old new : CarrierModel H P) (e : NoMemory) (result : Result Bool NoMemory) → new ≡ old → result ≡ Err e
      → CarrierTurnsBy calls opens longest may rests old result new
  err_stays rests old new e result same is =
      let Q : Result Bool NoMemory → Type 0 = λ r. CarrierTurnsBy calls opens longest may rests old r new in
      let R : CarrierModel H P → Type 0 = λ n. CarrierGoesBy calls opens longest may old false n in
      subst Q (sym is) (false, subst R (sym same) (stays old))

  err_by : (rests : CarrierModel H P → Type 0) (old : CarrierModel H P) (event : CarrierEvent) (new : CarrierModel H P) (e : NoMemory) (result : Result Bool NoMemory)
      → may event ≡ true → CarrierDoes calls opens longest old event new → result ≡ Err e → CarrierTurnsBy calls opens longest may rests old result new
  err_by rests old event new e result kind does is =
      let Q : Result Bool NoMemory → Type 0 = λ r. CarrierTurnsBy calls opens longest may rests old r new in
      subst Q (sym is) (is_carrier_move event, goes_by old event new kind does)

  -- a step at a backend
  pub served : (old : CarrierModel H P) (k : ℕ) (backend backend' : Backend P) (nodes' : List Endpoint) (published' : List MapOp) (unanswered : Bool) (step : BackendStep) (moved : Bool)
      → slice_get old.backends k ≡ Some backend → unanswered ≡ list_any is_unanswered old.backends
      → BackendDoes calls unanswered (context_of old backend) step (record { backend = backend'; nodes = nodes'; published = published' })
      → moved ≡ is_backend_move step → may (AtBackend step) ≡ true
      → CarrierGoesBy calls opens longest may old moved (record old { backends = slice_set old.backends k backend'; nodes = nodes'; published = published' })
  served old k backend backend' nodes' published' unanswered step moved at same does is kind =
      let new : CarrierModel H P = record old { backends = slice_set old.backends k backend'; nodes = nodes'; published = published' } in
      let Q : Bool → Type 0 = λ u. BackendDoes calls u (context_of old backend) step (record { backend = backend'; nodes = nodes'; published = published' }) in
      let R : Bool → Type 0 = λ m. CarrierGoesBy calls opens longest may old m new in
      subst R (sym is) (goes_by old (AtBackend step) new kind (k, backend, backend', at, subst Q same does, refl))

  pub starved : (rests : CarrierModel H P → Type 0) → may Starved ≡ true → (old : CarrierModel H P) (k : ℕ) (backend backend' : Backend P) (nodes' : List Endpoint) (published' : List MapOp) (e : NoMemory) (result : Result Bool NoMemory)
      → slice_get old.backends k ≡ Some backend
      → Starves calls (context_of old backend) (record { backend = backend'; nodes = nodes'; published = published' })
      → result ≡ Err e
      → CarrierTurnsBy calls opens longest may rests old result (record old { backends = slice_set old.backends k backend'; nodes = nodes'; published = published' })
  starved rests k0 old k backend backend' nodes' published' e result at starves is =
      err_by rests old Starved (record old { backends = slice_set old.backends k backend'; nodes = nodes'; published = published' }) e result k0 (inl (k, backend, backend', at, starves, refl)) is

  -- what is pending is given, or comes back
  gave_with : may Gave ≡ true → may Looked ≡ true → (old : CarrierModel H P) (k : ℕ) (backend backend' : Backend P) (lanes' : List (LaneEnds H)) (moved : Bool)
      → slice_get old.backends k ≡ Some backend → GiveOutcome backend old.lanes moved backend' lanes'
      → CarrierGoesBy calls opens longest may old moved (record old { lanes = lanes'; backends = slice_set old.backends k backend' })
  gave_with k0 k1 old k backend backend' lanes' true at gives =
      goes_by old Gave (record old { lanes = lanes'; backends = slice_set old.backends k backend' }) k0 (k, backend, backend', at, gives, refl)
  gave_with k0 k1 old k backend backend' lanes' false at (same, kept) =
      let back : slice_set old.backends k backend' ≡ old.backends = ap (λ x. slice_set old.backends k x) same ∙ set-itself old.backends k backend at in
      goes_by old Looked (record old { lanes = lanes'; backends = slice_set old.backends k backend' }) k1
      ((λ i. record old { lanes = lanes'; backends = back i }), inl (k, backend, at, (refl, kept)))

  told_with : may GaveUnsent ≡ true → may Looked ≡ true → (old : CarrierModel H P) (k : ℕ) (pending_run pending_run' : PendingRun) (lanes' : List (LaneEnds H)) (moved : Bool)
      → slice_get old.pending_runs k ≡ Some pending_run → TellOutcome pending_run old.lanes moved pending_run' lanes'
      → CarrierGoesBy calls opens longest may old moved (record old { lanes = lanes'; pending_runs = slice_set old.pending_runs k pending_run' })
  told_with k0 k1 old k pending_run pending_run' lanes' true at tells =
      goes_by old GaveUnsent (record old { lanes = lanes'; pending_runs = slice_set old.pending_runs k pending_run' }) k0 (k, pending_run, pending_run', at, tells, refl)
  told_with k0 k1 old k pending_run pending_run' lanes' false at (same, kept) =
      let back : slice_set old.pending_runs k pending_run' ≡ old.pending_runs = ap (λ x. slice_set old.pending_runs k x) same ∙ set-itself old.pending_runs k pending_run at in
      goes_by old Looked (record old { lanes = lanes'; pending_runs = slice_set old.pending_runs k pending_run' }) k1
      ((λ i. record old { lanes = lanes'; pending_runs = back i }), inr (k, pending_run, at, inl (refl, kept)))

  took_with : may Took ≡ true → may Looked ≡ true → (old : CarrierModel H P) (k : ℕ) (pending_run pending_run' : PendingRun) (lanes' : List (LaneEnds H)) (moved : Bool)
      → slice_get old.pending_runs k ≡ Some pending_run → TakeOutcome k pending_run old.lanes moved pending_run' lanes'
      → CarrierGoesBy calls opens longest may old moved (record old { lanes = lanes'; pending_runs = slice_set old.pending_runs k pending_run' })
  took_with k0 k1 old k pending_run pending_run' lanes' true at takes =
      goes_by old Took (record old { lanes = lanes'; pending_runs = slice_set old.pending_runs k pending_run' }) k0 (k, pending_run, pending_run', at, takes, refl)
  took_with k0 k1 old k pending_run pending_run' lanes' false at (same, kept) =
      let back : slice_set old.pending_runs k pending_run' ≡ old.pending_runs = ap (λ x. slice_set old.pending_runs k x) same ∙ set-itself old.pending_runs k pending_run at in
      goes_by old Looked (record old { lanes = lanes'; pending_runs = slice_set old.pending_runs k pending_run' }) k1
      ((λ i. record old { lanes = lanes'; pending_runs = back i }), inr (k, pending_run, at, inr (refl, kept)))

  -- a run goes out
  pub sent : may Sent ≡ true → (old : CarrierModel H P) (k n : ℕ) (pending_run : PendingRun) (run : RunModel) (backend backend' : Backend P)
      → slice_get old.pending_runs k ≡ Some pending_run → pending_run.run ≡ Some run → n ≡ run.first.node → slice_get old.backends n ≡ Some backend
      → SendOutcome calls longest backend run (Ok run_step.Sent) backend'
      → CarrierGoesBy calls opens longest may old true (record old { pending_runs = slice_set old.pending_runs k (record pending_run { run = None }); backends = slice_set old.backends n backend' })
  sent k0 old k n pending_run run backend backend' at holds node there goes =
      let Q : ℕ → Type 0 = λ m. slice_get old.backends m ≡ Some backend → CarrierGoesBy calls opens longest may old true
      (record old { pending_runs = slice_set old.pending_runs k (record pending_run { run = None }); backends = slice_set old.backends m backend' }) in
      subst Q (sym node) (λ here. goes_by old Sent _ k0 (k, pending_run, run, backend, backend', at, holds, here, goes, refl)) there

  -- a run that is too long for its link is refused
  pub too_long : may Refused ≡ true → (old : CarrierModel H P) (k n : ℕ) (pending_run pending_run' : PendingRun) (run : RunModel) (backend backend' : Backend P)
      → slice_get old.pending_runs k ≡ Some pending_run → pending_run.run ≡ Some run → pending_run.refused ≡ [] → n ≡ run.first.node → slice_get old.backends n ≡ Some backend
      → SendOutcome calls longest backend run (Ok run_step.TooLong) backend'
      → IfSome pending_run.run (λ run. pending_run' ≡ record { run = None; refused = tickets_in run })
      → CarrierGoesBy calls opens longest may old true (record old { pending_runs = slice_set old.pending_runs k pending_run'; backends = slice_set old.backends n backend' })
  too_long k0 old k n pending_run pending_run' run backend backend' at holds none node there (same, long) now =
      let back : slice_set old.backends n backend' ≡ old.backends = ap (λ x. slice_set old.backends n x) same ∙ set-itself old.backends n backend there in
      let Q : ℕ → Type 0 = λ m. slice_get old.backends m ≡ Some backend in
      let N : Option RunModel → Type 0 = λ o. IfSome o (λ run. pending_run' ≡ record { run = None; refused = tickets_in run }) in
      let told : pending_run' ≡ record { run = None; refused = tickets_in run } = subst N holds now in
      goes_by old Refused (record old { pending_runs = slice_set old.pending_runs k pending_run'; backends = slice_set old.backends n backend' }) k0 (
        k,
        pending_run,
        run,
        backend,
        at,
        holds,
        none,
        subst Q node there,
        inr (long, refl),
        λ i. record old { pending_runs = slice_set old.pending_runs k (told i); backends = back i },
      )

  pub not_sent : (rests : CarrierModel H P → Type 0) → may Starved ≡ true → (old : CarrierModel H P) (k n : ℕ) (pending_run : PendingRun) (run : RunModel) (backend backend' : Backend P) (e e' : NoMemory) (result : Result Bool NoMemory)
      → slice_get old.pending_runs k ≡ Some pending_run → slice_get old.backends n ≡ Some backend
      → SendOutcome calls longest backend run (Err e) backend' → result ≡ Err e'
      → CarrierTurnsBy calls opens longest may rests old result (record old { pending_runs = slice_set old.pending_runs k pending_run; backends = slice_set old.backends n backend' })
  not_sent rests k0 old k n pending_run run backend backend' e e' result at there goes is =
      err_by rests old Starved (record old { pending_runs = slice_set old.pending_runs k pending_run; backends = slice_set old.backends n backend' }) e' result k0
      (inr (n, backend, backend', run, e, there, goes, λ i. record old { pending_runs = set-itself old.pending_runs k pending_run at i; backends = slice_set old.backends n backend' })) is

  pub gave : may Gave ≡ true → may Looked ≡ true → (old : CarrierModel H P) (k : ℕ) (backend backend' : Backend P) (lanes' : List (LaneEnds H)) (published' : List MapOp) (moved : Bool)
      → slice_get old.backends k ≡ Some backend → GiveOutcome backend old.lanes moved backend' lanes' → published' ≡ old.published
      → CarrierGoesBy calls opens longest may old moved (record old { lanes = lanes'; backends = slice_set old.backends k backend'; published = published' })
  gave k0 k1 old k backend backend' lanes' published' moved at outcome same =
      let Q : List MapOp → Type 0 = λ ops. CarrierGoesBy calls opens longest may old moved (record old { lanes = lanes'; backends = slice_set old.backends k backend'; published = ops }) in
      subst Q (sym same) (gave_with k0 k1 old k backend backend' lanes' moved at outcome)

  pub told : may GaveUnsent ≡ true → may Looked ≡ true → (old : CarrierModel H P) (k : ℕ) (pending_run pending_run' : PendingRun) (lanes' : List (LaneEnds H)) (published' : List MapOp) (moved : Bool)
      → slice_get old.pending_runs k ≡ Some pending_run → TellOutcome pending_run old.lanes moved pending_run' lanes' → published' ≡ old.published
      → CarrierGoesBy calls opens longest may old moved (record old { lanes = lanes'; pending_runs = slice_set old.pending_runs k pending_run'; published = published' })
  told k0 k1 old k pending_run pending_run' lanes' published' moved at outcome same =
      let Q : List MapOp → Type 0 = λ ops. CarrierGoesBy calls opens longest may old moved (record old { lanes = lanes'; pending_runs = slice_set old.pending_runs k pending_run'; published = ops }) in
      subst Q (sym same) (told_with k0 k1 old k pending_run pending_run' lanes' moved at outcome)

  pub took : may Took ≡ true → may Looked ≡ true → (old : CarrierModel H P) (k : ℕ) (pending_run pending_run' : PendingRun) (lanes' : List (LaneEnds H)) (published' : List MapOp) (moved : Bool)
      → slice_get old.pending_runs k ≡ Some pending_run → TakeOutcome k pending_run old.lanes moved pending_run' lanes' → published' ≡ old.published
      → CarrierGoesBy calls opens longest may old moved (record old { lanes = lanes'; pending_runs = slice_set old.pending_runs k pending_run'; published = published' })
  took k0 k1 old k pending_run pending_run' lanes' published' moved at outcome same =
      let Q : List MapOp → Type 0 = λ ops. CarrierGoesBy calls opens longest may old moved (record old { lanes = lanes'; pending_runs = slice_set old.pending_runs k pending_run'; published = ops }) in
      subst Q (sym same) (took_with k0 k1 old k pending_run pending_run' lanes' moved at outcome)

  -- a dial that gave a link
  pub opened : may Opened ≡ true → (old : CarrierModel H P) (n node : ℕ) (backend backend' : Backend P) (failures' : ℕ)
      → slice_get old.backends n ≡ Some backend → n ≡ node → DialOutcome opens node old.nodes backend old.failures (Ok dialled.Opened) backend' failures'
      → CarrierGoesBy calls opens longest may old true (record old { backends = slice_set old.backends n backend'; failures = failures' })
  opened k0 old n node backend backend' failures' at is (there, port, none, listed, is_new, new) =
      let Q : ℕ → Type 0 = λ m. slice_get old.backends m ≡ Some backend → CarrierGoesBy calls opens longest may old true (record old { backends = slice_set old.backends m backend'; failures = failures' }) in
      subst Q (sym is) (λ here. goes_by old Opened (record old { backends = slice_set old.backends node backend'; failures = failures' }) k0
      (node, backend, there, port, here, none, listed, is_new, λ i. record old { backends = slice_set old.backends node (new i); failures = failures' })) at

  -- a dial for which there was no memory
  pub undialled : (rests : CarrierModel H P → Type 0) (old : CarrierModel H P) (n : ℕ) (backend backend' : Backend P) (failures' : ℕ) (e : NoMemory) (result : Result Bool NoMemory)
      → slice_get old.backends n ≡ Some backend → (backend' ≡ backend) × (failures' ≡ old.failures) → result ≡ Err e
      → CarrierTurnsBy calls opens longest may rests old result (record old { backends = slice_set old.backends n backend'; failures = failures' })
  undialled rests old n backend backend' failures' e result at (same, kept) is =
      let back : slice_set old.backends n backend' ≡ old.backends = ap (λ x. slice_set old.backends n x) same ∙ set-itself old.backends n backend at in
      err_stays rests old (record old { backends = slice_set old.backends n backend'; failures = failures' }) e result (λ i. record old { backends = back i; failures = kept i }) is

  -- a dial that failed
  pub refused : may Refused ≡ true → (old : CarrierModel H P) (k n node : ℕ) (pending_run pending_run' : PendingRun) (backend backend' : Backend P) (failures' : ℕ)
      → slice_get old.pending_runs k ≡ Some pending_run → target_of pending_run.refused pending_run.run ≡ Some node
      → slice_get old.backends n ≡ Some backend → n ≡ node → DialOutcome opens node old.nodes backend old.failures (Ok dialled.Unreached) backend' failures'
      → IfSome pending_run.run (λ run. pending_run' ≡ record { run = None; refused = tickets_in run })
      → CarrierGoesBy calls opens longest may old true (record old { pending_runs = slice_set old.pending_runs k pending_run'; backends = slice_set old.backends n backend'; failures = failures' })
  refused k0 old k n node pending_run pending_run' backend backend' failures' at goal there is (none, same, unreached) told =
      go pending_run.refused pending_run.run refl refl goal told
    where
      go : (r : List Ticket) (b : Option RunModel) → pending_run.refused ≡ r → pending_run.run ≡ b → target_of r b ≡ Some node
          → IfSome b (λ run. pending_run' ≡ record { run = None; refused = tickets_in run })
          → CarrierGoesBy calls opens longest may old true (record old { pending_runs = slice_set old.pending_runs k pending_run'; backends = slice_set old.backends n backend'; failures = failures' })
      go (t ∷ ts) b er eb g to = absurd (cc)
      go [] None er eb g to = absurd (cc)
      go [] (Some run) er eb g to =
          let named : node ≡ run.first.node = cc in
          let back : slice_set old.backends n backend' ≡ old.backends = ap (λ x. slice_set old.backends n x) same ∙ set-itself old.backends n backend there in
          let Q : ℕ → Type 0 = λ m. slice_get old.backends m ≡ Some backend in
          let R : ℕ → Type 0 = λ m. IsUnreached opens m old.nodes old.failures failures' in
          goes_by old Refused (record old { pending_runs = slice_set old.pending_runs k pending_run'; backends = slice_set old.backends n backend'; failures = failures' }) k0 (
            k,
            pending_run,
            run,
            backend,
            at,
            eb,
            er,
            subst Q (is ∙ named) there,
            inl (none, subst R named unreached),
            λ i. record old { pending_runs = slice_set old.pending_runs k (to i); backends = back i; failures = failures' },
          )

  -- the seed was dialled, at the start
  pub connected : may SeedReached ≡ true → (old : CarrierModel H P) (n node : ℕ) (backend backend' : Backend P) (failures' : ℕ)
      → old.seed_to_dial ≡ true → slice_get old.backends n ≡ Some backend → n ≡ 0 → DialOutcome opens node old.nodes backend old.failures (Ok dialled.Present) backend' failures'
      → CarrierGoesBy calls opens longest may old true (record old { seed_to_dial = false; backends = slice_set old.backends n (record backend' { to_ask = true }); failures = failures' })
  connected k0 old n node backend backend' failures' seed_to_dial at is (some, same, kept) =
      let Q : ℕ → Type 0 = λ m. slice_get old.backends m ≡ Some backend
      → CarrierGoesBy calls opens longest may old true (record old { seed_to_dial = false; backends = slice_set old.backends m (record backend' { to_ask = true }); failures = failures' }) in
      subst Q (sym is) (λ here. goes_by old SeedReached (record old { seed_to_dial = false; backends = slice_set old.backends 0 (record backend' { to_ask = true }); failures = failures' }) k0
      (backend, seed_to_dial, here, λ i. record old { seed_to_dial = false; backends = slice_set old.backends 0 (record (same i) { to_ask = true }); failures = kept i })) at

  pub missed : may Missed ≡ true → (old : CarrierModel H P) (n node : ℕ) (backend backend' : Backend P) (failures' : ℕ)
      → old.seed_to_dial ≡ true → slice_get old.backends n ≡ Some backend → node ≡ 0 → DialOutcome opens node old.nodes backend old.failures (Ok dialled.Unreached) backend' failures'
      → CarrierGoesBy calls opens longest may old true (record old { seed_to_dial = false; backends = slice_set old.backends n backend'; failures = failures' })
  missed k0 old n node backend backend' failures' seed_to_dial at is (none, same, unreached) =
      let back : slice_set old.backends n backend' ≡ old.backends = ap (λ x. slice_set old.backends n x) same ∙ set-itself old.backends n backend at in
      let R : ℕ → Type 0 = λ m. IsUnreached opens m old.nodes old.failures failures' in
      goes_by old Missed (record old { seed_to_dial = false; backends = slice_set old.backends n backend'; failures = failures' }) k0
      (seed_to_dial, subst R is unreached, λ i. record old { seed_to_dial = false; backends = back i; failures = failures' })

  -- there is a link already
  pub present : (old : CarrierModel H P) (n node : ℕ) (backend backend' : Backend P) (failures' : ℕ)
      → slice_get old.backends n ≡ Some backend → DialOutcome opens node old.nodes backend old.failures (Ok dialled.Present) backend' failures'
      → CarrierGoesBy calls opens longest may old false (record old { backends = slice_set old.backends n backend'; failures = failures' })
  present old n node backend backend' failures' at (some, same, kept) =
      let back : slice_set old.backends n backend' ≡ old.backends = ap (λ x. slice_set old.backends n x) same ∙ set-itself old.backends n backend at in
      let Q : CarrierModel H P → Type 0 = λ new. CarrierGoesBy calls opens longest may old false new in
      subst Q (λ i. record old { backends = sym back i; failures = sym kept i }) (stays old)

  -- a pending run was looked at
  pub same_pending : (old : CarrierModel H P) (k : ℕ) (pending_run : PendingRun) → slice_get old.pending_runs k ≡ Some pending_run
      → CarrierGoesBy calls opens longest may old false (record old { pending_runs = slice_set old.pending_runs k pending_run })
  same_pending old k pending_run at =
      let Q : CarrierModel H P → Type 0 = λ new. CarrierGoesBy calls opens longest may old false new in
      subst Q (λ i. record old { pending_runs = sym (set-itself old.pending_runs k pending_run at) i }) (stays old)

  -- its link was not open
  pub unsent : (old : CarrierModel H P) (k n : ℕ) (pending_run : PendingRun) (backend backend' : Backend P) → slice_get old.pending_runs k ≡ Some pending_run
      → slice_get old.backends n ≡ Some backend → backend' ≡ backend
      → CarrierGoesBy calls opens longest may old false (record old { pending_runs = slice_set old.pending_runs k pending_run; backends = slice_set old.backends n backend' })
  unsent old k n pending_run backend backend' at there same =
      let back : slice_set old.backends n backend' ≡ old.backends = ap (λ x. slice_set old.backends n x) same ∙ set-itself old.backends n backend there in
      let Q : CarrierModel H P → Type 0 = λ new. CarrierGoesBy calls opens longest may old false new in
      subst Q (λ i. record old { pending_runs = sym (set-itself old.pending_runs k pending_run at) i; backends = sym back i }) (stays old)

  -- events of one kind are of a wider one
  pub goes_wider : (few : CarrierEvent → Bool) → ((event : CarrierEvent) → few event ≡ true → may event ≡ true) → (old : CarrierModel H P) (moved : Bool) (new : CarrierModel H P)
      → CarrierGoesBy calls opens longest few old moved new → CarrierGoesBy calls opens longest may old moved new
  goes_wider few wider old moved new (events, folds, is, all) = (events, folds, is, all_wider few may wider events all)

  pub err_wider : (rests : CarrierModel H P → Type 0) (few : CarrierEvent → Bool) → ((event : CarrierEvent) → few event ≡ true → may event ≡ true) → (old new : CarrierModel H P) (e' : NoMemory) (result : Result Bool NoMemory)
      → Stops calls opens longest few old new → result ≡ Err e' → CarrierTurnsBy calls opens longest may rests old result new
  err_wider rests few wider old new e' result (moved, goes) is =
      let Q : Result Bool NoMemory → Type 0 = λ r. CarrierTurnsBy calls opens longest may rests old r new in
      subst Q (sym is) (moved, goes_wider few wider old moved new goes)

  -- a call after others found no memory; its events are of a narrower kind
  pub turns_err_wider : (rests : CarrierModel H P → Type 0) (few : CarrierEvent → Bool) → ((event : CarrierEvent) → few event ≡ true → may event ≡ true)
      → (old : CarrierModel H P) (first : Bool) (mid new : CarrierModel H P) (e' : NoMemory) (result : Result Bool NoMemory)
      → CarrierGoesBy calls opens longest may old first mid → Stops calls opens longest few mid new
      → result ≡ Err e' → CarrierTurnsBy calls opens longest may rests old result new
  turns_err_wider rests few wider old first mid new e' result goes (moved, more) is =
      turns_err rests old first mid new e' result goes (moved, goes_wider few wider mid moved new more) is

  -- whatever their kind
  pub goes_of : (old : CarrierModel H P) (moved : Bool) (new : CarrierModel H P) → CarrierGoesBy calls opens longest may old moved new → CarrierGoes calls opens longest old moved new
  goes_of old moved new (events, folds, is, all) = (events, folds, is)

  pub turns_of : (rests : CarrierModel H P → Type 0) (old : CarrierModel H P) (result : Result Bool NoMemory) (new : CarrierModel H P) → CarrierTurnsBy calls opens longest may rests old result new
      → CarrierTurns calls opens longest old result new
  turns_of rests old (Ok moved) new (goes, left) = goes_of old moved new goes
  turns_of rests old (Err e) new (moved, goes) = (moved, goes_of old moved new goes)

  -- a further call, whose answer is that of the whole
  pub then_wider : (rests rests' : CarrierModel H P → Type 0) (few : CarrierEvent → Bool) → ((event : CarrierEvent) → few event ≡ true → may event ≡ true)
      → (old mid : CarrierModel H P) (result : Result Bool NoMemory) (new : CarrierModel H P)
      → CarrierGoesBy calls opens longest may old false mid → CarrierTurnsBy calls opens longest few rests' mid result new
      → (CarrierGoesBy calls opens longest few mid false new → rests' new → rests new)
      → CarrierTurnsBy calls opens longest may rests old result new
  then_wider rests rests' few wider old mid (Ok moved) new goes (then, left) more = (
    goes_then old false mid moved new goes (goes_wider few wider mid moved new then),
    λ still. let Q : Bool → Type 0 = λ m. CarrierGoesBy calls opens longest few mid m new in more (subst Q still then) (left still),
  )
  then_wider rests rests' few wider old mid (Err e) new goes (moved, then) more = (moved, goes_then old false mid moved new goes (goes_wider few wider mid moved new then))
