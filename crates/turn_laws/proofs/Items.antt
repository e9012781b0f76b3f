-- What is written together, as the machine has it and as it is awaited.
use Rattle.std.proofs.Common.{◌≡◌, ℕ, suc, Bool, true, false, List, [], ◌∷◌, ◌++◌, refl, sym, ap, ◌∙◌, subst, arith}
use Rattle.std.specs.Prelude.{All, map}
use Rattle.std.proofs.lemmas.Grind.{flat_map-append}
use Rattle.std.proofs.lemmas.List.Elements.{All-cons, All-nil}
use Rattle.key_split.specs.Requests.{Request, Asking, Command, Slots}
use Rattle.key_split.specs.Runs.{RunModel, IsTogether, batches_in, requests_of_run}
use Rattle.key_split.specs.declared.travel.Batch.{Batch}
use Rattle.node_link.specs.LinkCalls.{due_of, tickets_of}
use Rattle.node_link.specs.declared.link.Due.{Due}
use Rattle.node_link.specs.declared.link.Due.TheVariants as due
use Rattle.world_laws.specs.State.{sent_of, requests_of as machine_requests}
use Rattle.world_laws.specs.declared.state.Arrival.{Arrival}
use Rattle.world_laws.specs.declared.state.LinkRequest.{LinkRequest}
use Rattle.world_laws.specs.declared.state.LinkRequest.TheVariants as asked
use Rattle.turn_laws.specs.Wire.{Item, Part, Asks, Runs, Lists, joined, items_of, tickets_for}
use Rattle.turn_laws.specs.WrittenRuns.{part_of, pieces_of, items_for}
use Rattle.turn_laws.proofs.WrittenRuns.{items-of-run}
use Rattle.turn_laws.specs.Shadow.{requests_in, dues_of, dues_in, IsKnown, IsUnderWay, HasPart, RunShadow, lying, tickets_in}

-- ---- who waits

pub tickets-append : (a b : List Due) → tickets_of (a ++ b) ≡ tickets_of a ++ tickets_of b
tickets-append [] b = refl
tickets-append (due.Asking ∷ a) b = tickets-append a b
tickets-append (due.Command t ∷ a) b = ap (λ ts. t ∷ ts) (tickets-append a b)
tickets-append (due.Slots ∷ a) b = tickets-append a b

run-tickets : (parts : List Part) → tickets_for parts ≡ tickets_of (dues_of (Runs parts))
run-tickets [] = refl
run-tickets (part ∷ parts) = ap (λ ts. part.0 ∷ ts) (run-tickets parts)

pub sent-tickets : (items : List Item) → sent_of (requests_in items) ≡ tickets_of (dues_in items)
sent-tickets [] = refl
sent-tickets (Asks ∷ items) = sent-tickets items
sent-tickets (Runs parts ∷ items) = (λ i. run-tickets parts i ++ sent-tickets items i) ∙ sym (tickets-append (dues_of (Runs parts)) (dues_in items))
sent-tickets (Lists ∷ items) = sent-tickets items

pub dues-append : (a b : List Item) → dues_in (a ++ b) ≡ dues_in a ++ dues_in b
dues-append a b = flat_map-append dues_of a b

joined-dues : (part : Part) (items : List Item) → dues_in (joined part items) ≡ due.Command part.0 ∷ dues_in items
joined-dues part [] = refl
joined-dues part (Asks ∷ items) = refl
joined-dues part (Runs parts ∷ items) = refl
joined-dues part (Lists ∷ items) = refl

-- who waits for what was written
pub dues-of-items : (requests : List Request) → dues_in (items_of requests) ≡ map due_of requests
dues-of-items [] = refl
dues-of-items (Asking ∷ requests) = ap (λ ds. due.Asking ∷ ds) (dues-of-items requests)
dues-of-items (Command ticket part ∷ requests) = joined-dues (ticket, part) (items_of requests) ∙ ap (λ ds. due.Command ticket ∷ ds) (dues-of-items requests)
dues-of-items (Slots ∷ requests) = ap (λ ds. due.Slots ∷ ds) (dues-of-items requests)

-- ---- what the machine has

pub requests-append : (a b : List Item) → requests_in (a ++ b) ≡ requests_in a ++ requests_in b
requests-append [] b = refl
requests-append (Asks ∷ a) b = ap (λ (rs : List LinkRequest). asked.Asking ∷ rs) (requests-append a b)
requests-append (Runs parts ∷ a) b = ap (λ (rs : List LinkRequest). asked.Runs (tickets_for parts) ∷ rs) (requests-append a b)
requests-append (Lists ∷ a) b = requests-append a b

-- ---- a run

pieces-tickets : (bs : List Batch) → tickets_for (map part_of bs) ≡ map (λ (batch : Batch). batch.ticket) bs
pieces-tickets [] = refl
pieces-tickets (b ∷ bs) = ap (λ ts. b.ticket ∷ ts) (pieces-tickets bs)

-- a run's requests, as the machine has them
pub same-requests : (run : RunModel) → IsTogether run → requests_in (items_of (requests_of_run run)) ≡ machine_requests (lying run)
same-requests run together = ap requests_in (items-of-run run together) ∙ go run.first.asking
  where
    go : (asks : Bool) → requests_in (items_for asks (pieces_of run)) ≡ machine_requests (record { tickets = tickets_in run; node = run.first.node; asking = asks })
    go true = λ i. asked.Asking ∷ asked.Runs (pieces-tickets (batches_in run) i) ∷ []
    go false = λ i. asked.Runs (pieces-tickets (batches_in run) i) ∷ []

known-pieces : (commands : List Arrival) (k : ℕ) (bs : List Batch) → All (IsUnderWay commands k) bs → All (λ (part : Part). HasPart commands part.0 part.1) (map part_of bs)
known-pieces commands k [] all = All-nil (λ (part : Part). HasPart commands part.0 part.1)
known-pieces commands k (b ∷ bs) all =
    All-cons (λ (part : Part). HasPart commands part.0 part.1) (part_of b) (map part_of bs) (all 0 b (omega arith)).0 (known-pieces commands k bs (λ n c lt. all (suc n) c (omega (arith, lt))))

-- its commands are known
pub known-run : (commands : List Arrival) (k : ℕ) (run : RunModel) → RunShadow commands k run → All (IsKnown commands) (items_of (requests_of_run run))
known-run commands k run h = subst (All (IsKnown commands)) (sym (items-of-run run h.0)) (go run.first.asking)
  where
    one : All (IsKnown commands) (Runs (pieces_of run) ∷ [])
    one = All-cons (IsKnown commands) (Runs (pieces_of run)) [] (known-pieces commands k (batches_in run) h.1) (All-nil (IsKnown commands))

    go : (asks : Bool) → All (IsKnown commands) (items_for asks (pieces_of run))
    go true = All-cons (IsKnown commands) Asks (Runs (pieces_of run) ∷ []) tt one
    go false = one
