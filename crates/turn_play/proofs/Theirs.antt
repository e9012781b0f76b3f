-- A run of others that a node executed is a step of others.
use Rattle.std.proofs.Common.{◌≡◌, ◌∙◌, ℕ, Bool, List, [], ◌∷◌, ◌++◌, refl, sym, ap, subst, arith, length}
use Rattle.std.specs.Prelude.{All, map}
use Rattle.std.proofs.lemmas.List.Elements.{All-cons, All-head, All-nil, All-tail, All-weaker}
use Rattle.slot_hash.specs.Slot.{slot_of}
use Rattle.key_split.specs.PartModel.{PartModel, HasOneSlot, keys_of}
use Rattle.key_split.specs.declared.travel.Ticket.{Ticket}
use Rattle.key_split.specs.declared.travel.Told.{Told}
use Rattle.node_model.specs.History.{EntryModel, IsLegal, left_by}
use Rattle.node_model.specs.Nodes.{ClusterModel, store_at, with_store}
use Rattle.node_model.specs.Runs.{AreReplies, DoesRun, HaveOneSlot, deed_for, first_key, keys_in, store_after_all}
use Rattle.node_model.specs.Store.{StoreModel, reply_to, store_after}
use Rattle.node_model.specs.declared.role.Deed.{Deed}
use Rattle.node_model.specs.declared.role.Deed.TheVariants.{Executes, Says}
use Rattle.node_model.specs.declared.role.Verdict.TheVariants.{Plain}
use Rattle.world_laws.specs.State.{slot_for}
use Rattle.world_laws.specs.World.{IsNode}
use Rattle.world_laws.proofs.Nodes.{reply-is}
use Rattle.shared_laws.specs.Shared.{AskIsTrue, IsOwn, IsTheirs, parts_in}
use Rattle.turn_laws.specs.Wire.{Execution}
use Rattle.turn_laws.specs.Shadow.{entry_at}
use Rattle.turn_laws.specs.Sharing.{OthersDo, SharedEvent}
use Rattle.turn_laws.specs.System.{System}
use Rattle.turn_laws.specs.Steps.{log_of}
use Rattle.turn_play.specs.Beside.{OthersMay, StepBeside, parts_of}
use Rattle.turn_play.specs.Others.{AreServed}
use Rattle.turn_play.specs.Playing.{PlayModel}
use Rattle.turn_play.specs.Port.{IsEnd}
use Rattle.turn_play.specs.Deeds.{IsEventOfOthers}
use Rattle.turn_play.proofs.Playing.{PlaysWhereBeside, same-engine}

-- ---- keys

front : {X : Type 0} (P : X → Type 0) (xs ys : List X) → All P (xs ++ ys) → All P xs
front P [] ys all = All-nil P
front P (x ∷ xs) ys all = All-cons P x xs (All-head P x (xs ++ ys) all) (front P xs ys (All-tail P x (xs ++ ys) all))

back : {X : Type 0} (P : X → Type 0) (xs ys : List X) → All P (xs ++ ys) → All P ys
back P [] ys all = all
back P (x ∷ xs) ys all = back P xs ys (All-tail P x (xs ++ ys) all)

abbrev IsOfSlot : ℕ → PartModel → Type 0
IsOfSlot slot part = (slot_for part ≡ slot) × HasOneSlot part

each-slot : (slot : ℕ) (cs : List PartModel) → All (λ key. slot_of key ≡ slot) (keys_in cs) → All (IsOfSlot slot) cs
each-slot slot [] all = All-nil (IsOfSlot slot)
each-slot slot (c ∷ cs) all =
    let own : All (λ key. slot_of key ≡ slot) (keys_of c) = front (λ key. slot_of key ≡ slot) (keys_of c) (keys_in cs) all in
    let first : slot_for c ≡ slot = own 0 c.key (omega arith) in
    All-cons (IsOfSlot slot) c cs
    (first, All-weaker (λ key. slot_of key ≡ slot) (λ key. slot_of key ≡ slot_for c) (λ key e. e ∙ sym first) (keys_of c) own)
    (each-slot slot cs (back (λ key. slot_of key ≡ slot) (keys_of c) (keys_in cs) all))

-- ---- a step of others is one of the system beside others

abbrev entries : ℕ → List Execution → List EntryModel
entries moment done = map (entry_at moment) done

same-parts : (moment : ℕ) (done : List Execution) → parts_in (entries moment done) ≡ parts_of done
same-parts moment [] = refl
same-parts moment (e ∷ done) = ap (λ cs. e.part ∷ cs) (same-parts moment done)

left-behind : (moment : ℕ) (done : List Execution) (store : StoreModel) → store_after_all store (parts_of done) ≡ left_by store (entries moment done)
left-behind moment [] store = refl
left-behind moment (e ∷ done) store = left-behind moment done (store_after store e.part)

abbrev AreOfOne : ℕ → ℕ → Execution → Type 0
AreOfOne workers client e = (e.ticket.client ≡ client) × (IsOwn workers e.ticket → ⊥)

their-entries : (workers moment client slot : ℕ) (done : List Execution) → All (AreOfOne workers client) done → All (IsOfSlot slot) (parts_of done) → All (IsTheirs workers moment client slot) (entries moment done)
their-entries workers moment client slot [] tickets slots = All-nil (IsTheirs workers moment client slot)
their-entries workers moment client slot (e ∷ done) tickets slots =
    let ticket = All-head (AreOfOne workers client) e done tickets in
    let part = All-head (IsOfSlot slot) e.part (parts_of done) slots in
    All-cons (IsTheirs workers moment client slot) (entry_at moment e) (entries moment done)
    (record { theirs = ticket.1; client_is = ticket.0; slot_is = part.0; one_slot = part.1; now = refl })
    (their-entries workers moment client slot done (All-tail (AreOfOne workers client) e done tickets) (All-tail (IsOfSlot slot) e.part (parts_of done) slots))

asks-entries : (k : ClusterModel) (node : ℕ) (asking : Bool) (moment : ℕ) (done : List Execution) → All (λ (e : Execution). AskIsTrue k node asking e.part) done
    → All (λ (e : EntryModel). AskIsTrue k node asking e.part) (entries moment done)
asks-entries k node asking moment [] all = All-nil (λ (e : EntryModel). AskIsTrue k node asking e.part)
asks-entries k node asking moment (e ∷ done) all =
    All-cons (λ (x : EntryModel). AskIsTrue k node asking x.part) (entry_at moment e) (entries moment done)
    (All-head (λ (x : Execution). AskIsTrue k node asking x.part) e done all)
    (asks-entries k node asking moment done (All-tail (λ (x : Execution). AskIsTrue k node asking x.part) e done all))

module _ {C J : Type 0} where
  pub others-do : (s s' : System C J) (node : ℕ) (asking : Bool) (done : List Execution) → OthersMay s node asking done s' → All (λ (e : Execution). AskIsTrue s.cluster node asking e.part) done → OthersDo s node asking done s'
  others-do s s' node asking done x asks =
      let cluster : s'.cluster ≡ with_store s.cluster node (store_after_all (store_at s.cluster node) (parts_of done)) = ap (λ (t : System C J). t.cluster) x.leaves in
      let slots = each-slot (slot_of (first_key (parts_of done))) (parts_of done) x.one_slot in (
        λ moment. (
          x.client,
          slot_of (first_key (parts_of done)),
          their-entries (length s.workers) moment x.client (slot_of (first_key (parts_of done))) done x.theirs slots,
          x.there,
          asks-entries s.cluster node asking moment done asks,
          ap (λ cs. deed_for s.cluster node asking cs Plain) (same-parts moment done) ∙ x.executes,
          x.legal moment,
          cluster ∙ ap (λ store. with_store s.cluster node store) (left-behind moment done (store_at s.cluster node)),
        ),
        x.leaves ∙ (λ i. record s { cluster = sym cluster i; log = s.log ++ log_of done }),
      )

-- ---- what a node executed of them

-- a ticket that is nobody's here: its worker is not the one that its client has
abbrev their_ticket : Ticket
their_ticket = record { worker = 1; client = 0; part = 0 }

no-worker : (workers : ℕ) → IsOwn workers their_ticket → ⊥
no-worker workers own = absurd (omega (arith, own))

abbrev AreExecuted : StoreModel → List PartModel → Type 0
AreExecuted store cs =
    (done : List Execution) × (parts_of done ≡ cs) × ((moment : ℕ) → IsLegal store (map (entry_at moment) done)) × ((workers : ℕ) → All (AreOfOne workers 0) done)

executed-each : (store : StoreModel) (cs : List PartModel) (tolds : List Told) → AreReplies store cs tolds → AreExecuted store cs
executed-each store [] [] x = ([], refl, λ moment. tt, λ workers. All-nil (AreOfOne workers 0))
executed-each store [] (told ∷ tolds) x = absurd x
executed-each store (c ∷ cs) [] x = absurd x
executed-each store (c ∷ cs) (told ∷ tolds) x =
    let reply = reply-is told (reply_to store c) x.0 in
    let later = executed-each (store_after store c) cs tolds x.1 in
    let one : Execution = record { ticket = their_ticket; part = c; value = reply.0 } in (
      one ∷ later.0,
      ap (λ more. c ∷ more) later.1,
      λ moment. (reply.2, later.2 moment),
      λ workers. All-cons (AreOfOne workers 0) one later.0 (refl, no-worker workers) (later.3 workers),
    )

-- each of its commands follows a true ASK
each-asks : (k : ClusterModel) (node : ℕ) (asking : Bool) (done : List Execution) → All (λ (part : PartModel). AskIsTrue k node asking part) (parts_of done) → All (λ (e : Execution). AskIsTrue k node asking e.part) done
each-asks k node asking [] all = All-nil (λ (e : Execution). AskIsTrue k node asking e.part)
each-asks k node asking (e ∷ done) all =
    All-cons (λ (x : Execution). AskIsTrue k node asking x.part) e done
    (All-head (λ (part : PartModel). AskIsTrue k node asking part) e.part (parts_of done) all)
    (each-asks k node asking done (All-tail (λ (part : PartModel). AskIsTrue k node asking part) e.part (parts_of done) all))

module _ {C J : Type 0} (old : PlayModel C J) (node : ℕ) (asking : Bool) (cs : List PartModel) (told : List Told) (k : ClusterModel) where
  -- an ASK that they follow is true
  abbrev Asks : System C J → Type 0
  Asks s = All (λ (part : PartModel). AskIsTrue s.cluster node asking part) cs

  -- they come to this node
  abbrev Comes : SharedEvent → Type 0
  Comes event = IsEventOfOthers node asking cs event

  by-deed : (deed : Deed) → deed_for old.cluster node asking cs Plain ≡ deed → IsNode old.cluster node → HaveOneSlot cs → DoesRun deed old.cluster node cs told k → PlaysWhereBeside Asks Comes old (record old { cluster = k; told = told })
  by-deed Executes is there one x s shows =
      let run = executed-each (store_at old.cluster node) cs told x.0 in
      let next : System C J = record s { cluster = k; log = s.log ++ log_of run.0 } in
      let same : old.cluster ≡ s.cluster = sym shows.cluster in
      let may : OthersMay s node asking run.0 next = record {
        client = 0;
        theirs = run.3 (length s.workers);
        one_slot = subst HaveOneSlot (sym run.1) one;
        there = subst (λ c. IsNode c node) same there;
        executes = (λ i. deed_for (sym same i) node asking (run.1 i) Plain) ∙ is;
        legal = λ moment. subst (λ (c : ClusterModel). IsLegal (store_at c node) (map (entry_at moment) run.0)) same (run.2 moment);
        leaves = λ i. record s { cluster = (x.1 ∙ (λ j. with_store (same j) node (store_after_all (store_at (same j) node) (sym run.1 j)))) i; log = s.log ++ log_of run.0 };
      } in (
        next,
        (record { event = SharedEvent.Theirs node asking run.0; next = next } ∷ [], (may, refl), (λ given. ((λ lists. each-asks s.cluster node asking run.0 (subst (λ parts. All (λ (part : PartModel). AskIsTrue s.cluster node asking part) parts) (sym run.1) given)), tt)), All-cons (λ (step : StepBeside C J). Comes step.event) (record { event = SharedEvent.Theirs node asking run.0; next = next }) [] (refl, refl, run.1) (All-nil (λ (step : StepBeside C J). Comes step.event))),
        record { engine = same-engine IsEnd old.engine s next shows.engine refl refl; cluster = refl; nodes = shows.nodes },
      )
  by-deed (Says said) is there one x s shows = (s, ([], refl, (λ given. tt), All-nil (λ (step : StepBeside C J). Comes step.event)), record { engine = shows.engine; cluster = shows.cluster ∙ sym x.1; nodes = shows.nodes })

  -- they came to a node
  pub others-came : AreServed old.cluster node asking cs told k → PlaysWhereBeside Asks Comes old (record old { cluster = k; told = told })
  others-came x = by-deed (deed_for old.cluster node asking cs Plain) refl x.0 x.1 x.2
