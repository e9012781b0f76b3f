-- One command of a client's is posted, told, or ends.
use Rattle.std.proofs.Common.{◌≡◌, ◌⊎◌, ◌<◌, ◌≤◌, ◌-◌, ◌++◌, ◌∷◌, [], arith, drop, get_or, length, map, take, ℕ, nat_eq, Bool, true, false, List, Option, Some, None, Result, Ok, Err, inl, inr, refl, sym, ap, ◌∙◌, subst}
use Rattle.std.specs.Prelude.{All, IfOk, OnErr}
use Rattle.std.proofs.lemmas.List.{append-nil, append_assoc}
use Rattle.std.proofs.lemmas.List.Elements.{All-cons, All-nil, All-tail, All-weaker}
use Rattle.std.specs.FinMap.{get, insert}
use Rattle.std.specs.Map.{lookup}
use Rattle.slot_hash.specs.Slot.{slot_of}
use Rattle.resp_wire.specs.declared.fault.NoMemory.{NoMemory}
use Rattle.key_split.specs.Runs.{RunModel}
use Rattle.key_split.specs.declared.travel.Ticket.{Ticket}
use Rattle.key_split.specs.declared.travel.Told.{Told}
use Rattle.command_future.specs.declared.stage.Stage.{Stage}
use Rattle.command_future.specs.declared.stage.Stage.TheVariants.{Wants, WantsAsking, Awaits, Over}
use Rattle.key_split.specs.declared.travel.Batch.{Batch}
use Rattle.command_future.specs.CommandModel.{CommandModel, IsFresh, MayPostTo, WantsPost, batch_of}
use Rattle.proxy_lanes.specs.declared.map_view.NotEntered.{NotEntered}
use Rattle.proxy_lanes.specs.declared.ring.Outlet.{Outlet}
use Rattle.proxy_lanes.specs.Lane.{Posts}
use Rattle.proxy_lanes.specs.View.{ViewModel}
use Rattle.proxy_turns.specs.Commands.{AreOneRun, AwaitsIn, CommandsModel, GoesTo, GoesWith, Hears, HearsOne, Looks, PostOutcome, PostsAtResult, PostsFresh, WantsPostAt, awaiting, commanded, in_table, run_of, with_posted}
use Rattle.proxy_turns.specs.ClientRest.{IfStill}
use Rattle.proxy_turns.specs.Pause.{pause_at}
use Rattle.proxy_turns.proofs.Tables.{put_again, at_number, none_some}

pub some_same : {A : Type 0} (x y : A) → Some x ≡ Some y → x ≡ y
some_same {A} x y e = ap (got x) e
  where
    got : A → Option A → A
    got d None = d
    got d (Some z) = z

-- where a command goes, the map was looked at or not
pub went : (stage : Stage) (slot : ℕ) (view : ViewModel) (node : ℕ) (view' : ViewModel) → GoesTo stage slot view node view'
    → (view' ≡ view) ⊎ ((answer : Result (Option ℕ) NotEntered) × Looks view slot answer view')
went (Wants (Some named)) slot view node view' goes = inl goes.1
went (Wants None) slot view node view' goes = inr (goes.0, goes.1)
went (WantsAsking named) slot view node view' goes = inl goes.1
went Awaits slot view node view' goes = absurd goes
went (Over end) slot view node view' goes = absurd goes

-- the run was made and could not be posted, or could not be made
pub came_back : (c : CommandModel) (outlet outlet' : Outlet RunModel) (view view' : ViewModel) (node : ℕ) (run : RunModel)
    → GoesTo c.stage (slot_of c.part.key) view node view' → Posts outlet outlet' run (Err run) → PostOutcome c outlet view false c outlet' view'
came_back c outlet outlet' view view' node run goes back = (refl, (went c.stage (slot_of c.part.key) view node view' goes, inr (run, back)))

pub not_made : (c : CommandModel) (outlet : Outlet RunModel) (view view' : ViewModel) (node : ℕ)
    → GoesTo c.stage (slot_of c.part.key) view node view' → PostOutcome c outlet view false c outlet view'
not_made c outlet view view' node goes = (refl, (went c.stage (slot_of c.part.key) view node view' goes, inl refl))

-- where the first goes, the run goes
run_goes : (first : CommandModel) (later : List CommandModel) (view view' : ViewModel) (node : ℕ) (run : RunModel) → GoesTo first.stage (slot_of first.part.key) view node view' → run ≡ run_of first later node
    → GoesTo first.stage (slot_of first.part.key) view run.first.node view' × (run ≡ run_of first later run.first.node)
run_goes first later view view' node run goes is =
    let same : run.first.node ≡ node = ap (λ (r : RunModel). r.first.node) is in
    let P : ℕ → Type 0 = λ n. GoesTo first.stage (slot_of first.part.key) view n view' × (run ≡ run_of first later n) in
    subst P (sym same) (goes, is)

pub was_posted : (c c' : CommandModel) (outlet outlet' : Outlet RunModel) (view view' : ViewModel) (node : ℕ) (run : RunModel)
    → GoesTo c.stage (slot_of c.part.key) view node view' → run ≡ run_of c [] node → Posts outlet outlet' run (Ok tt) → c' ≡ awaiting c → PostOutcome c outlet view true c' outlet' view'
was_posted c c' outlet outlet' view view' node run goes is posts new =
    let both = run_goes c [] view view' node run goes is in (run, both.0, both.1, posts, new)

module _ (fresh : List CommandModel) (old new : List (ℕ × CommandModel)) (number : ℕ) (c c' : CommandModel)
    (at : get (in_table old) number ≡ Some c) (put : in_table new ≡ insert (in_table old) number c') where
  unchanged : c' ≡ c → commanded fresh new ≡ commanded fresh old
  unchanged is =
      let same : in_table new ≡ in_table old = put ∙ ap (insert (in_table old) number) is ∙ put_again (in_table old) number c at in
      λ i. record { fresh = fresh; posted = same i }

  pub posts_at : (outlet outlet' : Outlet RunModel) (view view' : ViewModel) (result : Result Bool NoMemory)
      → IfOk result (λ moved. PostOutcome c outlet view moved c' outlet' view') → OnErr result (PostOutcome c outlet view false c' outlet' view')
      → PostsAtResult (commanded fresh old) number outlet view result (commanded fresh new) outlet' view'
  posts_at outlet outlet' view view' (Ok true) ok err =
      (c, c', at, ok, λ i. record { fresh = fresh; posted = put i })
  posts_at outlet outlet' view view' (Ok false) ok err = (unchanged ok.0, slot_of c.part.key, ok.1)
  posts_at outlet outlet' view view' (Err refused) ok err = (unchanged err.0, slot_of c.part.key, err.1)

  pub hears_at : (ticket : Ticket) (told : Told) (heard : Bool) → number ≡ ticket.part → HearsOne c ticket told heard c'
      → Hears (commanded fresh old) ticket told heard (commanded fresh new)
  hears_at ticket told true is (named, waits, new_is) = (
    c,
    (subst (λ n. get (in_table old) n ≡ Some c) is at, named, waits),
    λ i. record { fresh = fresh; posted = (put ∙ ap (λ n. insert (in_table old) n c') is ∙ ap (insert (in_table old) ticket.part) new_is) i },
  )
  hears_at ticket told false is (not, same) = (
    λ (d, (there, named, waits)).
        let one : d ≡ c = some_same d c (sym there ∙ ap (get (in_table old)) (sym is) ∙ at) in
        not (subst (λ (x : CommandModel). (x.ticket ≡ ticket) × (x.stage ≡ Awaits)) one (named, waits)),
    unchanged same,
  )

-- no command of the ticket was posted
pub silent : (fresh : List CommandModel) (entries : List (ℕ × CommandModel)) (ticket : Ticket) → lookup (nat_eq ticket.part) entries ≡ None
    → AwaitsIn (commanded fresh entries) ticket → ⊥
silent fresh entries ticket absent (c, (at, named, waits)) = none_some c (sym absent ∙ at_number ticket.part entries ∙ at)

pub same_commands : (fresh : List CommandModel) (old new : List (ℕ × CommandModel)) → in_table new ≡ in_table old → commanded fresh new ≡ commanded fresh old
same_commands fresh old new t = λ i. record { fresh = fresh; posted = t i }

module _ (fresh : List CommandModel) (first : CommandModel) (later : List CommandModel) (those : fresh ≡ first ∷ later) (old reserved : List (ℕ × CommandModel)) (same : in_table reserved ≡ in_table old)
    (outlet outlet' : Outlet RunModel) (view view' : ViewModel) (node : ℕ) (goes : GoesTo first.stage (slot_of first.part.key) view node view') where
  -- all were posted
  pub posts_all : (run : RunModel) → run ≡ run_of first later node → Posts outlet outlet' run (Ok tt) → (left : List CommandModel) → left ≡ [] → (new : List (ℕ × CommandModel))
      → in_table new ≡ with_posted (in_table reserved) fresh → PostsFresh (commanded fresh old) outlet view true (commanded left new) outlet' view'
  posts_all run is posts left none new put =
      let both = run_goes first later view view' node run goes is in (
        first,
        later,
        run,
        those,
        both.0,
        both.1,
        posts,
        λ i. record { fresh = none i; posted = (put ∙ ap (λ m. with_posted m fresh) same ∙ ap (with_posted (in_table old)) those) i },
      )

  -- the run came back
  pub none_back : (run : RunModel) → Posts outlet outlet' run (Err run) → PostsFresh (commanded fresh old) outlet view false (commanded fresh reserved) outlet' view'
  none_back run back = (same_commands fresh old reserved same, slot_of first.part.key, (went first.stage (slot_of first.part.key) view node view' goes, inr (run, back)))

  -- no run was made
  pub none_made : PostsFresh (commanded fresh old) outlet view false (commanded fresh reserved) outlet view'
  none_made = (same_commands fresh old reserved same, slot_of first.part.key, (went first.stage (slot_of first.part.key) view node view' goes, inl refl))

all_taken : {X : Type 0} (xs : List X) → take (length xs) xs ≡ xs
all_taken [] = refl
all_taken (x ∷ xs) = ap (λ ys. x ∷ ys) (all_taken xs)

-- the first of a list, and those behind it
pub front_item : {X : Type 0} (xs : List X) (x : X) → 1 ≤ length xs → x ≡ get_or xs 0 x → xs ≡ x ∷ take (length xs - 1) (drop 1 xs)
front_item [] x some is = absurd (omega (arith, some))
front_item (first ∷ more) x some is =
    let count : length (first ∷ more) - 1 ≡ length more = omega arith in
    ap (λ p. p ∷ more) (sym is) ∙ ap (λ ps. x ∷ ps) (sym (ap (λ n. take n more) count ∙ all_taken more))

-- one more goes behind the others
pub one_more_goes : (first : CommandModel) (node : ℕ) (all rest : List CommandModel) (next : CommandModel) (later grown : List Batch) (batch : Batch) → 1 ≤ length rest → next ≡ get_or rest 0 next
    → batch ≡ batch_of next node → grown ≡ later ++ batch ∷ [] → later ++ map (λ c. batch_of c node) rest ≡ map (λ c. batch_of c node) all → All (GoesWith first) rest
    → (grown ++ map (λ c. batch_of c node) (take (length rest - 1) (drop 1 rest)) ≡ map (λ c. batch_of c node) all) × All (GoesWith first) (take (length rest - 1) (drop 1 rest))
one_more_goes first node all rest next later grown batch some item made pushed so_far goes =
    let tail = take (length rest - 1) (drop 1 rest) in
    let whole : rest ≡ next ∷ tail = front_item rest next some item in
    let batches : List CommandModel → List Batch = map (λ c. batch_of c node) in (
      ap (λ (bs : List Batch). bs ++ batches tail) (pushed ∙ ap (λ (b : Batch). later ++ b ∷ []) made) ∙ append_assoc later (batch_of next node ∷ []) (batches tail) ∙ sym (ap (λ (cs : List CommandModel). later ++ batches cs) whole) ∙ so_far,
      All-tail (GoesWith first) next tail (subst (All (GoesWith first)) whole goes),
    )

-- where none is left, all go
pub all_made : (first : CommandModel) (node : ℕ) (all rest : List CommandModel) (run : RunModel) → length rest < 1 → run.first ≡ batch_of first node
    → run.later ++ map (λ c. batch_of c node) rest ≡ map (λ c. batch_of c node) all → run ≡ run_of first all node
all_made first node all [] run none is so_far = λ i. record { first = is i; later = (sym (append-nil run.later) ∙ so_far) i }
all_made first node all (next ∷ rest) run none is so_far = absurd (omega (arith, none))

-- each may be posted anywhere
pub may_all : (cs : List CommandModel) (node : ℕ) → AreOneRun cs → All (λ c. MayPostTo c.stage node) cs
may_all [] node one = All-nil (λ c. MayPostTo c.stage node)
may_all (first ∷ later) node (own, others) =
    All-cons (λ c. MayPostTo c.stage node) first later (may_one first own) (All-weaker (GoesWith first) (λ c. MayPostTo c.stage node) (λ c goes. may_one c goes.fresh) later others)
  where
    may_one : (c : CommandModel) → IsFresh c → MayPostTo c.stage node
    may_one c is = subst (λ (x : CommandModel). MayPostTo x.stage node) (sym is) tt

-- ---- whether a command wants its post

pub still_on : {P Q : Type 0} (result : Result Bool NoMemory) → (P → Q) → IfStill result P → IfStill result Q
still_on (Ok true) f holds = tt
still_on (Ok false) f holds = f holds
still_on (Err refused) f holds = tt

pub wants_here : (commands : CommandsModel) (number : ℕ) (c : CommandModel) → get commands.posted number ≡ Some c → WantsPostAt commands number → WantsPost c.stage
wants_here commands number c at (d, there, wants) = subst (λ (x : CommandModel). WantsPost x.stage) (some_same d c (sym there ∙ at)) wants

pub wants_nowhere : (commands : CommandsModel) (number : ℕ) → get commands.posted number ≡ None → WantsPostAt commands number → ⊥
wants_nowhere commands number absent (d, there, wants) = none_some d (sym absent ∙ there)

pub wants_no_more : (stage : Stage) (followed : ℕ) → pause_at stage followed ≡ None → WantsPost stage → ⊥
wants_no_more (Wants None) followed is wants = cc
wants_no_more (Wants (Some node)) followed is wants = cc
wants_no_more (WantsAsking node) followed is wants = cc
wants_no_more Awaits followed is wants = wants
wants_no_more (Over end) followed is wants = wants
