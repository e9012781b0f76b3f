-- A run goes to a node that there is.
use Rattle.std.proofs.Common.{◌≡◌, ⊎_elim, ℕ, ◌<◌, Bool, true, false, List, [], ◌∷◌, Some, None, cond, refl, sym, ap, subst, arith}
use Rattle.std.specs.Prelude.{Option, Result, Ok, Err, All, reverse}
use Rattle.std.specs.List.{find}
use Rattle.std.specs.Option.{option_map}
use Rattle.std.specs.FinMap.{FinMap, get}
use Rattle.std.specs.Ordering.{nat_cmp}
use mathlib.Core.List.{IsPrefix}
use Rattle.std.proofs.lemmas.List.{reverse-append}
use Rattle.std.proofs.lemmas.List.Elements.{All-nil, All-cons, All-head, All-tail, All-append}
use Rattle.key_split.specs.Runs.{RunModel}
use Rattle.slot_hash.specs.Slot.{slot_of}
use Rattle.slot_map.specs.declared.ops.MapOp.{MapOp}
use Rattle.slot_map.specs.Map.{covers, node_in, node_after}
use Rattle.command_future.specs.CommandModel.{CommandModel, IsFresh}
use Rattle.command_future.specs.declared.stage.Stage.{Stage}
use Rattle.command_future.specs.declared.stage.Stage.TheVariants.{Wants, WantsAsking, Awaits, Over}
use Rattle.proxy_lanes.specs.declared.map_view.NotEntered.{NotEntered}
use Rattle.proxy_lanes.specs.View.{ViewModel}
use Rattle.proxy_turns.specs.Port.{Moves}
use Rattle.proxy_turns.specs.Commands.{CommandsModel, TakesRun, GoesTo, Looks, node_looked_up}
use Rattle.proxy_turns.specs.ClientModel.{ClientModel}
use Rattle.proxy_turns.specs.ClientTurn.{Posted}
use Rattle.proxy_turns.specs.WorkerModel.{WorkerModel, WorkerDoes, Did}
use Rattle.turn_laws.specs.Naming.{SetsOneOf, WantsOneOf}
use Rattle.turn_laws.proofs.Elements.{all-front}

abbrev pub Table : Type 0
Table = FinMap nat_cmp CommandModel

-- the commands that were posted
abbrev pub PostedWant : ℕ → Table → Type 0
PostedWant n posted = (part : ℕ) (c : CommandModel) → get posted part ≡ Some c → WantsOneOf n c.stage

abbrev pub ClientsWant : {C : Type 0} → ℕ → FinMap nat_cmp (ClientModel C) → Type 0
ClientsWant {C} n clients = (number : ℕ) (client : ClientModel C) → get clients number ≡ Some client → PostedWant n client.commands.posted

find-has : (P : MapOp → Type 0) (p : MapOp → Bool) (xs : List MapOp) (x : MapOp) → All P xs → find p xs ≡ Some x → P x
find-has P p [] x h e = absurd (cc)
find-has P p (y ∷ xs) x h e = go (p y) (find-has P p xs x (All-tail P y xs h)) e
  where
    go : (b : Bool) → (find p xs ≡ Some x → P x) → cond b (Some y) (find p xs) ≡ Some x → P x
    go true later f = let same : y ≡ x = cc in subst P same (All-head P y xs h)
    go false later f = later f

all-reverse : (P : MapOp → Type 0) (xs : List MapOp) → All P xs → All P (reverse xs)
all-reverse P [] h = h
all-reverse P (x ∷ xs) h = subst (All P) (sym (reverse-append (x ∷ []) xs)) (All-append P (reverse xs) (x ∷ []) (all-reverse P xs (All-tail P x xs h)) (All-cons P x [] (All-head P x xs h) (All-nil P)))

node-of : (n : ℕ) (o : Option MapOp) (node : ℕ) → ((op : MapOp) → o ≡ Some op → SetsOneOf n op) → option_map node_in o ≡ Some node → node < n
node-of n None node h e = absurd (cc)
node-of n (Some op) node h e = let same : node_in op ≡ node = cc in omega (arith, h op refl, same)

looked-up : (n : ℕ) (view : List MapOp) (slot node : ℕ) → All (SetsOneOf n) view → Some node ≡ node_after view slot → node < n
looked-up n view slot node h e = node-of n (find (covers slot) (reverse view)) node (λ op f. find-has (SetsOneOf n) (covers slot) (reverse view) op (all-reverse (SetsOneOf n) view h) f) (sym e)

looks-to : (n : ℕ) (answer : Result (Option ℕ) NotEntered) (old new : ViewModel) (slot node : ℕ) → 0 < n → All (SetsOneOf n) new.known → Looks old slot answer new → node ≡ node_looked_up answer → node < n
looks-to n (Ok (Some m)) old new slot node seed h l e = omega (arith, e, looked-up n new.known slot m h l.1)
looks-to n (Ok None) old new slot node seed h l e = omega (arith, e, seed)
looks-to n (Err refused) old new slot node seed h l e = omega (arith, e, seed)

goes-there : (n : ℕ) (stage : Stage) (slot : ℕ) (old new : ViewModel) (node : ℕ) → 0 < n → All (SetsOneOf n) new.known → WantsOneOf n stage → GoesTo stage slot old node new → node < n
goes-there n (Wants (Some named)) slot old new node seed h w g = omega (arith, w, g.0)
goes-there n (Wants None) slot old new node seed h w g = looks-to n g.0 old new slot node seed h g.1 g.2
goes-there n (WantsAsking named) slot old new node seed h w g = omega (arith, w, g.0)
goes-there n Awaits slot old new node seed h w g = absurd g
goes-there n (Over end) slot old new node seed h w g = absurd g

front-sets : (n : ℕ) (view published : List MapOp) → IsPrefix view published → All (SetsOneOf n) published → All (SetsOneOf n) view
front-sets n view published front h = all-front (SetsOneOf n) view front.0 (subst (All (SetsOneOf n)) (sym front.1) h)

-- the first command of a run that is posted
first-wants : (n : ℕ) (old rest : CommandsModel) (first : CommandModel) (later : List CommandModel) → PostedWant n old.posted → TakesRun old first later rest → WantsOneOf n first.stage
first-wants n old rest first later h t = ⊎_elim
    (λ (x : (old.fresh ≡ first ∷ later) × All IsFresh (first ∷ later) × (rest ≡ record old { fresh = [] })).
    subst (WantsOneOf n) (sym (ap (λ (c : CommandModel). c.stage) (All-head IsFresh first later x.1))) tt)
    (λ (x : (get old.posted first.ticket.part ≡ Some first) × (later ≡ []) × (rest ≡ old)). h first.ticket.part first x.0)
    t

-- a run that a worker posts goes to a node of the cluster
pub posts-there : {C J : Type 0} (moves : Moves C) (n number : ℕ) (run : RunModel) (old new : WorkerModel C J) (published : List MapOp) → 0 < n → All (SetsOneOf n) published → IsPrefix new.view.known published
    → ClientsWant n old.clients → WorkerDoes moves old (Did number (Posted run)) new → run.first.node < n
posts-there moves n number run old new published seed all front h d =
    let p = d.3 in
    goes-there n (p.0).stage (slot_of (p.0).part.key) old.view new.view run.first.node seed (front-sets n new.view.known published front all)
    (first-wants n (d.0).commands p.2 p.0 p.1 (h number d.0 d.2) p.3) p.7
