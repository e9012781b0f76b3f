-- The tickets of a refused run, told one after the other.
use Rattle.std.proofs.Common.{◌≡◌, ◌≢◌, ◌∙◌, ◌≤◌, ◌+◌, ℕ, zero, suc, List, [], ◌∷◌, length, Bool, true, false, Option, Some, None, is_some, refl, sym, ap, subst, arith}
use Rattle.std.specs.Prelude.{◌↔◌, IsTrue, drop, map, slice_get}
use Rattle.std.proofs.lemmas.Bool.{false≢true}
use Rattle.key_split.specs.Runs.{RunModel, count_in}
use Rattle.key_split.specs.declared.travel.Batch.{Batch}
use Rattle.key_split.specs.declared.travel.Ticket.{Ticket}
use Rattle.key_split.specs.declared.travel.Told.TheVariants.{Unsent}
use Rattle.proxy_lanes.specs.declared.ends.lane_ends.LaneEnds.{LaneEnds}
use Rattle.proxy_turns.specs.declared.pending_run.PendingRun.{PendingRun}
use Rattle.proxy_turns.specs.PendingRun.{ComesBack, TellOutcome, WaitsToTell, no_pending_run}
use Rattle.proxy_turns.specs.RefusedRun.{tickets_in, tickets_left}

abbrev ticket_of : Batch → Ticket
ticket_of batch = batch.ticket

-- ---- places of a run

at_some : (xs : List Batch) (p : ℕ) (batch : Batch) → slice_get xs p ≡ Some batch → slice_get (map ticket_of xs) p ≡ Some batch.ticket
at_some [] p batch e = absurd (cc)
at_some (x ∷ xs) zero batch e = let same : x ≡ batch = cc in ap (λ (b : Batch). Some b.ticket) same
at_some (x ∷ xs) (suc p) batch e = at_some xs p batch e

at_none : (xs : List Batch) (p : ℕ) → slice_get xs p ≡ None → slice_get (map ticket_of xs) p ≡ None
at_none [] p e = refl
at_none (x ∷ xs) zero e = absurd (cc)
at_none (x ∷ xs) (suc p) e = at_none xs p e

-- a ticket behind the first
pub behind_some : (run : RunModel) (place p : ℕ) (batch : Batch) → suc p ≡ place → slice_get run.later p ≡ Some batch → Some batch.ticket ≡ slice_get (tickets_in run) place
behind_some run place p batch is e = let Q : ℕ → Type 0 = λ n. Some batch.ticket ≡ slice_get (tickets_in run) n in subst Q is (sym (at_some run.later p batch e))

pub behind_none : (run : RunModel) (place p : ℕ) → suc p ≡ place → slice_get run.later p ≡ None → None ≡ slice_get (tickets_in run) place
behind_none run place p is e = let Q : ℕ → Type 0 = λ n. None ≡ slice_get (tickets_in run) n in subst Q is (sym (at_none run.later p e))

length_of : (xs : List Batch) → length (map ticket_of xs) ≡ length xs
length_of [] = refl
length_of (x ∷ xs) = let e = length_of xs in omega (arith, e)

length_in : (run : RunModel) → length (tickets_in run) ≡ count_in run
length_in run = let e = length_of run.later in omega (arith, e)

-- ---- what is left

one_more : (n : ℕ) (xs : List Ticket) → drop (suc n) xs ≡ drop 1 (drop n xs)
one_more zero xs = refl
one_more (suc n) [] = refl
one_more (suc n) (x ∷ xs) = one_more n xs

none_at : (n : ℕ) (xs : List Ticket) → length xs ≤ n → drop n xs ≡ []
none_at zero [] le = refl
none_at zero (x ∷ xs) le = absurd (omega (arith, le))
none_at (suc n) [] le = refl
none_at (suc n) (x ∷ xs) le = none_at n xs (omega (arith, le))

none_more : (n : ℕ) (xs : List Ticket) → length xs ≤ n + 1 → [] ≡ drop 1 (drop n xs)
none_more n xs le = sym (none_at (suc n) xs (omega (arith, le))) ∙ one_more n xs

first_is : (xs : List Ticket) (ticket : Ticket) → slice_get xs 0 ≡ Some ticket → xs ≡ ticket ∷ drop 1 xs
first_is [] ticket e = absurd (cc)
first_is (x ∷ xs) ticket e = let same : x ≡ ticket = cc in ap (λ t. t ∷ xs) same

pub refused_where : (xs : List Ticket) → IsTrue (is_some (slice_get xs 0)) ↔ (xs ≢ [])
refused_where [] = ((λ e. absurd (false≢true e)), (λ some. absurd (some refl)))
refused_where (x ∷ xs) = ((λ e none. absurd (cc)), (λ some. refl))

pub none_left : (xs : List Ticket) → (xs ≢ [] → IsTrue false) → xs ≡ []
none_left [] f = refl
none_left (x ∷ xs) f = absurd (false≢true (f (λ none. absurd (cc))))

-- the next ticket waits, where its lane is full
pub waits_first : {H : Type 0} (old : PendingRun) (lanes lanes' : List (LaneEnds H)) (ticket : Ticket) → slice_get old.refused 0 ≡ Some ticket
    → ComesBack lanes (ticket, Unsent) lanes' → TellOutcome old lanes false old lanes'
waits_first old lanes lanes' ticket first back =
    let Q : List Ticket → Type 0 = λ rs. WaitsToTell rs lanes lanes' in
    (refl, subst Q (sym (first_is old.refused ticket first)) back)

-- no run is pending, and none is left to be told
pub nothing_pending : (run : Option RunModel) (refused : List Ticket) {found : Bool} → found ≡ is_some run → found ≡ false → (refused ≢ [] → IsTrue false)
    → record { run = run; refused = refused } ≡ no_pending_run
nothing_pending None refused is none f = let left = none_left refused f in λ i. record { run = None; refused = left i }
nothing_pending (Some run) refused is none f = absurd (cc)

-- ---- what is left of a run, by how many of its tickets were told

pub run_goes_on : (left : List Ticket) (o : Option RunModel) (told next : ℕ) (run : RunModel) → tickets_left o told ≡ left → o ≡ Some run → next ≡ suc told → tickets_left o next ≡ drop 1 left
run_goes_on left None told next run is there one = absurd (cc)
run_goes_on left (Some other) told next run is there one = ap (λ n. drop n (tickets_in other)) one ∙ one_more told (tickets_in other) ∙ ap (λ ts. drop 1 ts) is

pub run_ends : (left : List Ticket) (o : Option RunModel) (told : ℕ) (run : RunModel) → tickets_left o told ≡ left → o ≡ Some run → count_in run ≤ told + 1 → [] ≡ drop 1 left
run_ends left None told run is there le = absurd (cc)
run_ends left (Some other) told run is there le =
    let same : other ≡ run = cc in
    let many = length_in other in
    let le' : count_in other ≤ told + 1 = let Q : RunModel → Type 0 = λ r. count_in r ≤ told + 1 in subst Q (sym same) le in
    none_more told (tickets_in other) (omega (arith, many, le')) ∙ ap (λ ts. drop 1 ts) is
