-- A script, planned step by step.
use Rattle.std.proofs.Common.{◌≡◌, ◌≤◌, ◌+◌, ◌^◌, ◌++◌, ◌∷◌, ◌&&◌, [], suc, List, ℕ, Bool, true, false, Option, Some, None, length, length-append, append_assoc, refl, sym, ap, subst, ◌∙◌, arith, map}
use Rattle.std.specs.Prelude.{is_some}
use Rattle.std.specs.List.{flat_map}
use Rattle.std.proofs.lemmas.List.{append-nil}
use Rattle.resp_wire.specs.ReaderModel.{ReaderModel}
use Rattle.resp_wire.specs.declared.value.Value.{Value}
use Rattle.key_split.specs.PartModel.{PartModel}
use Rattle.key_split.specs.declared.travel.Ticket.{Ticket}
use Rattle.key_split.specs.declared.travel.Ended.{Ended}
use Rattle.key_split.specs.declared.planned.Joining.{Joining}
use Rattle.session_order.specs.Output.{ends_from, replies_told}
use Rattle.session_order.specs.PendingReply.{owed_for, goodbye}
use Rattle.session_order.specs.Replies.{bytes_of, joined, lines_owed, spelling}
use Rattle.session_order.specs.declared.replies.PendingReply.{PendingReply}
use Rattle.session_order.specs.declared.replies.PendingReply.TheVariants as owed
use Rattle.script_runs.specs.Ends.{Told}
use Rattle.script_runs.specs.declared.client_id.ClientId.{ClientId}
use Rattle.script_runs.specs.declared.wanted.Wanted.{Wanted}
use Rattle.script_runs.specs.declared.wanted.Wanted.TheVariants.{Nothing, Skip, Reply, Parts, Close}
use Rattle.script_runs.specs.Requests.{Request, Requested, AsksFor, ended, skipped, asked, quit, before, parts_for}
use Rattle.script_runs.specs.Run.{numbered, ticket_at}
use Rattle.script_runs.specs.Wanted.{IsNumbered, Wants, GoesOn}
use Rattle.script_runs.specs.Replayed.{State, where_whole, says, joined_line, takes_parts, after, goes_on, outcome_of, outcome}
use Rattle.script_runs.proofs.Telling.{no-way, and-assoc, all_told, told-append}

-- ---- parts, numbered on

pub numbered-more : (client_id : ClientId) (next : ℕ) (old : List (Ticket × PartModel)) (part : PartModel) (rest whole : List PartModel) (ticket : Ticket) → ticket ≡ ticket_at client_id next
    → whole ≡ part ∷ rest → (old ++ (ticket, part) ∷ []) ++ numbered client_id (next + 1) rest ≡ old ++ numbered client_id next whole
numbered-more client_id next old part rest whole ticket is all =
    append_assoc old ((ticket, part) ∷ []) (numbered client_id (next + 1) rest)
    ∙ ap (λ (t : Ticket). old ++ (t, part) ∷ numbered client_id (next + 1) rest) is
    ∙ ap (λ (ps : List PartModel). old ++ numbered client_id next ps) (sym all)

pub numbered-all : (client_id : ClientId) (next : ℕ) (old : List (Ticket × PartModel)) (rest : List PartModel) (all : List (Ticket × PartModel)) → rest ≡ []
    → old ++ numbered client_id next rest ≡ all → old ≡ all
numbered-all client_id next old rest all none is = sym (append-nil old) ∙ ap (λ (ps : List PartModel). old ++ numbered client_id next ps) (sym none) ∙ is

numbered-append : (client_id : ClientId) (n : ℕ) (xs ys : List PartModel) → numbered client_id n (xs ++ ys) ≡ numbered client_id n xs ++ numbered client_id (n + length xs) ys
numbered-append client_id n [] ys = let here : n ≡ n + 0 = omega arith in ap (λ (m : ℕ). numbered client_id m ys) here
numbered-append client_id n (x ∷ xs) ys =
    let there : n + 1 + length xs ≡ n + suc (length xs) = omega arith in
    ap (λ (rest : List (Ticket × PartModel)). (ticket_at client_id n, x) ∷ rest) (numbered-append client_id (n + 1) xs ys
    ∙ ap (λ (m : ℕ). numbered client_id (n + 1) xs ++ numbered client_id m ys) there)

-- ---- what comes of a state is what comes of the next, before the requests that are left

where-append : (w : Bool) (a b : List ℕ) → where_whole w (a ++ b) ≡ where_whole w a ++ where_whole w b
where-append true a b = refl
where-append false a b = refl

pub replied : (client_id : ClientId) (told : List Told) (s : State) (words : Request) (value : Value) (later : Requested) → owed_for words ≡ owed.Reply value → parts_for words ≡ []
    → outcome client_id told (says s (spelling value)) later ≡ outcome client_id told s (before words later)
replied client_id told s words value later owes none =
    let further = flat_map parts_for later.requests in
    let next = bytes_of (replies_told told s.number (map owed_for later.requests) (lines_owed later.faulted)) in
    let p = ap (λ (ps : List PartModel). s.parts ++ numbered client_id s.number (ps ++ further)) (sym none) in
    let o = append_assoc s.output (where_whole s.whole (spelling value)) (where_whole s.whole next)
    ∙ ap (λ (bytes : List ℕ). s.output ++ bytes) (sym (where-append s.whole (spelling value) next))
    ∙ ap (λ (one : PendingReply). s.output ++ where_whole s.whole (bytes_of (replies_told told s.number (one ∷ map owed_for later.requests) (lines_owed later.faulted)))) (sym owes) in
    let w = ap (λ (ps : List PartModel). s.whole && all_told told s.number (length (ps ++ further))) (sym none) in
    λ i. record { parts = p i; output = o i; whole = w i }

-- the replies from a request with parts on, by the ends of its parts
abbrev pub from_ends : Joining → Option (List Ended) → List Value → List Value
from_ends how None next = []
from_ends how (Some ends) next = joined how ends ∷ next

by-ends : (told : List Told) (n : ℕ) (how : Joining) (k : ℕ) (rest : List PendingReply) (last : List Value) (found : Option (List Ended)) → ends_from told n k ≡ found
    → replies_told told n (owed.Parts how k ∷ rest) last ≡ from_ends how found (replies_told told (n + k) rest last)
by-ends told n how k rest last None is = rw (is, replies_told) refl
by-ends told n how k rest last (Some ends) is = rw (is, replies_told) refl

line-step : (out : List ℕ) (w : Bool) (how : Joining) (found : Option (List Ended)) (next : List Value)
    → (out ++ where_whole w (joined_line how found)) ++ where_whole (w && is_some found) (bytes_of next) ≡ out ++ where_whole w (bytes_of (from_ends how found next))
line-step out true how None next = append-nil (out ++ [])
line-step out false how None next = append-nil (out ++ [])
line-step out true how (Some ends) next = append_assoc out (spelling (joined how ends)) (bytes_of next)
line-step out false how (Some ends) next = append-nil (out ++ [])

pub taken : (client_id : ClientId) (told : List Told) (s : State) (words : Request) (how : Joining) (parts : List PartModel) (later : Requested)
    → owed_for words ≡ owed.Parts how (length parts) → parts_for words ≡ parts
    → outcome client_id told (takes_parts client_id told s how parts) later ≡ outcome client_id told s (before words later)
taken client_id told s words how parts later owes are =
    let further = flat_map parts_for later.requests in
    let rest = map owed_for later.requests in
    let last = lines_owed later.faulted in
    let count = length parts in
    let found = ends_from told s.number count in
    let next = replies_told told (s.number + count) rest last in
    let p = append_assoc s.parts (numbered client_id s.number parts) (numbered client_id (s.number + count) further)
    ∙ ap (λ (ps : List (Ticket × PartModel)). s.parts ++ ps) (sym (numbered-append client_id s.number parts further))
    ∙ ap (λ (ps : List PartModel). s.parts ++ numbered client_id s.number (ps ++ further)) (sym are) in
    let o = line-step s.output s.whole how found next
    ∙ ap (λ (values : List Value). s.output ++ where_whole s.whole (bytes_of values)) (sym (by-ends told s.number how count rest last found refl))
    ∙ ap (λ (one : PendingReply). s.output ++ where_whole s.whole (bytes_of (replies_told told s.number (one ∷ rest) last))) (sym owes) in
    let w = and-assoc s.whole (is_some found) (all_told told (s.number + count) (length further))
    ∙ ap (λ (b : Bool). s.whole && b) (sym (told-append told s.number count (length further)))
    ∙ ap (λ (m : ℕ). s.whole && all_told told s.number m) (sym (length-append parts further))
    ∙ ap (λ (ps : List PartModel). s.whole && all_told told s.number (length (ps ++ further))) (sym are) in
    λ i. record { parts = p i; output = o i; whole = w i }

and-true : (b : Bool) → b ≡ (b && true)
and-true true = refl
and-true false = refl

over : (client_id : ClientId) (told : List Told) (s : State) (faulted : Bool) → outcome_of (says s (bytes_of (lines_owed faulted))) ≡ outcome client_id told s (record { requests = []; faulted = faulted })
over client_id told s faulted =
    let p = sym (append-nil s.parts) in
    let w = and-true s.whole in
    λ i. record { parts = p i; output = s.output ++ where_whole s.whole (bytes_of (lines_owed faulted)); whole = w i }

where-nothing : (out : List ℕ) (w : Bool) → out ≡ out ++ where_whole w []
where-nothing out true = sym (append-nil out)
where-nothing out false = sym (append-nil out)

closed : (client_id : ClientId) (told : List Told) (s : State) → outcome_of s ≡ outcome client_id told s (record { requests = []; faulted = false })
closed client_id told s =
    let p = sym (append-nil s.parts) in
    let o = where-nothing s.output s.whole in
    let w = and-true s.whole in
    λ i. record { parts = p i; output = o i; whole = w i }

found-line : (s : State) (how : Joining) (found : Option (List Ended)) (own : List Ended) (reply : Value) → Some own ≡ found → reply ≡ joined how own
    → s.output ++ where_whole s.whole (spelling reply) ≡ s.output ++ where_whole s.whole (joined_line how found)
found-line s how found own reply is says =
    ap (λ (v : Value). s.output ++ where_whole s.whole (spelling v)) says ∙ ap (λ (f : Option (List Ended)). s.output ++ where_whole s.whole (joined_line how f)) is

-- a request's parts, where all of them have ended
pub takes-all : (client_id : ClientId) (told : List Told) (s : State) (how : Joining) (parts : List PartModel) (own : List Ended) (reply : Value) (all : List (Ticket × PartModel)) (now : State)
    → Some own ≡ ends_from told s.number (length parts) → reply ≡ joined how own → all ≡ s.parts ++ numbered client_id s.number parts
    → now ≡ says (record s { number = s.number + length parts; parts = all }) (spelling reply) → now ≡ takes_parts client_id told s how parts
takes-all client_id told s how parts own reply all now is says are goes =
    let o = found-line s how (ends_from told s.number (length parts)) own reply is says in
    let w = and-true s.whole ∙ ap (λ (f : Option (List Ended)). s.whole && is_some f) is in
    goes ∙ (λ i. record { number = s.number + length parts; parts = are i; output = o i; whole = w i })

and-false : (b : Bool) → false ≡ (b && false)
and-false true = refl
and-false false = refl

-- where one of them has not
pub takes-some : (client_id : ClientId) (told : List Told) (s : State) (how : Joining) (parts : List PartModel) (all : List (Ticket × PartModel))
    → None ≡ ends_from told s.number (length parts) → all ≡ s.parts ++ numbered client_id s.number parts
    → (let now : State = record { number = s.number + length parts; parts = all; output = s.output; whole = false } in now) ≡ takes_parts client_id told s how parts
takes-some client_id told s how parts all is are =
    let o = where-nothing s.output s.whole ∙ ap (λ (f : Option (List Ended)). s.output ++ where_whole s.whole (joined_line how f)) is in
    let w = and-false s.whole ∙ ap (λ (f : Option (List Ended)). s.whole && is_some f) is in
    λ i. record { number = s.number + length parts; parts = are i; output = o i; whole = w i }

-- ---- the loop over a script

-- whatever the bytes that are left ask for, what comes of it is what comes of all that the script asks for
abbrev pub Reaches : ClientId → List Told → List ℕ → State → State → List ℕ → Type 0
Reaches client_id told script start s bytes =
    (later : Requested) → AsksFor s.number bytes later → (asked : Requested) × AsksFor 0 script asked × (outcome client_id told s later ≡ outcome client_id told start asked)

pub is-numbered : (n : ℕ) (old new : ReaderModel) (wanted : Wanted) → Wants n old wanted new → IsNumbered n wanted
is-numbered n old new (Nothing faulted) wants = tt
is-numbered n old new Skip wants = tt
is-numbered n old new (Reply value) wants = tt
is-numbered n old new (Parts how parts) wants = (wants.0.4, wants.0.5)
is-numbered n old new Close wants = tt

pub still : (n : ℕ) (old new : ReaderModel) (wanted : Wanted) → Wants n old wanted new → goes_on wanted ≡ true → GoesOn old new
still n old new (Nothing faulted) wants more = no-way more
still n old new Skip wants more = wants.1
still n old new (Reply value) wants more = wants.1
still n old new (Parts how parts) wants more = wants.1
still n old new Close wants more = no-way more

pub few : (client_id : ClientId) (told : List Told) (s : State) (old new : ReaderModel) (wanted : Wanted) → s.number ≤ 2 ^ 48 → Wants s.number old wanted new
    → (after client_id told s wanted).number ≤ 2 ^ 48
few client_id told s old new (Nothing faulted) le wants = le
few client_id told s old new Skip le wants = le
few client_id told s old new (Reply value) le wants = le
few client_id told s old new (Parts how parts) le wants = wants.0.5
few client_id told s old new Close le wants = le

further : (client_id : ClientId) (told : List Told) (script : List ℕ) (start s : State) (old new : ReaderModel) (wanted : Wanted) → Wants s.number old wanted new → goes_on wanted ≡ true
    → Reaches client_id told script start s old.unread → Reaches client_id told script start (after client_id told s wanted) new.unread
further client_id told script start s old new (Nothing faulted) wants more reach = no-way more
further client_id told script start s old new Skip wants more reach = λ later d. reach later (skipped s.number old.unread new.unread later wants.0 d)
further client_id told script start s old new (Reply value) wants more reach =
    λ later d.
    (let w = wants.0 in
    let same : s.number ≡ s.number + length (parts_for w.0) = omega (arith, ap length w.3) in
    let P : ℕ → Type 0 = λ n. AsksFor n new.unread later in
    let r = reach (before w.0 later) (asked s.number old.unread w.0 new.unread later w.1 (subst P same d)) in
    (r.0, r.1, replied client_id told s w.0 value later w.2 w.3 ∙ r.2))
further client_id told script start s old new (Parts how parts) wants more reach =
    λ later d.
    (let w = wants.0 in
    let same : s.number + length parts ≡ s.number + length (parts_for w.0) = omega (arith, ap length w.3) in
    let P : ℕ → Type 0 = λ n. AsksFor n new.unread later in
    let r = reach (before w.0 later) (asked s.number old.unread w.0 new.unread later w.1 (subst P same d)) in
    (r.0, r.1, taken client_id told s w.0 how parts later w.2 w.3 ∙ r.2))
further client_id told script start s old new Close wants more reach = no-way more

pub goes-further : (client_id : ClientId) (told : List Told) (script : List ℕ) (start s now : State) (old new : ReaderModel) (wanted : Wanted) → Wants s.number old wanted new
    → goes_on wanted ≡ true → now ≡ after client_id told s wanted → Reaches client_id told script start s old.unread → Reaches client_id told script start now new.unread
goes-further client_id told script start s now old new wanted wants more is reach =
    let P : State → Type 0 = λ st. Reaches client_id told script start st new.unread in
    subst P (sym is) (further client_id told script start s old new wanted wants more reach)

abbrev pub Comes : ClientId → List Told → List ℕ → State → State → Type 0
Comes client_id told script start s = (asked : Requested) × AsksFor 0 script asked × (outcome_of s ≡ outcome client_id told start asked)

ends-here : (client_id : ClientId) (told : List Told) (script : List ℕ) (start s : State) (old new : ReaderModel) (wanted : Wanted) → Wants s.number old wanted new → goes_on wanted ≡ false
    → Reaches client_id told script start s old.unread → Comes client_id told script start (after client_id told s wanted)
ends-here client_id told script start s old new (Nothing faulted) wants last reach =
    let r = reach (record { requests = []; faulted = faulted }) (ended s.number old.unread faulted wants.0) in (r.0, r.1, over client_id told s faulted ∙ r.2)
ends-here client_id told script start s old new Skip wants last reach = no-way (sym last)
ends-here client_id told script start s old new (Reply value) wants last reach = no-way (sym last)
ends-here client_id told script start s old new (Parts how parts) wants last reach = no-way (sym last)
ends-here client_id told script start s old new Close wants last reach =
    let w = wants.0 in
    let none : Requested = record { requests = []; faulted = false } in
    let r = reach (before w.0 none) (quit s.number old.unread w.0 w.1) in
    (r.0, r.1, closed client_id told (says s (spelling goodbye)) ∙ replied client_id told s w.0 goodbye none w.2 w.3 ∙ r.2)

pub comes : (client_id : ClientId) (told : List Told) (script : List ℕ) (start s now : State) (old new : ReaderModel) (wanted : Wanted) → Wants s.number old wanted new
    → goes_on wanted ≡ false → now ≡ after client_id told s wanted → Reaches client_id told script start s old.unread → Comes client_id told script start now
comes client_id told script start s now old new wanted wants last is reach =
    let P : State → Type 0 = λ st. Comes client_id told script start st in
    subst P (sym is) (ends-here client_id told script start s old new wanted wants last reach)
