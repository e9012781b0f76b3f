-- What a run's clients were answered, judged by their scripts.
use Rattle.std.proofs.Common.{◌≡◌, ◌<◌, ◌+◌, ◌++◌, ◌∷◌, ◌↔◌, ◌&&◌, [], suc, List, ℕ, Bool, true, false, IsTrue, nat_eq, length, take, drop, drop-cons, get_or, append_assoc, refl, sym, ap, subst, ◌∙◌, inl, inr, arith, map, eqb→eq}
use Rattle.std.specs.Prelude.{T}
use Rattle.std.specs.List.{flat_map, IsAnyAnswer}
use Rattle.std.proofs.Math.Seq.{take-append_seam}
use Rattle.std.specs.Cmp.Lexicographic.{pointwise, bytes_decides}
use Rattle.std.proofs.lemmas.Bool.{eqb-false}
use Rattle.std.proofs.lemmas.List.{append-nil, drop_all, take-append-drop}
use Rattle.key_split.specs.PartModel.{PartModel}
use Rattle.key_split.specs.declared.travel.Ticket.{Ticket}
use Rattle.session_order.specs.Output.{replies_told}
use Rattle.session_order.specs.PendingReply.{owed_for}
use Rattle.session_order.specs.Replies.{bytes_of, lines_owed}
use Rattle.script_runs.specs.Ends.{Told}
use Rattle.script_runs.specs.declared.client_id.ClientId.{ClientId}
use Rattle.script_runs.specs.Answered.{Agrees}
use Rattle.script_runs.specs.Replayed.{State, outcome_of, outcome, opened}
use Rattle.script_runs.specs.Requests.{Request, Requested, AsksFor, parts_for}
use Rattle.script_runs.specs.Run.{client_id_of, parts_of, parts_from, ends_of, output_for, HaveEnds, IsStopped, IsFront, IsAnswered, AreAnswered, AskFor}
use Rattle.script_runs.proofs.Asking.{quit-is-last}
use Rattle.script_runs.proofs.Telling.{all_told, have-ends, no-way, true-and}

-- ---- one client

output-is : (client_id : ClientId) (ends : List Told) (script : List ℕ) (asked : Requested) (old : List (Ticket × PartModel)) (s : State) → AsksFor 0 script asked
    → outcome_of s ≡ outcome client_id (ends_of client_id ends) (opened old) asked → s.output ≡ output_for client_id ends asked
output-is client_id ends script asked old s asks made =
    ap (λ o. o.output) made
    ∙ ap (λ (rs : List Request). bytes_of (replies_told (ends_of client_id ends) 0 (map owed_for rs) (lines_owed asked.faulted))) (sym (quit-is-last 0 script asked asks))

whole-is : (client_id : ClientId) (ends : List Told) (asked : Requested) (old : List (Ticket × PartModel)) (s : State)
    → outcome_of s ≡ outcome client_id (ends_of client_id ends) (opened old) asked → IsTrue s.whole ↔ HaveEnds ends (parts_of client_id asked)
whole-is client_id ends asked old s made =
    let same : s.whole ≡ all_told (ends_of client_id ends) 0 (length (flat_map parts_for asked.requests)) = ap (λ o. o.whole) made ∙ true-and _ in
    let law = have-ends client_id ends 0 (flat_map parts_for asked.requests) in
    (λ w. law.0 (sym same ∙ w), λ have. same ∙ law.1 have)

pub parts-are : (client_id : ClientId) (ends : List Told) (asked : Requested) (old : List (Ticket × PartModel)) (s : State)
    → outcome_of s ≡ outcome client_id (ends_of client_id ends) (opened old) asked → s.parts ≡ old ++ parts_of client_id asked
parts-are client_id ends asked old s made = ap (λ o. o.parts) made

pub answered-so : (client_id : ClientId) (ends : List Told) (stopped : List ℕ) (script : List ℕ) (asked : Requested) (old : List (Ticket × PartModel)) (s : State) (on_stopped agreed : Bool)
    (bytes : List ℕ) → AsksFor 0 script asked → outcome_of s ≡ outcome client_id (ends_of client_id ends) (opened old) asked → IsTrue on_stopped ↔ IsStopped stopped client_id.worker
    → IsTrue agreed ↔ Agrees s.whole s.output on_stopped bytes → IsTrue agreed ↔ IsAnswered stopped ends client_id asked bytes
answered-so client_id ends stopped script asked old s on_stopped agreed bytes asks made stops agrees =
    let out = output-is client_id ends script asked old s asks made in
    let whole = whole-is client_id ends asked old s made in
    let P : List ℕ → Type 0 = λ o. IsFront bytes o in (
      λ told. elim (agrees.0 told) [
        | inl w ↦ inl (whole.0 w.0, w.1 ∙ out)
        | inr w ↦ inr (stops.0 w.0, subst P out w.1)
      ],
      λ so. agrees.1 (elim so as (λ _. Agrees s.whole s.output on_stopped bytes) [
        | inl w ↦ inl (whole.1 w.0, w.1 ∙ sym out)
        | inr w ↦ inr (stops.1 w.0, subst P (sym out) w.1)
      ]),
    )

-- ---- all clients

-- whatever the scripts that are left ask for: with what was found so far it is what all scripts ask for
abbrev pub Reaches : ℕ → List ℕ → List Told → List (List ℕ) → List (List ℕ) → ℕ → List (Ticket × PartModel) → Bool → Type 0
Reaches workers stopped ends scripts replies client parts answered =
    (later : List Requested) → AskFor (drop client scripts) later
    → (asked : List Requested) × AskFor scripts asked × (parts ++ parts_from workers client later ≡ parts_from workers 0 asked)
    × ((IsTrue answered × AreAnswered workers stopped ends client later (drop client replies)) ↔ AreAnswered workers stopped ends 0 asked replies)

pub reaches-first : (workers : ℕ) (stopped : List ℕ) (ends : List Told) (scripts replies : List (List ℕ)) (parts : List (Ticket × PartModel)) → parts ≡ []
    → Reaches workers stopped ends scripts replies 0 parts true
reaches-first workers stopped ends scripts replies parts none =
    λ later asks. (later, asks, ap (λ (ps : List (Ticket × PartModel)). ps ++ parts_from workers 0 later) none, (λ w. w.1, λ so. (refl, so)))

rest-of : (xs : List (List ℕ)) (n : ℕ) → n < length xs → (d : List ℕ) → drop n xs ≡ get_or xs n d ∷ drop (n + 1) xs
rest-of xs n lt d = drop-cons xs n d lt ∙ ap (λ (m : ℕ). get_or xs n d ∷ drop m xs) (let next : suc n ≡ n + 1 = omega arith in next)

both-are : (a b : Bool) → IsTrue a → IsTrue b → IsTrue (a && b)
both-are true true x y = refl
both-are true false x y = y
both-are false b x y = absurd (let no-truth : false ≡ true = x in cc)

first-is : (a b : Bool) → IsTrue (a && b) → IsTrue a
first-is true b e = refl
first-is false true e = e
first-is false false e = e

second-is : (a b : Bool) → IsTrue (a && b) → IsTrue b
second-is true true e = refl
second-is true false e = e
second-is false true e = refl
second-is false false e = e

reaches-next : (workers : ℕ) (stopped : List ℕ) (ends : List Told) (scripts replies : List (List ℕ)) (client : ℕ) (old : List (Ticket × PartModel)) (so_far agreed now_so : Bool)
    (d d' : List ℕ) (asked : Requested) (now : List (Ticket × PartModel))
    → client < length scripts → client < length replies → AsksFor 0 (get_or scripts client d) asked → now ≡ old ++ parts_of (client_id_of workers client) asked
    → IsTrue agreed ↔ IsAnswered stopped ends (client_id_of workers client) asked (get_or replies client d')
    → now_so ≡ (so_far && agreed) → Reaches workers stopped ends scripts replies client old so_far → Reaches workers stopped ends scripts replies (client + 1) now now_so
reaches-next workers stopped ends scripts replies client old so_far agreed now_so d d' asked now lt lt' asks parts answered both reach =
    λ later rest.
    (let P : List (List ℕ) → Type 0 = λ ss. AskFor ss (asked ∷ later) in
    let r = reach (asked ∷ later) (subst P (sym (rest-of scripts client lt d)) (asks, rest)) in
    let Q : List (List ℕ) → Type 0 = λ rs. (IsTrue so_far × AreAnswered workers stopped ends client (asked ∷ later) rs) ↔ AreAnswered workers stopped ends 0 r.0 replies in
    let each = subst Q (rest-of replies client lt' d') r.3 in (
      r.0,
      r.1,
      ap (λ (ps : List (Ticket × PartModel)). ps ++ parts_from workers (client + 1) later) parts
          ∙ append_assoc old (parts_of (client_id_of workers client) asked) (parts_from workers (client + 1) later) ∙ r.2,
      (
        λ w. each.0 (first-is so_far agreed (sym both ∙ w.0), (answered.0 (second-is so_far agreed (sym both ∙ w.0)), w.1)),
        λ so. (both ∙ both-are so_far agreed (each.1 so).0 (answered.1 (each.1 so).1.0), (each.1 so).1.1),
      ),
    ))

-- one more client: what its replay came to
pub reaches-on : (workers : ℕ) (stopped : List ℕ) (ends table : List Told) (scripts replies : List (List ℕ)) (client : ℕ) (client_id : ClientId) (old : List (Ticket × PartModel)) (s : State)
    (so_far on_stopped agreed now_so : Bool) (script bytes : List ℕ) (now : List (Ticket × PartModel))
    → client_id ≡ client_id_of workers client → table ≡ ends → client < length scripts → client < length replies → script ≡ get_or scripts client script → bytes ≡ get_or replies client bytes
    → (asked : Requested) × AsksFor 0 script asked × (outcome_of s ≡ outcome client_id (ends_of client_id table) (opened old) asked)
    → now ≡ s.parts → IsTrue on_stopped ↔ IsStopped stopped client_id.worker → IsTrue agreed ↔ Agrees s.whole s.output on_stopped bytes
    → now_so ≡ (so_far && agreed) → Reaches workers stopped ends scripts replies client old so_far → Reaches workers stopped ends scripts replies (client + 1) now now_so
reaches-on workers stopped ends table scripts replies client client_id old s so_far on_stopped agreed now_so script bytes now sits same lt lt' is is' made parts stops agrees both reach =
    let from : outcome_of s ≡ outcome client_id (ends_of client_id ends) (opened old) made.0 = made.2 ∙ ap (λ (t : List Told). outcome client_id (ends_of client_id t) (opened old) made.0) same in
    let P : ClientId → Type 0 = λ st. IsTrue agreed ↔ IsAnswered stopped ends st made.0 bytes in
    let Q : List ℕ → Type 0 = λ bs. IsTrue agreed ↔ IsAnswered stopped ends (client_id_of workers client) made.0 bs in
    let W : List ℕ → Type 0 = λ ss. AsksFor 0 ss made.0 in
    reaches-next workers stopped ends scripts replies client old so_far agreed now_so script bytes made.0 now lt lt' (subst W is made.1)
    (parts ∙ parts-are client_id ends made.0 old s from ∙ ap (λ (st : ClientId). old ++ parts_of st made.0) sits)
    (subst Q is' (subst P sits (answered-so client_id ends stopped script made.0 old s on_stopped agreed bytes made.1 from stops agrees))) both reach

abbrev pub Found : ℕ → List ℕ → List Told → List (List ℕ) → List (List ℕ) → List (Ticket × PartModel) → Bool → Type 0
Found workers stopped ends scripts replies parts answered =
    (asked : List Requested) × AskFor scripts asked × (parts ≡ parts_from workers 0 asked) × (IsTrue answered ↔ AreAnswered workers stopped ends 0 asked replies)

none-left : (xs : List (List ℕ)) (n : ℕ) → n ≡ length xs → drop n xs ≡ []
none-left xs n end = drop_all n xs (omega (arith, end))

pub found-all : (workers : ℕ) (stopped : List ℕ) (ends : List Told) (scripts replies : List (List ℕ)) (client : ℕ) (parts : List (Ticket × PartModel)) (answered : Bool)
    → client ≡ length scripts → client ≡ length replies → Reaches workers stopped ends scripts replies client parts answered → Found workers stopped ends scripts replies parts answered
found-all workers stopped ends scripts replies client parts answered end end' reach =
    let P : List (List ℕ) → Type 0 = λ ss. AskFor ss [] in
    let r = reach [] (subst P (sym (none-left scripts client end)) tt) in
    let Q : List (List ℕ) → Type 0 = λ rs. (IsTrue answered × AreAnswered workers stopped ends client [] rs) ↔ AreAnswered workers stopped ends 0 r.0 replies in
    let each = subst Q (none-left replies client end') r.3 in
    (r.0, r.1, sym (append-nil parts) ∙ r.2, (λ w. each.0 (w, tt), λ so. (each.1 so).0))

-- ---- what was handed back

front-of : (bytes whole : List ℕ) → take (length bytes) whole ≡ bytes → IsFront bytes whole
front-of bytes whole is = (drop (length bytes) whole, sym (ap (λ (xs : List ℕ). xs ++ drop (length bytes) whole) (sym is) ∙ take-append-drop (length bytes) whole))

front-taken : (bytes whole : List ℕ) → IsFront bytes whole → take (length bytes) whole ≡ bytes
front-taken bytes whole front = ap (take (length bytes)) front.1 ∙ take-append_seam bytes front.0

pub front-told : (bytes whole : List ℕ) (same : Bool) → same ≡ pointwise nat_eq (take (length bytes) whole) bytes → IsTrue same ↔ IsFront bytes whole
front-told bytes whole same is = (
  λ e. front-of bytes whole ((bytes_decides (take (length bytes) whole) bytes).0 (sym is ∙ e)),
  λ front. is ∙ (bytes_decides (take (length bytes) whole) bytes).1 (front-taken bytes whole front),
)

-- whether the worker is among these, as a search by equality tells
pub stopped-told : (stopped : List ℕ) (worker : ℕ) (found : Bool) → IsAnyAnswer (λ one b. nat_eq one worker ≡ b) stopped found → IsTrue found ↔ IsStopped stopped worker
stopped-told stopped worker true told = (
  λ _. (told.0, worker, told.1, eqb→eq (get_or stopped told.0 worker) worker (subst T (sym (told.2 worker)) tt), refl),
  λ _. refl,
)
stopped-told stopped worker false told = (
  λ is. no-way is,
  λ any. absurd (eqb-false (get_or stopped any.0 any.1) worker (told any.0 any.1 (omega arith) any.2) (any.3 ∙ any.4)),
)
