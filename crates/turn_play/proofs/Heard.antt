-- What a node hears, of what the words of requests are.
use Rattle.std.proofs.Common.{◌≡◌, ◌≢◌, ◌<◌, ◌≤◌, ◌+◌, ℕ, zero, suc, List, [], ◌∷◌, ◌++◌, length, drop, map, Ok, refl, sym, ap, subst, ◌∙◌, arith, append_assoc}
use Rattle.std.specs.Prelude.{All, codes}
use Rattle.std.proofs.lemmas.List.{length-drop, drop-drop, map-append}
use Rattle.resp_wire.specs.FirstValue.{front, Whole}
use Rattle.resp_wire.specs.LimitsModel.{full}
use Rattle.key_split.specs.Laws.{IsPlain, PlansArePlain, joining_of}
use Rattle.key_split.specs.PartModel.{PartModel, pairs_in}
use Rattle.key_split.specs.Plan.{plan_of, PlanAnswer}
use Rattle.key_split.specs.Words.{words_of}
use Rattle.key_split.specs.declared.planned.Joining.{Joining}
use Rattle.key_split.specs.declared.planned.Planned.TheVariants.{Parts}
use Rattle.key_split.proofs.RoundTrip.{planned-back}
use Rattle.node_link.specs.Bytes.{words_in}
use Rattle.turn_laws.specs.ByteWires.{ReadsAll, ReadsItem, command_in}
use Rattle.turn_laws.specs.Wire.{Asks, Runs, Lists, Part, parts_in}
use Rattle.turn_play.specs.Hearing.{BeginsRequest, NoCommands, NoItem, NoPart, NoRequest, ReadsCommands, exec_words, request, unnumbered}
use Rattle.turn_play.proofs.FirstValues.{one-first, same-request}

-- ---- lists

pub all-none : {X : Type 0} (P : X → Type 0) → All P []
all-none P k d lt = absurd (omega (arith, lt))

pub all-push : {X : Type 0} (P : X → Type 0) (xs : List X) (x : X) → All P xs → P x → All P (xs ++ x ∷ [])
all-push P [] x a p zero d lt = p
all-push P [] x a p (suc k) d lt = absurd (omega (arith, lt))
all-push P (y ∷ ys) x a p zero d lt = a 0 d (omega arith)
all-push P (y ∷ ys) x a p (suc k) d lt = all-push P ys x (λ j e h. a (suc j) e (omega (arith, h))) p k d (omega (arith, lt))

pub all-more : {X : Type 0} (P : X → Type 0) (x : X) (xs : List X) → P x → All P xs → All P (x ∷ xs)
all-more P x xs p a zero d lt = p
all-more P x xs p a (suc k) d lt = a k d (omega (arith, lt))

pub all-first : {X : Type 0} (P : X → Type 0) (x : X) (xs : List X) → All P (x ∷ xs) → P x
all-first P x xs a = a 0 x (omega arith)

pub all-later : {X : Type 0} (P : X → Type 0) (x : X) (xs : List X) → All P (x ∷ xs) → All P xs
all-later P x xs a k d lt = a (suc k) d (omega (arith, lt))

-- ---- the part that words are

-- the name and the key
pub two-words : (part : PartModel) → 1 < length (words_of part)
two-words part = omega arith

pub no-part-short : (words : List (List ℕ)) → length words ≤ 1 → NoPart words
no-part-short words short part plain same = omega (arith, short, two-words part, ap length same)

pub plain-one : PlansArePlain → (words : List (List ℕ)) (joining : Joining) (part : PartModel) → plan_of words ≡ Ok (Parts joining (part ∷ [])) → IsPlain part
plain-one plans words joining part is = all-first IsPlain part [] (plans words joining (part ∷ []) is)

-- words that are planned as no part alone are those of none
pub none-planned : (words : List (List ℕ)) → ((joining : Joining) (part : PartModel) → plan_of words ≡ Ok (Parts joining (part ∷ [])) → ⊥) → NoPart words
none-planned words none part plain same = none (joining_of part.op (pairs_in part)) part (subst (λ ws. plan_of ws ≡ Ok (Parts (joining_of part.op (pairs_in part)) (part ∷ []))) same (planned-back part plain))

one-of : (j j' : Joining) (p p' : PartModel) → (let a : PlanAnswer = Ok (Parts j (p ∷ [])) in let b : PlanAnswer = Ok (Parts j' (p' ∷ [])) in a ≡ b) → p ≡ p'
one-of j j' p p' e = cc

-- those of another part are those of none
pub not-written : (words : List (List ℕ)) (joining : Joining) (part : PartModel) → plan_of words ≡ Ok (Parts joining (part ∷ [])) → (words_of part ≡ words → ⊥) → NoPart words
not-written words joining part is other mine plain same =
    let back = subst (λ ws. plan_of ws ≡ Ok (Parts (joining_of mine.op (pairs_in mine)) (mine ∷ []))) same (planned-back mine plain) in
    other (subst (λ p. words_of p ≡ words) (sym (one-of joining (joining_of mine.op (pairs_in mine)) part mine (sym is ∙ back))) same)

-- ---- the commands of a block

pub no-first : (bytes : List ℕ) → NoRequest bytes → NoCommands bytes
no-first bytes none [] rest r = none exec_words r.1.0 r.1.1
no-first bytes none (p ∷ ps) rest r = none (words_of p) r.1.0 r.1.1

pub no-command : (bytes : List ℕ) (words : List (List ℕ)) (count : ℕ) → BeginsRequest bytes words count → NoPart words → words ≢ exec_words → NoCommands bytes
no-command bytes words count b part exec [] rest r = exec (sym (same-request bytes words exec_words count r.1.0 b r.1.1).0)
no-command bytes words count b part exec (p ∷ ps) rest r = part p (all-first IsPlain p ps r.0) (same-request bytes words (words_of p) count r.1.0 b r.1.1).0

-- a command is passed over
pub no-later : (bytes : List ℕ) (part : PartModel) (count : ℕ) → BeginsRequest bytes (words_of part) count → NoCommands (drop count bytes) → NoCommands bytes
no-later bytes part count b none [] rest r = omega (arith, two-words part, ap length (same-request bytes (words_of part) exec_words count r.1.0 b r.1.1).0)
no-later bytes part count b none (p ∷ ps) rest r =
    none ps rest (all-later IsPlain p ps r.0, subst (λ more. ReadsAll more (map words_of ps ++ exec_words ∷ []) rest) (same-request bytes (words_of part) (words_of p) count r.1.0 b r.1.1).1 r.1.2)

-- these commands stand first, up to a place
pub record LeadsTo (bytes : List ℕ) (parts : List PartModel) (at : ℕ) : Type 0 where
  pub within : at ≤ length bytes
  pub plain : All IsPlain parts
  pub reads : (requests : List (List (List ℕ))) (rest : List ℕ) → ReadsAll (drop at bytes) requests rest → ReadsAll bytes (map words_of parts ++ requests) rest
  pub none : NoCommands (drop at bytes) → NoCommands bytes

pub leads-none : (bytes : List ℕ) → LeadsTo bytes [] 0
leads-none bytes = record { within = omega arith; plain = all-none IsPlain; reads = λ requests rest r. r; none = λ n. n }

pub leads-more : (bytes : List ℕ) (parts : List PartModel) (at : ℕ) (part : PartModel) (count : ℕ) → LeadsTo bytes parts at → IsPlain part → BeginsRequest (drop at bytes) (words_of part) count → LeadsTo bytes (parts ++ part ∷ []) (at + count)
leads-more bytes parts at part count l plain b = record {
  within = omega (arith, l.within, b.0, length-drop at bytes);
  plain = all-push IsPlain parts part l.plain plain;
  reads = λ requests rest r.
      subst (λ all. ReadsAll bytes all rest) (sym (ap (λ ws. ws ++ requests) (map-append words_of parts (part ∷ [])) ∙ append_assoc (map words_of parts) (words_of part ∷ []) requests))
      (l.reads (words_of part ∷ requests) rest (drop count (drop at bytes), b.2, subst (λ more. ReadsAll more requests rest) (sym (drop-drop count at bytes)) r));
  none = λ n. l.none (no-later (drop at bytes) part count b (subst NoCommands (sym (drop-drop count at bytes)) n));
}

-- EXEC stands behind them
pub commands-whole : (bytes : List ℕ) (parts : List PartModel) (at count : ℕ) → LeadsTo bytes parts at → BeginsRequest (drop at bytes) exec_words count → (at + count ≤ length bytes) × ReadsCommands bytes parts (drop (at + count) bytes)
commands-whole bytes parts at count l b = (
  omega (arith, l.within, b.0, length-drop at bytes),
  (l.plain, l.reads (exec_words ∷ []) (drop (at + count) bytes) (drop count (drop at bytes), b.2, drop-drop count at bytes)),
)

-- as many commands, however they are read
as-many : (bytes : List ℕ) (ps qs : List PartModel) (x y : List ℕ) → ReadsCommands bytes ps x → ReadsCommands bytes qs y → length ps ≡ length qs
as-many bytes [] [] x y r s = refl
as-many bytes [] (q ∷ qs) x y r s = absurd (omega (arith, two-words q, ap length (one-first bytes exec_words (words_of q) r.1.0 s.1.0 r.1.1 s.1.1).0))
as-many bytes (p ∷ ps) [] x y r s = absurd (omega (arith, two-words p, ap length (one-first bytes exec_words (words_of p) s.1.0 r.1.0 s.1.1 r.1.1).0))
as-many bytes (p ∷ ps) (q ∷ qs) x y r s =
    let same = one-first bytes (words_of p) (words_of q) r.1.0 s.1.0 r.1.1 s.1.1 in
    ap suc (as-many r.1.0 ps qs x y (all-later IsPlain p ps r.0, r.1.2) (all-later IsPlain q qs s.0, subst (λ more. ReadsAll more (map words_of qs ++ exec_words ∷ []) y) same.1 s.1.2))

-- ---- items

parts-back : (ps : List PartModel) → parts_in (map unnumbered ps) ≡ ps
parts-back [] = refl
parts-back (p ∷ ps) = ap (λ qs. p ∷ qs) (parts-back ps)

words-sent : (ps : List Part) → map words_in (map command_in ps) ≡ map words_of (parts_in ps)
words-sent [] = refl
words-sent (p ∷ ps) = ap (λ ws. words_of p.1 ∷ ws) (words-sent ps)

pub parts-are : (ps : List PartModel) → parts_in (map unnumbered ps) ≡ ps
parts-are = parts-back

pub no-item-first : (bytes : List ℕ) → NoRequest bytes → NoItem bytes
no-item-first bytes none Asks rest r = none (codes "ASKING" ∷ []) r.1.0 r.1.1
no-item-first bytes none (Runs []) rest r = omega (arith, r.0.0)
no-item-first bytes none (Runs (p ∷ [])) rest r = none (words_of p.1) r.1.0 r.1.1
no-item-first bytes none (Runs (p ∷ q ∷ ps)) rest r = none (codes "MULTI" ∷ []) r.1.0 r.1.1
no-item-first bytes none Lists rest r = none (codes "CLUSTER" ∷ codes "SLOTS" ∷ []) r.1.0 r.1.1

-- words that begin no item
pub no-item-other : (bytes : List ℕ) (words : List (List ℕ)) (count : ℕ) → BeginsRequest bytes words count → words ≢ codes "ASKING" ∷ [] → words ≢ codes "CLUSTER" ∷ codes "SLOTS" ∷ [] → words ≢ codes "MULTI" ∷ [] → NoPart words → NoItem bytes
no-item-other bytes words count b asks lists multi part Asks rest r = asks (sym (same-request bytes words (codes "ASKING" ∷ []) count r.1.0 b r.1.1).0)
no-item-other bytes words count b asks lists multi part (Runs []) rest r = omega (arith, r.0.0)
no-item-other bytes words count b asks lists multi part (Runs (p ∷ [])) rest r = part p.1 (all-first IsPlain p.1 [] r.0.1) (same-request bytes words (words_of p.1) count r.1.0 b r.1.1).0
no-item-other bytes words count b asks lists multi part (Runs (p ∷ q ∷ ps)) rest r = multi (sym (same-request bytes words (codes "MULTI" ∷ []) count r.1.0 b r.1.1).0)
no-item-other bytes words count b asks lists multi part Lists rest r = lists (sym (same-request bytes words (codes "CLUSTER" ∷ codes "SLOTS" ∷ []) count r.1.0 b r.1.1).0)

abbrev multi_words : List (List ℕ)
multi_words = codes "MULTI" ∷ []

apart : (xs ys : List ℕ) → length xs ≢ length ys → xs ∷ [] ≡ ys ∷ [] → ⊥
apart xs ys differ e = differ (ap length (let f : xs ≡ ys = cc in f))

-- behind MULTI stands no block of two commands or more
no-block : (bytes : List ℕ) (count : ℕ) → BeginsRequest bytes multi_words count → ((p q : PartModel) (ps : List PartModel) (rest : List ℕ) → ReadsCommands (drop count bytes) (p ∷ q ∷ ps) rest → ⊥) → NoItem bytes
no-block bytes count b none Asks rest r = apart (codes "ASKING") (codes "MULTI") (λ e. omega (arith, e)) (same-request bytes multi_words (codes "ASKING" ∷ []) count r.1.0 b r.1.1).0
no-block bytes count b none (Runs []) rest r = omega (arith, r.0.0)
no-block bytes count b none (Runs (p ∷ [])) rest r = omega (arith, two-words p.1, ap length (same-request bytes multi_words (words_of p.1) count r.1.0 b r.1.1).0)
no-block bytes count b none (Runs (p ∷ q ∷ ps)) rest r =
    none p.1 q.1 (parts_in ps) rest (r.0.1, subst (λ all. ReadsAll (drop count bytes) (all ++ exec_words ∷ []) rest) (words-sent (p ∷ q ∷ ps)) (subst (λ more. ReadsAll more (map words_in (map command_in (p ∷ q ∷ ps)) ++ exec_words ∷ []) rest) (same-request bytes multi_words multi_words count r.1.0 b r.1.1).1 r.1.2))
no-block bytes count b none Lists rest r = omega (arith, ap length (same-request bytes multi_words (codes "CLUSTER" ∷ codes "SLOTS" ∷ []) count r.1.0 b r.1.1).0)

pub no-block-whole : (bytes : List ℕ) (count : ℕ) → BeginsRequest bytes multi_words count → NoCommands (drop count bytes) → NoItem bytes
no-block-whole bytes count b none = no-block bytes count b (λ p q ps rest r. none (p ∷ q ∷ ps) rest r)

-- fewer than two are no block
pub no-block-short : (bytes : List ℕ) (count : ℕ) (parts : List PartModel) (rest : List ℕ) → BeginsRequest bytes multi_words count → ReadsCommands (drop count bytes) parts rest → length parts < 2 → NoItem bytes
no-block-short bytes count parts rest b r few = no-block bytes count b (λ p q ps after s. omega (arith, few, as-many (drop count bytes) parts (p ∷ q ∷ ps) rest after r s))

-- a block of two commands or more is an item
pub block-heard : (bytes : List ℕ) (count : ℕ) (parts : List PartModel) (more : ℕ) → BeginsRequest bytes multi_words count → (more ≤ length (drop count bytes)) × ReadsCommands (drop count bytes) parts (drop more (drop count bytes)) → 2 ≤ length parts
    → (count + more ≤ length bytes) × ReadsItem bytes (Runs (map unnumbered parts)) (drop (count + more) bytes)
block-heard bytes count [] more b r many = absurd (omega (arith, many))
block-heard bytes count (p ∷ []) more b r many = absurd (omega (arith, many))
block-heard bytes count (p ∷ q ∷ ps) more b r many =
    let all = p ∷ q ∷ ps in
    let plain : All IsPlain (parts_in (map unnumbered all)) = subst (All IsPlain) (sym (parts-back all)) r.1.0 in
    let spelled : map words_of all ≡ map words_in (map command_in (map unnumbered all)) = ap (map words_of) (sym (parts-back all)) ∙ sym (words-sent (map unnumbered all)) in (
      omega (arith, b.0, r.0, length-drop count bytes),
      (
        (omega arith, plain),
        (drop count bytes, b.2, subst (λ rest. ReadsAll (drop count bytes) (map words_in (map command_in (map unnumbered all)) ++ exec_words ∷ []) rest) (drop-drop more count bytes) (subst (λ ws. ReadsAll (drop count bytes) (ws ++ exec_words ∷ []) (drop more (drop count bytes))) spelled r.1.1)),
      ),
    )

-- one command is an item
pub command-heard : (bytes : List ℕ) (words : List (List ℕ)) (count : ℕ) (part : PartModel) → BeginsRequest bytes words count → IsPlain part → words_of part ≡ words → (count ≤ length bytes) × ReadsItem bytes (Runs (map unnumbered (part ∷ []))) (drop count bytes)
command-heard bytes words count part b plain same = (
  b.0,
  ((omega arith, all-more IsPlain part [] plain (all-none IsPlain)), (drop count bytes, subst (λ ws. front full bytes ≡ Whole (request ws) (drop count bytes)) (sym same) b.2, refl)),
)

pub asking-heard : (bytes : List ℕ) (words : List (List ℕ)) (count : ℕ) → BeginsRequest bytes words count → words ≡ codes "ASKING" ∷ [] → (count ≤ length bytes) × ReadsItem bytes Asks (drop count bytes)
asking-heard bytes words count b same = (b.0, (tt, (drop count bytes, subst (λ ws. front full bytes ≡ Whole (request ws) (drop count bytes)) same b.2, refl)))

pub slots-heard : (bytes : List ℕ) (words : List (List ℕ)) (count : ℕ) → BeginsRequest bytes words count → words ≡ codes "CLUSTER" ∷ codes "SLOTS" ∷ [] → (count ≤ length bytes) × ReadsItem bytes Lists (drop count bytes)
slots-heard bytes words count b same = (b.0, (tt, (drop count bytes, subst (λ ws. front full bytes ≡ Whole (request ws) (drop count bytes)) same b.2, refl)))
