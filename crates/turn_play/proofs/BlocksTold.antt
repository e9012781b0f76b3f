-- What the replies to a block give its commands: those that were executed their replies, and those that were refused where to go, or that
-- they go again.
use Rattle.std.proofs.Common.{◌≡◌, ◌∙◌, ◌&&◌, ℕ, zero, suc, true, false, cond, if◌then◌else◌, List, [], ◌∷◌, ◌++◌, Option, Some, None, codes, find, length, map, replicate, refl, sym, ap, subst}
use Rattle.std.specs.List.{list_all}
use Rattle.std.specs.Str.{bytes_eq}
use Rattle.std.proofs.lemmas.Slice.Eq.{bytes_eq-Decides}
use Rattle.resp_wire.specs.Data.{array, items_of}
use Rattle.resp_wire.specs.Seen.{data_of}
use Rattle.resp_wire.specs.declared.value.Value.{Value}
use Rattle.resp_wire.specs.declared.value.Value.TheVariants.{Error, Array}
use Rattle.key_split.specs.PartModel.{PartModel}
use Rattle.key_split.specs.Told.{IsWritten, redirect, redirect_text}
use Rattle.key_split.specs.declared.travel.Told.{Told}
use Rattle.key_split.specs.declared.travel.Told.TheVariants.{TryAgain}
use Rattle.slot_map.specs.Table.{Endpoint}
use Rattle.node_model.specs.Runs.{AllTold}
use Rattle.node_link.specs.Line.{first_word}
use Rattle.node_link.specs.Runs.{IsToldByBlock, IsToldByExec, common_ask, is_error_of, is_moved, is_queued, redirect_of, told_of_none}
use Rattle.turn_laws.specs.ByteFronts.{one-value}
use Rattle.turn_laws.specs.Writing.{AreWritten}
use Rattle.turn_play.specs.May.{AreSaidAgain, again}
use Rattle.turn_play.specs.Serving.{okay}
use Rattle.turn_play.specs.Stream.{exec_aborted, queued}

as-many : {X : Type 0} (count : ℕ) (x : X) → length (replicate count x) ≡ count
as-many zero x = refl
as-many (suc count) x = ap suc (as-many count x)

-- ---- they were executed

all-queued : (count : ℕ) → list_all is_queued (replicate count queued) ≡ true
all-queued zero = refl
all-queued (suc count) = all-queued count

as-many-data : (values : List Value) → length (map data_of values) ≡ length values
as-many-data [] = refl
as-many-data (value ∷ values) = ap suc (as-many-data values)

pub executed-told : (count : ℕ) (values : List Value) (exec : Value) → data_of exec ≡ array (items_of (map data_of values)) → length values ≡ count → IsToldByBlock count (okay ∷ (replicate count queued ++ exec ∷ [])) values
executed-told count values exec is many = (okay, replicate count queued, exec, refl, as-many count queued, refl, all-queued count, by-exec)
  where
    by-exec : IsToldByExec (replicate count queued) exec values
    by-exec = subst (λ v. IsToldByExec (replicate count queued) v values) (sym (one-value exec (Array (map data_of values)) is)) (refl, as-many-data values ∙ many ∙ sym (as-many count queued))

-- ---- they were refused, all by one line

abbrev pub lines : ℕ → List ℕ → List Value
lines count line = replicate count (Error line)

all-errors : (count : ℕ) (line : List ℕ) → list_all is_queued (lines count line) ≡ true
all-errors zero line = refl
all-errors (suc count) line = all-errors count line

pub refused-told : (count : ℕ) (line : List ℕ) (told : Value) → told_of_none (lines count line) exec_aborted ≡ told → IsToldByBlock count (okay ∷ (lines count line ++ exec_aborted ∷ [])) (replicate count told)
refused-told count line told is =
    (okay, lines count line, exec_aborted, refl, as-many count (Error line), refl, all-errors count line, (λ i. replicate (sym (as-many count (Error line)) i) (sym is i)))

-- a MOVED leads on
pub moved-told : (slot : ℕ) (at : Endpoint) (count : ℕ) → told_of_none (lines (suc count) (redirect_text (codes "MOVED ") slot at)) exec_aborted ≡ redirect (codes "MOVED ") slot at
moved-told slot at count = refl

none-moved : (line : List ℕ) → is_moved (Error line) ≡ false → (count : ℕ) → find is_moved (lines count line) ≡ None
none-moved line still zero = refl
none-moved line still (suc count) = (λ i. cond (still i) (Some (Error line)) (find is_moved (lines count line))) ∙ none-moved line still count

-- where they were not moved, an ASK to all may lead on
asked-only : (line : List ℕ) → is_moved (Error line) ≡ false → (count : ℕ) → redirect_of (lines count line) exec_aborted ≡ common_ask (lines count line)
asked-only line still count =
    ap (λ (o : Option Value). elim o as (λ _. Option Value) [
      | Some moved ↦ Some moved
      | None ↦ common_ask (lines count line)
    ]) (none-moved line still count)

told-so : (lines-of : List Value) (o : Option Value) → redirect_of lines-of exec_aborted ≡ o → told_of_none lines-of exec_aborted ≡ elim o as (λ _. Value) [
  | Some redirect ↦ redirect
  | None ↦ Error (codes "TRYAGAIN")
]
told-so lines-of o is = ap (λ (x : Option Value). elim x as (λ _. Value) [
  | Some redirect ↦ redirect
  | None ↦ Error (codes "TRYAGAIN")
]) is

same-line : (line : List ℕ) (count : ℕ) → list_all (is_error_of line) (lines count line) ≡ true
same-line line zero = refl
same-line line (suc count) = (λ i. (bytes_eq-Decides line line).1 refl i && list_all (is_error_of line) (lines count line)) ∙ same-line line count

pub ask-told : (slot : ℕ) (at : Endpoint) (count : ℕ) → told_of_none (lines (suc count) (redirect_text (codes "ASK ") slot at)) exec_aborted ≡ redirect (codes "ASK ") slot at
ask-told slot at count =
    let line = redirect_text (codes "ASK ") slot at in
    let common : common_ask (lines (suc count) line) ≡ Some (Error line) = (λ i. if same-line line count i then Some (Error line) else None) in
    told-so (lines (suc count) line) (Some (Error line)) (asked-only line refl (suc count) ∙ common)

-- a line that leads nowhere
pub again-told : (line : List ℕ) → is_moved (Error line) ≡ false → bytes_eq (first_word line) (codes "ASK") ≡ false → (count : ℕ) → told_of_none (lines (suc count) line) exec_aborted ≡ again
again-told line not-moved no-ask count =
    let common : common_ask (lines (suc count) line) ≡ None = (λ i. if (no-ask i && list_all (is_error_of line) (lines count line)) then Some (Error line) else None) in
    told-so (lines (suc count) line) None (asked-only line not-moved (suc count) ∙ common)

-- ---- what was written of each

-- all were told the same, so the values are the same
pub same-values : (table : List Endpoint) (said : Told) (value : Value) → ((v : Value) → IsWritten said table v → v ≡ value) → (cs : List PartModel) (tolds : List Told) (values : List Value) → AllTold said cs tolds → AreWritten table tolds values
    → values ≡ replicate (length cs) value
same-values table said value one [] [] [] told written = refl
same-values table said value one [] [] (v ∷ values) told written = absurd written
same-values table said value one [] (t ∷ tolds) values told written = absurd told
same-values table said value one (c ∷ cs) [] values told written = absurd told
same-values table said value one (c ∷ cs) (t ∷ tolds) [] told written = absurd written
same-values table said value one (c ∷ cs) (t ∷ tolds) (v ∷ values) told written =
    let first : v ≡ value = one v (subst (λ x. IsWritten x table v) told.0 written.0) in
    let later = same-values table said value one cs tolds values told.1 written.1 in
    (λ i. first i ∷ later i)

-- what can't be written was told to none
pub none-written : (table : List Endpoint) (said : Told) → ((v : Value) → IsWritten said table v → ⊥) → (c : PartModel) (cs : List PartModel) (tolds : List Told) (values : List Value) → AllTold said (c ∷ cs) tolds → AreWritten table tolds values → ⊥
none-written table said never c cs [] values told written = told
none-written table said never c cs (t ∷ tolds) [] told written = written
none-written table said never c cs (t ∷ tolds) (v ∷ values) told written = never v (subst (λ x. IsWritten x table v) told.0 written.0)

-- each is told TRYAGAIN
abbrev pub tolds_again : List PartModel → List Told
tolds_again cs = map (λ (c : PartModel). TryAgain) cs

pub all-again : (cs : List PartModel) → AllTold TryAgain cs (tolds_again cs)
all-again [] = tt
all-again (c ∷ cs) = (refl, all-again cs)

pub said-again : (cs : List PartModel) → AreSaidAgain (tolds_again cs) (replicate (length cs) again)
said-again [] = tt
said-again (c ∷ cs) = (refl, refl, said-again cs)
