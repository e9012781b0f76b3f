-- From the words of the first request to what a node hears.
use Rattle.std.proofs.Common.{◌≡◌, ◌<◌, ◌≤◌, ℕ, List, [], ◌∷◌, Ok, Err, length, drop, refl, sym, ap, subst, ◌∙◌, arith}
use Rattle.std.specs.Prelude.{◌↔◌, Bool, IsTrue, Result, false, nat_eq, slice_index_or, true}
use Rattle.std.specs.Cmp.Lexicographic.{bytes_decides, pointwise, pointwise_decides}
use Rattle.std.proofs.lemmas.List.{length-drop}
use Rattle.resp_wire.specs.Data.{Data}
use Rattle.resp_wire.specs.FirstValue.{front, Whole}
use Rattle.resp_wire.specs.LimitsModel.{full}
use Rattle.resp_wire.specs.declared.fault.NoMemory.{NoMemory}
use Rattle.turn_play.specs.declared.first_words.FirstWords.{FirstWords}
use Rattle.turn_play.specs.declared.first_words.FirstWords.TheVariants as first
use Rattle.turn_play.specs.declared.block.NextCommand.{NextCommand}
use Rattle.turn_play.specs.declared.block.NextCommand.TheVariants as next
use Rattle.turn_play.specs.Hearing.{BeginsRequest, HearsNext, HearsWords, NoCommands, NoRequest, TellsNext, TellsWords, request}
use Rattle.turn_play.proofs.FirstValues.{nothing-whole, none-other}
use Rattle.turn_play.proofs.Heard.{no-command, no-first}

pub heard-words : (bytes : List ℕ) (d : Data) (count : ℕ) (r : Result FirstWords NoMemory) → (count ≤ length bytes) × (0 < count) × (front full bytes ≡ Whole d (drop count bytes)) → TellsWords d count r → HearsWords bytes r
heard-words bytes d count (Ok (first.Words words many)) b t = subst (λ n. BeginsRequest bytes words n) (sym t.1) (b.0, b.1, subst (λ e. front full bytes ≡ Whole e (drop count bytes)) t.0 b.2)
heard-words bytes d count (Ok first.Short) b t = absurd t
heard-words bytes d count (Ok first.Other) b t = none-other bytes d (drop count bytes) b.2 t
heard-words bytes d count (Err why) b t = tt

pub heard-next : (bytes : List ℕ) (words : List (List ℕ)) (count : ℕ) (r : Result NextCommand NoMemory) → BeginsRequest bytes words count → TellsNext words count r → HearsNext bytes r
heard-next bytes words count (Ok (next.Command part many)) b t = (t.0, subst (λ ws. BeginsRequest bytes ws many) (sym t.1) (subst (λ n. BeginsRequest bytes words n) (sym t.2) b))
heard-next bytes words count (Ok (next.Exec many)) b t = subst (λ ws. BeginsRequest bytes ws many) t.0 (subst (λ n. BeginsRequest bytes words n) (sym t.1) b)
heard-next bytes words count (Ok next.Short) b t = absurd t
heard-next bytes words count (Ok next.Other) b t = no-command bytes words count b t.0 t.1
heard-next bytes words count (Err why) b t = tt

-- no bytes begin with nothing
none-in-nothing : (bytes : List ℕ) → bytes ≡ [] → NoRequest bytes
none-in-nothing bytes e words more f = nothing-whole (request words) more (subst (λ b. front full b ≡ Whole (request words) more) e f)

pub none-at-end : (bytes : List ℕ) (at : ℕ) → length bytes ≤ at → NoCommands (drop at bytes)
none-at-end bytes at past = no-first (drop at bytes) (none-in-nothing (drop at bytes) (empty (drop at bytes) (omega (arith, past, length-drop at bytes))))
  where
    empty : (xs : List ℕ) → length xs ≡ 0 → xs ≡ []
    empty [] e = refl
    empty (x ∷ xs) e = absurd (omega (arith, e))

-- ---- words that are compared

pub same-words : (words others : List (List ℕ)) (same : Bool) → same ≡ pointwise (pointwise nat_eq) words others → IsTrue same ↔ (words ≡ others)
same-words words others same is = (λ e. (pointwise_decides bytes_decides words others).0 (sym is ∙ e), λ e. is ∙ (pointwise_decides bytes_decides words others).1 e)

pub one-word : (words : List (List ℕ)) (word text : List ℕ) (same : Bool) → length words ≡ 1 → word ≡ slice_index_or words 0 word → same ≡ pointwise nat_eq word text → IsTrue same ↔ (words ≡ text ∷ [])
one-word [] word text same one is e = absurd (omega (arith, one))
one-word (w ∷ []) word text same one is e = (
  λ t. ap (λ v. v ∷ []) (sym is ∙ (bytes_decides word text).0 (sym e ∙ t)),
  λ f. e ∙ (bytes_decides word text).1 (is ∙ (let g : w ≡ text = cc in g)),
)
one-word (w ∷ v ∷ ws) word text same one is e = absurd (omega (arith, one))

pub other-count : (words others : List (List ℕ)) → (length words ≡ length others → ⊥) → IsTrue false ↔ (words ≡ others)
other-count words others differ = (λ t. absurd (let f : false ≡ true = t in cc), λ e. absurd (differ (ap length e)))

pub two-words-are : (words : List (List ℕ)) (one two first second : List ℕ) (same same' : Bool) → length words ≡ 2 → one ≡ slice_index_or words 0 one → two ≡ slice_index_or words 1 two → same ≡ pointwise nat_eq one first → same' ≡ pointwise nat_eq two second → same ≡ true
    → IsTrue same' ↔ (words ≡ first ∷ second ∷ [])
two-words-are [] one two first second same same' many is is' e e' yes-first = absurd (omega (arith, many))
two-words-are (w ∷ []) one two first second same same' many is is' e e' yes-first = absurd (omega (arith, many))
two-words-are (w ∷ v ∷ []) one two first second same same' many is is' e e' yes-first =
    let begins : w ≡ first = sym is ∙ (bytes_decides one first).0 (sym e ∙ yes-first) in (
      λ t. (λ i. begins i ∷ (sym is' ∙ (bytes_decides two second).0 (sym e' ∙ t)) i ∷ []),
      λ f. e' ∙ (bytes_decides two second).1 (is' ∙ (let g : v ≡ second = cc in g)),
    )
two-words-are (w ∷ v ∷ x ∷ ws) one two first second same same' many is is' e e' yes-first = absurd (omega (arith, many))

pub first-differs : (words : List (List ℕ)) (one first second : List ℕ) (same : Bool) → 0 < length words → one ≡ slice_index_or words 0 one → same ≡ pointwise nat_eq one first → same ≡ false → IsTrue false ↔ (words ≡ first ∷ second ∷ [])
first-differs [] one first second same some is e differs = absurd (omega (arith, some))
first-differs (w ∷ ws) one first second same some is e differs = (
  λ t. absurd (let f : false ≡ true = t in cc),
  λ f. absurd (let so = e ∙ (bytes_decides one first).1 (is ∙ (let g : w ≡ first = cc in g)) in let h : false ≡ true = sym differs ∙ so in cc),
)
