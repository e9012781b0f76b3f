-- A node reads the items that were written.
use Rattle.std.proofs.Common.{◌≡◌, ◌<◌, ℕ, false, List, [], ◌∷◌, ◌++◌, length, map, refl, sym, ap, ◌∙◌, subst, arith, append_assoc, Ok, Err}
use Rattle.std.specs.Prelude.{All, codes, nat_eq}
use Rattle.std.specs.List.{flat_map}
use Rattle.std.proofs.lemmas.Bool.{eq-eqb, true≢false}
use Rattle.std.proofs.lemmas.Grind.{flat_map-append}
use Rattle.std.proofs.lemmas.List.{append-nil}
use Rattle.std.proofs.lemmas.List.Elements.{All-head, All-tail}
use Rattle.resp_wire.specs.LimitsModel.{full}
use Rattle.key_split.specs.declared.planned.Joining.{Joining}
use Rattle.key_split.specs.declared.planned.Planned.TheVariants.{Parts}
use Rattle.key_split.specs.declared.planned.PlanFault.{PlanFault}
use Rattle.key_split.specs.declared.planned.PlanFault.TheVariants.{UnknownCommand}
use Rattle.key_split.specs.Laws.{IsPlain}
use Rattle.key_split.specs.Names.{name_of}
use Rattle.key_split.specs.PartModel.{PartModel}
use Rattle.key_split.specs.Plan.{PlanAnswer, Words, plan_of, word_at}
use Rattle.key_split.specs.Requests.{Request}
use Rattle.key_split.specs.Words.{words_of}
use Rattle.key_split.proofs.RoundTrip.{planned-back}
use Rattle.node_link.specs.Blocks.{Item as Sent, Plain, Block, written_as}
use Rattle.node_link.specs.Bytes.{spelled, spelled_words, words_in}
use Rattle.turn_laws.specs.Wire.{Part, Item, Asks, Runs, Lists, parts_in}
use Rattle.turn_laws.specs.ByteWires.{AreAlike, IsPlainItem, ItemsAreReadBack, ReadsAll, command_in, sent_as, words_sent}
use Rattle.turn_laws.proofs.SpellingsRead.{words-found}

abbrev multi : Words
multi = codes "MULTI" ∷ []

abbrev exec : Words
exec = codes "EXEC" ∷ []

abbrev asking : Words
asking = codes "ASKING" ∷ []

abbrev slots : Words
slots = codes "CLUSTER" ∷ codes "SLOTS" ∷ []

-- ---- requests that are read where requests were written

-- they are the same as far as both go
abbrev AreAlong : List Words → List Words → Type 0
AreAlong [] written = Unit {0}
AreAlong (words ∷ found) [] = Unit {0}
AreAlong (words ∷ found) (first ∷ written) = (words ≡ first) × AreAlong found written

along : (came later more rest : List ℕ) (found written : List Words) → ReadsAll came found rest → came ++ later ≡ flat_map spelled_words written ++ more → AreAlong found written
along came later more rest [] written reads is = tt
along came later more rest (words ∷ found) [] reads is = tt
along came later more rest (words ∷ found) (first ∷ written) (next, whole, reads) is =
    let read = words-found full came later next (flat_map spelled_words written ++ more) words first whole (is ∙ append_assoc (spelled_words first) (flat_map spelled_words written) more) in
    (read.0, along next later more rest found written reads read.2)

whole-came : (came later more rest : List ℕ) (written : List Words) → ReadsAll came written rest → came ++ later ≡ flat_map spelled_words written ++ more
    → (came ≡ flat_map spelled_words written ++ rest) × (rest ++ later ≡ more)
whole-came came later more rest [] reads is = (reads, ap (λ bs. bs ++ later) (sym reads) ∙ is)
whole-came came later more rest (first ∷ written) (next, whole, reads) is =
    let read = words-found full came later next (flat_map spelled_words written ++ more) first first whole (is ∙ append_assoc (spelled_words first) (flat_map spelled_words written) more) in
    let behind = whole-came next later more rest written reads read.2 in
    (read.1 ∙ ap (λ bs. spelled_words first ++ bs) behind.0 ∙ sym (append_assoc (spelled_words first) (flat_map spelled_words written) rest), behind.1)

mapped : (requests : List Request) → spelled requests ≡ flat_map spelled_words (map words_in requests)
mapped [] = refl
mapped (request ∷ requests) = ap (λ bs. spelled_words (words_in request) ++ bs) (mapped requests)

written-is : (sent : Sent) → written_as sent ≡ flat_map spelled_words (words_sent sent)
written-is (Plain request) = sym (append-nil (spelled_words (words_in request)))
written-is (Block requests) =
    ap (λ bs. spelled_words multi ++ bs)
    (ap (λ bs. bs ++ spelled_words exec) (mapped requests)
    ∙ ap (λ bs. flat_map spelled_words (map words_in requests) ++ bs) (sym (append-nil (spelled_words exec)))
    ∙ sym (flat_map-append spelled_words (map words_in requests) (exec ∷ [])))

-- ---- words that are those of one item

-- words whose first have other lengths are others
others : (v w : Words) → nat_eq (length (word_at v 0)) (length (word_at w 0)) ≡ false → v ≡ w → ⊥
others v w apart e = true≢false (sym (eq-eqb (length (word_at v 0)) (length (word_at w 0)) (ap (λ ws. length (word_at ws 0)) e)) ∙ apart)

no-plan : (fault : PlanFault) (joining : Joining) (parts : List PartModel) → ◌≡◌ {A = PlanAnswer} (Err fault) (Ok (Parts joining parts)) → ⊥
no-plan fault joining parts e = absurd cc

one-part : (j k : Joining) (c d : PartModel) → ◌≡◌ {A = PlanAnswer} (Ok (Parts j (c ∷ []))) (Ok (Parts k (d ∷ []))) → c ≡ d
one-part j k c d e = cc

-- no command is written by these words
no-command : (words : Words) (part : PartModel) → IsPlain part → plan_of words ≡ Err UnknownCommand → words ≡ words_of part → ⊥
no-command words part plain unknown is = no-plan UnknownCommand _ (part ∷ []) (sym unknown ∙ ap plan_of is ∙ planned-back part plain)

same-part : (c d : PartModel) → IsPlain c → IsPlain d → words_of c ≡ words_of d → c ≡ d
same-part c d p q is = one-part _ _ c d (sym (planned-back c p) ∙ ap plan_of is ∙ planned-back d q)

no-multi : plan_of multi ≡ Err UnknownCommand
unfolding name_of
no-multi = refl

no-exec : plan_of exec ≡ Err UnknownCommand
unfolding name_of
no-exec = refl

no-asking : plan_of asking ≡ Err UnknownCommand
unfolding name_of
no-asking = refl

no-slots : plan_of slots ≡ Err UnknownCommand
unfolding name_of
no-slots = refl

both-same : {X : Type 0} (x y : X) (xs ys : List X) → x ≡ y → xs ≡ ys → x ∷ xs ≡ y ∷ ys
both-same x y xs ys e f = cc

-- the commands of a block end where EXEC stands
same-run : (parts found : List Part) → All IsPlain (parts_in parts) → All IsPlain (parts_in found)
    → AreAlong (map words_in (map command_in found) ++ exec ∷ []) (map words_in (map command_in parts) ++ exec ∷ []) → parts_in parts ≡ parts_in found
same-run [] [] p q a = refl
same-run [] (b ∷ found) p q a = absurd (no-command exec b.1 (All-head IsPlain b.1 (parts_in found) q) no-exec (sym a.0))
same-run (c ∷ parts) [] p q a = absurd (no-command exec c.1 (All-head IsPlain c.1 (parts_in parts) p) no-exec a.0)
same-run (c ∷ parts) (b ∷ found) p q a =
    both-same c.1 b.1 (parts_in parts) (parts_in found)
    (same-part c.1 b.1 (All-head IsPlain c.1 (parts_in parts) p) (All-head IsPlain b.1 (parts_in found) q) (sym a.0))
    (same-run parts found (All-tail IsPlain c.1 (parts_in parts) p) (All-tail IsPlain b.1 (parts_in found) q) a.1)

none-there : 0 < 0 → ⊥
none-there e = omega (arith, e)

alone : (part : Part) → IsPlainItem (Runs (part ∷ [])) → IsPlain part.1
alone part plain = All-head IsPlain part.1 [] plain.1

same-item : (item heard : Item) → IsPlainItem item → IsPlainItem heard → AreAlong (words_sent (sent_as heard)) (words_sent (sent_as item)) → AreAlike item heard
same-item Asks Asks p q a = tt
same-item Asks (Runs []) p q a = absurd (none-there q.0)
same-item Asks (Runs (b ∷ [])) p q a = absurd (no-command asking b.1 (alone b q) no-asking (sym a.0))
same-item Asks (Runs (b ∷ next ∷ found)) p q a = absurd (others multi asking refl a.0)
same-item Asks Lists p q a = absurd (others slots asking refl a.0)
same-item (Runs []) heard p q a = absurd (none-there p.0)
same-item (Runs (c ∷ [])) Asks p q a = absurd (no-command asking c.1 (alone c p) no-asking a.0)
same-item (Runs (c ∷ [])) (Runs []) p q a = absurd (none-there q.0)
same-item (Runs (c ∷ [])) (Runs (b ∷ [])) p q a = both-same c.1 b.1 [] [] (same-part c.1 b.1 (alone c p) (alone b q) (sym a.0)) refl
same-item (Runs (c ∷ [])) (Runs (b ∷ next ∷ found)) p q a = absurd (no-command multi c.1 (alone c p) no-multi a.0)
same-item (Runs (c ∷ [])) Lists p q a = absurd (no-command slots c.1 (alone c p) no-slots a.0)
same-item (Runs (c ∷ next ∷ parts)) Asks p q a = absurd (others asking multi refl a.0)
same-item (Runs (c ∷ next ∷ parts)) (Runs []) p q a = absurd (none-there q.0)
same-item (Runs (c ∷ next ∷ parts)) (Runs (b ∷ [])) p q a = absurd (no-command multi b.1 (alone b q) no-multi (sym a.0))
same-item (Runs (c ∷ next ∷ parts)) (Runs (b ∷ other ∷ found)) p q a = same-run (c ∷ next ∷ parts) (b ∷ other ∷ found) p.1 q.1 a.1
same-item (Runs (c ∷ next ∷ parts)) Lists p q a = absurd (others slots multi refl a.0)
same-item Lists Asks p q a = absurd (others asking slots refl a.0)
same-item Lists (Runs []) p q a = absurd (none-there q.0)
same-item Lists (Runs (b ∷ [])) p q a = absurd (no-command slots b.1 (alone b q) no-slots (sym a.0))
same-item Lists (Runs (b ∷ next ∷ found)) p q a = absurd (others multi slots refl a.0)
same-item Lists Lists p q a = tt

-- ---- no ticket is written

run-words : List PartModel → List Words
run-words [] = multi ∷ exec ∷ []
run-words (part ∷ []) = words_of part ∷ []
run-words (part ∷ next ∷ later) = multi ∷ (map words_of (part ∷ next ∷ later) ++ exec ∷ [])

command-words : (parts : List Part) → map words_in (map command_in parts) ≡ map words_of (parts_in parts)
command-words [] = refl
command-words (part ∷ parts) = ap (λ ws. words_of part.1 ∷ ws) (command-words parts)

run-is : (parts : List Part) → words_sent (sent_as (Runs parts)) ≡ run-words (parts_in parts)
unfolding run-words
run-is [] = refl
run-is (part ∷ []) = refl
run-is (part ∷ next ∷ later) = ap (λ ws. multi ∷ (ws ++ exec ∷ [])) (command-words (part ∷ next ∷ later))

same-words : (item heard : Item) → AreAlike item heard → words_sent (sent_as heard) ≡ words_sent (sent_as item)
same-words Asks Asks a = refl
same-words (Runs parts) (Runs found) a = run-is found ∙ ap run-words (sym a) ∙ sym (run-is parts)
same-words Lists Lists a = refl
same-words Asks (Runs found) a = absurd a
same-words Asks Lists a = absurd a
same-words (Runs parts) Asks a = absurd a
same-words (Runs parts) Lists a = absurd a
same-words Lists Asks a = absurd a
same-words Lists (Runs found) a = absurd a

pub items-read-back : ItemsAreReadBack
items-read-back item heard came later more rest plain is reads =
    let written = words_sent (sent_as item) in
    let bytes = written-is (sent_as item) in
    let goes = is ∙ ap (λ bs. bs ++ more) bytes in
    let alike = same-item item heard plain reads.0 (along came later more rest (words_sent (sent_as heard)) written reads.1 goes) in
    let came-whole = whole-came came later more rest written (subst (λ found. ReadsAll came found rest) (same-words item heard alike) reads.1) goes in
    (alike, came-whole.0 ∙ ap (λ bs. bs ++ rest) (sym bytes), came-whole.1)
