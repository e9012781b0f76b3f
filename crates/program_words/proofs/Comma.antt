-- What three ports with commas between them are.
use Rattle.std.proofs.Common.{◌≡◌, ◌∷◌, [], List, ℕ, Option, Some, None, length, sym, refl, ◌∙◌, ◌+◌, arith}
use Rattle.std.specs.List.{before_first, after_first, position_or_len}
use Rattle.std.proofs.lemmas.List.{drop_all}
use Rattle.program_words.specs.Asked.{is_comma, port_in, ports_in, three}

no_second : (a c : Option ℕ) → three a None c ≡ None
no_second None c = refl
no_second (Some first) c = refl

no_third : (a b : Option ℕ) → three a b None ≡ None
no_third None b = refl
no_third (Some first) None = refl
no_third (Some first) (Some second) = refl

of_rest : (text rest : List ℕ) → rest ≡ after_first is_comma text
    → three (port_in (before_first is_comma text)) (port_in (before_first is_comma rest)) (port_in (after_first is_comma rest)) ≡ ports_in text
of_rest text rest is = λ i. three (port_in (before_first is_comma text)) (port_in (before_first is_comma (is i))) (port_in (after_first is_comma (is i)))

ended : (text : List ℕ) → position_or_len is_comma text ≡ length text → after_first is_comma text ≡ []
ended text none = drop_all (position_or_len is_comma text + 1) text (omega (arith, none))

-- a text with no comma
pub no_comma : (text : List ℕ) → position_or_len is_comma text ≡ length text → ports_in text ≡ None
no_comma text none =
    sym (of_rest text [] (sym (ended text none))) ∙ no_third (port_in (before_first is_comma text)) (port_in [])

-- a text with one comma
pub one_comma : (text rest : List ℕ) → rest ≡ after_first is_comma text → position_or_len is_comma rest ≡ length rest → ports_in text ≡ None
one_comma text rest is none =
    sym (of_rest text rest is)
    ∙ (λ i. three (port_in (before_first is_comma text)) (port_in (before_first is_comma rest)) (port_in (ended rest none i)))
    ∙ no_third (port_in (before_first is_comma text)) (port_in (before_first is_comma rest))

-- the second is no port
pub bad_second : (text rest second : List ℕ) → rest ≡ after_first is_comma text → second ≡ before_first is_comma rest → None ≡ port_in second → ports_in text ≡ None
bad_second text rest second is cut bad =
    sym (of_rest text rest is)
    ∙ (λ i. three (port_in (before_first is_comma text)) (port_in (sym cut i)) (port_in (after_first is_comma rest)))
    ∙ (λ i. three (port_in (before_first is_comma text)) (sym bad i) (port_in (after_first is_comma rest)))
    ∙ no_second (port_in (before_first is_comma text)) (port_in (after_first is_comma rest))

-- the third is no port
pub bad_third : (text rest third : List ℕ) → rest ≡ after_first is_comma text → third ≡ after_first is_comma rest → None ≡ port_in third → ports_in text ≡ None
bad_third text rest third is cut bad =
    sym (of_rest text rest is)
    ∙ (λ i. three (port_in (before_first is_comma text)) (port_in (before_first is_comma rest)) (port_in (sym cut i)))
    ∙ (λ i. three (port_in (before_first is_comma text)) (port_in (before_first is_comma rest)) (sym bad i))
    ∙ no_third (port_in (before_first is_comma text)) (port_in (before_first is_comma rest))

-- all three are ports
pub three_ports : (text first rest second third : List ℕ) (a b c : ℕ) → first ≡ before_first is_comma text → rest ≡ after_first is_comma text
    → second ≡ before_first is_comma rest → third ≡ after_first is_comma rest
    → Some a ≡ port_in first → Some b ≡ port_in second → Some c ≡ port_in third → Some (a ∷ b ∷ c ∷ []) ≡ ports_in text
three_ports text first rest second third a b c front is middle back one two last =
    (λ i. three (one i) (two i) (last i))
    ∙ (λ i. three (port_in (front i)) (port_in (middle i)) (port_in (back i)))
    ∙ of_rest text rest is
