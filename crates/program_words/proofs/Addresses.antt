-- Texts of which each names an address.
use Rattle.std.proofs.Common.{◌≡◌, ◌≤◌, ◌<◌, ◌∙◌, ◌∷◌, [], ℕ, zero, suc, List, Option, Some, None, Bor, length, map, take, get_or, refl, sym, ap, arith}
use Rattle.std.specs.Prelude.{option_and_then, option_map}
use Rattle.std.proofs.lemmas.List.{take_all}
use Rattle.slot_map.specs.Table.{Endpoint}
use Rattle.program_words.specs.declared.address.Address.{Address}
use Rattle.program_words.specs.Asked.{address_in, addresses_in}
use Rattle.program_words.specs.Endpoints.{endpoints_of}

-- what they name, each by itself
abbrev pub named : List (Bor (List ℕ)) → List (Option Endpoint)
named texts = map (λ text. address_in text.now) texts

first_or : Option Endpoint → List (Option Endpoint) → Option Endpoint
first_or other [] = other
first_or other (o ∷ os) = o

others_of : List (Option Endpoint) → List (Option Endpoint)
others_of [] = []
others_of (o ∷ os) = os

all_named : (texts : List (Bor (List ℕ))) (seeds : List Endpoint) → named texts ≡ map Some seeds → addresses_in (map (λ text. text.now) texts) ≡ Some seeds
unfolding first_or others_of
all_named [] [] are = refl
all_named [] (s ∷ ss) are = absurd (omega (arith, ap length are))
all_named (t ∷ ts) [] are = absurd (omega (arith, ap length are))
all_named (t ∷ ts) (s ∷ ss) are =
    let first : address_in t.now ≡ Some s = ap (first_or None) are in
    let others : addresses_in (map (λ text. text.now) ts) ≡ Some ss = all_named ts ss (ap others_of are) in
    ap (λ o. option_and_then (λ at. option_map (λ later. at ∷ later) (addresses_in (map (λ text. text.now) ts))) o) first ∙ ap (λ o. option_map (λ later. s ∷ later) o) others

-- all were read
pub all_read : (texts : List (Bor (List ℕ))) (i : ℕ) (addresses : List Address) → length texts ≤ i → named (take i texts) ≡ map Some (endpoints_of addresses)
    → Some (endpoints_of addresses) ≡ addresses_in (map (λ text. text.now) texts)
all_read texts i addresses all are = sym (all_named texts (endpoints_of addresses) (ap named (sym (take_all i texts all)) ∙ are))

abbrev nothing : Option (List Endpoint)
nothing = None

no_others : (o : Option Endpoint) → option_and_then (λ at. option_map (λ later. at ∷ later) nothing) o ≡ None
no_others None = refl
no_others (Some at) = refl

-- one names none
pub none_read : (texts : List (Bor (List ℕ))) (i : ℕ) (other : Bor (List ℕ)) → i < length texts → address_in (get_or texts i other).now ≡ None → None ≡ addresses_in (map (λ text. text.now) texts)
none_read [] i other less none = absurd (omega (arith, less))
none_read (t ∷ ts) zero other less none = sym (ap (option_and_then (λ at. option_map (λ later. at ∷ later) (addresses_in (map (λ text. text.now) ts)))) none)
none_read (t ∷ ts) (suc i) other less none =
    let later : None ≡ addresses_in (map (λ text. text.now) ts) = none_read ts i other (omega (arith, less)) none in
    sym (no_others (address_in t.now)) ∙ ap (λ os. option_and_then (λ at. option_map (λ later. at ∷ later) os) (address_in t.now)) later
