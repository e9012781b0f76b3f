-- Values that parts have.
use Rattle.std.proofs.Common.{◌≡◌, ◌⊎◌, List, [], ◌∷◌, ◌++◌, ℕ, Bool, true, false, refl, sym, ap, ◌∙◌, inl, inr}
use Rattle.std.specs.Prelude.{All, IsTrue, if◌then◌else◌}
use Rattle.std.proofs.lemmas.Bool.{false≢true}
use Rattle.std.proofs.lemmas.List.Elements.{All-map}
use Rattle.key_split.specs.declared.part.Op.{Op}
use Rattle.key_split.specs.PartModel.{PartModel, Pair, puts_value, value_for, IsValueFor}
use Rattle.key_split.specs.Groups.{alone, on_group}

-- a value that fits stays
pub value-stays : (o : Op) (value : List ℕ) → IsValueFor o value → value_for o value ≡ value
value-stays o value fits = at (puts_value o) fits
  where
    at : (puts : Bool) → IsTrue puts ⊎ (value ≡ []) → (if puts then value else []) ≡ value
    at true fits = refl
    at false (inl e) = absurd (false≢true e)
    at false (inr e) = sym e

-- keys that have no value fit each operation
pub alone-fit : (o : Op) (keys : List (List ℕ)) → All (λ (pair : Pair). IsValueFor o pair.1) (alone keys)
alone-fit o keys = All-map (λ pair. IsValueFor o pair.1) (λ key. (key, [])) keys (λ k d w. inr refl)

pub pushed-whole : (part part' : PartModel) (o : Op) (key value : List ℕ) → part.op ≡ o → IsValueFor o value → part' ≡ record part { rest = part.rest ++ (key, value_for part.op value) ∷ [] }
    → part' ≡ record part { rest = part.rest ++ (key, value) ∷ [] }
pushed-whole part part' o key value of fits is =
    is ∙ ap (λ v. record part { rest = part.rest ++ (key, v) ∷ [] }) (ap (λ p. value_for p value) of ∙ value-stays o value fits)

pub made-whole : (part : PartModel) (o : Op) (key value : List ℕ) → IsValueFor o value → part ≡ record { op = o; key = key; arg = value_for o value; rest = [] } → part ≡ on_group o ((key, value) ∷ [])
made-whole part o key value fits is = is ∙ ap (λ v. on_group o ((key, v) ∷ [])) (value-stays o value fits)
