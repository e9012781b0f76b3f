-- AUTH, as it is put together.
use Rattle.std.proofs.Common.{◌≡◌, ◌++◌, ◌∷◌, ◌<◌, [], ℕ, List, ap, sym, ◌∙◌, arith, refl}
use Rattle.std.proofs.lemmas.List.{append-nil}
use Rattle.std.proofs.lemmas.Fmt.{decimal_digit}
use Rattle.std.specs.Prelude.{codes, decimal}
use Rattle.resp_wire.specs.Canonical.{canonical}
use Rattle.resp_wire.specs.Data.{bulk}
use Rattle.node_link.specs.Bytes.{spelled_words}

-- a count of one digit, the word AUTH and what follows
auth_begun : (count four : List ℕ) (digit : ℕ) (more : List ℕ) → count ≡ digit ∷ [] → four ≡ 52 ∷ []
    → 42 ∷ digit ∷ 13 ∷ 10 ∷ 36 ∷ 52 ∷ 13 ∷ 10 ∷ 65 ∷ 85 ∷ 84 ∷ 72 ∷ 13 ∷ 10 ∷ more
    ≡ 42 ∷ (count ++ 13 ∷ 10 ∷ ((36 ∷ (four ++ 13 ∷ 10 ∷ 65 ∷ 85 ∷ 84 ∷ 72 ∷ 13 ∷ 10 ∷ [])) ++ more))
auth_begun count four digit more c f = rw (c, f) refl

-- AUTH with a password
pub password_said : (empty begun password : List ℕ) → empty ≡ []
    → begun ≡ empty ++ (42 ∷ 50 ∷ 13 ∷ 10 ∷ 36 ∷ 52 ∷ 13 ∷ 10 ∷ 65 ∷ 85 ∷ 84 ∷ 72 ∷ 13 ∷ 10 ∷ [])
    → begun ++ canonical (bulk password) ≡ spelled_words (codes "AUTH" ∷ password ∷ [])
password_said empty begun password none is =
    let word = canonical (bulk password) in
    let two : 2 < 10 = omega arith in
    let four : 4 < 10 = omega arith in
    rw (is, none)
    (ap (λ (xs : List ℕ). 42 ∷ 50 ∷ 13 ∷ 10 ∷ 36 ∷ 52 ∷ 13 ∷ 10 ∷ 65 ∷ 85 ∷ 84 ∷ 72 ∷ 13 ∷ 10 ∷ xs) (sym (append-nil word))
    ∙ auth_begun (decimal 2) (decimal 4) 50 (word ++ []) (decimal_digit 2 two) (decimal_digit 4 four))

-- AUTH with a user's name and a password
pub user_said : (empty begun named user password : List ℕ) → empty ≡ []
    → begun ≡ empty ++ (42 ∷ 51 ∷ 13 ∷ 10 ∷ 36 ∷ 52 ∷ 13 ∷ 10 ∷ 65 ∷ 85 ∷ 84 ∷ 72 ∷ 13 ∷ 10 ∷ [])
    → named ≡ begun ++ canonical (bulk user)
    → named ++ canonical (bulk password) ≡ spelled_words (codes "AUTH" ∷ user ∷ password ∷ [])
user_said empty begun named user password none is behind =
    let name = canonical (bulk user) in
    let word = canonical (bulk password) in
    let three : 3 < 10 = omega arith in
    let four : 4 < 10 = omega arith in
    rw (behind, is, none)
    (ap (λ (xs : List ℕ). 42 ∷ 51 ∷ 13 ∷ 10 ∷ 36 ∷ 52 ∷ 13 ∷ 10 ∷ 65 ∷ 85 ∷ 84 ∷ 72 ∷ 13 ∷ 10 ∷ (name ++ xs)) (sym (append-nil word))
    ∙ auth_begun (decimal 3) (decimal 4) 51 (name ++ (word ++ [])) (decimal_digit 3 three) (decimal_digit 4 four))
