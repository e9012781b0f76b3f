-- A redirection to an endpoint of the table is heard as it was told: with its slot, and with the number of the endpoint.
use Rattle.std.proofs.Common.{◌≡◌, ℕ, ◌<◌, ◌==◌, ◌&&◌, ◌||◌, Bool, true, false, cond, List, [], ◌∷◌, ◌++◌, Option, Some, None, length, refl, sym, ap, ◌∙◌, arith, append_assoc}
use Rattle.std.specs.Prelude.{codes, nat_lt, position, slice_index_or}
use Rattle.std.specs.Fmt.{decimal}
use Rattle.std.specs.List.{position_or_len}
use Rattle.std.specs.Str.{bytes_eq}
use Rattle.std.proofs.lemmas.Bool.{eq-eqb, eqb-true}
use Rattle.std.proofs.lemmas.Bool.Decides.{nat_tests}
use Rattle.std.proofs.lemmas.List.Sums.{position_or_len_is}
use Rattle.std.proofs.lemmas.Option.{slice_get-get_or}
use Rattle.std.proofs.lemmas.Slice.Eq.{bytes_eq-Decides}
use Rattle.key_split.specs.Told.{redirect_text}
use Rattle.key_split.specs.declared.travel.Told.{Told}
use Rattle.key_split.specs.declared.travel.Told.TheVariants.{Moved, Ask}
use Rattle.slot_map.specs.Table.{Endpoint, numbered_at, same_endpoint, endpoint_of}
use Rattle.node_link.specs.Line.{Target, target_in}
use Rattle.node_link.specs.Telling.{endpoint_meant, sent_on, redirected, refusal_in}
use Rattle.turn_laws.specs.Endpoints.{AreApart}
use Rattle.turn_laws.specs.Writing.{CanBeNamed}
use Rattle.turn_laws.proofs.WordsRead.{both, target-read}

-- ---- the place of an endpoint in a table

fails : (b : Bool) → (b ≡ true → ⊥) → b ≡ false
fails true h = absurd (h refl)
fails false h = refl

-- what passes at one place alone is found there
found-at : (test : Endpoint → Bool) (xs : List Endpoint) (k : ℕ) (d : Endpoint) → k < length xs → test (slice_index_or xs k d) ≡ true
    → ((j : ℕ) → j < length xs → test (slice_index_or xs j d) ≡ true → j ≡ k) → position test xs ≡ Some k
found-at test xs k d within here alone =
    let place : position_or_len test xs ≡ k =
    position_or_len_is test xs k d (omega (arith, within)) (λ j before. fails (test (slice_index_or xs j d)) (λ e. let same = alone j (omega (arith, before, within)) e in omega (arith, same, before))) (λ _. here) in
    let inside : nat_lt k (length xs) ≡ true = grind (arith, nat_tests, within) in
    ap (λ (n : ℕ). cond (nat_lt n (length xs)) (Some n) None) place ∙ ap (λ (b : Bool). cond b (Some k) None) inside

parts : (a b : Bool) → (a && b) ≡ true → (a ≡ true) × (b ≡ true)
parts true b e = (refl, e)
parts false b e = absurd (cc)

same-self : (at : Endpoint) → same_endpoint at at ≡ true
same-self at = both (bytes_eq at.host at.host) (at.port == at.port) ((bytes_eq-Decides at.host at.host).1 refl) (eq-eqb at.port at.port refl)

same-is : (a b : Endpoint) → same_endpoint a b ≡ true → a ≡ b
same-is a b e =
    let h = parts (bytes_eq a.host b.host) (a.port == b.port) e in
    (λ i. record { host = (bytes_eq-Decides a.host b.host).0 h.0 i; port = eqb-true a.port b.port h.1 i })

-- each endpoint is found at its own place
own-place : (table : List Endpoint) (node : ℕ) → AreApart table → node < length table → position (same_endpoint (endpoint_of table node)) table ≡ Some node
own-place table node apart within =
    let nowhere : Endpoint = record { host = []; port = 0 } in
    let at : Endpoint = endpoint_of table node in
    found-at (same_endpoint at) table node nowhere within (same-self at) (λ j lt e.
    apart j node at (slice_get-get_or table j nowhere lt ∙ ap Some (sym (same-is at (slice_index_or table j nowhere) e))) (slice_get-get_or table node nowhere within))

-- ---- a redirection

-- the host that was written is the one that is meant
pub meant : (asked : List ℕ) (at : Endpoint) → CanBeNamed at → endpoint_meant asked at ≡ at
meant asked at h =
    let no-host = fails (bytes_eq at.host []) (λ e. h.host.0 ((bytes_eq-Decides at.host []).0 e)) in
    let no-mark = fails (bytes_eq at.host (codes "?")) (λ e. h.host.1 ((bytes_eq-Decides at.host (codes "?")).0 e)) in
    (λ i. record { host = cond (no-host i || no-mark i) asked at.host; port = at.port })

module _ (table : List Endpoint) (slot node : ℕ) (asked : List ℕ) (apart : AreApart table) (small : slot < 16384) (within : node < length table) (named : CanBeNamed (endpoint_of table node)) where
  abbrev at : Endpoint
  at = endpoint_of table node

  abbrev words : List ℕ
  words = decimal slot ++ 32 ∷ (at.host ++ 58 ∷ decimal at.port)

  sent : (how : ℕ → ℕ → Told) → redirected how asked (target_in words) table ≡ (how slot node, table)
  sent how =
      ap (λ (o : Option Target). redirected how asked o table) (target-read slot at small named.one_word named.port.0 named.port.1)
      ∙ ap (λ (e : Endpoint). sent_on how slot (numbered_at (position (same_endpoint e) table) table e) table) (meant asked at named)
      ∙ ap (λ (o : Option ℕ). sent_on how slot (numbered_at o table at) table) (own-place table node apart within)

  grouped : (word : List ℕ) → redirect_text word slot at ≡ word ++ words
  grouped word = simp append_assoc refl

  pub moved-heard : refusal_in asked (redirect_text (codes "MOVED ") slot at) table ≡ Some (Moved slot node, table)
  moved-heard = ap (λ (line : List ℕ). refusal_in asked line table) (grouped (codes "MOVED ")) ∙ ap Some (sent Moved)

  pub ask-heard : refusal_in asked (redirect_text (codes "ASK ") slot at) table ≡ Some (Ask slot node, table)
  ask-heard = ap (λ (line : List ℕ). refusal_in asked line table) (grouped (codes "ASK ")) ∙ ap Some (sent Ask)
