-- Just the endpoints that can be named are read as they are where a redirection names them.
use Rattle.std.proofs.Common.{◌≡◌, ◌≢◌, ℕ, zero, suc, ◌+◌, ◌≤◌, ◌&&◌, ◌||◌, Bool, true, false, cond, List, [], ◌∷◌, ◌++◌, Option, Some, None, take, refl, sym, ap, ◌∙◌, arith, append_assoc}
use Rattle.std.specs.Prelude.{codes, nat_eq, nat_le, not, option_map}
use Rattle.std.specs.Fmt.{decimal}
use Rattle.std.specs.List.{after_last, before_last, list_all, list_any, prefix_len}
use Rattle.std.specs.Str.{bytes_eq}
use Rattle.std.proofs.lemmas.Bool.Decides.{nat_tests}
use Rattle.std.proofs.lemmas.Slice.Eq.{bytes_eq-Decides}
use Rattle.slot_map.specs.Table.{Endpoint}
use Rattle.node_link.specs.Line.{endpoint_in, first_word, if_within, short_number}
use Rattle.node_link.specs.Telling.{endpoint_meant}
use Rattle.turn_laws.specs.Writing.{CanBeNamed, NamedIsReadBack, read_back}
use Rattle.turn_laws.proofs.WordsRead.{endpoint-word}
use Rattle.turn_laws.proofs.RedirectsHeard.{meant}

-- ---- one that can be named

named-read : (at : Endpoint) → CanBeNamed at → (asked : List ℕ) → read_back asked at ≡ Some at
named-read at h asked =
    ap (λ (xs : List ℕ). option_map (endpoint_meant asked) (endpoint_in (first_word xs))) (append_assoc at.host (58 ∷ []) (decimal at.port))
    ∙ ap (option_map (endpoint_meant asked)) (endpoint-word at h.one_word h.port.0 h.port.1)
    ∙ ap Some (meant asked at h)

-- ---- one that is read back

no-more : (test : ℕ → Bool) (xs : List ℕ) → list_all test (take (prefix_len test xs) xs) ≡ true
no-more test [] = refl
no-more test (x ∷ xs) = go (test x) refl (no-more test xs)
  where
    go : (b : Bool) → test x ≡ b → list_all test (take (prefix_len test xs) xs) ≡ true → list_all test (take (cond b (1 + prefix_len test xs) 0) (x ∷ xs)) ≡ true
    go true is later =
        let one-more : 1 + prefix_len test xs ≡ suc (prefix_len test xs) = omega arith in
        ap (λ (n : ℕ). list_all test (take n (x ∷ xs))) one-more ∙ (λ i. is i && later i)
    go false is later = refl

all-take : (test : ℕ → Bool) (n : ℕ) (xs : List ℕ) → list_all test xs ≡ true → list_all test (take n xs) ≡ true
all-take test zero xs h = refl
all-take test (suc n) [] h = refl
all-take test (suc n) (x ∷ xs) h = go (test x) h (all-take test n xs)
  where
    go : (b : Bool) → (b && list_all test xs) ≡ true → (list_all test xs ≡ true → list_all test (take n xs) ≡ true) → (b && list_all test (take n xs)) ≡ true
    go true e later = later e
    go false e later = absurd (cc)

in-range : (low high : ℕ) (o : Option ℕ) (n : ℕ) → if_within low high o ≡ Some n → (low ≤ n) × (n ≤ high)
in-range low high None n is = absurd (cc)
in-range low high (Some m) n is = go (nat_le low m) (nat_le m high) refl refl is
  where
    go : (b c : Bool) → nat_le low m ≡ b → nat_le m high ≡ c → cond (b && c) (Some m) None ≡ Some n → (low ≤ n) × (n ≤ high)
    go true true above below e = let same : m ≡ n = cc in (grind (arith, nat_tests, above, same), grind (arith, nat_tests, below, same))
    go true false above below e = absurd (cc)
    go false c above below e = absurd (cc)

abbrev endpoint : List ℕ → ℕ → Endpoint
endpoint host port = record { host = host; port = port }

-- what was read has the host that stands before the last colon, and a port in range
read-parts : (host : List ℕ) (there : Bool) (o : Option ℕ) (e : Endpoint) → cond there (option_map (λ (port : ℕ). endpoint host port) (if_within 1 65535 o)) None ≡ Some e
    → (host ≡ e.host) × (1 ≤ e.port) × (e.port ≤ 65535)
read-parts host false o e is = absurd (cc)
read-parts host true o e is = go (if_within 1 65535 o) refl is
  where
    go : (p : Option ℕ) → if_within 1 65535 o ≡ p → option_map (λ (port : ℕ). endpoint host port) p ≡ Some e → (host ≡ e.host) × (1 ≤ e.port) × (e.port ≤ 65535)
    go None read is = absurd (cc)
    go (Some port) read is =
        let same : endpoint host port ≡ e = cc in
        let range = in-range 1 65535 o port read in
        let at : port ≡ e.port = ap (λ (x : Endpoint). x.port) same in
        (ap (λ (x : Endpoint). x.host) same, omega (arith, range.0, at), omega (arith, range.1, at))

same-some : (a b : Endpoint) → Some a ≡ Some b → a ≡ b
same-some a b e = cc

unlike : (xs ys : List ℕ) → bytes_eq xs ys ≡ false → xs ≢ ys
unlike xs ys no-match same = absurd (let match : bytes_eq xs ys ≡ true = (bytes_eq-Decides xs ys).1 same in cc)

module _ (at : Endpoint) (read : (asked : List ℕ) → read_back asked at ≡ Some at) where
  abbrev text : List ℕ
  text = first_word (at.host ++ codes ":" ++ decimal at.port)

  two-hosts : ((asked : List ℕ) → asked ≡ at.host) → ⊥
  two-hosts hosts = absurd (let none : [] ≡ at.host = hosts [] in let some : 0 ∷ [] ≡ at.host = hosts (0 ∷ []) in cc)

  -- whose host is empty or `?` is read with each host that was asked
  as-written : (e : Endpoint) (none mark : Bool) → bytes_eq e.host [] ≡ none → bytes_eq e.host (codes "?") ≡ mark
      → ((asked : List ℕ) → cond (none || mark) asked e.host ≡ at.host) → (e.host ≡ at.host) × (e.host ≢ []) × (e.host ≢ codes "?")
  as-written e true mark is-none is-mark hosts = absurd (two-hosts hosts)
  as-written e false true is-none is-mark hosts = absurd (two-hosts hosts)
  as-written e false false is-none is-mark hosts = (hosts [], unlike e.host [] is-none, unlike e.host (codes "?") is-mark)

  can-be-named : (o : Option Endpoint) → endpoint_in text ≡ o → ((asked : List ℕ) → option_map (endpoint_meant asked) o ≡ Some at) → CanBeNamed at
  can-be-named None is all = absurd (let none : None ≡ Some at = all [] in cc)
  can-be-named (Some e) is all =
      let colon : ℕ → Bool = λ b. nat_eq b 58 in
      let no_space : ℕ → Bool = λ b. not (nat_eq b 32) in
      let whole : List ℕ = at.host ++ codes ":" ++ decimal at.port in
      let w = as-written e (bytes_eq e.host []) (bytes_eq e.host (codes "?")) refl refl (λ asked. ap (λ (x : Endpoint). x.host) (same-some (endpoint_meant asked e) at (all asked))) in
      let p = read-parts (before_last colon text) (list_any colon text) (short_number (after_last colon text)) e is in
      let port : e.port ≡ at.port = ap (λ (x : Endpoint). x.port) (same-some (endpoint_meant [] e) at (all [])) in
      record {
        host = (λ x. w.1 (w.0 ∙ x), λ x. w.2 (w.0 ∙ x));
        one_word = ap (list_all no_space) (sym (p.0 ∙ w.0)) ∙ all-take no_space _ text (no-more no_space whole);
        port = (omega (arith, p.1, port), omega (arith, p.2, port));
      }

pub named-is-read-back : NamedIsReadBack
named-is-read-back at = (named-read at, λ read. can-be-named at read (endpoint_in (text at read)) refl read)
