-- The words of a redirection are read as they were written: its slot, its host and its port.
use Rattle.std.proofs.Common.{◌≡◌, ℕ, ◌+◌, ◌-◌, ◌*◌, ◌/◌, ◌%◌, ◌^◌, ◌<◌, ◌≤◌, ◌&&◌, ◌||◌, Bool, true, false, cond, List, [], ◌∷◌, ◌++◌, Option, Some, None, length, drop, reverse, refl, sym, ap, ◌∙◌, arith, append_assoc, length-append}
use Rattle.std.specs.Prelude.{nat_eq, nat_le, not, option_map}
use Rattle.std.specs.Fmt.{decimal}
use Rattle.std.specs.Char.{is_ascii_digit}
use Rattle.std.specs.List.{before_last, after_last, list_all, list_any, prefix_len, suffix_len}
use Rattle.std.proofs.lemmas.Bool.Decides.{nat_tests}
use Rattle.std.proofs.lemmas.Fmt.{decimal_by_steps, decimal_nonempty, length-decimal-le}
use Rattle.std.proofs.lemmas.List.{append-nil, take_at, take_all, drop_at, length-reverse, reverse-append}
use Rattle.std.proofs.lemmas.List.Folds.{list_all-append, list_any-append}
use Rattle.std.proofs.lemmas.List.Sums.{fold_push}
use Rattle.slot_map.specs.Table.{Endpoint}
use Rattle.node_link.specs.Line.{first_word, other_words, digits_value, short_number, if_within, number_within, endpoint_in, target_at, target_in}

-- ---- where a byte is met first

-- the byte does not stand in the text
abbrev pub Lacks : ℕ → List ℕ → Type 0
Lacks byte text = list_all (λ b. not (nat_eq b byte)) text ≡ true

pub both : (a b : Bool) → a ≡ true → b ≡ true → (a && b) ≡ true
both a b e f = (λ i. e i && f i)

all-append : (test : ℕ → Bool) (xs ys : List ℕ) → list_all test xs ≡ true → list_all test ys ≡ true → list_all test (xs ++ ys) ≡ true
all-append test xs ys h k = list_all-append test xs ys ∙ both (list_all test xs) (list_all test ys) h k

passed : (test : ℕ → Bool) (xs ys : List ℕ) → list_all test xs ≡ true → prefix_len test (xs ++ ys) ≡ length xs + prefix_len test ys
passed test [] ys h = omega arith
passed test (x ∷ xs) ys h = go (test x) (passed test xs ys) h
  where
    go : (b : Bool) → (list_all test xs ≡ true → prefix_len test (xs ++ ys) ≡ length xs + prefix_len test ys) → (b && list_all test xs) ≡ true
        → cond b (1 + prefix_len test (xs ++ ys)) 0 ≡ length (x ∷ xs) + prefix_len test ys
    go true later e = omega (arith, later e)
    go false later e = absurd (cc)

all-reverse : (test : ℕ → Bool) (xs : List ℕ) → list_all test xs ≡ true → list_all test (reverse xs) ≡ true
all-reverse test [] h = refl
all-reverse test (x ∷ xs) h = go (test x) refl h (all-reverse test xs)
  where
    go : (b : Bool) → test x ≡ b → (b && list_all test xs) ≡ true → (list_all test xs ≡ true → list_all test (reverse xs) ≡ true) → list_all test (reverse (x ∷ xs)) ≡ true
    go true is e later =
        ap (list_all test) (reverse-append (x ∷ []) xs) ∙ all-append test (reverse xs) (x ∷ []) (later e) (both (test x) true is refl)
    go false is e later = absurd (cc)

-- ---- words

module _ (word rest : List ℕ) (one : Lacks 32 word) where
  cut : prefix_len (λ b. not (nat_eq b 32)) (word ++ 32 ∷ rest) ≡ length word
  cut = passed (λ b. not (nat_eq b 32)) word (32 ∷ rest) one ∙ omega arith

  pub first-of : first_word (word ++ 32 ∷ rest) ≡ word
  first-of = take_at word (32 ∷ rest) (prefix_len (λ b. not (nat_eq b 32)) (word ++ 32 ∷ rest)) (sym cut)

  pub others-of : other_words (word ++ 32 ∷ rest) ≡ rest
  others-of =
      let n = prefix_len (λ b. not (nat_eq b 32)) (word ++ 32 ∷ rest) + 1 in
      ap (drop n) (sym (append_assoc word (32 ∷ []) rest)) ∙ drop_at (word ++ 32 ∷ []) rest n (omega (arith, length-append word (32 ∷ []), cut))

-- a word alone
pub word-alone : (word : List ℕ) → Lacks 32 word → first_word word ≡ word
word-alone word one =
    let test : ℕ → Bool = λ b. not (nat_eq b 32) in
    let whole : prefix_len test word ≡ length word + 0 = ap (prefix_len test) (sym (append-nil word)) ∙ passed test word [] one in
    take_all (prefix_len test word) word (omega (arith, whole))

-- ---- numbers

record IsWritten (n : ℕ) (text : List ℕ) : Type 0 where
  digits : list_all is_ascii_digit text ≡ true
  value : digits_value text ≡ n
  no_space : Lacks 32 text
  no_colon : Lacks 58 text

one-digit : (n : ℕ) → n < 10 → IsWritten n ((48 + n) ∷ [])
one-digit n small = record {
  digits = grind (arith, nat_tests);
  value = omega arith;
  no_space = grind (arith, nat_tests);
  no_colon = grind (arith, nat_tests);
}

digit-more : (n : ℕ) (text : List ℕ) → 10 ≤ n → IsWritten (n / 10) text → IsWritten n (text ++ ((48 + n % 10) ∷ []))
digit-more n text large h =
    let last = one-digit (n % 10) (omega arith) in
    record {
      digits = all-append is_ascii_digit text ((48 + n % 10) ∷ []) h.digits last.digits;
      value = fold_push (λ (m b : ℕ). 10 * m + (b - 48)) 0 text (48 + n % 10) ∙ omega (arith, h.value);
      no_space = all-append (λ b. not (nat_eq b 32)) text ((48 + n % 10) ∷ []) h.no_space last.no_space;
      no_colon = all-append (λ b. not (nat_eq b 58)) text ((48 + n % 10) ∷ []) h.no_colon last.no_colon;
    }

decimal-is : (n : ℕ) → n < 2 ^ 64 → IsWritten n (decimal n)
decimal-is n fits = decimal_by_steps IsWritten one-digit digit-more n fits

pub number-read : (low high n : ℕ) → low ≤ n → n ≤ high → high < 10 ^ 5 → number_within low high (decimal n) ≡ Some n
number-read low high n above below few =
    let h = decimal-is n (omega (arith, below, few)) in
    let some : nat_le 1 (length (decimal n)) ≡ true = grind (arith, nat_tests, decimal_nonempty n (omega (arith, below, few))) in
    let short : nat_le (length (decimal n)) 5 ≡ true = grind (arith, nat_tests, length-decimal-le 5 n (omega arith) (omega (arith, below, few)) (omega (arith, below, few))) in
    let test = both _ _ (both _ _ some short) h.digits in
    let at-least : nat_le low n ≡ true = grind (arith, nat_tests, above) in
    let at-most : nat_le n high ≡ true = grind (arith, nat_tests, below) in
    let within = both _ _ at-least at-most in
    let read : short_number (decimal n) ≡ Some n = ap (λ b. cond b (Some (digits_value (decimal n))) None) test ∙ ap Some h.value in
    ap (if_within low high) read ∙ ap (λ b. cond b (Some n) None) within

-- ---- an endpoint

module _ (host port : List ℕ) (plain : Lacks 58 port) where
  colon : suffix_len (λ b. not (nat_eq b 58)) (host ++ 58 ∷ port) ≡ length port
  colon =
      let test : ℕ → Bool = λ b. not (nat_eq b 58) in
      let turned : reverse (host ++ 58 ∷ port) ≡ reverse port ++ 58 ∷ reverse host =
      reverse-append host (58 ∷ port) ∙ ap (λ (xs : List ℕ). xs ++ reverse host) (reverse-append (58 ∷ []) port) ∙ append_assoc (reverse port) (58 ∷ []) (reverse host) in
      ap (prefix_len test) turned ∙ passed test (reverse port) (58 ∷ reverse host) (all-reverse test port plain) ∙ omega (arith, length-reverse port)

  host-of : before_last (λ b. nat_eq b 58) (host ++ 58 ∷ port) ≡ host
  host-of = take_at host (58 ∷ port) (length (host ++ 58 ∷ port) - suffix_len (λ b. not (nat_eq b 58)) (host ++ 58 ∷ port) - 1)
      (omega (arith, colon, length-append host (58 ∷ port)))

  port-of : after_last (λ b. nat_eq b 58) (host ++ 58 ∷ port) ≡ port
  port-of =
      let n = length (host ++ 58 ∷ port) - suffix_len (λ b. not (nat_eq b 58)) (host ++ 58 ∷ port) in
      ap (drop n) (sym (append_assoc host (58 ∷ []) port))
      ∙ drop_at (host ++ 58 ∷ []) port n (omega (arith, colon, length-append host (58 ∷ port), length-append host (58 ∷ [])))

  is-there : list_any (λ b. nat_eq b 58) (host ++ 58 ∷ port) ≡ true
  is-there = list_any-append (λ b. nat_eq b 58) host (58 ∷ port) ∙ go (list_any (λ b. nat_eq b 58) host)
    where
      go : (b : Bool) → (b || true) ≡ true
      go true = refl
      go false = refl

pub endpoint-read : (at : Endpoint) → 0 < at.port → at.port < 2 ^ 16 → endpoint_in (at.host ++ 58 ∷ decimal at.port) ≡ Some at
endpoint-read at some fits =
    let plain = (decimal-is at.port (omega (arith, fits))).no_colon in
    let text : List ℕ = at.host ++ 58 ∷ decimal at.port in
    let host : List ℕ = before_last (λ b. nat_eq b 58) text in
    ap (λ (b : Bool). cond b (option_map (λ (port : ℕ). endpoint host port) (number_within 1 65535 (after_last (λ b. nat_eq b 58) text))) None) (is-there at.host (decimal at.port) plain)
    ∙ ap (λ (xs : List ℕ). option_map (λ (port : ℕ). endpoint host port) (number_within 1 65535 xs)) (port-of at.host (decimal at.port) plain)
    ∙ ap (option_map (λ (port : ℕ). endpoint host port)) (number-read 1 65535 at.port (omega (arith, some)) (omega (arith, fits)) (omega arith))
    ∙ ap (λ (xs : List ℕ). Some (endpoint xs at.port)) (host-of at.host (decimal at.port) plain)
  where
    endpoint : List ℕ → ℕ → Endpoint
    endpoint host port = record { host = host; port = port }

-- it is one word
pub endpoint-word : (at : Endpoint) → Lacks 32 at.host → 0 < at.port → at.port < 2 ^ 16 → endpoint_in (first_word (at.host ++ 58 ∷ decimal at.port)) ≡ Some at
endpoint-word at one some fits =
    let port-word = (decimal-is at.port (omega (arith, fits))).no_space in
    let text : List ℕ = at.host ++ 58 ∷ decimal at.port in
    ap endpoint_in (word-alone text (all-append (λ b. not (nat_eq b 32)) at.host (58 ∷ decimal at.port) one port-word)) ∙ endpoint-read at some fits

-- ---- the words behind the first

pub target-read : (slot : ℕ) (at : Endpoint) → slot < 16384 → Lacks 32 at.host → 0 < at.port → at.port < 2 ^ 16
    → target_in (decimal slot ++ 32 ∷ (at.host ++ 58 ∷ decimal at.port)) ≡ Some (record { slot = slot; endpoint = at })
target-read slot at small one some fits =
    let slot-word = (decimal-is slot (omega (arith, small))).no_space in
    let text : List ℕ = at.host ++ 58 ∷ decimal at.port in
    let words : List ℕ = decimal slot ++ 32 ∷ text in
    ap (λ (xs : List ℕ). target_at (number_within 0 16383 xs) (endpoint_in (first_word (other_words words)))) (first-of (decimal slot) text slot-word)
    ∙ ap (λ (o : Option ℕ). target_at o (endpoint_in (first_word (other_words words)))) (number-read 0 16383 slot (omega arith) (omega (arith, small)) (omega arith))
    ∙ ap (λ (xs : List ℕ). target_at (Some slot) (endpoint_in (first_word xs))) (others-of (decimal slot) text slot-word)
    ∙ ap (target_at (Some slot)) (endpoint-word at one some fits)
