-- What is cut out of a line is one line.
use Rattle.std.proofs.Common.{◌≡◌, List, ℕ, Bool, true, false, ◌&&◌, take, drop, refl, ap, sym, ◌∙◌, Option, Some, None, [], cond}
use Rattle.std.specs.Prelude.{IsTrue, option_map, nat_eq, not, ◌==◌}
use Rattle.std.specs.List.{list_all, list_any, before_last, after_last}
use Rattle.std.proofs.lemmas.List.{take-append-drop}
use Rattle.std.proofs.lemmas.List.Folds.{list_all-append}
use Rattle.resp_wire.specs.Text.{is_one_line}
use Rattle.slot_map.specs.Table.{Endpoint}
use Rattle.node_link.specs.Line.{first_word, other_words, number_within, endpoint_in, target_in, target_at, Target}

both : (a b : Bool) → (a && b) ≡ true → (a ≡ true) × (b ≡ true)
both true true all = (refl, refl)
both true false all = absurd (cc)
both false b all = absurd (cc)

parts : (n : ℕ) (line : List ℕ) → IsTrue (is_one_line line) → IsTrue (is_one_line (take n line)) × IsTrue (is_one_line (drop n line))
parts n line all =
    both (is_one_line (take n line)) (is_one_line (drop n line))
    (sym (list_all-append (λ b. not (b == 13) && not (b == 10)) (take n line) (drop n line)) ∙ ap is_one_line (take-append-drop n line) ∙ all)

pub first_word_one_line : (line : List ℕ) → IsTrue (is_one_line line) → IsTrue (is_one_line (first_word line))
first_word_one_line line all = (parts _ line all).0

pub other_words_one_line : (line : List ℕ) → IsTrue (is_one_line line) → IsTrue (is_one_line (other_words line))
other_words_one_line line all = (parts _ line all).1

abbrev at_colon : Bool → Option ℕ → List ℕ → Option Endpoint
at_colon colon port host = cond {A = Option Endpoint} colon (option_map (λ port. record { host = host; port = port }) port) None

abbrev host_in : Option Endpoint → List ℕ
host_in None = []
host_in (Some at) = at.host

-- the host stands before the last colon
host_by : (colon : Bool) (port : Option ℕ) (host : List ℕ) (at : Endpoint) → at_colon colon port host ≡ Some at → at.host ≡ host
host_by true (Some port) host at is = sym (ap (λ (e : Option Endpoint). host_in e) is)
host_by true None host at is = absurd (cc)
host_by false port host at is = absurd (cc)

endpoint_one_line : (text : List ℕ) (at : Endpoint) → endpoint_in text ≡ Some at → IsTrue (is_one_line text) → IsTrue (is_one_line at.host)
endpoint_one_line text at is all =
    let before = before_last (λ b. nat_eq b 58) text in
    let same : at.host ≡ before = host_by (list_any (λ b. nat_eq b 58) text) (number_within 1 65535 (after_last (λ b. nat_eq b 58) text)) before at is in
    rw same (parts _ text all).0

endpoint_of_target : (slot : Option ℕ) (endpoint : Option Endpoint) (target : Target) → target_at slot endpoint ≡ Some target
    → endpoint ≡ Some target.endpoint
endpoint_of_target (Some slot) (Some at) target is = ap (λ (t : Option Target). option_map (λ (u : Target). u.endpoint) t) is
endpoint_of_target (Some slot) None target is = absurd (cc)
endpoint_of_target None endpoint target is = absurd (cc)

-- a redirection's host is a part of its line
pub target_one_line : (words : List ℕ) (target : Target) → target_in words ≡ Some target → IsTrue (is_one_line words)
    → IsTrue (is_one_line target.endpoint.host)
target_one_line words target is all =
    let text = first_word (other_words words) in
    endpoint_one_line text target.endpoint (endpoint_of_target (number_within 0 16383 (first_word words)) (endpoint_in text) target is)
    (first_word_one_line (other_words words) (other_words_one_line words all))
