-- A query that has no number of seconds.
use Rattle.std.proofs.Common.{◌≡◌, ◌∙◌, ◌+◌, [], ℕ, List, Bool, true, false, cond, None, length, refl, ap, arith, codes}
use Rattle.std.specs.Prelude.{bytes_eq}
use Rattle.std.specs.List.{after_first, before_first, position_or_len}
use Rattle.std.proofs.lemmas.List.{drop_all}
use Rattle.node_link.specs.Line.{number_within}
use Rattle.admin_page.specs.Answers.{is_equals, seconds_in, seconds_named}

none_behind : (query : List ℕ) → position_or_len is_equals query ≡ length query → after_first is_equals query ≡ []
none_behind query none = drop_all (position_or_len is_equals query + 1) query (omega (arith, none))

no_digits : (b : Bool) → cond b (number_within 0 65535 []) None ≡ None
no_digits true = refl
no_digits false = refl

pub unnamed : (query : List ℕ) → position_or_len is_equals query ≡ length query → seconds_in query ≡ None
unnamed query none = ap (seconds_named (before_first is_equals query)) (none_behind query none) ∙ no_digits (bytes_eq (before_first is_equals query) (codes "seconds"))
