use Rattle.std.proofs.Common.{◌≡◌, ◌∙◌, Bool, List, Option, Some, ap, cond, false, inl, inr, rules, sym, true, ℕ}
use Rattle.std.specs.Prelude.{codes}
use Rattle.std.specs.Str.{bytes_eq}
use Rattle.key_split.specs.declared.travel.Told.{Told}
use Rattle.key_split.specs.declared.travel.Told.TheVariants.{Ask, Moved}
use Rattle.slot_map.specs.Table.{Endpoint, WouldAdd, host_of}
use Rattle.node_link.specs.Line.{Target, first_word, other_words, target_in}
use Rattle.node_link.specs.Telling.{IsRedirection, NamesNewNode, endpoint_meant, redirected}
use Rattle.node_link.proofs.OneLine.{other_words_one_line}
use Rattle.node_link.proofs.told.refusal_in.Goals as goal

abbrev Telling : Type 0
Telling = Told × List Endpoint

by_moved : (moved : Bool) (m told : Telling) (other : Option Telling) → moved ≡ true → m ≡ told → cond moved (Some m) other ≡ Some told
by_moved true m told other is same = ap (λ (t : Telling). Some t) same
by_moved false m told other is same = absurd (cc)

by_ask : (moved ask : Bool) (m a told : Telling) (other : Option Telling) → moved ≡ false → ask ≡ true → a ≡ told → cond moved (Some m) (cond ask (Some a) other) ≡ Some told
by_ask false true m a told other is_not is same = ap (λ (t : Telling). Some t) same
by_ask true ask m a told other is_not is same = absurd (cc)
by_ask false false m a told other is_not is same = absurd (cc)

names_new : (line words asked_host : List ℕ) (old new : List Endpoint) → words ≡ other_words line → IsRedirection line
    → (named : Target) × (target_in words ≡ Some named) × WouldAdd old (endpoint_meant asked_host named.endpoint) × (new ≡ old)
    → NamesNewNode asked_host line old × (new ≡ old)
names_new line words asked_host old new is how wants = ((wants.0, ap target_in (sym is) ∙ wants.1, how, wants.2), wants.3)

pub redirected-requires-clause-one_line : goal.redirected-requires-clause-one_line
redirected-requires-clause-one_line c = rw c.split_word.ensures.others (other_words_one_line c.args.line.now c.requires.one_line)

pub redirected-requires-then-is_ask-clause-one_line : goal.redirected-requires-then-is_ask-clause-one_line
redirected-requires-then-is_ask-clause-one_line c = rw c.split_word.ensures.others (other_words_one_line c.args.line.now c.requires.one_line)

pub returns-in-Ok : goal.returns-in-Ok
returns-in-Ok c =
    let target = target_in (other_words c.args.line.now) in
    let moved : bytes_eq (first_word c.args.line.now) (codes "MOVED") ≡ true = search rules in
    by_moved (bytes_eq (first_word c.args.line.now) (codes "MOVED")) (redirected Moved (host_of c.args.table.now c.args.asked) target c.args.table.now)
    (c.in-Ok.told, c.redirected.new.table) _ moved (rw c.split_word.ensures.others at c.in-Ok.ensures)

pub returns-in-Err : goal.returns-in-Err
returns-in-Err c =
    let moved : bytes_eq (first_word c.args.line.now) (codes "MOVED") ≡ true = search rules in
    names_new c.args.line.now c.split_word.result.1.now (host_of c.args.table.now c.args.asked) c.args.table.now c.redirected.new.table
    c.split_word.ensures.others (inl moved) c.in-Err.ensures

pub returns-in-Ok-redirected : goal.returns-in-Ok-redirected
returns-in-Ok-redirected c =
    let target = target_in (other_words c.args.line.now) in
    let not_moved : bytes_eq (first_word c.args.line.now) (codes "MOVED") ≡ false = search rules in
    let ask : bytes_eq (first_word c.args.line.now) (codes "ASK") ≡ true = search rules in
    by_ask (bytes_eq (first_word c.args.line.now) (codes "MOVED")) (bytes_eq (first_word c.args.line.now) (codes "ASK")) _
    (redirected Ask (host_of c.args.table.now c.args.asked) target c.args.table.now) (c.in-Ok-redirected.told, c.redirected-then-is_ask.new.table) _
    not_moved ask (rw c.split_word.ensures.others at c.in-Ok-redirected.ensures)

pub returns-in-Err-redirected : goal.returns-in-Err-redirected
returns-in-Err-redirected c =
    let ask : bytes_eq (first_word c.args.line.now) (codes "ASK") ≡ true = search rules in
    names_new c.args.line.now c.split_word.result.1.now (host_of c.args.table.now c.args.asked) c.args.table.now c.redirected-then-is_ask.new.table
    c.split_word.ensures.others (inr ask) c.in-Err-redirected.ensures
