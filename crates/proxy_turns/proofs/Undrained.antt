-- A drain that wrote nothing changed nothing.
use Rattle.std.proofs.Common.{◌≡◌, ◌∙◌, ◌+◌, ◌++◌, ◌∷◌, [], ℕ, suc, true, false, List, Option, Some, None, Ok, refl, sym, ap, arith, drop, length}
use Rattle.std.specs.Prelude.{if◌then◌else◌, nat_le}
use Rattle.std.proofs.lemmas.Bool.Decides.{nat_tests}
use Rattle.resp_wire.specs.Data.{Data, simple, error, integer, bulk, null_bulk, array, null_array}
use Rattle.resp_wire.specs.Canonical.{canonical}
use Rattle.resp_wire.specs.Seen.{data_of}
use Rattle.resp_wire.specs.declared.value.Value.{Value}
use Rattle.key_split.specs.declared.travel.Ended.{Ended}
use Rattle.session_order.specs.declared.queue.PartStage.{PartStage}
use Rattle.session_order.specs.declared.replies.PendingReply.{PendingReply}
use Rattle.session_order.specs.declared.closing.Closing.{Closing}
use Rattle.session_order.specs.declared.closing.Closing.TheVariants.{Open, Quit, Faulted}
use Rattle.session_order.specs.SessionModel.{SessionModel}
use Rattle.session_order.specs.Replies.{DrainOutcome, bytes_of, drained, last_line, output, replied, replies, reply_of, said, spelling, without}
use Rattle.proxy_turns.specs.ClientTurn.{most_drained}

-- each value is spelled with bytes
spelled : (value : Data) (more : List ℕ) → canonical value ++ more ≡ [] → ⊥
spelled (simple text) more e = cc
spelled (error text) more e = cc
spelled (integer z) more e = cc
spelled (bulk body) more e = cc
spelled null_bulk more e = cc
spelled (array vs) more e = cc
spelled null_array more e = cc

wrote_none : (values : List Value) → bytes_of values ≡ [] → values ≡ []
unfolding spelling
wrote_none [] e = refl
wrote_none (value ∷ values) e = absurd (spelled (data_of value) (bytes_of values) e)

one_replied : (o : Option (Value × ℕ)) (F : Value × ℕ → List Value) (G : Value × ℕ → ℕ × ℕ) → ◌≡◌ {A = List Value} (elim o [ Some reply ↦ reply.0 ∷ F reply | None ↦ [] ]) [] → ◌≡◌ {A = ℕ × ℕ} (elim o [ Some reply ↦ G reply | None ↦ (0, 0) ]) (0, 0)
one_replied None F G e = refl
one_replied (Some reply) F G e = absurd (cc)

none_replied : (requests : List PendingReply) (stages : List PartStage) (ends : List Ended) (last : List Value) → replies requests stages ends last ≡ [] → replied requests stages ends ≡ (0, 0)
none_replied [] stages ends last e = refl
none_replied (owed ∷ rs) stages ends last e =
    one_replied (reply_of owed stages ends) (λ reply. replies rs (drop reply.1 stages) (drop reply.1 ends) last)
    (λ reply. (suc (replied rs (drop reply.1 stages) (drop reply.1 ends)).0, reply.1 + (replied rs (drop reply.1 stages) (drop reply.1 ends)).1)) e

said_none : (closing : Closing) → last_line closing ≡ [] → said closing ≡ closing
said_none Open e = refl
said_none Quit e = refl
said_none (Faulted why true) e = absurd (cc)
said_none (Faulted why false) e = refl

closing_same : (requests : List PendingReply) (stages : List PartStage) (ends : List Ended) (closing : Closing) → replies requests stages ends (last_line closing) ≡ []
    → (if nat_le (length requests) 0 then said closing else closing) ≡ closing
closing_same [] stages ends closing e = said_none closing e
closing_same (owed ∷ rs) stages ends closing e =
    let few : nat_le (suc (length rs)) 0 ≡ false = grind (arith, nat_tests) in ap (λ b. if b then said closing else closing) few

without_none : (held : SessionModel) → replies held.requests held.stages held.ends (last_line held.closing) ≡ [] → without held (0, 0) ≡ held
without_none held e = λ i. record held { first = add_zero held.first i; closing = closing_same held.requests held.stages held.ends held.closing e i }
  where
    add_zero : (n : ℕ) → n + 0 ≡ n
    add_zero n = omega arith

drained_none : (held : SessionModel) → output held ≡ [] → drained held ≡ held
drained_none held e =
    let none = wrote_none (replies held.requests held.stages held.ends (last_line held.closing)) e in
    ap (without held) (none_replied held.requests held.stages held.ends (last_line held.closing) none) ∙ without_none held none

pub append_none : (xs : List ℕ) → xs ++ [] ≡ xs
append_none [] = refl
append_none (x ∷ xs) = ap (λ l. x ∷ l) (append_none xs)

pub drained_by : (old new : SessionModel) (before after : List ℕ) (n : ℕ) → n ≡ 0 → DrainOutcome most_drained old before (Ok n) new after → (output old ≡ []) × (after ≡ before) × (new ≡ old)
drained_by old new before after n none (bytes, more, count, drains) =
    let empty : bytes ≡ [] = no_length bytes (sym none ∙ count) in
    let all = drains.all (omega (arith, sym none ∙ count)) in
    let nothing : output old ≡ [] = sym all.0 ∙ empty in
    (nothing, more ∙ ap (λ o. before ++ o) empty ∙ append_none before, all.1 ∙ drained_none old nothing)
  where
    no_length : (xs : List ℕ) → 0 ≡ length xs → xs ≡ []
    no_length [] e = refl
    no_length (x ∷ xs) e = absurd (omega (arith, e))
