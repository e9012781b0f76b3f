-- Entries in the order of their turns.
use Rattle.std.proofs.Common.{◌≡◌, ◌↔◌, ℕ, suc, ◌≤◌, Bool, true, false, cond, List, [], ◌∷◌, get_or, All, AllPairs, Option, Some, None, refl, sym, ap, ◌∙◌, subst, arith, IfSome}
use Rattle.std.proofs.lemmas.List.Elements.{All-cons, All-tail}
use Rattle.std.proofs.lemmas.List.Kept.{AllPairs-cons}
use Rattle.key_split.specs.declared.travel.Ticket.{Ticket}
use Rattle.key_split.specs.declared.travel.Ended.{Ended}
use Rattle.node_model.specs.History.{EntryModel}
use Rattle.cluster_world.specs.declared.places.Key.{Key}
use Rattle.cluster_world.specs.Index.{found, same_key, turn_key}
use Rattle.cluster_world.specs.Lawful.{MayPrecede, WasAnswered, ShareTurns}
use Rattle.cluster_world.proofs.Indexes.{key-self, same-key}

abbrev Latest : Type 0
Latest = List (Key × ℕ)

-- an entry that follows the noted one of its turn
abbrev Follows : List (Ticket × Ended) → Latest → EntryModel → Type 0
Follows ends latest e = WasAnswered ends e.ticket → IfSome (found latest (turn_key e)) (λ n. n ≤ e.ticket.part)

-- the entries are in turn, and follow those that were noted
abbrev pub GoOn : List (Ticket × Ended) → Latest → List EntryModel → Type 0
GoOn ends latest es = AllPairs (MayPrecede ends) es × All (Follows ends latest) es

module _ (ends : List (Ticket × Ended)) where
  pairs-tail : (e : EntryModel) (es : List EntryModel) → AllPairs (MayPrecede ends) (e ∷ es) → AllPairs (MayPrecede ends) es
  pairs-tail e es all i j d lt within = all (suc i) (suc j) d (omega (arith, lt)) (omega (arith, within))

  pairs-head : (e : EntryModel) (es : List EntryModel) → AllPairs (MayPrecede ends) (e ∷ es) → All (MayPrecede ends e) es
  pairs-head e es all k d within = all 0 (suc k) d (omega arith) (omega (arith, within))

  pub go-first : (es : List EntryModel) → AllPairs (MayPrecede ends) es ↔ GoOn ends [] es
  go-first es = (λ all. (all, λ k d lt answered. tt), λ on. on.0)

  -- one that was not answered
  pub go-over : (latest : Latest) (e : EntryModel) (es : List EntryModel) → (WasAnswered ends e.ticket → ⊥) → GoOn ends latest (e ∷ es) ↔ GoOn ends latest es
  go-over latest e es silent = (
    λ on. (pairs-tail e es on.0, All-tail (Follows ends latest) e es on.1),
    λ on. (AllPairs-cons (MayPrecede ends) e es (λ k d lt share mine. absurd (silent mine)) on.0, All-cons (Follows ends latest) e es (λ mine. absurd (silent mine)) on.1),
  )

  turn-shared : (a b : EntryModel) → ShareTurns a b → turn_key a ≡ turn_key b
  turn-shared a b s = λ i. record { worker = s.0 i; client = s.1 i; number = s.2 i }

  shared-turn : (a b : EntryModel) → turn_key a ≡ turn_key b → ShareTurns a b
  shared-turn a b e = (ap (λ k. k.worker) e, ap (λ k. k.client) e, ap (λ k. k.number) e)

  -- one that was, and follows
  module _ (old new : Latest) (e : EntryModel) (put : (key : Key) → found new key ≡ cond (same_key (turn_key e) key) (Some e.ticket.part) (found old key)) where
    after : (b : EntryModel) → (turn_key e ≡ turn_key b → WasAnswered ends b.ticket → e.ticket.part ≤ b.ticket.part) → Follows ends old b → Follows ends new b
    after b mine before answered = go (same_key (turn_key e) (turn_key b)) refl
      where
        go : (t : Bool) → same_key (turn_key e) (turn_key b) ≡ t → IfSome (found new (turn_key b)) (λ n. n ≤ b.ticket.part)
        go true s = subst (λ o. IfSome o (λ n. n ≤ b.ticket.part)) (sym (put (turn_key b) ∙ ap (λ t. cond t (Some e.ticket.part) (found old (turn_key b))) s)) (mine (same-key _ _ s) answered)
        go false s = subst (λ o. IfSome o (λ n. n ≤ b.ticket.part)) (sym (put (turn_key b) ∙ ap (λ t. cond t (Some e.ticket.part) (found old (turn_key b))) s)) (before answered)

    here : (b : EntryModel) → turn_key e ≡ turn_key b → found new (turn_key b) ≡ Some e.ticket.part
    here b same = put (turn_key b) ∙ ap (λ k. cond (same_key (turn_key e) k) (Some e.ticket.part) (found old (turn_key b))) (sym same) ∙ ap (λ t. cond t (Some e.ticket.part) (found old (turn_key b))) (key-self (turn_key e))

    at-least : (b : EntryModel) → Follows ends new b → WasAnswered ends b.ticket → turn_key e ≡ turn_key b → e.ticket.part ≤ b.ticket.part
    at-least b follows answered same = subst (λ o. IfSome o (λ n. n ≤ b.ticket.part)) (here b same) (follows answered)

    before : (b : EntryModel) → IfSome (found old (turn_key e)) (λ n. n ≤ e.ticket.part) → Follows ends new b → Follows ends old b
    before b ok follows answered = go (same_key (turn_key e) (turn_key b)) refl
      where
        at-most : (o : Option ℕ) → IfSome o (λ n. n ≤ e.ticket.part) → e.ticket.part ≤ b.ticket.part → IfSome o (λ n. n ≤ b.ticket.part)
        at-most None h le = h
        at-most (Some n) h le = omega (arith, h, le)

        go : (t : Bool) → same_key (turn_key e) (turn_key b) ≡ t → IfSome (found old (turn_key b)) (λ n. n ≤ b.ticket.part)
        go true s = let same : turn_key e ≡ turn_key b = same-key _ _ s in subst (λ k. IfSome (found old k) (λ n. n ≤ b.ticket.part)) same (at-most (found old (turn_key e)) ok (at-least b follows answered same))
        go false s = subst (λ o. IfSome o (λ n. n ≤ b.ticket.part)) (put (turn_key b) ∙ ap (λ t. cond t (Some e.ticket.part) (found old (turn_key b))) s) (follows answered)

    pub go-on : (es : List EntryModel) → WasAnswered ends e.ticket → IfSome (found old (turn_key e)) (λ n. n ≤ e.ticket.part) → GoOn ends old (e ∷ es) ↔ GoOn ends new es
    go-on es mine ok = (
      λ on. (pairs-tail e es on.0, λ k d lt. after (get_or es k d) (λ same later. pairs-head e es on.0 k d lt (shared-turn e (get_or es k d) same) mine later) (All-tail (Follows ends old) e es on.1 k d lt)),
      λ on. (
        AllPairs-cons (MayPrecede ends) e es (λ k d lt share _ answered. at-least (get_or es k d) (on.1 k d lt) answered (turn-shared e (get_or es k d) share)) on.0,
        All-cons (Follows ends old) e es (λ _. ok) (λ k d lt. before (get_or es k d) ok (on.1 k d lt)),
      ),
    )

  -- one that was, and does not follow
  pub go-no-further : (latest : Latest) (e : EntryModel) (es : List EntryModel) → WasAnswered ends e.ticket → (IfSome (found latest (turn_key e)) (λ n. n ≤ e.ticket.part) → ⊥) → GoOn ends latest (e ∷ es) → ⊥
  go-no-further latest e es mine apart on = apart (on.1 0 e (omega arith) mine)

  pub go-end : (latest : Latest) → GoOn ends latest []
  go-end latest = (λ i j d lt within. absurd (omega (arith, within)), λ k d within. absurd (omega (arith, within)))
