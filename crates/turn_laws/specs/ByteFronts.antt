-- What a port has read and told is the front of what all bytes on their way say.
-- Lemmas for BytesStand.antt, which stand here since what a trait's ghost cites may not stand in proofs/.
use Rattle.std.proofs.Common.{◌≡◌, ◌<◌, ◌+◌, ℕ, List, [], ◌∷◌, ◌++◌, length, map, refl, sym, ap, ◌∙◌, subst, arith}
use Rattle.std.proofs.lemmas.List.{append-nil, append_assoc, length-append}
use Rattle.std.proofs.Common.{inl, inr}
use Rattle.resp_wire.specs.Data.{Data, simple, error, integer, bulk, null_bulk, array, null_array, items_of, list_of}
use Rattle.resp_wire.specs.LimitsModel.{LimitsModel}
use Rattle.resp_wire.specs.FirstValue.{front, Whole}
use Rattle.resp_wire.specs.Spelling.{BeginsLine, Spells}
use Rattle.resp_wire.proofs.FrontLaws.{front_is_whole}
use Rattle.resp_wire.specs.Seen.{data_of}
use Rattle.resp_wire.specs.declared.value.Value.{Value}
use Rattle.resp_wire.specs.declared.value.Value.TheVariants.{Simple, Error, Integer, Bulk, NullBulk, Array, NullArray}
use Rattle.resp_wire.proofs.KeepLaws.{front_keeps_value}
use Rattle.node_link.specs.declared.replies.Awaited.{Awaited}
use Rattle.node_link.specs.declared.replies.Awaited.TheVariants as awaited
use Rattle.node_link.specs.Blocks.{IsToldBy, Tells}
use Rattle.node_link.specs.Bytes.{Splits}
use Rattle.node_link.specs.Runs.{IsToldByBlock, IsToldByExec}
use Rattle.turn_laws.specs.ByteWires.{AreAnswers}

-- ---- lists

first-same : {X : Type 0} (x y : X) (xs ys : List X) → x ∷ xs ≡ y ∷ ys → x ≡ y
first-same x y xs ys e = cc

later-same : {X : Type 0} (x y : X) (xs ys : List X) → x ∷ xs ≡ y ∷ ys → xs ≡ ys
later-same x y xs ys e = cc

both-same : {X : Type 0} (x y : X) (xs ys : List X) → x ≡ y → xs ≡ ys → x ∷ xs ≡ y ∷ ys
both-same x y xs ys e f = cc

-- two cuts at one length are one
pub cut-same : {X : Type 0} (xs ys xs' ys' : List X) → length xs ≡ length xs' → xs ++ ys ≡ xs' ++ ys' → (xs ≡ xs') × (ys ≡ ys')
cut-same [] ys [] ys' l e = (refl, e)
cut-same [] ys (x ∷ xs') ys' l e = absurd (omega (arith, l))
cut-same (x ∷ xs) ys [] ys' l e = absurd (omega (arith, l))
cut-same (x ∷ xs) ys (y ∷ xs') ys' l e =
    let more = cut-same xs ys xs' ys' (omega (arith, l)) (later-same x y (xs ++ ys) (xs' ++ ys') e) in
    (both-same x y xs xs' (first-same x y (xs ++ ys) (xs' ++ ys') e) more.0, more.1)

nothing-first : {X : Type 0} (xs ys : List X) → xs ++ ys ≡ [] → xs ≡ []
nothing-first [] ys e = refl
nothing-first (x ∷ xs) ys e = absurd (omega (arith, ap length e))

nothing-behind : {X : Type 0} (xs ys : List X) → xs ++ ys ≡ [] → ys ≡ []
nothing-behind [] ys e = e
nothing-behind (x ∷ xs) ys e = absurd (omega (arith, ap length e))

-- ---- one value for one data

abbrev back : Data → Value
back (simple text) = Simple text
back (error text) = Error text
back (integer number) = Integer number
back (bulk bytes) = Bulk bytes
back null_bulk = NullBulk
back (array items) = Array (list_of items)
back null_array = NullArray

items-back : (ds : List Data) → list_of (items_of ds) ≡ ds
items-back [] = refl
items-back (d ∷ ds) = ap (λ es. d ∷ es) (items-back ds)

back-is : (v : Value) → back (data_of v) ≡ v
back-is (Simple text) = refl
back-is (Error text) = refl
back-is (Integer number) = refl
back-is (Bulk bytes) = refl
back-is NullBulk = refl
back-is (Array items) = ap Array (items-back items)
back-is NullArray = refl

pub one-value : (v w : Value) → data_of v ≡ data_of w → v ≡ w
one-value v w e = sym (back-is v) ∙ ap back e ∙ back-is w

one-list : (vs ws : List Value) → map data_of vs ≡ map data_of ws → vs ≡ ws
one-list [] [] e = refl
one-list [] (w ∷ ws) e = absurd (omega (arith, ap length e))
one-list (v ∷ vs) [] e = absurd (omega (arith, ap length e))
one-list (v ∷ vs) (w ∷ ws) e =
    both-same v w vs ws
    (one-value v w (first-same (data_of v) (data_of w) (map data_of vs) (map data_of ws) e))
    (one-list vs ws (later-same (data_of v) (data_of w) (map data_of vs) (map data_of ws) e))

-- ---- the values that bytes spell

no-line : {l : LimitsModel} {kind : ℕ} {text more : List ℕ} → BeginsLine l kind text [] more → ⊥
no-line {l} {kind} {text} {more} b = omega (arith, ap length b.are)

no-spelling : (l : LimitsModel) (room : ℕ) (d : Data) → Spells l room [] d → ⊥
no-spelling l room (simple text) s = no-line s
no-spelling l room (error text) s = no-line s
no-spelling l room (integer number) s = no-line s.2
no-spelling l room (bulk bytes) s = no-line s.3
no-spelling l room null_bulk s = no-line s
no-spelling l room (array items) s = no-line s.6
no-spelling l room null_array s = no-line s

nothing-whole : (bounds : LimitsModel) (d : Data) (more : List ℕ) → front bounds [] ≡ Whole d more → ⊥
nothing-whole bounds d more e =
    let begun = (front_is_whole bounds [] more d).0 e in
    no-spelling bounds bounds.depth d (subst (λ bytes. Spells bounds bounds.depth bytes d) (nothing-first begun.0 more (sym begun.2)) begun.1)

same-whole : (d e : Data) (xs ys : List ℕ) → Whole d xs ≡ Whole e ys → d ≡ e
same-whole d e xs ys same = cc

same-after : (d e : Data) (xs ys : List ℕ) → Whole d xs ≡ Whole e ys → xs ≡ ys
same-after d e xs ys same = cc

-- what the bytes begin with goes on beginning them, whatever comes behind
next-same : (bounds : LimitsModel) (bytes more after after' : List ℕ) (v w : Value) → front bounds bytes ≡ Whole (data_of v) after → front bounds (bytes ++ more) ≡ Whole (data_of w) after'
    → (w ≡ v) × (after' ≡ after ++ more)
next-same bounds bytes more after after' v w p q =
    let same = sym q ∙ front_keeps_value bounds bytes after more (data_of v) p in
    (one-value w v (same-whole (data_of w) (data_of v) after' (after ++ more) same), same-after (data_of w) (data_of v) after' (after ++ more) same)

-- values that the bytes spell so far are the first of those that they spell with what comes behind
pub split-front : (bounds : LimitsModel) (bytes more : List ℕ) (came coming : List Value) (rest : List ℕ) → Splits bounds bytes came rest → Splits bounds (bytes ++ more) coming []
    → (later : List Value) × (coming ≡ came ++ later) × Splits bounds (rest ++ more) later []
split-front bounds bytes more [] coming rest s all = (coming, refl, subst (λ b. Splits bounds (b ++ more) coming []) s all)
split-front bounds bytes more (v ∷ came) [] rest s all =
    absurd (nothing-whole bounds (data_of v) s.0 (subst (λ b. front bounds b ≡ Whole (data_of v) s.0) (nothing-first bytes more all) s.1))
split-front bounds bytes more (v ∷ came) (w ∷ coming) rest s all =
    let same = next-same bounds bytes more s.0 all.0 v w s.1 all.1 in
    let further = split-front bounds s.0 more came coming rest s.2 (subst (λ b. Splits bounds b coming []) same.1 all.2) in
    (further.0, both-same w v coming (came ++ further.0) same.0 further.1, further.2)

-- ---- the values that replies give

-- how many replies belong to what was sent
abbrev wanted : Awaited → ℕ
wanted awaited.Reply = 1
wanted (awaited.Block count) = count + 2

some-wanted : (first : Awaited) → 0 < wanted first
some-wanted awaited.Reply = omega arith
some-wanted (awaited.Block count) = omega arith

own-length : (first : Awaited) (own told : List Value) → IsToldBy first own told → length own ≡ wanted first
own-length awaited.Reply own told t = t.0
own-length (awaited.Block count) own told (begun, queued, exec, is, many, ok, each, by) = omega (arith, ap length is, length-append queued (exec ∷ []), many)

one-end : (queued : List Value) (exec : Value) (told told' : List Value) → IsToldByExec queued exec told → IsToldByExec queued exec told' → told ≡ told'
one-end queued (Array items) told told' t u = one-list told told' (t.0 ∙ sym u.0)
one-end queued (Error line) told told' t u = t ∙ sym u
one-end queued (Simple line) told told' t u = absurd t
one-end queued (Integer number) told told' t u = absurd t
one-end queued (Bulk bytes) told told' t u = absurd t
one-end queued NullBulk told told' t u = absurd t
one-end queued NullArray told told' t u = absurd t

block-parts : (begun begun' exec exec' : Value) (queued queued' : List Value) → length queued ≡ length queued' → begun ∷ (queued ++ exec ∷ []) ≡ begun' ∷ (queued' ++ exec' ∷ []) → (queued ≡ queued') × (exec ≡ exec')
block-parts begun begun' exec exec' queued queued' l e =
    let cut = cut-same queued (exec ∷ []) queued' (exec' ∷ []) l (later-same begun begun' (queued ++ exec ∷ []) (queued' ++ exec' ∷ []) e) in
    (cut.0, first-same exec exec' [] [] cut.1)

one-block : (count : ℕ) (own told told' : List Value) → IsToldByBlock count own told → IsToldByBlock count own told' → told ≡ told'
one-block count own told told' (b, q, x, is, many, ok, each, by) (b', q', x', is', many', ok', each', by') =
    let same = block-parts b b' x x' q q' (many ∙ sym many') (sym is ∙ is') in
    one-end q' x' told told' (subst (λ e. IsToldByExec q' e told) same.1 (subst (λ qs. IsToldByExec qs x told) same.0 by)) by'

one-told : (first : Awaited) (own told told' : List Value) → IsToldBy first own told → IsToldBy first own told' → told ≡ told'
one-told awaited.Reply own told told' t u = t.1 ∙ sym u.1
one-told (awaited.Block count) own told told' t u = one-block count own told told' t u

-- no reply gives no value
no-own : (first : Awaited) (own told more : List Value) → [] ≡ own ++ more → IsToldBy first own told → ⊥
no-own first own told more e t = omega (arith, some-wanted first, own-length first own told t, ap length (nothing-first own more (sym e)))

none-told : (pending : List Awaited) (given : List Value) (left : List Awaited) (rest : List Value) → Tells pending [] given left rest → (given ≡ []) × (left ≡ pending) × (rest ≡ [])
none-told [] given left rest t = (nothing-first given rest (sym t.1), t.0, nothing-behind given rest (sym t.1))
none-told (p ∷ ps) given left rest (inl t) = (t.0, t.1, t.2)
none-told (p ∷ ps) given left rest (inr (own, more, told, further, is, by, gives, last)) = absurd (no-own p own told more is by)

-- the same of what the replies to all that was served give: those that came give the first of it
abbrev pub Front : List Awaited → List Value → List Value → List Value → List Awaited → List Value → Type 0
Front pending B given given1 left rest =
    (served' : List Awaited) × (given' : List Value) × (left ≡ served' ++ pending) × (given ≡ given1 ++ given') × AreAnswers served' (rest ++ B) given'

front-of-none : (pending : List Awaited) (B given given1 : List Value) (left : List Awaited) (rest : List Value) → B ≡ [] → given ≡ [] → Tells pending [] given1 left rest → Front pending B given given1 left rest
front-of-none pending B given given1 left rest b g t =
    let none = none-told pending given1 left rest t in
    ([], [], none.1, g ∙ sym (append-nil given1 ∙ none.0), (ap (λ r. r ++ B) none.2 ∙ b, refl))

own-same : (first : Awaited) (own own1 more more1 B told told1 : List Value) → own ++ more ≡ (own1 ++ more1) ++ B → IsToldBy first own told → IsToldBy first own1 told1
    → (told ≡ told1) × (more ≡ more1 ++ B)
own-same first own own1 more more1 B told told1 e t u =
    let cut = cut-same own more own1 (more1 ++ B) (own-length first own told t ∙ sym (own-length first own1 told1 u)) (e ∙ append_assoc own1 more1 B) in
    (one-told first own1 told told1 (subst (λ o. IsToldBy first o told) cut.0 t) u, cut.1)

pub tells-front : (served pending : List Awaited) (A B given given1 : List Value) (left : List Awaited) (rest : List Value) → AreAnswers served (A ++ B) given → Tells (served ++ pending) A given1 left rest
    → Front pending B given given1 left rest
tells-front [] pending A B given given1 left rest ans t =
    front-of-none pending B given given1 left rest (nothing-behind A B ans.0) ans.1 (subst (λ a. Tells pending a given1 left rest) (nothing-first A B ans.0) t)
tells-front (s ∷ ss) pending A B given given1 left rest ans (inl t) =
    (s ∷ ss, given, t.1, ap (λ g. g ++ given) (sym t.0), subst (λ r. AreAnswers (s ∷ ss) (r ++ B) given) (sym t.2) ans)
tells-front (s ∷ ss) pending A B given given1 left rest (own, more, told, further, is, by, gives, last) (inr (own1, more1, told1, further1, is1, by1, gives1, last1)) =
    let same = own-same s own own1 more more1 B told told1 (sym is ∙ ap (λ a. a ++ B) is1) by by1 in
    let next = tells-front ss pending more1 B further further1 left rest (subst (λ m. AreAnswers ss m further) same.1 last) last1 in (
      next.0,
      next.1,
      next.2,
      gives ∙ ap (λ told. told ++ further) same.0 ∙ ap (λ f. told1 ++ f) next.3 ∙ sym (append_assoc told1 further1 next.1) ∙ ap (λ g. g ++ next.1) (sym gives1),
      next.4,
    )
