-- What a value tells that is read in the carrier's table is what it tells that is read in the whole list of the nodes: the table is a front
-- of it, before and after.
use Rattle.std.proofs.Common.{◌≡◌, ℕ, ◌+◌, ◌<◌, ◌≤◌, ◌==◌, ◌&&◌, Bool, true, false, List, [], ◌∷◌, ◌++◌, Option, Some, None, length, cond, refl, sym, ap, ◌∙◌, subst, arith, length-append, append_assoc}
use Rattle.std.specs.Prelude.{codes, position, nat_lt, slice_get}
use Rattle.std.specs.List.{position_from}
use Rattle.std.specs.Str.{bytes_eq}
use mathlib.Core.List.{IsPrefix}
use Rattle.std.proofs.lemmas.List.{append-nil}
use Rattle.std.proofs.lemmas.Slice.Eq.{bytes_eq-Decides}
use Rattle.std.proofs.lemmas.Bool.{eq-eqb}
use Rattle.std.proofs.lemmas.Bool.Decides.{nat_tests}
use Rattle.std.proofs.lemmas.Iterator.Adapters.{position_from-zero}
use Rattle.world_laws.proofs.Recorded.{before-last}
use Rattle.resp_wire.specs.declared.value.Value.{Value}
use Rattle.resp_wire.specs.declared.value.Value.TheVariants as value
use Rattle.key_split.specs.declared.travel.Told.{Told}
use Rattle.key_split.specs.declared.travel.Told.TheVariants.{Moved, Ask, TryAgain, ClusterDown}
use Rattle.slot_map.specs.Table.{Endpoint, numbered, numbered_at, same_endpoint, host_of}
use Rattle.slot_map.proofs.Checking.{host_of_more}
use Rattle.node_link.specs.Line.{Target, first_word, other_words, target_in}
use Rattle.node_link.specs.Telling.{sent_on, redirected, refusal_or_reply, told_by, endpoint_meant}

abbrev pub Telling : Type 0
Telling = Told × List Endpoint

abbrev pub says : Told → List Endpoint → Telling
says told table = (told, table)

-- what an error line says, by its first word
abbrev pub chosen : Bool → Bool → Bool → Bool → Telling → Telling → List Endpoint → Option Telling
chosen moved ask again down m a table =
    cond moved (Some m) (cond ask (Some a) (cond again (Some (says TryAgain table)) (cond down (Some (says ClusterDown table)) None)))

-- ---- places

same-self : (at : Endpoint) → same_endpoint at at ≡ true
same-self at = both (bytes_eq at.host at.host) (at.port == at.port)
    ((bytes_eq-Decides at.host at.host).1 refl)
    (eq-eqb at.port at.port refl)
  where
    both : (a b : Bool) → a ≡ true → b ≡ true → (a && b) ≡ true
    both a b e f = (λ i. e i && f i)

-- what is found in a front is found there in the whole
found-in-front : {X : Type 0} (p : X → Bool) (n : ℕ) (xs ys : List X) (k : ℕ) → position_from p n xs ≡ Some k → position_from p n (xs ++ ys) ≡ Some k
found-in-front p n [] ys k e = absurd (cc)
found-in-front {X} p n (x ∷ xs) ys k e = go (p x) (found-in-front p (n + 1) xs ys k) e
  where
    go : (b : Bool) → (position_from p (n + 1) xs ≡ Some k → position_from p (n + 1) (xs ++ ys) ≡ Some k)
        → cond b (Some n) (position_from p (n + 1) xs) ≡ Some k → cond b (Some n) (position_from p (n + 1) (xs ++ ys)) ≡ Some k
    go true later f = f
    go false later f = later f

-- what is not in a front, and is next, is found behind it
found-behind : {X : Type 0} (p : X → Bool) (n : ℕ) (xs ys : List X) (y : X) → position_from p n xs ≡ None → p y ≡ true → position_from p n (xs ++ y ∷ ys) ≡ Some (n + length xs)
found-behind p n [] ys y e here = ap (λ b. cond b (Some n) (position_from p (n + 1) ys)) here ∙ ap Some (omega arith)
found-behind {X} p n (x ∷ xs) ys y e here = go (p x) (λ f. found-behind p (n + 1) xs ys y f here) e
  where
    go : (b : Bool) → (position_from p (n + 1) xs ≡ None → position_from p (n + 1) (xs ++ y ∷ ys) ≡ Some (n + 1 + length xs))
        → cond b (Some n) (position_from p (n + 1) xs) ≡ None → cond b (Some n) (position_from p (n + 1) (xs ++ y ∷ ys)) ≡ Some (n + length (x ∷ xs))
    go true later f = absurd (cc)
    go false later f = later f ∙ ap Some (omega arith)

place-in-front : (p : Endpoint → Bool) (xs ys : List Endpoint) (k : ℕ) → position p xs ≡ Some k → position p (xs ++ ys) ≡ Some k
place-in-front p xs ys k e = position_from-zero p (xs ++ ys) ∙ found-in-front p 0 xs ys k (sym (position_from-zero p xs) ∙ e)

place-behind : (p : Endpoint → Bool) (xs ys : List Endpoint) (y : Endpoint) → position p xs ≡ None → p y ≡ true → position p (xs ++ y ∷ ys) ≡ Some (length xs)
place-behind p xs ys y e here = position_from-zero p (xs ++ y ∷ ys) ∙ found-behind p 0 xs ys y (sym (position_from-zero p xs) ∙ e) here ∙ ap Some (omega arith)

nothing-more : (xs ys : List Endpoint) → length (xs ++ ys) ≤ length xs → ys ≡ []
nothing-more xs [] short = refl
nothing-more xs (y ∷ ys) short = absurd (omega (arith, short, length-append xs (y ∷ ys)))

-- ---- redirections

module _ (how : ℕ → ℕ → Told) (slot : ℕ) (at : Endpoint) (table more : List Endpoint) (room : length (table ++ more) ≤ 64) (told : Told) (new : List Endpoint) (front : IsPrefix new (table ++ more)) where
  -- the table lacks it: it is the next node of the whole, or there is none
  when-new : (b : Bool) → nat_lt (length table) 64 ≡ b → position (same_endpoint at) table ≡ None
      → sent_on how slot (cond b (Some (record { table = table ++ at ∷ []; number = length table })) None) table ≡ says told new
      → (sent_on how slot (numbered (table ++ more) at) (table ++ more)).0 ≡ told
  when-new true fits none is =
      let whole : table ++ at ∷ front.0 ≡ table ++ more = sym (append_assoc table (at ∷ []) front.0) ∙ ap (λ (p : Telling). p.1 ++ front.0) is ∙ front.1 in
      let place : position (same_endpoint at) (table ++ more) ≡ Some (length table) = ap (position (same_endpoint at)) (sym whole) ∙ place-behind (same_endpoint at) table front.0 at none (same-self at) in
      ap (λ o. (sent_on how slot (numbered_at o (table ++ more) at) (table ++ more)).0) place ∙ ap (λ (p : Telling). p.0) is
  when-new false fits none is =
      let full : 64 ≤ length table = grind (arith, nat_tests, fits) in
      let nothing : more ≡ [] = nothing-more table more (omega (arith, room, full)) in
      let same : table ++ more ≡ table = ap (λ xs. table ++ xs) nothing ∙ append-nil table in
      ap (λ xs. (sent_on how slot (numbered xs at) xs).0) same
      ∙ ap (λ o. (sent_on how slot (numbered_at o table at) table).0) none
      ∙ ap (λ b. (sent_on how slot (cond b (Some (record { table = table ++ at ∷ []; number = length table })) None) table).0) fits
      ∙ ap (λ (p : Telling). p.0) is

  by-place : (o : Option ℕ) → position (same_endpoint at) table ≡ o → sent_on how slot (numbered_at o table at) table ≡ says told new
      → (sent_on how slot (numbered (table ++ more) at) (table ++ more)).0 ≡ told
  by-place (Some k) here is =
      ap (λ o. (sent_on how slot (numbered_at o (table ++ more) at) (table ++ more)).0) (place-in-front (same_endpoint at) table more k here) ∙ ap (λ (p : Telling). p.0) is
  by-place None here is = when-new (nat_lt (length table) 64) refl here is

module _ (table more : List Endpoint) (room : length (table ++ more) ≤ 64) (told : Told) (new : List Endpoint) (front : IsPrefix new (table ++ more)) where
  redirected-alike : (how : ℕ → ℕ → Told) (host : List ℕ) (target : Option Target) → redirected how host target table ≡ says told new → (redirected how host target (table ++ more)).0 ≡ told
  redirected-alike how host None is = ap (λ (p : Telling). p.0) is
  redirected-alike how host (Some target) is =
      let at = endpoint_meant host target.endpoint in
      by-place how target.slot at table more room told new front (position (same_endpoint at) table) refl is

  by-word : (moved ask again down : Bool) (m a m' a' : Telling) (said : Value) → (m ≡ says told new → m'.0 ≡ told) → (a ≡ says told new → a'.0 ≡ told)
      → refusal_or_reply said table (chosen moved ask again down m a table) ≡ says told new
      → (refusal_or_reply said (table ++ more) (chosen moved ask again down m' a' (table ++ more))).0 ≡ told
  by-word true ask again down m a m' a' said h-m h-a is = h-m is
  by-word false true again down m a m' a' said h-m h-a is = h-a is
  by-word false false true down m a m' a' said h-m h-a is = ap (λ (p : Telling). p.0) is
  by-word false false false true m a m' a' said h-m h-a is = ap (λ (p : Telling). p.0) is
  by-word false false false false m a m' a' said h-m h-a is = ap (λ (p : Telling). p.0) is

  told-front : (said : Value) (asked : ℕ) → asked < length table → told_by said asked table ≡ says told new → (told_by said asked (table ++ more)).0 ≡ told
  told-front (value.Error line) asked known is =
      subst (λ host. (refusal_or_reply (value.Error line) (table ++ more)
      (chosen (bytes_eq (first_word line) (codes "MOVED")) (bytes_eq (first_word line) (codes "ASK")) (bytes_eq (first_word line) (codes "TRYAGAIN")) (bytes_eq (first_word line) (codes "CLUSTERDOWN"))
      (redirected Moved host (target_in (other_words line)) (table ++ more)) (redirected Ask host (target_in (other_words line)) (table ++ more)) (table ++ more))).0 ≡ told)
      (sym (host_of_more table more asked known))
      (let host = host_of table asked in
      let target = target_in (other_words line) in
      by-word (bytes_eq (first_word line) (codes "MOVED")) (bytes_eq (first_word line) (codes "ASK")) (bytes_eq (first_word line) (codes "TRYAGAIN")) (bytes_eq (first_word line) (codes "CLUSTERDOWN"))
      (redirected Moved host target table) (redirected Ask host target table) (redirected Moved host target (table ++ more)) (redirected Ask host target (table ++ more)) (value.Error line)
      (redirected-alike Moved host target) (redirected-alike Ask host target) is)
  told-front (value.Simple line) asked known is = ap (λ (p : Telling). p.0) is
  told-front (value.Integer n) asked known is = ap (λ (p : Telling). p.0) is
  told-front (value.Bulk bytes) asked known is = ap (λ (p : Telling). p.0) is
  told-front value.NullBulk asked known is = ap (λ (p : Telling). p.0) is
  told-front (value.Array words) asked known is = ap (λ (p : Telling). p.0) is
  told-front value.NullArray asked known is = ap (λ (p : Telling). p.0) is

-- the table is a front of the whole, before and after
pub same-told : (all table new : List Endpoint) (said : Value) (asked : ℕ) (told : Told) → length all ≤ 64 → IsPrefix table all → IsPrefix new all → asked < length table
    → told_by said asked table ≡ (told, new) → (told_by said asked all).0 ≡ told
same-told all table new said asked told room front later known is =
    let whole : all ≡ table ++ front.0 = sym front.1 in
    ap (λ xs. (told_by said asked xs).0) whole
    ∙ told-front table front.0 (subst (λ (xs : List Endpoint). length xs ≤ 64) whole room) told new (subst (IsPrefix new) whole later) said asked known is

-- what stands in a front stands there in the whole
pub front-get : {X : Type 0} (xs all : List X) (i : ℕ) (x : X) → IsPrefix xs all → slice_get xs i ≡ Some x → slice_get all i ≡ Some x
front-get xs all i x front at = subst (λ ys. slice_get ys i ≡ Some x) front.1 (before-last xs front.0 i x at)
