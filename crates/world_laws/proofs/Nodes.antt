-- What the nodes' steps leave, as the world needs it.
use Rattle.std.proofs.Common.{◌≡◌, ◌≢◌, ◌⊎◌, inl, inr, ℕ, zero, suc, ◌<◌, List, [], ◌∷◌, length, Some, None, Option, refl, sym, ap, ◌∙◌, arith}
use Rattle.std.specs.Prelude.{slice_set, slice_index_or}
use Rattle.std.specs.FinMap.{empty, get, get-empty}
use Rattle.std.specs.Ordering.{nat_cmp}
use Rattle.std.specs.Cmp.Lexicographic.{slice_cmp}
use Rattle.resp_wire.specs.Data.{Data, Items, simple, error, integer, bulk, null_bulk, array, null_array, no_items, item, items_of, list_of}
use Rattle.resp_wire.specs.Seen.{data_of}
use Rattle.resp_wire.specs.declared.value.Value.{Value}
use Rattle.resp_wire.specs.declared.value.Value.TheVariants as value
use Rattle.key_split.specs.PartModel.{PartModel}
use Rattle.key_split.specs.declared.travel.Told.{Told}
use Rattle.key_split.specs.declared.travel.Told.TheVariants.{Reply, Moved, Ask, TryAgain, ClusterDown, Unclear, Unsent}
use Rattle.node_model.specs.Store.{StoreModel, put, store_after, reply_to}
use Rattle.node_model.specs.Standings.{SlotStandingModel}
use Rattle.node_model.specs.Nodes.{ClusterModel, standing_at, store_at, at, with_standing, with_store, with_key}
use Rattle.node_model.specs.Serving.{NodeDoes, IsReply}
use Rattle.node_model.specs.declared.role.Deed.{Deed}
use Rattle.node_model.specs.declared.role.Deed.TheVariants.{Executes, Says}
use Rattle.node_model.specs.Runs.{DoesRun, AreReplies, AllTold, store_after_all}
use Rattle.world_laws.specs.World.{IsNode}
use Rattle.node_model.proofs.Keys.{get-put-same, get-put-other}

-- a value is its data

value_of : Data → Value
value_of (simple t) = value.Simple t
value_of (error t) = value.Error t
value_of (integer n) = value.Integer n
value_of (bulk b) = value.Bulk b
value_of null_bulk = value.NullBulk
value_of (array ds) = value.Array (list_of ds)
value_of null_array = value.NullArray

listed : (ds : List Data) → list_of (items_of ds) ≡ ds
listed [] = refl
listed (d ∷ ds) = ap (λ es. d ∷ es) (listed ds)

valued : (v : Value) → value_of (data_of v) ≡ v
unfolding value_of
valued (value.Simple t) = refl
valued (value.Error t) = refl
valued (value.Integer n) = refl
valued (value.Bulk b) = refl
valued value.NullBulk = refl
valued (value.Array ds) = ap value.Array (listed ds)
valued value.NullArray = refl

pub data_same : (v u : Value) → data_of v ≡ data_of u → v ≡ u
data_same v u e = sym (valued v) ∙ ap value_of e ∙ valued u

-- lists that are written at a place

pub set-pick : {X : Type 0} (P : X → Type 0) (xs : List X) (i k : ℕ) (y d : X) → (i ≡ k → P y) → P (slice_index_or xs k d) → P (slice_index_or (slice_set xs i y) k d)
set-pick P [] i k y d f g = g
set-pick P (x ∷ xs) zero zero y d f g = f refl
set-pick P (x ∷ xs) zero (suc k) y d f g = g
set-pick P (x ∷ xs) (suc i) zero y d f g = g
set-pick P (x ∷ xs) (suc i) (suc k) y d f g = set-pick P xs i k y d (λ e. f (ap suc e)) g

set-at : {X : Type 0} (xs : List X) (i : ℕ) (y d : X) → i < length xs → slice_index_or (slice_set xs i y) i d ≡ y
set-at [] i y d lt = absurd (omega arith)
set-at (x ∷ xs) zero y d lt = refl
set-at (x ∷ xs) (suc i) y d lt = set-at xs i y d (omega arith)

pub set-size : {X : Type 0} (xs : List X) (i : ℕ) (y : X) → length (slice_set xs i y) ≡ length xs
set-size [] i y = refl
set-size (x ∷ xs) zero y = refl
set-size (x ∷ xs) (suc i) y = omega (arith, set-size xs i y)

-- the nodes' slots

pub pick-slot : (P : SlotStandingModel → Type 0) (k : ClusterModel) (slot : ℕ) (s' : SlotStandingModel) (q : ℕ) → (slot ≡ q → P s') → P (standing_at k q) → P (standing_at (with_standing k slot s') q)
pick-slot P k slot s' q new old = set-pick P k.slots slot q s' _ new old

-- the nodes' stores

pub store-hit : (k : ClusterModel) (n : ℕ) (st : StoreModel) → IsNode k n → store_at (with_store k n st) n ≡ st
store-hit k n st lt = set-at k.stores n st empty lt

pub store-other : (k : ClusterModel) (n : ℕ) (st : StoreModel) (m : ℕ) → m ≢ n → store_at (with_store k n st) m ≡ store_at k m
store-other k n st m ne = set-pick (λ x. x ≡ store_at k m) k.stores n m st empty (λ e. absurd (ne (sym e))) refl

pub with_key-hit : (k : ClusterModel) (n : ℕ) (key : List ℕ) (v : Option (List ℕ)) → IsNode k n → at (with_key k n key v) n key ≡ v
with_key-hit k n key v lt = ap (λ st. get st key) (store-hit k n (put (store_at k n) key v) lt) ∙ get-put-same (store_at k n) key v

pub with_key-node : (k : ClusterModel) (n : ℕ) (key : List ℕ) (v : Option (List ℕ)) (m : ℕ) (q : List ℕ) → m ≢ n → at (with_key k n key v) m q ≡ at k m q
with_key-node k n key v m q ne = ap (λ st. get st q) (store-other k n (put (store_at k n) key v) m ne)

pub with_key-key : (k : ClusterModel) (n : ℕ) (key : List ℕ) (v : Option (List ℕ)) (m : ℕ) (q : List ℕ) → key ≢ q → at (with_key k n key v) m q ≡ at k m q
with_key-key k n key v m q ne =
    set-pick (λ st. get st q ≡ at k m q) k.stores n m (put (store_at k n) key v) empty (λ e. get-put-other (store_at k n) key v q ne ∙ ap (λ j. at k j q) e) refl

-- who holds a key is a node
pub holder : (k : ClusterModel) (n : ℕ) (key value : List ℕ) → at k n key ≡ Some value → IsNode k n
holder k n key value e = go k.stores n e
  where
    go : (xs : List StoreModel) (n : ℕ) → get (slice_index_or xs n empty) key ≡ Some value → n < length xs
    go [] n e = let nothing : StoreModel = empty in let none : get nothing key ≡ None = get-empty (slice_cmp nat_cmp) key in absurd (cc)
    go (x ∷ xs) zero e = omega arith
    go (x ∷ xs) (suc n) e = omega (arith, go xs n e)

pub size-with_store : (k : ClusterModel) (n : ℕ) (st : StoreModel) → length (with_store k n st).stores ≡ length k.stores
size-with_store k n st = set-size k.stores n st

-- how a node serves: it executes the command, or says what it is told

abbrev pub Executed : ClusterModel → ℕ → PartModel → Told → ClusterModel → Type 0
Executed k node part told k' =
    (reply : Value) × (told ≡ Reply reply) × (data_of reply ≡ reply_to (store_at k node) part) × (k' ≡ with_store k node (store_after (store_at k node) part))

replies-so : (told : Told) (d : Data) → IsReply told d → (reply : Value) × (told ≡ Reply reply) × (data_of reply ≡ d)
replies-so (Reply value) d h = (value, refl, h)
replies-so (Moved slot node) d h = absurd h
replies-so (Ask slot node) d h = absurd h
replies-so TryAgain d h = absurd h
replies-so ClusterDown d h = absurd h
replies-so Unclear d h = absurd h
replies-so Told.Lost d h = absurd h
replies-so Unsent d h = absurd h

pub serves : (k k' : ClusterModel) (node : ℕ) (part : PartModel) (deed : Deed) (told : Told) → NodeDoes deed k node part told k'
    → ((deed ≡ Executes) × Executed k node part told k') ⊎ ((deed ≡ Says told) × (k' ≡ k))
serves k k' node part Executes told x = let r = replies-so told (reply_to (store_at k node) part) x.0 in inl (refl, (r.0, r.1, r.2, x.1))
serves k k' node part (Says said) told x = inr (ap Says (sym x.0), x.1)

pub serves_same : (k a b : ClusterModel) (node : ℕ) (part : PartModel) (deed : Deed) (t u : Told) → NodeDoes deed k node part t a → NodeDoes deed k node part u b → (t ≡ u) × (a ≡ b)
serves_same k a b node part Executes t u x y =
    let r = replies-so t (reply_to (store_at k node) part) x.0 in
    let q = replies-so u (reply_to (store_at k node) part) y.0 in
    (r.1 ∙ ap Reply (data_same r.0 q.0 (r.2 ∙ sym q.2)) ∙ sym q.1, x.1 ∙ sym y.1)
serves_same k a b node part (Says said) t u x y = (x.0 ∙ sym y.0, x.1 ∙ sym y.1)

pub serves-size : (k k' : ClusterModel) (node : ℕ) (part : PartModel) (deed : Deed) (told : Told) → NodeDoes deed k node part told k' → length k'.stores ≡ length k.stores
serves-size k k' node part Executes told x = ap (λ (c : ClusterModel). length c.stores) x.1 ∙ size-with_store k node _
serves-size k k' node part (Says said) told x = ap (λ (c : ClusterModel). length c.stores) x.1

pub serves-slots : (k k' : ClusterModel) (node : ℕ) (part : PartModel) (deed : Deed) (told : Told) → NodeDoes deed k node part told k' → k'.slots ≡ k.slots
serves-slots k k' node part Executes told x = ap (λ (c : ClusterModel). c.slots) x.1
serves-slots k k' node part (Says said) told x = ap (λ (c : ClusterModel). c.slots) x.1

-- and it always can
value-back : (d : Data) → data_of (value_of d) ≡ d
unfolding value_of
value-back (simple t) = refl
value-back (error t) = refl
value-back (integer n) = refl
value-back (bulk b) = refl
value-back null_bulk = refl
value-back (array ds) = ap array (items ds)
  where
    items : (ds : Items) → items_of (list_of ds) ≡ ds
    items no_items = refl
    items (item d ds) = ap (item d) (items ds)
value-back null_array = refl

pub outcome : (k : ClusterModel) (node : ℕ) (part : PartModel) (deed : Deed) → (told : Told) × (k' : ClusterModel) × NodeDoes deed k node part told k'
outcome k node part Executes = (Reply (value_of (reply_to (store_at k node) part)), with_store k node (store_after (store_at k node) part), (value-back (reply_to (store_at k node) part), refl))
outcome k node part (Says told) = (told, k, (refl, refl))

-- how a node serves a run: it executes all of it, or says the same to each

abbrev pub ExecutedAll : ClusterModel → ℕ → List PartModel → List Told → ClusterModel → Type 0
ExecutedAll k node cs tolds k' = AreReplies (store_at k node) cs tolds × (k' ≡ with_store k node (store_after_all (store_at k node) cs))

abbrev pub SaidAll : Deed → ClusterModel → List PartModel → List Told → ClusterModel → Type 0
SaidAll deed k cs tolds k' = (said : Told) × (deed ≡ Says said) × AllTold said cs tolds × (k' ≡ k)

pub runs : (k k' : ClusterModel) (node : ℕ) (cs : List PartModel) (tolds : List Told) (deed : Deed) → DoesRun deed k node cs tolds k' → ((deed ≡ Executes) × ExecutedAll k node cs tolds k') ⊎ SaidAll deed k cs tolds k'
runs k k' node cs tolds Executes x = inl (refl, x)
runs k k' node cs tolds (Says said) x = inr (said, refl, x.0, x.1)

pub reply-is : (told : Told) (d : Data) → IsReply told d → (reply : Value) × (told ≡ Reply reply) × (data_of reply ≡ d)
reply-is told d h = replies-so told d h

replies_same : (store : StoreModel) (cs : List PartModel) (ts us : List Told) → AreReplies store cs ts → AreReplies store cs us → ts ≡ us
replies_same store [] [] [] x y = refl
replies_same store [] [] (u ∷ us) x y = absurd y
replies_same store [] (t ∷ ts) us x y = absurd x
replies_same store (c ∷ cs) [] us x y = absurd x
replies_same store (c ∷ cs) (t ∷ ts) [] x y = absurd y
replies_same store (c ∷ cs) (t ∷ ts) (u ∷ us) x y =
    let r = replies-so t (reply_to store c) x.0 in
    let q = replies-so u (reply_to store c) y.0 in
    let first : t ≡ u = r.1 ∙ ap Reply (data_same r.0 q.0 (r.2 ∙ sym q.2)) ∙ sym q.1 in
    let rest : ts ≡ us = replies_same (store_after store c) cs ts us x.1 y.1 in
    λ i. first i ∷ rest i

told_same : (said : Told) (cs : List PartModel) (ts us : List Told) → AllTold said cs ts → AllTold said cs us → ts ≡ us
told_same said [] [] [] x y = refl
told_same said [] [] (u ∷ us) x y = absurd y
told_same said [] (t ∷ ts) us x y = absurd x
told_same said (c ∷ cs) [] us x y = absurd x
told_same said (c ∷ cs) (t ∷ ts) [] x y = absurd y
told_same said (c ∷ cs) (t ∷ ts) (u ∷ us) x y =
    let first : t ≡ u = x.0 ∙ sym y.0 in
    let rest : ts ≡ us = told_same said cs ts us x.1 y.1 in
    λ i. first i ∷ rest i

pub runs_same : (k a b : ClusterModel) (node : ℕ) (cs : List PartModel) (deed : Deed) (ts us : List Told) → DoesRun deed k node cs ts a → DoesRun deed k node cs us b → (ts ≡ us) × (a ≡ b)
runs_same k a b node cs Executes ts us x y = (replies_same (store_at k node) cs ts us x.0 y.0, x.1 ∙ sym y.1)
runs_same k a b node cs (Says said) ts us x y = (told_same said cs ts us x.0 y.0, x.1 ∙ sym y.1)

pub runs-size : (k k' : ClusterModel) (node : ℕ) (cs : List PartModel) (deed : Deed) (tolds : List Told) → DoesRun deed k node cs tolds k' → length k'.stores ≡ length k.stores
runs-size k k' node cs Executes tolds x = ap (λ (c : ClusterModel). length c.stores) x.1 ∙ size-with_store k node _
runs-size k k' node cs (Says said) tolds x = ap (λ (c : ClusterModel). length c.stores) x.1

pub runs-slots : (k k' : ClusterModel) (node : ℕ) (cs : List PartModel) (deed : Deed) (tolds : List Told) → DoesRun deed k node cs tolds k' → k'.slots ≡ k.slots
runs-slots k k' node cs Executes tolds x = ap (λ (c : ClusterModel). c.slots) x.1
runs-slots k k' node cs (Says said) tolds x = ap (λ (c : ClusterModel). c.slots) x.1

-- and it always can
pub reply-for : (d : Data) → (told : Told) × IsReply told d
reply-for d = (Reply (value_of d), value-back d)
