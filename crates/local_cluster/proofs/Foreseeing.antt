-- A reply that was foreseen is the reply.
use Rattle.std.proofs.Common.{◌≡◌, ◌≢◌, ◌⊎◌, inl, inr, ⊎_elim, ℕ, zero, suc, Bool, true, false, ◌&&◌, List, [], ◌∷◌, map, Some, None, Option, Ok, refl, sym, ap, ◌∙◌, subst}
use Rattle.std.specs.Prelude.{slice_index_or, slice_set}
use Rattle.std.specs.FinMap.{empty, get, get-empty}
use Rattle.std.specs.Ordering.{nat_cmp}
use Rattle.std.specs.Cmp.Lexicographic.{slice_cmp}
use Rattle.std.specs.List.{list_all}
use Rattle.std.specs.Str.{bytes_eq}
use Rattle.resp_wire.specs.Data.{Data, array, items_of, list_of}
use Rattle.resp_wire.specs.Seen.{data_of}
use Rattle.resp_wire.specs.declared.value.Value.{Value}
use Rattle.resp_wire.specs.declared.value.Value.TheVariants as value
use Rattle.slot_hash.specs.Slot.{slot_of}
use Rattle.key_split.specs.Groups.{alone}
use Rattle.key_split.specs.PartModel.{PartModel, Pair, keys_of, pairs_in}
use Rattle.key_split.specs.declared.travel.Told.{Told}
use Rattle.key_split.specs.declared.travel.Told.TheVariants.{Reply, Moved, Ask, TryAgain, ClusterDown, Unclear, Unsent}
use Rattle.node_model.specs.Store.{StoreModel, bulk_of, put, reply_to}
use Rattle.node_model.specs.Nodes.{ClusterModel, role_of, store_at, with_store}
use Rattle.node_model.specs.Serving.{Serves, deed_at, deed_of, has_one_key, held_of}
use Rattle.node_model.specs.Laws.{Among, MGetReads}
use Rattle.node_model.specs.declared.role.Deed.TheVariants.{Executes, Says}
use Rattle.node_model.specs.declared.role.Verdict.TheVariants.{Plain}
use Rattle.local_cluster.specs.Foresight.{reading, put_read, laid, items_in, items_told, foreseen, IsCopy, IsForeseen}
use Rattle.world_laws.proofs.Nodes.{Executed, serves}
use Rattle.local_cluster.proofs.Served.{serves-plain}
use Rattle.local_cluster.proofs.Serving.{no-reply-said}
use Rattle.node_model.proofs.Keys.{get-put-same, get-put-other, key_tells}
use Rattle.world_laws.proofs.Stores.{answer-alike}

-- one store's keys, laid into another

abbrev Below : StoreModel → StoreModel → Type 0
Below s st = (q : List ℕ) → (get s q ≡ None) ⊎ (get s q ≡ get st q)

abbrev found-in : StoreModel → List Pair → List Data
found-in st ps = map (λ p. bulk_of (get st p.0)) ps

put-below : (s st : StoreModel) (key : List ℕ) → Below s st → Below (put_read s key (bulk_of (get st key))) st × (get (put_read s key (bulk_of (get st key))) key ≡ get st key) × ((q : List ℕ) → get s q ≡ get st q → get (put_read s key (bulk_of (get st key))) q ≡ get st q)
put-below s st key below = go (get st key) refl
  where
    go : (o : Option (List ℕ)) → get st key ≡ o → Below (put_read s key (bulk_of o)) st × (get (put_read s key (bulk_of o)) key ≡ get st key) × ((q : List ℕ) → get s q ≡ get st q → get (put_read s key (bulk_of o)) q ≡ get st q)
    go None e = (below, ⊎_elim (λ (x : get s key ≡ None). x ∙ sym e) (λ (x : get s key ≡ get st key). x) (below key), λ q h. h)
    go (Some v) e =
        let here : get (put s key (Some v)) key ≡ get st key = get-put-same s key (Some v) ∙ sym e in
        let kept = λ (q : List ℕ). λ (h : get s q ≡ get st q).
        ⊎_elim (λ (x : (bytes_eq key q ≡ true) × (key ≡ q)). subst (λ z. get (put s key (Some v)) z ≡ get st z) x.1 here)
        (λ (x : (bytes_eq key q ≡ false) × (key ≢ q)). get-put-other s key (Some v) q x.1 ∙ h) (key_tells key q) in (
          λ q. ⊎_elim (λ (x : (bytes_eq key q ≡ true) × (key ≡ q)). inr (subst (λ z. get (put s key (Some v)) z ≡ get st z) x.1 here))
              (λ (x : (bytes_eq key q ≡ false) × (key ≢ q)). ⊎_elim (λ (y : get s q ≡ None). inl (get-put-other s key (Some v) q x.1 ∙ y)) (λ (y : get s q ≡ get st q). inr (get-put-other s key (Some v) q x.1 ∙ y)) (below q)) (key_tells key q),
          here,
          kept,
        )

laid-agrees : (st : StoreModel) (ps : List Pair) (s : StoreModel) → Below s st → (q : List ℕ) → Among q (map (λ pair. pair.0) ps) ⊎ (get s q ≡ get st q) → get (laid s ps (found-in st ps)) q ≡ get st q
laid-agrees st [] s below q (inl x) = absurd x
laid-agrees st [] s below q (inr e) = e
laid-agrees st (p ∷ ps) s below q (inl (inl e)) = let w = put-below s st p.0 below in laid-agrees st ps (put_read s p.0 (bulk_of (get st p.0))) w.0 q (inr (subst (λ z. get (put_read s p.0 (bulk_of (get st p.0))) z ≡ get st z) e w.1))
laid-agrees st (p ∷ ps) s below q (inl (inr x)) = let w = put-below s st p.0 below in laid-agrees st ps (put_read s p.0 (bulk_of (get st p.0))) w.0 q (inl x)
laid-agrees st (p ∷ ps) s below q (inr e) = let w = put-below s st p.0 below in laid-agrees st ps (put_read s p.0 (bulk_of (get st p.0))) w.0 q (inr (w.2 q e))

-- what reading finds

keys-found : (st : StoreModel) (ps : List Pair) → map (λ key. bulk_of (get st key)) (map (λ pair. pair.0) ps) ≡ found-in st ps
keys-found st [] = refl
keys-found st (p ∷ ps) = ap (λ ds. bulk_of (get st p.0) ∷ ds) (keys-found st ps)

pub foreseen-is : (st : StoreModel) (c : PartModel) → foreseen c (map (λ key. bulk_of (get st key)) (keys_of c)) ≡ reply_to st c
foreseen-is st c =
    let nothing : StoreModel = empty in
    let below : Below nothing st = λ q. inl (get-empty (slice_cmp nat_cmp) q) in
    ap (foreseen c) (keys-found st (pairs_in c)) ∙ (answer-alike (laid nothing (pairs_in c) (found-in st (pairs_in c))) st c (λ q x. laid-agrees st (pairs_in c) nothing below q (inl x))).0

set-itself : (xs : List StoreModel) (i : ℕ) → slice_set xs i (slice_index_or xs i empty) ≡ xs
set-itself [] i = refl
set-itself (x ∷ xs) zero = refl
set-itself (x ∷ xs) (suc i) = ap (λ ys. x ∷ ys) (set-itself xs i)

with-its-store : (k : ClusterModel) (node : ℕ) → with_store k node (store_at k node) ≡ k
with-its-store k node = λ i. record { slots = k.slots; stores = set-itself k.stores node i }

list_of-items_of : (ds : List Data) → list_of (items_of ds) ≡ ds
list_of-items_of [] = refl
list_of-items_of (d ∷ ds) = ap (λ es. d ∷ es) (list_of-items_of ds)

items-of-array : (v : Value) (ds : List Data) → data_of v ≡ array (items_of ds) → items_in v ≡ Some ds
items-of-array (value.Simple t) ds e = absurd (cc)
items-of-array (value.Error t) ds e = absurd (cc)
items-of-array (value.Integer z) ds e = absurd (cc)
items-of-array (value.Bulk b) ds e = absurd (cc)
items-of-array value.NullBulk ds e = absurd (cc)
items-of-array (value.Array es) ds e = let same : items_of es ≡ items_of ds = cc in ap Some (sym (list_of-items_of es) ∙ ap list_of same ∙ list_of-items_of ds)
items-of-array value.NullArray ds e = absurd (cc)

-- the keys of the command that reads them
read-keys : (keys : List (List ℕ)) → map (λ (pair : Pair). pair.0) (alone keys) ≡ keys
read-keys [] = refl
read-keys (key ∷ keys) = ap (λ ks. key ∷ ks) (read-keys keys)

same-keys : (c : PartModel) → keys_of (reading c) ≡ keys_of c
same-keys c = read-keys (keys_of c)

same-ones : (key : List ℕ) (ps : List Pair) → list_all (λ pair. bytes_eq pair.0 key) (alone (map (λ pair. pair.0) ps)) ≡ list_all (λ pair. bytes_eq pair.0 key) ps
same-ones key [] = refl
same-ones key (p ∷ ps) = ap (λ b. bytes_eq p.0 key && b) (same-ones key ps)

-- a node does the same with it
same-deed : (k : ClusterModel) (node : ℕ) (asking : Bool) (c : PartModel) → deed_at k node asking (reading c) Plain ≡ deed_at k node asking c Plain
same-deed k node asking c =
    let role = role_of k node (slot_of c.key) in
    ap (λ keys. deed_of Plain role asking (held_of (store_at k node) keys) (has_one_key (reading c)) (slot_of c.key)) (same-keys c)
    ∙ ap (λ one. deed_of Plain role asking (held_of (store_at k node) (keys_of c)) one (slot_of c.key)) (same-ones c.key c.rest)

-- reading the keys finds what the node holds, where the node would execute the command, and leaves the nodes
pub read-first : MGetReads → (k k' : ClusterModel) (node : ℕ) (asking : Bool) (c : PartModel) (found : Told) → Serves k node asking (reading c) Plain (Ok found) k'
    → (k' ≡ k) × (((deed_at k node asking c Plain ≡ Executes) × (items_told found ≡ Some (map (λ key. bulk_of (get (store_at k node) key)) (keys_of c)))) ⊎ ((deed_at k node asking c Plain ≡ Executes) → ⊥))
read-first reads k k' node asking c found s = ⊎_elim
    (λ (x : (deed_at k node asking (reading c) Plain ≡ Executes) × Executed k node (reading c) found k').
    let read = reads (store_at k node) (reading c) refl in (
      x.1.3 ∙ ap (with_store k node) read.1 ∙ with-its-store k node,
      inl (
        sym (same-deed k node asking c) ∙ x.0,
        ap items_told x.1.1 ∙ items-of-array x.1.0 (map (λ key. bulk_of (get (store_at k node) key)) (keys_of c))
            (x.1.2 ∙ read.0 ∙ ap (λ keys. array (items_of (map (λ key. bulk_of (get (store_at k node) key)) keys))) (same-keys c)),
      ),
    ))
    (λ (x : (deed_at k node asking (reading c) Plain ≡ Says found) × (k' ≡ k)). (x.1, inr (λ e. (let bad : Says found ≡ Executes = sym x.0 ∙ same-deed k node asking c ∙ e in absurd (cc)))))
    (serves k k' node (reading c) (deed_at k node asking (reading c) Plain) found (serves-plain k k' node asking (reading c) found s).1)

-- the copy is the reply
pub copy-is : MGetReads → (k k1 k' : ClusterModel) (node : ℕ) (asking : Bool) (c : PartModel) (found told : Told) (copy : Option Value) → Serves k node asking (reading c) Plain (Ok found) k1
    → IsForeseen c (items_told found) copy → Serves k node asking c Plain (Ok told) k' → IsCopy told copy
copy-is reads k k1 k' node asking c found told copy read seen s = ⊎_elim
    (λ (x : (deed_at k node asking c Plain ≡ Executes) × Executed k node c told k').
    ⊎_elim
    (λ (y : (deed_at k node asking c Plain ≡ Executes) × (items_told found ≡ Some (map (λ key. bulk_of (get (store_at k node) key)) (keys_of c)))).
    subst (λ t. IsCopy t copy) (sym x.1.1) (replied x.1.0 x.1.2 copy (subst (λ o. IsForeseen c o copy) y.1 seen)))
    (λ (y : (deed_at k node asking c Plain ≡ Executes) → ⊥). absurd (y x.0))
    (read-first reads k k1 node asking c found read).1)
    (λ (x : (deed_at k node asking c Plain ≡ Says told) × (k' ≡ k)). said told copy (no-reply-said k node asking c told x.0))
    (serves k k' node c (deed_at k node asking c Plain) told (serves-plain k k' node asking c told s).1)
  where
    replied : (v : Value) → data_of v ≡ reply_to (store_at k node) c → (o : Option Value) → IsForeseen c (Some (map (λ key. bulk_of (get (store_at k node) key)) (keys_of c))) o → IsCopy (Reply v) o
    replied v is None h = h
    replied v is (Some u) h = h ∙ foreseen-is (store_at k node) c ∙ sym is

    said : (told : Told) (o : Option Value) → ((v : Value) → told ≡ Reply v → ⊥) → IsCopy told o
    said (Reply v) o never = absurd (never v refl)
    said (Moved slot node) o never = tt
    said (Ask slot node) o never = tt
    said TryAgain o never = tt
    said ClusterDown o never = tt
    said Unclear o never = tt
    said Told.Lost o never = tt
    said Unsent o never = tt
