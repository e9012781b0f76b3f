-- Serving keeps the data, the history and the ASKs.
use Rattle.std.proofs.Common.{◌≡◌, ◌≢◌, ◌⊎◌, inl, inr, ⊎_elim, ℕ, ◌+◌, ◌==◌, ◌&&◌, ◌||◌, Bool, true, false, cond, List, [], ◌∷◌, ◌++◌, length, filter, None, Option, refl, sym, ap, ◌∙◌, subst, arith}
use Rattle.std.specs.Prelude.{All, if◌then◌else◌, is_some}
use Rattle.std.specs.List.{list_any}
use Rattle.std.proofs.lemmas.Bool.Decides.{eqb_tells}
use Rattle.std.proofs.lemmas.List.Elements.{All-cons, All-head, All-tail, All-push}
use Rattle.std.specs.Cmp.{first_so, second_so}
use Rattle.std.specs.FinMap.{empty, get}
use Rattle.slot_hash.specs.Slot.{slot_of}
use Rattle.resp_wire.specs.declared.value.Value.{Value}
use Rattle.key_split.specs.PartModel.{PartModel, HasOneSlot, keys_of}
use Rattle.key_split.specs.Same.{same_part, same_part-Decides, same_ticket}
use Rattle.key_split.specs.declared.travel.Batch.{Batch}
use Rattle.key_split.specs.declared.travel.Told.{Told}
use Rattle.key_split.specs.declared.travel.Told.TheVariants.{Reply, Moved, Ask, TryAgain, ClusterDown, Unclear, Unsent}
use Rattle.node_model.specs.Store.{StoreModel, store_after, reply_to}
use Rattle.node_model.specs.History.{EntryModel, IsLegal, left_by}
use Rattle.node_model.specs.Standings.{SlotStandingModel}
use Rattle.node_model.specs.Nodes.{ClusterModel, standing_at, store_at, at, with_store}
use Rattle.node_model.specs.Serving.{deed_at, by_role, held_of, has_one_key, NodeDoes}
use Rattle.node_model.specs.declared.standing.Phase.{Phase}
use Rattle.node_model.specs.declared.standing.Phase.TheVariants.{Settled, Imported, Migrated, Owned, Released, Forgotten}
use Rattle.node_model.specs.declared.role.Role.{Role}
use Rattle.node_model.specs.declared.role.Role.TheVariants.{Owner, Migrating, Importing, Away}
use Rattle.node_model.specs.declared.role.Deed.TheVariants.{Executes, Says}
use Rattle.node_model.specs.declared.role.KeysHeld.{KeysHeld}
use Rattle.node_model.specs.declared.role.KeysHeld.TheVariants.{AllHeld, SomeHeld, NoneHeld}
use Rattle.node_model.specs.declared.role.Verdict.TheVariants.{Plain}
use Rattle.world_laws.specs.State.{slot_for}
use Rattle.world_laws.specs.World.{IsNode}
use Rattle.node_model.specs.Laws.{Among, Agree}
use Rattle.local_cluster.specs.declared.asked.Asked.{Asked}
use Rattle.local_cluster.specs.Local.{LocalStateModel, is_ask_for, counts_as_asking, asks_of_others, asks_after, history_after}
use Rattle.world_laws.specs.Homes.{home, home_in, is_bad, IsHome}
use Rattle.local_cluster.specs.Kept.{slot_here, BadAsk, IsGood, IsKept}
use Rattle.world_laws.proofs.Histories.{legal-append, left_by-append, is_reply, role-no_reply}
use Rattle.world_laws.proofs.Homes.{bad-back, bad-says, exec-home, executes-home, home-same, if_says}
use Rattle.world_laws.proofs.Nodes.{Executed, serves, store-hit, store-other, size-with_store}
use Rattle.node_model.proofs.Keys.{among}
use Rattle.world_laws.proofs.Stores.{all-among, after-other, answer-alike, all-held, none-held}

-- what a node says is no reply
pub no-reply-said : (k : ClusterModel) (node : ℕ) (asking : Bool) (c : PartModel) (told : Told) → deed_at k node asking c Plain ≡ Says told → (v : Value) → told ≡ Reply v → ⊥
no-reply-said k node asking c told e v is =
    let none : is_reply told ≡ 0 = ap (if_says is_reply) (sym e) ∙ role-no_reply _ asking _ _ _ in
    let one : is_reply told ≡ 1 = ap is_reply is in
    absurd (omega (arith, none, one))

recorded-none : (history : List EntryModel) (b : Batch) (told : Told) → is_reply told ≡ 0 → history_after history b told ≡ history
recorded-none history b (Reply value) e = absurd (omega (arith, e))
recorded-none history b (Moved slot node) e = refl
recorded-none history b (Ask slot node) e = refl
recorded-none history b TryAgain e = refl
recorded-none history b ClusterDown e = refl
recorded-none history b Unclear e = refl
recorded-none history b Told.Lost e = refl
recorded-none history b Unsent e = refl

recorded-says : (k : ClusterModel) (history : List EntryModel) (b : Batch) (asking : Bool) (told : Told) → deed_at k b.node asking b.part Plain ≡ Says told → history_after history b told ≡ history
recorded-says k history b asking told e = recorded-none history b told (ap (if_says is_reply) (sym e) ∙ role-no_reply _ asking _ _ _)

-- the ASKs that are left

All-filter : {X : Type 0} (P : X → Type 0) (test : X → Bool) (xs : List X) → All P xs → All P (filter test xs)
All-filter P test [] all = all
All-filter P test (x ∷ xs) all = go (test x) (All-filter P test xs (All-tail P x xs all))
  where
    go : (b : Bool) → All P (filter test xs) → All P (cond b (x ∷ filter test xs) (filter test xs))
    go true rest = All-cons P x (filter test xs) (All-head P x xs all) rest
    go false rest = rest

pub all-of : {X : Type 0} (P Q : X → Type 0) (xs : List X) → ((x : X) → P x → Q x) → All P xs → All Q xs
all-of P Q xs f h k d lt = f _ (h k d lt)

-- what a test finds
any-so : {X : Type 0} (P : X → Type 0) (test : X → Bool) (xs : List X) → All P xs → list_any test xs ≡ true → (x : X) × P x × (test x ≡ true)
any-so P test [] all e = absurd (cc)
any-so {X} P test (x ∷ xs) all e = go (test x) refl e (any-so P test xs (All-tail P x xs all))
  where
    go : (b : Bool) → test x ≡ b → (b || list_any test xs) ≡ true → (list_any test xs ≡ true → (y : X) × P y × (test y ≡ true)) → (y : X) × P y × (test y ≡ true)
    go true is e rest = (x, All-head P x xs all, is)
    go false is e rest = rest e

-- a request that counts as asking follows an ASK that is kept
followed : (s : LocalStateModel) (b : Batch) → All (IsGood s.nodes) s.asks → counts_as_asking s b ≡ true → IsGood s.nodes (record { ticket = b.ticket; part = b.part; node = b.node })
followed s b all e =
    let some = any-so (IsGood s.nodes) (is_ask_for b) s.asks all (second_so b.asking (list_any (is_ask_for b) s.asks) e) in
    let two = first_so (same_ticket some.0.ticket b.ticket && same_part some.0.part b.part) (some.0.node == b.node) some.2 in
    let part : some.0.part ≡ b.part = (same_part-Decides some.0.part b.part).0 (second_so (same_ticket some.0.ticket b.ticket) (same_part some.0.part b.part) two) in
    let node : some.0.node ≡ b.node = go (some.0.node == b.node) (second_so (same_ticket some.0.ticket b.ticket && same_part some.0.part b.part) (some.0.node == b.node) some.2) (eqb_tells some.0.node b.node) in
    subst (λ (x : PartModel × ℕ). IsGood s.nodes (record { ticket = b.ticket; part = x.0; node = x.1 })) (λ i. (part i, node i)) some.1
  where
    go : {m n : ℕ} (t : Bool) → t ≡ true → ((t ≡ true) × (m ≡ n)) ⊎ ((t ≡ false) × (m ≢ n)) → m ≡ n
    go t e (inl y) = y.1
    go t e (inr y) = absurd (cc)

-- those of others, and perhaps one more
kept-asks : (k' : ClusterModel) (b : Batch) (told : Told) (asks : List Asked) → All (IsGood k') asks → ((slot node : ℕ) → told ≡ Ask slot node → IsGood k' (record { ticket = b.ticket; part = b.part; node = node })) → All (IsGood k') (asks_after asks b told)
kept-asks k' b (Reply value) asks all new = All-filter (IsGood k') _ asks all
kept-asks k' b (Moved slot node) asks all new = All-filter (IsGood k') _ asks all
kept-asks k' b (Ask slot node) asks all new = All-push (IsGood k') (asks_of_others b.ticket asks) _ (All-filter (IsGood k') _ asks all) (new slot node refl)
kept-asks k' b TryAgain asks all new = All-filter (IsGood k') _ asks all
kept-asks k' b ClusterDown asks all new = All-filter (IsGood k') _ asks all
kept-asks k' b Unclear asks all new = All-filter (IsGood k') _ asks all
kept-asks k' b Told.Lost asks all new = All-filter (IsGood k') _ asks all
kept-asks k' b Unsent asks all new = All-filter (IsGood k') _ asks all

abbrev asked_to : ℕ → Told → ℕ
asked_to n (Ask slot m) = if m == n then 1 else 0
asked_to n (Reply value) = 0
asked_to n (Moved slot m) = 0
asked_to n TryAgain = 0
asked_to n ClusterDown = 0
asked_to n Unclear = 0
asked_to n Told.Lost = 0
asked_to n Unsent = 0

module _ (s : LocalStateModel) (b : Batch) (told : Told) (k' : ClusterModel) (kept : IsKept s) (one_slot : HasOneSlot b.part) (is-node : IsNode s.nodes b.node)
    (does : NodeDoes (deed_at s.nodes b.node (counts_as_asking s b) b.part Plain) s.nodes b.node b.part told k') where
  says-kept : deed_at s.nodes b.node (counts_as_asking s b) b.part Plain ≡ Says told → k' ≡ s.nodes → IsKept (record { nodes = k'; history = history_after s.history b told; asks = asks_after s.asks b told })
  says-kept e same = subst (λ (x : ClusterModel × List EntryModel). IsKept (record { nodes = x.0; history = x.1; asks = asks_after s.asks b told }))
      (λ i. (sym same i, sym (recorded-says s.nodes s.history b (counts_as_asking s b) told e) i))
      (record {
        apart = kept.apart;
        targets = kept.targets;
        homes = kept.homes;
        legal = kept.legal;
        asked = kept-asks s.nodes b told s.asks kept.asked (λ slot node is. (one_slot, λ bad to. good slot node is bad to));
      })
    where
      good : (slot node : ℕ) → told ≡ Ask slot node → BadAsk s.nodes b.part → (slot_here s.nodes b.part).target ≡ node → ⊥
      good slot node is bad to =
          let none : if_says (asked_to node) (deed_at s.nodes b.node (counts_as_asking s b) b.part Plain) ≡ 0 =
          bad-says (slot_here s.nodes b.part) (λ m. at s.nodes m bad.0) None (held_of (store_at s.nodes b.node) (keys_of b.part)) (has_one_key b.part) (slot_for b.part)
          (asked_to node) Plain b.node (counts_as_asking s b) (none-held (store_at s.nodes b.node) (keys_of b.part) bad.0 bad.1) (λ _ _. refl) refl refl bad.2 in
          let zero-told : asked_to node (Ask slot node) ≡ 0 = ap (asked_to node) (sym is) ∙ ap (if_says (asked_to node)) (sym e) ∙ none in
          itself (node == node) zero-told (eqb_tells node node)
        where
          itself : {n : ℕ} (t : Bool) → ◌≡◌ {A = ℕ} (if t then 1 else 0) 0 → ((t ≡ true) × (n ≡ n)) ⊎ ((t ≡ false) × (n ≢ n)) → ⊥
          itself true z y = absurd (omega (arith, z))
          itself false z (inl y) = absurd (cc)
          itself false z (inr y) = y.1 refl

  executes-kept : deed_at s.nodes b.node (counts_as_asking s b) b.part Plain ≡ Executes → Executed s.nodes b.node b.part told k' → IsKept (record { nodes = k'; history = history_after s.history b told; asks = asks_after s.asks b told })
  executes-kept e did = subst (λ (x : ClusterModel × List EntryModel). IsKept (record { nodes = x.0; history = x.1; asks = asks_after s.asks b told })) (λ i. (sym did.3 i, sym is-h i)) (record {
    apart = kept.apart;
    targets = λ slot moving. (let more : length k1.stores ≡ length s.nodes.stores = size-with_store s.nodes b.node (store_after (store_at s.nodes b.node) b.part) in omega (arith, more, kept.targets slot moving));
    homes = homes-after;
    legal = legal-append empty s.history entry kept.legal (sym (answer-alike (left_by empty s.history) st b.part agree).0);
    asked = kept-asks k1 b told s.asks (all-of (IsGood s.nodes) (IsGood k1) s.asks (λ a good. (good.0, λ bad. good.1 (back a.part good.0 bad))) kept.asked) (λ slot node is. absurd (no-ask slot node (sym did.1 ∙ is)));
  })
    where
      st : StoreModel
      st = store_at s.nodes b.node

      k1 : ClusterModel
      k1 = with_store s.nodes b.node (store_after (store_at s.nodes b.node) b.part)

      entry : EntryModel
      entry = record { ticket = b.ticket; part = b.part; reply = reply_to (store_at s.nodes b.node) b.part; moment = length s.history + 1 }

      sl : SlotStandingModel
      sl = slot_here s.nodes b.part

      no-ask : (slot node : ℕ) → Reply did.0 ≡ Ask slot node → ⊥
      no-ask slot node x = absurd (cc)

      is-h : history_after s.history b told ≡ s.history ++ entry ∷ []
      is-h = ap (history_after s.history b) did.1 ∙ (λ i. s.history ++ record { ticket = b.ticket; part = b.part; reply = did.2 i; moment = length s.history + 1 } ∷ [])

      -- the slot of each of its keys
      slot-is : (q : List ℕ) → Among q (keys_of b.part) → slot_of q ≡ slot_for b.part
      slot-is q x = all-among (λ q. slot_of q ≡ slot_for b.part) (keys_of b.part) q one_slot x

      -- an ASK that this request followed is good
      good : (q : List ℕ) → Among q (keys_of b.part) → counts_as_asking s b ≡ true → b.node ≡ sl.target → is_bad sl.phase (is_some (at s.nodes sl.source q)) ≡ false
      good q k a t = go (is_bad sl.phase (is_some (at s.nodes sl.source q))) refl
        where
          go : (c : Bool) → is_bad sl.phase (is_some (at s.nodes sl.source q)) ≡ c → is_bad sl.phase (is_some (at s.nodes sl.source q)) ≡ false
          go false x = x
          go true x = absurd ((followed s b kept.asked a).1 (q, k, x) (sym t))

      was-home : (q : List ℕ) → Among q (keys_of b.part) → IsHome sl (λ m. at s.nodes m q) (get (left_by empty s.history) q)
      was-home q x = subst (λ z. IsHome (standing_at s.nodes z) (λ m. at s.nodes m q) (get (left_by empty s.history) q)) (slot-is q x) (kept.homes q)

      -- the node that executes is the home of each of the keys
      at_home : (q : List ℕ) → Among q (keys_of b.part) → b.node ≡ home_in sl (λ m. at s.nodes m q)
      at_home q x = executes-home sl (λ m. at s.nodes m q) (get (left_by empty s.history) q) (held_of (store_at s.nodes b.node) (keys_of b.part)) (has_one_key b.part) (slot_for b.part)
          Plain b.node (counts_as_asking s b) (all-held (store_at s.nodes b.node) (keys_of b.part) q x) (was-home q x) (kept.apart (slot_for b.part)) (good q x) e

      -- so the store that the history leaves holds there what the node holds
      agree : Agree (keys_of b.part) (left_by empty s.history) st
      agree q x = (was-home q x).holds ∙ ap (λ m. at s.nodes m q) (sym (at_home q x))

      miss : (q : List ℕ) (m : ℕ) → m ≢ b.node → at k1 m q ≡ at s.nodes m q
      miss q m ne = ap (λ z. get z q) (store-other s.nodes b.node (store_after st b.part) m ne)

      hit : (q : List ℕ) → at k1 b.node q ≡ get (store_after st b.part) q
      hit q = ap (λ z. get z q) (store-hit s.nodes b.node (store_after st b.part) is-node)

      other : (q : List ℕ) → (Among q (keys_of b.part) → ⊥) → (m : ℕ) → at k1 m q ≡ at s.nodes m q
      other q away m = ⊎_elim
          (λ (x : ((m == b.node) ≡ true) × (m ≡ b.node)). ap (λ j. at k1 j q) x.1 ∙ hit q ∙ after-other st b.part q away ∙ ap (λ j. at s.nodes j q) (sym x.1))
          (λ (x : ((m == b.node) ≡ false) × (m ≢ b.node)). miss q m x.1)
          (eqb_tells m b.node)

      back : (part : PartModel) → HasOneSlot part → BadAsk k1 part → BadAsk s.nodes part
      back part one bad = (bad.0, bad.1, key bad.0 bad.1 bad.2 (among bad.0 (keys_of b.part)))
        where
          key : (q : List ℕ) → Among q (keys_of part) → is_bad (slot_here k1 part).phase (is_some (at k1 (slot_here k1 part).source q)) ≡ true → Among q (keys_of b.part) ⊎ (Among q (keys_of b.part) → ⊥)
              → is_bad (slot_here s.nodes part).phase (is_some (at s.nodes (slot_here s.nodes part).source q)) ≡ true
          key q x bad (inl y) =
              let same : slot_here s.nodes part ≡ sl = ap (standing_at s.nodes) (sym (all-among (λ q. slot_of q ≡ slot_for part) (keys_of part) q one x) ∙ slot-is q y) in
              subst (λ (z : SlotStandingModel). is_bad z.phase (is_some (at s.nodes z.source q)) ≡ true) (sym same)
              (bad-back sl (λ m. at s.nodes m q) (λ m. at k1 m q) b.node (kept.apart (slot_for b.part)) (at_home q y) (miss q)
              (subst (λ (z : SlotStandingModel). is_bad z.phase (is_some (at k1 z.source q)) ≡ true) same bad))
          key q x bad (inr away) = subst (λ o. is_bad (slot_here s.nodes part).phase (is_some o) ≡ true) (other q away (slot_here s.nodes part).source) bad

      store : (q : List ℕ) → get (left_by empty (s.history ++ entry ∷ [])) q ≡ get (store_after (left_by empty s.history) b.part) q
      store q = ap (λ z. get z q) (left_by-append empty s.history entry)

      homes-after : (q : List ℕ) → IsHome (standing_at k1 (slot_of q)) (λ m. at k1 m q) (get (left_by empty (s.history ++ entry ∷ [])) q)
      homes-after q = go (among q (keys_of b.part))
        where
          go : Among q (keys_of b.part) ⊎ (Among q (keys_of b.part) → ⊥) → IsHome (standing_at k1 (slot_of q)) (λ m. at k1 m q) (get (left_by empty (s.history ++ entry ∷ [])) q)
          go (inl x) =
              let value : get (left_by empty (s.history ++ entry ∷ [])) q ≡ get (store_after st b.part) q = store q ∙ (answer-alike (left_by empty s.history) st b.part agree).1 q x in
              subst (λ (z : ℕ × Option (List ℕ)). IsHome (standing_at s.nodes z.0) (λ m. at k1 m q) z.1) (λ i. (sym (slot-is q x) i, sym value i))
              (exec-home sl (λ m. at s.nodes m q) (λ m. at k1 m q) (get (left_by empty s.history) q) (kept.apart (slot_for b.part)) (get (store_after st b.part) q) b.node (at_home q x) (hit q) (miss q) (was-home q x))
          go (inr away) = subst (IsHome (standing_at s.nodes (slot_of q)) (λ m. at k1 m q)) (sym (store q ∙ after-other (left_by empty s.history) b.part q away))
              (home-same (standing_at s.nodes (slot_of q)) (λ m. at s.nodes m q) (λ m. at k1 m q) (get (left_by empty s.history) q) (other q away) (kept.homes q))

  pub serve-kept : IsKept (record { nodes = k'; history = history_after s.history b told; asks = asks_after s.asks b told })
  serve-kept = ⊎_elim
      (λ (x : (deed_at s.nodes b.node (counts_as_asking s b) b.part Plain ≡ Executes) × Executed s.nodes b.node b.part told k'). executes-kept x.0 x.1)
      (λ (x : (deed_at s.nodes b.node (counts_as_asking s b) b.part Plain ≡ Says told) × (k' ≡ s.nodes)). says-kept x.0 x.1)
      (serves s.nodes k' b.node b.part (deed_at s.nodes b.node (counts_as_asking s b) b.part Plain) told does)
