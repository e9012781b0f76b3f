-- A run of others keeps each key's home, and the history stays legal.
use Rattle.std.proofs.Common.{◌≡◌, ◌≢◌, ◌⊎◌, inl, inr, ⊎_elim, ℕ, suc, ◌==◌, Bool, true, false, List, [], ◌∷◌, ◌++◌, Option, refl, sym, ap, ◌∙◌, subst}
use Rattle.std.specs.Prelude.{All, is_some}
use Rattle.std.proofs.lemmas.Bool.Decides.{eqb_tells}
use Rattle.std.specs.FinMap.{get}
use Rattle.slot_hash.specs.Slot.{slot_of}
use Rattle.key_split.specs.PartModel.{HasOneSlot, keys_of}
use Rattle.node_model.specs.History.{EntryModel, IsLegal, left_by}
use Rattle.node_model.specs.Laws.{Among, Agree}
use Rattle.node_model.specs.Nodes.{ClusterModel, at, standing_at, store_at, with_store}
use Rattle.node_model.specs.Runs.{deed_for, first_key, have_one_key, keys_in}
use Rattle.node_model.specs.Serving.{held_of}
use Rattle.node_model.specs.Standings.{SlotStandingModel}
use Rattle.node_model.specs.Store.{StoreModel, store_after, reply_to}
use Rattle.node_model.specs.declared.role.Deed.TheVariants.{Executes}
use Rattle.node_model.specs.declared.role.Verdict.TheVariants.{Plain}
use Rattle.node_model.proofs.AllDone.{among-either, among-left, among-right}
use Rattle.node_model.proofs.Keys.{among}
use Rattle.world_laws.specs.State.{WorldModel, slot_for}
use Rattle.world_laws.specs.declared.state.Arrival.{Arrival}
use Rattle.world_laws.specs.World.{IsNode}
use Rattle.world_laws.specs.Headline.{At}
use Rattle.world_laws.specs.Homes.{IsHome, home_in, is_bad}
use Rattle.world_laws.proofs.Flow.{all_at}
use Rattle.world_laws.proofs.Homes.{bad-back, exec-home, executes-home, home-same}
use Rattle.world_laws.proofs.Kept.{Kept, IsAsked, BadAsk, slot_here}
use Rattle.world_laws.proofs.Nodes.{store-hit, store-other}
use Rattle.world_laws.proofs.Serves.{agree-after, all_from}
use Rattle.world_laws.proofs.Stores.{after-other, all-among, all-held, answer-alike}
use Rattle.shared_laws.specs.Shared.{AskIsTrue, IsTheirs, parts_in}

-- histories that follow one another

left-joins : (st : StoreModel) (es fs : List EntryModel) → left_by st (es ++ fs) ≡ left_by (left_by st es) fs
left-joins st [] fs = refl
left-joins st (e ∷ es) fs = left-joins (store_after st e.part) es fs

legal-joins : (st : StoreModel) (es fs : List EntryModel) → IsLegal st es → IsLegal (left_by st es) fs → IsLegal st (es ++ fs)
legal-joins st [] fs x y = y
legal-joins st (e ∷ es) fs x y = (x.0, legal-joins (store_after st e.part) es fs x.1 y)

-- what is legal of a store is legal of one that agrees with it on the keys
alike-legal : (K : List (List ℕ)) (es : List EntryModel) (s t : StoreModel) → ((q : List ℕ) → Among q (keys_in (parts_in es)) → Among q K) → Agree K s t → IsLegal t es → IsLegal s es × Agree K (left_by s es) (left_by t es)
alike-legal K [] s t sub agree legal = (tt, agree)
alike-legal K (e ∷ es) s t sub agree legal =
    let mine : (q : List ℕ) → Among q (keys_of e.part) → Among q K = λ q y. sub q (among-left q (keys_of e.part) (keys_in (parts_in es)) y) in
    let alike : reply_to s e.part ≡ reply_to t e.part = (answer-alike s t e.part (λ q z. agree q (mine q z))).0 in
    let rest = alike-legal K es (store_after s e.part) (store_after t e.part) (λ q y. sub q (among-right q (keys_of e.part) (keys_in (parts_in es)) y)) (agree-after K s t e.part mine agree) legal.1 in
    ((legal.0 ∙ sym alike, rest.0), rest.1)

others-left : (es : List EntryModel) (s : StoreModel) (q : List ℕ) → (Among q (keys_in (parts_in es)) → ⊥) → get (left_by s es) q ≡ get s q
others-left [] s q away = refl
others-left (e ∷ es) s q away =
    others-left es (store_after s e.part) q (λ y. away (among-right q (keys_of e.part) (keys_in (parts_in es)) y))
    ∙ after-other s e.part q (λ y. away (among-left q (keys_of e.part) (keys_in (parts_in es)) y))

-- the keys of a run

among-of : (q : List ℕ) (es : List EntryModel) → Among q (keys_in (parts_in es)) → (k : ℕ) × (e : EntryModel) × At es k e × Among q (keys_of e.part)
among-of q [] h = absurd h
among-of q (x ∷ xs) h = ⊎_elim (λ (y : Among q (keys_of x.part)). (0, x, refl, y))
    (λ (y : Among q (keys_in (parts_in xs))). let r = among-of q xs y in (suc r.0, r.1, r.2, r.3))
    (among-either q (keys_of x.part) (keys_in (parts_in xs)) h)

-- the slot of a run is that of each of its commands
one-slot : (es : List EntryModel) (slot : ℕ) → ((k : ℕ) (e : EntryModel) → At es k e → slot_for e.part ≡ slot) → (k : ℕ) (e : EntryModel) → At es k e → slot_for e.part ≡ slot_of (first_key (parts_in es))
one-slot [] slot h k e p = absurd (cc)
one-slot (x ∷ xs) slot h k e p = h k e p ∙ sym (h 0 x refl)

module _ (w : WorldModel) (s : Kept w) (node : ℕ) (asking : Bool) (es : List EntryModel) (client : ℕ) (of-slot : ℕ) (of-them : All (IsTheirs w.workers w.moment client of-slot) es) (is-node : IsNode w.cluster node)
    (asks-truly : All (λ (e : EntryModel). AskIsTrue w.cluster node asking e.part) es) (does : deed_for w.cluster node asking (parts_in es) Plain ≡ Executes) (told : IsLegal (store_at w.cluster node) es) where
  -- the slot of the run, and its keys
  abbrev slot : ℕ
  slot = slot_of (first_key (parts_in es))

  abbrev keys : List (List ℕ)
  keys = keys_in (parts_in es)

  abbrev sl : SlotStandingModel
  sl = standing_at w.cluster (slot_of (first_key (parts_in es)))

  abbrev st : StoreModel
  st = store_at w.cluster node

  abbrev k' : ClusterModel
  k' = with_store w.cluster node (left_by (store_at w.cluster node) es)

  slotted : (k : ℕ) (e : EntryModel) → At es k e → slot_for e.part ≡ slot
  slotted = one-slot es of-slot (λ k e p. (all_at (IsTheirs w.workers w.moment client of-slot) es k e p of-them).slot_is)

  slot-is : (q : List ℕ) → Among q keys → slot_of q ≡ slot
  slot-is q x =
      let m = among-of q es x in
      all-among (λ z. slot_of z ≡ slot_for (m.1).part) (keys_of (m.1).part) q (all_at (IsTheirs w.workers w.moment client of-slot) es m.0 m.1 m.2 of-them).one_slot m.3 ∙ slotted m.0 m.1 m.2

  good : (q : List ℕ) → Among q keys → asking ≡ true → node ≡ sl.target → is_bad sl.phase (is_some (at w.cluster sl.source q)) ≡ false
  good q x a to =
      let m = among-of q es x in
      let same : standing_at w.cluster (slot_for (m.1).part) ≡ sl = ap (standing_at w.cluster) (slotted m.0 m.1 m.2) in
      let ask : node ≡ (standing_at w.cluster (slot_for (m.1).part)).target → All (λ key. is_bad (standing_at w.cluster (slot_for (m.1).part)).phase (is_some (at w.cluster (standing_at w.cluster (slot_for (m.1).part)).source key)) ≡ false) (keys_of (m.1).part)
      = all_at (λ (e : EntryModel). AskIsTrue w.cluster node asking e.part) es m.0 m.1 m.2 asks-truly a in
      let true' : All (λ key. is_bad sl.phase (is_some (at w.cluster sl.source key)) ≡ false) (keys_of (m.1).part)
      = subst (λ (z : SlotStandingModel). node ≡ z.target → All (λ key. is_bad z.phase (is_some (at w.cluster z.source key)) ≡ false) (keys_of (m.1).part)) same ask to in
      all-among (λ key. is_bad sl.phase (is_some (at w.cluster sl.source key)) ≡ false) (keys_of (m.1).part) q true' m.3

  was-home : (q : List ℕ) → Among q keys → IsHome sl (λ m. at w.cluster m q) (get (left_by w.initial w.history) q)
  was-home q x = subst (λ z. IsHome (standing_at w.cluster z) (λ m. at w.cluster m q) (get (left_by w.initial w.history) q)) (slot-is q x) (s.data' q)

  -- the node that executes is the home of each of the keys
  at_home : (q : List ℕ) → Among q keys → node ≡ home_in sl (λ m. at w.cluster m q)
  at_home q x = executes-home sl (λ m. at w.cluster m q) (get (left_by w.initial w.history) q) (held_of (store_at w.cluster node) keys) (have_one_key (parts_in es)) slot
      Plain node asking (all-held (store_at w.cluster node) keys q x) (was-home q x) (s.apart slot) (good q x) does

  -- so the store that the history leaves holds there what the node holds
  agree : Agree keys (left_by w.initial w.history) st
  agree q x = (was-home q x).holds ∙ ap (λ m. at w.cluster m q) (sym (at_home q x))

  longer : IsLegal (left_by w.initial w.history) es × Agree keys (left_by (left_by w.initial w.history) es) (left_by st es)
  longer = alike-legal keys es (left_by w.initial w.history) st (λ q x. x) agree told

  miss : (q : List ℕ) (m : ℕ) → m ≢ node → at k' m q ≡ at w.cluster m q
  miss q m ne = ap (λ z. get z q) (store-other w.cluster node (left_by st es) m ne)

  hit : (q : List ℕ) → at k' node q ≡ get (left_by st es) q
  hit q = ap (λ z. get z q) (store-hit w.cluster node (left_by st es) is-node)

  other : (q : List ℕ) → (Among q keys → ⊥) → (m : ℕ) → at k' m q ≡ at w.cluster m q
  other q away m = ⊎_elim
      (λ (x : ((m == node) ≡ true) × (m ≡ node)). ap (λ j. at k' j q) x.1 ∙ hit q ∙ others-left es st q away ∙ ap (λ j. at w.cluster j q) (sym x.1))
      (λ (x : ((m == node) ≡ false) × (m ≢ node)). miss q m x.1)
      (eqb_tells m node)

  -- an ASK that is bad after the run was bad before
  back : (c : Arrival) → HasOneSlot c.command.part → BadAsk k' c.command.part → BadAsk w.cluster c.command.part
  back c one b = (b.0, b.1, key b.0 b.1 b.2 (among b.0 keys))
    where
      key : (q : List ℕ) → Among q (keys_of c.command.part) → is_bad (slot_here k' c.command.part).phase (is_some (at k' (slot_here k' c.command.part).source q)) ≡ true → Among q keys ⊎ (Among q keys → ⊥)
          → is_bad (slot_here w.cluster c.command.part).phase (is_some (at w.cluster (slot_here w.cluster c.command.part).source q)) ≡ true
      key q x b (inl y) =
          let same : slot_here w.cluster c.command.part ≡ sl = ap (standing_at w.cluster) (sym (all-among (λ q. slot_of q ≡ slot_for c.command.part) (keys_of c.command.part) q one x) ∙ slot-is q y) in
          subst (λ (z : SlotStandingModel). is_bad z.phase (is_some (at w.cluster z.source q)) ≡ true) (sym same)
          (bad-back sl (λ m. at w.cluster m q) (λ m. at k' m q) node (s.apart slot) (at_home q y) (miss q)
          (subst (λ (z : SlotStandingModel). is_bad z.phase (is_some (at k' z.source q)) ≡ true) same b))
      key q x b (inr away) = subst (λ o. is_bad (slot_here w.cluster c.command.part).phase (is_some o) ≡ true) (other q away (slot_here w.cluster c.command.part).source) b

  data-after : (q : List ℕ) → IsHome (standing_at k' (slot_of q)) (λ m. at k' m q) (get (left_by w.initial (w.history ++ es)) q)
  data-after q = subst (λ z. IsHome (standing_at k' (slot_of q)) (λ m. at k' m q) (get z q)) (sym (left-joins w.initial w.history es)) (go (among q keys))
    where
      go : Among q keys ⊎ (Among q keys → ⊥) → IsHome (standing_at k' (slot_of q)) (λ m. at k' m q) (get (left_by (left_by w.initial w.history) es) q)
      go (inl x) =
          subst (λ (z : ℕ × Option (List ℕ)). IsHome (standing_at w.cluster z.0) (λ m. at k' m q) z.1) (λ i. (sym (slot-is q x) i, sym (longer.1 q x) i))
          (exec-home sl (λ m. at w.cluster m q) (λ m. at k' m q) (get (left_by w.initial w.history) q) (s.apart slot) (get (left_by st es) q) node (at_home q x) (hit q) (miss q) (was-home q x))
      go (inr away) = subst (IsHome (standing_at w.cluster (slot_of q)) (λ m. at k' m q)) (sym (others-left es (left_by w.initial w.history) q away))
          (home-same (standing_at w.cluster (slot_of q)) (λ m. at w.cluster m q) (λ m. at k' m q) (get (left_by w.initial w.history) q) (other q away) (s.data' q))

  pub theirs-kept : Kept (record w { cluster = k'; history = w.history ++ es })
  theirs-kept = record {
    apart = s.apart;
    data' = data-after;
    legal = legal-joins w.initial w.history es s.legal longer.0;
    asked = all_from (λ (c : Arrival). IsAsked (record w { cluster = k'; history = w.history ++ es }) c.command.ticket c.command.part) w.commands
        (λ j c at_c. let was : IsAsked w c.command.ticket c.command.part = all_at (λ (x : Arrival). IsAsked w x.command.ticket x.command.part) w.commands j c at_c s.asked in (was.0, λ bad. was.1 (back c was.0 bad)));
  }
