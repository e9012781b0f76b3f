-- Serving a run keeps the data, the history and the ASKs.
use Rattle.std.proofs.Common.{◌≡◌, ◌≢◌, ◌⊎◌, inl, inr, ⊎_elim, ℕ, ◌+◌, ◌==◌, Bool, true, false, List, [], ◌∷◌, ◌++◌, length, Option, refl, sym, ap, ◌∙◌, subst, arith}
use Rattle.std.specs.Prelude.{All, is_some, zip}
use Rattle.std.proofs.lemmas.Bool.Decides.{eqb_tells}
use Rattle.std.specs.FinMap.{empty, get}
use Rattle.slot_hash.specs.Slot.{slot_of}
use Rattle.resp_wire.specs.Seen.{data_of}
use Rattle.key_split.specs.PartModel.{PartModel, HasOneSlot, keys_of}
use Rattle.key_split.specs.declared.travel.Ticket.{Ticket}
use Rattle.key_split.specs.declared.travel.Told.{Told}
use Rattle.key_split.specs.declared.travel.Told.TheVariants.{Reply, Moved, Ask, TryAgain, ClusterDown, Unclear, Unsent}
use Rattle.node_model.specs.Store.{StoreModel, store_after, reply_to}
use Rattle.node_model.specs.History.{EntryModel, IsLegal, left_by}
use Rattle.node_model.specs.Standings.{SlotStandingModel}
use Rattle.node_model.specs.Nodes.{ClusterModel, standing_at, store_at, at, with_store}
use Rattle.node_model.specs.Serving.{held_of}
use Rattle.node_model.specs.Runs.{deed_for, first_key, have_one_key, keys_in, store_after_all, AllTold, AreReplies, DoesRun, HaveOneSlot}
use Rattle.node_model.specs.declared.role.Deed.TheVariants.{Executes, Says}
use Rattle.node_model.specs.declared.role.Verdict.TheVariants.{Plain}
use Rattle.node_model.specs.Laws.{Among, Agree}
use Rattle.node_model.proofs.Keys.{among}
use Rattle.node_model.proofs.AllDone.{after-all-other, among-left, among-right}
use Rattle.world_laws.specs.State.{slot_for}
use Rattle.world_laws.specs.World.{IsNode}
use Rattle.world_laws.specs.Homes.{home_in, is_bad, IsHome}
use Rattle.world_laws.proofs.Histories.{legal-append, left_by-append, is_reply, role-no_reply}
use Rattle.world_laws.proofs.Homes.{bad-back, exec-home, executes-home, home-same, if_says}
use Rattle.world_laws.proofs.Nodes.{ExecutedAll, SaidAll, runs, reply-is, store-hit, store-other, size-with_store}
use Rattle.world_laws.proofs.Stores.{all-among, after-other, answer-alike, all-held}
use Rattle.local_cluster.specs.declared.asked.Asked.{Asked}
use Rattle.local_cluster.specs.Local.{LocalStateModel, noted}
use Rattle.local_cluster.specs.LocalRuns.{history_after_run}
use Rattle.local_cluster.specs.Kept.{slot_here, BadAsk, IsGood, IsKept}
use Rattle.local_cluster.proofs.Serving.{all-of}

-- a refused run adds no entry

noted-none : (history : List EntryModel) (ticket : Ticket) (c : PartModel) (told : Told) → is_reply told ≡ 0 → noted history ticket c told ≡ history
noted-none history ticket c (Reply value) e = absurd (omega (arith, e))
noted-none history ticket c (Moved slot node) e = refl
noted-none history ticket c (Ask slot node) e = refl
noted-none history ticket c TryAgain e = refl
noted-none history ticket c ClusterDown e = refl
noted-none history ticket c Unclear e = refl
noted-none history ticket c Told.Lost e = refl
noted-none history ticket c Unsent e = refl

run-none : (history : List EntryModel) (ticket : Ticket) (said : Told) (cs : List PartModel) (tolds : List Told) → is_reply said ≡ 0 → AllTold said cs tolds → history_after_run history ticket (zip cs tolds) ≡ history
run-none history ticket said [] [] e h = refl
run-none history ticket said [] (t ∷ ts) e h = absurd h
run-none history ticket said (c ∷ cs) [] e h = absurd h
run-none history ticket said (c ∷ cs) (t ∷ ts) e h =
    ap (λ z. history_after_run z ticket (zip cs ts)) (noted-none history ticket c t (ap is_reply h.0 ∙ e)) ∙ run-none history ticket said cs ts e h.1

-- what a node says of a run is no reply
says-none : (k : ClusterModel) (node : ℕ) (cs : List PartModel) (said : Told) → deed_for k node false cs Plain ≡ Says said → is_reply said ≡ 0
says-none k node cs said e = ap (if_says is_reply) (sym e) ∙ role-no_reply _ false _ _ _

pub says-same : (k : ClusterModel) (history : List EntryModel) (ticket : Ticket) (node : ℕ) (cs : List PartModel) (tolds : List Told) (said : Told) → deed_for k node false cs Plain ≡ Says said → AllTold said cs tolds
    → history_after_run history ticket (zip cs tolds) ≡ history
says-same k history ticket node cs tolds said e told = run-none history ticket said cs tolds (says-none k node cs said e) told

-- an executed one adds entries that are legal

agree-after : (K : List (List ℕ)) (s t : StoreModel) (c : PartModel) → ((q : List ℕ) → Among q (keys_of c) → Among q K) → Agree K s t → Agree K (store_after s c) (store_after t c)
agree-after K s t c sub h q x = ⊎_elim
    (λ (y : Among q (keys_of c)). (answer-alike s t c (λ q z. h q (sub q z))).1 q y)
    (λ (y : Among q (keys_of c) → ⊥). after-other s c q y ∙ h q x ∙ sym (after-other t c q y))
    (among q (keys_of c))

-- a history with the entries of a run, which a store that agrees with it on the run's keys has executed
record IsLonger (K : List (List ℕ)) (hs hs' : List EntryModel) (store : StoreModel) : Type 0 where
  legal : IsLegal empty hs'
  agree : Agree K (left_by empty hs') store
  others : (q : List ℕ) → (Among q K → ⊥) → get (left_by empty hs') q ≡ get (left_by empty hs) q

run-legal : (ticket : Ticket) (K : List (List ℕ)) (cs : List PartModel) (tolds : List Told) (hs : List EntryModel) (store : StoreModel) → ((q : List ℕ) → Among q (keys_in cs) → Among q K)
    → Agree K (left_by empty hs) store → IsLegal empty hs → AreReplies store cs tolds → IsLonger K hs (history_after_run hs ticket (zip cs tolds)) (store_after_all store cs)
run-legal ticket K [] [] hs store sub agree legal did = record { legal = legal; agree = agree; others = λ q x. refl }
run-legal ticket K [] (t ∷ ts) hs store sub agree legal did = absurd did
run-legal ticket K (c ∷ cs) [] hs store sub agree legal did = absurd did
run-legal ticket K (c ∷ cs) (t ∷ ts) hs store sub agree legal did =
    let reply = reply-is t (reply_to store c) did.0 in
    let e0 : EntryModel = record { ticket = ticket; part = c; reply = data_of reply.0; moment = length hs + 1 } in
    let now : noted hs ticket c t ≡ hs ++ e0 ∷ [] = ap (noted hs ticket c) reply.1 in
    let mine : (q : List ℕ) → Among q (keys_of c) → Among q K = λ q y. sub q (among-left q (keys_of c) (keys_in cs) y) in
    let alike : reply_to (left_by empty hs) c ≡ reply_to store c = (answer-alike (left_by empty hs) store c (λ q z. agree q (mine q z))).0 in
    let rest : IsLonger K (hs ++ e0 ∷ []) (history_after_run (hs ++ e0 ∷ []) ticket (zip cs ts)) (store_after_all (store_after store c) cs)
    = run-legal ticket K cs ts (hs ++ e0 ∷ []) (store_after store c) (λ q y. sub q (among-right q (keys_of c) (keys_in cs) y))
    (subst (λ z. Agree K z (store_after store c)) (sym (left_by-append empty hs e0)) (agree-after K (left_by empty hs) store c mine agree))
    (legal-append empty hs e0 legal (reply.2 ∙ sym alike)) did.1 in
    subst (λ z. IsLonger K hs (history_after_run z ticket (zip cs ts)) (store_after_all (store_after store c) cs)) (sym now) (record {
      legal = rest.legal;
      agree = rest.agree;
      others = λ q x. rest.others q x ∙ ap (λ z. get z q) (left_by-append empty hs e0) ∙ after-other (left_by empty hs) c q (λ y. x (mine q y));
    })

module _ (s : LocalStateModel) (ticket : Ticket) (node : ℕ) (cs : List PartModel) (tolds : List Told) (k' : ClusterModel) (kept : IsKept s) (one_slot : HaveOneSlot cs) (is-node : IsNode s.nodes node)
    (does : DoesRun (deed_for s.nodes node false cs Plain) s.nodes node cs tolds k') where
  -- the state that is left
  abbrev left : LocalStateModel
  left = record { nodes = k'; history = history_after_run s.history ticket (zip cs tolds); asks = s.asks }

  says-kept : SaidAll (deed_for s.nodes node false cs Plain) s.nodes cs tolds k' → IsKept left
  says-kept y =
      let same = says-same s.nodes s.history ticket node cs tolds y.0 y.1 y.2 in
      subst (λ (x : ClusterModel × List EntryModel). IsKept (record { nodes = x.0; history = x.1; asks = s.asks })) (λ i. (sym y.3 i, sym same i))
      (record { apart = kept.apart; targets = kept.targets; homes = kept.homes; legal = kept.legal; asked = kept.asked })

  executes-kept : deed_for s.nodes node false cs Plain ≡ Executes → ExecutedAll s.nodes node cs tolds k' → IsKept left
  executes-kept e did = subst (λ (x : ClusterModel). IsKept (record { nodes = x; history = history_after_run s.history ticket (zip cs tolds); asks = s.asks })) (sym did.1) (record {
    apart = kept.apart;
    targets = λ slot moving. (let more : length k1.stores ≡ length s.nodes.stores = size-with_store s.nodes node new in omega (arith, more, kept.targets slot moving));
    homes = homes-after;
    legal = longer.legal;
    asked = all-of (IsGood s.nodes) (IsGood k1) s.asks (λ a good. (good.0, λ bad. good.1 (back a.part good.0 bad))) kept.asked;
  })
    where
      keys : List (List ℕ)
      keys = keys_in cs

      slot : ℕ
      slot = slot_of (first_key cs)

      sl : SlotStandingModel
      sl = standing_at s.nodes (slot_of (first_key cs))

      st : StoreModel
      st = store_at s.nodes node

      new : StoreModel
      new = store_after_all (store_at s.nodes node) cs

      k1 : ClusterModel
      k1 = with_store s.nodes node (store_after_all (store_at s.nodes node) cs)

      hs' : List EntryModel
      hs' = history_after_run s.history ticket (zip cs tolds)

      -- the slot of each of its keys
      slot-is : (q : List ℕ) → Among q (keys_in cs) → slot_of q ≡ slot_of (first_key cs)
      slot-is q x = all-among (λ q. slot_of q ≡ slot_of (first_key cs)) (keys_in cs) q one_slot x

      was-home : (q : List ℕ) → Among q (keys_in cs) → IsHome sl (λ m. at s.nodes m q) (get (left_by empty s.history) q)
      was-home q x = subst (λ z. IsHome (standing_at s.nodes z) (λ m. at s.nodes m q) (get (left_by empty s.history) q)) (slot-is q x) (kept.homes q)

      -- the node that executes is the home of each of the keys
      at_home : (q : List ℕ) → Among q (keys_in cs) → node ≡ home_in sl (λ m. at s.nodes m q)
      at_home q x = executes-home sl (λ m. at s.nodes m q) (get (left_by empty s.history) q) (held_of (store_at s.nodes node) (keys_in cs)) (have_one_key cs) (slot_of (first_key cs))
          Plain node false (all-held (store_at s.nodes node) (keys_in cs) q x) (was-home q x) (kept.apart (slot_of (first_key cs))) (λ a _. absurd (cc)) e

      -- so the store that the history leaves holds there what the node holds
      agree : Agree (keys_in cs) (left_by empty s.history) st
      agree q x = (was-home q x).holds ∙ ap (λ m. at s.nodes m q) (sym (at_home q x))

      longer : IsLonger (keys_in cs) s.history hs' new
      longer = run-legal ticket (keys_in cs) cs tolds s.history st (λ q x. x) agree kept.legal did.0

      miss : (q : List ℕ) (m : ℕ) → m ≢ node → at k1 m q ≡ at s.nodes m q
      miss q m ne = ap (λ z. get z q) (store-other s.nodes node new m ne)

      hit : (q : List ℕ) → at k1 node q ≡ get new q
      hit q = ap (λ z. get z q) (store-hit s.nodes node new is-node)

      other : (q : List ℕ) → (Among q (keys_in cs) → ⊥) → (m : ℕ) → at k1 m q ≡ at s.nodes m q
      other q away m = ⊎_elim
          (λ (x : ((m == node) ≡ true) × (m ≡ node)). ap (λ j. at k1 j q) x.1 ∙ hit q ∙ after-all-other st cs q away ∙ ap (λ j. at s.nodes j q) (sym x.1))
          (λ (x : ((m == node) ≡ false) × (m ≢ node)). miss q m x.1)
          (eqb_tells m node)

      back : (part : PartModel) → HasOneSlot part → BadAsk k1 part → BadAsk s.nodes part
      back part one bad = (bad.0, bad.1, key bad.0 bad.1 bad.2 (among bad.0 (keys_in cs)))
        where
          key : (q : List ℕ) → Among q (keys_of part) → is_bad (slot_here k1 part).phase (is_some (at k1 (slot_here k1 part).source q)) ≡ true → Among q (keys_in cs) ⊎ (Among q (keys_in cs) → ⊥)
              → is_bad (slot_here s.nodes part).phase (is_some (at s.nodes (slot_here s.nodes part).source q)) ≡ true
          key q x bad (inl y) =
              let same : slot_here s.nodes part ≡ sl = ap (standing_at s.nodes) (sym (all-among (λ q. slot_of q ≡ slot_for part) (keys_of part) q one x) ∙ slot-is q y) in
              subst (λ (z : SlotStandingModel). is_bad z.phase (is_some (at s.nodes z.source q)) ≡ true) (sym same)
              (bad-back sl (λ m. at s.nodes m q) (λ m. at k1 m q) node (kept.apart (slot_of (first_key cs))) (at_home q y) (miss q)
              (subst (λ (z : SlotStandingModel). is_bad z.phase (is_some (at k1 z.source q)) ≡ true) same bad))
          key q x bad (inr away) = subst (λ o. is_bad (slot_here s.nodes part).phase (is_some o) ≡ true) (other q away (slot_here s.nodes part).source) bad

      homes-after : (q : List ℕ) → IsHome (standing_at k1 (slot_of q)) (λ m. at k1 m q) (get (left_by empty hs') q)
      homes-after q = go (among q (keys_in cs))
        where
          go : Among q (keys_in cs) ⊎ (Among q (keys_in cs) → ⊥) → IsHome (standing_at k1 (slot_of q)) (λ m. at k1 m q) (get (left_by empty hs') q)
          go (inl x) =
              subst (λ (z : ℕ × Option (List ℕ)). IsHome (standing_at s.nodes z.0) (λ m. at k1 m q) z.1) (λ i. (sym (slot-is q x) i, sym (longer.agree q x) i))
              (exec-home sl (λ m. at s.nodes m q) (λ m. at k1 m q) (get (left_by empty s.history) q) (kept.apart (slot_of (first_key cs))) (get new q) node (at_home q x) (hit q) (miss q) (was-home q x))
          go (inr away) = subst (IsHome (standing_at s.nodes (slot_of q)) (λ m. at k1 m q)) (sym (longer.others q away))
              (home-same (standing_at s.nodes (slot_of q)) (λ m. at s.nodes m q) (λ m. at k1 m q) (get (left_by empty s.history) q) (other q away) (kept.homes q))

  pub run-kept : IsKept left
  run-kept = ⊎_elim
      (λ (x : (deed_for s.nodes node false cs Plain ≡ Executes) × ExecutedAll s.nodes node cs tolds k'). executes-kept x.0 x.1)
      (λ (x : SaidAll (deed_for s.nodes node false cs Plain) s.nodes cs tolds k'). says-kept x)
      (runs s.nodes k' node cs tolds (deed_for s.nodes node false cs Plain) does)
