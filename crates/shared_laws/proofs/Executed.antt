-- A run that was executed, as others see it: a run of others.
use Rattle.std.proofs.Common.{◌≡◌, ◌≢◌, inl, inr, ℕ, zero, suc, ◌+◌, ◌%◌, Bool, false, true, List, [], ◌∷◌, ◌++◌, map, Some, refl, sym, ap, ◌∙◌, subst, arith}
use Rattle.std.specs.Prelude.{slice_get, All, is_some}
use Rattle.slot_hash.specs.Slot.{slot_of}
use Rattle.resp_wire.specs.Seen.{data_of}
use Rattle.key_split.specs.PartModel.{PartModel, HasOneSlot, keys_of}
use Rattle.key_split.specs.declared.travel.Told.{Told}
use Rattle.key_split.specs.declared.travel.Told.TheVariants.{Reply, Moved, Ask, TryAgain, ClusterDown, Unclear, Unsent}
use Rattle.node_model.specs.History.{EntryModel, IsLegal, left_by}
use Rattle.node_model.specs.Laws.{Among}
use Rattle.node_model.specs.Nodes.{at, standing_at, store_at, with_store}
use Rattle.node_model.specs.Runs.{AreReplies, deed_for, first_key, store_after_all}
use Rattle.node_model.specs.Serving.{deed_of}
use Rattle.node_model.specs.Standings.{SlotStandingModel}
use Rattle.node_model.specs.Store.{StoreModel, store_after, reply_to}
use Rattle.node_model.specs.declared.role.Deed.TheVariants.{Executes}
use Rattle.node_model.specs.declared.role.KeysHeld.{KeysHeld}
use Rattle.node_model.specs.declared.role.Role.{Role}
use Rattle.node_model.specs.declared.role.Verdict.{Verdict}
use Rattle.node_model.specs.declared.role.Verdict.TheVariants as verdict
use Rattle.world_laws.specs.State.{WorldModel, Link, slot_for, parts_told, tickets_told, tolds_of}
use Rattle.world_laws.specs.declared.state.Arrival.{Arrival}
use Rattle.world_laws.specs.World.{IsNode, ServesRunAt, entry_of, entries_of}
use Rattle.world_laws.specs.Headline.{At}
use Rattle.world_laws.specs.Homes.{is_bad}
use Rattle.world_laws.proofs.Flow.{all_at}
use Rattle.world_laws.proofs.Kept.{Kept, slot_here}
use Rattle.world_laws.proofs.Nodes.{ExecutedAll, reply-is}
use Rattle.world_laws.proofs.Allowed.{ticked}
use Rattle.world_laws.proofs.Placed.{Standing}
use Rattle.world_laws.proofs.Serves.{all_from, among-in, asked-of, good, run, slotted, standing, ticket-at}
use Rattle.world_laws.proofs.There.{There}
use Rattle.world_laws.proofs.Turns.{IsRun, Turned}
use Rattle.shared_laws.specs.Shared.{AskIsTrue, IsTheirs, OthersExecute, parts_in}
use Rattle.shared_laws.proofs.SharedRuns.{Steady, steady-stands}
use Rattle.shared_laws.specs.Proxies.{as_foreign}

-- a run that was executed, as others see it

-- an entry is of a command of the run
abbrev IsSeen : ℕ → ℕ → List (Arrival × Told) → EntryModel → Type 0
IsSeen n m run e =
    (j : ℕ) × (x : Arrival × Told) × At run j x × (e.ticket.worker ≢ e.ticket.client % n) × (e.ticket.client ≡ x.0.command.ticket.client) × (e.part ≡ x.0.command.part) × (e.moment ≡ m)

foreign-at : (n m : ℕ) (run : List (Arrival × Told)) (k : ℕ) (e : EntryModel) → At (map (as_foreign n) (entries_of m run)) k e → IsSeen n m run e
foreign-at n m [] k e p = absurd (cc)
foreign-at n m (x ∷ xs) k e p = go x.1 k p (λ k p. let r = foreign-at n m xs k e p in (suc r.0, r.1, r.2, r.3, r.4, r.5, r.6))
  where
    go : (told : Told) (k : ℕ) → At (map (as_foreign n) (entry_of m x.0 told ++ entries_of m xs)) k e → ((k : ℕ) → At (map (as_foreign n) (entries_of m xs)) k e → IsSeen n m (x ∷ xs) e) → IsSeen n m (x ∷ xs) e
    go (Reply value) zero p rest =
        let e0 : EntryModel = as_foreign n (record { ticket = x.0.command.ticket; part = x.0.command.part; reply = data_of value; moment = m }) in
        let same : e0 ≡ e = cc in
        let far : x.0.command.ticket.client % n + 1 + x.0.command.ticket.worker ≢ x.0.command.ticket.client % n = λ z. absurd (omega (arith, z)) in
        (0, x, refl, subst (λ (z : EntryModel). z.ticket.worker ≢ z.ticket.client % n) same far, ap (λ (z : EntryModel). z.ticket.client) (sym same), ap (λ (z : EntryModel). z.part) (sym same), ap (λ (z : EntryModel). z.moment) (sym same))
    go (Reply value) (suc k) p rest = rest k p
    go (Moved slot node) k p rest = rest k p
    go (Ask slot node) k p rest = rest k p
    go TryAgain k p rest = rest k p
    go ClusterDown k p rest = rest k p
    go Unclear k p rest = rest k p
    go Told.Lost k p rest = rest k p
    go Unsent k p rest = rest k p

-- its entries are legal, and leave what the node has then
abbrev AreSeen : StoreModel → List PartModel → List EntryModel → Type 0
AreSeen st cs es = (parts_in es ≡ cs) × IsLegal st es × (left_by st es ≡ store_after_all st cs)

ran-seen : (n m : ℕ) (run : List (Arrival × Told)) (st : StoreModel) → AreReplies st (parts_told run) (tolds_of run) → AreSeen st (parts_told run) (map (as_foreign n) (entries_of m run))
ran-seen n m [] st did = (refl, tt, refl)
ran-seen n m (x ∷ xs) st did =
    let part : PartModel = x.0.command.part in
    let reply = reply-is x.1 (reply_to st x.0.command.part) did.0 in
    let rest = ran-seen n m xs (store_after st x.0.command.part) did.1 in
    let e0 : EntryModel = as_foreign n (record { ticket = x.0.command.ticket; part = x.0.command.part; reply = data_of reply.0; moment = m }) in
    let now : map (as_foreign n) (entries_of m (x ∷ xs)) ≡ e0 ∷ map (as_foreign n) (entries_of m xs) = ap (λ z. map (as_foreign n) (entry_of m x.0 z ++ entries_of m xs)) reply.1 in
    subst (AreSeen st (parts_told (x ∷ xs))) (sym now) (ap (λ cs. x.0.command.part ∷ cs) rest.0, (reply.2, rest.1), rest.2)

-- what is executed is executed by the role
plain-does : (v : Verdict) (r : Role) (a : Bool) (held : KeysHeld) (one : Bool) (slot : ℕ) → deed_of v r a held one slot ≡ Executes → deed_of verdict.Plain r a held one slot ≡ Executes
plain-does verdict.Plain r a held one slot e = e
plain-does (verdict.Moved m) r a held one slot e = absurd (cc)
plain-does verdict.TryAgain r a held one slot e = absurd (cc)
plain-does verdict.ClusterDown r a held one slot e = absurd (cc)

among-at : (xs : List (List ℕ)) (j : ℕ) (x : List ℕ) → At xs j x → Among x xs
among-at [] j x e = absurd (cc)
among-at (z ∷ xs) zero x e = inl (let same : z ≡ x = cc in same)
among-at (z ∷ xs) (suc j) x e = inr (among-at xs j x e)

module _ (n : ℕ) (w w' : WorldModel) (st : Steady n w) (link node : ℕ) (l : Link) (v : Verdict) (at_l : slice_get w.links link ≡ Some l) (there : IsNode w.cluster node) (leads : l.asking ≡ true → l.node ≡ node)
    (y : ServesRunAt (record w { moment = w.moment + 1 }) node link l v w')
    (e : deed_for w.cluster node l.asking (parts_told y.1) v ≡ Executes) (did : ExecutedAll w.cluster node (parts_told y.1) (tolds_of y.1) y.2) (nq moment : ℕ) where
  abbrev w1 : WorldModel
  w1 = record w { moment = w.moment + 1 }

  abbrev fs : List EntryModel
  fs = map (as_foreign nq) (entries_of moment y.1)

  abbrev slot : ℕ
  slot = slot_of (first_key (parts_told y.1))

  p1 : Standing w1
  p1 = ticked w (steady-stands n w st)

  t1 : There w1
  t1 = record { ups = (st.there).ups; links = (st.there).links; targets = (st.there).targets }

  k1 : Kept w1
  k1 = record { apart = (st.kept).apart; data' = (st.kept).data'; legal = (st.kept).legal; asked = (st.kept).asked }

  u1 : Turned w1
  u1 = record { ups = (st.turned).ups; links = (st.turned).links }

  r : IsRun w.commands (tickets_told y.1)
  r = run w1 w' p1 t1 k1 u1 link node l v at_l there leads y

  seen : AreSeen (store_at w.cluster node) (parts_told y.1) fs
  seen = ran-seen nq moment y.1 (store_at w.cluster node) did.0

  member : (k : ℕ) (x : EntryModel) → At fs k x → IsSeen nq moment y.1 x
  member k x z = foreign-at nq moment y.1 k x z

  of-them : All (IsTheirs nq moment r.2 slot) fs
  of-them = all_from (IsTheirs nq moment r.2 slot) fs (λ k x z.
      let m = member k x z in
      record {
        theirs = m.3;
        client_is = m.4 ∙ r.3 m.0 (m.1).0.command.ticket (ticket-at y.1 m.0 m.1 m.2);
        slot_is = ap slot_for m.5 ∙ slotted w1 w' p1 t1 k1 u1 link node l v at_l there leads y m.0 m.1 m.2;
        one_slot = subst HasOneSlot (sym m.5) (asked-of w1 w' p1 t1 k1 u1 link node l v at_l there leads y m.0 m.1 m.2).0;
        now = m.6;
      })

  asks-truly : All (λ (x : EntryModel). AskIsTrue w.cluster node l.asking x.part) fs
  asks-truly = all_from (λ (x : EntryModel). AskIsTrue w.cluster node l.asking x.part) fs (λ k x z. let m = member k x z in subst (AskIsTrue w.cluster node l.asking) (sym m.5) (true' m.0 m.1 m.2))
    where
      true' : (j : ℕ) (x : Arrival × Told) → At y.1 j x → AskIsTrue w.cluster node l.asking x.0.command.part
      true' j x z a to =
          let here : slot_here w.cluster x.0.command.part ≡ standing_at w.cluster slot = standing w1 w' p1 t1 k1 u1 link node l v at_l there leads y j x z in
          all_from (λ key. is_bad (slot_here w.cluster x.0.command.part).phase (is_some (at w.cluster (slot_here w.cluster x.0.command.part).source key)) ≡ false) (keys_of x.0.command.part)
          (λ i key g. subst (λ (z : SlotStandingModel). is_bad z.phase (is_some (at w.cluster z.source key)) ≡ false) (sym here)
          (good w1 w' p1 t1 k1 u1 link node l v at_l there leads y did key (among-in key y.1 j x z (among-at (keys_of x.0.command.part) i key g)) a (to ∙ ap (λ (z : SlotStandingModel). z.target) here)))

  deed : deed_for w.cluster node l.asking (parts_in fs) verdict.Plain ≡ Executes
  deed = subst (λ cs. deed_for w.cluster node l.asking cs verdict.Plain ≡ Executes) (sym seen.0) (plain-does v _ l.asking _ _ _ e)

  pub executed-others : OthersExecute nq moment w.cluster node l.asking fs w'.cluster
  executed-others = (
    r.2,
    slot,
    of-them,
    there,
    asks-truly,
    deed,
    seen.1,
    ap (λ (z : WorldModel). z.cluster) y.7 ∙ did.1 ∙ ap (with_store w.cluster node) (sym seen.2),
  )
