-- Any change is a run of others; and their steps leave ours possible.
use Rattle.std.proofs.Common.{◌≡◌, ◌≢◌, ◌⊎◌, ◌&&◌, ⊎_elim, inl, inr, ℕ, zero, suc, ◌+◌, ◌%◌, ◌==◌, Bool, true, false, List, [], ◌∷◌, ◌++◌, Option, None, Some, refl, sym, ap, ◌∙◌, subst, arith}
use Rattle.std.specs.Prelude.{All, is_some, is_none, if◌then◌else◌}
use Rattle.slot_hash.specs.Slot.{slot_of}
use Rattle.key_split.specs.PartModel.{PartModel, HasOneSlot, keys_of}
use Rattle.key_split.specs.declared.part.Op.TheVariants.{Set, Del}
use Rattle.key_split.specs.declared.part.Mode.TheVariants.{Always}
use Rattle.key_split.specs.declared.travel.Ticket.{Ticket}
use Rattle.node_model.specs.History.{EntryModel, IsLegal, left_by}
use Rattle.node_model.specs.Nodes.{at, role_in, role_of, source_role, standing_at, store_at, target_role, with_key, with_store}
use Rattle.node_model.specs.Runs.{deed_for, first_key, have_one_key, keys_in}
use Rattle.node_model.specs.Serving.{by_role, held_of}
use Rattle.node_model.specs.Store.{StoreModel, put, reply_to, single, store_after}
use Rattle.node_model.specs.declared.role.Deed.TheVariants.{Executes}
use Rattle.node_model.specs.Standings.{SlotStandingModel, sends_to}
use Rattle.node_model.specs.declared.role.KeysHeld.TheVariants.{AllHeld, NoneHeld, SomeHeld}
use Rattle.node_model.specs.declared.standing.Phase.{Phase}
use Rattle.node_model.specs.declared.standing.Phase.TheVariants.{Settled, Imported, Migrated, Owned, Released, Forgotten}
use Rattle.node_model.specs.declared.role.Role.TheVariants.{Owner, Away}
use Rattle.node_model.specs.declared.role.Verdict.TheVariants.{Plain}
use Rattle.world_laws.specs.State.{WorldModel, slot_for, start_from}
use Rattle.world_laws.specs.Headline.{At}
use Rattle.world_laws.specs.Homes.{home, home_in, is_bad}
use Rattle.world_laws.proofs.Allowed.{take-allowed, serve-allowed}
use Rattle.world_laws.proofs.Bare.{good}
use Rattle.world_laws.proofs.Kept.{Kept}
use Rattle.world_laws.proofs.Nodes.{holder}
use Rattle.world_laws.proofs.Placed.{Standing}
use Rattle.world_laws.proofs.Headlines.{at_home}
use Rattle.std.proofs.lemmas.Bool.Decides.{eqb_tells}
use Rattle.world_laws.proofs.Serves.{all_from}
use Rattle.world_laws.proofs.Stores.{all-among}
use Rattle.world_laws.proofs.Turns.{one}
use Rattle.node_model.specs.Laws.{Among}
use Rattle.shared_laws.specs.Shared.{AskIsTrue, IsTheirs, parts_in}
use Rattle.shared_laws.specs.Others.{AnyChange, IsSharedReached, KeysGo, ServeStaysAllowed, TakeStaysAllowed, TrueAsks, put_all}
use Rattle.shared_laws.proofs.SharedRuns.{Steady, run-steady, start-steady, steady-stands}

abbrev Changes : Type 0
Changes = List (List ℕ × Option (List ℕ))

part_at : List ℕ → Option (List ℕ) → PartModel
part_at key None = record { op = Del; key = key; arg = []; rest = [] }
part_at key (Some value) = record { op = Set Always; key = key; arg = value; rest = [] }

key-is : (key : List ℕ) (v : Option (List ℕ)) → (part_at key v).key ≡ key
unfolding part_at
key-is key None = refl
key-is key (Some value) = refl

part-slot : (key : List ℕ) (v : Option (List ℕ)) → HasOneSlot (part_at key v)
unfolding part_at
part-slot key None = one (λ k. slot_of k ≡ slot_of key) key refl
part-slot key (Some value) = one (λ k. slot_of k ≡ slot_of key) key refl

part-puts : (st : StoreModel) (key : List ℕ) (v : Option (List ℕ)) → store_after st (part_at key v) ≡ put st key v
unfolding part_at
part-puts st key None = refl
part-puts st key (Some value) = refl

entries : ℕ → ℕ → StoreModel → List (List ℕ × Option (List ℕ)) → List EntryModel
entries worker moment st [] = []
entries worker moment st (c ∷ cs) =
    record { ticket = record { worker = worker; client = 0; part = 0 }; part = part_at c.0 c.1; reply = reply_to st (part_at c.0 c.1); moment = moment } ∷ entries worker moment (put st c.0 c.1) cs

entries-legal : (worker moment : ℕ) (st : StoreModel) (cs : List (List ℕ × Option (List ℕ))) → IsLegal st (entries worker moment st cs) × (left_by st (entries worker moment st cs) ≡ put_all st cs)
unfolding entries
entries-legal worker moment st [] = (tt, refl)
entries-legal worker moment st (c ∷ cs) =
    let rest = entries-legal worker moment (put st c.0 c.1) cs in
    let same : put st c.0 c.1 ≡ store_after st (part_at c.0 c.1) = sym (part-puts st c.0 c.1) in
    ((refl, subst (λ z. IsLegal z (entries worker moment (put st c.0 c.1) cs)) same rest.0), ap (λ z. left_by z (entries worker moment (put st c.0 c.1) cs)) (sym same) ∙ rest.1)

-- what each of them is
record IsOne (worker moment slot : ℕ) (e : EntryModel) : Type 0 where
  pub worker_is : e.ticket.worker ≡ worker
  pub client_is : e.ticket.client ≡ 0
  pub slot_is : slot_for e.part ≡ slot
  pub one_slot : HasOneSlot e.part
  pub now : e.moment ≡ moment

entries-at : (worker moment slot : ℕ) (st : StoreModel) (cs : List (List ℕ × Option (List ℕ))) → All (λ (c : List ℕ × Option (List ℕ)). slot_of c.0 ≡ slot) cs → (k : ℕ) (e : EntryModel) → At (entries worker moment st cs) k e → IsOne worker moment slot e
unfolding entries
entries-at worker moment slot st [] h k e p = absurd (cc)
entries-at worker moment slot st (c ∷ cs) h zero e p =
    let e0 : EntryModel = record { ticket = record { worker = worker; client = 0; part = 0 }; part = part_at c.0 c.1; reply = reply_to st (part_at c.0 c.1); moment = moment } in
    let same : e0 ≡ e = cc in
    subst (IsOne worker moment slot) same (record {
      worker_is = refl;
      client_is = refl;
      slot_is = ap slot_of (key-is c.0 c.1) ∙ h 0 c (omega arith);
      one_slot = part-slot c.0 c.1;
      now = refl;
    })
entries-at worker moment slot st (c ∷ cs) h (suc k) e p = entries-at worker moment slot (put st c.0 c.1) cs (λ j d lt. h (suc j) d (omega arith)) k e p

first-slot : (worker moment : ℕ) (st : StoreModel) (c : List ℕ × Option (List ℕ)) (cs : List (List ℕ × Option (List ℕ))) → first_key (parts_in (entries worker moment st (c ∷ cs))) ≡ c.0
unfolding entries
first-slot worker moment st c cs = key-is c.0 c.1

pub any_change : AnyChange
any_change w node slot c cs lt is-node owner slots = (
  es,
  record w { moment = w.moment + 1; cluster = with_store w.cluster node (left_by (store_at w.cluster node) es); history = w.history ++ es },
  (
    lt,
    (
      with_store w.cluster node (left_by (store_at w.cluster node) es),
      (
        0,
        slot,
        all_from (IsTheirs w.workers (w.moment + 1) 0 slot) es (λ k e p. let o = is k e p in record { theirs = far e.ticket o.worker_is o.client_is; client_is = o.client_is; slot_is = o.slot_is; one_slot = o.one_slot; now = o.now }),
        is-node,
        all_from (λ (e : EntryModel). AskIsTrue w.cluster node false e.part) es (λ k e p a to. absurd (no-asking a)),
        does,
        legal.0,
        refl,
      ),
      refl,
    ),
  ),
  ap (with_store w.cluster node) legal.1,
)
  where
    es : List EntryModel
    es = entries (suc (0 % w.workers)) (w.moment + 1) (store_at w.cluster node) (c ∷ cs)

    legal : IsLegal (store_at w.cluster node) (entries (suc (0 % w.workers)) (w.moment + 1) (store_at w.cluster node) (c ∷ cs)) × (left_by (store_at w.cluster node) (entries (suc (0 % w.workers)) (w.moment + 1) (store_at w.cluster node) (c ∷ cs)) ≡ put_all (store_at w.cluster node) (c ∷ cs))
    legal = entries-legal (suc (0 % w.workers)) (w.moment + 1) (store_at w.cluster node) (c ∷ cs)

    is : (k : ℕ) (e : EntryModel) → At (entries (suc (0 % w.workers)) (w.moment + 1) (store_at w.cluster node) (c ∷ cs)) k e → IsOne (suc (0 % w.workers)) (w.moment + 1) slot e
    is k e p = entries-at (suc (0 % w.workers)) (w.moment + 1) slot (store_at w.cluster node) (c ∷ cs) slots k e p

    far : (t : Ticket) → t.worker ≡ suc (0 % w.workers) → t.client ≡ 0 → t.worker ≡ t.client % w.workers → ⊥
    far t e f x = absurd (omega (arith, e, x, ap (λ m. m % w.workers) f))

    no-asking : false ≡ true → ⊥
    no-asking e = cc

    does : deed_for w.cluster node false (parts_in (entries (suc (0 % w.workers)) (w.moment + 1) (store_at w.cluster node) (c ∷ cs))) Plain ≡ Executes
    does =
        let cs' : List PartModel = parts_in (entries (suc (0 % w.workers)) (w.moment + 1) (store_at w.cluster node) (c ∷ cs)) in
        let here : role_of w.cluster node (slot_of (first_key cs')) ≡ Owner = ap (λ q. role_of w.cluster node (slot_of q)) (first-slot (suc (0 % w.workers)) (w.moment + 1) (store_at w.cluster node) c cs) ∙ ap (role_of w.cluster node) (slots 0 c (omega arith)) ∙ owner in
        ap (λ r. by_role r false (held_of (store_at w.cluster node) (keys_in cs')) (have_one_key cs') (slot_of (first_key cs'))) here

among-at : (xs : List (List ℕ)) (j : ℕ) (x : List ℕ) → At xs j x → Among x xs
among-at [] j x e = absurd (cc)
among-at (z ∷ xs) zero x e = inl (let same : z ≡ x = cc in same)
among-at (z ∷ xs) (suc j) x e = inr (among-at xs j x e)

pub true_asks : TrueAsks
true_asks k node asking part apart h a to =
    all_from (λ key. is_bad (standing_at k (slot_for part)).phase (is_some (at k (standing_at k (slot_for part)).source key)) ≡ false) (keys_of part) (λ j key p.
    good (standing_at k (slot_for part)) (is_some (at k (standing_at k (slot_for part)).source key)) apart (λ source r.
    let ask = h a source (ap (λ n. role_in (standing_at k (slot_for part)) n) to ∙ r) in
    (ask.0, λ e. ap (λ n. is_some (at k n key)) (sym e) ∙ ap is_some (all-among (λ q. at k source q ≡ None) (keys_of part) key ask.1 (among-at (keys_of part) j key p)))) (standing_at k (slot_for part)).phase refl)

reached-stands : (w : WorldModel) → IsSharedReached w → Standing w
reached-stands w r = steady-stands r.0 w (run-steady r.0 r.4 (start_from r.0 r.1 r.2 r.3) w (start-steady r.0 r.1 r.2 r.3 r.5) r.6)

pub take_stays : TakeStaysAllowed
take_stays w lane i ticket told reached lt first = take-allowed w lane i ticket told (reached-stands w reached) lt first

pub serve_stays : ServeStaysAllowed
serve_stays w link v l first rest reached lt at_l r fits = serve-allowed w link v l first rest (reached-stands w reached) lt at_l r fits

-- A key goes from the node that holds it.

either-home : (p : Phase) (a b : ℕ) (held : Bool) → (home p a b held ≡ a) ⊎ (home p a b held ≡ b)
either-home Settled a b held = inr refl
either-home Imported a b held = inl refl
either-home Migrated a b true = inl refl
either-home Migrated a b false = inr refl
either-home Owned a b held = inr refl
either-home Released a b held = inr refl
either-home Forgotten a b held = inl refl

module _ (s : SlotStandingModel) (A : ℕ → Option (List ℕ)) (n : ℕ) (is : n ≡ home_in s A) (apart : s.phase ≢ Settled → s.source ≢ s.target) (one' : Bool) (slot : ℕ) where
  as-target : (p : Phase) → s.phase ≡ p → n ≡ s.target → by_role (target_role p s.source) true AllHeld one' slot ≡ Executes
  as-target Settled e t = refl
  as-target Imported e t = refl
  as-target Migrated e t = refl
  as-target Owned e t = refl
  as-target Released e t = refl
  as-target Forgotten e t = absurd (apart (λ x. absurd (cc)) (sym (sym t ∙ is ∙ ap (λ p. home p s.source s.target (is_some (A s.source))) e)))

  as-source : (p : Phase) (away : ℕ) → s.phase ≡ p → n ≢ s.target → by_role (source_role p s.target away) true AllHeld one' slot ≡ Executes
  as-source Settled away e ne = absurd (ne (is ∙ ap (λ p. home p s.source s.target (is_some (A s.source))) e))
  as-source Imported away e ne = refl
  as-source Migrated away e ne = refl
  as-source Owned away e ne = absurd (ne (is ∙ ap (λ p. home p s.source s.target (is_some (A s.source))) e))
  as-source Released away e ne = absurd (ne (is ∙ ap (λ p. home p s.source s.target (is_some (A s.source))) e))
  as-source Forgotten away e ne = refl

  home-executes : by_role (role_in s n) true AllHeld one' slot ≡ Executes
  home-executes = go (s.target == n) refl (eqb_tells s.target n) (s.source == n) refl (eqb_tells s.source n)
    where
      go : (b : Bool) → (s.target == n) ≡ b → ((b ≡ true) × (s.target ≡ n)) ⊎ ((b ≡ false) × (s.target ≢ n)) → (c : Bool) → (s.source == n) ≡ c → ((c ≡ true) × (s.source ≡ n)) ⊎ ((c ≡ false) × (s.source ≢ n))
          → by_role (role_in s n) true AllHeld one' slot ≡ Executes
      go b x (inl t) c y z = ap (λ q. by_role (if q then target_role s.phase s.source else (if (s.source == n) then source_role s.phase s.target (sends_to s.sends s.first n) else Away (sends_to s.sends s.first n))) true AllHeld one' slot) (x ∙ t.0) ∙ as-target s.phase refl (sym t.1)
      go b x (inr t) c y (inl z) = ap (λ (q : Bool × Bool). by_role (if q.0 then target_role s.phase s.source else (if q.1 then source_role s.phase s.target (sends_to s.sends s.first n) else Away (sends_to s.sends s.first n))) true AllHeld one' slot) (λ i. ((x ∙ t.0) i, (y ∙ z.0) i)) ∙ as-source s.phase (sends_to s.sends s.first n) refl (λ m. t.1 (sym m))
      go b x (inr t) c y (inr z) = ⊎_elim
          (λ (h : home s.phase s.source s.target (is_some (A s.source)) ≡ s.source). absurd (z.1 (sym (is ∙ h))))
          (λ (h : home s.phase s.source s.target (is_some (A s.source)) ≡ s.target). absurd (t.1 (sym (is ∙ h))))
          (either-home s.phase s.source s.target (is_some (A s.source)))

  good-home : n ≡ s.target → (p : Phase) → s.phase ≡ p → (o : Option (List ℕ)) → A s.source ≡ o → is_bad p (is_some o) ≡ false
  good-home t Settled e o x = refl
  good-home t Imported e o x = absurd (apart (λ y. absurd (cc)) (sym (sym t ∙ is ∙ ap (λ p. home p s.source s.target (is_some (A s.source))) e)))
  good-home t Migrated e None x = refl
  good-home t Migrated e (Some v) x = absurd (apart (λ y. absurd (cc)) (sym (sym t ∙ is ∙ (λ i. home (e i) s.source s.target (is_some (x i))))))
  good-home t Owned e o x = refl
  good-home t Released e o x = refl
  good-home t Forgotten e o x = refl

pub keys_go : KeysGo
keys_go w node key value reached lt held = (
  es,
  record w { moment = w.moment + 1; cluster = with_key w.cluster node key None; history = w.history ++ es },
  (
    lt,
    (
      with_key w.cluster node key None,
      (
        0,
        slot_of key,
        one (IsTheirs w.workers (w.moment + 1) 0 (slot_of key)) e0 (record { theirs = far; client_is = refl; slot_is = refl; one_slot = one (λ q. slot_of q ≡ slot_of key) key refl; now = refl }),
        holder w.cluster node key value held,
        one (λ (e : EntryModel). AskIsTrue w.cluster node true e.part) e0 (λ a to. one (λ q. is_bad (standing_at w.cluster (slot_of key)).phase (is_some (at w.cluster (standing_at w.cluster (slot_of key)).source q)) ≡ false) key
            (good-home (standing_at w.cluster (slot_of key)) (λ m. at w.cluster m key) node is-home (kept.apart (slot_of key)) true (slot_of key) to (standing_at w.cluster (slot_of key)).phase refl (at w.cluster (standing_at w.cluster (slot_of key)).source key) refl)),
        does,
        (refl, tt),
        refl,
      ),
      refl,
    ),
  ),
  refl,
)
  where
    e0 : EntryModel
    e0 = record { ticket = record { worker = suc (0 % w.workers); client = 0; part = 0 }; part = single Del key []; reply = reply_to (store_at w.cluster node) (single Del key []); moment = w.moment + 1 }

    es : List EntryModel
    es = record { ticket = record { worker = suc (0 % w.workers); client = 0; part = 0 }; part = single Del key []; reply = reply_to (store_at w.cluster node) (single Del key []); moment = w.moment + 1 } ∷ []

    far : suc (0 % w.workers) ≡ 0 % w.workers → ⊥
    far x = absurd (omega (arith, x))

    steady : Steady reached.0 w
    steady = run-steady reached.0 reached.4 (start_from reached.0 reached.1 reached.2 reached.3) w (start-steady reached.0 reached.1 reached.2 reached.3 reached.5) reached.6

    kept : Kept w
    kept = (run-steady reached.0 reached.4 (start_from reached.0 reached.1 reached.2 reached.3) w (start-steady reached.0 reached.1 reached.2 reached.3 reached.5) reached.6).kept

    is-home : node ≡ home_in (standing_at w.cluster (slot_of key)) (λ m. at w.cluster m key)
    is-home = at_home w kept key node value held

    all-held : held_of (store_at w.cluster node) (key ∷ []) ≡ AllHeld
    all-held = ap (λ (o : Option (List ℕ)). if (is_some o && true) then AllHeld else (if (is_none o && true) then NoneHeld else SomeHeld)) held

    does : deed_for w.cluster node true (single Del key [] ∷ []) Plain ≡ Executes
    does = ap (λ h. by_role (role_of w.cluster node (slot_of key)) true h (have_one_key (single Del key [] ∷ [])) (slot_of key)) all-held
        ∙ home-executes (standing_at w.cluster (slot_of key)) (λ m. at w.cluster m key) node is-home (kept.apart (slot_of key)) (have_one_key (single Del key [] ∷ [])) (slot_of key)
