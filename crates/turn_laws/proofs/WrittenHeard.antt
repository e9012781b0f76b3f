-- What a node writes of a run is heard as what it told: replies where it executes, else one refusal for each command.
use Rattle.std.proofs.Common.{◌≡◌, ℕ, suc, ◌<◌, ◌==◌, Bool, true, false, cond, List, [], ◌∷◌, length, refl, sym, ap, ◌∙◌, subst, arith}
use Rattle.std.specs.Prelude.{All, codes}
use Rattle.std.proofs.lemmas.Bool.Decides.{nat_tests}
use Rattle.resp_wire.specs.declared.value.Value.{Value}
use Rattle.slot_hash.specs.Slot.{slot_of}
use Rattle.key_split.specs.PartModel.{PartModel}
use Rattle.key_split.specs.Told.{IsWritten, redirect}
use Rattle.key_split.specs.declared.travel.Told.{Told}
use Rattle.key_split.specs.declared.travel.Told.TheVariants.{Reply, Moved, Ask, TryAgain, ClusterDown, Unclear, Lost, Unsent}
use Rattle.slot_map.specs.Table.{Endpoint, endpoint_of, host_of}
use Rattle.node_link.specs.Telling.{refusal_or_reply, told_by}
use Rattle.node_model.specs.Nodes.{ClusterModel, role_in, role_of, source_role, standing_at, store_at, target_role}
use Rattle.node_model.specs.Runs.{AllTold, AreReplies, DoesRun, deed_for, first_key, have_one_key, keys_in}
use Rattle.node_model.specs.Serving.{IsReply, by_role, held_of}
use Rattle.node_model.specs.Standings.{SlotStandingModel, sends_to}
use Rattle.node_model.specs.Store.{StoreModel, found_along, reply_to, store_after}
use Rattle.node_model.specs.declared.role.Deed.{Deed}
use Rattle.node_model.specs.declared.role.Deed.TheVariants.{Executes, Says}
use Rattle.node_model.specs.declared.role.KeysHeld.{KeysHeld}
use Rattle.node_model.specs.declared.role.KeysHeld.TheVariants.{AllHeld, SomeHeld, NoneHeld}
use Rattle.node_model.specs.declared.role.Role.{Role}
use Rattle.node_model.specs.declared.role.Role.TheVariants.{Owner, Migrating, Importing, Away}
use Rattle.node_model.specs.declared.role.Verdict.{Verdict}
use Rattle.node_model.specs.declared.role.Verdict.TheVariants as verdict
use Rattle.node_model.specs.declared.standing.Phase.{Phase}
use Rattle.node_model.specs.declared.standing.Phase.TheVariants.{Settled, Imported, Migrated, Owned, Released, Forgotten}
use Rattle.key_split.specs.PartModel.{pairs_in}
use Rattle.world_laws.specs.World.{NamesNode}
use Rattle.turn_laws.specs.Wire.{AreTold, heard_in, plain_told}
use Rattle.turn_laws.specs.Writing.{AreEndpointsOf, AreWritten, CanBeNamed, StandsAmong, StandsAtItsNodes, WrittenIsHeard}
use Rattle.turn_laws.proofs.RedirectsHeard.{ask-heard, moved-heard}
use Rattle.turn_laws.proofs.RepliesHeard.{reply-heard}

-- ---- what a node says names one of its cluster

-- a redirection of a slot to one of `count` nodes, or that the node cannot serve now
IsRefusal : ℕ → Told → Type 0
IsRefusal count (Moved slot node) = (slot < 16384) × (node < count)
IsRefusal count (Ask slot node) = (slot < 16384) × (node < count)
IsRefusal count TryAgain = Unit {0}
IsRefusal count ClusterDown = Unit {0}
IsRefusal count (Reply value) = ⊥
IsRefusal count Unclear = ⊥
IsRefusal count Lost = ⊥
IsRefusal count Unsent = ⊥

Refuses : ℕ → Deed → Type 0
Refuses count Executes = Unit {0}
Refuses count (Says told) = IsRefusal count told

-- a role that sends elsewhere sends to one of `count` nodes
SendsAmong : ℕ → Role → Type 0
SendsAmong count Owner = Unit {0}
SendsAmong count (Migrating node) = node < count
SendsAmong count (Importing node) = node < count
SendsAmong count (Away node) = node < count

sends-among : (count first node : ℕ) (sends : List (ℕ × ℕ)) → first < count → All (λ (pair : ℕ × ℕ). pair.1 < count) sends → sends_to sends first node < count
sends-among count first node [] h all = h
sends-among count first node (pair ∷ sends) h all = go (pair.0 == node) (all 0 pair (omega arith)) (sends-among count first node sends h (λ i d lt. all (suc i) d (omega (arith, lt))))
  where
    go : (b : Bool) → pair.1 < count → sends_to sends first node < count → cond b pair.1 (sends_to sends first node) < count
    go true here later = here
    go false here later = later

as-target : (count : ℕ) (phase : Phase) (source : ℕ) → source < count → SendsAmong count (target_role phase source)
unfolding SendsAmong
as-target count Settled source h = tt
as-target count Imported source h = h
as-target count Migrated source h = h
as-target count Owned source h = tt
as-target count Released source h = h
as-target count Forgotten source h = h

as-source : (count : ℕ) (phase : Phase) (target away : ℕ) → target < count → away < count → SendsAmong count (source_role phase target away)
unfolding SendsAmong
as-source count Settled target away h k = k
as-source count Imported target away h k = tt
as-source count Migrated target away h k = h
as-source count Owned target away h k = h
as-source count Released target away h k = k
as-source count Forgotten target away h k = h

role-among : (count : ℕ) (s : SlotStandingModel) (node : ℕ) → StandsAmong count s → SendsAmong count (role_in s node)
unfolding SendsAmong
role-among count s node h = go (s.target == node) (s.source == node)
  where
    away : sends_to s.sends s.first node < count
    away = sends-among count s.first node s.sends h.first h.sends

    go : (is-target is-source : Bool)
        → SendsAmong count (cond is-target (target_role s.phase s.source) (cond is-source (source_role s.phase s.target (sends_to s.sends s.first node)) (Away (sends_to s.sends s.first node))))
    go true is-source = as-target count s.phase s.source h.source
    go false true = as-source count s.phase s.target (sends_to s.sends s.first node) h.target away
    go false false = away

by-role : (count slot : ℕ) (role : Role) (asking : Bool) (held : KeysHeld) (one : Bool) → slot < 16384 → SendsAmong count role → Refuses count (by_role role asking held one slot)
unfolding SendsAmong Refuses IsRefusal
by-role count slot Owner asking held one small h = tt
by-role count slot (Migrating node) asking AllHeld one small h = tt
by-role count slot (Migrating node) asking SomeHeld one small h = tt
by-role count slot (Migrating node) asking NoneHeld one small h = (small, h)
by-role count slot (Importing node) false held one small h = (small, h)
by-role count slot (Importing node) true AllHeld one small h = tt
by-role count slot (Importing node) true SomeHeld true small h = tt
by-role count slot (Importing node) true SomeHeld false small h = tt
by-role count slot (Importing node) true NoneHeld true small h = tt
by-role count slot (Importing node) true NoneHeld false small h = tt
by-role count slot (Away node) asking held one small h = (small, h)

small-slot : (key : List ℕ) → slot_of key < 16384
unfolding slot_of
small-slot key = omega arith

module _ (k : ClusterModel) (node : ℕ) (asking : Bool) (parts : List PartModel) (stands : StandsAtItsNodes k) where
  abbrev its-slot : ℕ
  its-slot = slot_of (first_key parts)

  refuses : (v : Verdict) → NamesNode k v → Refuses (length k.stores) (deed_for k node asking parts v)
  unfolding Refuses IsRefusal
  refuses verdict.Plain names =
      by-role (length k.stores) its-slot (role_of k node its-slot) asking (held_of (store_at k node) (keys_in parts)) (have_one_key parts) (small-slot (first_key parts))
      (role-among (length k.stores) (standing_at k its-slot) node (stands its-slot (small-slot (first_key parts))))
  refuses (verdict.Moved to) names = (small-slot (first_key parts), grind (arith, nat_tests, names))
  refuses verdict.TryAgain names = tt
  refuses verdict.ClusterDown names = tt

-- ---- what is written is heard

-- it is none that is unclear
heard : (value : Value) (node : ℕ) (table : List Endpoint) (told : Told) → plain_told told ≡ told → told_by value node table ≡ (told, table) → heard_in value node table ≡ (told, table)
heard value node table told plain is = ap (λ (p : Told × List Endpoint). (plain_told p.0, p.1)) is ∙ ap (λ (t : Told). (t, table)) plain

module _ (k : ClusterModel) (table : List Endpoint) (node : ℕ) (h : AreEndpointsOf k table) where
  named-at : (to : ℕ) → to < length table → CanBeNamed (endpoint_of table to)
  named-at to within = h.named to (record { host = []; port = 0 }) within

  refusal-heard : (told : Told) (value : Value) → IsRefusal (length k.stores) told → IsWritten told table value → heard_in value node table ≡ (told, table)
  unfolding IsRefusal
  refusal-heard (Moved slot to) value is written =
      let within : to < length table = omega (arith, is.1, h.each) in
      let line : Value = redirect (codes "MOVED ") slot (endpoint_of table to) in
      ap (λ (v : Value). heard_in v node table) written
      ∙ heard line node table (Moved slot to) refl (ap (refusal_or_reply line table) (moved-heard table slot to (host_of table node) h.apart is.0 within (named-at to within)))
  refusal-heard (Ask slot to) value is written =
      let within : to < length table = omega (arith, is.1, h.each) in
      let line : Value = redirect (codes "ASK ") slot (endpoint_of table to) in
      ap (λ (v : Value). heard_in v node table) written
      ∙ heard line node table (Ask slot to) refl (ap (refusal_or_reply line table) (ask-heard table slot to (host_of table node) h.apart is.0 within (named-at to within)))
  refusal-heard TryAgain value is written = ap (λ (v : Value). heard_in v node table) written
  refusal-heard ClusterDown value is written = ap (λ (v : Value). heard_in v node table) written
  refusal-heard (Reply v) value is written = absurd is
  refusal-heard Unclear value is written = absurd is
  refusal-heard Lost value is written = absurd is
  refusal-heard Unsent value is written = absurd is

  one-reply : (store : StoreModel) (c : PartModel) (told : Told) (value : Value) → IsReply told (reply_to store c) → IsWritten told table value → heard_in value node table ≡ (told, table)
  one-reply store c (Reply v) value is written =
      ap (λ (x : Value). heard_in x node table) written
      ∙ heard v node table (Reply v) refl (reply-heard c.op c.arg (found_along c.op store (pairs_in c)) v node table is)
  one-reply store c (Moved slot to) value is written = absurd is
  one-reply store c (Ask slot to) value is written = absurd is
  one-reply store c TryAgain value is written = absurd is
  one-reply store c ClusterDown value is written = absurd is
  one-reply store c Unclear value is written = absurd is
  one-reply store c Lost value is written = absurd is
  one-reply store c Unsent value is written = absurd is

  replies-heard : (store : StoreModel) (parts : List PartModel) (tolds : List Told) (values : List Value) → AreReplies store parts tolds → AreWritten table tolds values → AreTold table node values tolds
  replies-heard store [] [] [] are written = tt
  replies-heard store [] [] (value ∷ values) are written = absurd written
  replies-heard store [] (told ∷ tolds) values are written = absurd are
  replies-heard store (c ∷ parts) [] values are written = absurd are
  replies-heard store (c ∷ parts) (told ∷ tolds) [] are written = absurd written
  replies-heard store (c ∷ parts) (told ∷ tolds) (value ∷ values) are written =
      (one-reply store c told value are.0 written.0, replies-heard (store_after store c) parts tolds values are.1 written.1)

  refusals-heard : (said : Told) (parts : List PartModel) (tolds : List Told) (values : List Value) → IsRefusal (length k.stores) said → AllTold said parts tolds → AreWritten table tolds values
      → AreTold table node values tolds
  refusals-heard said [] [] [] is all written = tt
  refusals-heard said [] [] (value ∷ values) is all written = absurd written
  refusals-heard said [] (told ∷ tolds) values is all written = absurd all
  refusals-heard said (c ∷ parts) [] values is all written = absurd all
  refusals-heard said (c ∷ parts) (told ∷ tolds) [] is all written = absurd written
  refusals-heard said (c ∷ parts) (told ∷ tolds) (value ∷ values) is all written =
      (refusal-heard told value (subst (IsRefusal (length k.stores)) (sym all.0) is) written.0, refusals-heard said parts tolds values is all.1 written.1)

  run-heard : (deed : Deed) (parts : List PartModel) (tolds : List Told) (k' : ClusterModel) (values : List Value) → Refuses (length k.stores) deed
      → DoesRun deed k node parts tolds k' → AreWritten table tolds values → AreTold table node values tolds
  unfolding Refuses
  run-heard Executes parts tolds k' values is does written = replies-heard (store_at k node) parts tolds values does.0 written
  run-heard (Says said) parts tolds k' values is does written = refusals-heard said parts tolds values is does.0 written

pub written-is-heard : WrittenIsHeard
written-is-heard table k node asking parts v tolds k' values h stands names does written =
    run-heard k table node h (deed_for k node asking parts v) parts tolds k' values (refuses k node asking parts stands v names) does written
