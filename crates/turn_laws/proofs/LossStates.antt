-- What the parts of the system are between the steps of the script in which a command is lost.
use Rattle.std.proofs.Common.{◌≡◌, ℕ, zero, suc, ◌*◌, ◌<◌, true, false, List, [], ◌∷◌, ◌++◌, None, refl, sym, ap, subst, arith, length}
use Rattle.std.specs.Prelude.{codes, replicate, slice_index_or}
use Rattle.std.specs.FinMap.{FinMap, insert, remove, empty, get-empty}
use Rattle.std.specs.Ordering.{nat_cmp}
use Rattle.std.specs.Cmp.Lexicographic.{slice_cmp}
use Rattle.resp_wire.specs.declared.value.Value.{Value}
use Rattle.resp_wire.specs.declared.value.Value.TheVariants.{Error}
use Rattle.key_split.specs.declared.planned.Joining.TheVariants.{One}
use Rattle.key_split.specs.PartModel.{keys_of}
use Rattle.key_split.specs.Runs.{RunModel}
use Rattle.key_split.specs.declared.travel.Ended.TheVariants as ended
use Rattle.key_split.specs.declared.travel.Told.TheVariants as told
use Rattle.slot_hash.specs.Slot.{slot_of}
use Rattle.command_future.specs.CommandModel.{CommandModel, progress_told}
use Rattle.node_link.specs.Telling.{told_by}
use Rattle.node_model.specs.Nodes.{ClusterModel, at, role_of, store_at, with_store}
use Rattle.node_model.specs.Standings.{settled_at}
use Rattle.node_model.specs.declared.standing.Phase.TheVariants.{Settled}
use Rattle.node_model.specs.Runs.{deed_for, DoesRun}
use Rattle.node_model.specs.Serving.{deed_at, deed_of, held_of, NodeDoes}
use Rattle.node_model.specs.declared.role.Verdict.TheVariants.{Plain}
use Rattle.node_model.specs.declared.role.Deed.TheVariants.{Executes, Says}
use Rattle.proxy_lanes.specs.declared.ring.Numbered.{Numbered}
use Rattle.proxy_lanes.specs.Lane.{numbered}
use Rattle.proxy_turns.specs.ClientModel.{ClientModel}
use Rattle.session_order.specs.SessionModel.{SessionModel}
use Rattle.session_order.specs.Replies.{Drains, bytes_of, first_replies, joined, spelling}
use Rattle.session_order.specs.declared.closing.Closing.TheVariants.{Quit}
use Rattle.session_order.specs.declared.queue.PartStage.TheVariants.{Waiting, Out, Done}
use Rattle.world_laws.specs.Headline.{IsNew}
use Rattle.turn_laws.specs.System.{Mark}
use Rattle.turn_laws.specs.System as seen
use Rattle.turn_laws.specs.Scripts as script
use Rattle.turn_laws.specs.Scripts.{key, set, ok, ticket, plain, did}
use Rattle.turn_laws.proofs.ScriptFacts.{slot-is, none, held, table, seed_alone, alone}
use Rattle.turn_laws.proofs.ScriptStates.{Pair, Posted, session, one, commands, awaits, setting, getting, client}
use Rattle.turn_laws.proofs.ScriptAsking.{log2, t6}
use Rattle.turn_laws.proofs.ScriptSetting.{below-one, n4, n6}

-- ---- the nodes: the second owns all slots

abbrev pub j0 : ClusterModel
j0 = record { slots = replicate 16384 (settled_at 1); stores = none ∷ none ∷ [] }

abbrev pub j1 : ClusterModel
j1 = with_store j0 1 held

nothing-held : (node : ℕ) (q : List ℕ) → at j0 node q ≡ None
nothing-held zero q = get-empty (slice_cmp nat_cmp) q
nothing-held (suc zero) q = get-empty (slice_cmp nat_cmp) q
nothing-held (suc (suc node)) q = get-empty (slice_cmp nat_cmp) q

settled : (n slot : ℕ) → (slice_index_or (replicate n (settled_at 1)) slot (settled_at 0)).phase ≡ Settled
settled zero slot = refl
settled (suc n) zero = refl
settled (suc n) (suc slot) = settled n slot

pub new : IsNew j0
new = record { settled = settled 16384; no_keys = nothing-held }

abbrev pub moved : Value
moved = Error (codes "MOVED 1 b:2")

pub told-moved : told_by moved 0 table ≡ (told.Moved 1 1, table)
told-moved = refl

-- the carrier learns the second node from it
pub learns-moved : told_by moved 0 seed_alone ≡ (told.Moved 1 1, table)
learns-moved = refl

refuses : deed_at j0 0 false set Plain ≡ Says (told.Moved 1 1)
refuses = ap (λ n. deed_of Plain (role_of j0 0 n) false (held_of (store_at j0 0) (keys_of set)) true n) slot-is

pub does-moved : DoesRun (deed_for j0 0 false (set ∷ []) Plain) j0 0 (set ∷ []) (told.Moved 1 1 ∷ []) j0
does-moved = alone j0 j0 0 false set (told.Moved 1 1) (subst (λ d. NodeDoes d j0 0 set (told.Moved 1 1) j0) (sym refuses) (refl, refl))

executes : deed_at j0 1 false set Plain ≡ Executes
executes = ap (λ n. deed_of Plain (role_of j0 1 n) false (held_of (store_at j0 1) (keys_of set)) true n) slot-is

pub does-late : DoesRun (deed_for j0 1 false (set ∷ []) Plain) j0 1 (set ∷ []) (told.Reply ok ∷ []) j1
does-late = alone j0 j1 1 false set (told.Reply ok) (subst (λ d. NodeDoes d j0 1 set (told.Reply ok) j1) (sym executes) (refl, refl))

-- ---- the lanes' items

abbrev pub v1 : List (Numbered RunModel)
v1 = numbered 0 (plain 0 0 set) ∷ []

abbrev pub v2 : List (Numbered RunModel)
v2 = numbered 0 (plain 0 0 set) ∷ numbered 1 (plain 0 0 set) ∷ []

abbrev pub v3 : List (Numbered RunModel)
v3 = numbered 0 (plain 0 0 set) ∷ numbered 1 (plain 0 0 set) ∷ numbered 2 (plain 0 1 set) ∷ []

abbrev pub d1 : List (Numbered Pair)
d1 = numbered 0 (ticket 0, told.Unsent) ∷ []

abbrev pub d2 : List (Numbered Pair)
d2 = numbered 0 (ticket 0, told.Unsent) ∷ numbered 1 (ticket 0, told.Moved 1 1) ∷ []

abbrev pub d3 : List (Numbered Pair)
d3 = numbered 0 (ticket 0, told.Unsent) ∷ numbered 1 (ticket 0, told.Moved 1 1) ∷ numbered 2 (ticket 0, told.Lost) ∷ []

-- ---- the first command

abbrev pub x1 : CommandModel
x1 = awaits setting

abbrev pub x2 : CommandModel
x2 = progress_told x1 told.Unsent

abbrev pub x3 : CommandModel
x3 = awaits x2

abbrev pub x4 : CommandModel
x4 = progress_told x3 (told.Moved 1 1)

abbrev pub x5 : CommandModel
x5 = awaits x4

abbrev pub x6 : CommandModel
x6 = progress_told x5 told.Lost

abbrev pub p1 : Posted
p1 = insert empty 0 x1

abbrev pub p2 : Posted
p2 = insert p1 0 x2

abbrev pub p3 : Posted
p3 = insert p2 0 x3

abbrev pub p4 : Posted
p4 = insert p3 0 x4

abbrev pub p5 : Posted
p5 = insert p4 0 x5

abbrev pub p6 : Posted
p6 = insert p5 0 x6

abbrev pub p7 : Posted
p7 = remove p6 0

-- ---- the session

abbrev pub m5 : SessionModel
m5 = session (Done ∷ Waiting script.get ∷ []) (ended.Lost ∷ ended.Lost ∷ []) (one ∷ one ∷ []) 0 []

abbrev pub m7 : SessionModel
m7 = session (Out (slot_of key) ∷ []) (ended.Lost ∷ []) (one ∷ []) 1 []

abbrev pub line : List ℕ
line = codes "-ERR proxy: connection lost, outcome unknown\r\n"

written : line ≡ bytes_of (joined One (ended.Lost ∷ []) ∷ [])
unfolding joined spelling
written = refl

pub drains : Drains (64 * 1024) m5 line n6
drains = record {
  count = 1;
  written = record {
    in_order = omega arith;
    spelled = written;
    no_more = below-one (λ fewer. length (bytes_of (first_replies fewer m5.requests m5.stages m5.ends [])) < 64 * 1024) (omega arith);
    all = λ short. refl;
  };
  left = refl;
  all = λ short. (written, refl);
}

-- ---- what is seen

abbrev pub log3 : List Mark
log3 = log2 ++ seen.Executed (did 0 set ok ∷ []) ∷ []

abbrev pub log4 : List Mark
log4 = log3 ++ seen.Answered (ticket 0) ended.Lost ∷ []

-- ---- the client

abbrev pub gone : {C : Type 0} → ClientModel C → ClientModel C
gone held = record held { gone = true; session = record held.session { closing = Quit } }

module _ {C : Type 0} (port : C) where
  abbrev pub e1 : ClientModel C
  e1 = client port n4 (commands (setting ∷ []) empty) [] []

  abbrev pub e2 : ClientModel C
  e2 = client port n4 (commands [] p1) [] []

  abbrev pub e3 : ClientModel C
  e3 = client port n4 (commands [] p2) [] []

  abbrev pub e4 : ClientModel C
  e4 = client port n4 (commands [] p3) [] []

  abbrev pub e5 : ClientModel C
  e5 = client port n4 (commands [] p4) [] []

  abbrev pub e6 : ClientModel C
  e6 = client port n4 (commands [] p5) [] []

  abbrev pub e7 : ClientModel C
  e7 = client port n4 (commands [] p6) [] []

  abbrev pub e8 : ClientModel C
  e8 = client port m5 (commands [] p7) [] []

  abbrev pub e9 : ClientModel C
  e9 = client port n6 (commands [] p7) [] line

  abbrev pub e10 : ClientModel C
  e10 = client port n6 (commands [] p7) [] []

  abbrev pub e11 : ClientModel C
  e11 = client port m7 (commands (getting ∷ []) p7) [] []

  abbrev pub e12 : ClientModel C
  e12 = gone e11

  abbrev pub e13 : ClientModel C
  e13 = record e12 { commands = commands [] p7 }

  abbrev pub u1 : FinMap nat_cmp (ClientModel C)
  u1 = insert (t6 port) 0 e1

  abbrev pub u2 : FinMap nat_cmp (ClientModel C)
  u2 = insert u1 0 e2

  abbrev pub u3 : FinMap nat_cmp (ClientModel C)
  u3 = insert u2 0 e3

  abbrev pub u4 : FinMap nat_cmp (ClientModel C)
  u4 = insert u3 0 e4

  abbrev pub u5 : FinMap nat_cmp (ClientModel C)
  u5 = insert u4 0 e5

  abbrev pub u6 : FinMap nat_cmp (ClientModel C)
  u6 = insert u5 0 e6

  abbrev pub u7 : FinMap nat_cmp (ClientModel C)
  u7 = insert u6 0 e7

  abbrev pub u8 : FinMap nat_cmp (ClientModel C)
  u8 = insert u7 0 e8

  abbrev pub u9 : FinMap nat_cmp (ClientModel C)
  u9 = insert u8 0 e9

  abbrev pub u10 : FinMap nat_cmp (ClientModel C)
  u10 = insert u9 0 e10

  abbrev pub u11 : FinMap nat_cmp (ClientModel C)
  u11 = insert u10 0 e11

  abbrev pub u12 : FinMap nat_cmp (ClientModel C)
  u12 = insert u11 0 e12

  abbrev pub u13 : FinMap nat_cmp (ClientModel C)
  u13 = insert u12 0 e13
