-- What a node says of commands that it serves at once.
use Rattle.std.proofs.Common.{◌≡◌, inl, inr, ℕ, suc, List, [], ◌∷◌, ◌++◌, Bool, true, false, Some, None, Ok, Err, refl, sym, ap, subst, length}
use Rattle.std.specs.Prelude.{IsSome, MatchOption, Option, Result, Vec, if◌then◌else◌, nat_lt}
use Rattle.std.specs.declared.alloc.Global.{Global}
use Rattle.resp_wire.specs.Data.{Data}
use Rattle.resp_wire.specs.declared.value.Value.{Value}
use Rattle.key_split.specs.PartModel.{PartModel}
use Rattle.key_split.specs.declared.travel.Told.{Told}
use Rattle.key_split.specs.declared.travel.Told.TheVariants.{Reply, Moved, Ask, TryAgain, ClusterDown, Unclear, Lost, Unsent}
use Rattle.key_split.specs.Told.{CanBeWritten, IsWritten}
use Rattle.slot_map.specs.Table.{Endpoint}
use Rattle.node_model.specs.Nodes.{ClusterModel}
use Rattle.node_model.specs.Runs.{AllTold, AreReplies, DoesRun, RunAnswers, ServesAll, deed_for}
use Rattle.node_model.specs.Serving.{IsReply, names_node, refusal_of}
use Rattle.node_model.specs.Store.{StoreModel, reply_to, store_after}
use Rattle.node_model.specs.declared.role.Deed.{Deed}
use Rattle.node_model.specs.declared.role.Deed.TheVariants.{Executes, Says}
use Rattle.node_model.specs.declared.role.ServeFault.{ServeFault}
use Rattle.node_model.specs.declared.role.ServeFault.TheVariants as serve
use Rattle.node_model.specs.declared.role.Verdict.{Verdict}
use Rattle.world_laws.specs.World.{NamesNode}
use Rattle.turn_laws.specs.Writing.{AreWritten}
use Rattle.turn_play.specs.declared.fault.PlayFault.{PlayFault}
use Rattle.turn_play.specs.declared.fault.PlayFault.TheVariants as fault
use Rattle.turn_play.specs.Faults.{of_serve}
use Rattle.turn_play.specs.Serving.{CannotServeRun, CannotWrite, IsRefusal, IsRunSaid}

-- ---- how many

pub as-many-replies : (cs : List PartModel) (store : StoreModel) (tolds : List Told) → AreReplies store cs tolds → length tolds ≡ length cs
as-many-replies [] store [] x = refl
as-many-replies [] store (told ∷ tolds) x = absurd x
as-many-replies (c ∷ cs) store [] x = absurd x
as-many-replies (c ∷ cs) store (told ∷ tolds) x = ap suc (as-many-replies cs (store_after store c) tolds x.1)

as-many-told : (said : Told) (cs : List PartModel) (tolds : List Told) → AllTold said cs tolds → length tolds ≡ length cs
as-many-told said [] [] x = refl
as-many-told said [] (told ∷ tolds) x = absurd x
as-many-told said (c ∷ cs) [] x = absurd x
as-many-told said (c ∷ cs) (told ∷ tolds) x = ap suc (as-many-told said cs tolds x.1)

pub as-many : (deed : Deed) (k : ClusterModel) (node : ℕ) (cs : List PartModel) (tolds : List Told) (k' : ClusterModel) → DoesRun deed k node cs tolds k' → length tolds ≡ length cs
as-many Executes k node cs tolds k' x = as-many-replies cs _ tolds x.0
as-many (Says said) k node cs tolds k' x = as-many-told said cs tolds x.0

pub as-many-written : (table : List Endpoint) (tolds : List Told) (values : List Value) → AreWritten table tolds values → length values ≡ length tolds
as-many-written table [] [] x = refl
as-many-written table [] (value ∷ values) x = absurd x
as-many-written table (told ∷ tolds) [] x = absurd x
as-many-written table (told ∷ tolds) (value ∷ values) x = ap suc (as-many-written table tolds values x.1)

-- one more is written
pub written-more : (table : List Endpoint) (tolds : List Told) (values : List Value) (told : Told) (value : Value) → AreWritten table tolds values → IsWritten told table value → AreWritten table (tolds ++ told ∷ []) (values ++ value ∷ [])
written-more table [] [] told value x y = (y, tt)
written-more table [] (v ∷ values) told value x y = absurd x
written-more table (t ∷ tolds) [] told value x y = absurd x
written-more table (t ∷ tolds) (v ∷ values) told value x y = (x.0, written-more table tolds values told value x.1 y)

-- ---- what can't be written

reply-none : (told : Told) (reply : Data) → IsReply told reply → IsRefusal told → ⊥
reply-none (Reply value) reply x r = r
reply-none (Moved slot node) reply x r = x
reply-none (Ask slot node) reply x r = x
reply-none TryAgain reply x r = x
reply-none ClusterDown reply x r = x
reply-none Unclear reply x r = x
reply-none Lost reply x r = x
reply-none Unsent reply x r = x

replies-none : (before : List Told) (told : Told) (after : List Told) (cs : List PartModel) (store : StoreModel) → AreReplies store cs (before ++ told ∷ after) → IsRefusal told → ⊥
replies-none [] told after [] store x r = x
replies-none [] told after (c ∷ cs) store x r = reply-none told (reply_to store c) x.0 r
replies-none (b ∷ before) told after [] store x r = x
replies-none (b ∷ before) told after (c ∷ cs) store x r = replies-none before told after cs (store_after store c) x.1 r

told-so : (said : Told) (before : List Told) (told : Told) (after : List Told) (cs : List PartModel) → AllTold said cs (before ++ told ∷ after) → told ≡ said
told-so said [] told after [] x = absurd x
told-so said [] told after (c ∷ cs) x = x.0
told-so said (b ∷ before) told after [] x = absurd x
told-so said (b ∷ before) told after (c ∷ cs) x = told-so said before told after cs x.1

module _ (table : List Endpoint) (k : ClusterModel) (node : ℕ) (asking : Bool) (cs : List PartModel) (verdict : Verdict) (k' : ClusterModel) where
  -- one that is no reply can't be written: so the node executed nothing
  by-deed : (deed : Deed) → deed_for k node asking cs verdict ≡ deed → (before : List Told) (told : Told) (after : List Told) → DoesRun deed k node cs (before ++ told ∷ after) k' → IsRefusal told → (why : PlayFault) → CannotWrite table told why
      → (k' ≡ k) × CannotServeRun table k node asking cs verdict why
  by-deed Executes e before told after x r why cannot = absurd (replies-none before told after cs _ x.0 r)
  by-deed (Says said) e before told after x r fault.NoMemory cannot = (x.1, tt)
  by-deed (Says said) e before told after x r fault.OutOfOrder cannot = absurd cannot
  by-deed (Says said) e before told after x r fault.TooLong cannot = absurd cannot
  by-deed (Says said) e before told after x r fault.NotServed cannot = (x.1, inr (inr (said, e, subst (λ t. CanBeWritten t table → ⊥) (told-so said before told after cs x.0) cannot)))

  -- what a node did whose call succeeded
  names : (a b : Bool) → (if a then (if b then None else Some serve.NotThisVerdict) else Some serve.NoSuchNode) ≡ None → b ≡ true
  names true true e = refl
  names true false e = absurd (cc)
  names false b e = absurd (cc)

  by-refusal : (o : Option ServeFault) → refusal_of k node verdict ≡ o → (tolds : Vec Told Global) → MatchOption o (RunAnswers (deed_for k node asking cs verdict) k node cs (Ok tolds) k') (λ why. (Ok tolds ≡ Err why) × (k' ≡ k))
      → NamesNode k verdict × DoesRun (deed_for k node asking cs verdict) k node cs tolds.items k'
  by-refusal None e tolds x = (names (nat_lt node (length k.stores)) (names_node verdict (length k.stores)) e, x)
  by-refusal (Some why) e tolds x = let n = x.0 in absurd (cc)

  pub did : (tolds : Vec Told Global) → ServesAll k node asking cs verdict (Ok tolds) k' → NamesNode k verdict × DoesRun (deed_for k node asking cs verdict) k node cs tolds.items k'
  did tolds x = by-refusal (refusal_of k node verdict) refl tolds x

  pub run-said : (tolds : Vec Told Global) (said : List Value) → ServesAll k node asking cs verdict (Ok tolds) k' → AreWritten table tolds.items said → IsRunSaid table k node asking cs verdict k' said
  run-said tolds said x written = let d = did tolds x in (tolds.items, d.0, d.1, written)

  pub not-written : (tolds : Vec Told Global) (before : List Told) (told : Told) (after : List Told) → tolds.items ≡ before ++ told ∷ after → ServesAll k node asking cs verdict (Ok tolds) k' → IsRefusal told → (why : PlayFault) → CannotWrite table told why
      → (k' ≡ k) × CannotServeRun table k node asking cs verdict why
  not-written tolds before told after e x r why cannot =
      let d = did tolds x in
      by-deed (deed_for k node asking cs verdict) refl before told after (subst (λ ts. DoesRun (deed_for k node asking cs verdict) k node cs ts k') e d.1) r why cannot

  -- as many as there is room for
  pub told-length : (tolds : Vec Told Global) → ServesAll k node asking cs verdict (Ok tolds) k' → length tolds.items ≡ length cs
  told-length tolds x = as-many (deed_for k node asking cs verdict) k node cs tolds.items k' (did tolds x).1

  -- its call failed
  for-refusal : (why : ServeFault) → IsSome (refusal_of k node verdict) → CannotServeRun table k node asking cs verdict (of_serve why)
  for-refusal serve.NoMemory x = tt
  for-refusal serve.NoSuchNode x = inr (inl x)
  for-refusal serve.NotThisVerdict x = inr (inl x)

  by-fault : (o : Option ServeFault) → refusal_of k node verdict ≡ o → (why : ServeFault) → MatchOption o (RunAnswers (deed_for k node asking cs verdict) k node cs (Err why) k') (λ other. (◌≡◌ {A = Result (Vec Told Global) ServeFault} (Err why) (Err other)) × (k' ≡ k))
      → (k' ≡ k) × CannotServeRun table k node asking cs verdict (of_serve why)
  by-fault None e why x = (x.1, subst (λ w. CannotServeRun table k node asking cs verdict (of_serve w)) (sym x.0) tt)
  by-fault (Some other) e why x = (x.1, for-refusal why (subst IsSome (sym e) refl))

  pub not-served : (why : ServeFault) → ServesAll k node asking cs verdict (Err why) k' → (k' ≡ k) × CannotServeRun table k node asking cs verdict (of_serve why)
  not-served why x = by-fault (refusal_of k node verdict) refl why x
