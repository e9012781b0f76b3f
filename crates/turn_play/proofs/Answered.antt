-- What a node writes of a command and of a block.
use Rattle.std.proofs.Common.{◌≡◌, ◌<◌, ◌≤◌, ◌+◌, ℕ, suc, Bool, true, false, List, [], ◌∷◌, ◌++◌, Ok, Err, length, map, refl, sym, ap, subst, ◌∙◌, arith}
use Rattle.std.specs.Prelude.{IfErr, IfOk, Result, Vec, replicate, slice_index_or}
use Rattle.std.specs.declared.alloc.Global.{Global}
use Rattle.std.specs.declared.collections.VecDeque.{VecDeque}
use Rattle.std.proofs.lemmas.List.{append-nil, append_assoc, length-append, length-replicate, replicate-append-replicate}
use Rattle.resp_wire.specs.Data.{array, items_of}
use Rattle.resp_wire.specs.Seen.{data_of}
use Rattle.resp_wire.specs.declared.value.Value.{Value}
use Rattle.key_split.specs.PartModel.{PartModel}
use Rattle.key_split.specs.declared.travel.Told.{Told}
use Rattle.key_split.specs.declared.travel.Told.TheVariants.{Reply, Moved, Ask, TryAgain, ClusterDown, Unclear, Lost, Unsent}
use Rattle.slot_map.specs.Table.{Endpoint}
use Rattle.node_model.specs.Nodes.{ClusterModel, store_at}
use Rattle.node_model.specs.Runs.{AllTold, AreReplies, DoesRun, ServesAll, deed_for}
use Rattle.node_model.specs.Serving.{IsReply, deed_of}
use Rattle.node_model.specs.Store.{StoreModel, reply_to, store_after}
use Rattle.node_model.specs.declared.role.Deed.{Deed}
use Rattle.node_model.specs.declared.role.Deed.TheVariants.{Executes, Says}
use Rattle.node_model.specs.declared.role.KeysHeld.{KeysHeld}
use Rattle.node_model.specs.declared.role.KeysHeld.TheVariants.{AllHeld, SomeHeld, NoneHeld}
use Rattle.node_model.specs.declared.role.Role.{Role}
use Rattle.node_model.specs.declared.role.Role.TheVariants.{Owner, Migrating, Importing, Away}
use Rattle.node_model.specs.declared.role.Verdict.{Verdict}
use Rattle.node_model.specs.declared.role.Verdict.TheVariants as verdict
use Rattle.turn_laws.specs.Wire.{Item, Asks, Runs, Lists, Part, parts_in}
use Rattle.turn_laws.specs.Writing.{AreWritten}
use Rattle.turn_play.specs.declared.fault.PlayFault.{PlayFault}
use Rattle.turn_play.specs.declared.fault.PlayFault.TheVariants as fault
use Rattle.turn_play.specs.Answering.{Answers, BlockOutcome, IsDoneRun, RefuseOutcome, replies_in}
use Rattle.turn_play.specs.Hearing.{most_replies, unnumbered}
use Rattle.turn_play.specs.Serving.{CannotServeRun, IsRefusal, IsRunSaid, WriteAllOutcome, okay}
use Rattle.turn_play.specs.Stream.{BlockDone, CannotBeServed, IsReplied, exec_aborted, queued}
use Rattle.turn_play.proofs.Heard.{parts-are}
use Rattle.turn_play.proofs.Said.{did, not-written}

-- ---- what a deed tells

abbrev Refuses : Deed → Type 0
Refuses Executes = Unit {0}
Refuses (Says told) = IsRefusal told

-- in place of executing a node never gives a reply
deed-refuses : (v : Verdict) (role : Role) (asking : Bool) (held : KeysHeld) (one : Bool) (slot : ℕ) → Refuses (deed_of v role asking held one slot)
deed-refuses verdict.Plain Owner asking held one slot = tt
deed-refuses verdict.Plain (Migrating target) asking AllHeld one slot = tt
deed-refuses verdict.Plain (Migrating target) asking SomeHeld one slot = tt
deed-refuses verdict.Plain (Migrating target) asking NoneHeld one slot = tt
deed-refuses verdict.Plain (Importing source) false held one slot = tt
deed-refuses verdict.Plain (Importing source) true AllHeld one slot = tt
deed-refuses verdict.Plain (Importing source) true SomeHeld true slot = tt
deed-refuses verdict.Plain (Importing source) true SomeHeld false slot = tt
deed-refuses verdict.Plain (Importing source) true NoneHeld true slot = tt
deed-refuses verdict.Plain (Importing source) true NoneHeld false slot = tt
deed-refuses verdict.Plain (Away node) asking held one slot = tt
deed-refuses (verdict.Moved node) role asking held one slot = tt
deed-refuses verdict.TryAgain role asking held one slot = tt
deed-refuses verdict.ClusterDown role asking held one slot = tt

-- a reply is no refusal
no-reply : (told : Told) (value : Value) → told ≡ Reply value → IsRefusal told → ⊥
no-reply told value is r = subst IsRefusal is r

no-refusal : (told : Told) (store : StoreModel) (c : PartModel) → IsReply told (reply_to store c) → IsRefusal told → ⊥
no-refusal (Reply value) store c x r = r
no-refusal (Moved slot node) store c x r = x
no-refusal (Ask slot node) store c x r = x
no-refusal TryAgain store c x r = x
no-refusal ClusterDown store c x r = x
no-refusal Unclear store c x r = x
no-refusal Lost store c x r = x
no-refusal Unsent store c x r = x

-- replies are written as they stand
all-replies : (table : List Endpoint) (store : StoreModel) (cs : List PartModel) (tolds : List Told) → AreReplies store cs tolds → AreWritten table tolds (replies_in tolds)
all-replies table store [] [] x = tt
all-replies table store [] (told ∷ tolds) x = absurd x
all-replies table store (c ∷ cs) [] x = absurd x
all-replies table store (c ∷ cs) (Reply value ∷ tolds) x = (refl, all-replies table (store_after store c) cs tolds x.1)
all-replies table store (c ∷ cs) (Moved slot node ∷ tolds) x = absurd x.0
all-replies table store (c ∷ cs) (Ask slot node ∷ tolds) x = absurd x.0
all-replies table store (c ∷ cs) (TryAgain ∷ tolds) x = absurd x.0
all-replies table store (c ∷ cs) (ClusterDown ∷ tolds) x = absurd x.0
all-replies table store (c ∷ cs) (Unclear ∷ tolds) x = absurd x.0
all-replies table store (c ∷ cs) (Lost ∷ tolds) x = absurd x.0
all-replies table store (c ∷ cs) (Unsent ∷ tolds) x = absurd x.0

-- a reply goes in front of those behind it
pub reply-first : (told : Told) (value : Value) (tolds : List Told) → told ≡ Reply value → replies_in (told ∷ tolds) ≡ value ∷ replies_in tolds
reply-first told value tolds is = ap (λ t. replies_in (t ∷ tolds)) is

pub refusal-first : (told : Told) (tolds : List Told) → IsRefusal told → replies_in (told ∷ tolds) ≡ []
refusal-first (Reply value) tolds r = absurd r
refusal-first (Moved slot node) tolds r = refl
refusal-first (Ask slot node) tolds r = refl
refusal-first TryAgain tolds r = refl
refusal-first ClusterDown tolds r = refl
refusal-first Unclear tolds r = refl
refusal-first Lost tolds r = refl
refusal-first Unsent tolds r = refl

-- one value more
pub value-more : (values values' : List Value) (told : Told) (value : Value) (rest all : List Told) (target : List Value) → values ++ replies_in all ≡ target → all ≡ told ∷ rest → told ≡ Reply value → values' ≡ values ++ value ∷ [] → values' ++ replies_in rest ≡ target
value-more values values' told value rest all target so left is pushed =
    ap (λ vs. vs ++ replies_in rest) pushed ∙ append_assoc values (value ∷ []) (replies_in rest) ∙ ap (λ vs. values ++ vs) (sym (ap replies_in left ∙ reply-first told value rest is)) ∙ so

-- no value more
pub values-end : (values : List Value) (told : Told) (rest all : List Told) (target : List Value) → values ++ replies_in all ≡ target → all ≡ told ∷ rest → IsRefusal told → values ≡ target
values-end values told rest all target so left r = sym (append-nil values) ∙ ap (λ vs. values ++ vs) (sym (ap replies_in left ∙ refusal-first told rest r)) ∙ so

-- one reply more waits
pub queued-more : (n : ℕ) (items items' : List Value) (value : Value) → items ≡ okay ∷ replicate n queued → items' ≡ items ++ value ∷ [] → value ≡ queued → items' ≡ okay ∷ replicate (n + 1) queued
queued-more n items items' value so pushed is =
    pushed ∙ (λ i. so i ++ is i ∷ []) ∙ ap (λ vs. okay ∷ vs) (replicate-append-replicate n 1 queued)

-- what the first was told says whether all were executed
pub first-done : (tolds : List Told) (told : Told) (done : Bool) → 0 < length tolds → told ≡ slice_index_or tolds 0 told → IsDoneRun (told ∷ []) done → IsDoneRun tolds done
first-done [] told done some is x = absurd (omega (arith, some))
first-done (t ∷ tolds) told true some is x = (x.0, sym is ∙ x.1)
first-done (t ∷ tolds) told false some is x = subst IsRefusal is x

pub many-commands : (cs : List PartModel) → length (map unnumbered cs) ≡ length cs
many-commands [] = refl
many-commands (c ∷ cs) = ap suc (many-commands cs)

-- the replies to a block that was refused
pub refused-replies : (values mid front final : List Value) (begun aborted : Value) → final ≡ front ++ aborted ∷ [] → front ≡ begun ∷ mid → mid ≡ values → begun ≡ okay → aborted ≡ exec_aborted → final ≡ okay ∷ (values ++ exec_aborted ∷ [])
refused-replies values mid front final begun aborted e f g h a = e ∙ ap (λ vs. vs ++ aborted ∷ []) f ∙ (λ i. h i ∷ (g i ++ a i ∷ []))

pub refuse-failed : (table : List Endpoint) (tolds : List Told) (why : PlayFault) (said : List Value) → WriteAllOutcome table tolds (Err why) said → (result : Result (VecDeque Value Global) PlayFault) → result ≡ Err why → RefuseOutcome table tolds result
refuse-failed table tolds why said x result is = subst (RefuseOutcome table tolds) (sym is) (by why x)
  where
    by : (why : PlayFault) → WriteAllOutcome table tolds (Err why) said → RefuseOutcome table tolds (Err why)
    by fault.NoMemory x = tt
    by fault.NotServed x = x
    by fault.OutOfOrder x = absurd x.5
    by fault.TooLong x = absurd x.5

-- ---- a block

module _ (table : List Endpoint) (k : ClusterModel) (node : ℕ) (cs : List PartModel) (k' : ClusterModel) where
  -- all were executed
  done-by : (deed : Deed) → Refuses deed → (tolds : List Told) (exec : Value) (replies : List Value) → DoesRun deed k node cs tolds k' → IsDoneRun tolds true → data_of exec ≡ array (items_of (map data_of (replies_in tolds)))
      → replies ≡ okay ∷ (replicate (length cs) queued ++ exec ∷ []) → BlockDone table deed k node cs k' replies
  done-by Executes refuses tolds exec replies x done is all = (tolds, replies_in tolds, exec, x.0, x.1, all-replies table (store_at k node) cs tolds x.0, is, all)
  done-by (Says said) refuses [] exec replies x done is all = absurd (let f : true ≡ false = done in cc)
  done-by (Says said) refuses (told ∷ tolds) exec replies x done is all = absurd (no-reply told done.0 done.1 (first-said said cs told tolds x.0 refuses))
    where
      first-said : (said : Told) (cs : List PartModel) (told : Told) (tolds : List Told) → AllTold said cs (told ∷ tolds) → IsRefusal said → IsRefusal told
      first-said said [] told tolds x r = absurd x
      first-said said (c ∷ cs) told tolds x r = subst IsRefusal (sym x.0) r

  -- nothing was executed
  not-done : (deed : Deed) (tolds : List Told) → 0 < length cs → DoesRun deed k node cs tolds k' → IsDoneRun tolds false → (said : Told) × (deed ≡ Says said) × AllTold said cs tolds × (k' ≡ k)
  not-done (Says said) tolds some x done = (said, refl, x.0, x.1)
  not-done Executes tolds some x done = absurd (no-replies cs (store_at k node) tolds some x.0 done)
    where
      no-replies : (cs : List PartModel) (store : StoreModel) (tolds : List Told) → 0 < length cs → AreReplies store cs tolds → IsDoneRun tolds false → ⊥
      no-replies [] store tolds some x done = omega (arith, some)
      no-replies (c ∷ cs) store [] some x done = x
      no-replies (c ∷ cs) store (told ∷ tolds) some x done = no-refusal told store c x.0 done

  refused-by : (deed : Deed) (tolds : List Told) (replies : List Value) → 0 < length cs → DoesRun deed k node cs tolds k' → IsDoneRun tolds false → (values : List Value) → AreWritten table tolds values → replies ≡ okay ∷ (values ++ exec_aborted ∷ []) → BlockDone table deed k node cs k' replies
  refused-by deed tolds replies some x done values written all =
      let n = not-done deed tolds some x done in
      subst (λ d. BlockDone table d k node cs k' replies) (sym n.1) (tolds, values, n.2, n.3, written, all)

module _ (table : List Endpoint) (k : ClusterModel) (node : ℕ) (asking : Bool) (cs : List PartModel) (v : Verdict) (k' : ClusterModel) (tolds : Vec Told Global) (x : ServesAll k node asking cs v (Ok tolds) k') where
  pub block-done : (exec : Value) (replies : List Value) → IsDoneRun tolds.items true → data_of exec ≡ array (items_of (map data_of (replies_in tolds.items))) → replies ≡ okay ∷ (replicate (length cs) queued ++ exec ∷ [])
      → BlockOutcome table k node asking cs v k' replies
  block-done exec replies done is all =
      let d = did table k node asking cs v k' tolds x in
      (d.0, done-by table k node cs k' (deed_for k node asking cs v) (deed-refuses v _ asking _ _ _) tolds.items exec replies d.1 done is all)

  pub block-refused : (replies : VecDeque Value Global) → 0 < length cs → IsDoneRun tolds.items false → RefuseOutcome table tolds.items (Ok replies) → BlockOutcome table k node asking cs v k' replies.items
  block-refused replies some done r =
      let d = did table k node asking cs v k' tolds x in
      (d.0, refused-by table k node cs k' (deed_for k node asking cs v) tolds.items replies.items some d.1 done r.0 r.1 r.2)

  pub block-failed : (why : PlayFault) → 0 < length cs → IsDoneRun tolds.items false → RefuseOutcome table tolds.items (Err why) → (k' ≡ k) × CannotServeRun table k node asking cs v why
  block-failed fault.NoMemory some done r = ((not-done table k node cs k' (deed_for k node asking cs v) tolds.items some (did table k node asking cs v k' tolds x).1 done).3, tt)
  block-failed fault.NotServed some done r = not-written table k node asking cs v k' tolds r.0 r.1 r.2 r.3 x r.4 fault.NotServed r.5
  block-failed fault.OutOfOrder some done r = absurd r
  block-failed fault.TooLong some done r = absurd r

  pub refused-ok : (r : Result (VecDeque Value Global) PlayFault) → 0 < length cs → IsDoneRun tolds.items false → RefuseOutcome table tolds.items r → IfOk r (λ replies. BlockOutcome table k node asking cs v k' replies.items)
  refused-ok (Ok replies) some done r = block-refused replies some done r
  refused-ok (Err why) some done r = tt

  pub refused-err : (r : Result (VecDeque Value Global) PlayFault) → 0 < length cs → IsDoneRun tolds.items false → RefuseOutcome table tolds.items r → IfErr r (λ why. (k' ≡ k) × CannotServeRun table k node asking cs v why)
  refused-err (Ok replies) some done r = tt
  refused-err (Err why) some done r = block-failed why some done r

-- ---- an item

module _ (table : List Endpoint) (k : ClusterModel) (node : ℕ) (asking : Bool) (v : Verdict) (k' : ClusterModel) where
  pub single-replied : (parts : List PartModel) (said : List Value) → length parts ≡ 1 → IsRunSaid table k node asking parts v k' said → IsReplied table k node asking (Runs (map unnumbered parts)) v k' said
  single-replied [] said one x = absurd (omega (arith, one))
  single-replied (p ∷ []) said one x = x
  single-replied (p ∷ q ∷ ps) said one x = absurd (omega (arith, one))

  pub block-replied : (parts : List PartModel) (said : List Value) → 0 < length parts → (length parts ≡ 1 → ⊥) → BlockOutcome table k node asking parts v k' said → IsReplied table k node asking (Runs (map unnumbered parts)) v k' said
  block-replied [] said some many x = absurd (omega (arith, some))
  block-replied (p ∷ []) said some many x = absurd (many refl)
  block-replied (p ∷ q ∷ ps) said some many x = subst (λ cs. BlockOutcome table k node asking cs v k' said) (sym (parts-are (p ∷ q ∷ ps))) x

  pub cannot-be-served : (parts : List PartModel) (why : PlayFault) → CannotServeRun table k node asking parts v why → CannotBeServed table k node asking (Runs (map unnumbered parts)) v why
  cannot-be-served parts why x = subst (λ cs. CannotServeRun table k node asking cs v why) (sym (parts-are parts)) x

  pub answer-failed : (item : Item) (why : PlayFault) (result : Result (VecDeque Value Global) PlayFault) → result ≡ Err why → (k' ≡ k) × CannotBeServed table k node asking item v why → Answers table k node asking item v result k'
  answer-failed item why result is x = subst (λ r. Answers table k node asking item v r k') (sym is) (by item why x)
    where
      by : (item : Item) (why : PlayFault) → (k' ≡ k) × CannotBeServed table k node asking item v why → Answers table k node asking item v (Err why) k'
      by item fault.NoMemory x = x.0
      by item fault.NotServed x = x
      by Asks fault.OutOfOrder x = absurd (let e = x.1 in cc)
      by (Runs parts) fault.OutOfOrder x = absurd x.1
      by Lists fault.OutOfOrder x = absurd (let e = x.1 in cc)
      by Asks fault.TooLong x = absurd (let e = x.1 in cc)
      by (Runs parts) fault.TooLong x = absurd x.1
      by Lists fault.TooLong x = absurd (let e = x.1 in cc)

  -- a run's call that was refused, as the item's
  pub commands-failed : (parts : List PartModel) (r : Result (VecDeque Value Global) PlayFault) → IfErr r (λ why. (k' ≡ k) × CannotServeRun table k node asking parts v why) → IfErr r (λ why. (k' ≡ k) × CannotBeServed table k node asking (Runs (map unnumbered parts)) v why)
  commands-failed parts (Ok replies) x = tt
  commands-failed parts (Err why) x = (x.0, cannot-be-served parts why x.1)

  pub single-ok : (parts : List PartModel) (r : Result (VecDeque Value Global) PlayFault) → length parts ≡ 1 → IfOk r (λ said. IsRunSaid table k node asking parts v k' said.items) → IfOk r (λ said. IsReplied table k node asking (Runs (map unnumbered parts)) v k' said.items)
  single-ok parts (Ok said) one x = single-replied parts said.items one x
  single-ok parts (Err why) one x = tt

  pub block-ok : (parts : List PartModel) (r : Result (VecDeque Value Global) PlayFault) → 0 < length parts → (length parts ≡ 1 → ⊥) → IfOk r (λ said. BlockOutcome table k node asking parts v k' said.items) → IfOk r (λ said. IsReplied table k node asking (Runs (map unnumbered parts)) v k' said.items)
  block-ok parts (Ok said) some many x = block-replied parts said.items some many x
  block-ok parts (Err why) some many x = tt

  values-many : (tolds : List Told) (values : List Value) → AreWritten table tolds values → length values ≡ length tolds
  values-many [] [] x = refl
  values-many [] (value ∷ values) x = absurd x
  values-many (told ∷ tolds) [] x = absurd x
  values-many (told ∷ tolds) (value ∷ values) x = ap suc (values-many tolds values x.1)

  told-many : (said : Told) (cs : List PartModel) (tolds : List Told) → AllTold said cs tolds → length tolds ≡ length cs
  told-many said [] [] x = refl
  told-many said [] (told ∷ tolds) x = absurd x
  told-many said (c ∷ cs) [] x = absurd x
  told-many said (c ∷ cs) (told ∷ tolds) x = ap suc (told-many said cs tolds x.1)

  replies-many : (cs : List PartModel) (store : StoreModel) (tolds : List Told) → AreReplies store cs tolds → length tolds ≡ length cs
  replies-many [] store [] x = refl
  replies-many [] store (told ∷ tolds) x = absurd x
  replies-many (c ∷ cs) store [] x = absurd x
  replies-many (c ∷ cs) store (told ∷ tolds) x = ap suc (replies-many cs (store_after store c) tolds x.1)

  run-many : (deed : Deed) (cs : List PartModel) (tolds : List Told) → DoesRun deed k node cs tolds k' → length tolds ≡ length cs
  run-many Executes cs tolds x = replies-many cs (store_at k node) tolds x.0
  run-many (Says said) cs tolds x = told-many said cs tolds x.0

  block-many : (deed : Deed) (cs : List PartModel) (replies : List Value) → BlockDone table deed k node cs k' replies → length replies ≡ length cs + 2
  block-many Executes cs replies x = omega (arith, ap length x.7, length-append (replicate (length cs) queued) (x.2 ∷ []), length-replicate (length cs) queued)
  block-many (Says said) cs replies x = omega (arith, ap length x.5, length-append x.1 (exec_aborted ∷ []), values-many x.0 x.1 x.4, told-many said cs x.0 x.2)

  -- there is room for the replies
  pub replies-fit : (item : Item) (replies : List Value) → IsReplied table k node asking item v k' replies → length replies ≤ most_replies item
  replies-fit Asks replies x = omega (arith, ap length x.1)
  replies-fit (Runs []) replies x = absurd x
  replies-fit (Runs (p ∷ [])) replies x = omega (arith, values-many x.0 replies x.3, run-many (deed_for k node asking (p.1 ∷ []) v) (p.1 ∷ []) x.0 x.2)
  replies-fit (Runs (p ∷ q ∷ ps)) replies x =
      let many = block-many (deed_for k node asking (parts_in (p ∷ q ∷ ps)) v) (parts_in (p ∷ q ∷ ps)) replies x.1 in
      omega (arith, many, parts-many ps)
    where
      parts-many : (ps : List Part) → length (parts_in ps) ≡ length ps
      parts-many [] = refl
      parts-many (p ∷ ps) = ap suc (parts-many ps)
  replies-fit Lists replies x = omega (arith, ap length x.2)
