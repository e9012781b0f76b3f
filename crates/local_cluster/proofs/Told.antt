-- A node says what it replies, MOVED, ASK, TRYAGAIN or CLUSTERDOWN.
use Rattle.std.proofs.Common.{◌≡◌, ℕ, Bool, true, false, cond, List, Option, Some, None, Result, Ok, Err, MatchOption, refl, sym, subst, ap, inl, inr, nat_lt, length}
use Rattle.resp_wire.specs.Data.{Data}
use Rattle.key_split.specs.declared.travel.Batch.{Batch}
use Rattle.key_split.specs.declared.travel.Told.{Told}
use Rattle.key_split.specs.declared.travel.Told.TheVariants.{Reply, Moved, Ask, TryAgain, ClusterDown, Unclear, Lost, Unsent}
use Rattle.key_split.specs.PartModel.{PartModel}
use Rattle.node_model.specs.Nodes.{ClusterModel}
use Rattle.node_model.specs.Serving.{NodeAnswers, NodeDoes, IsReply, Serves, by_role, deed_at, refusal_of}
use Rattle.node_model.specs.declared.role.Deed.{Deed}
use Rattle.node_model.specs.declared.role.Deed.TheVariants.{Executes, Says}
use Rattle.node_model.specs.declared.role.KeysHeld.{KeysHeld}
use Rattle.node_model.specs.declared.role.KeysHeld.TheVariants.{AllHeld, SomeHeld, NoneHeld}
use Rattle.node_model.specs.declared.role.Role.{Role}
use Rattle.node_model.specs.declared.role.Role.TheVariants.{Owner, Migrating, Importing, Away}
use Rattle.node_model.specs.declared.role.ServeFault.{ServeFault}
use Rattle.node_model.specs.declared.role.Verdict.TheVariants.{Plain}
use Rattle.local_cluster.specs.Held.{IsSaid, Tells, WasTold}
use Rattle.local_cluster.specs.Local.{LocalStateModel}

-- a deed that says what a node may say
abbrev IsFit : Deed → Type 0
IsFit Executes = Unit {0}
IsFit (Says told) = IsSaid told

one-fit : (one : Bool) → IsFit (cond one Executes (Says TryAgain))
one-fit true = tt
one-fit false = tt

role-fit : (role : Role) (asking : Bool) (held : KeysHeld) (one : Bool) (slot : ℕ) → IsFit (by_role role asking held one slot)
role-fit Owner asking held one slot = tt
role-fit (Migrating target) asking AllHeld one slot = tt
role-fit (Migrating target) asking SomeHeld one slot = tt
role-fit (Migrating target) asking NoneHeld one slot = tt
role-fit (Importing source) false held one slot = tt
role-fit (Importing source) true AllHeld one slot = tt
role-fit (Importing source) true SomeHeld one slot = one-fit one
role-fit (Importing source) true NoneHeld one slot = one-fit one
role-fit (Away node) asking held one slot = tt

reply-said : (told : Told) (reply : Data) → IsReply told reply → IsSaid told
reply-said (Reply value) reply is = tt
reply-said (Moved slot node) reply is = tt
reply-said (Ask slot node) reply is = tt
reply-said TryAgain reply is = tt
reply-said ClusterDown reply is = tt
reply-said Unclear reply is = is
reply-said Lost reply is = is
reply-said Unsent reply is = is

deed-said : (deed : Deed) (k k' : ClusterModel) (node : ℕ) (c : PartModel) (told : Told) → IsFit deed → NodeDoes deed k node c told k' → IsSaid told
deed-said Executes k k' node c told fit does = reply-said told _ does.0
deed-said (Says said) k k' node c told fit does = subst IsSaid (sym does.0) fit

abbrev is_ok : Result Told ServeFault → Type 0
is_ok (Ok told) = Unit {0}
is_ok (Err fault) = ⊥

ok-err : (told : Told) (fault : ServeFault) → Ok told ≡ Err fault → ⊥
ok-err told fault e = subst is_ok e tt

answer-said : (refusal : Option ServeFault) (deed : Deed) (k k' : ClusterModel) (node : ℕ) (c : PartModel) (told : Told) → IsFit deed
    → MatchOption refusal (NodeAnswers deed k node c (Ok told) k') (λ fault. (Ok told ≡ Err fault) × (k' ≡ k)) → IsSaid told
answer-said None deed k k' node c told fit answers = deed-said deed k k' node c told fit answers
answer-said (Some fault) deed k k' node c told fit answers = absurd (ok-err told fault answers.0)

serves-said : (k k' : ClusterModel) (node : ℕ) (asking : Bool) (c : PartModel) (told : Told) → Serves k node asking c Plain (Ok told) k' → IsSaid told
serves-said k k' node asking c told serves =
    answer-said (refusal_of k node Plain) (deed_at k node asking c Plain) k k' node c told (role-fit _ asking _ _ _) serves

tells-said : (s s' : LocalStateModel) (b : Batch) (told : Told) → Tells s b told s' → IsSaid told
tells-said s s' b told (inl served) = serves-said s.nodes served.0 b.node _ b.part told served.1
tells-said s s' b told (inr down) = subst IsSaid (sym down.1) tt

pub was_said : (b : Batch) (told : Told) → WasTold b told → IsSaid told
was_said b told w = tells-said w.0 w.1 b told w.4
