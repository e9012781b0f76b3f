-- How a node serves a run: it executes all its commands, in order and at once, or none of them.
-- Redis documentation, MULTI and EXEC. The node looks at the keys once, at the run's start, as at those of one command
-- (Serving.antt): a run is no chain of single serves, of which the first could delete a key that the second needs held.
use Rattle.std.specs.Prelude.{◌≡◌, ℕ, Bool, List, [], ◌∷◌, ◌++◌, All, MatchOption, Result, Ok, Err, Vec}
use Rattle.std.specs.List.{list_all}
use Rattle.std.specs.Str.{bytes_eq}
use Rattle.std.specs.declared.alloc.Global.{Global}
use Rattle.slot_hash.specs.Slot.{slot_of}
use Rattle.key_split.specs.PartModel.{PartModel, keys_of}
use Rattle.key_split.specs.declared.travel.Told.{Told}
use Rattle.node_model.specs.declared.role.Deed.{Deed}
use Rattle.node_model.specs.declared.role.Deed.TheVariants.{Executes, Says}
use Rattle.node_model.specs.declared.role.Verdict.{Verdict}
use Rattle.node_model.specs.declared.role.ServeFault.{ServeFault}
use Rattle.node_model.specs.declared.role.ServeFault.TheVariants.{NoMemory}
use Rattle.node_model.specs.Store.{StoreModel, store_after, reply_to}
use Rattle.node_model.specs.Nodes.{ClusterModel, role_of, store_at, with_store}
use Rattle.node_model.specs.Serving.{IsReply, deed_of, held_of, refusal_of}

-- the keys of a run, and the first of them
abbrev pub keys_in : List PartModel → List (List ℕ)
keys_in [] = []
keys_in (c ∷ cs) = keys_of c ++ keys_in cs

abbrev pub first_key : List PartModel → List ℕ
first_key [] = []
first_key (c ∷ cs) = c.key

-- one key, repeated or not
abbrev pub have_one_key : List PartModel → Bool
have_one_key cs = list_all (λ key. bytes_eq key (first_key cs)) (keys_in cs)

-- what the node does with the run: as with one command that has all the run's keys
abbrev pub deed_for : ClusterModel → ℕ → Bool → List PartModel → Verdict → Deed
deed_for k node asking cs verdict =
    deed_of verdict (role_of k node (slot_of (first_key cs))) asking (held_of (store_at k node) (keys_in cs)) (have_one_key cs) (slot_of (first_key cs))

-- the store after the commands
abbrev pub store_after_all : StoreModel → List PartModel → StoreModel
store_after_all store [] = store
store_after_all store (c ∷ cs) = store_after_all (store_after store c) cs

-- each is told its reply, in the store that the ones before it leave
abbrev pub AreReplies : StoreModel → List PartModel → List Told → Type 0
AreReplies store [] [] = Unit {0}
AreReplies store (c ∷ cs) (told ∷ tolds) = IsReply told (reply_to store c) × AreReplies (store_after store c) cs tolds
AreReplies store [] (told ∷ tolds) = ⊥
AreReplies store (c ∷ cs) [] = ⊥

-- each is told the same
abbrev pub AllTold : Told → List PartModel → List Told → Type 0
AllTold said [] [] = Unit {0}
AllTold said (c ∷ cs) (told ∷ tolds) = (told ≡ said) × AllTold said cs tolds
AllTold said [] (told ∷ tolds) = ⊥
AllTold said (c ∷ cs) [] = ⊥

-- the node did it, and the commands were told these
abbrev pub DoesRun : Deed → ClusterModel → ℕ → List PartModel → List Told → ClusterModel → Type 0
DoesRun Executes k node cs tolds k' = AreReplies (store_at k node) cs tolds × (k' ≡ with_store k node (store_after_all (store_at k node) cs))
DoesRun (Says said) k node cs tolds k' = AllTold said cs tolds × (k' ≡ k)

-- all keys of the run have the slot of the first
abbrev pub HaveOneSlot : List PartModel → Type 0
HaveOneSlot cs = All (λ key. slot_of key ≡ slot_of (first_key cs)) (keys_in cs)

-- the node does what the definition says, and tells each command; or it finds no memory, and nothing changes
abbrev pub RunAnswers : Deed → ClusterModel → ℕ → List PartModel → Result (Vec Told Global) ServeFault → ClusterModel → Type 0
RunAnswers deed k node cs (Ok tolds) k' = DoesRun deed k node cs tolds.items k'
RunAnswers deed k node cs (Err fault) k' = (fault ≡ NoMemory) × (k' ≡ k)

-- the reasons that need no memory come first
abbrev pub ServesAll : ClusterModel → ℕ → Bool → List PartModel → Verdict → Result (Vec Told Global) ServeFault → ClusterModel → Type 0
ServesAll k node asking cs verdict result k' =
    MatchOption (refusal_of k node verdict) (RunAnswers (deed_for k node asking cs verdict) k node cs result k') (λ fault. (result ≡ Err fault) × (k' ≡ k))
