-- What the requests of the script ask for, what its replies say, and how its nodes stand.
use Rattle.std.proofs.Common.{◌≡◌, ℕ, zero, suc, ◌*◌, ◌^◌, ◌%◌, Bool, true, false, List, [], ◌∷◌, ◌++◌, Some, None, Ok, refl, sym, ap, ◌∙◌, subst, arith}
use Rattle.std.specs.Prelude.{All, codes, replicate, slice_index_or, cond, Option, is_some, is_none, if◌then◌else◌}
use Rattle.std.specs.FinMap.{get, insert, remove, empty, get-empty, get-insert, get-remove}
use Rattle.std.specs.Ordering.{nat_cmp, eq_by_cmp}
use Rattle.std.specs.Cmp.Lexicographic.{slice_cmp, nat_list_cmp_total}
use Rattle.std.proofs.lemmas.Fmt.{decimal_digit}
use Rattle.std.proofs.lemmas.List.Elements.{All-cons, All-nil}
use Rattle.slot_hash.specs.Slot.{slot_of, crc16_of, tag_of, message}
use Rattle.slot_hash.specs.Division.{IsRemainder-remainder, one_remainder}
use Rattle.slot_hash.specs.Polynomial.{IsRemainder}
use Rattle.slot_map.specs.Table.{Endpoint}
use Rattle.resp_wire.specs.declared.value.Value.{Value}
use Rattle.resp_wire.specs.declared.value.Value.TheVariants.{Error}
use Rattle.resp_wire.specs.Data.{Data, bulk, array, items_of}
use Rattle.resp_wire.specs.LimitsModel.{full}
use Rattle.resp_wire.specs.Spelling.{Spells, length_in}
use Rattle.resp_wire.specs.FirstValue.{front, Whole}
use Rattle.resp_wire.specs.Laws.{FrontIsWhole}
use Rattle.key_split.specs.declared.planned.Planned.TheVariants.{Parts}
use Rattle.key_split.specs.declared.planned.Joining.TheVariants.{One}
use Rattle.key_split.specs.declared.travel.Told.TheVariants.{Ask, Reply}
use Rattle.key_split.specs.declared.travel.Ended.TheVariants.{Answered}
use Rattle.key_split.specs.Names.{name_of}
use Rattle.session_order.specs.PendingReply.{plan_for}
use Rattle.session_order.specs.Replies.{bytes_of, joined, spelling}
use Rattle.node_link.specs.Telling.{told_by}
use Rattle.node_model.specs.Nodes.{ClusterModel, at, role_of, store_at, with_store}
use Rattle.node_model.specs.Standings.{SlotStandingModel, settled_at}
use Rattle.node_model.specs.Moves.{import_done, migrate_done, forget_done, stay_done, own_done, release_done, move_key_done}
use Rattle.node_model.specs.Store.{StoreModel, put, bulk_of}
use Rattle.node_model.specs.Runs.{deed_for, DoesRun}
use Rattle.node_model.specs.Serving.{deed_at, deed_of, held_of, NodeDoes}
use Rattle.node_model.specs.declared.role.Verdict.TheVariants.{Plain}
use Rattle.node_model.specs.declared.role.Deed.TheVariants.{Executes, Says}
use Rattle.node_model.specs.declared.role.KeysHeld.{KeysHeld}
use Rattle.node_model.specs.declared.role.KeysHeld.TheVariants.{AllHeld, SomeHeld, NoneHeld}
use Rattle.key_split.specs.PartModel.{PartModel, keys_of}
use Rattle.key_split.specs.Runs.{GoTogether, IsTogether}
use Rattle.key_split.specs.declared.travel.Batch.{Batch}
use Rattle.key_split.specs.declared.travel.Told.{Told}
use Rattle.command_future.specs.CommandModel.{CommandModel, IsFresh}
use Rattle.std.specs.List.{list_all}
use Rattle.world_laws.specs.Headline.{IsNew}
use Rattle.world_laws.proofs.Alone.{does_alone}
use Rattle.turn_laws.specs.Scripts as script
use Rattle.turn_laws.specs.Scripts.{key, set, ok, five}

-- ---- the slot of the key

is-remainder : IsRemainder (message (tag_of key) * 2 ^ 16) 49153
is-remainder = record { reduced = omega arith; congruent = record { quotient = 21537; equation = refl } }

pub slot-is : slot_of key ≡ 1
unfolding slot_of crc16_of
slot-is = ap (λ n. n % 16384) (one_remainder (message (tag_of key) * 2 ^ 16) _ _ (IsRemainder-remainder _) is-remainder)

-- ---- requests

pub planned-set : plan_for (codes "SET" ∷ key ∷ codes "5" ∷ []) ≡ Ok (Parts One (set ∷ []))
unfolding plan_for name_of
planned-set = refl

pub planned-get : plan_for (codes "GET" ∷ key ∷ []) ≡ Ok (Parts One (script.get ∷ []))
unfolding plan_for name_of
planned-get = refl

-- a word, spelled
abbrev pub word : ℕ → List ℕ → List ℕ
word digit w = 36 ∷ digit ∷ 13 ∷ 10 ∷ (w ++ 13 ∷ 10 ∷ [])

abbrev pub set-bytes : List ℕ
set-bytes = 42 ∷ 51 ∷ 13 ∷ 10 ∷ (word 51 (codes "SET") ++ (word 50 key ++ (word 49 (codes "5") ++ [])))

abbrev pub get-bytes : List ℕ
get-bytes = 42 ∷ 50 ∷ 13 ∷ 10 ∷ (word 51 (codes "GET") ++ (word 50 key ++ []))

abbrev pub set-data : Data
set-data = array (items_of (bulk (codes "SET") ∷ bulk key ∷ bulk (codes "5") ∷ []))

abbrev pub get-data : Data
get-data = array (items_of (bulk (codes "GET") ∷ bulk key ∷ []))

pub spells-set : Spells full 8 set-bytes set-data
unfolding length_in
spells-set = (
  51 ∷ [],
  _,
  7,
  refl,
  refl,
  omega arith,
  record { plain = refl; short = omega arith; are = refl },
  (
    word 51 (codes "SET"),
    _,
    refl,
    (51 ∷ [], refl, omega arith, record { plain = refl; short = omega arith; are = refl }),
    (
      word 50 key,
      _,
      refl,
      (50 ∷ [], refl, omega arith, record { plain = refl; short = omega arith; are = refl }),
      (
        word 49 (codes "5"),
        _,
        refl,
        (49 ∷ [], refl, omega arith, record { plain = refl; short = omega arith; are = refl }),
        refl,
      ),
    ),
  ),
)

pub spells-get : Spells full 8 get-bytes get-data
unfolding length_in
spells-get = (
  50 ∷ [],
  _,
  7,
  refl,
  refl,
  omega arith,
  record { plain = refl; short = omega arith; are = refl },
  (
    word 51 (codes "GET"),
    _,
    refl,
    (51 ∷ [], refl, omega arith, record { plain = refl; short = omega arith; are = refl }),
    (
      word 50 key,
      _,
      refl,
      (50 ∷ [], refl, omega arith, record { plain = refl; short = omega arith; are = refl }),
      refl,
    ),
  ),
)

pub asked-is : script.asked ≡ set-bytes ++ get-bytes
asked-is = refl

pub front-set : FrontIsWhole → front full (set-bytes ++ get-bytes) ≡ Whole set-data get-bytes
front-set law = (law full (set-bytes ++ get-bytes) get-bytes set-data).1 (set-bytes, spells-set, refl)

pub front-get : FrontIsWhole → front full get-bytes ≡ Whole get-data []
front-get law = (law full get-bytes [] get-data).1 (get-bytes, spells-get, refl)

-- ---- replies

-- the two nodes
abbrev pub table : List Endpoint
table = record { host = codes "a"; port = 1 } ∷ record { host = codes "b"; port = 2 } ∷ []

-- the first alone
abbrev pub seed_alone : List Endpoint
seed_alone = record { host = codes "a"; port = 1 } ∷ []

abbrev pub ask : Value
ask = Error (codes "ASK 1 b:2")

pub told-ask : told_by ask 0 table ≡ (Ask 1 1, table)
told-ask = refl

-- the carrier learns the second node from it
pub learns-ask : told_by ask 0 seed_alone ≡ (Ask 1 1, table)
learns-ask = refl

pub written-ok : codes "+OK\r\n" ≡ bytes_of (joined One (Answered ok ∷ []) ∷ [])
unfolding joined spelling
written-ok = refl

pub written-five : codes "$1\r\n5\r\n" ≡ bytes_of (joined One (Answered five ∷ []) ∷ [])
unfolding joined spelling
written-five = ap (λ d. (36 ∷ (d ++ 13 ∷ 10 ∷ 53 ∷ 13 ∷ 10 ∷ [])) ++ []) (sym (decimal_digit 1 (omega arith)))

-- ---- nodes

abbrev pub none : StoreModel
none = empty

-- the key stands in one store, and was taken out of the other
abbrev pub held : StoreModel
held = insert none key (codes "5")

abbrev pub given : StoreModel
given = remove held key

abbrev pub read : StoreModel
read = insert held key (codes "5")

pub in-held : get held key ≡ Some (codes "5")
in-held = get-insert nat_list_cmp_total none key (codes "5") key

pub not-given : get given key ≡ None
not-given = get-remove nat_list_cmp_total held key key

gone : (b : Bool) (o : Option (List ℕ)) (v : Option (List ℕ)) → o ≡ None → cond b None (cond b v o) ≡ None
gone true o v e = refl
gone false o v e = e

pub given-none : (q : List ℕ) → get given q ≡ None
given-none q =
    get-remove nat_list_cmp_total held key q ∙ ap (cond (eq_by_cmp (slice_cmp nat_cmp) q key) None) (get-insert nat_list_cmp_total none key (codes "5") q)
    ∙ gone (eq_by_cmp (slice_cmp nat_cmp) q key) (get none q) (Some (codes "5")) (get-empty (slice_cmp nat_cmp) q)

abbrev pub k0 : ClusterModel
k0 = record { slots = replicate 16384 (settled_at 0); stores = none ∷ none ∷ [] }

pub all-same : {X : Type 0} (n k : ℕ) (x : X) → slice_index_or (replicate n x) k x ≡ x
all-same zero k x = refl
all-same (suc n) zero x = refl
all-same (suc n) (suc k) x = all-same n k x

nothing-held : (node : ℕ) (q : List ℕ) → at k0 node q ≡ None
nothing-held zero q = get-empty (slice_cmp nat_cmp) q
nothing-held (suc zero) q = get-empty (slice_cmp nat_cmp) q
nothing-held (suc (suc node)) q = get-empty (slice_cmp nat_cmp) q

pub new : IsNew k0
new = record { settled = λ slot. ap (λ (s : SlotStandingModel). s.phase) (all-same 16384 slot (settled_at 0)); no_keys = nothing-held }

-- a move is called back, and another begins
abbrev pub k1 : ClusterModel
k1 = import_done k0 1 1

abbrev pub k2 : ClusterModel
k2 = migrate_done k1 1

abbrev pub k3 : ClusterModel
k3 = forget_done k2 1

abbrev pub k4 : ClusterModel
k4 = stay_done k3 1

abbrev pub k5 : ClusterModel
k5 = import_done k4 1 1

-- the key is set
abbrev pub k6 : ClusterModel
k6 = with_store k5 0 held

abbrev pub k7 : ClusterModel
k7 = migrate_done k6 1

-- the key moves
abbrev pub k8 : ClusterModel
k8 = record { slots = k7.slots; stores = given ∷ held ∷ [] }

-- it is read
abbrev pub k9 : ClusterModel
k9 = record { slots = k7.slots; stores = given ∷ read ∷ [] }

abbrev pub k10 : ClusterModel
k10 = own_done k9 1

abbrev pub k11 : ClusterModel
k11 = release_done k10 1

abbrev store_moved : Option (List ℕ) → ClusterModel
store_moved o = record { slots = k7.slots; stores = given ∷ put none key o ∷ [] }

pub key-moved : k8 ≡ move_key_done k7 1 key
key-moved = ap store_moved (sym in-held)

-- ---- what the nodes do

-- how many of one key's places hold it
abbrev by-look : Option (List ℕ) → KeysHeld
by-look o =
    if list_all (λ (q : List ℕ). is_some o) (key ∷ []) then AllHeld
    else (if list_all (λ (q : List ℕ). is_none o) (key ∷ []) then NoneHeld else SomeHeld)

none-held : held_of given (keys_of script.get) ≡ NoneHeld
none-held = ap by-look not-given

all-held : held_of held (keys_of script.get) ≡ AllHeld
all-held = ap by-look in-held

-- a run of one is served as the command alone
pub alone : (k k' : ClusterModel) (node : ℕ) (asking : Bool) (c : PartModel) (told : Told) → NodeDoes (deed_at k node asking c Plain) k node c told k'
    → DoesRun (deed_for k node asking (c ∷ []) Plain) k node (c ∷ []) (told ∷ []) k'
alone k k' node asking c told h =
    let same = does_alone k k' node asking c Plain (deed_at k node asking c Plain) told in
    subst (λ d. DoesRun d k node (c ∷ []) (told ∷ []) k') (sym same.0) (same.1.1 h)

-- ---- commands that go alone

pub fresh-alone : (c : CommandModel) → IsFresh c → All IsFresh (c ∷ [])
fresh-alone c e = All-cons IsFresh c [] e (All-nil IsFresh)

pub goes-alone : {batch : Batch} → IsTogether (record { first = batch; later = [] })
goes-alone {batch} = All-nil (GoTogether batch)

-- the first node owns the slot, and executes
pub sets : deed_at k5 0 false set Plain ≡ Executes
sets = ap (λ n. deed_of Plain (role_of k5 0 n) false (held_of (store_at k5 0) (keys_of set)) true n) slot-is

pub does-set : DoesRun (deed_for k5 0 false (set ∷ []) Plain) k5 0 (set ∷ []) (Reply ok ∷ []) k6
does-set = alone k5 k6 0 false set (Reply ok) (subst (λ d. NodeDoes d k5 0 set (Reply ok) k6) (sym sets) (refl, refl))

-- it gave the key away, and sends to the second
refuses : deed_at k8 0 false script.get Plain ≡ Says (Ask 1 1)
refuses =
    ap (λ n. deed_of Plain (role_of k8 0 n) false (held_of given (keys_of script.get)) true n) slot-is
    ∙ ap (λ h. deed_of Plain (role_of k8 0 1) false h true 1) none-held

pub does-ask : DoesRun (deed_for k8 0 false (script.get ∷ []) Plain) k8 0 (script.get ∷ []) (Ask 1 1 ∷ []) k8
does-ask = alone k8 k8 0 false script.get (Ask 1 1) (subst (λ d. NodeDoes d k8 0 script.get (Ask 1 1) k8) (sym refuses) (refl, refl))

-- the second executes behind ASKING
gets : deed_at k8 1 true script.get Plain ≡ Executes
gets =
    ap (λ n. deed_of Plain (role_of k8 1 n) true (held_of held (keys_of script.get)) true n) slot-is
    ∙ ap (λ h. deed_of Plain (role_of k8 1 1) true h true 1) all-held

abbrev store_read : Option (List ℕ) → ClusterModel
store_read o = record { slots = k7.slots; stores = given ∷ put held key o ∷ [] }

pub does-get : DoesRun (deed_for k8 1 true (script.get ∷ []) Plain) k8 1 (script.get ∷ []) (Reply five ∷ []) k9
does-get = alone k8 k9 1 true script.get (Reply five) (subst (λ d. NodeDoes d k8 1 script.get (Reply five) k9) (sym gets) (ap bulk_of (sym in-held), ap store_read (sym in-held)))
