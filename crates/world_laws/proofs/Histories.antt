-- What a node's deed adds to a history: an execution one legal entry, a refusal none.
use Rattle.std.proofs.Common.{◌≡◌, ℕ, Bool, true, false, List, [], ◌∷◌, ◌++◌, refl}
use Rattle.key_split.specs.declared.travel.Told.{Told}
use Rattle.key_split.specs.declared.travel.Told.TheVariants.{Reply, Moved, Ask, TryAgain, ClusterDown, Unclear, Unsent}
use Rattle.node_model.specs.Store.{StoreModel, store_after, reply_to}
use Rattle.node_model.specs.History.{EntryModel, IsLegal, left_by}
use Rattle.node_model.specs.Serving.{by_role}
use Rattle.node_model.specs.declared.role.Role.{Role}
use Rattle.node_model.specs.declared.role.Role.TheVariants.{Owner, Migrating, Importing, Away}
use Rattle.node_model.specs.declared.role.KeysHeld.{KeysHeld}
use Rattle.node_model.specs.declared.role.KeysHeld.TheVariants.{AllHeld, SomeHeld, NoneHeld}
use Rattle.world_laws.proofs.Homes.{if_says}

pub left_by-append : (st : StoreModel) (es : List EntryModel) (e : EntryModel) → left_by st (es ++ e ∷ []) ≡ store_after (left_by st es) e.part
left_by-append st [] e = refl
left_by-append st (x ∷ es) e = left_by-append ((store_after st x.part)) es e

pub legal-append : (st : StoreModel) (es : List EntryModel) (e : EntryModel) → IsLegal st es → e.reply ≡ reply_to (left_by st es) e.part → IsLegal st (es ++ e ∷ [])
legal-append st [] e h r = (r, tt)
legal-append st (x ∷ es) e h r = (h.0, legal-append ((store_after st x.part)) es e h.1 r)

-- a node that says something has not replied
abbrev pub is_reply : Told → ℕ
is_reply (Reply value) = 1
is_reply (Moved slot node) = 0
is_reply (Ask slot node) = 0
is_reply TryAgain = 0
is_reply ClusterDown = 0
is_reply Unclear = 0
is_reply Told.Lost = 0
is_reply Unsent = 0

pub role-no_reply : (r : Role) (a : Bool) (held : KeysHeld) (one : Bool) (slot : ℕ) → if_says is_reply (by_role r a held one slot) ≡ 0
role-no_reply Owner a held one slot = refl
role-no_reply (Migrating m) a AllHeld one slot = refl
role-no_reply (Migrating m) a SomeHeld one slot = refl
role-no_reply (Migrating m) a NoneHeld one slot = refl
role-no_reply (Importing m) false held one slot = refl
role-no_reply (Importing m) true AllHeld one slot = refl
role-no_reply (Importing m) true SomeHeld true slot = refl
role-no_reply (Importing m) true SomeHeld false slot = refl
role-no_reply (Importing m) true NoneHeld true slot = refl
role-no_reply (Importing m) true NoneHeld false slot = refl
role-no_reply (Away m) a held one slot = refl
