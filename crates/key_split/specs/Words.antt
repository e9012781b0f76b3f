-- The words by which a node is asked for an operation: Redis command reference.
-- Names are written in capitals, numbers as canonical decimals. A node that plans these words finds the part that they
-- were made of (Laws.antt, `PlannedBack`).
use Rattle.std.specs.Prelude.{ℕ, List, [], ◌∷◌, ◌++◌, codes}
use Rattle.std.specs.List.{flat_map}
use Rattle.std.specs.Fmt.{signed_decimal}
use Rattle.key_split.specs.declared.part.Op.{Op}
use Rattle.key_split.specs.declared.part.Op.TheVariants.{Get, Set, SetNx, GetSet, GetDel, Append, StrLen, Incr, Decr, IncrBy, Del, Exists, MGet, MSet}
use Rattle.key_split.specs.declared.part.Mode.TheVariants.{Always, IfAbsent, IfPresent}
use Rattle.key_split.specs.declared.name.Name.{Name}
use Rattle.key_split.specs.declared.name.Name.TheVariants as name
use Rattle.key_split.specs.PartModel.{PartModel, Pair}
use Rattle.key_split.specs.Names.{text_of}

-- the command that an operation belongs to
abbrev pub op_name : Op → Name
op_name Get = name.Get
op_name (Set mode) = name.Set
op_name SetNx = name.SetNx
op_name GetSet = name.GetSet
op_name GetDel = name.GetDel
op_name Append = name.Append
op_name StrLen = name.StrLen
op_name Incr = name.Incr
op_name Decr = name.Decr
op_name (IncrBy n) = name.IncrBy
op_name Del = name.Del
op_name Exists = name.Exists
op_name MGet = name.MGet
op_name MSet = name.MSet

-- what stands behind the key
abbrev pub behind_key : Op → List ℕ → List (List ℕ)
behind_key (Set Always) v = v ∷ []
behind_key (Set IfAbsent) v = v ∷ codes "NX" ∷ []
behind_key (Set IfPresent) v = v ∷ codes "XX" ∷ []
behind_key SetNx v = v ∷ []
behind_key GetSet v = v ∷ []
behind_key Append v = v ∷ []
behind_key (IncrBy n) v = signed_decimal n ∷ []
behind_key Get v = []
behind_key GetDel v = []
behind_key StrLen v = []
behind_key Incr v = []
behind_key Decr v = []
behind_key Del v = []
behind_key Exists v = []
behind_key MGet v = []
behind_key MSet v = v ∷ []

-- a further key, with its value where the operation puts it
abbrev pub pair_words : Op → Pair → List (List ℕ)
pair_words o pair = pair.0 ∷ behind_key o pair.1

abbrev pub words_of : PartModel → List (List ℕ)
words_of c = text_of (op_name c.op) ∷ c.key ∷ behind_key c.op c.arg ++ flat_map (pair_words c.op) c.rest
