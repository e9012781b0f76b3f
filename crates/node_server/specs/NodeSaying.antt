-- Whether serving a command told a reply, and commands that were served together replies alone.
-- Only private functions cite it.
use Rattle.std.specs.Prelude.{◌≡◌, Bool, true, false, List, map, Some, None, Result, Ok, Err, Vec}
use Rattle.std.specs.declared.alloc.Global.{Global}
use Rattle.resp_wire.specs.Seen.{data_of}
use Rattle.resp_wire.specs.declared.value.Value.{Value}
use Rattle.key_split.specs.declared.travel.Told.{Told}
use Rattle.key_split.specs.declared.travel.Told.TheVariants.{Reply, Moved, Ask, TryAgain, ClusterDown, Unclear, Lost, Unsent}
use Rattle.node_server.specs.NodeAnswers.{refused_in, replies_in}

abbrev pub is_reply : Told → Bool
is_reply (Reply v) = true
is_reply (Moved slot node) = false
is_reply (Ask slot node) = false
is_reply TryAgain = false
is_reply ClusterDown = false
is_reply Unclear = false
is_reply Lost = false
is_reply Unsent = false

-- the reply, or what else was told
abbrev pub Parted : Told → Result Value Told → Type 0
Parted told (Ok value) = told ≡ Reply value
Parted told (Err back) = (back ≡ told) × (is_reply told ≡ false)

abbrev pub PartedAll : List Told → Result (Vec Value Global) Told → Type 0
PartedAll tolds (Ok replies) = (refused_in tolds ≡ None) × (map data_of replies.items ≡ replies_in tolds)
PartedAll tolds (Err told) = refused_in tolds ≡ Some told
