use Rattle.std.proofs.Common.{rules}
use Rattle.resp_wire.specs.Seen.{data_of}
use Rattle.resp_wire.specs.Same.{same_value, tells}
use Rattle.key_split.specs.Same.{told}
use Rattle.cluster_world.proofs.lawful.replied.Goals as goal

pub returns : goal.returns
returns c =
    rw (← c.entry.view_is) (told c.eq.result (same_value c.entry.inside.reply c.args.value.now) (search rules) (tells (data_of c.entry.inside.reply) (data_of c.args.value.now)))
