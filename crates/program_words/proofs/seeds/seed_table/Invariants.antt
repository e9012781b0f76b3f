use Rattle.std.proofs.Common.{◌≡◌, take}
use Rattle.program_words.specs.Endpoints.{endpoints_of}
use Rattle.program_words.specs.SeedTable.{each_once}
use Rattle.program_words.proofs.seeds.seed_table.Given as goal

abbrev pub invariant-loop-seed : goal.invariant-loop-seed
invariant-loop-seed l = l.table ≡ each_once (endpoints_of (take l.seed-index l.seeds))
