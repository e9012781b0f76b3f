use Rattle.std.proofs.Common.{◌≡◌, Some, map, take}
use Rattle.program_words.specs.Endpoints.{endpoints_of}
use Rattle.program_words.proofs.Addresses.{named}
use Rattle.program_words.proofs.seeds.addresses_of.Given as goal

abbrev pub invariant-loop-text : goal.invariant-loop-text
invariant-loop-text l = named (take l.text-index l.texts) ≡ map Some (endpoints_of l.addresses.items)
