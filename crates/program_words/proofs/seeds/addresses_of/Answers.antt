use Rattle.std.proofs.Common.{arith}
use Rattle.program_words.proofs.Addresses.{all_read, none_read}
use Rattle.program_words.proofs.seeds.addresses_of.Goals as goal

pub returns-in_default : goal.returns-in_default
returns-in_default c = none_read c.args.texts.now c.loop-text.text-index _ c.loop-text-test.true c.in_default.ensures

pub returns : goal.returns
returns c = all_read c.args.texts.now c.loop-text.text-index c.loop-text.addresses.items (omega (arith, c.loop-text-test.false)) c.loop-text.invariant
