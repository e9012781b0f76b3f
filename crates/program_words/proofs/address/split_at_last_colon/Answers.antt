use Rattle.std.proofs.Common.{rules}
use Rattle.program_words.proofs.Colon.{lacks, cut}
use Rattle.program_words.proofs.address.split_at_last_colon.Goals as goal

pub returns : goal.returns
returns c = search (rules, lacks, cut)
