use Rattle.std.proofs.Common.{ap, ◌∙◌, Ok}
use Rattle.script_runs.proofs.Finding.{local-means, close-means, parts-mean}
use Rattle.script_runs.proofs.wanted.wanted_in.Goals as goal

pub returns-in-Local : goal.returns-in-Local
returns-in-Local c = λ words rest is. local-means c.args.number words c.in-Local.value c.requires.numbered (is ∙ ap Ok c.in-Local.is) rest

pub returns-in-Parts : goal.returns-in-Parts
returns-in-Parts c =
    λ words rest is. parts-mean c.args.number words c.in-Parts.how c.in-Parts.parts c.within_limit.result (is ∙ ap Ok c.in-Parts.is) (rw c.in-Parts.is at c.requires.joinable) c.within_limit.ensures rest

pub returns-in-Close : goal.returns-in-Close
returns-in-Close c = λ words rest is. close-means c.args.number words (is ∙ ap Ok c.in-Close.is) rest
