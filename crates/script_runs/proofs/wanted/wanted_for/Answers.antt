use Rattle.session_order.specs.PendingReply.{plan_for}
use Rattle.key_split.specs.Plan.{plan_of}
use Rattle.script_runs.proofs.Finding.{planned-as, refused-as, refused-means}
use Rattle.script_runs.proofs.wanted.wanted_for.Goals as goal

pub returns-in-Ok : goal.returns-in-Ok
unfolding plan_for
returns-in-Ok c = λ rest. c.wanted_in.ensures c.args.words.now rest (planned-as (plan_of c.args.words.now) c.in-Ok.planned c.in-Ok.ensures.value)

pub returns-in_ok-refusal-in_default : goal.returns-in_ok-refusal-in_default
unfolding plan_for
returns-in_ok-refusal-in_default c =
    refused-means c.args.number c.args.words.now c.in-Err.fault c.in_ok-refusal-in_default.field-0 c.requires.numbered
    (refused-as (plan_of c.args.words.now) c.in-Err.fault c.in_default.not-NoMemory c.in-Err.ensures.value) c.in_ok-refusal-in_default.ensures.value
