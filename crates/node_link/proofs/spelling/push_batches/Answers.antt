use Rattle.std.proofs.Common.{◌<◌, ◌-◌, ◌++◌, List, ap, arith, drop, length, sym, take, ◌∙◌}
use Rattle.std.specs.List.{flat_map}
use Rattle.key_split.specs.declared.travel.Batch.{Batch}
use Rattle.key_split.specs.Requests.{requests_of}
use Rattle.node_link.specs.Bytes.{spelled}
use Rattle.node_link.proofs.PlainRequests.{first_of, later_plain, none_plain}
use Rattle.node_link.proofs.Words.{batch_behind}
use Rattle.node_link.proofs.spelling.push_batches.Goals as goal

pub loop-rest-preserved : goal.loop-rest-preserved
loop-rest-preserved c =
    let rest = c.loop-rest.rest.now in
    let before = c.loop-rest.out.draft in record {
      draft = batch_behind before c.push_batch.new.out.draft c.batch-item.result (take (length rest - 1) (drop 1 rest)) c.in_ok-push_batch.ensures.ok
          ∙ ap (λ (bs : List Batch). before ++ spelled (flat_map requests_of bs)) (sym (first_of rest c.batch-item.result c.in-len1-up.len_at_least c.batch-item.is))
          ∙ c.loop-rest.invariant.draft;
      plain = later_plain rest c.args.batches.now c.batch-item.result c.in-len1-up.len_at_least c.batch-item.is c.in_ok-push_batch.ensures.plain c.loop-rest.invariant.plain;
      kept = c.push_batch.ensures.kept ∙ c.loop-rest.invariant.kept;
    }

pub returns-clause-plain : goal.returns-clause-plain
returns-clause-plain c =
    let none : length c.loop-rest.rest.now < 1 = omega arith in
    c.loop-rest.invariant.plain (none_plain c.loop-rest.rest.now none)
