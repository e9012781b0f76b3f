use Rattle.std.proofs.Common.{◌∙◌, ◌++◌, List, ap, sym, append_assoc}
use Rattle.std.specs.List.{flat_map, fold}
use Rattle.std.specs.Vec.Iter.{into_iter_items}
use Rattle.script_runs.specs.Answered.{put_reply, ends_noted}
use Rattle.script_runs.specs.declared.record.ClientRecord.{ClientRecord}
use Rattle.script_runs.proofs.clients.gather.Goals as goal

pub loop-client-preserved : goal.loop-client-preserved
loop-client-preserved c =
    let i = c.loop-client.invariant in
    let rest = into_iter_items c.next.new.self in
    let left = c.in-Some.ensures.steps.0 in
    record {
      replies = rw c.put.ensures (ap (λ (cs : List ClientRecord). fold put_reply c.loop-client.replies.items cs) (sym left) ∙ i.replies);
      ends = rw c.in_ok-append.ensures.items (append_assoc c.loop-client.ends.items c.in-Some.client.ends.items (flat_map ends_noted rest)
          ∙ ap (λ (cs : List ClientRecord). c.loop-client.ends.items ++ flat_map ends_noted cs) (sym left) ∙ i.ends);
    }
