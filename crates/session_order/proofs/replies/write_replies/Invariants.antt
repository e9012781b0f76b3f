use Rattle.std.proofs.Common.{◌≡◌, ◌<◌, ◌≤◌, ◌+◌, ◌++◌, [], ℕ, true, length, drop, take}
use Rattle.std.specs.List.{list_all}
use Rattle.session_order.specs.Turn.{is_done}
use Rattle.session_order.specs.Replies.{parts_of, AreJoinable, bytes_of, first_replies, replies, replied}
use Rattle.session_order.proofs.replies.write_replies.Given as goal

-- the parts so far are done, what was written are the replies so far, which were too few, and the counts so far and those of what
-- is left are the counts
abbrev pub invariant-loop-i : goal.invariant-loop-i
invariant-loop-i l =
    let requests = drop l.i l.requests.items in
    let stages = drop l.parts l.queue.stages in
    let ends = drop l.parts l.ends in
    record {
      bound : l.parts ≤ length l.queue.stages;
      known : list_all is_done (take l.parts l.queue.stages) ≡ true;
      counted : parts_of requests ≡ length stages;
      joinable : AreJoinable requests;
      written : l.out.items ≡ l.fn.out.items ++ bytes_of (replies (take l.i l.requests.items) l.queue.stages l.ends []);
      parts : l.parts ≡ parts_of (take l.i l.requests.items);
      request_count : l.i + (replied requests stages ends).0 ≡ (replied l.requests.items l.queue.stages l.ends).0;
      no_more : (fewer : ℕ) → fewer < l.i → length (bytes_of (first_replies fewer l.requests.items l.queue.stages l.ends [])) < l.most;
    }
