use Rattle.std.proofs.Common.{◌≡◌, ap, length}
use Rattle.session_order.proofs.Added.{sound_parts}
use Rattle.session_order.proofs.session.Session.add_parts.Goals as goal

pub invariant_of-self-2 : goal.invariant_of-self-2
invariant_of-self-2 c =
    let few = rw (← c.self.view_is) at c.requires.open.1 in
    let counted : c.as_slice-count.result.now ≡ c.args.parts = c.as_slice-count.ensures in
    sound_parts _ c.self.inside.requests.items _ c.self.inside.queue _ c.self.inside.ends.items _ _ c.args.how c.args.parts (length c.as_slice-count.result.now) c.self.invariant few c.requires.joinable
    (ap length counted) (rw c.queue_parts.ensures.requests at c.push_back_reserved.ensures.items) (rw c.into_vec.ensures at c.in_ok-queue_parts.ensures.ok) (rw c.queue_parts.ensures.ends at c.push_lost.ensures)
