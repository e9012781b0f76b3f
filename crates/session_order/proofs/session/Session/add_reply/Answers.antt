use Rattle.session_order.proofs.Added.{sound_reply}
use Rattle.session_order.proofs.session.Session.add_reply.Goals as goal

pub invariant_of-self-2 : goal.invariant_of-self-2
invariant_of-self-2 c =
    let few = rw (← c.self.view_is) at c.requires.open.1 in
    sound_reply _ _ _ _ _ _ c.args.value c.self.invariant few c.in_ok-push_back.ensures.items
