use Rattle.std.proofs.Common.{[], ◌∷◌, drop, refl}
use Rattle.key_split.specs.declared.planned.Joining.TheVariants.{One}
use Rattle.key_split.specs.OneKey.{one_at}
use Rattle.session_order.proofs.Added.{sound_parts}
use Rattle.session_order.proofs.session.Session.add_one.Goals as goal

pub invariant_of-self-2 : goal.invariant_of-self-2
invariant_of-self-2 c =
    let few = rw (← c.self.view_is) at c.requires.open.1 in
    sound_parts _ c.self.inside.requests.items _ c.self.inside.queue _ c.self.inside.ends.items _ _ One (one_at c.args.op (drop 1 c.args.words.now) ∷ []) 1 c.self.invariant few refl refl
    (rw c.reserve.ensures.items at c.push_back_reserved.ensures.items) c.in_ok-add_one.ensures.ok (rw c.reserve-2.ensures.items at c.push_back_reserved-2.ensures.items)
