use Rattle.std.proofs.lemmas.Result.{err_from_is_err_and}
use Rattle.std.proofs.Common.{refl, Ok, Err}
use Rattle.proxy_turns.specs.ClientTurn.{is_begin}
use Rattle.proxy_turns.proofs.Going.{follows, stays}
use Rattle.proxy_turns.proofs.Sound.{sound_follows, last_out}
use Rattle.proxy_turns.proofs.client_parts.ClientParts.begin_follower.Goals as goal

pub invariant_of-self-then-followed : goal.invariant_of-self-then-followed
invariant_of-self-then-followed g c =
    sound_follows c.self.inside.session c.follow.new.session c.self.inside.commands c.follow.new.self c.follow.result (c.takes_more.ensures c.if-not-takes_more.false) c.follow.ensures c.self.invariant

pub returns-then-followed-clause-begins : goal.returns-then-followed-clause-begins
returns-then-followed-clause-begins g c = λ outlet view.
    rw (← c.self.view_is) (follows g.C.ClientPort.moves is_begin _ outlet view (λ ticket part. refl) c.follow.new.session c.follow.new.self (Ok c.in_ok-followed.followed) (rw (← c.self.view_is) at c.requires) c.in_ok-followed.ensures)

pub returns-then-not-takes_more-clause-begins : goal.returns-then-not-takes_more-clause-begins
returns-then-not-takes_more-clause-begins g c = λ outlet view. stays g.C.ClientPort.moves is_begin _

pub follow-requires : goal.follow-requires
follow-requires g c = last_out c.self.inside.session c.self.inside.commands c.self.invariant

pub invariant_of-self : goal.invariant_of-self
invariant_of-self g c = sound_follows c.self.inside.session c.follow.new.session c.self.inside.commands c.follow.new.self c.follow.result (c.takes_more.ensures c.if-not-takes_more.false) c.follow.ensures c.self.invariant

pub invariant_of-self-else-followed : goal.invariant_of-self-else-followed
invariant_of-self-else-followed g c = sound_follows c.self.inside.session c.follow.new.session c.self.inside.commands c.follow.new.self c.follow.result (c.takes_more.ensures c.if-not-takes_more.false) c.follow.ensures c.self.invariant

pub returns-in_err-followed-clause-begins : goal.returns-in_err-followed-clause-begins
returns-in_err-followed-clause-begins g c = λ outlet view.
    let is = (err_from_is_err_and c.from_residual.result c.from_residual.ensures.1).1 in
    rw is (rw (← c.self.view_is) (follows g.C.ClientPort.moves is_begin _ outlet view (λ ticket part. refl) c.follow.new.session c.follow.new.self (Err _) (rw (← c.self.view_is) at c.requires) c.in_err-followed.ensures))

pub returns-in_err-followed-clause-gone : goal.returns-in_err-followed-clause-gone
returns-in_err-followed-clause-gone g c = rw (← c.self.view_is) refl

pub returns-then-followed-clause-gone : goal.returns-then-followed-clause-gone
returns-then-followed-clause-gone g c = rw (← c.self.view_is) refl

pub returns-else-followed-clause-begins : goal.returns-else-followed-clause-begins
returns-else-followed-clause-begins g c = λ outlet view.
    rw (← c.self.view_is) (follows g.C.ClientPort.moves is_begin _ outlet view (λ ticket part. refl) c.follow.new.session c.follow.new.self (Ok c.in_ok-followed.followed) (rw (← c.self.view_is) at c.requires) c.in_ok-followed.ensures)

pub returns-else-followed-clause-gone : goal.returns-else-followed-clause-gone
returns-else-followed-clause-gone g c = rw (← c.self.view_is) refl
