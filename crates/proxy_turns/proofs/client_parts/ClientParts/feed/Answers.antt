use Rattle.session_order.specs.declared.fault.SessionFault.TheVariants as fault
use Rattle.std.proofs.Common.{◌∙◌, refl, rules, Ok, Err, false}
use Rattle.session_order.proofs.Kept.{calls_keep}
use Rattle.proxy_turns.specs.ClientTurn.{is_feed}
use Rattle.proxy_turns.proofs.Going.{fed, stays}
use Rattle.proxy_turns.proofs.Sound.{sound_kept}
use Rattle.proxy_turns.proofs.ClientResting.{fed_still, feed_fault, unfed_none}
use Rattle.proxy_turns.proofs.client_parts.ClientParts.feed.Goals as goal

pub invariant_of-self : goal.invariant_of-self
invariant_of-self g c =
    let keeps = calls_keep.feed c.self.inside.session c.self.inside.unfed c.feed.result c.feed.new.session c.feed.ensures.does in
    sound_kept c.self.inside.session c.feed.new.session c.self.inside.commands keeps.order keeps.parts c.self.invariant

pub returns-in-Ok-clause-feeds : goal.returns-in-Ok-clause-feeds
returns-in-Ok-clause-feeds g c = λ outlet view.
    rw (← c.self.view_is) (fed g.C.ClientPort.moves is_feed _ outlet view (λ result. refl) _ (Ok c.in-Ok.count) _ _ c.in-Ok.ensures.does (c.give_room.ensures ∙ c.in-Ok.ensures.left) refl)

pub returns-in-Ok-clause-none : goal.returns-in-Ok-clause-none
returns-in-Ok-clause-none g c = rw (← c.self.view_is) (fed_still _ _ _ c.in-Ok.count c.in-Ok.ensures.does (c.give_room.ensures ∙ c.in-Ok.ensures.left))

pub returns-then-is_empty-clause-none : goal.returns-then-is_empty-clause-none
returns-then-is_empty-clause-none g c = rw (← c.self.view_is) (unfed_none _ (search rules))

pub returns-in-Err-Wire-clause-none : goal.returns-in-Err-Wire-clause-none
returns-in-Err-Wire-clause-none g c =
    let done = rw c.in-Err-Wire.field-0-is at c.in-Err-Wire.ensures.does in
    let left = c.in-Err-Wire.ensures.left in
    rw (← c.self.view_is) (feed_fault _ _ _ _ done.0 done.1 left)

pub returns-in-Err-NotRequest-clause-none : goal.returns-in-Err-NotRequest-clause-none
returns-in-Err-NotRequest-clause-none g c =
    let done = rw c.in-Err-NotRequest.field-0-is at c.in-Err-NotRequest.ensures.does in
    let left = c.in-Err-NotRequest.ensures.left in
    rw (← c.self.view_is) (feed_fault _ _ _ _ done.0 done.1 left)

pub returns-then-is_empty-clause-feeds : goal.returns-then-is_empty-clause-feeds
returns-then-is_empty-clause-feeds g c = λ outlet view. stays g.C.ClientPort.moves is_feed _

pub invariant_of-self-in-Err-NoMemory : goal.invariant_of-self-in-Err-NoMemory
invariant_of-self-in-Err-NoMemory g c =
    let keeps = calls_keep.feed c.self.inside.session c.self.inside.unfed c.feed.result c.feed.new.session c.feed.ensures.does in
    sound_kept c.self.inside.session c.feed.new.session c.self.inside.commands keeps.order keeps.parts c.self.invariant

pub returns-in-Err-NoMemory-clause-feeds : goal.returns-in-Err-NoMemory-clause-feeds
returns-in-Err-NoMemory-clause-feeds g c = λ outlet view.
    let done = rw c.in-Err-NoMemory.field-0-is at c.in-Err-NoMemory.ensures.does in
    let left = c.in-Err-NoMemory.ensures.left in
    rw (← c.self.view_is) (false, fed g.C.ClientPort.moves is_feed _ outlet view (λ result. refl) _ (Err fault.NoMemory) _ _ done left refl)

pub invariant_of-self-in-Err-Wire : goal.invariant_of-self-in-Err-Wire
invariant_of-self-in-Err-Wire g c =
    let keeps = calls_keep.feed c.self.inside.session c.self.inside.unfed c.feed.result c.feed.new.session c.feed.ensures.does in
    sound_kept c.self.inside.session c.feed.new.session c.self.inside.commands keeps.order keeps.parts c.self.invariant

pub returns-in-Err-Wire-clause-feeds : goal.returns-in-Err-Wire-clause-feeds
returns-in-Err-Wire-clause-feeds g c = λ outlet view.
    let done = rw c.in-Err-Wire.field-0-is at c.in-Err-Wire.ensures.does in
    let left = c.in-Err-Wire.ensures.left in
    rw (← c.self.view_is) (fed g.C.ClientPort.moves is_feed _ outlet view (λ result. refl) _ (Err (fault.Wire _)) _ _ done left refl)

pub invariant_of-self-in-Err-NotRequest : goal.invariant_of-self-in-Err-NotRequest
invariant_of-self-in-Err-NotRequest g c =
    let keeps = calls_keep.feed c.self.inside.session c.self.inside.unfed c.feed.result c.feed.new.session c.feed.ensures.does in
    sound_kept c.self.inside.session c.feed.new.session c.self.inside.commands keeps.order keeps.parts c.self.invariant

pub returns-in-Err-NotRequest-clause-feeds : goal.returns-in-Err-NotRequest-clause-feeds
returns-in-Err-NotRequest-clause-feeds g c = λ outlet view.
    let done = rw c.in-Err-NotRequest.field-0-is at c.in-Err-NotRequest.ensures.does in
    let left = c.in-Err-NotRequest.ensures.left in
    rw (← c.self.view_is) (fed g.C.ClientPort.moves is_feed _ outlet view (λ result. refl) _ (Err fault.NotRequest) _ _ done left refl)
