use Rattle.std.proofs.Common.{refl}
use Rattle.std.proofs.lemmas.Result.{err_from_is_err_and}
use Rattle.session_order.proofs.Kept.{calls_keep}
use Rattle.proxy_turns.proofs.Ending.{finish_err, finishes}
use Rattle.proxy_turns.proofs.Sound.{ended_part, handed_out, sound_ended}
use Rattle.proxy_turns.proofs.client_parts.ClientParts.finish.Goals as goal

pub returns-in_err-note : goal.returns-in_err-note
returns-in_err-note g c =
    let is = (err_from_is_err_and c.from_residual.result c.from_residual.ensures.1).1 in
    rw (← c.self.view_is) (finish_err g.C.ClientPort.moves _ c.args.number _ _ _ is c.in_err-note.ensures.noted)

pub returns-in_default : goal.returns-in_default
returns-in_default g c = rw (← c.self.view_is) (c.in_default.ensures, refl)

pub invariant_of-self-2 : goal.invariant_of-self-2
invariant_of-self-2 g c =
    let out = handed_out c.self.inside.session c.finish-end.result.0 (ended_part c.self.inside.session c.self.inside.commands c.args.number _ _ c.finish-end.ensures.0 c.self.invariant).1 in
    let keeps = calls_keep.ended c.self.inside.session c.finish-end.result.0 c.finish-end.result.1 c.ended.new.self out c.ended.ensures.does in
    sound_ended c.self.inside.session c.ended.new.self c.self.inside.commands c.finish-end.new.self c.args.number c.finish-end.result.0 c.finish-end.result.1 c.finish-end.ensures.0 keeps.order keeps.behind c.finish-end.ensures.1 c.self.invariant

pub returns : goal.returns
returns g c =
    let also = ended_part c.self.inside.session c.self.inside.commands c.args.number _ _ c.finish-end.ensures.0 c.self.invariant in
    rw (← c.self.view_is) (finishes g.C.ClientPort.moves _ c.args.number c.in-Some.ticket c.finish-end.result.0 c.in-Some.end.now c.finish-end.result.1 _ _ _
    c.in-Some.ensures c.finish-end.ensures.0 also.0 c.in_ok-note.ensures.noted c.ended.ensures.does c.finish-end.ensures.1 (handed_out c.self.inside.session c.finish-end.result.0 also.1) c.next_in_turn-next.result c.next_in_turn-next.ensures)

pub next_in_turn-next-requires : goal.next_in_turn-next-requires
next_in_turn-next-requires g c =
    handed_out c.self.inside.session c.finish-end.result.0 (ended_part c.self.inside.session c.self.inside.commands c.args.number _ _ c.finish-end.ensures.0 c.self.invariant).1
