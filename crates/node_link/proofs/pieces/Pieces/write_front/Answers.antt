use Rattle.std.proofs.Common.{◌≡◌, ◌++◌, ◌+◌, ◌-◌, ◌∙◌, ap, arith, inr, length, length-append, refl, sym, take}
use Rattle.node_link.specs.Pieces.{PiecesModel}
use Rattle.node_link.specs.declared.stream.Flow.TheVariants as flow
use Rattle.node_link.proofs.Piecing.{held_settled, is_sound, none_refused, none_waits, offered_front, refused_sound, settled, wrote}
use Rattle.node_link.proofs.pieces.Pieces.write_front.Goals as goal

pub front-requires : goal.front-requires
front-requires g c = settled c.args.self.now c.requires.sound c.requires.no_draft

pub returns-then-len-eq0-clause-offers : goal.returns-then-len-eq0-clause-offers
returns-then-len-eq0-clause-offers g c =
    let old = c.args.self.now in
    let len = sym (length-append c.front.result.0.now c.front.result.1.now) ∙ ap length c.front.ensures in
    let none = none_refused old _ (settled old c.requires.sound c.requires.no_draft) len c.if-len-eq0.true in
    inr (none, none, refl, none_waits old _ (settled old c.requires.sound c.requires.no_draft) len c.if-len-eq0.true)

pub overflow_sub-len : goal.overflow_sub-len
overflow_sub-len g c = omega (arith, c.in-Bytes.ensures.written.0, length-append c.front.result.0.now c.front.result.1.now)

pub leave-requires-clause-settled : goal.leave-requires-clause-settled
leave-requires-clause-settled g c = settled c.args.self.now c.requires.sound c.requires.no_draft

pub leave-requires-clause-within : goal.leave-requires-clause-within
leave-requires-clause-within g c =
    let len = sym (length-append c.front.result.0.now c.front.result.1.now) ∙ ap length c.front.ensures in
    omega (arith, len)

pub returns-in-Bytes-clause-draft : goal.returns-in-Bytes-clause-draft
returns-in-Bytes-clause-draft g c = ap (λ (held : PiecesModel). held.draft) (held_settled c.leave.new.self c.leave.ensures.settled)

pub returns-in-Bytes-clause-sound : goal.returns-in-Bytes-clause-sound
returns-in-Bytes-clause-sound g c = is_sound c.leave.new.self c.leave.ensures.settled

pub returns-in-Bytes-clause-written : goal.returns-in-Bytes-clause-written
returns-in-Bytes-clause-written g c =
    let old = c.args.self.now in
    let front = c.front.result.0.now ++ c.front.result.1.now in
    let len : length c.front.result.0.now + length c.front.result.1.now ≡ length front = sym (length-append c.front.result.0.now c.front.result.1.now) in
    let moved = c.in-Bytes.ensures.written in
    (take c.in-Bytes.count front, moved.1, wrote old c.leave.new.self front _ c.in-Bytes.count (settled old c.requires.sound c.requires.no_draft) c.leave.ensures.settled c.front.ensures len moved.0 c.leave.ensures.waiting)

pub returns-in-Bytes-clause-offers : goal.returns-in-Bytes-clause-offers
returns-in-Bytes-clause-offers g c =
    let old = c.args.self.now in
    let front = c.front.result.0.now ++ c.front.result.1.now in
    let len : length c.front.result.0.now + length c.front.result.1.now ≡ length front = sym (length-append c.front.result.0.now c.front.result.1.now) in
    offered_front g.S.Stream.offered c.args.stream.now c.write.new.self old front (flow.Bytes c.in-Bytes.count) c.leave.new.self.refused
    (settled old c.requires.sound c.requires.no_draft) c.front.ensures c.in-Bytes.ensures.offered
    (c.leave.ensures.refused ∙ ap (λ n. n - c.in-Bytes.count) len)

pub returns-in-Nothing-clause-offers : goal.returns-in-Nothing-clause-offers
returns-in-Nothing-clause-offers g c =
    let old = c.args.self.now in
    offered_front g.S.Stream.offered c.args.stream.now c.write.new.self old (c.front.result.0.now ++ c.front.result.1.now) flow.Nothing _
    (settled old c.requires.sound c.requires.no_draft) c.front.ensures c.in-Nothing.ensures.offered (sym (length-append c.front.result.0.now c.front.result.1.now))

pub returns-in-Nothing-clause-sound : goal.returns-in-Nothing-clause-sound
returns-in-Nothing-clause-sound g c =
    let old = c.args.self.now in
    let len = sym (length-append c.front.result.0.now c.front.result.1.now) ∙ ap length c.front.ensures in
    refused_sound old _ (settled old c.requires.sound c.requires.no_draft) len c.if-len-eq0.false

pub returns-in-Gone-clause-offers : goal.returns-in-Gone-clause-offers
returns-in-Gone-clause-offers g c =
    let old = c.args.self.now in
    offered_front g.S.Stream.offered c.args.stream.now c.write.new.self old (c.front.result.0.now ++ c.front.result.1.now) flow.Gone _
    (settled old c.requires.sound c.requires.no_draft) c.front.ensures c.in-Gone.ensures.offered (sym (length-append c.front.result.0.now c.front.result.1.now))

pub returns-in-Gone-clause-sound : goal.returns-in-Gone-clause-sound
returns-in-Gone-clause-sound g c =
    let old = c.args.self.now in
    let len = sym (length-append c.front.result.0.now c.front.result.1.now) ∙ ap length c.front.ensures in
    refused_sound old _ (settled old c.requires.sound c.requires.no_draft) len c.if-len-eq0.false
