use Rattle.std.proofs.Common.{◌≡◌, ◌-◌, rules, List, ◌∷◌, length, sym, ap, subst, arith}
use Rattle.std.specs.Prelude.{take, drop}
use Rattle.std.specs.VecDeque.{deque_len}
use Rattle.key_split.specs.PartModel.{PartModel}
use Rattle.key_split.specs.declared.travel.Ticket.{Ticket}
use Rattle.key_split.specs.declared.travel.Told.{Told}
use Rattle.cluster_world.specs.Kept.{LinkModel, Served, keeps, served_in}
use Rattle.cluster_world.proofs.Noting.{keeps-room, no-part, no-told, onward-start, onward-next, onward-end, Onward}
use Rattle.cluster_world.proofs.Among.{by-head, head_of}
use Rattle.cluster_world.proofs.Stepping.{none-left}
use Rattle.cluster_world.proofs.links.note_all.Goals as goal

pub loop-rest-init : goal.loop-rest-init
loop-rest-init c =
    let ss : List Served = served_in c.args.tickets.now c.args.parts.items c.args.tolds.items in (
      subst (λ (q : List PartModel × List Told). Onward c.args.history.now.items c.args.link.now ss c.args.moment c.args.history.now.items c.args.link.now (served_in c.args.tickets.now q.0 q.1))
          (λ i. (sym c.from-parts.ensures.0 i, sym c.from-tolds.ensures.0 i)) (onward-start c.args.history.now.items c.args.link.now ss c.args.moment c.requires.below),
      omega (arith, c.requires.entries, ap length c.from-tolds.ensures.0),
      omega (arith, c.requires.replies, ap length c.from-tolds.ensures.0),
    )

pub returns-in_default-pop_front : goal.returns-in_default-pop_front
returns-in_default-pop_front c =
    let len : deque_len c.loop-rest.parts ≡ length c.loop-rest.parts.items = search rules in
    onward-end c.args.history.now.items c.loop-rest.history.items c.args.link.now c.loop-rest.link (served_in c.args.tickets.now c.args.parts.items c.args.tolds.items) (served_in c.loop-rest.rest.now c.loop-rest.parts.items c.loop-rest.tolds.items) c.args.moment
    (no-part c.loop-rest.rest.now c.loop-rest.parts.items c.loop-rest.tolds.items (omega (arith, len, c.in_default-pop_front.ensures.cases.0))) c.loop-rest.invariant.0

pub returns-in_default-pop_front-2 : goal.returns-in_default-pop_front-2
returns-in_default-pop_front-2 c =
    let len : deque_len c.loop-rest.tolds ≡ length c.loop-rest.tolds.items = search rules in
    onward-end c.args.history.now.items c.loop-rest.history.items c.args.link.now c.loop-rest.link (served_in c.args.tickets.now c.args.parts.items c.args.tolds.items) (served_in c.loop-rest.rest.now c.loop-rest.parts.items c.loop-rest.tolds.items) c.args.moment
    (no-told c.loop-rest.rest.now c.loop-rest.parts.items c.loop-rest.tolds.items (omega (arith, len, c.in_default-pop_front-2.ensures.cases.0))) c.loop-rest.invariant.0

pub note_for-requires-clause-entry : goal.note_for-requires-clause-entry
note_for-requires-clause-entry c = omega (arith, c.loop-rest.invariant.1, ap length c.in-Some-pop_front.ensures.items)

pub note_for-requires-clause-reply : goal.note_for-requires-clause-reply
note_for-requires-clause-reply c = omega (arith, c.loop-rest.invariant.2, ap length c.in-Some-pop_front.ensures.items)

pub loop-rest-preserved : goal.loop-rest-preserved
loop-rest-preserved c =
    let rest : List Ticket = c.loop-rest.rest.now in
    let tail : List Ticket = take (length rest - 1) (drop 1 rest) in
    let first : rest ≡ (head_of rest) ∷ tail = by-head rest c.in-len1-up.len_at_least in
    let noted = c.note_for.ensures.notes in
    let room = keeps-room c.loop-rest.link noted.kept in
    let kept : c.note_for.new.link ≡ keeps c.loop-rest.link noted.kept = noted.is_kept in (
      onward-next c.args.history.now.items c.loop-rest.history.items c.note_for.new.history.items c.args.link.now c.loop-rest.link c.note_for.new.link (served_in c.args.tickets.now c.args.parts.items c.args.tolds.items)
          (served_in rest c.loop-rest.parts.items c.loop-rest.tolds.items) (served_in tail c.pop_front.new.self.items c.pop_front-in-len1-up.new.self.items) c.args.moment (head_of rest) c.in-Some.part c.in-Some-pop_front.told noted.kept
          (λ i. served_in (first i) (c.in-Some.ensures.items i) (c.in-Some-pop_front.ensures.items i)) noted.notes kept c.loop-rest.invariant.0,
      omega (arith, c.loop-rest.invariant.1, ap length c.in-Some-pop_front.ensures.items, c.note_for.ensures.room.0, c.note_for.ensures.room.1),
      omega (arith, c.loop-rest.invariant.2, ap length c.in-Some-pop_front.ensures.items, room.0, room.1, ap (λ (l : LinkModel). length l.backs) kept, ap (λ (l : LinkModel). l.room) kept),
    )

pub returns : goal.returns
returns c =
    onward-end c.args.history.now.items c.loop-rest.history.items c.args.link.now c.loop-rest.link (served_in c.args.tickets.now c.args.parts.items c.args.tolds.items) (served_in c.loop-rest.rest.now c.loop-rest.parts.items c.loop-rest.tolds.items) c.args.moment
    (ap (λ (ts : List Ticket). served_in ts c.loop-rest.parts.items c.loop-rest.tolds.items) (none-left c.loop-rest.rest.now c.in_default.len_below)) c.loop-rest.invariant.0
