use Rattle.std.proofs.Common.{rules, arith, ℕ, List, length, take, drop, ◌≡◌, ◌-◌, ◌+◌, ◌<◌, ap, ◌∙◌, sym}
use Rattle.node_link.proofs.Piecing.{all_whole, front_left}
use Rattle.node_link.proofs.pieces.take_back.Goals as goal

pub returns-then-count-eq0-clause-full : goal.returns-then-count-eq0-clause-full
returns-then-count-eq0-clause-full c = sym (all_whole c.args.full.now.items c.args.count c.if-count-eq0.true)

pub returns-clause-full : goal.returns-clause-full
returns-clause-full c =
    let len : c.len.result ≡ length c.args.full.now.items = search rules in
    let some : 0 < c.args.count = omega (arith, c.if-count-eq0.false) in
    (front_left c.args.full.now.items c.pop_back.new.self.items c.in-Some.field-0 c.args.count (c.len.result - c.args.count + 1) some c.requires (omega (arith, len)) (sym c.truncate.ensures.items ∙ c.in-Some.ensures.items)).0

pub returns-clause-last : goal.returns-clause-last
returns-clause-last c =
    let len : c.len.result ≡ length c.args.full.now.items = search rules in
    let some : 0 < c.args.count = omega (arith, c.if-count-eq0.false) in
    (front_left c.args.full.now.items c.pop_back.new.self.items c.in-Some.field-0 c.args.count (c.len.result - c.args.count + 1) some c.requires (omega (arith, len)) (sym c.truncate.ensures.items ∙ c.in-Some.ensures.items)).1 c.args.last.now.items
