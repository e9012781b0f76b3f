use Rattle.std.proofs.Common.{◌≡◌, ◌-◌, List, ◌∷◌, length, true, false, refl, sym, ◌∙◌}
use Rattle.std.specs.Prelude.{take, drop}
use Rattle.key_split.specs.Same.{same_ticket-Decides}
use Rattle.key_split.specs.declared.travel.Ticket.{Ticket}
use Rattle.cluster_world.proofs.Among.{by-head, head_of, among-tail, head-among, none-among, tail-among}
use Rattle.cluster_world.proofs.Stepping.{none-left}
use Rattle.cluster_world.proofs.posting.is_among.Goals as goal

pub returns-then-eq : goal.returns-then-eq
returns-then-eq c =
    let rest : List Ticket = c.loop-rest.rest.now in
    let x : Ticket = head_of rest in
    let first : rest ≡ x ∷ take (length rest - 1) (drop 1 rest) = by-head rest c.in-len1-up.len_at_least in
    let same : c.args.ticket ≡ x = (same_ticket-Decides c.args.ticket x).0 (sym c.eq.ensures.value ∙ c.if-eq.true) in
    (λ t. c.loop-rest.invariant.0 (head-among rest (take (length rest - 1) (drop 1 rest)) x c.args.ticket first same), λ a. refl)

pub loop-rest-preserved : goal.loop-rest-preserved
loop-rest-preserved c =
    let rest : List Ticket = c.loop-rest.rest.now in
    let x : Ticket = head_of rest in
    let tail : List Ticket = take (length rest - 1) (drop 1 rest) in
    let first : rest ≡ x ∷ tail = by-head rest c.in-len1-up.len_at_least in
    let other : c.args.ticket ≡ x → ⊥ = λ same. (let no : false ≡ true = sym c.if-eq.false ∙ c.eq.ensures.value ∙ (same_ticket-Decides c.args.ticket x).1 same in cc) in (
      λ a. c.loop-rest.invariant.0 (tail-among rest tail x c.args.ticket first a),
      λ a. among-tail rest tail x c.args.ticket first other (c.loop-rest.invariant.1 a),
    )

pub returns : goal.returns
returns c = (
  λ t. absurd (let no : false ≡ true = t in cc),
  λ a. absurd (none-among c.loop-rest.rest.now c.args.ticket (none-left c.loop-rest.rest.now c.in_default.len_below) (c.loop-rest.invariant.1 a)),
)
