use Rattle.std.proofs.Common.{◌≡◌, ◌-◌, List, [], ◌∷◌, ◌++◌, length, sym}
use Rattle.std.specs.Prelude.{take, drop}
use Rattle.key_split.specs.declared.travel.Ticket.{Ticket}
use Rattle.cluster_world.proofs.Going.{goes-nowhere, goes-on, gone-all, may-post-here}
use Rattle.cluster_world.proofs.Among.{by-head, head_of}
use Rattle.cluster_world.proofs.Stepping.{none-left}
use Rattle.cluster_world.proofs.posting.go_out.Goals as goal

pub loop-rest-init : goal.loop-rest-init
loop-rest-init c = ((c.requires.0, c.requires.1.0, [], c.requires.1.1), λ after g. (g.0, [], g.1))

pub returns-in_default-place_of : goal.returns-in_default-place_of
returns-in_default-place_of c = λ after g. (
    let rest : List Ticket = c.loop-rest.rest.now in
    let e = c.loop-rest.invariant.0 in
    let first : rest ≡ (head_of rest) ∷ take (length rest - 1) (drop 1 rest) = by-head rest c.in-len1-up.len_at_least in
    absurd (goes-nowhere e.1 c.args.node e.2 rest (take (length rest - 1) (drop 1 rest)) c.loop-rest.commands e.0 (head_of rest) first (sym c.in_default-place_of.ensures) e.3))

pub posted-requires : goal.posted-requires
posted-requires c =
    let rest : List Ticket = c.loop-rest.rest.now in
    let e = c.loop-rest.invariant.0 in
    let first : rest ≡ (head_of rest) ∷ take (length rest - 1) (drop 1 rest) = by-head rest c.in-len1-up.len_at_least in
    may-post-here e.1 c.args.node e.2 rest (take (length rest - 1) (drop 1 rest)) c.loop-rest.commands e.0 (head_of rest) c.in-Some.place first (sym c.in-Some.ensures) e.3

pub loop-rest-preserved : goal.loop-rest-preserved
loop-rest-preserved c =
    let rest : List Ticket = c.loop-rest.rest.now in
    let e = c.loop-rest.invariant.0 in
    let tail : List Ticket = take (length rest - 1) (drop 1 rest) in
    let first : rest ≡ (head_of rest) ∷ tail = by-head rest c.in-len1-up.len_at_least in (
      (e.0, e.1, e.2 ++ (head_of rest) ∷ [], goes-on e.1 c.args.node e.2 rest tail c.loop-rest.commands c.posted.new.self e.0 (head_of rest) c.in-Some.place first (sym c.in-Some.ensures) c.posted.ensures e.3),
      λ after g.
          (let t = c.loop-rest.invariant.1 after g in
          (t.0, t.1 ++ (head_of rest) ∷ [], goes-on t.0 c.args.node t.1 rest tail c.loop-rest.commands c.posted.new.self after (head_of rest) c.in-Some.place first (sym c.in-Some.ensures) c.posted.ensures t.2)),
    )

pub returns : goal.returns
returns c = λ after g. (let t = c.loop-rest.invariant.1 after g in gone-all t.0 c.args.node t.1 c.loop-rest.rest.now c.loop-rest.commands after (none-left c.loop-rest.rest.now c.in_default.len_below) t.2)
