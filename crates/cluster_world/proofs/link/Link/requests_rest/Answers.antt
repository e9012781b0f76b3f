use Rattle.std.proofs.Common.{◌≡◌, ◌-◌, List, ◌∷◌, length, true, false, refl, ap, arith}
use Rattle.std.specs.Prelude.{take, drop}
use Rattle.world_laws.specs.declared.state.LinkRequest.{LinkRequest}
use Rattle.world_laws.specs.Places.{in_requests}
use Rattle.cluster_world.specs.Rests.{sought, RequestRests}
use Rattle.cluster_world.proofs.Asked.{one-request}
use Rattle.cluster_world.proofs.Stepping.{by-first}
use Rattle.cluster_world.proofs.link.Link.requests_rest.Goals as goal

pub returns-then-not-request_rests : goal.returns-then-not-request_rests
unfolding RequestRests
returns-then-not-request_rests c =
    let l = c.args.self.now in
    let rest : List LinkRequest = c.loop-rest.rest.now in
    let r : LinkRequest = c.request-item.result in
    let tail : List LinkRequest = take (length rest - 1) (drop 1 rest) in
    let first : rest ≡ r ∷ tail = by-first rest r c.in-len1-up.len_at_least c.request-item.is in (
      (λ t. absurd (let no : false ≡ true = t in cc)),
      λ e. absurd (let no : false ≡ true = c.if-not-request_rests.ensures.1 (omega (arith, e, c.loop-rest.invariant, ap (in_requests (sought c.args.sought.now) l.is_open l.node c.loop-rest.asking) first, one-request (sought c.args.sought.now) l.is_open l.node c.loop-rest.asking r tail)) in cc),
    )

pub loop-rest-preserved : goal.loop-rest-preserved
unfolding RequestRests
loop-rest-preserved c =
    let l = c.args.self.now in
    let rest : List LinkRequest = c.loop-rest.rest.now in
    let r : LinkRequest = c.request-item.result in
    let tail : List LinkRequest = take (length rest - 1) (drop 1 rest) in
    let first : rest ≡ r ∷ tail = by-first rest r c.in-len1-up.len_at_least c.request-item.is in
    omega (
      arith,
      c.loop-rest.invariant,
      c.if-not-request_rests.ensures.0 refl,
      ap (in_requests (sought c.args.sought.now) l.is_open l.node c.loop-rest.asking) first,
      one-request (sought c.args.sought.now) l.is_open l.node c.loop-rest.asking r tail,
      ap (λ b. in_requests (sought c.args.sought.now) l.is_open l.node b tail) c.sets_flag-asking.ensures,
    )
