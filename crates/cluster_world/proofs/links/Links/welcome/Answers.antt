use Rattle.std.proofs.Common.{rules, ◌≡◌, ◌<◌, List, ◌∷◌, length, Some, Err, true, sym, ap, ◌∙◌, subst, arith}
use Rattle.std.specs.Vec.{vec_len}
use Rattle.std.specs.Prelude.{slice_get, slice_set, Result}
use Rattle.std.proofs.lemmas.List.Elements.{All-set}
use Rattle.node_model.specs.History.{EntryModel}
use Rattle.world_laws.specs.State.{Link, replied}
use Rattle.world_laws.specs.declared.state.LinkRequest.{LinkRequest}
use Rattle.world_laws.specs.declared.state.LinkRequest.TheVariants as request
use Rattle.world_laws.specs.declared.state.LinkRequest.TheVariants.{Asking}
use Rattle.world_laws.specs.declared.state.LinkReply.TheVariants as back
use Rattle.cluster_world.specs.Kept.{LinkModel, KeepsBelow, shown}
use Rattle.cluster_world.specs.Links.{LinksModel, linked, with_link, Begins, Welcomes}
use Rattle.cluster_world.specs.Rests.{sets_flag}
use Rattle.cluster_world.specs.declared.link.Kept.TheVariants.{Welcome}
use Rattle.cluster_world.specs.declared.fault.WorldFault.{WorldFault}
use Rattle.cluster_world.specs.declared.fault.WorldFault.TheVariants.{NoMemory}
use Rattle.cluster_world.proofs.Lookups.{at-place}
use Rattle.cluster_world.proofs.Shown.{there, here, there-within, set-linked, set-same, line-at, tails, some-request, taken-first, done-shown, done-below}
use Rattle.cluster_world.proofs.links.Links.welcome.Goals as goal

pub returns-in_err-reserve : goal.returns-in_err-reserve
returns-in_err-reserve c =
    let ls : List LinkModel = c.self.inside.links.items in
    let h : List EntryModel = c.self.inside.history.items in
    let l : LinkModel = c.index_mut-link.result.now in
    let lt : c.args.at < length ls = there-within ls h c.args.self.now c.args.at (Begins Asking) c.self.view_is c.requires in
    let at : slice_get ls c.args.at ≡ Some l = at-place ls c.args.at l lt c.index_mut-link.ensures.value in
    let is : c.from_residual.result ≡ Err NoMemory = search rules in
    subst (λ (r : Result Unit WorldFault). Welcomes c.args.self.now c.args.at r (linked (slice_set ls c.args.at c.reserve.new.self) h)) (sym is)
    (set-same ls h c.args.at l c.reserve.new.self at (ap (shown h) c.in_err-reserve.ensures.same) ∙ c.self.view_is)

pub take_request-requires : goal.take_request-requires
take_request-requires c =
    let ls : List LinkModel = c.self.inside.links.items in
    let h : List EntryModel = c.self.inside.history.items in
    let l : LinkModel = c.index_mut-link.result.now in
    let lt : c.args.at < length ls = there-within ls h c.args.self.now c.args.at (Begins Asking) c.self.view_is c.requires in
    let at : slice_get ls c.args.at ≡ Some l = at-place ls c.args.at l lt c.index_mut-link.ensures.value in
    let first = here ls h c.args.self.now c.self.view_is c.args.at l at (Begins Asking) c.requires in
    some-request l.requests c.reserve.new.self.requests first.0 request.Asking (ap (λ (x : LinkModel). x.requests) c.in_ok-reserve.ensures.same) first.1

pub invariant_of-self-2 : goal.invariant_of-self-2
invariant_of-self-2 c =
    let ls : List LinkModel = c.self.inside.links.items in
    let h : List EntryModel = c.self.inside.history.items in
    let l : LinkModel = c.index_mut-link.result.now in
    let lt : c.args.at < length ls = there-within ls h c.args.self.now c.args.at (Begins Asking) c.self.view_is c.requires in
    let at : slice_get ls c.args.at ≡ Some l = at-place ls c.args.at l lt c.index_mut-link.ensures.value in
    let first = here ls h c.args.self.now c.self.view_is c.args.at l at (Begins Asking) c.requires in
    let asks : c.take_request.result ≡ Asking = taken-first l.requests c.reserve.new.self.requests c.take_request.new.self.requests first.0 c.take_request.result request.Asking (ap (λ (x : LinkModel). x.requests) c.in_ok-reserve.ensures.same) c.take_request.ensures.first first.1 in
    let after : c.take_request.new.self ≡ record c.reserve.new.self { requests = c.take_request.new.self.requests; asking = true } = c.take_request.ensures.rest ∙ (λ i. record c.reserve.new.self { requests = c.take_request.new.self.requests; asking = sets_flag (asks i) }) in
    All-set (KeepsBelow (length h)) ls c.args.at c.keep.new.self
    (done-below l c.reserve.new.self c.take_request.new.self c.keep.new.self true Welcome c.in_ok-reserve.ensures.same after c.keep.ensures (length h) (line-at (length h) ls c.args.at l c.self.invariant at) tt)
    c.self.invariant

pub returns : goal.returns
returns c =
    let ls : List LinkModel = c.self.inside.links.items in
    let h : List EntryModel = c.self.inside.history.items in
    let l : LinkModel = c.index_mut-link.result.now in
    let lt : c.args.at < length ls = there-within ls h c.args.self.now c.args.at (Begins Asking) c.self.view_is c.requires in
    let at : slice_get ls c.args.at ≡ Some l = at-place ls c.args.at l lt c.index_mut-link.ensures.value in
    let first = here ls h c.args.self.now c.self.view_is c.args.at l at (Begins Asking) c.requires in
    let requests : l.requests ≡ c.take_request.result ∷ c.take_request.new.self.requests = sym (ap (λ (x : LinkModel). x.requests) c.in_ok-reserve.ensures.same) ∙ c.take_request.ensures.first in
    let asks : c.take_request.result ≡ Asking = taken-first l.requests c.reserve.new.self.requests c.take_request.new.self.requests first.0 c.take_request.result request.Asking (ap (λ (x : LinkModel). x.requests) c.in_ok-reserve.ensures.same) c.take_request.ensures.first first.1 in
    let after : c.take_request.new.self ≡ record c.reserve.new.self { requests = c.take_request.new.self.requests; asking = true } = c.take_request.ensures.rest ∙ (λ i. record c.reserve.new.self { requests = c.take_request.new.self.requests; asking = sets_flag (asks i) }) in
    there ls h c.args.self.now c.self.view_is c.args.at l at
    (λ (k : LinksModel) (x : Link).
    (rest : List LinkRequest) × (x.requests ≡ request.Asking ∷ rest) × (linked (slice_set ls c.args.at c.keep.new.self) h ≡ with_link k c.args.at (replied (record x { requests = rest; asking = true }) back.Welcome))) (
      c.take_request.new.self.requests,
      tails l.requests first.0 c.take_request.new.self.requests request.Asking c.take_request.result first.1 requests,
      set-linked ls h c.args.at c.keep.new.self
          ∙ ap (with_link (linked ls h) c.args.at) (done-shown l c.reserve.new.self c.take_request.new.self c.keep.new.self true Welcome c.in_ok-reserve.ensures.same after c.keep.ensures h),
    )

pub index_mut-link-requires : goal.index_mut-link-requires
index_mut-link-requires c =
    let ls : List LinkModel = c.self.inside.links.items in
    let h : List EntryModel = c.self.inside.history.items in
    let lt : c.args.at < length ls = there-within ls h c.args.self.now c.args.at (Begins Asking) c.self.view_is c.requires in
    let size : vec_len c.self.inside.links ≡ length ls = search rules in omega (arith, lt, size)
