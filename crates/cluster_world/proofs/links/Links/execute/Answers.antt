use Rattle.std.proofs.Common.{rules, ◌≡◌, ℕ, Bool, ◌<◌, List, ◌∷◌, length, Some, Ok, Err, false, refl, sym, ap, ◌∙◌, subst, arith}
use Rattle.std.specs.Prelude.{slice_get, slice_set, All, Result}
use Rattle.std.specs.Vec.{vec_len}
use Rattle.std.proofs.lemmas.List.Elements.{All-set}
use Rattle.node_model.specs.History.{EntryModel}
use Rattle.node_model.specs.Runs.{deed_for, ServesAll}
use Rattle.world_laws.specs.World.{IsNode}
use Rattle.key_split.specs.PartModel.{PartModel}
use Rattle.key_split.specs.declared.travel.Ticket.{Ticket}
use Rattle.world_laws.specs.declared.state.LinkRequest.{LinkRequest}
use Rattle.world_laws.specs.declared.state.LinkRequest.TheVariants.{Asking, Runs}
use Rattle.cluster_world.specs.declared.link.Kept.{Kept}
use Rattle.cluster_world.specs.Kept.{LinkModel, IsBelow, KeepsBelow, shown, served_in, NotesAll}
use Rattle.cluster_world.specs.Links.{linked, BeginsRun, LinkExecutes}
use Rattle.cluster_world.specs.Rests.{sets_flag}
use Rattle.cluster_world.specs.Fault.{of_serve}
use Rattle.cluster_world.specs.declared.fault.WorldFault.{WorldFault}
use Rattle.cluster_world.specs.declared.fault.WorldFault.TheVariants.{NoMemory}
use Rattle.cluster_world.proofs.Lookups.{at-place}
use Rattle.cluster_world.proofs.Shown.{here, there-within, set-same, line-at, lines-longer, some-request}
use Rattle.cluster_world.proofs.Served.{as-many, served, served-ok, refused, at-node}
use Rattle.cluster_world.proofs.links.Links.execute.Goals as goal

pub returns-in_err-reserve : goal.returns-in_err-reserve
returns-in_err-reserve c =
    let ls : List LinkModel = c.self.inside.links.items in
    let h : List EntryModel = c.self.inside.history.items in
    let l : LinkModel = c.index_mut-link.result.now in
    let lt : c.args.at < length ls = there-within ls h c.args.self.now c.args.at BeginsRun c.self.view_is c.requires.first in
    let at : slice_get ls c.args.at ≡ Some l = at-place ls c.args.at l lt c.index_mut-link.ensures.value in
    let is : c.from_residual.result ≡ Err NoMemory = search rules in
    subst (λ (r : Result Unit WorldFault). LinkExecutes c.args.self.now c.args.cluster.now c.args.at c.args.parts.items c.args.verdict c.args.moment r (linked (slice_set ls c.args.at c.reserve.new.self) h) c.args.cluster.now) (sym is)
    (set-same ls h c.args.at l c.reserve.new.self at (ap (shown h) c.in_err-reserve.ensures.same) ∙ c.self.view_is, refl)

pub returns-in_err-reserve-2 : goal.returns-in_err-reserve-2
returns-in_err-reserve-2 c =
    let ls : List LinkModel = c.self.inside.links.items in
    let h : List EntryModel = c.self.inside.history.items in
    let l : LinkModel = c.index_mut-link.result.now in
    let lt : c.args.at < length ls = there-within ls h c.args.self.now c.args.at BeginsRun c.self.view_is c.requires.first in
    let at : slice_get ls c.args.at ≡ Some l = at-place ls c.args.at l lt c.index_mut-link.ensures.value in
    let is : c.from_residual-in_err-reserve-2.result ≡ Err NoMemory = search rules in
    subst (λ (r : Result Unit WorldFault). LinkExecutes c.args.self.now c.args.cluster.now c.args.at c.args.parts.items c.args.verdict c.args.moment r (linked (slice_set ls c.args.at c.reserve.new.self) c.reserve-2.new.self.items) c.args.cluster.now) (sym is)
    (ap (linked (slice_set ls c.args.at c.reserve.new.self)) c.in_err-reserve-2.ensures.items ∙ set-same ls h c.args.at l c.reserve.new.self at (ap (shown h) c.in_ok-reserve.ensures.same) ∙ c.self.view_is, refl)

pub returns-in_err-tolds : goal.returns-in_err-tolds
returns-in_err-tolds c =
    let ls : List LinkModel = c.self.inside.links.items in
    let h : List EntryModel = c.self.inside.history.items in
    let l : LinkModel = c.index_mut-link.result.now in
    let lt : c.args.at < length ls = there-within ls h c.args.self.now c.args.at BeginsRun c.self.view_is c.requires.first in
    let at : slice_get ls c.args.at ≡ Some l = at-place ls c.args.at l lt c.index_mut-link.ensures.value in
    let is : c.from_residual-in_err-tolds.result ≡ Err (of_serve c.in_err-tolds.field-0.0) = search rules in
    let node : IsNode c.args.cluster.now c.node.result =
    subst (IsNode c.args.cluster.now) (sym c.node.ensures) (at-node ls h c.args.self.now c.self.view_is c.args.at l at c.args.cluster.now c.serve_run.new.self c.reserve.new.self c.in_ok-reserve.ensures.same c.requires.nodes) in
    let same : linked (slice_set ls c.args.at c.reserve.new.self) c.reserve-2.new.self.items ≡ c.args.self.now =
    ap (linked (slice_set ls c.args.at c.reserve.new.self)) c.in_ok-reserve-2.ensures.items ∙ set-same ls h c.args.at l c.reserve.new.self at (ap (shown h) c.in_ok-reserve.ensures.same) ∙ c.self.view_is in
    subst (λ (r : Result Unit WorldFault). LinkExecutes c.args.self.now c.args.cluster.now c.args.at c.args.parts.items c.args.verdict c.args.moment r (linked (slice_set ls c.args.at c.reserve.new.self) c.reserve-2.new.self.items) c.serve_run.new.self) (sym is)
    (refused Unit c.args.self.now (linked (slice_set ls c.args.at c.reserve.new.self) c.reserve-2.new.self.items) c.args.cluster.now c.serve_run.new.self c.args.at c.args.parts.items c.args.verdict c.args.moment c.node.result c.asking.result c.in_err-tolds.field-0.0 node c.in_err-tolds.ensures same)

pub take_request-requires : goal.take_request-requires
take_request-requires c =
    let ls : List LinkModel = c.self.inside.links.items in
    let h : List EntryModel = c.self.inside.history.items in
    let l : LinkModel = c.index_mut-link.result.now in
    let lt : c.args.at < length ls = there-within ls h c.args.self.now c.args.at BeginsRun c.self.view_is c.requires.first in
    let at : slice_get ls c.args.at ≡ Some l = at-place ls c.args.at l lt c.index_mut-link.ensures.value in
    let first = here ls h c.args.self.now c.self.view_is c.args.at l at BeginsRun c.requires.first in
    some-request l.requests c.reserve.new.self.requests first.1.0 (Runs first.0) (ap (λ (x : LinkModel). x.requests) c.in_ok-reserve.ensures.same) first.1.1

pub returns-in-Asking : goal.returns-in-Asking
returns-in-Asking c =
    let ls : List LinkModel = c.self.inside.links.items in
    let h : List EntryModel = c.self.inside.history.items in
    let l : LinkModel = c.index_mut-link.result.now in
    let lt : c.args.at < length ls = there-within ls h c.args.self.now c.args.at BeginsRun c.self.view_is c.requires.first in
    let at : slice_get ls c.args.at ≡ Some l = at-place ls c.args.at l lt c.index_mut-link.ensures.value in
    let first = here ls h c.args.self.now c.self.view_is c.args.at l at BeginsRun c.requires.first in
    let one : l.requests ≡ Asking ∷ c.take_request.new.self.requests = sym (ap (λ (x : LinkModel). x.requests) c.in_ok-reserve.ensures.same) ∙ c.take_request.ensures.first ∙ ap (λ (r : LinkRequest). r ∷ c.take_request.new.self.requests) c.in-Asking.is in
    let two : l.requests ≡ Runs first.0 ∷ first.1.0 = first.1.1 in
    absurd (cc)

pub note_all-requires-clause-entries : goal.note_all-requires-clause-entries
note_all-requires-clause-entries c =
    let ls : List LinkModel = c.self.inside.links.items in
    let h : List EntryModel = c.self.inside.history.items in
    let l : LinkModel = c.index_mut-link.result.now in
    let lt : c.args.at < length ls = there-within ls h c.args.self.now c.args.at BeginsRun c.self.view_is c.requires.first in
    let at : slice_get ls c.args.at ≡ Some l = at-place ls c.args.at l lt c.index_mut-link.ensures.value in
    let node : IsNode c.args.cluster.now c.reserve.new.self.node =
    at-node ls h c.args.self.now c.self.view_is c.args.at l at c.args.cluster.now c.serve_run.new.self c.reserve.new.self c.in_ok-reserve.ensures.same c.requires.nodes in
    let serves : ServesAll c.args.cluster.now c.reserve.new.self.node c.reserve.new.self.asking c.args.parts.items c.args.verdict (Ok c.in_ok-tolds.tolds) c.serve_run.new.self =
    subst (λ (p : ℕ × Bool × List PartModel). ServesAll c.args.cluster.now p.0 p.1 p.2 c.args.verdict (Ok c.in_ok-tolds.tolds) c.serve_run.new.self) (λ i. (c.node.ensures i, c.asking.ensures i, c.deref.ensures.value i)) c.in_ok-tolds.ensures in
    let does = served-ok c.args.cluster.now c.serve_run.new.self c.reserve.new.self.node c.reserve.new.self.asking c.args.parts.items c.args.verdict c.in_ok-tolds.tolds node serves in
    let many : length c.in_ok-tolds.tolds.items ≡ length c.args.parts.items = as-many (deed_for c.args.cluster.now c.reserve.new.self.node c.reserve.new.self.asking c.args.parts.items c.args.verdict) c.args.cluster.now c.serve_run.new.self c.reserve.new.self.node c.args.parts.items c.in_ok-tolds.tolds.items does.1 in
    let len : vec_len c.args.parts ≡ length c.args.parts.items = search rules in
    omega (arith, many, len, c.len-2.ensures, c.in_ok-reserve-2.ensures.ok)

pub note_all-requires-clause-replies : goal.note_all-requires-clause-replies
note_all-requires-clause-replies c =
    let ls : List LinkModel = c.self.inside.links.items in
    let h : List EntryModel = c.self.inside.history.items in
    let l : LinkModel = c.index_mut-link.result.now in
    let lt : c.args.at < length ls = there-within ls h c.args.self.now c.args.at BeginsRun c.self.view_is c.requires.first in
    let at : slice_get ls c.args.at ≡ Some l = at-place ls c.args.at l lt c.index_mut-link.ensures.value in
    let node : IsNode c.args.cluster.now c.reserve.new.self.node =
    at-node ls h c.args.self.now c.self.view_is c.args.at l at c.args.cluster.now c.serve_run.new.self c.reserve.new.self c.in_ok-reserve.ensures.same c.requires.nodes in
    let serves : ServesAll c.args.cluster.now c.reserve.new.self.node c.reserve.new.self.asking c.args.parts.items c.args.verdict (Ok c.in_ok-tolds.tolds) c.serve_run.new.self =
    subst (λ (p : ℕ × Bool × List PartModel). ServesAll c.args.cluster.now p.0 p.1 p.2 c.args.verdict (Ok c.in_ok-tolds.tolds) c.serve_run.new.self) (λ i. (c.node.ensures i, c.asking.ensures i, c.deref.ensures.value i)) c.in_ok-tolds.ensures in
    let does = served-ok c.args.cluster.now c.serve_run.new.self c.reserve.new.self.node c.reserve.new.self.asking c.args.parts.items c.args.verdict c.in_ok-tolds.tolds node serves in
    let many : length c.in_ok-tolds.tolds.items ≡ length c.args.parts.items = as-many (deed_for c.args.cluster.now c.reserve.new.self.node c.reserve.new.self.asking c.args.parts.items c.args.verdict) c.args.cluster.now c.serve_run.new.self c.reserve.new.self.node c.args.parts.items c.in_ok-tolds.tolds.items does.1 in
    let len : vec_len c.args.parts ≡ length c.args.parts.items = search rules in
    omega (arith, many, len, c.len.ensures, c.in_ok-reserve.ensures.room, ap (λ (x : LinkModel). length x.backs) c.take_request.ensures.rest, ap (λ (x : LinkModel). x.room) c.take_request.ensures.rest)

pub note_all-requires-clause-below : goal.note_all-requires-clause-below
note_all-requires-clause-below c =
    let ls : List LinkModel = c.self.inside.links.items in
    let h : List EntryModel = c.self.inside.history.items in
    let l : LinkModel = c.index_mut-link.result.now in
    let lt : c.args.at < length ls = there-within ls h c.args.self.now c.args.at BeginsRun c.self.view_is c.requires.first in
    let at : slice_get ls c.args.at ≡ Some l = at-place ls c.args.at l lt c.index_mut-link.ensures.value in
    let same : c.take_request.new.self.backs ≡ l.backs = ap (λ (x : LinkModel). x.backs) c.take_request.ensures.rest ∙ ap (λ (x : LinkModel). x.backs) c.in_ok-reserve.ensures.same in
    subst (λ (p : List Kept × List EntryModel). All (IsBelow (length p.1)) p.0) (λ i. (sym same i, sym c.in_ok-reserve-2.ensures.items i)) (line-at (length h) ls c.args.at l c.self.invariant at)

pub invariant_of-self-in-Runs : goal.invariant_of-self-in-Runs
invariant_of-self-in-Runs c =
    let ls : List LinkModel = c.self.inside.links.items in
    let h : List EntryModel = c.self.inside.history.items in
    let l : LinkModel = c.index_mut-link.result.now in
    let lt : c.args.at < length ls = there-within ls h c.args.self.now c.args.at BeginsRun c.self.view_is c.requires.first in
    let at : slice_get ls c.args.at ≡ Some l = at-place ls c.args.at l lt c.index_mut-link.ensures.value in
    let notes : NotesAll h c.take_request.new.self (served_in c.as_slice-tickets.result.now c.args.parts.items c.in_ok-tolds.tolds.items) c.args.moment c.note_all.new.history.items c.note_all.new.link =
    subst (λ (old : List EntryModel). NotesAll old c.take_request.new.self (served_in c.as_slice-tickets.result.now c.args.parts.items c.in_ok-tolds.tolds.items) c.args.moment c.note_all.new.history.items c.note_all.new.link) c.in_ok-reserve-2.ensures.items c.note_all.ensures in
    All-set (KeepsBelow (length c.note_all.new.history.items)) ls c.args.at c.note_all.new.link notes.below (lines-longer (length h) (length c.note_all.new.history.items) notes.longer ls c.self.invariant)

pub returns-in-Runs : goal.returns-in-Runs
returns-in-Runs c =
    let ls : List LinkModel = c.self.inside.links.items in
    let h : List EntryModel = c.self.inside.history.items in
    let l : LinkModel = c.index_mut-link.result.now in
    let lt : c.args.at < length ls = there-within ls h c.args.self.now c.args.at BeginsRun c.self.view_is c.requires.first in
    let at : slice_get ls c.args.at ≡ Some l = at-place ls c.args.at l lt c.index_mut-link.ensures.value in
    let node : IsNode c.args.cluster.now c.reserve.new.self.node =
    at-node ls h c.args.self.now c.self.view_is c.args.at l at c.args.cluster.now c.serve_run.new.self c.reserve.new.self c.in_ok-reserve.ensures.same c.requires.nodes in
    let serves : ServesAll c.args.cluster.now c.reserve.new.self.node c.reserve.new.self.asking c.args.parts.items c.args.verdict (Ok c.in_ok-tolds.tolds) c.serve_run.new.self =
    subst (λ (p : ℕ × Bool × List PartModel). ServesAll c.args.cluster.now p.0 p.1 p.2 c.args.verdict (Ok c.in_ok-tolds.tolds) c.serve_run.new.self) (λ i. (c.node.ensures i, c.asking.ensures i, c.deref.ensures.value i)) c.in_ok-tolds.ensures in
    let does = served-ok c.args.cluster.now c.serve_run.new.self c.reserve.new.self.node c.reserve.new.self.asking c.args.parts.items c.args.verdict c.in_ok-tolds.tolds node serves in
    let many : length c.in_ok-tolds.tolds.items ≡ length c.args.parts.items = as-many (deed_for c.args.cluster.now c.reserve.new.self.node c.reserve.new.self.asking c.args.parts.items c.args.verdict) c.args.cluster.now c.serve_run.new.self c.reserve.new.self.node c.args.parts.items c.in_ok-tolds.tolds.items does.1 in
    let notes : NotesAll h c.take_request.new.self (served_in c.in-Runs.tickets c.args.parts.items c.in_ok-tolds.tolds.items) c.args.moment c.note_all.new.history.items c.note_all.new.link =
    subst (λ (p : List EntryModel × List Ticket). NotesAll p.0 c.take_request.new.self (served_in p.1 c.args.parts.items c.in_ok-tolds.tolds.items) c.args.moment c.note_all.new.history.items c.note_all.new.link) (λ i. (c.in_ok-reserve-2.ensures.items i, c.as_slice-tickets.ensures i)) c.note_all.ensures in
    let after : c.take_request.new.self ≡ record c.reserve.new.self { requests = c.take_request.new.self.requests; asking = false } = c.take_request.ensures.rest ∙ (λ i. record c.reserve.new.self { requests = c.take_request.new.self.requests; asking = sets_flag (c.in-Runs.is i) }) in
    served ls h c.args.self.now c.self.view_is c.args.at l at c.args.cluster.now c.serve_run.new.self (tt {0}) c.note_all.new.history.items c.in-Runs.tickets c.args.parts.items c.in_ok-tolds.tolds.items c.args.verdict c.args.moment c.reserve.new.self c.take_request.new.self c.note_all.new.link
    c.self.invariant (c.take_request.ensures.first ∙ ap (λ (r : LinkRequest). r ∷ c.take_request.new.self.requests) c.in-Runs.is) c.in_ok-reserve.ensures.same after notes does

pub index_mut-link-requires : goal.index_mut-link-requires
index_mut-link-requires c =
    let ls : List LinkModel = c.self.inside.links.items in
    let h : List EntryModel = c.self.inside.history.items in
    let lt : c.args.at < length ls = there-within ls h c.args.self.now c.args.at BeginsRun c.self.view_is c.requires.first in
    let size : vec_len c.self.inside.links ≡ length ls = search rules in omega (arith, lt, size)
