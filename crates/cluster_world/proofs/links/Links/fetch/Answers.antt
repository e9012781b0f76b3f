use Rattle.std.proofs.Common.{◌≡◌, ℕ, ◌<◌, List, length, Some, Ok, Option, true, false, refl, sym, ap, ◌∙◌, subst, rules, arith}
use Rattle.std.specs.Prelude.{slice_get, slice_set, map}
use Rattle.std.specs.Vec.{vec_len}
use Rattle.std.proofs.lemmas.List.Elements.{All-set}
use Rattle.resp_wire.specs.Seen.{data_of}
use Rattle.node_model.specs.History.{EntryModel}
use Rattle.key_split.specs.declared.travel.Ticket.{Ticket}
use Rattle.key_split.specs.declared.travel.Told.{Told}
use Rattle.key_split.specs.declared.travel.Told.TheVariants.{Reply}
use Rattle.world_laws.specs.declared.state.LinkReply.TheVariants.{To}
use Rattle.cluster_world.specs.Kept.{LinkModel, KeepsBelow, shown_back}
use Rattle.cluster_world.specs.Links.{linked, HasReply, Fetches}
use Rattle.cluster_world.specs.declared.link.Kept.TheVariants.{Entry}
use Rattle.cluster_world.proofs.Lookups.{at-place}
use Rattle.cluster_world.proofs.Shown.{none-past, none-there, set-same, line-at, rest-below, first-below, fetched, fetched-other, shows-reply, tails}
use Rattle.cluster_world.proofs.links.Links.fetch.Goals as goal

pub returns-then-not-can_fetch : goal.returns-then-not-can_fetch
returns-then-not-can_fetch c =
    let ls : List LinkModel = c.self.inside.links.items in
    let h : List EntryModel = c.self.inside.history.items in
    let l : LinkModel = c.in-Some.link.now in
    let at : slice_get ls c.args.at ≡ Some l = at-place ls c.args.at l c.in-Some.ensures.item.3.0 c.in-Some.ensures.value in (
      none-there ls h c.args.self.now c.self.view_is c.args.at l at HasReply (λ p. let no : false ≡ true = c.if-not-can_fetch.ensures.1 (p.0, λ e. p.1 (ap (map (shown_back h)) e)) in absurd (cc)),
      set-same ls h c.args.at l l at refl ∙ c.self.view_is,
    )

pub index-requires : goal.index-requires
index-requires c =
    let ls : List LinkModel = c.self.inside.links.items in
    let h : List EntryModel = c.self.inside.history.items in
    let l : LinkModel = c.in-Some.link.now in
    let at : slice_get ls c.args.at ≡ Some l = at-place ls c.args.at l c.in-Some.ensures.item.3.0 c.in-Some.ensures.value in
    let below : c.in-Some-first_entry.place < length h =
    first-below (length h) (Entry c.in-Some-first_entry.ticket c.in-Some-first_entry.place) l.backs c.in-Some-first_entry.ensures.0 c.in-Some-first_entry.ensures.1 (line-at (length h) ls c.args.at l c.self.invariant at) in
    let size : vec_len c.self.inside.history ≡ length h = search rules in omega (arith, below, size)

pub invariant_of-self-in-Some-first_entry : goal.invariant_of-self-in-Some-first_entry
invariant_of-self-in-Some-first_entry c =
    let ls : List LinkModel = c.self.inside.links.items in
    let h : List EntryModel = c.self.inside.history.items in
    let l : LinkModel = c.in-Some.link.now in
    let at : slice_get ls c.args.at ≡ Some l = at-place ls c.args.at l c.in-Some.ensures.item.3.0 c.in-Some.ensures.value in
    All-set (KeepsBelow (length h)) ls c.args.at c.take_back.new.self
    (rest-below (length h) c.take_back.result l.backs c.take_back.new.self.backs c.take_back.ensures.first (line-at (length h) ls c.args.at l c.self.invariant at)) c.self.invariant

pub returns-in-Some-first_entry : goal.returns-in-Some-first_entry
returns-in-Some-first_entry c =
    let ls : List LinkModel = c.self.inside.links.items in
    let h : List EntryModel = c.self.inside.history.items in
    let l : LinkModel = c.in-Some.link.now in
    let at : slice_get ls c.args.at ≡ Some l = at-place ls c.args.at l c.in-Some.ensures.item.3.0 c.in-Some.ensures.value in
    let ticket : Ticket = c.in-Some-first_entry.ticket in
    let place : ℕ = c.in-Some-first_entry.place in
    let below : place < length h = first-below (length h) (Entry ticket place) l.backs c.in-Some-first_entry.ensures.0 c.in-Some-first_entry.ensures.1 (line-at (length h) ls c.args.at l c.self.invariant at) in
    let entry : slice_get h place ≡ Some c.index.result.now = at-place h place c.index.result.now below c.index.ensures in
    let reply : data_of c.in_ok-reply.reply ≡ c.index.result.now.reply = ap data_of c.in_ok-reply.ensures ∙ ap (λ (e : EntryModel). e.reply) c.behind-self.view_is in
    fetched ls h c.args.self.now c.self.view_is c.args.at l at c.take_back.new.self c.take_back.ensures.rest (c.if-not-can_fetch.ensures.0 refl).0 (Entry ticket place) (To ticket (Reply c.in_ok-reply.reply))
    (shows-reply h ticket place c.index.result.now c.in_ok-reply.reply entry reply)
    (tails l.backs c.in-Some-first_entry.ensures.0 c.take_back.new.self.backs (Entry ticket place) c.take_back.result c.in-Some-first_entry.ensures.1 c.take_back.ensures.first)

pub invariant_of-self-2 : goal.invariant_of-self-2
invariant_of-self-2 c =
    let ls : List LinkModel = c.self.inside.links.items in
    let h : List EntryModel = c.self.inside.history.items in
    let l : LinkModel = c.in-Some.link.now in
    let at : slice_get ls c.args.at ≡ Some l = at-place ls c.args.at l c.in-Some.ensures.item.3.0 c.in-Some.ensures.value in
    All-set (KeepsBelow (length h)) ls c.args.at c.take_back-2.new.self
    (rest-below (length h) c.take_back-2.result l.backs c.take_back-2.new.self.backs c.take_back-2.ensures.first (line-at (length h) ls c.args.at l c.self.invariant at)) c.self.invariant

pub returns : goal.returns
returns c =
    let ls : List LinkModel = c.self.inside.links.items in
    let h : List EntryModel = c.self.inside.history.items in
    let l : LinkModel = c.in-Some.link.now in
    let at : slice_get ls c.args.at ≡ Some l = at-place ls c.args.at l c.in-Some.ensures.item.3.0 c.in-Some.ensures.value in
    subst (λ (r : Option (Ticket × Told)). Fetches c.args.self.now c.args.at (Ok r) (linked (slice_set ls c.args.at c.take_back-2.new.self) h)) (sym c.refusal.ensures)
    (fetched-other ls h c.args.self.now c.self.view_is c.args.at l at c.take_back-2.new.self c.take_back-2.ensures.rest (c.if-not-can_fetch.ensures.0 refl).0 c.take_back-2.result c.take_back-2.ensures.first c.in_default-first_entry.ensures)

pub returns-in_default : goal.returns-in_default
returns-in_default c =
    let ls : List LinkModel = c.self.inside.links.items in
    let h : List EntryModel = c.self.inside.history.items in
    (none-past ls h c.args.self.now c.self.view_is c.args.at c.in_default.ensures.item.3 HasReply, search rules)
