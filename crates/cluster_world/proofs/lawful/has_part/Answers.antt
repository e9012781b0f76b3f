use Rattle.std.proofs.Common.{◌≡◌, ◌∙◌, ◌<◌, length, rules, sym, get_or}
use Rattle.std.proofs.lemmas.Option.{slice_get-get_or}
use Rattle.cluster_world.specs.Index.{place_in}
use Rattle.cluster_world.proofs.Indexes.{any-here, any-nowhere, place-within}
use Rattle.cluster_world.proofs.Lists.{never, both-ways}
use Rattle.cluster_world.proofs.lawful.has_part.Goals as goal

pub bounds-parts-place : goal.bounds-parts-place
bounds-parts-place c =
    place-within (λ part. part.0) c.args.parts.now (place_in c.args.places.now.entries) c.entry.inside.ticket c.in-Some.place c.requires (sym c.place_of.ensures ∙ c.in-Some.is)

pub returns-in-Some : goal.returns-in-Some
returns-in-Some c =
    let at = sym c.place_of.ensures ∙ c.in-Some.is in
    let within = place-within (λ part. part.0) c.args.parts.now (place_in c.args.places.now.entries) c.entry.inside.ticket c.in-Some.place c.requires at in
    rw (← c.entry.view_is) (both-ways c.is_same.ensures (
    any-here (λ part. part.0) c.args.parts.now (place_in c.args.places.now.entries) (λ part. part.1 ≡ c.entry.inside.part) c.entry.inside.ticket c.in-Some.place
    (get_or c.args.parts.now c.in-Some.place c.index-parts-place.result) c.requires at (slice_get-get_or _ _ _ within)))

pub returns-in-None : goal.returns-in-None
returns-in-None c =
    rw (← c.entry.view_is) (
      λ n. absurd (never n),
      λ any. absurd (any-nowhere (λ part. part.0) c.args.parts.now (place_in c.args.places.now.entries) (λ part. part.1 ≡ c.entry.inside.part) c.entry.inside.ticket c.requires (sym c.place_of.ensures ∙ c.in-None.is) any),
    )

pub offset_bounds-parts-place : goal.offset_bounds-parts-place
offset_bounds-parts-place c =
    let lt : c.in-Some.place < length c.args.parts.now = place-within (λ part. part.0) c.args.parts.now (place_in c.args.places.now.entries) c.entry.inside.ticket c.in-Some.place c.requires (sym c.place_of.ensures ∙ c.in-Some.is) in
    search (rules, lt)
