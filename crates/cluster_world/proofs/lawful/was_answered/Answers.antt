use Rattle.std.proofs.Common.{◌∙◌, ◌<◌, length, rules, sym, get_or}
use Rattle.std.proofs.lemmas.Option.{slice_get-get_or}
use Rattle.cluster_world.specs.Index.{place_in}
use Rattle.cluster_world.specs.Lawful.{IsAnswered}
use Rattle.cluster_world.proofs.Indexes.{any-here, any-nowhere, place-within}
use Rattle.cluster_world.proofs.Lists.{never, both-ways}
use Rattle.cluster_world.proofs.lawful.was_answered.Goals as goal

pub bounds-ends-place : goal.bounds-ends-place
bounds-ends-place c =
    place-within (λ end. end.0) c.args.ends.now (place_in c.args.places.now.entries) c.args.ticket c.in-Some.place c.requires (sym c.place_of.ensures ∙ c.in-Some.is)

pub returns-in-Some : goal.returns-in-Some
returns-in-Some c =
    let at = sym c.place_of.ensures ∙ c.in-Some.is in
    let within = place-within (λ end. end.0) c.args.ends.now (place_in c.args.places.now.entries) c.args.ticket c.in-Some.place c.requires at in
    both-ways c.is_answered.ensures (
    any-here (λ end. end.0) c.args.ends.now (place_in c.args.places.now.entries) (λ end. IsAnswered end.1) c.args.ticket c.in-Some.place
    (get_or c.args.ends.now c.in-Some.place c.index-ends-place.result) c.requires at (slice_get-get_or _ _ _ within))

pub returns-in-None : goal.returns-in-None
returns-in-None c = (
  λ n. absurd (never n),
  λ any. absurd (any-nowhere (λ end. end.0) c.args.ends.now (place_in c.args.places.now.entries) (λ end. IsAnswered end.1) c.args.ticket c.requires (sym c.place_of.ensures ∙ c.in-None.is) any),
)

pub offset_bounds-ends-place : goal.offset_bounds-ends-place
offset_bounds-ends-place c =
    let lt : c.in-Some.place < length c.args.ends.now = place-within (λ end. end.0) c.args.ends.now (place_in c.args.places.now.entries) c.args.ticket c.in-Some.place c.requires (sym c.place_of.ensures ∙ c.in-Some.is) in
    search (rules, lt)
