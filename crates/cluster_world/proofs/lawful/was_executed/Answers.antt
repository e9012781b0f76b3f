use Rattle.std.proofs.Common.{◌≡◌, ◌∙◌, ◌<◌, ◌↔◌, sym, ap, length, refl, rules, subst, IsTrue, []}
use Rattle.std.specs.Prelude.{is_none}
use Rattle.std.proofs.lemmas.Option.{slice_get_read}
use Rattle.resp_wire.specs.Seen.{data_of}
use Rattle.cluster_world.specs.Index.{place_in}
use Rattle.cluster_world.specs.Lawful.{replies_to}
use Rattle.cluster_world.proofs.Indexes.{place-within}
use Rattle.cluster_world.proofs.Lists.{never, both-ways}
use Rattle.cluster_world.proofs.Replies.{of-entry, reply-tells, no-reply-tells, silence-tells, at-most-one}
use Rattle.cluster_world.proofs.lawful.was_executed.Goals as goal

pub bounds-history-place : goal.bounds-history-place
bounds-history-place c =
    place-within of-entry c.args.history.now (place_in c.args.places.now.entries) c.args.ticket c.in-Some.place c.requires (sym c.place_of-place.ensures ∙ c.in-Some.is)

pub offset_bounds-history-place : goal.offset_bounds-history-place
offset_bounds-history-place c =
    let lt : c.in-Some.place < length c.args.history.now = place-within of-entry c.args.history.now (place_in c.args.places.now.entries) c.args.ticket c.in-Some.place c.requires (sym c.place_of-place.ensures ∙ c.in-Some.is) in
    search (rules, lt)

pub returns-in-Some : goal.returns-in-Some
returns-in-Some c =
    let at = sym c.place_of-place.ensures ∙ c.in-Some.is in
    let within = place-within of-entry c.args.history.now (place_in c.args.places.now.entries) c.args.ticket c.in-Some.place c.requires at in
    rw c.in-Answered.is (both-ways c.replied.ensures (
    reply-tells c.args.history.now (place_in c.args.places.now.entries) c.args.ticket c.in-Some.place _ (data_of c.in-Answered.value) c.requires at
    (slice_get_read _ _ _ _ refl within c.index-history-place.is)))

pub returns-in-None : goal.returns-in-None
returns-in-None c =
    rw c.in-Answered.is (λ n. absurd (never n), λ all. absurd (no-reply-tells c.args.history.now (place_in c.args.places.now.entries) c.args.ticket (data_of c.in-Answered.value) c.requires (sym c.place_of-place.ensures ∙ c.in-None.is) all))

pub returns-in-GaveUp : goal.returns-in-GaveUp
returns-in-GaveUp c =
    let is : c.is_none-silent.result ≡ is_none c.place_of-place.result = search rules in
    rw c.in-GaveUp.is (subst (λ b. IsTrue b ↔ (replies_to c.args.history.now c.args.ticket ≡ [])) (sym (is ∙ ap is_none c.place_of-place.ensures)) (silence-tells c.args.history.now (place_in c.args.places.now.entries) c.args.ticket c.requires))

pub returns-in-Lost : goal.returns-in-Lost
returns-in-Lost c = rw c.in-Lost.is (λ _. at-most-one c.args.history.now (place_in c.args.places.now.entries) c.args.ticket c.requires, λ _. refl)
