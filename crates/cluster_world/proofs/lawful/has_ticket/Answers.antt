use Rattle.std.proofs.Common.{◌≡◌, ◌↔◌, ◌∙◌, ap, Any, IsTrue, sym, subst, rules}
use Rattle.std.specs.Prelude.{is_some}
use Rattle.cluster_world.specs.Index.{place_in}
use Rattle.cluster_world.proofs.Indexes.{has-ticket}
use Rattle.cluster_world.proofs.lawful.has_ticket.Goals as goal

pub returns : goal.returns
returns c =
    let is : c.is_some.result ≡ is_some c.place_of.result = search rules in
    subst (λ b. IsTrue b ↔ Any (λ part. part.0 ≡ c.args.ticket) c.args.parts.now) (sym (is ∙ ap is_some c.place_of.ensures))
    (has-ticket (λ part. part.0) c.args.parts.now (place_in c.args.places.now.entries) c.args.ticket c.requires)
