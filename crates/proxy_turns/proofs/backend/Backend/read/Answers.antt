use Rattle.std.proofs.Common.{◌∙◌, ap, sym, subst, Option, Some, refl, inr}
use Rattle.std.proofs.lemmas.Bool.{false≢true}
use Rattle.node_link.specs.LinkModel.{LinkModel}
use Rattle.proxy_turns.specs.Backend.{IsUnreadable}
use Rattle.proxy_turns.proofs.Backends.{none_where, read_well, read_ill}
use Rattle.proxy_turns.proofs.backend.Backend.read.Goals as goal

pub returns-then-is_unread : goal.returns-then-is_unread
returns-then-is_unread g c = λ unanswered published.
    let ill = read_ill _ _ _ c.in-Err.fault (c.if-is_unread.ensures.0 refl) (rw c.node-2.ensures at c.in-Err.ensures.reads) in
    let Q : Option (LinkModel g.row.P.Denot) → Type 0 = λ link. IsUnreadable link c.in-Some.value c.args.nodes.now in (
      (
        c.in-Some.value,
        c.in-Some.is,
        subst Q (sym c.in-Some-link.is) (inr (c.in-Err.fault, ill.0)),
        λ i. record { backend = record c.args.self.now { answer = c.put-then-is_unread.ensures i }; nodes = ill.1 i; published = published },
      ),
      refl,
      λ still. absurd (false≢true (sym still)),
    )

pub returns-in-Ok : goal.returns-in-Ok
returns-in-Ok g c = λ unanswered published.
    let well = read_well _ _ _ c.in-Ok.changes (rw c.node-2.ensures at c.in-Ok.ensures.reads) in (
      (
        c.in-Some-link.link,
        c.in-Some.value,
        well.0,
        c.in-Some-link.is,
        c.in-Some.is,
        none_where _ (sym c.is_some.ensures ∙ c.if-is_some.false),
        well.1,
        λ i. record {
          backend = record c.args.self.now { answer = c.put-in-Ok.ensures i; changes = (c.put-in-Ok-2.ensures ∙ ap Some well.2) i };
          nodes = well.3 i;
          published = published;
        },
      ),
      refl,
      λ still. absurd (false≢true (sym still)),
    )
