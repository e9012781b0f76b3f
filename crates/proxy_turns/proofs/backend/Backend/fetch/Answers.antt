use Rattle.std.proofs.Common.{◌∙◌, sym, subst, Option, Ok, refl, inl, inr}
use Rattle.std.proofs.lemmas.Bool.{false≢true}
use Rattle.node_link.specs.LinkModel.{LinkModel}
use Rattle.proxy_turns.specs.Backend.{BackendFetches}
use Rattle.proxy_turns.proofs.Backends.{never, none_where, holds, waits}
use Rattle.proxy_turns.proofs.backend.Backend.fetch.Goals as goal

pub returns-then-failed : goal.returns-then-failed
returns-then-failed g c = λ unanswered published.
    let P : Option (LinkModel g.row.P.Denot) → Type 0 = λ link. BackendFetches g.P.NodePort.calls unanswered
    (record { backend = record c.args.self.now { link = link }; nodes = c.args.nodes.now; published = published }) (Ok c.give_up.result)
    (record { backend = c.give_up.new.self; nodes = c.args.nodes.now; published = published }) in
    subst P (sym c.in-Some.is) (c.give_up.ensures unanswered c.args.nodes.now published)

pub returns-in-Ok-Some : goal.returns-in-Ok-Some
returns-in-Ok-Some g c = λ unanswered published. holds g.P.NodePort.calls unanswered
    c.args.self.now _ c.in-Some.link c.receive.new.self c.args.nodes.now c.receive.new.table published c.in-Ok-Some.got _
    c.in-Some.is (none_where _ (sym c.is_some.ensures ∙ c.if-is_some.false)) (none_where _ (sym c.is_some-else-is_some.ensures ∙ c.if-is_some-2.false))
    (rw c.in-Ok-Some.field-0-is at c.in-Ok-Some.ensures.does) c.hold.ensures

pub returns-in-Ok-None : goal.returns-in-Ok-None
returns-in-Ok-None g c = λ unanswered published. (
  (c.in-Some.link, c.receive.new.self, (c.in-Some.is, rw c.in-Ok-None.field-0-is at c.in-Ok-None.ensures.does), rw c.in-Ok-None.field-0-is at c.in-Ok-None.ensures.none, refl),
  refl,
  λ still. (
    inl (waits g.P.NodePort.calls c.in-Some.link c.receive.new.self _ _ (rw c.in-Ok-None.field-0-is at c.in-Ok-None.ensures.does)),
    λ told answer unfailed known. (c.in-Some.link, c.args.nodes.now, c.receive.new.table, rw c.in-Ok-None.field-0-is at c.in-Ok-None.ensures.does, rw c.in-Ok-None.field-0-is at c.in-Ok-None.ensures.none),
  ),
)

pub returns-then-lacks_memory : goal.returns-then-lacks_memory
returns-then-lacks_memory g c = λ unanswered published.
    inr (c.in-Some.link, c.receive.new.self, c.in-Some.is, inl (rw (c.if-lacks_memory.ensures.0 refl) at c.in-Err.ensures.does), refl)

pub returns-else-lacks_memory : goal.returns-else-lacks_memory
returns-else-lacks_memory g c = λ unanswered published.
    ((c.in-Some.link, c.receive.new.self, c.in-Err.fault, (λ e. never c.if-lacks_memory.ensures.1 e), (c.in-Some.is, c.in-Err.ensures.does), refl), refl, λ still. absurd (false≢true (sym still)))
