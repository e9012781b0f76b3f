use Rattle.std.proofs.Common.{◌∙◌, Some, ap, inl, refl, sym, false}
use Rattle.proxy_turns.proofs.Backends.{none_where}
use Rattle.proxy_turns.proofs.backend.Backend.open.Goals as goal

pub returns-then-is_some : goal.returns-then-is_some
returns-then-is_some g c = (sym c.is_some.ensures ∙ c.if-is_some.true, refl, refl)

pub returns-in-Ok : goal.returns-in-Ok
returns-in-Ok g c = (
  record { host = c.in-Some.host.now; port = c.in-Some.port },
  c.in-Ok.port,
  none_where _ (sym c.is_some.ensures ∙ c.if-is_some.false),
  sym c.in-Some.ensures.value,
  c.in-Ok.ensures,
  (λ i. record c.args.self.now { link = (c.put.ensures ∙ ap Some c.new.ensures) i; asked = false }),
)

pub returns-in-Err-NoMemory : goal.returns-in-Err-NoMemory
returns-in-Err-NoMemory g c = (refl, rw c.in-Err-NoMemory.field-0-is at c.in-Err-NoMemory.ensures)

pub returns-in-Err-Failed : goal.returns-in-Err-Failed
returns-in-Err-Failed g c =
    let failed = rw c.in-Err-Failed.field-0-is at c.in-Err-Failed.ensures in
    (none_where _ (sym c.is_some.ensures ∙ c.if-is_some.false), refl, inl (record { host = c.in-Some.host.now; port = c.in-Some.port }, sym c.in-Some.ensures.value, failed.0, failed.1))
