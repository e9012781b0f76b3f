use Rattle.std.proofs.Common.{◌∙◌, ◌≡◌, nat_eq, ap, subst, Some, Ok, Result}
use Rattle.std.specs.Result.{OnOk}
use Rattle.std.specs.HashMap.{Updates}
use Rattle.std.specs.FinMap.{insert}
use Rattle.key_split.specs.declared.travel.Ticket.{Ticket}
use Rattle.command_future.specs.CommandModel.{CommandModel}
use Rattle.proxy_turns.specs.Commands.{in_table}
use Rattle.proxy_turns.proofs.Tables.{put_at}
use Rattle.proxy_turns.proofs.commands.posting.keep_one.Goals as goal

on-ok : {T E : Type 0} (P : Type 0) (r : Result T E) (x : T) → r ≡ Ok x → OnOk r P → P
on-ok P r x e h = subst (λ z. OnOk z P) e h

pub returns-clause-put : goal.returns-clause-put
returns-clause-put c =
    let number = c.ticket-number.result.part in
    let now : CommandModel = c.posted.new.self in
    let new = on-ok (Updates nat_eq c.args.posted.now c.insert-put.new.self number (Some now)) c.insert-put.result c.unwrap.result c.unwrap.ensures c.insert-put.ensures.updates in
    put_at number now c.args.posted.now.entries c.insert-put.new.self.entries new.0
    ∙ ap (λ (t : Ticket). insert (in_table c.args.posted.now.entries) t.part now) c.ticket-number.ensures
    ∙ ap (λ (x : CommandModel). insert (in_table c.args.posted.now.entries) x.ticket.part x) c.posted.ensures.progress
