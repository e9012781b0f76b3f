use Rattle.std.proofs.Common.{Some, sym, ap, ◌∙◌}
use Rattle.std.specs.Option.{option_copied}
use Rattle.node_model.specs.Store.{put}
use Rattle.node_model.proofs.AllDone.{copied-some, copied-none}
use Rattle.node_model.proofs.store.Store.copy_key.Goals as goal

pub returns-in-None : goal.returns-in-None
returns-in-None c = λ keys h. copied-none keys c.args.self.now c.args.copy.now c.args.key.now (sym c.get.ensures ∙ ap option_copied c.in-None.is) h

pub returns-in_ok-put-in-Some : goal.returns-in_ok-put-in-Some
returns-in_ok-put-in-Some c = λ keys h.
    copied-some keys c.args.self.now c.args.copy.now c.put.new.self c.args.key.now c.in-Some.value.now (sym c.get.ensures ∙ ap option_copied c.in-Some.is)
    (c.in_ok-put-in-Some.ensures.after ∙ ap (λ v. put c.args.copy.now c.args.key.now (Some v)) c.in_ok-copy-in-Some.ensures) h
