use Rattle.std.proofs.Common.{sym, ap, ◌∙◌}
use Rattle.resp_wire.specs.ReaderModel.{ReaderModel}
use Rattle.resp_wire.proofs.ReaderLaws.{gave_taken}
use Rattle.resp_wire.proofs.reader.Reader.next.Goals as goal

pub returns-in-Some-take_at_once-clause-exact : goal.returns-in-Some-take_at_once-clause-exact
returns-in-Some-take_at_once-clause-exact c =
    (gave_taken c.args.self.now c.take_at_once.new.self _ (ap (λ (s : ReaderModel). s.fault) (sym c.self.view_is) ∙ c.in_default.is) c.in-Some-take_at_once.ensures).0

pub returns-in-Some-take_at_once-clause-takes : goal.returns-in-Some-take_at_once-clause-takes
returns-in-Some-take_at_once-clause-takes c =
    (gave_taken c.args.self.now c.take_at_once.new.self _ (ap (λ (s : ReaderModel). s.fault) (sym c.self.view_is) ∙ c.in_default.is) c.in-Some-take_at_once.ensures).1
