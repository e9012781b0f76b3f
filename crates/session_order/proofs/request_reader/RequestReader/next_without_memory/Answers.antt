use Rattle.std.proofs.Common.{◌≡◌, ap, sym, ◌∙◌}
use Rattle.session_order.proofs.Taking.{passed, passes}
use Rattle.session_order.proofs.request_reader.RequestReader.next_without_memory.Goals as goal
use Rattle.session_order.proofs.request_reader.RequestReader.next_without_memory.Goals.{in-None, in-Some-Empty, in-Some-Other}

pub returns-clause-does : goal.returns-clause-does
returns-clause-does c =
    let is : c.match-skip_other.result ≡ passed c.skip_other.result = elim c.match-skip_other.branch [
      | in-None w ↦ rw w.in-None.is w.result-is
      | in-Some-Empty w ↦ rw (w.in-Some-Empty.is, w.in-Some-Empty.field-0-is) w.result-is
      | in-Some-Other w ↦ rw (w.in-Some-Other.is, w.in-Some-Other.field-0-is) w.result-is
    ] in
    passes c.args.self.now c.self.inside.reader c.skip_other.new.self _ c.skip_other.result _ c.self.view_is c.requires c.skip_other.ensures is
