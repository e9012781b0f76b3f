use Rattle.std.proofs.Common.{ap, ◌∙◌, ◌≡◌, [], None, length, replicate}
use Rattle.resp_wire.specs.LimitsModel.{LimitsModel, full}
use Rattle.key_split.specs.declared.travel.Ended.TheVariants.{Lost}
use Rattle.session_order.specs.declared.closing.Closing.TheVariants.{Quit}
use Rattle.session_order.specs.RequestReaderModel.{RequestReaderModel}
use Rattle.session_order.specs.LettingGo.{one_for}
use Rattle.session_order.proofs.HangingUp.{hangs_up}
use Rattle.session_order.proofs.session.Session.hang_up.Goals as goal

-- nothing of these bounds was read
abbrev nothing_read : LimitsModel → RequestReaderModel
nothing_read bounds = record { input = record { bounds = bounds; unread = []; fault = None }; ahead = None }

pub returns : goal.returns
returns c =
    let count : c.len-count.result ≡ length c.let_go.new.self.stages = c.len-count.ensures in
    let incoming : c.new.result ≡ nothing_read full = c.new.ensures ∙ ap nothing_read c.full.ensures in
    let requests = c.keep_one.ensures ∙ ap one_for count in
    let ends = c.keep_lost.ensures ∙ ap (λ n. replicate n Lost) count in
    rw (← c.self.view_is) (record {
      does = hangs_up _ _ (record {
        parts = c.let_go.ensures;
        rest = λ i. record {
          worker = c.self.inside.worker;
          client = c.self.inside.client;
          incoming = incoming i;
          requests = requests i;
          stages = c.let_go.new.self.stages;
          ends = ends i;
          first = c.let_go.new.self.first;
          closing = Quit;
        };
      });
    })
