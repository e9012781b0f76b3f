use Rattle.std.proofs.Common.{sym, ◌∙◌, ap}
use Rattle.proxy_lanes.proofs.Counting.{counts_on}
use Rattle.proxy_lanes.proofs.history.Front.add.Goals as goal

pub compare_exchange-found-requires : goal.compare_exchange-found-requires
compare_exchange-found-requires g c =
    let head = c.args.history.now.head_is in
    let offer = c.plain-offer.ensures in
    let pen = c.no_pen-pen.ensures in
    let book = c.self.invariant.1 ∙ sym (ap (λ w. w.book) head) in (
      ap (λ w. w.tracked) head,
      book,
      pen.0 ∙ book,
      offer.0,
      rw (ap (λ w. w.key) head, pen.1, offer.1, offer.3, c.self.invariant.0) (counts_on c.self.inside.seen.log c.args.operation),
    )
