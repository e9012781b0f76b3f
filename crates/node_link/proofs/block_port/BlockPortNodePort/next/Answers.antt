use Rattle.std.proofs.Common.{◌++◌, List, ℕ, ap, inl, inr, refl, subst, sym, ◌∙◌}
use Rattle.std.specs.Prelude.{Err, Ok, Some, None}
use Rattle.std.proofs.lemmas.List.{append-nil}
use Rattle.resp_wire.specs.ReaderModel.{ReaderModel}
use Rattle.node_link.specs.Bytes.{CountsRead, FlushOutcome, InboxModel, MayWait, Offers, OutboxModel, input_of}
use Rattle.node_link.specs.Collecting.{ValueOutcome}
use Rattle.node_link.proofs.Blocking.{gave_none, next_gone, next_read_at, next_unread, next_unread_at}
use Rattle.node_link.proofs.Moves.{failed_at, filled_bounds, filled_unread, flushed, rests_offered, rose_later}
use Rattle.node_link.proofs.Replying.{resumed}
use Rattle.node_link.proofs.block_port.BlockPortNodePort.next.Goals as goal

pub returns-in-Ok-Some-clause-does : goal.returns-in-Ok-Some-clause-does
returns-in-Ok-Some-clause-does g c =
    let inside = c.self.inside in
    next_unread_at g.S.Stream.failures g.S.Stream.moved g.S.Stream.asked g.S.Stream.offered
    (record { bytes = record { stream = inside.stream; unsent = inside.outbox.unsent.bytes; refused = inside.outbox.unsent.refused; quiet_reads = inside.outbox.unsent.quiet_reads; input = input_of inside.inbox }; replies = inside.replies; takes_blocks = inside.takes_blocks })
    c.args.self.now
    (record { bytes = record { stream = c.flush_before_read-flushed.new.stream; unsent = c.flush_before_read-flushed.new.self.unsent.bytes; refused = c.flush_before_read-flushed.new.self.unsent.refused; quiet_reads = c.flush_before_read-flushed.new.self.unsent.quiet_reads; input = input_of c.take.new.inbox }; replies = c.take.new.self; takes_blocks = inside.takes_blocks })
    c.flush_before_read-flushed.result (Ok (Some c.in-Ok-Some.value)) c.self.view_is c.flush_before_read-flushed.ensures.written (rw c.in-Ok-Some.field-0-is at c.in-Ok-Some.ensures.taken) refl

pub returns-in-Err-clause-does : goal.returns-in-Err-clause-does
returns-in-Err-clause-does g c =
    let inside = c.self.inside in
    next_unread_at g.S.Stream.failures g.S.Stream.moved g.S.Stream.asked g.S.Stream.offered
    (record { bytes = record { stream = inside.stream; unsent = inside.outbox.unsent.bytes; refused = inside.outbox.unsent.refused; quiet_reads = inside.outbox.unsent.quiet_reads; input = input_of inside.inbox }; replies = inside.replies; takes_blocks = inside.takes_blocks })
    c.args.self.now
    (record { bytes = record { stream = c.flush_before_read-flushed.new.stream; unsent = c.flush_before_read-flushed.new.self.unsent.bytes; refused = c.flush_before_read-flushed.new.self.unsent.refused; quiet_reads = c.flush_before_read-flushed.new.self.unsent.quiet_reads; input = input_of c.take.new.inbox }; replies = c.take.new.self; takes_blocks = inside.takes_blocks })
    c.flush_before_read-flushed.result (Err c.in-Err.fault) c.self.view_is c.flush_before_read-flushed.ensures.written c.in-Err.ensures.taken refl

pub returns-in-Err-flushed-clause-does : goal.returns-in-Err-flushed-clause-does
returns-in-Err-flushed-clause-does g c =
    let inside = c.self.inside in
    let taken = rw c.in-Ok-None.field-0-is at c.in-Ok-None.ensures.taken in
    rw (← c.self.view_is) (
      failed_at g.S.Stream.failures g.S.Stream.moved _ _ _ _ _ _ c.in-Err-flushed.is c.flush_before_read-flushed.ensures.written,
      next_unread g.S.Stream.failures g.S.Stream.moved g.S.Stream.asked g.S.Stream.offered
          (record { bytes = record { stream = inside.stream; unsent = inside.outbox.unsent.bytes; refused = inside.outbox.unsent.refused; quiet_reads = inside.outbox.unsent.quiet_reads; input = input_of inside.inbox }; replies = inside.replies; takes_blocks = inside.takes_blocks })
          (record { bytes = record { stream = c.flush_before_read-flushed.new.stream; unsent = c.flush_before_read-flushed.new.self.unsent.bytes; refused = c.flush_before_read-flushed.new.self.unsent.refused; quiet_reads = c.flush_before_read-flushed.new.self.unsent.quiet_reads; input = input_of c.take.new.inbox }; replies = c.take.new.self; takes_blocks = inside.takes_blocks })
          c.flush_before_read-flushed.result (Ok None) c.flush_before_read-flushed.ensures.written taken refl,
    )

pub make_room-requires : goal.make_room-requires
make_room-requires g c = (rw c.in-Ok-None.field-0-is at c.in-Ok-None.ensures.drained).0

pub returns-in-Err-make_room-clause-does : goal.returns-in-Err-make_room-clause-does
returns-in-Err-make_room-clause-does g c =
    let inside = c.self.inside in
    let taken = rw c.in-Ok-None.field-0-is at c.in-Ok-None.ensures.taken in
    let kept = subst (λ (i : InboxModel). ValueOutcome (input_of inside.inbox) inside.replies (Ok None) (input_of i) c.take.new.self) (sym c.make_room.ensures.kept) taken in
    rw (← c.self.view_is)
    (next_unread g.S.Stream.failures g.S.Stream.moved g.S.Stream.asked g.S.Stream.offered
    (record { bytes = record { stream = inside.stream; unsent = inside.outbox.unsent.bytes; refused = inside.outbox.unsent.refused; quiet_reads = inside.outbox.unsent.quiet_reads; input = input_of inside.inbox }; replies = inside.replies; takes_blocks = inside.takes_blocks })
    (record { bytes = record { stream = c.flush_before_read-flushed.new.stream; unsent = c.flush_before_read-flushed.new.self.unsent.bytes; refused = c.flush_before_read-flushed.new.self.unsent.refused; quiet_reads = c.flush_before_read-flushed.new.self.unsent.quiet_reads; input = input_of c.make_room.new.self }; replies = c.take.new.self; takes_blocks = inside.takes_blocks })
    c.flush_before_read-flushed.result (Ok None) c.flush_before_read-flushed.ensures.written kept refl)

pub fill-requires-clause-empty : goal.fill-requires-clause-empty
fill-requires-clause-empty g c = ap (λ (i : InboxModel). i.unfed) c.make_room.ensures.kept ∙ (rw c.in-Ok-None.field-0-is at c.in-Ok-None.ensures.drained).0

pub fill-requires-clause-sound : goal.fill-requires-clause-sound
fill-requires-clause-sound g c = ap (λ (i : InboxModel). i.fed.fault) c.make_room.ensures.kept ∙ (rw c.in-Ok-None.field-0-is at c.in-Ok-None.ensures.drained).1

pub returns-in-Err-fill-clause-does : goal.returns-in-Err-fill-clause-does
returns-in-Err-fill-clause-does g c =
    let inside = c.self.inside in
    let taken = rw c.in-Ok-None.field-0-is at c.in-Ok-None.ensures.taken in
    let gone = c.in-Err-fill.ensures.read in
    let flush = subst (λ (u : List ℕ). FlushOutcome g.S.Stream.failures g.S.Stream.moved inside.stream inside.outbox.unsent.bytes c.flush_before_read-flushed.result c.flush_before_read-flushed.new.stream u)
    (sym (ap (λ (o : OutboxModel). o.unsent.bytes) c.count_read.ensures.kept)) c.flush_before_read-flushed.ensures.written in
    let kept = subst (λ (i : ReaderModel). ValueOutcome (input_of inside.inbox) inside.replies (Ok None) i c.take.new.self) (sym (gone.2 ∙ ap input_of c.make_room.ensures.kept)) taken in
    rw (← c.self.view_is) (
      rose_later _ _ _ c.flush_before_read-flushed.ensures.count c.fill.ensures.count gone.0,
      next_gone g.S.Stream.failures g.S.Stream.moved g.S.Stream.asked g.S.Stream.offered g.met.S.Stream.joined
          (record { bytes = record { stream = inside.stream; unsent = inside.outbox.unsent.bytes; refused = inside.outbox.unsent.refused; quiet_reads = inside.outbox.unsent.quiet_reads; input = input_of inside.inbox }; replies = inside.replies; takes_blocks = inside.takes_blocks })
          (record { bytes = record { stream = c.fill.new.stream; unsent = c.count_read.new.self.unsent.bytes; refused = c.count_read.new.self.unsent.refused; quiet_reads = c.count_read.new.self.unsent.quiet_reads; input = input_of c.fill.new.self }; replies = c.take.new.self; takes_blocks = inside.takes_blocks })
          c.flush_before_read-flushed.new.stream c.flush_before_read-flushed.result flush gone.1 kept refl,
    )

pub returns-clause-does : goal.returns-clause-does
returns-clause-does g c =
    let inside = c.self.inside in
    let taken = rw c.in-Ok-None.field-0-is at c.in-Ok-None.ensures.taken in
    let drained = rw c.in-Ok-None.field-0-is at c.in-Ok-None.ensures.drained in
    let filled = c.in_default-fill.ensures.read in
    let fed = ap (λ (i : InboxModel). i.fed) c.make_room.ensures.kept in
    let unsent = ap (λ (o : OutboxModel). o.unsent.bytes) c.count_read.ensures.kept in
    let flush = subst (λ (u : List ℕ). FlushOutcome g.S.Stream.failures g.S.Stream.moved inside.stream inside.outbox.unsent.bytes c.flush_before_read-flushed.result c.flush_before_read-flushed.new.stream u)
    (sym unsent) c.flush_before_read-flushed.ensures.written in
    next_read_at g.S.Stream.failures g.S.Stream.moved g.S.Stream.asked g.S.Stream.offered g.met.S.Stream.joined
    (record { bytes = record { stream = inside.stream; unsent = inside.outbox.unsent.bytes; refused = inside.outbox.unsent.refused; quiet_reads = inside.outbox.unsent.quiet_reads; input = input_of inside.inbox }; replies = inside.replies; takes_blocks = inside.takes_blocks })
    c.args.self.now
    (record { bytes = record { stream = c.fill.new.stream; unsent = c.count_read.new.self.unsent.bytes; refused = c.count_read.new.self.unsent.refused; quiet_reads = c.count_read.new.self.unsent.quiet_reads; input = input_of c.take-2.new.inbox }; replies = c.take-2.new.self; takes_blocks = inside.takes_blocks })
    c.flush_before_read-flushed.new.stream c.flush_before_read-flushed.result c.fill.new.self.unfed c.take-2.result c.self.view_is flush filled.0
    (resumed (input_of inside.inbox) (input_of c.take.new.inbox) (input_of c.fill.new.self) (input_of c.take-2.new.inbox) c.fill.new.self.unfed inside.replies c.take.new.self c.take-2.new.self c.take-2.result
    taken.0 (filled_unread c.take.new.inbox c.take.new.inbox c.make_room.new.self c.fill.new.self refl drained.0 filled.1 fed)
    (filled_bounds c.take.new.inbox c.take.new.inbox c.make_room.new.self c.fill.new.self refl filled.1 fed) c.take-2.ensures.taken)
    refl

pub returns-clause-none : goal.returns-clause-none
returns-clause-none g c = λ gave.
    let inside = c.self.inside in
    let w = gave_none (input_of c.fill.new.self) (input_of c.take-2.new.inbox) c.take.new.self c.take-2.new.self c.take-2.result c.take-2.ensures.taken gave in
    let kept = ap (λ (o : OutboxModel). o.unsent.bytes) c.count_read.ensures.kept in
    let refused = ap (λ (o : OutboxModel). o.unsent.refused) c.count_read.ensures.kept in
    let f = flushed g.S.Stream.failures g.S.Stream.moved c.flush_before_read-flushed.result inside.stream c.flush_before_read-flushed.new.stream inside.outbox.unsent.bytes c.flush_before_read-flushed.new.self.unsent.bytes c.flush_before_read-flushed.ensures.written in
    let offers = subst (λ (r : ℕ). Offers g.S.Stream.offered (MayWait inside.outbox.unsent.bytes inside.outbox.unsent.quiet_reads) inside.stream inside.outbox.unsent.bytes inside.outbox.unsent.refused c.flush_before_read-flushed.new.stream r)
    (sym refused) c.flush_before_read-flushed.ensures.offers in
    let counts = subst (λ (n : ℕ). CountsRead n c.count_read.new.self.unsent.quiet_reads) c.flush_before_read-flushed.ensures.quiet c.count_read.ensures.counts in
    let offered = rests_offered g.S.Stream.offered
    (record { stream = inside.stream; unsent = inside.outbox.unsent.bytes; refused = inside.outbox.unsent.refused; quiet_reads = inside.outbox.unsent.quiet_reads; input = input_of inside.inbox })
    (record { stream = c.fill.new.stream; unsent = c.count_read.new.self.unsent.bytes; refused = c.count_read.new.self.unsent.refused; quiet_reads = c.count_read.new.self.unsent.quiet_reads; input = input_of c.take-2.new.inbox })
    c.flush_before_read-flushed.new.stream f.0 offers (sym (append-nil inside.outbox.unsent.bytes) ∙ f.2 ∙ ap (λ (rest : List ℕ). f.0 ++ rest) (sym kept)) counts in
    ((w.0, c.flush_before_read-flushed.new.stream, c.in_default-fill.ensures.read_now, offered), w.1)

pub returns-in-Ok-Some-clause-offers : goal.returns-in-Ok-Some-clause-offers
returns-in-Ok-Some-clause-offers g c = rw (← c.self.view_is) (c.flush_before_read-flushed.new.stream, c.flush_before_read-flushed.ensures.offers, inl (refl, c.flush_before_read-flushed.ensures.quiet))

pub returns-in-Err-clause-offers : goal.returns-in-Err-clause-offers
returns-in-Err-clause-offers g c = rw (← c.self.view_is) (c.flush_before_read-flushed.new.stream, c.flush_before_read-flushed.ensures.offers, inl (refl, c.flush_before_read-flushed.ensures.quiet))

pub returns-in-Err-flushed-clause-offers : goal.returns-in-Err-flushed-clause-offers
returns-in-Err-flushed-clause-offers g c = rw (← c.self.view_is) (c.flush_before_read-flushed.new.stream, c.flush_before_read-flushed.ensures.offers, inl (refl, c.flush_before_read-flushed.ensures.quiet))

pub returns-in-Err-make_room-clause-offers : goal.returns-in-Err-make_room-clause-offers
returns-in-Err-make_room-clause-offers g c = rw (← c.self.view_is) (c.flush_before_read-flushed.new.stream, c.flush_before_read-flushed.ensures.offers, inl (refl, c.flush_before_read-flushed.ensures.quiet))

pub returns-in-Err-fill-clause-offers : goal.returns-in-Err-fill-clause-offers
returns-in-Err-fill-clause-offers g c =
    let inside = c.self.inside in
    let offers = subst (λ (r : ℕ). Offers g.S.Stream.offered (MayWait inside.outbox.unsent.bytes inside.outbox.unsent.quiet_reads) inside.stream inside.outbox.unsent.bytes inside.outbox.unsent.refused c.flush_before_read-flushed.new.stream r)
    (sym (ap (λ (o : OutboxModel). o.unsent.refused) c.count_read.ensures.kept)) c.flush_before_read-flushed.ensures.offers in
    let counts = subst (λ (n : ℕ). CountsRead n c.count_read.new.self.unsent.quiet_reads) c.flush_before_read-flushed.ensures.quiet c.count_read.ensures.counts in
    rw (← c.self.view_is) (c.flush_before_read-flushed.new.stream, offers, inr (c.fill.ensures.asked, counts))

pub returns-clause-offers : goal.returns-clause-offers
returns-clause-offers g c =
    let inside = c.self.inside in
    let offers = subst (λ (r : ℕ). Offers g.S.Stream.offered (MayWait inside.outbox.unsent.bytes inside.outbox.unsent.quiet_reads) inside.stream inside.outbox.unsent.bytes inside.outbox.unsent.refused c.flush_before_read-flushed.new.stream r)
    (sym (ap (λ (o : OutboxModel). o.unsent.refused) c.count_read.ensures.kept)) c.flush_before_read-flushed.ensures.offers in
    let counts = subst (λ (n : ℕ). CountsRead n c.count_read.new.self.unsent.quiet_reads) c.flush_before_read-flushed.ensures.quiet c.count_read.ensures.counts in
    rw (← c.self.view_is) (c.flush_before_read-flushed.new.stream, offers, inr (c.fill.ensures.asked, counts))
