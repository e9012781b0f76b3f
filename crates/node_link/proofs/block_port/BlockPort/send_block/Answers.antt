use Rattle.std.proofs.Common.{◌∙◌, List, ℕ, ap, inl, inr, refl, subst, sym}
use Rattle.std.specs.Prelude.{⊤}
use Rattle.node_link.specs.Bytes.{FlushOutcome, Offers, UnsentModel, input_of}
use Rattle.node_link.proofs.Blocking.{finished, forgotten, goes_block, goes_quiet, sends_block}
use Rattle.node_link.proofs.block_port.BlockPort.send_block.Goals as goal

pub returns-in-Err-clause-does : goal.returns-in-Err-clause-does
returns-in-Err-clause-does g c =
    let inside = c.self.inside in
    let gone = c.in-Err.ensures.written in
    rw (← c.self.view_is) (
      gone.0,
      inr (goes_quiet g.S.Stream.failures g.S.Stream.moved c.flush_before_send.result
          (record { bytes = record { stream = inside.stream; unsent = inside.outbox.unsent.bytes; refused = inside.outbox.unsent.refused; quiet_reads = inside.outbox.unsent.quiet_reads; input = input_of inside.inbox }; replies = inside.replies; takes_blocks = inside.takes_blocks })
          (record { bytes = record { stream = c.flush_before_send.new.stream; unsent = c.flush_before_send.new.self.unsent.bytes; refused = c.flush_before_send.new.self.unsent.refused; quiet_reads = c.flush_before_send.new.self.unsent.quiet_reads; input = input_of inside.inbox }; replies = inside.replies; takes_blocks = inside.takes_blocks })
          c.flush_before_send.ensures.written refl refl refl),
    )

pub returns-in-Ok-clause-does : goal.returns-in-Ok-clause-does
returns-in-Ok-clause-does g c =
    let inside = c.self.inside in
    let drafted = c.in-Ok.ensures.drafts in
    let unsent = ap (λ (u : UnsentModel). u.bytes)
    (finished c.flush_before_send.new.self c.draft_block.new.out c.finish.new.self _ c.flush_before_send.ensures.draft drafted.0 drafted.1 c.finish.ensures) in
    rw (← c.self.view_is)
    (sends_block g.S.Stream.failures g.S.Stream.moved
    (record { bytes = record { stream = inside.stream; unsent = inside.outbox.unsent.bytes; refused = inside.outbox.unsent.refused; quiet_reads = inside.outbox.unsent.quiet_reads; input = input_of inside.inbox }; replies = inside.replies; takes_blocks = inside.takes_blocks })
    (record { bytes = record { stream = c.flush_before_send.new.stream; unsent = c.finish.new.self.unsent.bytes; refused = c.finish.new.self.unsent.refused; quiet_reads = c.finish.new.self.unsent.quiet_reads; input = input_of inside.inbox }; replies = c.draft_block.new.replies; takes_blocks = inside.takes_blocks })
    c.args.run.now c.flush_before_send.new.self.unsent.bytes c.requires.together c.requires.several c.in-Ok.ensures.plain c.in_default.ensures.written unsent refl drafted.2 refl)

pub returns-in-Ok-clause-goes : goal.returns-in-Ok-clause-goes
returns-in-Ok-clause-goes g c =
    let inside = c.self.inside in
    let drafted = c.in-Ok.ensures.drafts in
    let unsent = ap (λ (u : UnsentModel). u.bytes)
    (finished c.flush_before_send.new.self c.draft_block.new.out c.finish.new.self _ c.flush_before_send.ensures.draft drafted.0 drafted.1 c.finish.ensures) in
    rw (← c.self.view_is)
    (goes_block g.S.Stream.failures g.S.Stream.moved
    (record { bytes = record { stream = inside.stream; unsent = inside.outbox.unsent.bytes; refused = inside.outbox.unsent.refused; quiet_reads = inside.outbox.unsent.quiet_reads; input = input_of inside.inbox }; replies = inside.replies; takes_blocks = inside.takes_blocks })
    (record { bytes = record { stream = c.flush_before_send.new.stream; unsent = c.finish.new.self.unsent.bytes; refused = c.finish.new.self.unsent.refused; quiet_reads = c.finish.new.self.unsent.quiet_reads; input = input_of inside.inbox }; replies = c.draft_block.new.replies; takes_blocks = inside.takes_blocks })
    c.args.run.now c.flush_before_send.new.self.unsent.bytes c.requires.together c.requires.several c.in_default.ensures.written unsent refl drafted.2 refl)

pub returns-in-Err-draft_block-clause-does : goal.returns-in-Err-draft_block-clause-does
returns-in-Err-draft_block-clause-does g c =
    let inside = c.self.inside in
    let kept = c.in-Err-draft_block.ensures.drafts in
    let unsent = ap (λ (u : UnsentModel). u.bytes) (forgotten c.flush_before_send.new.self c.draft_block.new.out c.discard.new.self kept.0 c.discard.ensures) in
    let flush = subst (λ (u : List ℕ). FlushOutcome g.S.Stream.failures g.S.Stream.moved inside.stream inside.outbox.unsent.bytes c.flush_before_send.result c.flush_before_send.new.stream u)
    (sym unsent) c.flush_before_send.ensures.written in
    rw (← c.self.view_is)
    (goes_quiet g.S.Stream.failures g.S.Stream.moved c.flush_before_send.result
    (record { bytes = record { stream = inside.stream; unsent = inside.outbox.unsent.bytes; refused = inside.outbox.unsent.refused; quiet_reads = inside.outbox.unsent.quiet_reads; input = input_of inside.inbox }; replies = inside.replies; takes_blocks = inside.takes_blocks })
    (record { bytes = record { stream = c.flush_before_send.new.stream; unsent = c.discard.new.self.unsent.bytes; refused = c.discard.new.self.unsent.refused; quiet_reads = c.discard.new.self.unsent.quiet_reads; input = input_of inside.inbox }; replies = c.draft_block.new.replies; takes_blocks = inside.takes_blocks })
    flush refl kept.1 refl)

pub returns-in-Err-clause-offers : goal.returns-in-Err-clause-offers
returns-in-Err-clause-offers g c = rw (← c.self.view_is) (c.flush_before_send.ensures.offers, c.flush_before_send.ensures.quiet)

pub returns-in-Ok-clause-offers : goal.returns-in-Ok-clause-offers
returns-in-Ok-clause-offers g c =
    let inside = c.self.inside in
    let drafted = c.in-Ok.ensures.drafts in
    let kept = ap (λ (u : UnsentModel). u.refused)
    (finished c.flush_before_send.new.self c.draft_block.new.out c.finish.new.self _ c.flush_before_send.ensures.draft drafted.0 drafted.1 c.finish.ensures) in
    let offers = subst (λ (r : ℕ). Offers g.S.Stream.offered ⊤ inside.stream inside.outbox.unsent.bytes inside.outbox.unsent.refused c.flush_before_send.new.stream r)
    (sym kept) c.flush_before_send.ensures.offers in
    rw (← c.self.view_is) (offers, tt)

pub returns-in-Err-draft_block-clause-offers : goal.returns-in-Err-draft_block-clause-offers
returns-in-Err-draft_block-clause-offers g c =
    let inside = c.self.inside in
    let left = forgotten c.flush_before_send.new.self c.draft_block.new.out c.discard.new.self c.in-Err-draft_block.ensures.drafts.0 c.discard.ensures in
    let offers = subst (λ (r : ℕ). Offers g.S.Stream.offered ⊤ inside.stream inside.outbox.unsent.bytes inside.outbox.unsent.refused c.flush_before_send.new.stream r)
    (sym (ap (λ (u : UnsentModel). u.refused) left)) c.flush_before_send.ensures.offers in
    rw (← c.self.view_is) (offers, ap (λ (u : UnsentModel). u.quiet_reads) left ∙ c.flush_before_send.ensures.quiet)
