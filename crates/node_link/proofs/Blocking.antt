-- What a port that sends blocks exchanged.
use Rattle.std.proofs.Common.{◌≡◌, ◌<◌, ◌≤◌, ◌+◌, ◌++◌, ◌∷◌, [], List, ℕ, length, refl, ap, sym, subst, ◌∙◌, arith, length-append}
use Rattle.std.specs.Prelude.{Option, Some, None, Result, Ok, Err, Bool, false, true, All, map, nat_eq, if◌then◌else◌}
use Rattle.std.specs.List.{flat_map}
use Rattle.std.proofs.lemmas.Bool.Decides.{nat_tests}
use Rattle.std.proofs.lemmas.List.{append-nil}
use Rattle.std.proofs.lemmas.List.Elements.{All-nil, All-tail}
use Rattle.resp_wire.specs.ReaderModel.{ReaderModel}
use Rattle.resp_wire.specs.declared.value.Value.{Value}
use Rattle.key_split.specs.declared.travel.Batch.{Batch}
use Rattle.key_split.specs.Requests.{Request, Asking, Command, requests_of}
use Rattle.key_split.specs.Runs.{GoTogether, IsTogether, RunModel, count_in, requests_of_run}
use Rattle.node_link.specs.declared.port.PortFault.{PortFault}
use Rattle.node_link.specs.declared.port.PortFault.TheVariants.{NoMemory, Failed, BadWire}
use Rattle.node_link.specs.declared.replies.Awaited.{Awaited}
use Rattle.node_link.specs.declared.replies.Awaited.TheVariants as awaited
use Rattle.node_link.specs.declared.stream.Flow.{Flow}
use Rattle.node_link.specs.declared.stream.Gone.{Gone}
use Rattle.node_link.specs.Bytes.{FlushOutcome, OutboxModel, UnsentModel, spelled}
use Rattle.node_link.specs.Waiting.{GaveNone, IsWaiting}
use Rattle.node_link.specs.Blocks.{BlockExchanges, BlockPortModel, block_calls, blocked, GoesAs, IsPlainRequest, IsShort, Item, Plain, Block, RepliesModel, Settles, awaited_by, items_for, items_of, sent_for, spelled_block, still_settles, tells-nothing, written_as}
use Rattle.node_link.specs.Collecting.{Collects, ValueOutcome, await_each}
use Rattle.node_link.specs.Port.{NextOutcome}
use Rattle.node_link.proofs.Moves.{appended, flushed}
use Rattle.node_link.proofs.Replying.{settles_collected}

-- a batch goes request by request
pub batch_plain : (batch : Batch) → sent_for (requests_of batch) ≡ map Plain (requests_of batch)
batch_plain batch = asks batch.asking where
  asks : (asking : Bool) → sent_for ((if asking then Asking ∷ [] else []) ++ Command batch.ticket batch.part ∷ []) ≡ map Plain ((if asking then Asking ∷ [] else []) ++ Command batch.ticket batch.part ∷ [])
  asks true = refl
  asks false = refl

plain_written : (requests : List Request) → flat_map written_as (map Plain requests) ≡ spelled requests
plain_written [] = refl
plain_written (request ∷ requests) = ap (λ (bs : List ℕ). written_as (Plain request) ++ bs) (plain_written requests)

plain_awaited : (requests : List Request) → map awaited_by (map Plain requests) ≡ await_each requests
plain_awaited [] = refl
plain_awaited (request ∷ requests) = ap (λ (ws : List Awaited). awaited.Reply ∷ ws) (plain_awaited requests)

-- a command that does not ask is one request
requests_of_plain : (batch : Batch) → batch.asking ≡ false → length (requests_of batch) ≡ 1
requests_of_plain batch plain = rw plain refl

of_first : (first next : Batch) (later : List Batch) → All (GoTogether first) (next ∷ later) → GoTogether first next
of_first first next later together = together 0 next (omega arith)

later_requests : (first : Batch) (later : List Batch) → All (GoTogether first) later → length (flat_map requests_of later) ≡ length later
later_requests first [] together = refl
later_requests first (next ∷ later) together =
    let plain = (of_first first next later together).next_goes_plain in
    omega (arith, length-append (requests_of next) (flat_map requests_of later), requests_of_plain next plain, later_requests first later (All-tail (GoTogether first) next later together))

by_later : (first : Batch) (later : List Batch) → All (GoTogether first) later → 0 < length later → length (flat_map requests_of (first ∷ later)) ≡ length later + 1
by_later first [] together more = absurd (omega (arith, more))
by_later first (next ∷ later) together more =
    let plain = (of_first first next later together).first_goes_plain in
    omega (arith, length-append (requests_of first) (flat_map requests_of (next ∷ later)), requests_of_plain first plain, later_requests first (next ∷ later) together)

-- the requests of a run of several are its commands
pub run_requests : (run : RunModel) → IsTogether run → 0 < length run.later → length (requests_of_run run) ≡ count_in run
run_requests run together more = by_later run.first run.later together more

command_in : Batch → Request
command_in batch = Command batch.ticket batch.part

plain_is : (batch : Batch) → batch.asking ≡ false → requests_of batch ≡ command_in batch ∷ []
unfolding command_in
plain_is batch plain = rw plain refl

later_commands : (first : Batch) (later : List Batch) → All (GoTogether first) later → flat_map requests_of later ≡ map command_in later
later_commands first [] together = refl
later_commands first (next ∷ later) together =
    ap (λ (rs : List Request). rs ++ flat_map requests_of later) (plain_is next (of_first first next later together).next_goes_plain)
    ∙ ap (λ (rs : List Request). command_in next ∷ rs) (later_commands first later (All-tail (GoTogether first) next later together))

-- commands that follow one another are a block
one_block : (first next : Batch) (later : List Batch) → sent_for (map command_in (first ∷ next ∷ later)) ≡ Block (map command_in (first ∷ next ∷ later)) ∷ []
unfolding command_in
one_block first next [] = refl
one_block first next (third ∷ later) = ap (blocked (command_in first)) (one_block next third later)

block_by : (first : Batch) (later : List Batch) → All (GoTogether first) later → 0 < length later → sent_for (flat_map requests_of (first ∷ later)) ≡ Block (flat_map requests_of (first ∷ later)) ∷ []
block_by first [] together more = absurd (omega (arith, more))
block_by first (next ∷ later) together more =
    let all : flat_map requests_of (first ∷ next ∷ later) ≡ map command_in (first ∷ next ∷ later) =
    ap (λ (rs : List Request). rs ++ flat_map requests_of (next ∷ later)) (plain_is first (of_first first next later together).first_goes_plain)
    ∙ ap (λ (rs : List Request). command_in first ∷ rs) (later_commands first (next ∷ later) together) in
    ap sent_for all ∙ one_block first next later ∙ ap (λ (rs : List Request). Block rs ∷ []) (sym all)

-- a run of several goes as one block
run_block : (run : RunModel) → IsTogether run → 0 < length run.later → sent_for (requests_of_run run) ≡ Block (requests_of_run run) ∷ []
run_block run together more = block_by run.first run.later together more

-- nothing comes for what is sent now
settles_sent : (sent : List Awaited) (old : RepliesModel) → Settles sent old [] [] (record old { awaited = old.awaited ++ sent })
settles_sent sent old =
    ([], rw (append-nil old.came) (tells-nothing (old.awaited ++ sent) old.came), append-nil old.told)

-- a draft that is finished stands behind what waits
pub finished : (out drafted done : OutboxModel) (bytes : List ℕ) → out.draft ≡ [] → drafted.unsent ≡ out.unsent → drafted.draft ≡ out.draft ++ bytes
    → done ≡ record { unsent = record { bytes = drafted.unsent.bytes ++ drafted.draft; refused = drafted.unsent.refused; quiet_reads = done.unsent.quiet_reads }; draft = [] }
    → done.unsent ≡ record { bytes = out.unsent.bytes ++ bytes; refused = out.unsent.refused; quiet_reads = done.unsent.quiet_reads }
finished out drafted done bytes none kept draft is =
    let whole : drafted.draft ≡ bytes = draft ∙ ap (λ (d : List ℕ). d ++ bytes) none in
    ap (λ (o : OutboxModel). o.unsent) is
    ∙ ap (λ (u : UnsentModel). record { bytes = u.bytes ++ drafted.draft; refused = u.refused; quiet_reads = done.unsent.quiet_reads }) kept
    ∙ ap (λ (d : List ℕ). record { bytes = out.unsent.bytes ++ d; refused = out.unsent.refused; quiet_reads = done.unsent.quiet_reads }) whole

-- and one that is forgotten leaves what waits
pub forgotten : (out drafted done : OutboxModel) → drafted.unsent ≡ out.unsent → done ≡ record drafted { draft = [] } → done.unsent ≡ out.unsent
forgotten out drafted done kept is = ap (λ (o : OutboxModel). o.unsent) is ∙ kept

-- a run that a port takes has no more commands than a block
pub few_in_block : (blocks : Bool) (count : ℕ) → count ≤ (if blocks then 64 else 1) → count ≤ 64
few_in_block true count few = few
few_in_block false count few = omega (arith, few)

-- a port that gave none is short of replies
pub gave_none : (input input' : ReaderModel) (old new : RepliesModel) (result : Result (Option Value) PortFault) → ValueOutcome input old result input' new → GaveNone result
    → IsWaiting input' × IsShort new
gave_none input input' old new (Ok None) v gave = (v.1, v.2)
gave_none input input' old new (Ok (Some value)) v gave = absurd gave
gave_none input input' old new (Err fault) v gave = absurd gave

is_zero : (n : ℕ) → nat_eq n 0 ≡ true → n ≡ 0
is_zero n tested = grind (arith, nat_tests)

pub none_later : (later : List Batch) (empty : Bool) → empty ≡ nat_eq (length later) 0 → empty ≡ true → later ≡ []
none_later [] empty is true_then = refl
none_later (next ∷ later) empty is true_then = absurd (omega (arith, is_zero (length (next ∷ later)) (sym is ∙ true_then)))

pub items_one : (run : RunModel) → run.later ≡ [] → items_of run ≡ map Plain (requests_of run.first)
items_one run none = ap (λ (later : List Batch). items_for run.first later) none

pub items_several : (run : RunModel) → 0 < length run.later → items_of run ≡ Block (requests_of_run run) ∷ []
items_several run more = by_later run.first run.later more where
  by_later : (first : Batch) (later : List Batch) → 0 < length later → items_for first later ≡ Block (flat_map requests_of (first ∷ later)) ∷ []
  by_later first [] more = absurd (omega (arith, more))
  by_later first (next ∷ later) more = refl

module _ {S : Type 0} (failures : S → ℕ) (moved : S → List ℕ → List ℕ → S → Type 0) where
  -- where the stream was offered what waited, and no more
  pub goes_quiet : (result : Result (Unit {0}) Gone) (old new : BlockPortModel S) → FlushOutcome failures moved old.bytes.stream old.bytes.unsent result new.bytes.stream new.bytes.unsent
      → new.bytes.input ≡ old.bytes.input → new.replies ≡ old.replies → new.takes_blocks ≡ old.takes_blocks → BlockExchanges moved old [] [] new
  goes_quiet result old new flush input replies blocks =
      let f = flushed failures moved result old.bytes.stream new.bytes.stream old.bytes.unsent new.bytes.unsent flush in (
        [],
        (f.0, [], f.1, f.2, append-nil old.bytes.input.unread ∙ sym (ap (λ (i : ReaderModel). i.unread) input), ap (λ (i : ReaderModel). i.bounds) input),
        subst (λ (r : RepliesModel). Settles [] old.replies [] [] r) (sym replies) (still_settles old.replies),
        blocks,
        All-nil IsPlainRequest,
      )

  -- things were sent behind what waits
  goes_as : (old new : BlockPortModel S) (items : List Item) (rest : List ℕ)
      → ((written : List ℕ) × moved old.bytes.stream written [] new.bytes.stream × (old.bytes.unsent ≡ written ++ rest))
      → new.bytes.unsent ≡ rest ++ flat_map written_as items → new.bytes.input ≡ old.bytes.input
      → new.replies ≡ record old.replies { awaited = old.replies.awaited ++ map awaited_by items } → new.takes_blocks ≡ old.takes_blocks
      → GoesAs moved old items new
  goes_as old new items rest flush is input replies blocks = (
    (
      flush.0,
      [],
      flush.1,
      appended old.bytes.unsent flush.0 rest (flat_map written_as items) new.bytes.unsent flush.2 is,
      append-nil old.bytes.input.unread ∙ sym (ap (λ (i : ReaderModel). i.unread) input),
      ap (λ (i : ReaderModel). i.bounds) input,
    ),
    replies,
    blocks,
  )

  exchanged : (old new : BlockPortModel S) (requests : List Request) (items : List Item) → sent_for requests ≡ items → All IsPlainRequest requests → GoesAs moved old items new → BlockExchanges moved old requests [] new
  exchanged old new requests items is plain goes =
      let sent = subst (λ (sent : List Item). GoesAs moved old sent new) (sym is) goes in
      let awaited = map awaited_by (sent_for requests) in
      ([], sent.0, subst (λ (r : RepliesModel). Settles awaited old.replies [] [] r) (sym sent.1) (settles_sent awaited old.replies), sent.2, plain)

  pub goes_plain : (old new : BlockPortModel S) (requests : List Request) (rest : List ℕ)
      → ((written : List ℕ) × moved old.bytes.stream written [] new.bytes.stream × (old.bytes.unsent ≡ written ++ rest))
      → new.bytes.unsent ≡ rest ++ spelled requests → new.bytes.input ≡ old.bytes.input
      → new.replies ≡ record old.replies { awaited = old.replies.awaited ++ await_each requests } → new.takes_blocks ≡ old.takes_blocks
      → GoesAs moved old (map Plain requests) new
  goes_plain old new requests rest flush is input replies blocks =
      let unsent = subst (λ (bs : List ℕ). new.bytes.unsent ≡ rest ++ bs) (sym (plain_written requests)) is in
      let waits = subst (λ (ws : List Awaited). new.replies ≡ record old.replies { awaited = old.replies.awaited ++ ws }) (sym (plain_awaited requests)) replies in
      goes_as old new (map Plain requests) rest flush unsent input waits blocks

  pub sends_plain : (old new : BlockPortModel S) (requests : List Request) (rest : List ℕ) → sent_for requests ≡ map Plain requests → All IsPlainRequest requests
      → ((written : List ℕ) × moved old.bytes.stream written [] new.bytes.stream × (old.bytes.unsent ≡ written ++ rest))
      → new.bytes.unsent ≡ rest ++ spelled requests → new.bytes.input ≡ old.bytes.input
      → new.replies ≡ record old.replies { awaited = old.replies.awaited ++ await_each requests } → new.takes_blocks ≡ old.takes_blocks
      → BlockExchanges moved old requests [] new
  sends_plain old new requests rest sent plain flush is input replies blocks =
      exchanged old new requests (map Plain requests) sent plain (goes_plain old new requests rest flush is input replies blocks)

  pub goes_block : (old new : BlockPortModel S) (run : RunModel) (rest : List ℕ) → IsTogether run → 0 < length run.later
      → ((written : List ℕ) × moved old.bytes.stream written [] new.bytes.stream × (old.bytes.unsent ≡ written ++ rest))
      → new.bytes.unsent ≡ rest ++ spelled_block (requests_of_run run) → new.bytes.input ≡ old.bytes.input
      → new.replies ≡ record old.replies { awaited = old.replies.awaited ++ awaited.Block (count_in run) ∷ [] } → new.takes_blocks ≡ old.takes_blocks
      → GoesAs moved old (Block (requests_of_run run) ∷ []) new
  goes_block old new run rest together more flush is input replies blocks =
      let requests = requests_of_run run in
      let unsent = subst (λ (bs : List ℕ). new.bytes.unsent ≡ rest ++ bs) (sym (append-nil (spelled_block requests))) is in
      let waits = subst (λ n. new.replies ≡ record old.replies { awaited = old.replies.awaited ++ awaited.Block n ∷ [] }) (sym (run_requests run together more)) replies in
      goes_as old new (Block requests ∷ []) rest flush unsent input waits blocks

  pub sends_block : (old new : BlockPortModel S) (run : RunModel) (rest : List ℕ) → IsTogether run → 0 < length run.later → All IsPlainRequest (requests_of_run run)
      → ((written : List ℕ) × moved old.bytes.stream written [] new.bytes.stream × (old.bytes.unsent ≡ written ++ rest))
      → new.bytes.unsent ≡ rest ++ spelled_block (requests_of_run run) → new.bytes.input ≡ old.bytes.input
      → new.replies ≡ record old.replies { awaited = old.replies.awaited ++ awaited.Block (count_in run) ∷ [] } → new.takes_blocks ≡ old.takes_blocks
      → BlockExchanges moved old (requests_of_run run) [] new
  sends_block old new run rest together more plain flush is input replies blocks =
      exchanged old new (requests_of_run run) (Block (requests_of_run run) ∷ []) (run_block run together more) plain (goes_block old new run rest together more flush is input replies blocks)

  collects : (old new : BlockPortModel S) (written read : List ℕ) → moved old.bytes.stream written read new.bytes.stream → old.bytes.unsent ++ [] ≡ written ++ new.bytes.unsent
      → Collects (record old.bytes.input { unread = old.bytes.input.unread ++ read }) old.replies new.bytes.input new.replies → new.takes_blocks ≡ old.takes_blocks
      → BlockExchanges moved old [] [] new
  collects old new written read m u c blocks = (
    c.0,
    (written, read, m, u, c.1, c.2),
    subst (λ (r : RepliesModel). Settles [] old.replies c.0 [] r) (sym c.3) (settles_collected old.replies c.0),
    blocks,
    All-nil IsPlainRequest,
  )

module _ {S : Type 0} (failures : S → ℕ) (moved : S → List ℕ → List ℕ → S → Type 0) (asked : S → ℕ → Flow → S → Type 0) (offered : S → List ℕ → Flow → S → Type 0) where
  -- what a port gives after these bytes were moved, by what the replies gave
  pub next_from : (old new : BlockPortModel S) (written read : List ℕ) (result : Result (Option Value) PortFault) → moved old.bytes.stream written read new.bytes.stream
      → old.bytes.unsent ++ [] ≡ written ++ new.bytes.unsent
      → ValueOutcome (record old.bytes.input { unread = old.bytes.input.unread ++ read }) old.replies result new.bytes.input new.replies → new.takes_blocks ≡ old.takes_blocks
      → NextOutcome (block_calls failures moved asked offered) old result new
  next_from old new written read (Ok (Some value)) m u v blocks = (v.0, (written, read, m, u, v.1, v.2), v.3, blocks, All-nil IsPlainRequest)
  next_from old new written read (Ok None) m u v blocks = collects failures moved old new written read m u v.0 blocks
  next_from old new written read (Err NoMemory) m u v blocks = (v.0, (written, read, m, u, v.1, v.2), v.3, blocks, All-nil IsPlainRequest)
  next_from old new written read (Err BadWire) m u v blocks = (v.1, collects failures moved old new written read m u v.0 blocks)
  next_from old new written read (Err Failed) m u v blocks = absurd v

  -- the same where nothing was read
  pub next_unread : (old new : BlockPortModel S) (flow : Result (Unit {0}) Gone) (result : Result (Option Value) PortFault)
      → FlushOutcome failures moved old.bytes.stream old.bytes.unsent flow new.bytes.stream new.bytes.unsent
      → ValueOutcome old.bytes.input old.replies result new.bytes.input new.replies → new.takes_blocks ≡ old.takes_blocks
      → NextOutcome (block_calls failures moved asked offered) old result new
  next_unread old new flow result flush v blocks =
      let f = flushed failures moved flow old.bytes.stream new.bytes.stream old.bytes.unsent new.bytes.unsent flush in
      let all = subst (λ (u : List ℕ). ValueOutcome (record old.bytes.input { unread = u }) old.replies result new.bytes.input new.replies) (sym (append-nil old.bytes.input.unread)) v in
      next_from old new f.0 [] result f.1 f.2 all blocks

  -- the same where these bytes were read behind the flush
  pub next_read : ((a b c : S) (w r w' r' : List ℕ) → moved a w r b → moved b w' r' c → moved a (w ++ w') (r ++ r') c)
      → (old new : BlockPortModel S) (between : S) (flow : Result (Unit {0}) Gone) (read : List ℕ) (result : Result (Option Value) PortFault)
      → FlushOutcome failures moved old.bytes.stream old.bytes.unsent flow between new.bytes.unsent → moved between [] read new.bytes.stream
      → ValueOutcome (record old.bytes.input { unread = old.bytes.input.unread ++ read }) old.replies result new.bytes.input new.replies → new.takes_blocks ≡ old.takes_blocks
      → NextOutcome (block_calls failures moved asked offered) old result new
  next_read joined old new between flow read result flush m v blocks =
      let f = flushed failures moved flow old.bytes.stream between old.bytes.unsent new.bytes.unsent flush in
      let both = joined old.bytes.stream between new.bytes.stream f.0 [] [] read f.1 m in
      next_from old new f.0 read result (rw append-nil at both) f.2 v blocks

  -- the same where the read found that the stream is gone
  pub next_gone : ((a b c : S) (w r w' r' : List ℕ) → moved a w r b → moved b w' r' c → moved a (w ++ w') (r ++ r') c)
      → (old new : BlockPortModel S) (between : S) (flow : Result (Unit {0}) Gone)
      → FlushOutcome failures moved old.bytes.stream old.bytes.unsent flow between new.bytes.unsent → moved between [] [] new.bytes.stream
      → ValueOutcome old.bytes.input old.replies (Ok None) new.bytes.input new.replies → new.takes_blocks ≡ old.takes_blocks
      → BlockExchanges moved old [] [] new
  next_gone joined old new between flow flush m v blocks =
      let all = subst (λ (u : List ℕ). ValueOutcome (record old.bytes.input { unread = u }) old.replies (Ok None) new.bytes.input new.replies) (sym (append-nil old.bytes.input.unread)) v in
      next_read joined old new between flow [] (Ok None) flush m all blocks

  pub next_unread_at : (before old new : BlockPortModel S) (flow : Result (Unit {0}) Gone) (result : Result (Option Value) PortFault) → before ≡ old
      → FlushOutcome failures moved before.bytes.stream before.bytes.unsent flow new.bytes.stream new.bytes.unsent
      → ValueOutcome before.bytes.input before.replies result new.bytes.input new.replies → new.takes_blocks ≡ before.takes_blocks
      → NextOutcome (block_calls failures moved asked offered) old result new
  next_unread_at before old new flow result is flush v blocks =
      subst (λ (o : BlockPortModel S). NextOutcome (block_calls failures moved asked offered) o result new) is
      (next_unread before new flow result flush v blocks)

  pub next_read_at : ((a b c : S) (w r w' r' : List ℕ) → moved a w r b → moved b w' r' c → moved a (w ++ w') (r ++ r') c)
      → (before old new : BlockPortModel S) (between : S) (flow : Result (Unit {0}) Gone) (read : List ℕ) (result : Result (Option Value) PortFault) → before ≡ old
      → FlushOutcome failures moved before.bytes.stream before.bytes.unsent flow between new.bytes.unsent → moved between [] read new.bytes.stream
      → ValueOutcome (record before.bytes.input { unread = before.bytes.input.unread ++ read }) before.replies result new.bytes.input new.replies → new.takes_blocks ≡ before.takes_blocks
      → NextOutcome (block_calls failures moved asked offered) old result new
  next_read_at joined before old new between flow read result is flush m v blocks =
      subst (λ (o : BlockPortModel S). NextOutcome (block_calls failures moved asked offered) o result new) is
      (next_read joined before new between flow read result flush m v blocks)
