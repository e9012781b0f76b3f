use Rattle.std.proofs.Common.{◌≤◌, ◌<◌, ◌∙◌, inl, inr, length, ap, arith}
use Rattle.std.proofs.lemmas.Grind.{common_steps}
use Rattle.cluster_world.proofs.Inputs.{piece_more, whole, within}
use Rattle.cluster_world.proofs.input.read_input.Goals as goal

pub returns-in-End-clause-whole : goal.returns-in-End-clause-whole
returns-in-End-clause-whole g c = λ input is. (
    let so_far = c.loop-reads.invariant in
    let bytes = c.loop-reads.bytes.items in
    let end = rw c.in-End.is at c.in_ok-read_piece.ensures.came in
    let same = whole (g.R.Read.remaining c.args.reader.now.reader) (g.R.Read.remaining c.loop-reads.reader.reader) (g.R.Read.remaining c.read_piece.new.reader.reader) bytes input so_far.0 end.0 end.1 is in
    (end.2 ∙ same, omega (arith, ap length same, so_far.1), end.3)
    )

pub returns-then-len-gt-INPUT_LIMIT-clause-whole : goal.returns-then-len-gt-INPUT_LIMIT-clause-whole
returns-then-len-gt-INPUT_LIMIT-clause-whole g c = λ input is. (
    let so_far = c.loop-reads.invariant in
    let some = rw c.in-Some.is at c.in_ok-read_piece.ensures.came in
    let took = piece_more (g.R.Read.remaining c.args.reader.now.reader) (g.R.Read.remaining c.loop-reads.reader.reader) (g.R.Read.remaining c.read_piece.new.reader.reader) c.loop-reads.bytes.items some.0 c.read_piece.new.bytes.items so_far.0 some.1 some.2 in
    let long : 1048576 < length c.read_piece.new.bytes.items = grind (arith, common_steps, c.if-len-gt-INPUT_LIMIT.true) in
    inl (omega (arith, long, within (g.R.Read.remaining c.args.reader.now.reader) (g.R.Read.remaining c.read_piece.new.reader.reader) c.read_piece.new.bytes.items input took is))
    )

pub loop-reads-preserved : goal.loop-reads-preserved
loop-reads-preserved g c =
    let so_far = c.loop-reads.invariant in
    let bytes = c.loop-reads.bytes.items in
    let some = rw c.in-Some.is at c.in_ok-read_piece.ensures.came in
    let short : length c.read_piece.new.bytes.items ≤ 1048576 = grind (arith, common_steps, c.if-len-gt-INPUT_LIMIT.false) in (
      piece_more (g.R.Read.remaining c.args.reader.now.reader) (g.R.Read.remaining c.loop-reads.reader.reader) (g.R.Read.remaining c.read_piece.new.reader.reader) bytes some.0 c.read_piece.new.bytes.items so_far.0 some.1 some.2,
      short,
      omega (arith, so_far.2, some.4),
      λ _. some.5,
    )
