use Rattle.std.proofs.Common.{◌≡◌, ◌≤◌, ◌^◌, ◌∙◌, List, ℕ, true, false, sym, ap, subst, arith}
use Rattle.script_runs.specs.Replayed.{State, goes_on, opened, outcome, state_of}
use Rattle.script_runs.specs.Requests.{AsksFor}
use Rattle.script_runs.specs.Run.{ends_of}
use Rattle.script_runs.proofs.Replaying.{is-numbered, still, few, goes-further, comes}
use Rattle.script_runs.proofs.replay.replay_script.Goals as goal

pub loop-made-init : goal.loop-made-init
loop-made-init c = record {
  is_open = c.in_ok-reader.ensures.open;
  few = omega arith;
  reaches =
      λ later d.
      (let P : List ℕ → Type 0 = λ bytes. AsksFor 0 bytes later in
      let s : List ℕ → State = λ out. record { number = 0; parts = c.args.parts.items; output = out; whole = true } in
      (later, subst P c.in_ok-reader.ensures.fed d, ap (λ (out : List ℕ). outcome c.args.client_id (ends_of c.args.client_id c.args.ends.now) (s out) later) c.new.ensures.items));
}

pub answer-requires : goal.answer-requires
answer-requires c = is-numbered c.loop-made.made.number c.loop-made.reader c.next_wanted.new.reader c.in_ok-wanted.wanted c.in_ok-wanted.ensures

pub loop-made-preserved : goal.loop-made-preserved
loop-made-preserved c =
    let i = c.loop-made.invariant in
    let told = ends_of c.args.client_id c.args.ends.now in
    let s = state_of c.loop-made.made in
    let wants = c.in_ok-wanted.ensures in
    let does = c.in_ok-answer.ensures in
    let more : goes_on c.in_ok-wanted.wanted ≡ true = sym does.0 ∙ c.if-not-branch.false in
    let P : State → Type 0 = λ st. st.number ≤ 2 ^ 48 in
    record {
      is_open = (still c.loop-made.made.number c.loop-made.reader c.next_wanted.new.reader c.in_ok-wanted.wanted wants more).0;
      few = subst P (sym does.1) (few c.args.client_id told s c.loop-made.reader c.next_wanted.new.reader c.in_ok-wanted.wanted i.few wants);
      reaches = goes-further c.args.client_id told c.args.script.now (opened c.args.parts.items) s (state_of c.answer.new.self) c.loop-made.reader c.next_wanted.new.reader
          c.in_ok-wanted.wanted wants more does.1 i.reaches;
    }

pub returns-then-not-branch : goal.returns-then-not-branch
returns-then-not-branch c =
    let told = ends_of c.args.client_id c.args.ends.now in
    let s = state_of c.loop-made.made in
    let wants = c.in_ok-wanted.ensures in
    let does = c.in_ok-answer.ensures in
    let last : goes_on c.in_ok-wanted.wanted ≡ false = sym does.0 ∙ c.if-not-branch.true in
    comes c.args.client_id told c.args.script.now (opened c.args.parts.items) s (state_of c.answer.new.self) c.loop-made.reader c.next_wanted.new.reader
    c.in_ok-wanted.wanted wants last does.1 c.loop-made.invariant.reaches
