use Rattle.std.proofs.Common.{◌∙◌, sym}
use Rattle.cluster_world.proofs.Lists.{never, of-ok}
use Rattle.cluster_world.proofs.Replies.{entries-differ}
use Rattle.cluster_world.proofs.lawful.is_lawful.Goals as goal

pub returns-then-not-branch : goal.returns-then-not-branch
returns-then-not-branch c = (λ n. absurd (never n), λ lawful. absurd (never (sym c.if-not-branch.true ∙ c.in_ok-is_legal.ensures.1 lawful.legal)))

pub returns-then-not-branch-2 : goal.returns-then-not-branch-2
returns-then-not-branch-2 c = (
  λ n. absurd (never n),
  λ lawful. absurd (never (sym c.if-not-branch-2.true ∙ c.in_ok-have_parts.ensures.1 (lawful.parts_differ, lawful.ends_have_parts, lawful.entries_have_parts))),
)

pub returns-then-not-branch-3 : goal.returns-then-not-branch-3
returns-then-not-branch-3 c = (
  λ n. absurd (never n),
  λ lawful. absurd (never (sym c.if-not-branch-3.true ∙ c.in_ok-ended_so.ensures.0.1 (entries-differ c.args.parts.now c.args.history.now lawful.at_most_once lawful.entries_have_parts, lawful.as_ended))),
)

pub returns : goal.returns
returns c =
    let parts = c.in_ok-have_parts.ensures.0 c.if-not-branch-2.false in
    let ended = c.in_ok-ended_so.ensures.0.0 c.if-not-branch-3.false in
    let once = c.in_ok-ended_so.ensures.1 c.if-not-branch-3.false in
    of-ok _ _ c.follow_turns.result (
    λ b turn. (
      λ on. (let follows = turn.0 on in record {
        legal = c.in_ok-is_legal.ensures.0 c.if-not-branch.false;
        parts_differ = parts.0;
        ends_differ = follows.0;
        ends_have_parts = parts.1;
        entries_have_parts = parts.2;
        at_most_once = λ k d lt. once _;
        as_ended = ended.1;
        in_turn = follows.1;
      }),
      λ lawful. turn.1 (lawful.ends_differ, lawful.in_turn),
    )) c.follow_turns.ensures
