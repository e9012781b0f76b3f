use Rattle.std.proofs.Common.{◌≡◌, ◌∙◌, ap, sym, subst, Some, ℕ, length, refl}
use Rattle.key_split.specs.Join.{CanJoin}
use Rattle.session_order.specs.Output.{ends_from}
use Rattle.session_order.specs.Replies.{joined}
use Rattle.script_runs.specs.Replayed.{state_of}
use Rattle.script_runs.specs.Run.{ends_of}
use Rattle.script_runs.proofs.Telling.{ends-length}
use Rattle.script_runs.proofs.Replaying.{takes-all}
use Rattle.script_runs.proofs.replay.Replay.take_parts.Goals as goal

pub say_joined-requires : goal.say_joined-requires
say_joined-requires c =
    let told = ends_of c.args.client_id c.args.ends.now in
    let found = rw c.in-Some.is at c.in_ok-own.ensures in
    let own : ends_from told c.args.self.now.number (length c.args.planned) ≡ Some c.in-Some.own.items = sym (rw c.as_slice-count.ensures at found) in
    let many : length c.deref.result.now ≡ length c.args.planned = ap length c.deref.ensures.value ∙ ends-length told c.args.self.now.number (length c.args.planned) c.in-Some.own.items own in
    let P : ℕ → Type 0 = λ n. CanJoin c.args.how.now n in
    subst P (sym many) c.requires.joinable

pub returns : goal.returns
returns c =
    let told = ends_of c.args.client_id c.args.ends.now in
    let found = rw c.in-Some.is at c.in_ok-own.ensures in
    let own : Some c.in-Some.own.items ≡ ends_from told c.args.self.now.number (length c.args.planned) = rw c.as_slice-count.ensures at found in (
      refl,
      takes-all c.args.client_id told (state_of c.args.self.now) c.args.how.now c.args.planned c.in-Some.own.items (joined c.args.how.now c.in-Some.own.items)
          c.number_parts.new.parts.items (state_of c.say_joined.new.self) own refl c.in_ok-number_parts.ensures
          (rw (c.as_slice-count.ensures, c.deref.ensures.value) at c.in_ok-say_joined.ensures),
    )
