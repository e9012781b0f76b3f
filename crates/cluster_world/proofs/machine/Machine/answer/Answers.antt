use Rattle.std.proofs.Common.{rules, Err, ◌≡◌, ℕ, ◌==◌, ◌&&◌, not, List, [], ◌∷◌, ◌++◌, take, Some, None, Bool, true, false, refl, sym, ap, ◌∙◌, subst}
use Rattle.std.specs.Prelude.{slice_get, slice_set, position, All}
use Rattle.key_split.specs.declared.travel.Ended.{Ended}
use Rattle.command_future.specs.CommandModel.{IsOver}
use Rattle.command_future.specs.declared.stage.Stage.{Stage}
use Rattle.command_future.specs.declared.stage.Stage.TheVariants.{Over}
use Rattle.world_laws.specs.State.{WorldModel}
use Rattle.world_laws.specs.World.{IsFirst}
use Rattle.world_laws.specs.declared.event.Event.TheVariants as event
use Rattle.cluster_world.specs.declared.fault.WorldFault.TheVariants.{NoMemory}
use Rattle.cluster_world.proofs.Allowing.{no-memory}
use Rattle.world_laws.specs.declared.state.Arrival.{Arrival}
use Rattle.cluster_world.specs.Machine.{state_of, Can}
use Rattle.cluster_world.proofs.Lookups.{first-same, first-passes, first-is, none-before, place-within, all-before, before-all, open-so, closed-so, so-open, so-closed}
use Rattle.cluster_world.proofs.machine.Machine.answer.Goals as goal

abbrev mine : ℕ → Arrival → Bool
mine client x = (x.command.ticket.client == client) && not x.answered

-- the oldest unanswered one is the first that passes
oldest : (client : ℕ) (cs : List Arrival) (i : ℕ) (c : Arrival) → slice_get cs i ≡ Some c → c.command.ticket.client ≡ client → c.answered ≡ false
    → All (λ d. d.command.ticket.client ≡ client → d.answered ≡ true) (take i cs) → IsFirst (mine client) cs i c
oldest client cs i c at is no' all = (
  first-is (mine client) cs i c at (so-open c.command.ticket.client client c.answered is no')
      (λ k x lt e. so-closed x.command.ticket.client client x.answered (before-all (λ (d : Arrival). d.command.ticket.client ≡ client → d.answered ≡ true) cs i k x all lt e)),
  at,
)

over-not : (s : Stage) (e : Ended) → s ≡ Over e → (IsOver s → ⊥) → ⊥
over-not s e is no' = no' (subst IsOver (sym is) tt)

pub returns-in_default : goal.returns-in_default
returns-in_default c =
    let commands : List Arrival = c.args.self.now.commands in
    let none : position (mine c.args.client) commands ≡ None = sym c.in_default.ensures in
    ((λ v d. let f : position (mine c.args.client) commands ≡ Some d.0 = (oldest c.args.client commands d.0 d.1 d.3 d.4 d.5 d.7).0 in cc), refl)

pub at-arrival-requires : goal.at-arrival-requires
at-arrival-requires c = (place-within (mine c.args.client) c.args.self.now.commands c.in-Some.place (sym c.in-Some.ensures)).1

pub returns-in_default-end : goal.returns-in_default-end
returns-in_default-end c =
    let commands : List Arrival = c.args.self.now.commands in
    let a0 : Arrival = c.at-arrival.result.now in
    let its : IsFirst (mine c.args.client) commands c.in-Some.place a0 = (sym c.in-Some.ensures, c.at-arrival.ensures) in (
      (λ v d.
          let f = first-same (mine c.args.client) commands d.0 c.in-Some.place d.1 a0 (oldest c.args.client commands d.0 d.1 d.3 d.4 d.5 d.7) its in
          over-not a0.command.stage d.2 (ap (λ (x : Arrival). x.command.stage) (sym f.1) ∙ d.6) c.in_default-end.ensures.progress),
      refl,
    )

could : (w : WorldModel) (client i : ℕ) (c : Arrival) (ended : Ended) → IsFirst (mine client) w.commands i c → c.command.stage ≡ Over ended → Can w (event.Answer client)
could w client i c ended its stage =
    let own = open-so c.command.ticket.client client c.answered (first-passes (mine client) w.commands i c its) in (
      record w { commands = slice_set w.commands i (record c { answered = true }); answers = w.answers ++ record { ticket = c.command.ticket; ended = ended; arrived = c.arrived; answered = w.moment } ∷ [] },
      (
        i,
        c,
        ended,
        its.1,
        own.0,
        own.1,
        stage,
        all-before (λ (d : Arrival). d.command.ticket.client ≡ client → d.answered ≡ true) w.commands i (λ k x lt e. closed-so x.command.ticket.client client x.answered (none-before (mine client) w.commands i its.0 k x lt e)),
        refl,
      ),
    )

pub returns-in_err-reserve : goal.returns-in_err-reserve
returns-in_err-reserve c =
    let w : WorldModel = state_of c.args.self.now in
    let is : c.from_residual.result ≡ Err NoMemory = search rules in
    no-memory w (record w { answers = c.reserve.new.self.items }) (event.Answer c.args.client) c.from_residual.result is
    (could w c.args.client c.in-Some.place c.at-arrival.result.now c.in-Some-end.end.now (sym c.in-Some.ensures, c.at-arrival.ensures) c.in-Some-end.ensures.progress) (λ i. record w { answers = c.in_err-reserve.ensures.items i })

pub returns-in_err-copy : goal.returns-in_err-copy
returns-in_err-copy c =
    let w : WorldModel = state_of c.args.self.now in
    let is : c.from_residual-in_err-copy.result ≡ Err NoMemory = search rules in
    no-memory w (record w { answers = c.reserve.new.self.items }) (event.Answer c.args.client) c.from_residual-in_err-copy.result is
    (could w c.args.client c.in-Some.place c.at-arrival.result.now c.in-Some-end.end.now (sym c.in-Some.ensures, c.at-arrival.ensures) c.in-Some-end.ensures.progress) (λ i. record w { answers = c.in_ok-reserve.ensures.items i })

pub answered-requires : goal.answered-requires
answered-requires c = sym c.in-Some.ensures

pub returns : goal.returns
returns c =
    let commands : List Arrival = c.args.self.now.commands in
    let a0 : Arrival = c.at-arrival.result.now in
    let its : IsFirst (mine c.args.client) commands c.in-Some.place a0 = (sym c.in-Some.ensures, c.at-arrival.ensures) in
    let own = open-so a0.command.ticket.client c.args.client a0.answered (first-passes (mine c.args.client) commands c.in-Some.place a0 its) in
    let stage : a0.command.stage ≡ Over c.in_ok-copy.field-0 = c.in-Some-end.ensures.progress ∙ ap Over (sym c.in_ok-copy.ensures) in
    let all : All (λ d. d.command.ticket.client ≡ c.args.client → d.answered ≡ true) (take c.in-Some.place commands) =
    all-before (λ (d : Arrival). d.command.ticket.client ≡ c.args.client → d.answered ≡ true) commands c.in-Some.place (λ k x lt e. closed-so x.command.ticket.client c.args.client x.answered (none-before (mine c.args.client) commands c.in-Some.place its.0 k x lt e)) in
    let said : c.push_reserved.new.self.items ≡ c.args.self.now.answers.items ++ record { ticket = a0.command.ticket; ended = c.in_ok-copy.field-0; arrived = a0.arrived; answered = c.args.self.now.moment } ∷ [] =
    c.push_reserved.ensures.items
    ∙ (λ i. c.in_ok-reserve.ensures.items i ++ record { ticket = c.ticket.ensures i; ended = c.in_ok-copy.field-0; arrived = a0.arrived; answered = c.args.self.now.moment } ∷ []) in (
      c.in-Some.place,
      a0,
      c.in_ok-copy.field-0,
      its.1,
      own.0,
      own.1,
      stage,
      all,
      λ i. record (state_of c.args.self.now) { commands = c.answered.ensures a0 its.1 i; answers = said i },
    )
