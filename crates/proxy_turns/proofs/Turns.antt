-- Whose turn has come, of a client's posted commands.
use Rattle.std.proofs.Common.{◌≡◌, ◌<◌, ◌-◌, ◌+◌, ◌∙◌, ℕ, Bool, true, false, Some, refl, sym, ap, subst, arith, nat_eq, eqb→eq}
use Rattle.std.specs.Prelude.{T, slice_get}
use Rattle.std.specs.FinMap.{get}
use Rattle.std.proofs.lemmas.Bool.{false≢true}
use Rattle.key_split.specs.declared.travel.Ticket.{Ticket}
use Rattle.command_future.specs.CommandModel.{CommandModel, WantsPost}
use Rattle.session_order.specs.SessionModel.{SessionModel}
use Rattle.session_order.specs.declared.queue.PartStage.{PartStage}
use Rattle.session_order.specs.declared.queue.PartStage.TheVariants.{Waiting, Out, Done}
use Rattle.session_order.specs.Turn.{blocks, waits_for}
use Rattle.session_order.specs.Steps.{IsOut, IsOutInOrder}
use Rattle.session_order.proofs.Lists.{any_all, any_at}
use Rattle.proxy_turns.specs.ClientModel.{ClientModel, IsSoundClient}
use Rattle.proxy_turns.specs.DueCommands.{IsFirstOut, IsToSettle}

-- what is out in order has its turn where no earlier part for its slot is out
turn_of : (session : SessionModel) (ticket : Ticket) → IsOutInOrder session ticket → IsFirstOut session ticket.part → IsOut session ticket
turn_of session ticket (slot, low, at, worker, client, order) first = (slot, low, at, worker, client, any_all (blocks slot) session.stages (ticket.part - session.first) none)
  where
    not_own : (own j : ℕ) → slice_get session.stages j ≡ Some (Out own) → (b : Bool) → nat_eq own slot ≡ b → session.first + j < ticket.part → nat_eq own slot ≡ false
    not_own own j there true same less =
        let is : own ≡ slot = eqb→eq own slot (subst T (sym same) tt) in
        absurd (first slot (session.first + j) (low, at) (omega arith, subst (λ n. slice_get session.stages n ≡ Some (Out slot)) (omega arith) (there ∙ ap (λ n. Some (Out n)) is)) less)
    not_own own j there false same less = same

    none : (j : ℕ) (stage : PartStage) → slice_get session.stages j ≡ Some stage → j < ticket.part - session.first → blocks slot stage ≡ false
    none j (Waiting part) there less = any_at (waits_for slot) session.stages (ticket.part - session.first) j (Waiting part) order there less
    none j (Out own) there less = not_own own j there (nat_eq own slot) refl (omega (arith, less, low))
    none j Done there less = refl

-- a command that has something to do, and wants its post, is in its turn
pub in_turn : {C : Type 0} (client : ClientModel C) (part : ℕ) (c : CommandModel) → IsSoundClient client.session client.commands → IsToSettle client part c → WantsPost c.stage → IsOut client.session c.ticket
in_turn client part c sound (at, not, turn) wants =
    let its = sound.posted part c at in
    turn_of client.session c.ticket its.1 (subst (IsFirstOut client.session) (sym its.0) (turn wants its.0))

pub not_in_turn : {C : Type 0} (client : ClientModel C) (part : ℕ) (may : Bool) → (may ≡ true → (c : CommandModel) × (get client.commands.posted part ≡ Some c) × WantsPost c.stage × IsOut client.session c.ticket)
    → ((c : CommandModel) × (get client.commands.posted part ≡ Some c) × WantsPost c.stage × IsOut client.session c.ticket → may ≡ true) → may ≡ false → IsSoundClient client.session client.commands
    → (c : CommandModel) → IsToSettle client part c → WantsPost c.stage → ⊥
not_in_turn client part may does says is sound c stands wants = false≢true (sym is ∙ says (c, stands.0, wants, in_turn client part c sound stands wants))
