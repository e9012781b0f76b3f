-- A command of one client ends, or is posted again.
use Rattle.std.proofs.Common.{◌≡◌, ℕ, Bool, true, false, List, [], ◌∷◌, Option, Result, Ok, Err, refl, sym, ap, subst, ◌∙◌}
use Rattle.std.proofs.lemmas.Bool.{false≢true}
use Rattle.std.specs.FinMap.{remove}
use Rattle.slot_map.specs.declared.ops.MapOp.{MapOp}
use Rattle.resp_wire.specs.declared.fault.NoMemory.{NoMemory}
use Rattle.key_split.specs.Runs.{RunModel}
use Rattle.key_split.specs.declared.travel.Ticket.{Ticket}
use Rattle.key_split.specs.declared.travel.Ended.{Ended}
use Rattle.command_future.specs.declared.stage.Stage.{Stage}
use Rattle.command_future.specs.declared.stage.Stage.TheVariants.{Wants, WantsAsking, Awaits, Over}
use Rattle.command_future.specs.CommandModel.{CommandModel}
use Rattle.session_order.specs.SessionModel.{SessionModel}
use Rattle.session_order.specs.Steps.{EndOutcome, IsHandedOut}
use Rattle.session_order.specs.Behind.{NextInTurn}
use Rattle.proxy_lanes.specs.declared.ring.Outlet.{Outlet}
use Rattle.proxy_turns.specs.declared.turned.Finish.{Finish}
use Rattle.proxy_turns.specs.declared.turned.Finish.TheVariants as finish
use Rattle.proxy_turns.specs.declared.turned.Settled.{Settled}
use Rattle.proxy_turns.specs.declared.turned.Settled.TheVariants as settled
use Rattle.proxy_turns.specs.Port.{Moves}
use Rattle.proxy_turns.specs.Commands.{CommandsModel, HasEnd}
use Rattle.proxy_turns.specs.ClientModel.{ClientModel}
use Rattle.proxy_turns.specs.ClientTurn.{ClientContext, ClientEvent, ClientTurnsBy, FinishOutcome, SettleOutcome}
use Rattle.proxy_turns.proofs.Going.{goes_of, stays}
use Rattle.proxy_turns.proofs.EventKinds.{whatever}
use Rattle.proxy_turns.proofs.Posting.{some_same}

ended_of : Ended → Stage → Ended
ended_of other (Wants named) = other
ended_of other (WantsAsking node) = other
ended_of other Awaits = other
ended_of other (Over end) = end

-- a command has one ticket and one end
pub one_end : (commands : CommandsModel) (number : ℕ) (ticket ticket' : Ticket) (end end' : Ended) → HasEnd commands number ticket end → HasEnd commands number ticket' end'
    → (ticket ≡ ticket') × (end ≡ end')
unfolding ended_of
one_end commands number ticket ticket' end end' (c, there, named, over) (d, at_it, also, so) =
    let same : c ≡ d = some_same c d (sym there ∙ at_it) in
    (sym named ∙ ap (λ (x : CommandModel). x.ticket) same ∙ also, ap (ended_of end) (sym over ∙ ap (λ (x : CommandModel). x.stage) same ∙ so))

module _ {C : Type 0} (moves : Moves C) where
  -- what was noted is what the session learns
  pub finishes : (t : ClientModel C) (number : ℕ) (ticket ticket' : Ticket) (end end' : Ended) (port : C) (session : SessionModel) (commands : CommandsModel)
      → HasEnd t.commands number ticket end → HasEnd t.commands number ticket' end' → number ≡ ticket'.part → moves.between t.port [] [] ((ticket, end) ∷ []) port
      → EndOutcome t.session ticket' end' session → commands ≡ record t.commands { posted = remove t.commands.posted number } → IsHandedOut t.session ticket' → (next : Option Ticket) → NextInTurn t.session ticket' next
      → FinishOutcome moves t number (Ok (finish.Ended next)) (record t { port = port; session = session; commands = commands })
  finishes t number ticket ticket' end end' port session commands has also part m ends left out next comes =
      let one = one_end t.commands number ticket ticket' end end' has also in
      let noted : moves.between t.port [] [] ((ticket', end') ∷ []) port = subst (λ (p : Ticket × Ended). moves.between t.port [] [] (p ∷ []) port) (λ i. (one.0 i, one.1 i)) m in
      let with_commands : CommandsModel → ClientModel C = λ cs. record t { port = port; session = session; commands = cs } in (
        ticket',
        end',
        sym part,
        out,
        (subst (λ n. HasEnd t.commands n ticket' end') part also, noted, ends, ap with_commands (left ∙ ap (λ n. record t.commands { posted = remove t.commands.posted n }) part)),
        comes,
      )

  pub finish_err : (t : ClientModel C) (number : ℕ) (port : C) (e : NoMemory) (result : Result Finish NoMemory) → result ≡ Err e → moves.between t.port [] [] [] port
      → FinishOutcome moves t number result (record t { port = port })
  finish_err t number port e result is m =
      let P : Result Finish NoMemory → Type 0 = λ r. FinishOutcome moves t number r (record t { port = port }) in subst P (sym is) (m, refl)

  -- a posted command was posted again, or was tried
  pub reposted : (may : ClientEvent → Bool) (old new : ClientContext C) (b : Bool) → b ≡ true → ClientTurnsBy moves may old (Ok b) new → SettleOutcome moves old (Ok settled.Posted) new
  reposted may old new true is goes = goes_of moves may old true new goes
  reposted may old new false is goes = absurd (false≢true is)

  pub held_back : (may : ClientEvent → Bool) (old new : ClientContext C) (b : Bool) → b ≡ false → ClientTurnsBy moves may old (Ok b) new → SettleOutcome moves old (Ok settled.Held) new
  held_back may old new false is goes = goes_of moves may old false new goes
  held_back may old new true is goes = absurd (false≢true (sym is))

  pub not_tried : (old : ClientContext C) → SettleOutcome moves old (Ok settled.Nothing) old
  not_tried old = goes_of moves whatever old false old (stays moves whatever old)

  pub repost_err : (may : ClientEvent → Bool) (old new : ClientContext C) (e e' : NoMemory) (result : Result Settled NoMemory) → ClientTurnsBy moves may old (Err e) new → result ≡ Err e' → SettleOutcome moves old result new
  repost_err may old new e e' result (moved, goes) is =
      let P : Result Settled NoMemory → Type 0 = λ r. SettleOutcome moves old r new in subst P (sym is) (moved, goes_of moves may old moved new goes)
