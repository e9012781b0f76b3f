-- How clients come to a worker, and what their steps count.
-- Only private functions cite it.
use Rattle.std.specs.Prelude.{◌≡◌, ◌⊎◌, ◌<◌, [], ℕ, List, Bool, Option, Some, None, Result, Ok, Err, ⊤}
use Rattle.std.specs.Ordering.{nat_cmp}
use Rattle.std.specs.FinMap.{FinMap, insert}
use Rattle.resp_wire.specs.declared.fault.NoMemory.{NoMemory}
use Rattle.proxy_turns.specs.declared.turned.Turned.{Turned}
use Rattle.proxy_turns.specs.declared.turned.Settled.{Settled}
use Rattle.proxy_turns.specs.Port.{Moves}
use Rattle.proxy_turns.specs.ClientModel.{ClientModel}
use Rattle.proxy_turns.specs.ClientTurn.{is_settled}
use Rattle.proxy_turns.specs.WorkerModel.{MayCome, with_port}

-- clients are to come
abbrev pub AreToCome : Option ℕ → Type 0
AreToCome None = ⊤
AreToCome (Some n) = 0 < n

-- A client of this one of the workers is put under its number, or it is let go where it may not come: its port is closed, and
-- kept where ports are.
abbrev pub PutsNew : {C : Type 0} → Moves C → ℕ → ℕ → FinMap nat_cmp (ClientModel C) → List C → Option ℕ → Option ℕ → ℕ → ClientModel C → FinMap nat_cmp (ClientModel C) → List C → Option ℕ → Type 0
PutsNew {C} moves workers worker old ports newest left number client new ports' newest' =
    (MayCome workers worker old newest number × (new ≡ insert old number client) × (ports' ≡ ports) × (newest' ≡ Some number))
    ⊎ ((port : C) × (MayCome workers worker old newest number → ⊥) × moves.between client.port [] [] [] port × (new ≡ old) × (ports' ≡ with_port left ports port) × (newest' ≡ newest))

-- whether a client's turn moved something
abbrev pub turned_in : Result Turned NoMemory → Result Bool NoMemory
turned_in (Ok turned) = Ok turned.moved
turned_in (Err refused) = Err refused

-- whether a step of a command moved something
abbrev pub settled_in : Result Settled NoMemory → Result Bool NoMemory
settled_in (Ok settled) = Ok (is_settled settled)
settled_in (Err refused) = Err refused
