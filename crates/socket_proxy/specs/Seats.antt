-- What a worker's thread does between one proxy and the next.
use Rattle.std.specs.Prelude.{◌≡◌, ◌⊎◌, ℕ, List, [], Bool, true, false, Option, Some, None, Result, Ok, IfOk}
use Rattle.slot_map.specs.Table.{Endpoint}
use Rattle.node_dial.specs.NextTable.{with_nodes}
use Rattle.resp_wire.specs.declared.fault.NoMemory.{NoMemory}
use Rattle.socket_proxy.specs.declared.renewal.Renewal.{Renewal}
use Rattle.socket_proxy.specs.declared.renewal.Step.TheVariants.{Rest, LetGo, Begin}
use Rattle.socket_proxy.specs.Renewal.{Steps}

-- the proxy has come to its end just where the worker is to begin anew
abbrev pub Renews : Renewal → Bool → Bool → ℕ → Bool → Renewal → Type 0
Renews old wanted served now true new = Steps old wanted served now Begin new
Renews old wanted served now false new = Steps old wanted served now LetGo new ⊎ Steps old wanted served now Rest new

-- the next proxy begins with the table that was kept for it, and with the seeds where none was
abbrev pub BeginsWith : List Endpoint → Option (List Endpoint) → Result (List Endpoint) NoMemory → Type 0
BeginsWith seeds (Some table) given = given ≡ Ok table
BeginsWith seeds None given = IfOk given (λ table. table ≡ with_nodes [] seeds)
