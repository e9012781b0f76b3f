-- What a run of `one` writes.
-- A protocol error is answered with status 1. An input that ends early, or that is longer than the limit without a
-- whole request, gets no bytes and status 1.
use Rattle.std.specs.Prelude.{◌≡◌, ℕ, List, [], codes, take}
use Rattle.resp_wire.specs.Canonical.{canonical}
use Rattle.resp_wire.specs.Seen.{data_of}
use Rattle.resp_wire.specs.declared.value.Value.{Value}
use Rattle.resp_wire.specs.declared.value.Value.TheVariants.{Error}
use Rattle.cluster_world.specs.Answers.{Answers}
use Rattle.cluster_world.specs.Opening.{Opening, Asks, Breaks, Ends, Opens}

abbrev pub protocol_error : Value
protocol_error = Error (codes "ERR proxy: protocol error")

-- the status that an opening is answered with, and the bytes: those of the reply, those of the protocol error, or none
abbrev pub Writes : Opening → ℕ → List ℕ → Type 0
Writes (Asks words) status bytes = (status ≡ 0) × ((reply : Value) × Answers words reply × (bytes ≡ canonical (data_of reply)))
Writes Breaks status bytes = (status ≡ 1) × (bytes ≡ canonical (data_of protocol_error))
Writes Ends status bytes = (status ≡ 1) × (bytes ≡ [])

-- what is written for an input of which at most `limit` bytes are read
abbrev pub WritesFor : ℕ → List ℕ → ℕ → List ℕ → Type 0
WritesFor limit input status bytes = (opening : Opening) × Opens (take limit input) opening × Writes opening status bytes
