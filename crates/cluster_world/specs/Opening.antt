-- What an input asks first (RESP2 specification, "Sending commands to a Redis server"): a request is an array of bulk
-- strings. Empty arrays and null arrays before it are skipped.
-- An input may end before any request, and then nothing is asked.
use Rattle.std.specs.Prelude.{◌≡◌, ◌≢◌, ◌⊎◌, ℕ, List, [], ◌∷◌, None, Some}
use Rattle.resp_wire.specs.Data.{Data, null_array}
use Rattle.resp_wire.specs.Words.{words_of}
use Rattle.resp_wire.specs.LimitsModel.{full}
use Rattle.resp_wire.specs.Stream.{Begins, HasFault, NoFault, NoneWhole}
use Rattle.resp_wire.specs.declared.fault.WireFault.{WireFault}

-- a request of these words; or a fault of the wire or a value that is no request; or neither, up to the end
pub data Opening : Type 0 where
  Asks : List (List ℕ) → Opening
  Breaks : Opening
  Ends : Opening

-- an array of no words, or a null array
abbrev pub IsSkipped : Data → Type 0
IsSkipped value = (words_of value ≡ Some []) ⊎ (value ≡ null_array)

-- the input opens so
pub data Opens : List ℕ → Opening → Type 0 where
  request : (input rest : List ℕ) (value : Data) (word : List ℕ) (words : List (List ℕ)) → Begins full input value rest → words_of value ≡ Some (word ∷ words) → Opens input (Asks (word ∷ words))
  skip : (input rest : List ℕ) (value : Data) (opening : Opening) → Begins full input value rest → IsSkipped value → Opens rest opening → Opens input opening
  no_request : (input rest : List ℕ) (value : Data) → Begins full input value rest → words_of value ≡ None → value ≢ null_array → Opens input Breaks
  fault : (input : List ℕ) (found : WireFault) → HasFault full input found → Opens input Breaks
  early : (input : List ℕ) → NoneWhole full input → NoFault full input → Opens input Ends
