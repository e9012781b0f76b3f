-- The error texts of requests of the table that are not passed on: those of Redis 7.0, but for two that begin with
-- `ERR proxy:`, which are this proxy's.
use Rattle.std.specs.Prelude.{ℕ, List, [], ◌++◌, map, unwrap_or, slice_get, codes}
use Rattle.resp_wire.specs.declared.value.Value.{Value}
use Rattle.resp_wire.specs.declared.value.Value.TheVariants.{Error}
use Rattle.relayed_keys.specs.declared.table.TheConstants.{NAMES}
use Rattle.relayed_keys.specs.declared.keys.RelayFault.{RelayFault}
use Rattle.relayed_keys.specs.declared.keys.RelayFault.TheVariants.{WrongCount, Blocks, SortBy, SortGet, NotANumber, BadCount, NegativeCount, NotAboveZero, NoInputKey, TooManyKeys, Syntax, Unbalanced, NoKey, CrossSlot}

-- the name of a row, as a server writes it: `object|encoding`
unfoldable pub row_name : ℕ → List ℕ
row_name row = unwrap_or (slice_get (map (λ name. name.now) NAMES) row) []

abbrev pub about_text : List ℕ → ℕ → List ℕ
about_text front row = front ++ row_name row ++ codes "' command"

abbrev pub about : List ℕ → ℕ → Value
about front row = Error (about_text front row)

abbrev pub relay_refusal_text : RelayFault → List ℕ
relay_refusal_text (WrongCount row) = about_text (codes "ERR wrong number of arguments for '") row
relay_refusal_text Blocks = codes "ERR proxy: BLOCK is not passed on"
relay_refusal_text SortBy = codes "ERR BY option of SORT denied in Cluster mode."
relay_refusal_text SortGet = codes "ERR GET option of SORT denied in Cluster mode."
relay_refusal_text NotANumber = codes "ERR value is not an integer or out of range"
relay_refusal_text BadCount = codes "ERR Bad number of keys provided"
relay_refusal_text NegativeCount = codes "ERR Number of keys can't be negative"
relay_refusal_text NotAboveZero = codes "ERR numkeys should be greater than 0"
relay_refusal_text (NoInputKey row) = about_text (codes "ERR at least 1 input key is needed for '") row
relay_refusal_text TooManyKeys = codes "ERR Number of keys can't be greater than number of args"
relay_refusal_text Syntax = codes "ERR syntax error"
relay_refusal_text Unbalanced = codes "ERR Unbalanced XREAD list of streams: for each stream key an ID or '$' must be specified."
relay_refusal_text NoKey = codes "ERR proxy: a script without keys is not passed on"
relay_refusal_text CrossSlot = codes "CROSSSLOT Keys in request don't hash to the same slot"

-- what is answered to a request that is refused
abbrev pub relay_refusal_of : RelayFault → Value
relay_refusal_of fault = Error (relay_refusal_text fault)
