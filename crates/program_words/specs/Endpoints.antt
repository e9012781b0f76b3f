-- The endpoints that addresses are.
use Rattle.std.specs.Prelude.{List, map}
use Rattle.slot_map.specs.Table.{Endpoint}
use Rattle.program_words.specs.declared.address.Address.{Address}

abbrev pub endpoints_of : List Address → List Endpoint
endpoints_of addresses = map (λ a. record { host = a.host.now; port = a.port }) addresses
