-- What waits at a port, as requests.
-- The model of `LocalPort` shows its requests by it.
use Rattle.key_split.specs.Requests.{Request, Asking, Command, Slots}
use Rattle.local_cluster.specs.declared.answer.LocalRequest.{LocalRequest}
use Rattle.local_cluster.specs.declared.answer.LocalRequest.TheVariants as waiting

abbrev pub request_of : LocalRequest → Request
request_of waiting.Asking = Asking
request_of (waiting.Command ticket part) = Command ticket part
request_of waiting.Slots = Slots
