-- What a client's value is found to ask for.
-- `kind_of` finds what `asked_of` (Requests.antt) says of the value's data.
use Rattle.std.specs.Prelude.{◌≡◌, ◌<◌, ℕ, List, Result, Ok, Err, length}
use Rattle.resp_wire.specs.declared.value.Value.{Value}
use Rattle.session_order.specs.declared.request_kind.RequestKind.{RequestKind}
use Rattle.session_order.specs.declared.request_kind.RequestKind.TheVariants as wish
use Rattle.session_order.specs.Requests.{RequestKindModel, Words, Skipped, Refused}

-- what is asked, by at least one word; memory is wanting for words alone
abbrev pub Asks : RequestKindModel → Result RequestKind Value → Type 0
Asks asked (Ok (wish.Words words)) = (asked ≡ Words words) × (0 < length words)
Asks asked (Ok wish.Skipped) = asked ≡ Skipped
Asks asked (Ok wish.Refused) = asked ≡ Refused
Asks asked (Err value) = (words : List (List ℕ)) × (asked ≡ Words words)
