-- What is known of a client by what its last turn left.
-- Only private functions cite it.
use Rattle.std.specs.Prelude.{◌≡◌, Bool, true}
use Rattle.proxy_turns.specs.ClientModel.{ClientModel}
use Rattle.proxy_turns.specs.ClientRest.{IsIdle}

-- Its turns move nothing until bytes are pulled or a command ends, where this is noted.
abbrev pub RestsBy : {C : Type 0} → Bool → ClientModel C → Type 0
RestsBy is_idle client = is_idle ≡ true → IsIdle client
