-- The texts are lines.
use Rattle.std.proofs.Common.{◌≡◌, true, refl}
use Rattle.resp_wire.specs.Text.{is_one_line}
use Rattle.client_greetings.specs.declared.greeting.Subcommand.{Subcommand}
use Rattle.client_greetings.specs.declared.greeting.Subcommand.TheVariants.{SetName, SetInfo, GetName, ClientId, NoEvict, NoTouch, CommandCount, ConfigGet}
use Rattle.client_greetings.specs.Replies.{count_text}

pub count_is_one_line : (subcommand : Subcommand) → is_one_line (count_text subcommand) ≡ true
count_is_one_line SetName = refl
count_is_one_line SetInfo = refl
count_is_one_line GetName = refl
count_is_one_line ClientId = refl
count_is_one_line NoEvict = refl
count_is_one_line NoTouch = refl
count_is_one_line CommandCount = refl
count_is_one_line ConfigGet = refl
