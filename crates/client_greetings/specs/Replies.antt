-- What a greeting is answered: Redis 7.0, in RESP2, but that an option of HELLO that is not known is not repeated.
-- A proxy says that it is a server alone, and has no command, setting or section to tell of.
use Rattle.std.specs.Prelude.{ℕ, List, [], ◌∷◌, ◌++◌, pos, codes}
use Rattle.std.specs.Fmt.{decimal}
use Rattle.resp_wire.specs.Data.{Data, bulk, integer, array, no_items}
use Rattle.resp_wire.specs.declared.value.Value.{Value}
use Rattle.resp_wire.specs.declared.value.Value.TheVariants as value
use Rattle.client_greetings.specs.declared.greeting.Greeting.{Greeting}
use Rattle.client_greetings.specs.declared.greeting.Greeting.TheVariants.{Hello, HelloNamed, NoProtocol, NotANumber, BadOption, Named, BadName, Name, Id, Noted, Syntax, Nothing, Zero, Info, WrongCount}
use Rattle.client_greetings.specs.declared.greeting.Subcommand.{Subcommand}
use Rattle.client_greetings.specs.declared.greeting.Subcommand.TheVariants.{SetName, SetInfo, GetName, ClientId, NoEvict, NoTouch, CommandCount, ConfigGet}

abbrev pub text_of : Subcommand → List ℕ
text_of SetName = codes "client|setname"
text_of SetInfo = codes "client|setinfo"
text_of GetName = codes "client|getname"
text_of ClientId = codes "client|id"
text_of NoEvict = codes "client|no-evict"
text_of NoTouch = codes "client|no-touch"
text_of CommandCount = codes "command|count"
text_of ConfigGet = codes "config|get"

abbrev pub count_text : Subcommand → List ℕ
count_text subcommand = codes "ERR wrong number of arguments for '" ++ text_of subcommand ++ codes "' command"

-- names and values, one behind the other
abbrev pub hello_front : List Data
hello_front = bulk (codes "server") ∷ bulk (codes "redis") ∷ bulk (codes "version") ∷ bulk (codes "7.0.15") ∷ bulk (codes "proto") ∷ integer (pos 2) ∷ bulk (codes "id") ∷ []

abbrev pub hello_back : List Data
hello_back = bulk (codes "mode") ∷ bulk (codes "standalone") ∷ bulk (codes "role") ∷ bulk (codes "master") ∷ bulk (codes "modules") ∷ array no_items ∷ []

abbrev pub hello_reply : ℕ → Value
hello_reply id = value.Array (hello_front ++ integer (pos id) ∷ hello_back)

abbrev pub info_text : ℕ → List ℕ
info_text port =
    codes "# Server\r\nredis_version:7.0.15\r\nredis_mode:standalone\r\ntcp_port:" ++ decimal port
    ++ codes "\r\n\r\n# Persistence\r\nloading:0\r\n\r\n# Replication\r\nrole:master\r\n"

-- the client's name, where it has one
abbrev pub name_reply : List ℕ → Value
name_reply [] = value.NullBulk
name_reply (b ∷ bs) = value.Bulk (b ∷ bs)

abbrev pub okay : Value
okay = value.Simple (codes "OK")

-- the reply to a greeting of the client of this number and name, at a proxy that listens on this port
abbrev pub reply_of : Greeting → ℕ → List ℕ → ℕ → Value
reply_of Hello id name port = hello_reply id
reply_of HelloNamed id name port = hello_reply id
reply_of NoProtocol id name port = value.Error (codes "NOPROTO unsupported protocol version")
reply_of NotANumber id name port = value.Error (codes "ERR Protocol version is not an integer or out of range")
reply_of BadOption id name port = value.Error (codes "ERR Syntax error in HELLO")
reply_of Named id name port = okay
reply_of BadName id name port = value.Error (codes "ERR Client names cannot contain spaces, newlines or special characters.")
reply_of Name id name port = name_reply name
reply_of Id id name port = value.Integer (pos id)
reply_of Noted id name port = okay
reply_of Syntax id name port = value.Error (codes "ERR syntax error")
reply_of Nothing id name port = value.Array []
reply_of Zero id name port = value.Integer (pos 0)
reply_of Info id name port = value.Bulk (info_text port)
reply_of (WrongCount subcommand) id name port = value.Error (count_text subcommand)
