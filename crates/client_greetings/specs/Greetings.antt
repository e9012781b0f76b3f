-- What clients of Redis ask when they connect: Redis command reference, HELLO, CLIENT SETNAME and its kin, COMMAND, CONFIG GET, INFO.
-- SETINFO and NO-TOUCH are of Redis 7.2. Of HELLO's options SETNAME alone is known here. A subcommand that is not here is no greeting.
use Rattle.std.specs.Prelude.{ℕ, List, [], ◌∷◌, Bool, ◌||◌, ◌&&◌, nat_le, if◌then◌else◌, is_some, Option, None, Some, codes}
use Rattle.std.specs.List.{list_all}
use Rattle.std.specs.Str.{bytes_eq}
use Rattle.key_split.specs.Names.{same_letters}
use Rattle.key_split.specs.Number.{number_of}
use Rattle.client_greetings.specs.declared.greeting.Greeting.{Greeting}
use Rattle.client_greetings.specs.declared.greeting.Subcommand.{Subcommand}
use Rattle.client_greetings.specs.declared.greeting.Subcommand.TheVariants.{SetName, SetInfo, GetName, ClientId, NoEvict, NoTouch, CommandCount, ConfigGet}
use Rattle.client_greetings.specs.declared.greeting.Greeting.TheVariants.{Hello, HelloNamed, NoProtocol, NotANumber, BadOption, Named, BadName, Name, Id, Noted, Syntax, Nothing, Zero, Info, WrongCount}

-- the word is this name, without regard to case
abbrev pub is : List ℕ → List ℕ → Bool
is name word = same_letters word name

-- HELLO [2 [SETNAME name]]
abbrev pub hello_with : List (List ℕ) → Greeting
hello_with [] = Hello
hello_with (option ∷ []) = BadOption
hello_with (option ∷ name ∷ []) = if is (codes "SETNAME") option then HelloNamed else BadOption
hello_with (option ∷ name ∷ word ∷ words) = BadOption

abbrev pub hello : List (List ℕ) → Greeting
hello [] = Hello
hello (version ∷ options) =
    if bytes_eq version (codes "2") then hello_with options
    else (if is_some (number_of version) then NoProtocol else NotANumber)

-- a name of a client has printable characters alone, and no space
abbrev pub is_printable : ℕ → Bool
is_printable byte = nat_le 33 byte && nat_le byte 126

abbrev pub is_name : List ℕ → Bool
is_name name = list_all is_printable name

abbrev pub set_name : List (List ℕ) → Greeting
set_name [] = WrongCount SetName
set_name (name ∷ []) = if is_name name then Named else BadName
set_name (name ∷ word ∷ words) = WrongCount SetName

abbrev pub set_info : List (List ℕ) → Greeting
set_info [] = WrongCount SetInfo
set_info (name ∷ []) = WrongCount SetInfo
set_info (name ∷ value ∷ []) = Noted
set_info (name ∷ value ∷ word ∷ words) = WrongCount SetInfo

-- ON or OFF behind it
abbrev pub switch : Subcommand → List (List ℕ) → Greeting
switch subcommand [] = WrongCount subcommand
switch subcommand (word ∷ []) = if is (codes "ON") word || is (codes "OFF") word then Noted else Syntax
switch subcommand (word ∷ other ∷ words) = WrongCount subcommand

-- nothing behind it
abbrev pub alone : Subcommand → Greeting → List (List ℕ) → Greeting
alone subcommand greeting [] = greeting
alone subcommand greeting (word ∷ words) = WrongCount subcommand

abbrev pub reply_mode : List (List ℕ) → Option Greeting
reply_mode [] = None
reply_mode (mode ∷ []) = if is (codes "ON") mode then Some Noted else None
reply_mode (mode ∷ word ∷ words) = None

abbrev pub client : List ℕ → List (List ℕ) → Option Greeting
client word words =
    if is (codes "SETNAME") word then Some (set_name words)
    else (if is (codes "SETINFO") word then Some (set_info words)
    else (if is (codes "GETNAME") word then Some (alone GetName Name words)
    else (if is (codes "ID") word then Some (alone ClientId Id words)
    else (if is (codes "NO-EVICT") word then Some (switch NoEvict words)
    else (if is (codes "NO-TOUCH") word then Some (switch NoTouch words)
    else (if is (codes "REPLY") word then reply_mode words else None))))))

abbrev pub command : List (List ℕ) → Option Greeting
command [] = Some Nothing
command (word ∷ words) =
    if is (codes "DOCS") word then Some Nothing
    else (if is (codes "COUNT") word then Some (alone CommandCount Zero words) else None)

abbrev pub parameters : List (List ℕ) → Greeting
parameters [] = WrongCount ConfigGet
parameters (word ∷ words) = Nothing

abbrev pub config : List (List ℕ) → Option Greeting
config [] = None
config (word ∷ words) = if is (codes "GET") word then Some (parameters words) else None

abbrev pub client_words : List (List ℕ) → Option Greeting
client_words [] = None
client_words (word ∷ words) = client word words

abbrev pub greeting_by : List ℕ → List (List ℕ) → Option Greeting
greeting_by name words =
    if is (codes "HELLO") name then Some (hello words)
    else (if is (codes "CLIENT") name then client_words words
    else (if is (codes "COMMAND") name then command words
    else (if is (codes "CONFIG") name then config words
    else (if is (codes "INFO") name then Some Info else None))))

-- what a request asks, where it greets
abbrev pub greeting_of : List (List ℕ) → Option Greeting
greeting_of [] = None
greeting_of (name ∷ words) = greeting_by name words

-- where the word stands that is the client's name from then on
abbrev pub place_of : Greeting → Option ℕ
place_of Hello = None
place_of HelloNamed = Some 3
place_of NoProtocol = None
place_of NotANumber = None
place_of BadOption = None
place_of Named = Some 2
place_of BadName = None
place_of Name = None
place_of Id = None
place_of Noted = None
place_of Syntax = None
place_of Nothing = None
place_of Zero = None
place_of Info = None
place_of (WrongCount subcommand) = None
