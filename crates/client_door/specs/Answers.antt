-- What a client is answered that has not said the password: Redis command reference, AUTH and QUIT; Redis documentation, ACL.
-- There is one user, `default`, as at a server with `requirepass`.
use Rattle.std.specs.Prelude.{ℕ, List, [], ◌∷◌, Bool, ◌&&◌, if◌then◌else◌, drop, codes}
use Rattle.std.specs.Str.{bytes_eq}
use Rattle.resp_wire.specs.Data.{Data, simple, error, bulk}
use Rattle.resp_wire.specs.Canonical.{canonical}
use Rattle.resp_wire.specs.Seen.{data_of}
use Rattle.resp_wire.specs.Words.{is_bulk}
use Rattle.resp_wire.specs.declared.value.Value.{Value}
use Rattle.key_split.specs.Names.{same_letters}
use Rattle.key_split.specs.Plan.{word_at}
use Rattle.session_order.specs.Requests.{RequestKindModel, Words, Skipped, Refused}
use Rattle.client_door.specs.declared.answer.Answer.{Answer}
use Rattle.client_door.specs.declared.answer.Answer.TheVariants.{Welcome, Goodbye, NoAuth, WrongPassword, WrongCount, Syntax, Nothing, NotRequest}
use Rattle.client_door.specs.declared.door.DoorState.{DoorState}
use Rattle.client_door.specs.declared.door.DoorState.TheVariants.{Shut, Open, Over}

abbrev pub checked : Bool → Answer
checked right = if right then Welcome else WrongPassword

-- AUTH password; AUTH default password
abbrev pub auth_answer : List ℕ → List (List ℕ) → Answer
auth_answer password [] = WrongCount
auth_answer password (given ∷ []) = checked (bytes_eq given password)
auth_answer password (user ∷ given ∷ []) = checked (bytes_eq user (codes "default") && bytes_eq given password)
auth_answer password (user ∷ given ∷ word ∷ words) = Syntax

abbrev pub words_answer : List ℕ → List (List ℕ) → Answer
words_answer password words =
    if same_letters (word_at words 0) (codes "AUTH") then auth_answer password (drop 1 words)
    else (if same_letters (word_at words 0) (codes "QUIT") then Goodbye else NoAuth)

-- what a value asks for is answered so
abbrev pub answer_to : List ℕ → RequestKindModel → Answer
answer_to password (Words words) = words_answer password words
answer_to password Skipped = Nothing
answer_to password Refused = NotRequest

-- the item is a word
abbrev pub is_word : Value → Bool
is_word item = is_bulk (data_of item)

-- the word that an item is, or nothing
abbrev pub word_in : Data → List ℕ
word_in (bulk word) = word
word_in value = []

-- the bytes of an answer
abbrev pub bytes_of : Answer → List ℕ
bytes_of Welcome = canonical (simple (codes "OK"))
bytes_of Goodbye = canonical (simple (codes "OK"))
bytes_of NoAuth = canonical (error (codes "NOAUTH Authentication required."))
bytes_of WrongPassword = canonical (error (codes "WRONGPASS invalid username-password pair or user is disabled."))
bytes_of WrongCount = canonical (error (codes "ERR wrong number of arguments for 'auth' command"))
bytes_of Syntax = canonical (error (codes "ERR syntax error"))
bytes_of Nothing = []
bytes_of NotRequest = canonical (error (codes "ERR proxy: protocol error"))

-- who may pass behind an answer
abbrev pub state_after : Answer → DoorState
state_after Welcome = Open
state_after Goodbye = Over
state_after NoAuth = Shut
state_after WrongPassword = Shut
state_after WrongCount = Shut
state_after Syntax = Shut
state_after Nothing = Shut
state_after NotRequest = Over
