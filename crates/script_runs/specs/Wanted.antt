-- What is wanted next of a script, as it is found in what is left of it.
-- Only private functions cite it.
use Rattle.std.specs.Prelude.{◌≡◌, ◌⊎◌, ◌<◌, ◌≤◌, ◌+◌, ◌^◌, ℕ, List, [], None, length, true}
use Rattle.resp_wire.specs.LimitsModel.{full}
use Rattle.resp_wire.specs.ReaderModel.{ReaderModel}
use Rattle.key_split.specs.PartModel.{PartModel}
use Rattle.key_split.specs.Join.{CanJoin}
use Rattle.key_split.specs.declared.planned.Joining.{Joining}
use Rattle.session_order.specs.PendingReply.{owed_for, goodbye}
use Rattle.session_order.specs.declared.replies.PendingReply.TheVariants as owed
use Rattle.script_runs.specs.Requests.{Request, First, Ends, Skips, Asks, Quits, first_in, parts_for}
use Rattle.script_runs.specs.declared.wanted.Wanted.{Wanted}
use Rattle.script_runs.specs.declared.wanted.Wanted.TheVariants.{Nothing, Skip, Reply, Parts, Close}

-- nothing has been found wrong in what is read
abbrev pub IsOpen : ReaderModel → Type 0
IsOpen input = (input.bounds ≡ full) × (input.fault ≡ None)

-- what stands first, behind requests of `number` parts, wants this, and these bytes stand behind it
abbrev pub Means : ℕ → First → Wanted → List ℕ → Type 0
Means number first (Nothing faulted) rest = first ≡ Ends faulted
Means number first Skip rest = first ≡ Skips rest
Means number first (Reply value) rest = (words : Request) × (first ≡ Asks words rest) × (owed_for words ≡ owed.Reply value) × (parts_for words ≡ [])
Means number first (Parts how parts) rest =
    (words : Request) × (first ≡ Asks words rest) × (owed_for words ≡ owed.Parts how (length parts)) × (parts_for words ≡ parts)
    × CanJoin how (length parts) × (number + length parts ≤ 2 ^ 48)
Means number first Close rest = (words : Request) × (first ≡ Quits words) × (owed_for words ≡ owed.Reply goodbye) × (parts_for words ≡ [])

abbrev pub GoesOn : ReaderModel → ReaderModel → Type 0
GoesOn old new = IsOpen new × (length new.unread < length old.unread)

-- where more may follow, it may be read
abbrev pub Leaves : Wanted → ReaderModel → ReaderModel → Type 0
Leaves (Nothing faulted) old new = Unit {0}
Leaves Skip old new = GoesOn old new
Leaves (Reply value) old new = GoesOn old new
Leaves (Parts how parts) old new = GoesOn old new
Leaves Close old new = Unit {0}

abbrev pub Wants : ℕ → ReaderModel → Wanted → ReaderModel → Type 0
Wants number old wanted new = Means number (first_in number old.unread) wanted new.unread × Leaves wanted old new

-- parts that can be numbered on from this number, or a fault
abbrev pub Fits : ℕ → Joining → List PartModel → Wanted → Type 0
Fits number how parts wanted =
    ((wanted ≡ Parts how parts) × (number + length parts ≤ 2 ^ 48)) ⊎ ((wanted ≡ Nothing true) × (2 ^ 48 < number + length parts))

-- the parts that are wanted can be numbered and joined
abbrev pub IsNumbered : ℕ → Wanted → Type 0
IsNumbered number (Nothing faulted) = Unit {0}
IsNumbered number Skip = Unit {0}
IsNumbered number (Reply value) = Unit {0}
IsNumbered number (Parts how parts) = CanJoin how (length parts) × (number + length parts ≤ 2 ^ 48)
IsNumbered number Close = Unit {0}
