-- When a worker begins anew with another table of nodes: it lets its clients go, and begins anew once they are gone or cut.
use Rattle.std.specs.Prelude.{◌≤◌, ◌+◌, ◌-◌, ◌^◌, ◌⊎◌, ◌≡◌, ℕ, Bool, true, false, Option, None, Some, ⊤, min}
use Rattle.socket_proxy.specs.declared.renewal.Renewal.{Renewal}
use Rattle.socket_proxy.specs.declared.renewal.Step.{Step}
use Rattle.socket_proxy.specs.declared.renewal.Step.TheVariants.{Rest, LetGo, Begin}

-- ten seconds have passed since it last began to let its clients go, where it did
abbrev pub IsApart : Option ℕ → ℕ → Type 0
IsApart None now = ⊤
IsApart (Some last) now = 10000 ≤ now - last

-- all clients are gone, or thirty seconds have passed since it began to let them go
abbrev pub IsEmptied : Bool → Option ℕ → ℕ → Type 0
IsEmptied served None now = served ≡ true
IsEmptied served (Some began) now = (served ≡ true) ⊎ (30000 ≤ now - began)

-- Another table is wanted, the clients are not on their way yet, and were not in the last ten seconds.
abbrev pub IsDueToLetGo : Renewal → Bool → ℕ → Type 0
IsDueToLetGo renewal wanted now = (renewal.is_under_way ≡ false) × (wanted ≡ true) × IsApart renewal.began now

-- The clients were let go, and none is left or is to be left.
abbrev pub IsDueToBegin : Renewal → Bool → ℕ → Type 0
IsDueToBegin renewal served now = (renewal.is_under_way ≡ true) × IsEmptied served renewal.began now

-- Its clients are let go exactly where that is due, and from then on they are on their way; it begins anew exactly where that is due.
-- All else is rest, in which nothing changes.
abbrev pub Steps : Renewal → Bool → Bool → ℕ → Step → Renewal → Type 0
Steps old wanted served now LetGo new = IsDueToLetGo old wanted now × (new ≡ record { began = Some now; is_under_way = true })
Steps old wanted served now Begin new = IsDueToBegin old served now × (new ≡ old)
Steps old wanted served now Rest new = (IsDueToLetGo old wanted now → ⊥) × (IsDueToBegin old served now → ⊥) × (new ≡ old)

-- how long it is from the time at which clients were let go to the next step that needs no news: the rest of them are cut, or others
-- may be let go
abbrev pub pause : Bool → Bool → Option ℕ
pause true wanted = Some 30000
pause false true = Some 10000
pause false false = None

abbrev pub after : Option ℕ → Option ℕ → Option ℕ
after (Some began) (Some pause) = Some (min (began + pause) (2 ^ 64 - 1))
after began pause = None

-- when a step may come with no news
abbrev pub next_due : Renewal → Bool → Option ℕ
next_due renewal wanted = after renewal.began (pause renewal.is_under_way wanted)

abbrev pub at_rest : Renewal
at_rest = record { began = None; is_under_way = false }
