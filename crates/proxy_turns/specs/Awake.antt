-- Clients that are to have a turn.
-- Only private functions cite it.
use Rattle.std.specs.Prelude.{ℕ, List, Option, All, IfSome}
use Rattle.proxy_turns.specs.ClientModel.{ClientModel}
use Rattle.proxy_turns.specs.ClientTable.{HasPlace}
use Rattle.proxy_turns.specs.Sleepers.{IsMarked}

module _ {C : Type 0} (entries : List (ℕ × ClientModel C)) (marks : List ℕ) where
  -- the client of this number, where there is one, does not sleep
  abbrev pub IsAwake : ℕ → Type 0
  IsAwake number = (place : Option ℕ) × HasPlace entries number place × IfSome place (λ at. IsMarked marks at → ⊥)

  -- they were named, and are awake
  abbrev pub AreWoken : (List ℕ → Type 0) → List ℕ → Type 0
  AreWoken names numbers = names numbers × All IsAwake numbers
