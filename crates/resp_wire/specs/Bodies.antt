-- What large bodies are parts of.
-- Only private functions cite it.
use Rattle.std.specs.Prelude.{◌≡◌, ◌++◌, ℕ, List}
use Rattle.resp_wire.specs.declared.bodies.Bodies.{Bodies}
use Rattle.resp_wire.specs.declared.bodies.Bodies.TheVariants.{Copied, Shared}

-- the bytes end what their large bodies are parts of
abbrev pub AreEndOf : List ℕ → Bodies → Type 0
AreEndOf bytes (Copied most) = Unit {0}
AreEndOf bytes (Shared whole) = (front : List ℕ) × (whole.now ≡ front ++ bytes)
