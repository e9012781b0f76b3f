-- A dial in memory gives a connection each time.
use Rattle.std.specs.Prelude.{ℕ}
use Rattle.turn_play.specs.declared.dial.PlayDial.{PlayDial}

abbrev pub no_failures : PlayDial → ℕ
no_failures dial = 0
