-- Ports may move, fail, be garbled, give no value and take runs of any length: this allows what each port does.
use Rattle.std.specs.Prelude.{◌-◌, ◌^◌}
use Rattle.node_link.specs.Port.{PortCalls}
use Rattle.proxy_turns.specs.Port.{Moves}
use Rattle.turn_laws.specs.Wire.{Wire, Exchanges}

abbrev pub any_moves : {C : Type 0} → Moves C
any_moves {C} = record { between = λ old pulled pushed noted new. Unit {0}; gone = λ port. Unit {0} }

abbrev pub any_calls : PortCalls Wire
any_calls = record {
  failures = λ wire. 2 ^ 64 - 1;
  is_garbled = λ wire. Unit {0};
  exchange = Exchanges;
  gives_none = λ wire. Unit {0};
}
