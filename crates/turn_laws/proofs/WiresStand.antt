-- A wire stands for itself.
use Rattle.std.proofs.Common.{ap, refl, subst, ◌∙◌}
use Rattle.turn_laws.specs.AnyPort.{WiresStand}
use Rattle.turn_laws.specs.Wire.{Exchanges, new_wire}

pub wires-stand : WiresStand
wires-stand = record {
  stands = λ old new wire requests values same exchanged. (new, subst (λ w. Exchanges w requests values new) same exchanged, refl);
  opens = λ nodes opened apart node at port before now here dialled. dialled.2 ∙ ap (new_wire opened) (apart dialled.0 node at dialled.1 here);
}
