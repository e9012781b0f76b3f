use Rattle.std.proofs.Common.{arith, refl}
use Rattle.std.proofs.lemmas.Grind.{common_steps}
use Rattle.session_order.proofs.Roomier.{still_sound}
use Rattle.session_order.proofs.Turning.{waiting_few}
use Rattle.session_order.proofs.queue.make_room.Goals as goal

pub returns-in_err-reserve-clause-sound : goal.returns-in_err-reserve-clause-sound
returns-in_err-reserve-clause-sound c = still_sound c.args.tables.now _ refl c.reserve.ensures.items refl refl (λ slot. refl) refl (omega arith) c.requires

pub returns-in_err-reserve-2-clause-sound : goal.returns-in_err-reserve-2-clause-sound
returns-in_err-reserve-2-clause-sound c = still_sound c.args.tables.now _ refl c.reserve.ensures.items c.reserve-2.ensures.items refl (λ slot. refl) refl (omega arith) c.requires

pub returns-in_err-reserve-3-clause-sound : goal.returns-in_err-reserve-3-clause-sound
returns-in_err-reserve-3-clause-sound c =
    still_sound c.args.tables.now _ refl c.reserve.ensures.items c.reserve-2.ensures.items c.reserve-3.ensures.items (λ slot. refl) refl (omega arith) c.requires

pub returns-in_err-reserve-4-clause-sound : goal.returns-in_err-reserve-4-clause-sound
returns-in_err-reserve-4-clause-sound c =
    still_sound c.args.tables.now _ refl c.reserve.ensures.items c.reserve-2.ensures.items c.reserve-3.ensures.items c.reserve-4.ensures.entries.2 refl (omega arith) c.requires

pub returns-in_default-clause-sound : goal.returns-in_default-clause-sound
returns-in_default-clause-sound c =
    still_sound c.args.tables.now _ refl c.reserve.ensures.items c.reserve-2.ensures.items c.reserve-3.ensures.items c.reserve-4.ensures.entries.2 refl (omega arith) c.requires

pub returns-in_err-reserve-5-clause-sound : goal.returns-in_err-reserve-5-clause-sound
returns-in_err-reserve-5-clause-sound c =
    still_sound c.args.tables.now _ refl c.reserve.ensures.items c.reserve-2.ensures.items c.reserve-3.ensures.items c.reserve-4.ensures.entries.2 c.reserve-5.ensures.items c.reserve-5.ensures.capacity c.requires

pub returns-clause-sound : goal.returns-clause-sound
returns-clause-sound c =
    still_sound c.args.tables.now _ refl c.reserve.ensures.items c.reserve-2.ensures.items c.reserve-3.ensures.items c.reserve-4.ensures.entries.2 c.reserve-5.ensures.items c.reserve-5.ensures.capacity c.requires

pub returns-clause-room : goal.returns-clause-room
returns-clause-room c =
    let few = waiting_few c.reserve.new.self.items in
    record {
      stages = grind (arith, common_steps);
      later = grind (arith, common_steps);
      earlier = grind (arith, common_steps);
      last = grind (arith, common_steps);
      turns = omega (arith, few, c.reserve.new.self.ok.0, c.in_ok-reserve-5.ensures.ok, c.in-Some.ensures.1, c.len-held.ensures);
    }
