-- Tables that were given more room.
use Rattle.std.proofs.Common.{◌≡◌, ◌≤◌, ◌∙◌, ℕ, List, Option, nat_eq, arith}
use Rattle.std.specs.BinaryHeap.{heap_items, heap_capacity}
use Rattle.std.specs.HashMap.{get}
use Rattle.session_order.specs.declared.queue.PartStage.{PartStage}
use Rattle.session_order.specs.declared.queue.Tables.{Tables}
use Rattle.session_order.specs.Tables.{AreSound, IsTabled}

-- the map finds what it found
found_again : {first : ℕ} {stages : List PartStage} {later earlier : List (Option ℕ)} (last last' : ℕ → Option ℕ) {turns : ℕ → ℕ}
    → ((slot : ℕ) → last' slot ≡ last slot) → IsTabled first stages later earlier last turns → IsTabled first stages later earlier last' turns
found_again last last' same t = record {
  linked = record {
    later_places = t.linked.later_places;
    earlier_places = t.linked.earlier_places;
    chained = t.linked.chained;
    preceded = t.linked.preceded;
    lasts = λ slot. same slot ∙ t.linked.lasts slot;
  };
  in_order = t.in_order;
  once = t.once;
  sound = t.sound;
  complete = t.complete;
}

-- the same is held, and the heap has no less room
pub still_sound : (old new : Tables) → new.first ≡ old.first → new.stages.items ≡ old.stages.items → new.later.items ≡ old.later.items → new.earlier.items ≡ old.earlier.items
    → ((slot : ℕ) → get nat_eq new.last slot ≡ get nat_eq old.last slot) → heap_items new.turns ≡ heap_items old.turns → heap_capacity old.turns ≤ heap_capacity new.turns → AreSound old → AreSound new
still_sound old new first stages later earlier last turns room sound = record {
  tabled = rw (first, stages, later, earlier, turns) (found_again (get nat_eq old.last) (get nat_eq new.last) last sound.tabled);
  ordered = rw turns sound.ordered;
  room = rw stages (omega (arith, room, sound.room));
}
