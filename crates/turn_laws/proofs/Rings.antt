-- Ends of lanes in which these items were put, or from which these were taken.
use Rattle.std.proofs.Common.{◌+◌, ◌-◌, List, [], ◌∷◌, ◌++◌, Some, None, Ok, refl, arith, length}
use denote.RawPtr.{null_ptr}
use Rattle.std.specs.declared.alloc.Global.{Global}
use Rattle.rtrb.specs.Fifo.{position_of}
use Rattle.proxy_lanes.specs.declared.ring.Outlet.{Outlet}
use Rattle.proxy_lanes.specs.declared.ring.Inlet.{Inlet}
use Rattle.proxy_lanes.specs.declared.ring.Numbered.{Numbered}
use Rattle.proxy_lanes.specs.Lane.{Posts, Takes, numbered}

abbrev pub memory : Global
memory = record { memory = record { seal = tt } }

-- what was put in
abbrev pub outlet_with : {T : Type 0} → List (Numbered T) → Outlet T
outlet_with {T} xs = record {
  producer = record {
    end = record { words = null_ptr; slots = null_ptr; marker = record {}; names = (1024, (0, 0)); heap = memory; role = 0; past = xs; ahead = []; limit = length xs + 1024 };
    alloc = memory;
    capacity = 1024;
    cached_head = position_of 1024 (length xs + 1024 - 1024);
    cached_tail = position_of 1024 (length xs);
    writes = (refl, refl, refl, omega arith);
    counts = (omega arith, omega arith, omega arith);
    cached = (refl, refl);
  };
  next = length xs;
  counted = refl;
  room = omega arith;
}

-- what was taken, where nothing more was seen
abbrev pub inlet_with : {T : Type 0} → List (Numbered T) → Inlet T
inlet_with {T} xs = record {
  consumer = record {
    end = record { words = null_ptr; slots = null_ptr; marker = record {}; names = (1024, (0, 0)); heap = memory; role = 1; past = xs; ahead = []; limit = 0 };
    alloc = memory;
    capacity = 1024;
    cached_head = position_of 1024 (length xs);
    cached_tail = position_of 1024 (length xs + 0);
    reads = (refl, refl, refl, omega arith);
    counts = omega arith;
    cached = (refl, refl);
  };
}

pub posts : {T : Type 0} (xs : List (Numbered T)) (x : T) → Posts (outlet_with xs) (outlet_with (xs ++ numbered (length xs) x ∷ [])) x (Ok tt)
posts xs x = (((refl, refl, refl, refl), refl), refl)

pub takes : {T : Type 0} (xs : List (Numbered T)) (x : T) → Takes (inlet_with xs) (inlet_with (xs ++ numbered (length xs) x ∷ [])) (Some x)
takes xs x = (((refl, refl, refl, refl), refl), refl, (numbered (length xs) x ∷ [], refl))

pub takes-none : {T : Type 0} (xs : List (Numbered T)) → Takes (inlet_with xs) (inlet_with xs) None
takes-none xs = (((refl, refl, refl, refl), refl), refl, refl, refl)
