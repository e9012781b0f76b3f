-- A lane through which 1,024 runs went gives the next one back, until its outlet learns of free places.
use Rattle.std.proofs.Common.{◌≡◌, inl, ℕ, zero, suc, ◌-◌, ◌≤◌, true, List, [], ◌∷◌, Some, None, Err, refl, ap, arith, length}
use Rattle.std.specs.Prelude.{IsSome, map, drop}
use Rattle.std.specs.FinMap.{insert, empty, get-empty}
use Rattle.std.specs.Ordering.{nat_cmp}
use Rattle.std.proofs.lemmas.List.{append-nil}
use denote.RawPtr.{null_ptr}
use Rattle.rtrb.specs.Fifo.{position_of}
use Rattle.key_split.specs.Runs.{RunModel}
use Rattle.proxy_lanes.specs.declared.ends.lane_ends.LaneEnds.{LaneEnds}
use Rattle.proxy_lanes.specs.declared.ring.Outlet.{Outlet}
use Rattle.proxy_lanes.specs.declared.ring.Numbered.{Numbered}
use Rattle.proxy_lanes.specs.Lane.{numbered, Posts}
use Rattle.proxy_lanes.specs.View.{new_view}
use Rattle.proxy_turns.specs.declared.newcomer.Newcomer.{Newcomer}
use Rattle.proxy_turns.specs.WorkerModel.{WorkerModel}
use Rattle.turn_laws.specs.System.{System, IsInStep, between}
use Rattle.turn_laws.specs.Underway.{DownInStep, down_in}
use Rattle.turn_laws.specs.Refines.{IsStart}
use Rattle.turn_laws.specs.Scripts as script
use Rattle.turn_laws.specs.Scripts.{set, plain, Happens}
use Rattle.turn_laws.proofs.Rings.{memory, outlet_with, inlet_with, takes}
use Rattle.turn_laws.proofs.Scenes.{scene, put, at-worker, at-client, down-in}
use Rattle.world_laws.proofs.Sound.{new-sound}
use Rattle.turn_laws.proofs.ScriptFacts.{k0, new}
use Rattle.turn_laws.proofs.ScriptStates.{newcomer, carrier}
use Rattle.turn_laws.proofs.ScriptOpening.{only-one, apart, seed-first}
use Rattle.turn_laws.proofs.ScriptAsking.{a0, doors}

-- the outlet knows of no free place
abbrev full-outlet : {T : Type 0} (xs : List (Numbered T)) → 1024 ≤ length xs → Outlet T
full-outlet {T} xs many = record {
  producer = record {
    end = record { words = null_ptr; slots = null_ptr; marker = record {}; names = (1024, (0, 0)); heap = memory; role = 0; past = xs; ahead = []; limit = length xs };
    alloc = memory;
    capacity = 1024;
    cached_head = position_of 1024 (length xs - 1024);
    cached_tail = position_of 1024 (length xs);
    writes = (refl, refl, refl, omega arith);
    counts = (many, omega arith, omega arith);
    cached = (refl, refl);
  };
  next = length xs;
  counted = refl;
  room = omega (arith, many);
}

comes-back : {T : Type 0} (xs : List (Numbered T)) (many : 1024 ≤ length xs) (x : T) → Posts (full-outlet xs many) (full-outlet xs many) x (Err x)
comes-back xs many x = (((refl, refl, refl, refl), refl), refl, refl, many, inl (omega arith))

nothing-left : {T : Type 0} (xs : List T) → drop (length xs) xs ≡ []
nothing-left [] = refl
nothing-left (x ∷ xs) = nothing-left xs

-- a number of runs, numbered on
abbrev runs : ℕ → ℕ → List (Numbered RunModel)
runs k zero = []
runs k (suc n) = numbered k (plain 0 0 set) ∷ runs (suc k) n

as-many : (k n : ℕ) → length (runs k n) ≡ n
as-many k zero = refl
as-many k (suc n) = ap suc (as-many (suc k) n)

module _ {C J : Type 0} (port : C) (xs : List (Numbered RunModel)) (many : 1024 ≤ length xs) where
  abbrev w0 : WorkerModel C J
  w0 = record {
    worker = 0;
    workers = 1;
    clients = empty;
    newest = None;
    newcomers = inlet_with [];
    left = None;
    outlet = full-outlet xs many;
    view = new_view [];
    inlet = inlet_with [];
    answered = 0;
    ports = [];
  }

  abbrev w1 : WorkerModel C J
  w1 = record w0 { clients = insert empty 0 (a0 port); newest = Some 0; newcomers = inlet_with (doors port) }

  abbrev w2 : WorkerModel C J
  w2 = record w1 { clients = insert w1.clients 0 (a0 port) }

  abbrev l0 : LaneEnds (Newcomer C J)
  l0 = record { up = inlet_with xs; down = Some (outlet_with []); door = outlet_with (doors port) }

  abbrev of : WorkerModel C J → System C J
  of model = scene model (carrier l0 [] [] true) [] 0 k0 []

  starts : IsStart (of w0)
  starts = record {
    idle = only-one (λ k model. ((model.worker, model.workers) ≡ (k, 1)) × (model.clients ≡ empty)) w0 (refl, refl);
    ups = λ k model l p q.
        only-one (λ k model. (between model.outlet l.up ≡ []) × (down_in l.down model.inlet ≡ [])) w0
        (only-one (λ k l. (between w0.outlet l.up ≡ []) × (down_in l.down w0.inlet ≡ [])) l0 (ap (map (λ (x : Numbered RunModel). x.item)) (nothing-left xs), refl) k l q) k model p;
    sides = refl;
    up_steps = λ k model l p q.
        only-one (λ k model. IsInStep model.outlet l.up) w0 (only-one (λ k l. IsInStep w0.outlet l.up) l0 ([], append-nil xs) k l q) k model p;
    down_steps = λ k model l p q.
        only-one (λ k model. DownInStep l model) w0 (only-one (λ k l. DownInStep l w0) l0 (down-in l0 w0 _ refl ([], refl)) k l q) k model p;
    unfinished = only-one (λ k l. IsSome l.down) l0 refl;
    pending_runs = refl;
    backends = refl;
    apart = apart;
    each = refl;
    room = omega arith;
    table = seed-first;
    seed = omega arith;
    published = refl;
    closed = refl;
    log = refl;
    sound = new-sound k0 new;
  }

  pub happens : Happens C J script.full []
  happens = record {
    start = of w0;
    left = of w2;
    begins = starts;
    goes = (
      of w1,
      at-worker l0 [] refl (newcomer port, takes [] (newcomer port), refl, refl, ((omega arith, refl), (tt, get-empty nat_cmp 0)), refl, refl) refl (down-in l0 w1 _ refl ([], refl)) refl,
      (
        of w2,
        at-client l0 0 (a0 port) (a0 port) w0.outlet [] refl (put _ (a0 port) 0) (comes-back xs many (plain 0 0 set), refl) (put _ (a0 port) 0) (down-in l0 w1 _ refl ([], refl)) refl,
        refl,
      ),
    );
    log = refl;
  }

pub given-back : {C J : Type 0} → C → Happens C J script.full []
given-back {J} port = happens {J = J} port (runs 0 1024) (omega (arith, as-many 0 1024))
