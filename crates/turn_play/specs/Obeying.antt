-- What each order does to a play, and where a fault ends it.
-- A turn that moved nothing has left nothing to do: that is why a turn can't be left out.
use Rattle.std.specs.Prelude.{◌≡◌, ◌⊎◌, ℕ, Bool, List, All, [], ◌∷◌, ◌++◌, Result, Ok, Err}
use Rattle.key_split.specs.PartModel.{PartModel}
use Rattle.node_model.specs.declared.role.Verdict.{Verdict}
use Rattle.proxy_turns.specs.Port.{Moves}
use Rattle.proxy_turns.specs.Backend.{GaveNone}
use Rattle.proxy_turns.specs.CarrierModel.{CarrierGoes}
use Rattle.proxy_engine.specs.declared.turned.Turned.{Turned}
use Rattle.proxy_engine.specs.declared.turned.EngineFault.{EngineFault}
use Rattle.proxy_engine.specs.EngineModel.{EngineRests, EngineTurns}
use Rattle.turn_play.specs.declared.fault.PlayFault.{PlayFault}
use Rattle.turn_play.specs.declared.fault.PlayFault.TheVariants as fault
use Rattle.turn_play.specs.declared.moves.Move.{Move}
use Rattle.turn_play.specs.declared.order.Order.{Order}
use Rattle.turn_play.specs.declared.order.Order.TheVariants as order
use Rattle.turn_play.specs.Faults.{of_turn}
use Rattle.turn_play.specs.Moving.{MovesOrNot}
use Rattle.turn_play.specs.Port.{IsFresh, longest_run, port_calls}
use Rattle.turn_play.specs.Stream.{StreamModel}
use Rattle.turn_play.specs.Connection.{ChangesStream, ServesAt, broken, cut_to}
use Rattle.turn_play.specs.Others.{AreServed, CannotCome}
use Rattle.turn_play.specs.Playing.{PlayModel, PlaysSoundly, PlaysSoundlyBeside}

module _ {C J : Type 0} where
  module _ (moves : Moves C) (gives_none takes_none : C → Type 0) where
    -- the engine had its turn: its worker and then its carrier, and it rests where nothing moved
    abbrev pub IsTurned : PlayModel C J → Result Turned EngineFault → PlayModel C J → Type 0
    IsTurned old result new =
        EngineTurns moves (CarrierGoes port_calls IsFresh longest_run) old.engine result new.engine
        × EngineRests gives_none takes_none (GaveNone port_calls) result new.engine
        × (new ≡ record old { engine = new.engine })

    abbrev pub TurnsEngine : PlayModel C J → Result (Unit {0}) PlayFault → PlayModel C J → Type 0
    TurnsEngine old (Ok _) new = (turned : Turned) × IsTurned old (Ok turned) new
    TurnsEngine old (Err why) new = (cause : EngineFault) × (why ≡ of_turn cause) × IsTurned old (Err cause) new

  -- a node served what it read first at the open connection to it
  abbrev pub ServesNode : PlayModel C J → ℕ → Verdict → Result (Unit {0}) PlayFault → PlayModel C J → Type 0
  ServesNode old node verdict result new =
      ServesAt old.nodes old.cluster node old.engine.carrier verdict result new.cluster new.engine.carrier
      × (new ≡ record old { cluster = new.cluster; engine = record old.engine { carrier = new.engine.carrier } })

  -- the stream of the open connection to a node was changed so
  abbrev pub ChangesLink : (StreamModel → StreamModel) → PlayModel C J → ℕ → PlayModel C J → Type 0
  ChangesLink change old node new =
      ChangesStream change node old.engine.carrier new.engine.carrier × (new ≡ record old { engine = record old.engine { carrier = new.engine.carrier } })

  -- a step of a move was made, or may not be made now
  abbrev pub MovesSlot : PlayModel C J → Move → Result (Unit {0}) PlayFault → PlayModel C J → Type 0
  MovesSlot old step result new = MovesOrNot old.cluster step result new.cluster × (new ≡ record old { cluster = new.cluster })

  -- others came to a node, which did their commands or refused them
  abbrev pub OthersCome : PlayModel C J → ℕ → Bool → List PartModel → Result (Unit {0}) PlayFault → PlayModel C J → Type 0
  OthersCome old node asking cs (Ok _) new = AreServed old.cluster node asking cs new.told new.cluster × (new ≡ record old { cluster = new.cluster; told = new.told })
  OthersCome old node asking cs (Err fault) new = CannotCome old.cluster node cs fault × (new ≡ old)

  module _ (moves : Moves C) (gives_none takes_none : C → Type 0) where
    -- what an order did
    abbrev pub Obeys : PlayModel C J → Order → Result (Unit {0}) PlayFault → PlayModel C J → Type 0
    Obeys old order.Turn result new = TurnsEngine moves gives_none takes_none old result new
    Obeys old (order.Serve node verdict) result new = ServesNode old node verdict result new
    Obeys old (order.Break node) result new = (result ≡ Ok tt) × ChangesLink broken old node new
    Obeys old (order.Cut node most) result new = (result ≡ Ok tt) × ChangesLink (cut_to most) old node new
    Obeys old (order.Move step) result new = MovesSlot old step result new
    Obeys old (order.Others node asking parts) result new = OthersCome old node asking parts.items result new

    -- all were obeyed, in their order, or those up to one that ended in this fault
    abbrev pub ObeysAll : PlayModel C J → List Order → Result (Unit {0}) PlayFault → PlayModel C J → Type 0
    ObeysAll old [] result new = (result ≡ Ok tt) × (new ≡ old)
    ObeysAll old (order ∷ orders) result new =
        ((mid : PlayModel C J) × Obeys old order (Ok tt) mid × ObeysAll mid orders result new)
        ⊎ ((why : PlayFault) × (result ≡ Err why) × Obeys old order (Err why) new)

module _ {C J : Type 0} (moves : Moves C) (gives_none takes_none : C → Type 0) where
  -- Where an order ended so, it was one to serve, whose node did commands with a reply that is longer than any reader takes. The orders before
  -- it were obeyed, and what they did is sound.
  abbrev pub EndsTooLong : PlayModel C J → List Order → Result (Unit {0}) PlayFault → PlayModel C J → Type 0
  EndsTooLong old orders result new = result ≡ Err fault.TooLong
      → (before : List Order) × (node : ℕ) × (verdict : Verdict) × (after : List Order) × (mid : PlayModel C J)
      × (orders ≡ before ++ order.Serve node verdict ∷ after) × ObeysAll moves gives_none takes_none old before (Ok tt) mid × PlaysSoundlyBeside old mid
      × ServesNode mid node verdict (Err fault.TooLong) new

-- it lets nobody else act
abbrev pub IsOurs : Order → Type 0
IsOurs order.Turn = Unit {0}
IsOurs (order.Serve node verdict) = Unit {0}
IsOurs (order.Break node) = Unit {0}
IsOurs (order.Cut node most) = Unit {0}
IsOurs (order.Move step) = Unit {0}
IsOurs (order.Others node asking parts) = ⊥

-- no turn found the worker to see of the slot map what was not published, and no node did commands whose reply is longer than a reader takes
abbrev pub StaysInOrder : Result (Unit {0}) PlayFault → Type 0
StaysInOrder (Ok _) = Unit {0}
StaysInOrder (Err fault.NoMemory) = Unit {0}
StaysInOrder (Err fault.NotServed) = Unit {0}
StaysInOrder (Err fault.OutOfOrder) = ⊥
StaysInOrder (Err fault.TooLong) = ⊥

module _ (C J : Type 0) (moves : Moves C) (gives_none takes_none : C → Type 0) where
  -- whatever orders were obeyed that let nobody else act, what was done is sound
  abbrev pub ObeyedIsSound : Type 0
  ObeyedIsSound = (old new : PlayModel C J) (orders : List Order) (result : Result (Unit {0}) PlayFault) → ObeysAll moves gives_none takes_none old orders result new → StaysInOrder result → All IsOurs orders → PlaysSoundly old new

  -- and whatever orders were obeyed, what was done is sound beside others
  abbrev pub ObeyedIsSoundBeside : Type 0
  ObeyedIsSoundBeside = (old new : PlayModel C J) (orders : List Order) (result : Result (Unit {0}) PlayFault) → ObeysAll moves gives_none takes_none old orders result new → StaysInOrder result → PlaysSoundlyBeside old new
