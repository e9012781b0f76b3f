-- A client is handed to a play.
use Rattle.std.specs.Prelude.{◌≡◌, ◌++◌, List, Result}
use Rattle.proxy_turns.specs.declared.newcomer.Newcomer.{Newcomer}
use Rattle.proxy_engine.specs.EngineModel as engine
use Rattle.turn_laws.specs.System.{System}
use Rattle.turn_play.specs.Beside.{LeadsBeside, StepBeside}
use Rattle.turn_play.specs.Playing.{PlayModel, Shows}
use Rattle.turn_play.specs.Deeds.{IsReached, Reaches}

module _ {C J : Type 0} where
  -- it stands last in the worker's lane of new clients, or comes back, since no place is known to be free
  abbrev pub HandsClient : PlayModel C J → Newcomer C J → Result (Unit {0}) (Newcomer C J) → PlayModel C J → Type 0
  HandsClient old client handed new = engine.HandsClient old.engine client handed new.engine × (new ≡ record old { engine = new.engine })

  -- Of each system that shows the old play this is steps to one that shows the new. Where the first was reached, the last is, and the headline
  -- holds of it.
  abbrev pub HandsOn : PlayModel C J → PlayModel C J → Type 0
  HandsOn old new = (s : System C J) → Shows old s → (s' : System C J) × (steps : List (StepBeside C J)) × LeadsBeside s steps s' × Shows new s'
      × ((start : System C J) (before : List (StepBeside C J)) → IsReached start before s → Reaches start (before ++ steps) s')

module _ (C J : Type 0) where
  -- whoever was handed over
  abbrev pub HandedIsSound : Type 0
  HandedIsSound = (old new : PlayModel C J) (client : Newcomer C J) (handed : Result (Unit {0}) (Newcomer C J)) → HandsClient old client handed new → HandsOn old new
