-- What stays of a worker's lanes in the later parts of its turn.
use Rattle.std.proofs.Common.{◌≡◌, ◌∙◌, ◌||◌, Bool, true, false, List, [], ◌∷◌, Result, Ok, Err, refl, sym, ap, subst}
use Rattle.std.specs.List.{FoldsTo, list_all}
use Rattle.std.proofs.lemmas.Bool.{false≢true}
use Rattle.resp_wire.specs.declared.fault.NoMemory.{NoMemory}
use Rattle.proxy_turns.specs.Port.{Moves}
use Rattle.proxy_turns.specs.Arrivals.{AreToCome}
use Rattle.proxy_turns.specs.WorkerModel.{WorkerModel, WorkerDoes, WorkerEvent, WorkerGoesBy, serves_client, settles, takes_told}
use Rattle.proxy_turns.specs.WorkerModel.WorkerEvent.{Came, Did, Finished, FoundNobody, FoundNone, Left, Took, TurnedAway}
use Rattle.proxy_turns.specs.ClientRest.{IfStill}
use Rattle.proxy_turns.specs.WorkerRest.{AreClientsAtRest, ArePostedAtRest, FoundNothing, HasNoNewcomer, HasNothingToTell, IsWorkerAtRest}
use Rattle.proxy_turns.proofs.EventKinds.{and_both}

module _ {C J : Type 0} where
  -- what a turn leaves that moved nothing
  pub at_rest : (gives_none takes_none : C → Type 0) (result : Result Bool NoMemory) (worker : WorkerModel C J) → IfStill result (HasNoNewcomer worker) → IfStill result (HasNothingToTell worker)
      → IfStill result (AreClientsAtRest gives_none takes_none worker) → IfStill result (ArePostedAtRest worker) → IfStill result (IsWorkerAtRest gives_none takes_none worker)
  at_rest gives_none takes_none (Ok true) worker newcomers told clients posted = tt
  at_rest gives_none takes_none (Ok false) worker newcomers told clients posted = record { newcomers = newcomers; told = told; clients = clients; posted = posted }
  at_rest gives_none takes_none (Err refused) worker newcomers told clients posted = tt

  -- what is to come stays, and what was taken
  abbrev KeepsInlets : WorkerModel C J → WorkerModel C J → Type 0
  KeepsInlets old new = (new.left ≡ old.left) × (new.newcomers ≡ old.newcomers) × (new.inlet ≡ old.inlet)

  -- what is to come stays
  abbrev KeepsNewcomers : WorkerModel C J → WorkerModel C J → Type 0
  KeepsNewcomers old new = (new.left ≡ old.left) × (new.newcomers ≡ old.newcomers)

  same_newcomers : (a b c : WorkerModel C J) → KeepsNewcomers a b → KeepsNewcomers b c → KeepsNewcomers a c
  same_newcomers a b c first next = (next.0 ∙ first.0, next.1 ∙ first.1)

  same_inlets : (a b c : WorkerModel C J) → KeepsInlets a b → KeepsInlets b c → KeepsInlets a c
  same_inlets a b c first next = (next.0 ∙ first.0, next.1 ∙ first.1, next.2 ∙ first.2)

  module _ (moves : Moves C) where
    told_one : (event : WorkerEvent) (old new : WorkerModel C J) → takes_told event ≡ true → WorkerDoes moves old event new → KeepsNewcomers old new
    told_one (Did number event) old new kind does = absurd (false≢true kind)
    told_one (Finished number ticket end) old new kind does = absurd (false≢true kind)
    told_one (Took ticket told) old new kind (takes, tells, is) = (ap (λ (m : WorkerModel C J). m.left) is, ap (λ (m : WorkerModel C J). m.newcomers) is)
    told_one FoundNone old new kind (takes, is) = (ap (λ (m : WorkerModel C J). m.left) is, ap (λ (m : WorkerModel C J). m.newcomers) is)
    told_one (Came number) old new kind does = absurd (false≢true kind)
    told_one (TurnedAway number) old new kind does = absurd (false≢true kind)
    told_one FoundNobody old new kind does = absurd (false≢true kind)
    told_one (Left number) old new kind does = absurd (false≢true kind)

    told_all : (events : List WorkerEvent) (old new : WorkerModel C J) → list_all takes_told events ≡ true → FoldsTo (WorkerDoes moves) old events new → KeepsNewcomers old new
    told_all [] old new all is = (ap (λ (m : WorkerModel C J). m.left) (sym is), ap (λ (m : WorkerModel C J). m.newcomers) (sym is))
    told_all (event ∷ events) old new all (mid, does, rest) =
        let both = and_both (takes_told event) (list_all takes_told events) all in
        same_newcomers old mid new (told_one event old mid both.0 does) (told_all events mid new both.1 rest)

    pub told_keeps : (moved : Bool) (old new : WorkerModel C J) → WorkerGoesBy moves takes_told old moved new → KeepsNewcomers old new
    told_keeps moved old new (events, folds, is, all) = told_all events old new all folds

    inlets_by : (old new : WorkerModel C J) (changed : WorkerModel C J) → new ≡ changed → KeepsInlets old changed → KeepsInlets old new
    inlets_by old new changed is kept = subst (KeepsInlets old) (sym is) kept

    settled_one : (event : WorkerEvent) (old new : WorkerModel C J) → settles event ≡ true → WorkerDoes moves old event new → KeepsInlets old new
    settled_one (Did number event) old new kind (client, client', there, does, is) = inlets_by old new _ is (refl, refl, refl)
    settled_one (Finished number ticket end) old new kind (client, client', there, does, is) = inlets_by old new _ is (refl, refl, refl)
    settled_one (Took ticket told) old new kind does = absurd (false≢true kind)
    settled_one FoundNone old new kind does = absurd (false≢true kind)
    settled_one (Came number) old new kind does = absurd (false≢true kind)
    settled_one (TurnedAway number) old new kind does = absurd (false≢true kind)
    settled_one FoundNobody old new kind does = absurd (false≢true kind)
    settled_one (Left number) old new kind does = absurd (false≢true kind)

    served_one : (event : WorkerEvent) (old new : WorkerModel C J) → serves_client event ≡ true → WorkerDoes moves old event new → KeepsInlets old new
    served_one (Did number event) old new kind (client, client', there, does, is) = inlets_by old new _ is (refl, refl, refl)
    served_one (Finished number ticket end) old new kind does = absurd (false≢true kind)
    served_one (Took ticket told) old new kind does = absurd (false≢true kind)
    served_one FoundNone old new kind does = absurd (false≢true kind)
    served_one (Came number) old new kind does = absurd (false≢true kind)
    served_one (TurnedAway number) old new kind does = absurd (false≢true kind)
    served_one FoundNobody old new kind does = absurd (false≢true kind)
    served_one (Left number) old new kind (last, port, leaves, closed, is) = inlets_by old new _ is (refl, refl, refl)

    by_each : (may : WorkerEvent → Bool) → ((event : WorkerEvent) (old new : WorkerModel C J) → may event ≡ true → WorkerDoes moves old event new → KeepsInlets old new)
        → (events : List WorkerEvent) (old new : WorkerModel C J) → list_all may events ≡ true → FoldsTo (WorkerDoes moves) old events new → KeepsInlets old new
    by_each may one [] old new all is = inlets_by old new old (sym is) (refl, refl, refl)
    by_each may one (event ∷ events) old new all (mid, does, rest) =
        let both = and_both (may event) (list_all may events) all in
        same_inlets old mid new (one event old mid both.0 does) (by_each may one events mid new both.1 rest)

    pub settling_keeps : (moved : Bool) (old new : WorkerModel C J) → WorkerGoesBy moves settles old moved new → KeepsInlets old new
    settling_keeps moved old new (events, folds, is, all) = by_each settles settled_one events old new all folds

    pub serving_keeps : (moved : Bool) (old new : WorkerModel C J) → WorkerGoesBy moves serves_client old moved new → KeepsInlets old new
    serving_keeps moved old new (events, folds, is, all) = by_each serves_client served_one events old new all folds

  pub nothing_to_tell : (came told settled served : Bool) (two three four : WorkerModel C J) → IfStill (Ok told) (HasNothingToTell two) → KeepsInlets two three → KeepsInlets three four
      → IfStill (Ok (((came || told) || settled) || served)) (HasNothingToTell four)
  nothing_to_tell true told settled served two three four none first next = tt
  nothing_to_tell false true settled served two three four none first next = tt
  nothing_to_tell false false true served two three four none first next = tt
  nothing_to_tell false false false true two three four none first next = tt
  nothing_to_tell false false false false two three four none first next =
      let same = same_inlets two three four first next in subst FoundNothing (sym same.2) none

  pub no_newcomer : (came told settled served : Bool) (one two three four : WorkerModel C J) → IfStill (Ok came) (HasNoNewcomer one) → KeepsNewcomers one two → KeepsInlets two three → KeepsInlets three four
      → IfStill (Ok (((came || told) || settled) || served)) (HasNoNewcomer four)
  no_newcomer true told settled served one two three four none taken first next = tt
  no_newcomer false true settled served one two three four none taken first next = tt
  no_newcomer false false true served one two three four none taken first next = tt
  no_newcomer false false false true one two three four none taken first next = tt
  no_newcomer false false false false one two three four none taken first next =
      let later = same_inlets two three four first next in
      let same = same_newcomers one two four taken (later.0, later.1) in
      λ come. subst FoundNothing (sym same.1) (none (subst AreToCome same.0 come))
