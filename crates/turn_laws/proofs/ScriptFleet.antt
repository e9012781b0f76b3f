-- Two proxies before one cluster: a client of the second reads what a client of the first set.
use Rattle.std.proofs.Common.{◌≡◌, ℕ, ◌==◌, Bool, true, false, List, [], ◌∷◌, ◌++◌, map, refl, sym, ap, ◌∙◌, subst}
use Rattle.std.specs.Prelude.{if◌then◌else◌}
use Rattle.std.specs.List.{FoldsTo}
use Rattle.resp_wire.specs.Laws.{FrontIsWhole}
use Rattle.world_laws.specs.declared.event.Event.TheVariants as core
use Rattle.turn_laws.specs.System.{System, Mark}
use Rattle.turn_laws.specs.System as seen
use Rattle.turn_laws.specs.Asking.{NoneAsksIn}
use Rattle.turn_laws.specs.Steps.{SystemEvent, AtWorker, AtCarrier, Handed, AtNode, AtBroken, Thrown, Moved, SystemStep}
use Rattle.turn_laws.specs.LogHeadline.{history}
use Rattle.turn_laws.specs.Fleet.{Fleet, FleetEvent, foreign}
use Rattle.turn_laws.specs.Scripts as script
use Rattle.turn_laws.specs.Scripts.{set, ok, five, did, opening, moving, asking, setting}
use Rattle.turn_laws.specs.SharedScripts.{FleetHappens, meets, reading, sending, story_of_reader, story_of_writer}
use Rattle.turn_laws.proofs.FleetRuns.{after, all_of, aside, run-of-one, runs-join, same-nodes, seen-none, seen-one, Follows, Waits}
use Rattle.turn_laws.proofs.Impacts.{cancel}
use Rattle.turn_laws.proofs.Scenes.{and-then}
use Rattle.turn_laws.proofs.ScriptFacts.{k0, k6}
use Rattle.turn_laws.proofs.ScriptOpening.{s0, s1, s2, starts, opens, moves, idle, fresh}
use Rattle.turn_laws.proofs.ScriptAsking.{s3, asks}
use Rattle.turn_laws.proofs.ScriptSetting.{s4, sets, log4}
use Rattle.turn_laws.proofs.ScriptReading.{answered, connected, k6', reads, sends, waiting}

-- no step of a slot
abbrev moves_none : SystemEvent → Bool
moves_none (AtWorker k event) = true
moves_none (AtCarrier event) = true
moves_none (Handed k number) = true
moves_none (AtNode k verdict) = true
moves_none (AtBroken j verdict) = true
moves_none (Thrown j) = true
moves_none (Moved event) = false

none-imported : (event : SystemEvent) (slot target : ℕ) → moves_none event ≡ true → event ≡ Moved (core.Import slot target) → ⊥
none-imported event slot target passes is =
    let it : moves_none (Moved (core.Import slot target)) ≡ true = subst (λ e. moves_none e ≡ true) is passes in
    absurd (cc)

-- what the writer's command did, as the reader's log has it
abbrev wrote : List Mark
wrote = seen.Executed (foreign 1 (did 0 set ok) ∷ []) ∷ []

abbrev reader_log : List Mark
reader_log = wrote ++ seen.Arrived (script.ticket 0) script.get ∷ []

abbrev writing : List SystemEvent
writing = opening ++ (moving ++ (asking ++ setting))

-- a run without a step of a slot asks the others for nothing
waits-none : {C J : Type 0} (f : Fleet C J) (p : ℕ) (event : SystemEvent) → moves_none event ≡ true → Waits f p event
waits-none f p event passes slot target is = absurd (none-imported event slot target passes is)

module _ (C J : Type 0) (port : C) (law : FrontIsWhole) where
  writes : FoldsTo SystemStep (s0 {C = C} {J = J} port) writing (s4 port)
  writes =
      and-then SystemStep (s0 port) opening (s1 port) (moving ++ (asking ++ setting)) (s4 port) (opens port)
      (and-then SystemStep (s1 port) moving (s2 port) (asking ++ setting) (s4 port) (moves port)
      (and-then SystemStep (s2 port) asking (s3 port) setting (s4 port) (asks port law) (sets port)))

  abbrev last : System C J
  last = answered port k6' story_of_reader

  reads-it : FoldsTo SystemStep (connected {C = C} {J = J} port k6 wrote) (sending ++ reading) last
  reads-it = and-then SystemStep (connected port k6 wrote) sending (waiting port k6 reader_log) reading last (sends port law k6 wrote) (reads port reader_log)

  -- ---- all start alike, and the second proxy reaches the nodes

  abbrev f0 : Fleet C J
  f0 = λ q. s0 port

  first : Follows f0 f0 1 opening (s0 port) (s1 port) []
  first = run-of-one f0 1 moves_none (λ q. refl) (waits-none f0 1) opening (s1 port) refl (opens port)

  abbrev f1 : Fleet C J
  f1 = after f0 1 (s1 port) first.0

  -- the first is as it was,
  as-it-was : s0 port ≡ f1 0
  as-it-was = λ i. record (s0 {C = C} {J = J} port) { log = sym (seen-none 1 first.0 (sym first.1)) i }

  -- and none has a command under way
  waits-all : (event : SystemEvent) → true ≡ true → Waits f1 0 event
  waits-all event passes slot target is q ne k dones = go (q == 1)
    where
      go : (b : Bool) → NoneAsksIn (aside (if b then s1 {C = C} {J = J} port else aside (s0 port) k0 first.0) k dones) slot target
      go true = idle port k (aside (s1 {C = C} {J = J} port) k dones).log slot target
      go false = fresh port k (aside (aside (s0 {C = C} {J = J} port) k0 first.0) k dones).log slot target

  -- ---- a client of the first proxy sets the key

  second : Follows f1 f1 0 writing (f1 0) (s4 port) []
  second =
      run-of-one f1 0 (λ event. true) (same-nodes f0 1 (s1 port) first.0) waits-all writing (s4 port) refl
      (subst (λ s. FoldsTo SystemStep s writing (s4 port)) as-it-was writes)

  abbrev f2 : Fleet C J
  f2 = after f1 0 (s4 port) second.0

  set-done : all_of second.0 ≡ did 0 set ok ∷ []
  set-done = ap (λ (s : System C J). history s.log ++ all_of second.0) as-it-was ∙ sym second.1

  -- ---- a client of the second reads it

  sees-it : connected port k6 wrote ≡ f2 1
  sees-it = λ i. record (connected {C = C} {J = J} port k6 wrote) { log = sym (seen-one 1 second.0 (did 0 set ok) set-done) i }

  third : Follows f2 f2 1 (sending ++ reading) (f2 1) last []
  third =
      run-of-one f2 1 moves_none (λ q. same-nodes f1 0 (s4 port) second.0 q) (waits-none f2 1) (sending ++ reading) last refl
      (subst (λ s. FoldsTo SystemStep s (sending ++ reading) last) sees-it reads-it)

  read-done : all_of third.0 ≡ did 0 script.get five ∷ []
  read-done =
      cancel (foreign 1 (did 0 set ok) ∷ []) (all_of third.0) (did 0 script.get five ∷ [])
      (ap (λ (s : System C J). history s.log ++ all_of third.0) sees-it ∙ sym third.1)

  pub happens : FleetHappens C J meets story_of_writer story_of_reader
  happens = record {
    start = f0;
    left = after f2 1 last third.0;
    begins = record { starts = λ q. starts port; shared = λ p q. refl };
    goes =
        runs-join (map (FleetEvent.By 1) opening) (map (FleetEvent.By 0) writing ++ map (FleetEvent.By 1) (sending ++ reading)) f0 f1 (after f2 1 last third.0) first.2
        (runs-join (map (FleetEvent.By 0) writing) (map (FleetEvent.By 1) (sending ++ reading)) f1 f2 (after f2 1 last third.0) second.2 third.2);
    first_log = ap (λ marks. log4 ++ marks) (seen-one 1 third.0 (did 0 script.get five) read-done);
    second_log = refl;
  }
