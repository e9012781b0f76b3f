-- Others set the key between a client's GET and its reply, which tells what they set.
use Rattle.std.proofs.Common.{◌≡◌, ℕ, zero, suc, false, List, [], ◌∷◌, ◌++◌, map, refl, ◌∙◌, arith}
use Rattle.std.specs.List.{FoldsTo}
use Rattle.std.proofs.lemmas.List.Elements.{All-cons, All-nil}
use Rattle.resp_wire.specs.Laws.{FrontIsWhole}
use Rattle.slot_hash.specs.Slot.{slot_of}
use Rattle.key_split.specs.PartModel.{HasOneSlot}
use Rattle.key_split.specs.declared.travel.Told.TheVariants.{Reply}
use Rattle.node_model.specs.History.{EntryModel}
use Rattle.node_model.specs.Runs.{deed_for}
use Rattle.node_model.specs.Serving.{deed_at}
use Rattle.node_model.specs.declared.role.Deed.TheVariants.{Executes}
use Rattle.node_model.specs.declared.role.Verdict.TheVariants.{Plain}
use Rattle.world_laws.proofs.Alone.{does_alone}
use Rattle.shared_laws.specs.Shared.{AskIsTrue, IsTheirs, OthersExecute}
use Rattle.turn_laws.specs.Shadow.{entry_at}
use Rattle.turn_laws.specs.System.{Mark}
use Rattle.turn_laws.specs.System as seen
use Rattle.turn_laws.specs.Steps.{SystemStep}
use Rattle.turn_laws.specs.Sharing.{SharedEvent, SharedSystemStep}
use Rattle.turn_laws.specs.Scripts as script
use Rattle.turn_laws.specs.Scripts.{key, set, ok, ticket, opening, moving}
use Rattle.turn_laws.specs.SharedScripts.{HappensBesideOthers, others_set, reading, sending, shares, story_of_sharing}
use Rattle.turn_laws.proofs.OwnEvents.{ours}
use Rattle.turn_laws.proofs.Scenes.{and-then}
use Rattle.turn_laws.proofs.ScriptFacts.{k5, k6, sets}
use Rattle.turn_laws.proofs.ScriptOpening.{s0, s1, s2, starts, opens, moves}
use Rattle.turn_laws.proofs.ScriptReading.{answered, k6', reads, sends, waiting}

set-slot : HasOneSlot set
set-slot zero d lt = refl
set-slot (suc k) d lt = absurd (omega arith)

theirs : (moment : ℕ) → IsTheirs 1 moment 9 (slot_of key) (entry_at moment others_set)
theirs moment = record { theirs = λ x. absurd (cc); client_is = refl; slot_is = refl; one_slot = set-slot; now = refl }

asks : AskIsTrue k5 0 false set
asks a to = absurd (cc)

executes : deed_for k5 0 false (set ∷ []) Plain ≡ Executes
executes = (does_alone k5 k6 0 false set Plain (deed_at k5 0 false set Plain) (Reply ok)).0 ∙ sets

-- the first node executes what they ask, whatever the moment
pub others-execute : (moment : ℕ) → OthersExecute 1 moment k5 0 false (map (entry_at moment) (others_set ∷ [])) k6
others-execute moment = (
  9,
  slot_of key,
  All-cons (IsTheirs 1 moment 9 (slot_of key)) (entry_at moment others_set) [] (theirs moment) (All-nil (IsTheirs 1 moment 9 (slot_of key))),
  omega arith,
  All-cons (λ (e : EntryModel). AskIsTrue k5 0 false e.part) (entry_at moment others_set) [] asks (All-nil (λ (e : EntryModel). AskIsTrue k5 0 false e.part)),
  executes,
  (refl, tt),
  refl,
)

-- what is seen until the GET is on its way, and until others have set the key
abbrev pub asked : List Mark
asked = seen.Arrived (ticket 0) script.get ∷ []

abbrev pub told : List Mark
told = seen.Arrived (ticket 0) script.get ∷ seen.Executed (others_set ∷ []) ∷ []

module _ {C J : Type 0} (port : C) where
  pub sent : FrontIsWhole → FoldsTo SystemStep (s0 {C = C} {J = J} port) (opening ++ (moving ++ sending)) (waiting port k5 asked)
  sent law =
      and-then SystemStep (s0 port) opening (s1 port) (moving ++ sending) (waiting port k5 asked) (opens port)
      (and-then SystemStep (s1 port) moving (s2 port) sending (waiting port k5 asked) (moves port) (sends port law k5 []))

  pub happens : FrontIsWhole → HappensBesideOthers C J shares story_of_sharing
  happens law = record {
    start = s0 port;
    left = answered port k6' story_of_sharing;
    begins = starts port;
    goes =
        and-then SharedSystemStep (s0 port) (map SharedEvent.Ours (opening ++ (moving ++ sending))) (waiting port k5 asked) (SharedEvent.Theirs 0 false (others_set ∷ []) ∷ map SharedEvent.Ours reading) (answered port k6' story_of_sharing)
        (ours (opening ++ (moving ++ sending)) (s0 port) (waiting port k5 asked) (sent law)) (
          waiting port k6 told,
          (others-execute, refl),
          ours reading (waiting port k6 told) (answered port k6' story_of_sharing) (reads port told),
        );
    log = refl;
  }
