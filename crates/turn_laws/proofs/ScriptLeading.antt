-- A GET is on its way to the first node when the second takes over from it, and the first one's address comes to lead to the second.
use Rattle.std.proofs.Common.{◌≡◌, inl, ℕ, true, false, List, [], ◌∷◌, ◌++◌, Option, map, refl, sym, ap, subst, arith}
use Rattle.std.specs.Prelude.{is_some}
use Rattle.std.specs.List.{FoldsTo}
use Rattle.resp_wire.specs.Laws.{FrontIsWhole}
use Rattle.key_split.specs.PartModel.{keys_of}
use Rattle.key_split.specs.declared.travel.Told.TheVariants.{Reply}
use Rattle.node_model.specs.Moves.{own_done, release_done}
use Rattle.node_model.specs.Nodes.{ClusterModel, role_of}
use Rattle.node_model.specs.Runs.{deed_for, DoesRun}
use Rattle.node_model.specs.Serving.{deed_at, deed_of, held_of, NodeDoes}
use Rattle.node_model.specs.Store.{put, bulk_of}
use Rattle.node_model.specs.declared.role.Deed.TheVariants.{Executes}
use Rattle.node_model.specs.declared.role.Verdict.TheVariants.{Plain}
use Rattle.turn_laws.specs.Steps.{SystemStep}
use Rattle.turn_laws.specs.Addresses.{LeadsTo, LedEvent}
use Rattle.turn_laws.specs.Sharing.{SharedEvent, SharedSystemStep}
use Rattle.turn_laws.specs.Scripts as script
use Rattle.turn_laws.specs.Scripts.{key, five, ticket, opening, moving}
use Rattle.turn_laws.specs.SharedScripts.{HappensBesideOthers, leads, others_set, sending, story_of_sharing, taking_over, telling}
use Rattle.turn_laws.proofs.OwnEvents.{ours}
use Rattle.turn_laws.proofs.Scenes.{and-then}
use Rattle.turn_laws.proofs.ScriptFacts.{alone, given, given-none, held, in-held, k5, k6, k7, k8, key-moved, read, slot-is}
use Rattle.turn_laws.proofs.ScriptOpening.{s0, starts}
use Rattle.turn_laws.proofs.ScriptReading.{answered, replied, serving, tells, waiting}
use Rattle.turn_laws.proofs.ScriptSharing.{asked, others-execute, sent, told}

-- the second node owns the slot, the first sends to it, and then the key was read
abbrev owned : ClusterModel
owned = own_done k8 1

abbrev taken : ClusterModel
taken = release_done owned 1

abbrev after : ClusterModel
after = record { slots = taken.slots; stores = given ∷ read ∷ [] }

abbrev store_read : Option (List ℕ) → ClusterModel
store_read o = record { slots = taken.slots; stores = given ∷ put held key o ∷ [] }

executes : deed_at taken 1 false script.get Plain ≡ Executes
executes = ap (λ n. deed_of Plain (role_of taken 1 n) false (held_of held (keys_of script.get)) true n) slot-is

does-get : DoesRun (deed_for taken 1 false (script.get ∷ []) Plain) taken 1 (script.get ∷ []) (Reply five ∷ []) after
does-get = alone taken after 1 false script.get (Reply five)
    (subst (λ d. NodeDoes d taken 1 script.get (Reply five) after) (sym executes) (ap bulk_of (sym in-held), ap store_read (sym in-held)))

-- from there on
abbrev rest : List SharedEvent
rest = SharedEvent.Led (LedEvent.OfConnection 0 1 Plain) ∷ map SharedEvent.Ours telling

module _ {C J : Type 0} (port : C) where
  takes-over : FoldsTo SystemStep (waiting {C = C} {J = J} port k6 told) taking_over (waiting port taken told)
  takes-over = (
    waiting port k7 told,
    ((refl, refl), refl),
    (
      waiting port k8 told,
      (((inl refl, slot-is, ap is_some in-held), key-moved), refl),
      (
        waiting port owned told,
        (((refl, λ q e. given-none q), refl), refl),
        (
          waiting port taken told,
          (((refl, λ q e. given-none q), refl), refl),
          refl,
        ),
      ),
    ),
  )

  led : FoldsTo SharedSystemStep (waiting {C = C} {J = J} port taken told) rest (answered port after story_of_sharing)
  led = (
    replied port after told,
    serving port (LeadsTo (waiting {C = C} {J = J} port taken told) 1 Plain) taken after told
        (omega arith, refl, ([], (ticket 0, script.get) ∷ [], Reply five ∷ [], refl, refl, does-get, (refl, tt), refl, refl)),
    ours telling (replied port after told) (answered port after story_of_sharing) (tells port after told),
  )

  pub happens : FrontIsWhole → HappensBesideOthers C J leads story_of_sharing
  happens law = record {
    start = s0 port;
    left = answered port after story_of_sharing;
    begins = starts port;
    goes =
        and-then SharedSystemStep (s0 port) (map SharedEvent.Ours (opening ++ (moving ++ sending))) (waiting port k5 asked) (SharedEvent.Theirs 0 false (others_set ∷ []) ∷ (map SharedEvent.Ours taking_over ++ rest)) (answered port after story_of_sharing)
        (ours (opening ++ (moving ++ sending)) (s0 port) (waiting port k5 asked) (sent port law)) (
          waiting port k6 told,
          (others-execute, refl),
          and-then SharedSystemStep (waiting port k6 told) (map SharedEvent.Ours taking_over) (waiting port taken told) rest (answered port after story_of_sharing)
              (ours taking_over (waiting port k6 told) (waiting port taken told) takes-over) led,
        );
    log = refl;
  }
