-- The story in bytes: its premises hold together, and so does the headline.
use Rattle.std.proofs.Common.{◌≡◌, ℕ, zero, suc, Bool, true, false, List, [], ◌∷◌, ◌++◌, Some, None, map, refl, sym, ap, ◌∙◌, arith}
use Rattle.std.specs.Prelude.{Option, codes, cond, replicate}
use Rattle.std.specs.List.{FoldsTo}
use Rattle.std.specs.FinMap.{get, insert, remove, get-empty, get-insert, get-remove, same_map, slice_cmp-IsAntisymmetric, nat_cmp-IsAntisymmetric}
use Rattle.std.specs.Ordering.{nat_cmp, eq_by_cmp}
use Rattle.std.specs.Cmp.Lexicographic.{slice_cmp, nat_list_cmp_total}
use Rattle.std.proofs.lemmas.List.Elements.{All-cons, All-nil}
use Rattle.resp_wire.specs.Laws.{FrontIsWhole}
use Rattle.slot_hash.specs.Slot.{slot_of}
use Rattle.key_split.specs.Names.{name_of}
use Rattle.key_split.specs.PartModel.{HasOneSlot, keys_of}
use Rattle.key_split.specs.declared.travel.Told.TheVariants.{Reply}
use Rattle.node_model.specs.History.{EntryModel}
use Rattle.node_model.specs.Nodes.{ClusterModel, at, role_of, standing_at, store_at}
use Rattle.node_model.specs.Standings.{SlotStandingModel, settled_at}
use Rattle.node_model.specs.Store.{StoreModel, bulk_of}
use Rattle.node_model.specs.Runs.{deed_for}
use Rattle.node_model.specs.Serving.{deed_at, deed_of, held_of}
use Rattle.node_model.specs.declared.role.Deed.TheVariants.{Executes}
use Rattle.node_model.specs.declared.role.Verdict.TheVariants.{Plain}
use Rattle.session_order.specs.PendingReply.{plan_for}
use Rattle.session_order.specs.Replies.{joined, spelling}
use Rattle.world_laws.specs.Headline.{IsSound}
use Rattle.world_laws.specs.Homes.{home_in}
use Rattle.world_laws.proofs.Alone.{does_alone}
use Rattle.shared_laws.specs.Shared.{AskIsTrue, IsTheirs, OthersExecute}
use Rattle.turn_laws.specs.Shadow.{entry_at}
use Rattle.turn_laws.specs.System.{System, Mark}
use Rattle.turn_laws.specs.System as seen
use Rattle.turn_laws.specs.Steps.{SystemEvent, SystemStep}
use Rattle.turn_laws.specs.Sharing.{SharedSystemStep}
use Rattle.turn_laws.specs.Refines.{IsStart}
use Rattle.turn_laws.specs.Pipelines.{Pipeline}
use Rattle.turn_laws.specs.BytesHeadline.{HeadlineOfBytes}
use Rattle.turn_laws.specs.Scripts.{key, up_to_asking}
use Rattle.turn_laws.specs.ByteStory.{BytesHappen, IsOwedMore, byte_story, came, cut_off, half, marks_of_bytes, moved_on, others_take, reading_slowly}
use Rattle.turn_laws.proofs.CutOff.{cuts, reads-slowly, s8, s9, s10, settles}
use Rattle.turn_laws.proofs.Framed.{framed, framed-steps}
use Rattle.turn_laws.proofs.OwnEvents.{ours}
use Rattle.turn_laws.proofs.Scenes.{and-then}
use Rattle.turn_laws.proofs.ScriptFacts.{all-same, get-bytes, get-data, k0, none, set-bytes, set-data, slot-is, spells-get, spells-set}
use Rattle.turn_laws.proofs.ScriptGetting.{begun, s7}
use Rattle.turn_laws.proofs.ScriptOpening.{s0, starts}

-- ---- the nodes at the start: the first holds the key

abbrev first : StoreModel
first = insert none key (codes "4")

abbrev k : ClusterModel
k = record { slots = replicate 16384 (settled_at 0); stores = first ∷ none ∷ [] }

in-first : get first key ≡ Some (codes "4")
in-first = get-insert nat_list_cmp_total none key (codes "4") key

nothing-in : (q : List ℕ) → get none q ≡ None
nothing-in q = get-empty (slice_cmp nat_cmp) q

settled : (slot : ℕ) → standing_at k slot ≡ settled_at 0
settled slot = all-same 16384 slot (settled_at 0)

none-some : {X : Type 0} (held : Option X) (x : X) → held ≡ None → held ≡ Some x → ⊥
none-some held x p q = cc

-- only the first holds anything
at-first : (q value : List ℕ) (node : ℕ) → at k node q ≡ Some value → (node ≡ 0) × (get first q ≡ Some value)
at-first q value zero is = (refl, is)
at-first q value (suc zero) is = absurd (none-some (get none q) value (nothing-in q) is)
at-first q value (suc (suc node)) is = absurd (none-some (get none q) value (nothing-in q) is)

sound : IsSound first k
sound = record {
  apart = λ slot moving. absurd (moving (ap (λ (s : SlotStandingModel). s.phase) (settled slot)));
  targets = λ slot moving. absurd (moving (ap (λ (s : SlotStandingModel). s.phase) (settled slot)));
  placed = λ q value node is. (at-first q value node is).0 ∙ sym (ap (λ (s : SlotStandingModel). home_in s (λ n. at k n q)) (settled (slot_of q)));
  union = λ q value. ((λ is. (0, is)), (λ there. (at-first q value there.0 there.1).1));
}

-- ---- others take what it holds

gone : (b : Bool) (o : Option (List ℕ)) (v : Option (List ℕ)) → o ≡ None → None ≡ cond b None (cond b v o)
gone true o v e = refl
gone false o v e = sym e

emptied-at : (q : List ℕ) → get none q ≡ get (remove first key) q
emptied-at q =
    nothing-in q ∙ gone (eq_by_cmp (slice_cmp nat_cmp) q key) (get none q) (Some (codes "4")) (nothing-in q)
    ∙ sym (get-remove nat_list_cmp_total first key q ∙ ap (cond (eq_by_cmp (slice_cmp nat_cmp) q key) None) (get-insert nat_list_cmp_total none key (codes "4") q))

emptied : none ≡ remove first key
emptied = same_map nat_list_cmp_total (slice_cmp-IsAntisymmetric nat_cmp-IsAntisymmetric) none (remove first key) emptied-at

take-slot : HasOneSlot others_take.part
take-slot zero d lt = refl
take-slot (suc n) d lt = absurd (omega arith)

theirs : (moment : ℕ) → IsTheirs 1 moment 9 (slot_of key) (entry_at moment others_take)
theirs moment = record { theirs = λ x. absurd (cc); client_is = refl; slot_is = refl; one_slot = take-slot; now = refl }

asks : AskIsTrue k 0 false others_take.part
asks a to = absurd (cc)

owns : deed_at k 0 false others_take.part Plain ≡ Executes
owns = ap (λ n. deed_of Plain (role_of k 0 n) false (held_of (store_at k 0) (keys_of others_take.part)) true n) slot-is

executes : deed_for k 0 false (others_take.part ∷ []) Plain ≡ Executes
executes = (does_alone k k0 0 false others_take.part Plain (deed_at k 0 false others_take.part Plain) (Reply others_take.value)).0 ∙ owns

others-execute : (moment : ℕ) → OthersExecute 1 moment k 0 false (map (entry_at moment) (others_take ∷ [])) k0
others-execute moment = (
  9,
  slot_of key,
  All-cons (IsTheirs 1 moment 9 (slot_of key)) (entry_at moment others_take) [] (theirs moment) (All-nil (IsTheirs 1 moment 9 (slot_of key))),
  omega arith,
  All-cons (λ (e : EntryModel). AskIsTrue k 0 false e.part) (entry_at moment others_take) [] asks (All-nil (λ (e : EntryModel). AskIsTrue k 0 false e.part)),
  executes,
  (ap bulk_of (sym in-first), tt),
  λ i. record k { stores = emptied i ∷ none ∷ [] },
)

abbrev took : List Mark
took = seen.Executed (others_take ∷ []) ∷ []

-- ---- what the client is owed

no-fault : {P : Type 0} → false ≡ true → P
no-fault e = absurd (cc)

abbrev pipeline : Pipeline came
pipeline = record {
  values = set-data ∷ get-data ∷ [];
  text = set-bytes ++ get-bytes;
  rest = half;
  spelled = (set-bytes, get-bytes, refl, spells-set, (get-bytes, [], refl, spells-get, refl));
  are = refl;
  faulted = false;
  fault = no-fault;
}

owed : IsOwedMore marks_of_bytes
unfolding plan_for name_of joined spelling
owed = (pipeline, codes ", outcome unknown\r\n", (λ e. absurd (cc)), refl)

-- ---- the whole

abbrev rest-of-it : List SystemEvent
rest-of-it = cut_off ++ (reading_slowly ++ moved_on)

module _ (C J : Type 0) (port : C) where
  goes-on : FrontIsWhole → FoldsTo SystemStep (s0 {C = C} {J = J} port) (up_to_asking ++ rest-of-it) (s10 port)
  goes-on law =
      and-then SystemStep (s0 port) up_to_asking (s7 port) rest-of-it (s10 port) (begun port law)
      (and-then SystemStep (s7 port) cut_off (s8 port) (reading_slowly ++ moved_on) (s10 port) (cuts port)
      (and-then SystemStep (s8 port) reading_slowly (s9 port) moved_on (s10 port) (reads-slowly port) (settles port)))

  abbrev start : System C J
  start = record (s0 port) { cluster = k; initial = first }

  abbrev left : System C J
  left = framed first took (s10 port)

  begins : IsStart start
  begins =
      let new = starts {C = C} {J = J} port in
      record {
        idle = new.idle;
        ups = new.ups;
        sides = new.sides;
        up_steps = new.up_steps;
        down_steps = new.down_steps;
        unfinished = new.unfinished;
        pending_runs = refl;
        backends = refl;
        each = refl;
        apart = new.apart;
        room = new.room;
        table = new.table;
        seed = new.seed;
        published = refl;
        closed = refl;
        log = refl;
        sound = sound;
      }

  goes : FrontIsWhole → FoldsTo SharedSystemStep start byte_story left
  goes law = (
    framed first took (s0 port),
    (others-execute, refl),
    ours (up_to_asking ++ rest-of-it) (framed first took (s0 port)) left (framed-steps first took (up_to_asking ++ rest-of-it) (s0 port) (s10 port) (goes-on law)),
  )

  pub bytes-happen : HeadlineOfBytes C J → FrontIsWhole → BytesHappen C J
  bytes-happen headline whole = record {
    start = start;
    left = left;
    begins = begins;
    goes = goes whole;
    holds = headline start left byte_story begins (goes whole);
    log = refl;
    held = in-first;
    before = (refl, refl);
    after = (refl, refl);
    refused = (48, refl);
    broken = (0, refl);
    sent = refl;
    slow = owed;
  }
