-- A request is read: each of its parts arrives in the machine.
use Rattle.std.proofs.Common.{◌≡◌, ◌⊎◌, inl, inr, ⊎_elim, ℕ, suc, ◌+◌, ◌^◌, Bool, true, false, List, [], ◌∷◌, ◌++◌, Some, Result, Ok, Err, refl, sym, ap, ◌∙◌, subst, arith, length, drop, replicate}
use Rattle.std.specs.Prelude.{slice_get, slice_set, All, map, nat_le, if◌then◌else◌}
use Rattle.std.specs.FinMap.{get, insert}
use Rattle.std.proofs.lemmas.List.{append-nil, append_assoc, length-append}
use Rattle.std.proofs.Math.Seq.{drop-append_seam}
use Rattle.key_split.specs.Laws.{PlansArePlain}
use Rattle.key_split.specs.PartModel.{PartModel, HasOneSlot}
use Rattle.key_split.specs.declared.planned.Joining.{Joining}
use Rattle.key_split.specs.declared.planned.PlanFault.{PlanFault}
use Rattle.key_split.specs.declared.planned.Planned.{Planned}
use Rattle.key_split.specs.declared.planned.Planned.TheVariants as planned
use Rattle.key_split.specs.declared.travel.Ended.TheVariants.{Lost}
use Rattle.session_order.specs.PendingReply.{plan_for, owed_by}
use Rattle.session_order.specs.Replies.{parts_of}
use Rattle.session_order.specs.Requests.{Refused}
use Rattle.session_order.specs.RequestReaderModel.{RequestReaderModel, TakesValue}
use Rattle.session_order.specs.SessionModel.{SessionModel}
use Rattle.session_order.specs.Steps.{ReadOutcome, ReadsWords, MayRead, FaultedBy, added, with_incoming, broken_by}
use Rattle.session_order.specs.declared.closing.Broken.{Broken}
use Rattle.session_order.specs.declared.closing.Broken.TheVariants as broken
use Rattle.session_order.specs.declared.closing.Closing.{Closing}
use Rattle.session_order.specs.declared.closing.Closing.TheVariants.{Open, Quit, Faulted}
use Rattle.session_order.specs.declared.fault.SessionFault.{SessionFault}
use Rattle.session_order.specs.declared.fault.SessionFault.TheVariants as fault
use Rattle.session_order.specs.declared.queue.PartStage.{PartStage}
use Rattle.session_order.specs.declared.queue.PartStage.TheVariants.{Waiting, Out, Done}
use Rattle.session_order.specs.declared.replies.PendingReply.{PendingReply}
use Rattle.session_order.specs.declared.replies.PendingReply.TheVariants.{Reply, Parts}
use Rattle.proxy_lanes.specs.Lane.{posted, taken}
use Rattle.proxy_turns.specs.ClientModel.{ClientModel}
use Rattle.proxy_turns.specs.ClientTurn.{ClientContext, Read}
use Rattle.proxy_turns.specs.WorkerModel.{WorkerModel, Did}
use Rattle.world_laws.specs.State.{WorldModel}
use Rattle.world_laws.proofs.Recorded.{set-same}
use Rattle.turn_laws.specs.Walks.{IsSharedWalked}
use Rattle.turn_laws.specs.System.{System, Mark, Arrived, seat_of}
use Rattle.turn_laws.specs.Shadow.{IsShadow, ClientShadow, ticket_at}
use Rattle.turn_laws.specs.Underway.{downs_of}
use Rattle.turn_laws.specs.Steps.{AtWorker, arrivals}
use Rattle.turn_laws.specs.Refines.{Simulates}
use Rattle.turn_laws.proofs.AtWorkers.{Alike}
use Rattle.turn_laws.proofs.Tables.{put-same}
use Rattle.turn_laws.proofs.Ending.{one-of}
use Rattle.turn_laws.proofs.Leading.{Leads, Sits, along, stays, then-leads, sits-put, sits-then, ends-quietly}
use Rattle.turn_laws.proofs.Pushed.{one-arrived}
use Rattle.turn_laws.proofs.Pushing.{pushed, next_of}

-- ---- a number of parts

-- the session with these parts more
abbrev pushes : List PartModel → SessionModel → SessionModel
pushes [] held = held
pushes (part ∷ parts) held = pushes parts (pushed held part)

-- what is left of the session as it was
pushes-is : (parts : List PartModel) (held : SessionModel) → ((pushes parts held).worker ≡ held.worker) × ((pushes parts held).client ≡ held.client) × ((pushes parts held).first ≡ held.first)
    × ((pushes parts held).stages ≡ held.stages ++ map Waiting parts) × ((pushes parts held).ends ≡ held.ends ++ replicate (length parts) Lost) × ((pushes parts held).closing ≡ held.closing)
pushes-is [] held = (refl, refl, refl, sym (append-nil held.stages), sym (append-nil held.ends), refl)
pushes-is (part ∷ parts) held =
    let r = pushes-is parts (pushed held part) in
    (r.0, r.1, r.2, r.3 ∙ append_assoc held.stages (Waiting part ∷ []) (map Waiting parts), r.4 ∙ append_assoc held.ends (Lost ∷ []) (replicate (length parts) Lost), r.5)

arrivals-same : (held : SessionModel) (part : PartModel) (n : ℕ) (stages : List PartStage) → arrivals (pushed held part) n stages ≡ arrivals held n stages
arrivals-same held part n [] = refl
arrivals-same held part n (Waiting other ∷ stages) = ap (λ ms. Arrived (ticket_at held n) other ∷ ms) (arrivals-same held part (suc n) stages)
arrivals-same held part n (Out slot ∷ stages) = arrivals-same held part (suc n) stages
arrivals-same held part n (Done ∷ stages) = arrivals-same held part (suc n) stages

next-more : (held : SessionModel) (part : PartModel) → next_of (pushed held part) ≡ suc (next_of held)
next-more held part = omega (arith, length-append held.stages (Waiting part ∷ []))

module _ {C J : Type 0} where
  arrived-all : (parts : List PartModel) (s : System C J) (w : WorldModel) → IsShadow s w → IsSharedWalked w → (k number : ℕ) (model : WorkerModel C J) (client : ClientModel C)
      → slice_get s.workers k ≡ Some model → get model.clients number ≡ Some client → (parts ≡ []) ⊎ (client.gone ≡ false) → All HasOneSlot parts
      → (model' : WorkerModel C J) × Sits model number model' (record client { session = pushes parts client.session }) × Leads s w k model' (arrivals client.session (next_of client.session) (map Waiting parts))
  arrived-all [] s w h walked k number model client at got here slots = (model, (refl, refl, refl, refl, got, λ q ne. refl), stays s w k model h walked at)
  arrived-all (part ∷ parts) s w h walked k number model client at got here slots =
      let there : client.gone ≡ false = ⊎_elim (λ (z : part ∷ parts ≡ []). absurd (some-parts part parts z)) (λ (z : client.gone ≡ false). z) here in
      let held : SessionModel = client.session in
      let client2 : ClientModel C = record client { session = pushed held part } in
      let model2 : WorkerModel C J = record model { clients = insert model.clients number client2 } in
      let mark : Mark = Arrived (ticket_at held (next_of held)) part in
      let one : Leads s w k model2 (mark ∷ []) = one-arrived s w h walked k number model client at got there part (slots 0 part (omega arith)) in
      let rest = arrived-all parts (along s k model2 (mark ∷ [])) one.1 one.4 one.3 k number model2 client2 (set-same s.workers k model model2 at) (put-same model.clients number client2) (inr there) (λ i p lt. slots (suc i) p (omega (arith, lt))) in
      let marks : mark ∷ arrivals (pushed held part) (next_of (pushed held part)) (map Waiting parts) ≡ arrivals held (next_of held) (map Waiting (part ∷ parts)) =
      ap (λ ms. mark ∷ ms) (arrivals-same held part (next_of (pushed held part)) (map Waiting parts) ∙ ap (λ n. arrivals held n (map Waiting parts)) (next-more held part)) in (
        rest.0,
        sits-then model model2 rest.0 number client2 (record client { session = pushes parts (pushed held part) }) (sits-put model number client2) rest.1,
        subst (Leads s w k rest.0) marks (then-leads s w k model2 rest.0 (mark ∷ []) (arrivals (pushed held part) (next_of (pushed held part)) (map Waiting parts)) one rest.2),
      )
    where
      some-parts : (p : PartModel) (ps : List PartModel) → p ∷ ps ≡ [] → ⊥
      some-parts p ps e = cc

-- ---- what reading does to a session

-- these parts stand behind the others, and each has a place for its end
abbrev Adds : SessionModel → SessionModel → List PartModel → Type 0
Adds old new parts =
    (new.worker ≡ old.worker) × (new.client ≡ old.client) × (new.first ≡ old.first) × (new.stages ≡ old.stages ++ map Waiting parts)
    × (new.ends ≡ old.ends ++ replicate (length parts) Lost) × (parts_of new.requests ≡ parts_of old.requests + length parts)

parts-append : (requests : List PendingReply) (one : PendingReply) → parts_of (requests ++ one ∷ []) ≡ parts_of requests + parts_of (one ∷ [])
parts-append [] one = omega arith
parts-append (Reply value ∷ requests) one = parts-append requests one
parts-append (Parts how n ∷ requests) one = omega (arith, parts-append requests one)

ok-is : (a b : SessionModel) → ◌≡◌ {A = Result SessionModel Broken} (Ok a) (Ok b) → b ≡ a
ok-is a b e = let same : a ≡ b = cc in sym same

err-ok : (why : Broken) (b : SessionModel) → ◌≡◌ {A = Result SessionModel Broken} (Err why) (Ok b) → ⊥
err-ok why b e = cc

-- a request without parts
adds-reply : (old new : SessionModel) (requests : List PendingReply) (closing : Closing) (incoming : RequestReaderModel) → parts_of requests ≡ parts_of old.requests
    → new ≡ record old { requests = requests; closing = closing; incoming = incoming } → Adds old new []
adds-reply old new requests closing incoming same e = (
  ap (λ (x : SessionModel). x.worker) e,
  ap (λ (x : SessionModel). x.client) e,
  ap (λ (x : SessionModel). x.first) e,
  ap (λ (x : SessionModel). x.stages) e ∙ sym (append-nil old.stages),
  ap (λ (x : SessionModel). x.ends) e ∙ sym (append-nil old.ends),
  ap (λ (x : SessionModel). parts_of x.requests) e ∙ omega (arith, same),
)

abbrev AddsSome : SessionModel → SessionModel → Type 0
AddsSome old new = (parts : List PartModel) × Adds old new parts × All HasOneSlot parts

none-slotted : All HasOneSlot []
none-slotted i p lt = absurd (omega (arith, lt))

adds : (old : SessionModel) (plan : Result Planned PlanFault) (new : SessionModel) → ((how : Joining) (parts : List PartModel) → plan ≡ Ok (planned.Parts how parts) → All HasOneSlot parts) → added old plan ≡ Ok new → AddsSome old new
adds old (Err why) new slots e = ([], adds-reply old new (old.requests ++ owed_by (Err why) ∷ []) old.closing old.incoming (let m = parts-append old.requests (owed_by (Err why)) in omega (arith, m)) (ok-is _ new e), none-slotted)
adds old (Ok (planned.Local value)) new slots e = ([], adds-reply old new (old.requests ++ owed_by (Ok (planned.Local value)) ∷ []) old.closing old.incoming (let m = parts-append old.requests (owed_by (Ok (planned.Local value))) in omega (arith, m)) (ok-is _ new e), none-slotted)
adds old (Ok planned.Close) new slots e = ([], adds-reply old new (old.requests ++ owed_by (Ok planned.Close) ∷ []) Quit old.incoming (let m = parts-append old.requests (owed_by (Ok planned.Close)) in omega (arith, m)) (ok-is _ new e), none-slotted)
adds old (Ok (planned.Parts how parts)) new slots e = go (nat_le (old.first + length old.stages + length parts) (2 ^ 48)) e
  where
    go : (b : Bool) → ◌≡◌ {A = Result SessionModel Broken} (if b then Ok (record old { requests = old.requests ++ Parts how (length parts) ∷ []; stages = old.stages ++ map Waiting parts; ends = old.ends ++ replicate (length parts) Lost }) else Err broken.NotRequest) (Ok new) → AddsSome old new
    go true e =
        let is : new ≡ record old { requests = old.requests ++ Parts how (length parts) ∷ []; stages = old.stages ++ map Waiting parts; ends = old.ends ++ replicate (length parts) Lost } = ok-is _ new e in
        let m = parts-append old.requests (Parts how (length parts)) in (
          parts,
          (
            ap (λ (x : SessionModel). x.worker) is,
            ap (λ (x : SessionModel). x.client) is,
            ap (λ (x : SessionModel). x.first) is,
            ap (λ (x : SessionModel). x.stages) is,
            ap (λ (x : SessionModel). x.ends) is,
            ap (λ (x : SessionModel). parts_of x.requests) is ∙ omega (arith, m),
          ),
          slots how parts refl,
        )
    go false e = absurd (err-ok broken.NotRequest new e)

open-quit : (c : Closing) → c ≡ Open → c ≡ Quit → ⊥
open-quit c p q = cc

-- some parts are read only where the session is open, and what was closed stays so
abbrev Reading : SessionModel → SessionModel → Type 0
Reading old new =
    (parts : List PartModel) × Adds old new parts × All HasOneSlot parts × ((parts ≡ []) ⊎ (old.closing ≡ Open)) × (old.closing ≡ Quit → new.closing ≡ Quit)

reads-none : (old new : SessionModel) (closing : Closing) (incoming : RequestReaderModel) → (old.closing ≡ Quit → closing ≡ Quit) → new ≡ record old { closing = closing; incoming = incoming } → Reading old new
reads-none old new closing incoming quit e =
    ([], adds-reply old new old.requests closing incoming refl e, none-slotted, inl refl, λ q. ap (λ (x : SessionModel). x.closing) e ∙ quit q)

module _ (plain : PlansArePlain) where
  planned-slots : (words : List (List ℕ)) (how : Joining) (parts : List PartModel) → plan_for words ≡ Ok (planned.Parts how parts) → All HasOneSlot parts
  unfolding plan_for
  planned-slots words how parts e i p lt = (plain words how parts e i p lt).one_slot

  reading : (old new : SessionModel) (result : Result Bool SessionFault) → ReadOutcome old result new → Reading old new
  reading old new (Ok true) h = ⊎_elim
      (λ (x : (words : List (List ℕ)) × (rest : RequestReaderModel) × ReadsWords old words (Ok new) rest).
      let a = adds (with_incoming old x.1) (plan_for x.0) new (planned-slots x.0) x.2.1 in
      (a.0, a.1, a.2, inr h.0.0, λ q. absurd (open-quit old.closing h.0.0 q)))
      (λ (x : _ × (new ≡ with_incoming old new.incoming)). reads-none old new old.closing new.incoming (λ q. q) x.1)
      h.1
  reading old new (Ok false) h = reads-none old new old.closing old.incoming (λ q. q) h.0
  reading old new (Err fault.NoMemory) h = reads-none old new old.closing new.incoming (λ q. q) h.2
  reading old new (Err (fault.Wire why)) h = ⊎_elim
      (λ (x : FaultedBy (broken.Wire why) old.closing × (new ≡ old)). reads-none old new old.closing old.incoming (λ q. q) x.1)
      (λ (x : MayRead old × _ × (new ≡ broken_by (with_incoming old new.incoming) (broken.Wire why))). reads-none old new (Faulted (broken.Wire why) true) new.incoming (λ q. absurd (open-quit old.closing x.0.0 q)) x.2)
      h
  reading old new (Err fault.NotRequest) h = ⊎_elim
      (λ (x : FaultedBy broken.NotRequest old.closing × (new ≡ old)). reads-none old new old.closing old.incoming (λ q. q) x.1)
      (λ x. ⊎_elim
      (λ (y : MayRead old × TakesValue old.incoming Refused new.incoming × (new ≡ broken_by (with_incoming old new.incoming) broken.NotRequest)).
      reads-none old new (Faulted broken.NotRequest true) new.incoming (λ q. absurd (open-quit old.closing y.0.0 q)) y.2)
      (λ (y : MayRead old × (words : List (List ℕ)) × (rest : RequestReaderModel) × ReadsWords old words (Err broken.NotRequest) rest × (new ≡ broken_by (with_incoming old rest) broken.NotRequest)).
      reads-none old new (Faulted broken.NotRequest true) y.2 (λ q. absurd (open-quit old.closing y.0.0 q)) y.4)
      x)
      h

-- ---- the step

still-here : (gone : Bool) (parts : List PartModel) (closing : Closing) → (gone ≡ true → closing ≡ Quit) → (parts ≡ []) ⊎ (closing ≡ Open) → (parts ≡ []) ⊎ (gone ≡ false)
still-here true parts closing quit h = ⊎_elim (λ (x : parts ≡ []). inl x) (λ (x : closing ≡ Open). absurd (open-quit closing x (quit refl))) h
still-here false parts closing quit h = inr refl

module _ (C J : Type 0) (plain : PlansArePlain) where
  pub read : (k number : ℕ) (result : Result Bool SessionFault) → Simulates C J (AtWorker k (Did number (Read result)))
  read k number result s s' w h walked on =
      let d = on.does in
      let client : ClientModel C = d.0 in
      let client' : ClientModel C = d.1 in
      let held : SessionModel = client.session in
      let r = reading plain held client'.session result d.3.0 in
      let parts : List PartModel = r.0 in
      let a = r.1 in
      let shadow : ClientShadow (downs_of s) k number client w.commands = (h.clients k on.old number client on.at d.2).1 in
      let all = arrived-all parts s w h walked k number on.old client on.at d.2 (still-here client.gone parts held.closing shadow.quit r.3) r.2 in
      let after : ClientModel C = record client { session = pushes parts held } in
      let is = pushes-is parts held in
      let marks : List Mark = arrivals held (next_of held) (map Waiting parts) in
      let now : client' ≡ record client { session = client'.session } = ap (λ (x : ClientContext C). x.client) d.3.1 in
      let last : ClientShadow _ k number after all.2.1.commands = (all.2.4.clients k all.0 number after (set-same s.workers k on.old all.0 on.at) all.1.4).1 in
      let alike : Alike after client' = record {
        client = a.1 ∙ sym is.1;
        worker = a.0 ∙ sym is.0;
        first = a.2 ∙ sym is.2;
        stages = a.3 ∙ sym is.3;
        ends = a.4 ∙ sym is.4;
        owed = a.5 ∙ ap (λ n. n + length parts) shadow.owed ∙ sym (length-append held.stages (map Waiting parts) ∙ ap (λ n. length held.stages + n) (as-many parts)) ∙ ap length (sym is.3) ∙ sym last.owed;
        commands = ap (λ (x : ClientModel C). x.commands) now;
        gone = ap (λ (x : ClientModel C). x.gone) now;
        quit = λ e. r.4 (sym is.5 ∙ e);
      } in
      let e = d.4 in
      let leads : Leads s w k on.new marks = ends-quietly s w k on.old all.0 on.new number after client' marks on.at all.1 all.2 (ap seat_of e) (ap (λ (x : WorkerModel C J). x.newest) e)
      (ap (λ (x : ClientContext C). posted x.outlet) d.3.1) (ap (λ (x : WorkerModel C J). taken x.inlet) e) (ap (λ (x : WorkerModel C J). x.clients) e) alike in
      let was : on.seen.0 ≡ client = one-of (get (on.old).clients number) on.seen.0 client on.seen.2 d.2 in
      let becomes : on.seen.1 ≡ client' = one-of (get (on.new).clients number) on.seen.1 client' on.seen.3 (ap (λ (x : WorkerModel C J). get x.clients number) e ∙ put-same (on.old).clients number client') in
      let behind : drop (length held.stages) client'.session.stages ≡ map Waiting parts = ap (drop (length held.stages)) a.3 ∙ drop-append_seam held.stages (map Waiting parts) in
      let seen : on.marks ≡ marks = on.seen.4 ∙ (λ i. arrivals (was i).session ((was i).session.first + length (was i).session.stages) (drop (length (was i).session.stages) (becomes i).session.stages)) ∙ ap (arrivals held (next_of held)) behind in
      let same : s' ≡ along s k on.new marks = on.leaves ∙ (λ i. record s { workers = slice_set s.workers k on.new; log = s.log ++ seen i }) in
      (leads.0, leads.1, leads.2, subst (λ z. IsShadow z leads.1) (sym same) leads.4)
    where
      as-many : (parts : List PartModel) → length (map Waiting parts) ≡ length parts
      as-many [] = refl
      as-many (p ∷ ps) = ap suc (as-many ps)
