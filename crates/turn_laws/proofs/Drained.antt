-- Replies are drained: the machine answers each of their parts.
use Rattle.std.proofs.Common.{◌≡◌, ◌⊎◌, ⊎_elim, ℕ, zero, suc, ◌+◌, ◌-◌, ◌<◌, ◌≤◌, ◌&&◌, Bool, true, false, List, [], ◌∷◌, ◌++◌, Some, None, refl, sym, ap, ◌∙◌, subst, arith, length, drop}
use Rattle.std.specs.Prelude.{slice_get, slice_set, take}
use Rattle.std.specs.FinMap.{get, insert}
use Rattle.key_split.specs.declared.travel.Ended.{Ended}
use Rattle.session_order.specs.SessionModel.{SessionModel}
use Rattle.session_order.specs.declared.queue.PartStage.{PartStage}
use Rattle.session_order.specs.declared.queue.PartStage.TheVariants.{Done}
use Rattle.proxy_turns.specs.ClientModel.{ClientModel}
use Rattle.proxy_turns.specs.ClientTurn.{ClientContext, Drained}
use Rattle.proxy_turns.specs.WorkerModel.{WorkerModel, Did}
use Rattle.world_laws.specs.State.{WorldModel}
use Rattle.world_laws.proofs.Recorded.{set-same}
use Rattle.turn_laws.specs.Walks.{IsSharedWalked}
use Rattle.turn_laws.specs.System.{System, Mark, Answered, seat_of}
use Rattle.turn_laws.specs.Shadow.{IsShadow, ClientShadow, ticket_at}
use Rattle.turn_laws.specs.Underway.{downs_of}
use Rattle.turn_laws.specs.Steps.{AtWorker, answers}
use Rattle.turn_laws.specs.Refines.{Simulates}
use Rattle.turn_laws.proofs.Frames.{beside}
use Rattle.turn_laws.proofs.Elements.{nothing-there}
use Rattle.turn_laws.proofs.Tables.{put-same}
use Rattle.turn_laws.proofs.Leading.{Leads, Sits, along, stays, then-leads, sits-put, sits-then, ends-quietly}
use Rattle.turn_laws.proofs.Ending.{one-of}
use Rattle.turn_laws.proofs.Popping.{popped, drop-one, on}
use Rattle.std.specs.Prelude.{Option, nat_le, if◌then◌else◌}
use Rattle.std.specs.List.{list_all}
use Rattle.resp_wire.specs.declared.value.Value.{Value}
use Rattle.session_order.specs.Replies.{parts_of, replied, reply_of, joined, said, without}
use Rattle.session_order.specs.Turn.{is_done}
use Rattle.session_order.specs.declared.closing.Closing.{Closing}
use Rattle.session_order.specs.declared.closing.Closing.TheVariants.{Quit}
use Rattle.session_order.specs.declared.replies.PendingReply.{PendingReply}
use Rattle.session_order.specs.declared.replies.PendingReply.TheVariants.{Reply, Parts}
use Rattle.session_order.specs.declared.queue.PartStage.TheVariants.{Waiting, Out}
use Rattle.std.proofs.lemmas.List.{length-drop}
use Rattle.proxy_lanes.specs.Lane.{posted, taken}
use Rattle.turn_laws.proofs.AtWorkers.{Alike}
use Rattle.turn_laws.proofs.Popped.{one-answered}

-- the session without its first parts
abbrev pub pops : ℕ → SessionModel → SessionModel
pops zero held = held
pops (suc m) held = pops m (popped held)

-- whose session it is does not change what is seen
answers-same : (held : SessionModel) (n : ℕ) (ends : List Ended) → answers (popped held) n ends ≡ answers held n ends
answers-same held n [] = refl
answers-same held n (end ∷ ends) = ap (λ ms. Answered (ticket_at held n) end ∷ ms) (answers-same held (suc n) ends)

first-mark : (held : SessionModel) (m n : ℕ) (end : Ended) (ends : List Ended) → slice_get ends 0 ≡ Some end
    → Answered (ticket_at held n) end ∷ answers (popped held) (suc n) (take m (drop 1 ends)) ≡ answers held n (take (suc m) ends)
first-mark held m n end [] e = absurd (nothing-there 0 end e)
first-mark held m n end (other ∷ ends) e =
    let same : other ≡ end = one-of (Some other) other end refl e in
    (λ i. Answered (ticket_at held n) (sym same i) ∷ answers-same held (suc n) (take m ends) i)

module _ {C J : Type 0} where
  answered-all : (m : ℕ) (s : System C J) (w : WorldModel) → IsShadow s w → IsSharedWalked w → (k number : ℕ) (model : WorkerModel C J) (client : ClientModel C)
      → slice_get s.workers k ≡ Some model → get model.clients number ≡ Some client → client.gone ≡ false
      → ((i : ℕ) → i < m → slice_get client.session.stages i ≡ Some Done)
      → (model' : WorkerModel C J) × Sits model number model' (record client { session = pops m client.session }) × Leads s w k model' (answers client.session client.session.first (take m client.session.ends))
  answered-all zero s w h walked k number model client at got here done = (model, (refl, refl, refl, refl, got, λ q ne. refl), stays s w k model h walked at)
  answered-all (suc m) s w h walked k number model client at got here done =
      let shadow : ClientShadow (downs_of s) k number client w.commands = (h.clients k model number client at got).1 in
      let is-done : slice_get client.session.stages 0 ≡ Some Done = done 0 (omega arith) in
      let its-end = beside client.session.ends client.session.stages 0 Done shadow.ends is-done in
      let model2 : WorkerModel C J = record model { clients = insert model.clients number (record client { session = popped client.session }) } in
      let one : Leads s w k model2 (Answered (ticket_at client.session client.session.first) its-end.0 ∷ []) = one-answered s w h walked k number model client at got here its-end.0 is-done its-end.1 in
      let s2 : System C J = along s k model2 (Answered (ticket_at client.session client.session.first) its-end.0 ∷ []) in
      let rest = answered-all m s2 one.1 one.4 one.3 k number model2 (record client { session = popped client.session }) (set-same s.workers k model model2 at) (put-same model.clients number (record client { session = popped client.session })) here
      (λ i lt. drop-one client.session.stages i ∙ done (suc i) (omega (arith, lt))) in (
        rest.0,
        sits-then model model2 rest.0 number (record client { session = popped client.session }) (record client { session = pops m (popped client.session) }) (sits-put model number (record client { session = popped client.session })) rest.1,
        subst (Leads s w k rest.0) (first-mark client.session m client.session.first its-end.0 client.session.ends its-end.1)
            (then-leads s w k model2 rest.0 (Answered (ticket_at client.session client.session.first) its-end.0 ∷ []) (answers (popped client.session) (suc client.session.first) (take m (drop 1 client.session.ends))) one rest.2),
      )

-- ---- the step

drop-at : {X : Type 0} (n : ℕ) (xs : List X) (m : ℕ) → slice_get (drop n xs) m ≡ slice_get xs (n + m)
drop-at zero xs m = let e : m ≡ 0 + m = omega arith in ap (slice_get xs) e
drop-at (suc n) [] m = refl
drop-at (suc n) (x ∷ xs) m = let e : suc (n + m) ≡ suc n + m = omega arith in drop-at n xs m ∙ ap (slice_get (x ∷ xs)) e

drop-more : {X : Type 0} (m : ℕ) (xs : List X) → drop m (drop 1 xs) ≡ drop (suc m) xs
drop-more zero [] = refl
drop-more (suc m) [] = refl
drop-more m (x ∷ xs) = refl

-- what is left of a session
pops-is : (m : ℕ) (held : SessionModel) → ((pops m held).worker ≡ held.worker) × ((pops m held).client ≡ held.client) × ((pops m held).first ≡ held.first + m)
    × ((pops m held).stages ≡ drop m held.stages) × ((pops m held).ends ≡ drop m held.ends) × ((pops m held).closing ≡ held.closing)
pops-is zero held = (refl, refl, omega arith, refl, refl, refl)
pops-is (suc m) held =
    let r = pops-is m (popped held) in
    (r.0, r.1, r.2 ∙ omega arith, r.3 ∙ drop-more m held.stages, r.4 ∙ drop-more m held.ends, r.5)

parts-split : (count : ℕ) (requests : List PendingReply) → parts_of requests ≡ parts_of (take count requests) + parts_of (drop count requests)
parts-split zero requests = omega arith
parts-split (suc count) [] = refl
parts-split (suc count) (Reply value ∷ requests) = parts-split count requests
parts-split (suc count) (Parts how n ∷ requests) = omega (arith, parts-split count requests)

done-stage : (stage : PartStage) → is_done stage ≡ true → stage ≡ Done
done-stage (Waiting part) e = absurd (cc)
done-stage (Out slot) e = absurd (cc)
done-stage Done e = refl

both : (a b : Bool) → (a && b) ≡ true → (a ≡ true) × (b ≡ true)
both true b e = (refl, e)
both false b e = absurd (cc)

-- each of those that are all done is
each-done : (n : ℕ) (stages : List PartStage) (i : ℕ) → list_all is_done (take n stages) ≡ true → i < n → i < length stages → slice_get stages i ≡ Some Done
each-done zero stages i e lt short = absurd (omega (arith, lt))
each-done (suc n) [] i e lt short = absurd (omega (arith, short))
each-done (suc n) (stage ∷ stages) zero e lt short = ap Some (done-stage stage (both (is_done stage) (list_all is_done (take n stages)) e).0)
each-done (suc n) (stage ∷ stages) (suc i) e lt short = each-done n stages i (both (is_done stage) (list_all is_done (take n stages)) e).1 (omega (arith, lt)) (omega (arith, short))

abbrev counts_of : Option (Value × ℕ) → (Value × ℕ → ℕ × ℕ) → ℕ × ℕ
counts_of o G = elim o [ Some reply ↦ G reply | None ↦ (0, 0) ]

first-replied : (o : Option (Value × ℕ)) (G : Value × ℕ → ℕ × ℕ) (c : ℕ) → suc c ≤ (counts_of o G).0 → (reply : Value × ℕ) × (o ≡ Some reply) × (suc c ≤ (G reply).0)
first-replied None G c le = absurd (omega (arith, le))
first-replied (Some reply) G c le = (reply, refl, le)

when-some : (b : Bool) (v reply : Value × ℕ) → (if b then Some v else None) ≡ Some reply → (b ≡ true) × (reply ≡ v)
when-some true v reply e = (refl, (let one : Some v ≡ Some reply = e in sym (one-of (Some v) v reply refl one)))
when-some false v reply e = absurd (cc)

-- the parts of the requests that have their reply are done
done-first : (count : ℕ) (requests : List PendingReply) (stages : List PartStage) (ends : List Ended) → count ≤ (replied requests stages ends).0
    → (i : ℕ) → i < parts_of (take count requests) → i < length stages → slice_get stages i ≡ Some Done
done-first zero requests stages ends le i lt short = absurd (omega (arith, lt))
done-first (suc count) [] stages ends le i lt short = absurd (omega (arith, lt))
done-first (suc count) (Reply value ∷ requests) stages ends le i lt short = done-first count requests stages ends (omega (arith, le)) i lt short
done-first (suc count) (Parts how n ∷ requests) stages ends le i lt short =
    let r = first-replied (reply_of (Parts how n) stages ends) (λ reply. (suc (replied requests (drop reply.1 stages) (drop reply.1 ends)).0, reply.1 + (replied requests (drop reply.1 stages) (drop reply.1 ends)).1)) count le in
    let w = when-some (list_all is_done (take n stages)) (joined how (take n ends), n) r.0 r.1 in
    let rest : count ≤ (replied requests (drop n stages) (drop n ends)).0 = subst (λ (reply : Value × ℕ). count ≤ (replied requests (drop reply.1 stages) (drop reply.1 ends)).0) w.1 (omega (arith, r.2)) in
    ⊎_elim (λ (z : i < n). each-done n stages i w.0 z short)
    (λ (z : n ≤ i).
    let m : n + (i - n) ≡ i = omega (arith, z) in
    ap (slice_get stages) (sym m) ∙ sym (drop-at n stages (i - n)) ∙ done-first count requests (drop n stages) (drop n ends) rest (i - n) (omega (arith, z, lt)) (let l = length-drop n stages in omega (arith, l, z, short)))
    (either i n)
  where
    either : (a b : ℕ) → (a < b) ⊎ (b ≤ a)
    either a b = grind arith

quit-said : (b : Bool) (closing : Closing) → closing ≡ Quit → (if b then said closing else closing) ≡ Quit
quit-said true closing e = ap said e
quit-said false closing e = e

module _ (C J : Type 0) where
  pub drained : (k number n : ℕ) → Simulates C J (AtWorker k (Did number (Drained n)))
  drained k number n s s' w h walked on =
      let d = on.does in
      let client : ClientModel C = d.0 in
      let client' : ClientModel C = d.1 in
      let held : SessionModel = client.session in
      let drains = d.3.1.3 in
      let count : ℕ = drains.count in
      let m : ℕ = parts_of (take count held.requests) in
      let left : client'.session ≡ without held (count, m) = drains.left in
      let shadow : ClientShadow (downs_of s) k number client w.commands = (h.clients k on.old number client on.at d.2).1 in
      let split : parts_of held.requests ≡ m + parts_of (drop count held.requests) = parts-split count held.requests in
      let all = answered-all m s w h walked k number on.old client on.at d.2 d.3.0
      (λ i lt. done-first count held.requests held.stages held.ends drains.written.in_order i lt (omega (arith, lt, split, shadow.owed))) in
      let after : ClientModel C = record client { session = pops m held } in
      let is = pops-is m held in
      let marks : List Mark = answers held held.first (take m held.ends) in
      let now : client' ≡ record client { session = client'.session; unpushed = client'.unpushed } = ap (λ (x : ClientContext C). x.client) d.3.2 in
      let last : ClientShadow _ k number after all.2.1.commands = (all.2.4.clients k all.0 number after (set-same s.workers k on.old all.0 on.at) all.1.4).1 in
      let fewer : length (drop m held.stages) ≡ length held.stages - m = length-drop m held.stages in
      let alike : Alike after client' = record {
        client = ap (λ (x : SessionModel). x.client) left ∙ sym is.1;
        worker = ap (λ (x : SessionModel). x.worker) left ∙ sym is.0;
        first = ap (λ (x : SessionModel). x.first) left ∙ sym is.2;
        stages = ap (λ (x : SessionModel). x.stages) left ∙ sym is.3;
        ends = ap (λ (x : SessionModel). x.ends) left ∙ sym is.4;
        owed = ap (λ (x : SessionModel). parts_of x.requests) left ∙ omega (arith, split, shadow.owed, fewer) ∙ ap length (sym is.3) ∙ sym last.owed;
        commands = ap (λ (x : ClientModel C). x.commands) now;
        gone = ap (λ (x : ClientModel C). x.gone) now;
        quit = λ e. ap (λ (x : SessionModel). x.closing) left ∙ quit-said (nat_le (length held.requests) count) held.closing (sym is.5 ∙ e);
      } in
      let e = d.4 in
      let leads : Leads s w k on.new marks = ends-quietly s w k on.old all.0 on.new number after client' marks on.at all.1 all.2 (ap seat_of e) (ap (λ (x : WorkerModel C J). x.newest) e)
      (ap (λ (x : ClientContext C). posted x.outlet) d.3.2) (ap (λ (x : WorkerModel C J). taken x.inlet) e) (ap (λ (x : WorkerModel C J). x.clients) e) alike in
      let was : on.seen.0 ≡ client = one-of (get (on.old).clients number) on.seen.0 client on.seen.2 d.2 in
      let becomes : on.seen.1 ≡ client' = one-of (get (on.new).clients number) on.seen.1 client' on.seen.3 (ap (λ (x : WorkerModel C J). get x.clients number) e ∙ put-same (on.old).clients number client') in
      let many : client'.session.first - held.first ≡ m = ap (λ (x : SessionModel). x.first - held.first) left ∙ (let a : held.first + m - held.first ≡ m = omega arith in a) in
      let seen : on.marks ≡ marks = on.seen.4 ∙ (λ i. answers (was i).session (was i).session.first (take ((becomes i).session.first - (was i).session.first) (was i).session.ends)) ∙ ap (λ j. answers held held.first (take j held.ends)) many in
      let same : s' ≡ along s k on.new marks = on.leaves ∙ (λ i. record s { workers = slice_set s.workers k on.new; log = s.log ++ seen i }) in
      (leads.0, leads.1, leads.2, subst (λ z. IsShadow z leads.1) (sym same) leads.4)
