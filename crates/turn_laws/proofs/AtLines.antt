-- The carrier's steps at one backend that the machine does not see: what came is given, lost tickets are pending_told one by one, the map is renewed.
use Rattle.std.proofs.Common.{◌≡◌, inl, inr, ℕ, true, false, List, [], ◌∷◌, ◌++◌, Some, None, refl, sym, ap, ◌∙◌, subst, arith}
use Rattle.std.specs.Prelude.{slice_get, slice_set, IsSome, Option, map}
use Rattle.std.specs.List.{list_any}
use Rattle.std.proofs.lemmas.Bool.{false≢true}
use Rattle.key_split.specs.declared.travel.Ticket.{Ticket}
use Rattle.key_split.specs.declared.travel.Told.TheVariants.{Lost}
use Rattle.node_link.specs.LinkModel.{LinkModel}
use Rattle.node_link.specs.LinkCalls.{tickets_of}
use Rattle.node_link.specs.declared.link.Due.{Due}
use Rattle.node_link.specs.declared.link.Failure.{Failure}
use Rattle.proxy_turns.specs.declared.backend.Backend.{Backend}
use Rattle.proxy_turns.specs.declared.backend_step.BackendStep.{BackendStep}
use Rattle.proxy_turns.specs.declared.backend_step.BackendStep.TheVariants.{Idle, GaveUp, Closed, Published, Spared, Read, Unread, Renewed}
use Rattle.proxy_turns.specs.Backend.{BackendContext, BackendDoes, is_unanswered}
use Rattle.proxy_turns.specs.CarrierModel.{CarrierModel, context_of, AtBackend, SeedReached, Sought}
use Rattle.world_laws.specs.State.{WorldModel}
use Rattle.world_laws.specs.Places.{total}
use Rattle.turn_laws.specs.Wire.{Wire}
use Rattle.turn_laws.specs.System.{System}
use Rattle.turn_laws.specs.Shadow.{IsShadow}
use Rattle.turn_laws.specs.Underway.{told_in, lost_in, lost_by}
use Rattle.turn_laws.specs.Steps.{CarrierStep}
use Rattle.turn_laws.specs.PortsMay.{any_calls}
use Rattle.turn_laws.proofs.Downs.{Pair, SameBag}
use Rattle.turn_laws.proofs.Bags.{line_downs}
use Rattle.turn_laws.proofs.Carriers.{IsDown, StaysDown, backend-stutter}

-- of a backend that owes what it pending_told
pub same-owing : (backend backend' : Backend Wire) → backend'.link ≡ backend.link → told_in backend'.pending_told ≡ told_in backend.pending_told → SameBag (line_downs backend) (line_downs backend')
same-owing backend backend' link pending_told f = λ i. total f (sym pending_told i ++ lost_in (sym link i))

-- a failed link owes its first ticket
lose-one : (o : Option Failure) → IsSome o → (due due' : List Due) (ticket : Ticket) → tickets_of due ≡ ticket ∷ tickets_of due' → (f : Pair → ℕ)
    → total f (lost_by o due) ≡ total f ((ticket, Lost) ∷ lost_by o due')
lose-one None h due due' ticket e f = absurd (false≢true h)
lose-one (Some why) h due due' ticket e f = ap (λ ts. total f (map (λ (t : Ticket). (t, Lost)) ts)) e

lose-none : (o : Option Failure) → IsSome o → (due : List Due) → tickets_of due ≡ [] → lost_by o due ≡ []
lose-none None h due e = absurd (false≢true h)
lose-none (Some why) h due e = ap (λ ts. map (λ (t : Ticket). (t, Lost)) ts) e

down-failed : (o : Option (LinkModel Wire)) (link : LinkModel Wire) → o ≡ Some link → IsSome link.failure → IsDown o
down-failed o link e h = subst IsDown (sym e) h

module _ {C J : Type 0} where
  -- of one backend's step
  abbrev OneLine : BackendStep → System C J → System C J → Type 0
  OneLine step s s' = (k : ℕ) × (backend : Backend Wire) × (backend' : Backend Wire) × (slice_get s.carrier.backends k ≡ Some backend)
      × BackendDoes any_calls (list_any is_unanswered s.carrier.backends) (context_of s.carrier backend) step (context_of s'.carrier backend')
      × (s'.carrier ≡ record s.carrier { backends = slice_set s.carrier.backends k backend'; nodes = s'.carrier.nodes; published = s'.carrier.published })

  -- a step that leaves the link, or that finds and leaves it down
  changes : (step : BackendStep) (s s' : System C J) (w : WorldModel) → IsShadow s w → CarrierStep s (AtBackend step) s'
      → (d : OneLine step s s') → StaysDown d.1 d.2 → SameBag (line_downs d.1) (line_downs d.2) → IsShadow s' w
  changes step s s' w h on d stays bag =
      backend-stutter (AtBackend step) s s' w d.0 d.1 d.2 h on refl d.3
      (ap (λ (x : CarrierModel _ Wire). x.backends) d.5) (ap (λ (x : CarrierModel _ Wire). x.lanes) d.5) (ap (λ (x : CarrierModel _ Wire). x.pending_runs) d.5) stays bag

  -- the backend of a context
  line_in : (s' : System C J) (backend' : Backend Wire) (context : BackendContext Wire) → context_of s'.carrier backend' ≡ context → backend' ≡ context.backend
  line_in s' backend' context e = ap (λ (x : BackendContext Wire). x.backend) e

  pub idle : (s s' : System C J) (w : WorldModel) → IsShadow s w → CarrierStep s (AtBackend Idle) s' → IsShadow s' w
  idle s s' w h on =
      let d : OneLine Idle s s' = on.does in
      let e : d.2 ≡ d.1 = ap (λ (x : BackendContext Wire). x.backend) d.4 in
      let link : (d.2).link ≡ (d.1).link = ap (λ (x : Backend Wire). x.link) e in
      changes Idle s s' w h on d (inl link) (same-owing d.1 d.2 link (ap (λ (x : Backend Wire). told_in x.pending_told) e))

  pub published : (s s' : System C J) (w : WorldModel) → IsShadow s w → CarrierStep s (AtBackend Published) s' → IsShadow s' w
  published s s' w h on =
      let d : OneLine Published s s' = on.does in
      let e : d.2 ≡ record d.1 { pending_told = Some (record d.4.0 { change = None }); to_ask = true } = ap (λ (x : BackendContext Wire). x.backend) d.4.4 in
      let link : (d.2).link ≡ (d.1).link = ap (λ (x : Backend Wire). x.link) e in
      changes Published s s' w h on d (inl link) (same-owing d.1 d.2 link (ap (λ (x : Backend Wire). told_in x.pending_told) e ∙ sym (ap told_in d.4.2)))

  pub spared : (s s' : System C J) (w : WorldModel) → IsShadow s w → CarrierStep s (AtBackend Spared) s' → IsShadow s' w
  spared s s' w h on =
      let d : OneLine Spared s s' = on.does in
      let e : d.2 ≡ record d.1 { to_ask = false } = ap (λ (x : BackendContext Wire). x.backend) d.4.2 in
      let link : (d.2).link ≡ (d.1).link = ap (λ (x : Backend Wire). x.link) e in
      changes Spared s s' w h on d (inl link) (same-owing d.1 d.2 link (ap (λ (x : Backend Wire). told_in x.pending_told) e))

  pub read : (s s' : System C J) (w : WorldModel) → IsShadow s w → CarrierStep s (AtBackend Read) s' → IsShadow s' w
  read s s' w h on =
      let d : OneLine Read s s' = on.does in
      let e : d.2 ≡ record d.1 { answer = None; changes = Some (d.4.2).ops } = ap (λ (x : BackendContext Wire). x.backend) d.4.7 in
      let link : (d.2).link ≡ (d.1).link = ap (λ (x : Backend Wire). x.link) e in
      changes Read s s' w h on d (inl link) (same-owing d.1 d.2 link (ap (λ (x : Backend Wire). told_in x.pending_told) e))

  pub unread : (s s' : System C J) (w : WorldModel) → IsShadow s w → CarrierStep s (AtBackend Unread) s' → IsShadow s' w
  unread s s' w h on =
      let d : OneLine Unread s s' = on.does in
      let e : d.2 ≡ record d.1 { answer = None } = ap (λ (x : BackendContext Wire). x.backend) d.4.3 in
      let link : (d.2).link ≡ (d.1).link = ap (λ (x : Backend Wire). x.link) e in
      changes Unread s s' w h on d (inl link) (same-owing d.1 d.2 link (ap (λ (x : Backend Wire). told_in x.pending_told) e))

  pub renewed : (s s' : System C J) (w : WorldModel) → IsShadow s w → CarrierStep s (AtBackend Renewed) s' → IsShadow s' w
  renewed s s' w h on =
      let d : OneLine Renewed s s' = on.does in
      let e : d.2 ≡ record d.1 { changes = None } = ap (λ (x : BackendContext Wire). x.backend) d.4.2 in
      let link : (d.2).link ≡ (d.1).link = ap (λ (x : Backend Wire). x.link) e in
      changes Renewed s s' w h on d (inl link) (same-owing d.1 d.2 link (ap (λ (x : Backend Wire). told_in x.pending_told) e))

  -- a ticket that a failed link lost is pending_told: it was on its way down already
  pub gave-up : (s s' : System C J) (w : WorldModel) → IsShadow s w → CarrierStep s (AtBackend GaveUp) s' → IsShadow s' w
  gave-up s s' w h on =
      let d : OneLine GaveUp s s' = on.does in
      let link : LinkModel Wire = d.4.0 in
      let link' : LinkModel Wire = d.4.1 in
      let ticket : Ticket = d.4.2 in
      let none : (d.1).pending_told ≡ None = d.4.3 in
      let was : (d.1).link ≡ Some link = d.4.4 in
      let failed : IsSome link.failure = d.4.5 in
      let first : tickets_of link.due ≡ ticket ∷ tickets_of link'.due = d.4.6 in
      let kept : link'.failure ≡ link.failure = ap (λ (x : LinkModel Wire). x.failure) d.4.7 in
      let backend : Backend Wire = d.2 in
      let now : backend.link ≡ Some link' = ap (λ (x : BackendContext Wire). x.backend.link) d.4.8 in
      let owes : told_in backend.pending_told ≡ (ticket, Lost) ∷ [] = ap (λ (x : BackendContext Wire). told_in x.backend.pending_told) d.4.8 in
      changes GaveUp s s' w h on d
      (inr (down-failed (d.1).link link was failed, down-failed backend.link link' now (subst IsSome (sym kept) failed)))
      (λ f. omega (
        arith,
        ap (λ o. total f (told_in o ++ lost_in (d.1).link)) none,
        ap (λ o. total f (lost_in o)) was,
        lose-one link.failure failed link.due link'.due ticket first f,
        (let e : total f (line_downs backend) ≡ total f ((ticket, Lost) ∷ lost_by link'.failure link'.due) = λ i. total f (owes i ++ lost_in (now i)) in e),
        ap (λ o. total f ((ticket, Lost) ∷ lost_by o link'.due)) kept,
      ))

  -- the seed is to be asked
  pub connected : (s s' : System C J) (w : WorldModel) → IsShadow s w → CarrierStep s SeedReached s' → IsShadow s' w
  connected s s' w h on =
      let backend : Backend Wire = on.does.0 in
      backend-stutter SeedReached s s' w 0 backend (record backend { to_ask = true }) h on refl on.does.2
      (ap (λ (x : CarrierModel _ Wire). x.backends) on.does.3) (ap (λ (x : CarrierModel _ Wire). x.lanes) on.does.3) (ap (λ (x : CarrierModel _ Wire). x.pending_runs) on.does.3)
      (inl refl) (λ f. refl)

  -- after a loss one that has a link is to be asked
  pub sought : (s s' : System C J) (w : WorldModel) → IsShadow s w → CarrierStep s Sought s' → IsShadow s' w
  sought s s' w h on =
      let d = on.does in
      backend-stutter Sought s s' w d.0 d.1 (record d.1 { to_ask = true }) h on refl d.2
      (ap (λ (x : CarrierModel _ Wire). x.backends) d.5) (ap (λ (x : CarrierModel _ Wire). x.lanes) d.5) (ap (λ (x : CarrierModel _ Wire). x.pending_runs) d.5)
      (inl refl) (λ f. refl)

  pub closed : (s s' : System C J) (w : WorldModel) → IsShadow s w → CarrierStep s (AtBackend Closed) s' → IsShadow s' w
  closed s s' w h on =
      let d : OneLine Closed s s' = on.does in
      let link : LinkModel Wire = d.4.0 in
      let was : (d.1).link ≡ Some link = d.4.2 in
      let failed : IsSome link.failure = d.4.3 in
      let backend : Backend Wire = d.2 in
      let now : backend.link ≡ None = ap (λ (x : BackendContext Wire). x.backend.link) d.4.5 in
      let owes : told_in backend.pending_told ≡ told_in (d.1).pending_told = ap (λ (x : BackendContext Wire). told_in x.backend.pending_told) d.4.5 in
      let nothing : lost_in (d.1).link ≡ [] = ap lost_in was ∙ lose-none link.failure failed link.due d.4.4 in
      changes Closed s s' w h on d
      (inr (down-failed (d.1).link link was failed, subst IsDown (sym now) tt))
      (λ f. ap (λ ts. total f (told_in (d.1).pending_told ++ ts)) nothing ∙ (λ i. total f (sym owes i ++ lost_in (sym now i))))
