-- Steps of the code that are several events of the machine: after each of these a worker's client is as it would be by then.
use Rattle.std.proofs.Common.{◌≡◌, ◌≢◌, ⊎_elim, ℕ, zero, suc, ◌==◌, true, false, List, [], ◌∷◌, ◌++◌, Some, refl, sym, ap, ◌∙◌, subst}
use Rattle.std.specs.Prelude.{slice_get, slice_set}
use Rattle.std.specs.FinMap.{get, insert}
use Rattle.std.proofs.lemmas.Bool.Decides.{eqb_tells}
use Rattle.std.proofs.lemmas.List.{append-nil, append_assoc}
use Rattle.key_split.specs.declared.travel.Ticket.{Ticket}
use Rattle.command_future.specs.CommandModel.{CommandModel}
use Rattle.proxy_lanes.specs.Lane.{posted, taken}
use Rattle.proxy_turns.specs.ClientModel.{ClientModel}
use Rattle.proxy_turns.specs.WorkerModel.{WorkerModel}
use Rattle.world_laws.specs.State.{WorldModel}
use Rattle.world_laws.specs.declared.event.Event.{Event}
use Rattle.world_laws.proofs.Recorded.{set-same}
use Rattle.turn_laws.specs.Walks.{Walk, IsSharedWalked}
use Rattle.turn_laws.specs.System.{System, Mark, seat_of}
use Rattle.turn_laws.specs.Shadow.{IsShadow}
use Rattle.turn_laws.specs.Underway.{HasPosted}
use Rattle.turn_laws.proofs.AtWorkers.{Alike, IsQuiet, alike-itself, quiet-shadow}
use Rattle.turn_laws.proofs.Carried.{set-twice}
use Rattle.turn_laws.proofs.Tables.{put-same, put-other, put-apart}
use Rattle.turn_laws.proofs.Ending.{one-of}
use Rattle.turn_laws.proofs.Walks.{walks_join}

set-self : {X : Type 0} (xs : List X) (k : ℕ) (x : X) → slice_get xs k ≡ Some x → slice_set xs k x ≡ xs
set-self [] k x e = refl
set-self (y ∷ xs) zero x e = let same : y ≡ x = cc in ap (λ z. z ∷ xs) (sym same)
set-self (y ∷ xs) (suc k) x e = ap (λ zs. y ∷ zs) (set-self xs k x e)

module _ {C J : Type 0} where
  -- the system with this model at worker k, after these marks
  abbrev pub along : System C J → ℕ → WorkerModel C J → List Mark → System C J
  along s k model marks = record s { workers = slice_set s.workers k model; log = s.log ++ marks }

  -- some events lead to a world for which it stands
  abbrev pub Leads : System C J → WorldModel → ℕ → WorkerModel C J → List Mark → Type 0
  Leads s w k model marks = (events : List Event) × (v : WorldModel) × Walk w events v × IsSharedWalked v × IsShadow (along s k model marks) v

  pub stays : (s : System C J) (w : WorldModel) (k : ℕ) (model : WorkerModel C J) → IsShadow s w → IsSharedWalked w → slice_get s.workers k ≡ Some model → Leads s w k model []
  stays s w k model h walked at = ([], w, refl, walked, subst (λ z. IsShadow z w) (λ i. record s { workers = sym (set-self s.workers k model at) i; log = sym (append-nil s.log) i }) h)

  pub then-leads : (s : System C J) (w : WorldModel) (k : ℕ) (model model' : WorkerModel C J) (marks marks' : List Mark) → (x : Leads s w k model marks) → Leads (along s k model marks) x.1 k model' marks' → Leads s w k model' (marks ++ marks')
  then-leads s w k model model' marks marks' x y = (
    x.0 ++ y.0,
    y.1,
    walks_join x.0 y.0 w x.1 y.1 x.2 y.2,
    y.3,
    subst (λ z. IsShadow z y.1) (λ i. record s { workers = set-twice s.workers k model model' i; log = append_assoc s.log marks marks' i }) y.4,
  )

  -- the model with this client in its place, and nothing else changed
  abbrev pub Sits : WorkerModel C J → ℕ → WorkerModel C J → ClientModel C → Type 0
  Sits model number model' client =
      (seat_of model' ≡ seat_of model) × (model'.newest ≡ model.newest) × (model'.outlet ≡ model.outlet) × (model'.inlet ≡ model.inlet)
      × (get model'.clients number ≡ Some client) × ((q : ℕ) → q ≢ number → get model'.clients q ≡ get model.clients q)

  pub sits-put : (model : WorkerModel C J) (number : ℕ) (client : ClientModel C) → Sits model number (record model { clients = insert model.clients number client }) client
  sits-put model number client = (refl, refl, refl, refl, put-same model.clients number client, λ q ne. put-other model.clients number q client ne)

  pub sits-then : (a b c : WorkerModel C J) (number : ℕ) (x y : ClientModel C) → Sits a number b x → Sits b number c y → Sits a number c y
  sits-then a b c number x y p q = (q.0 ∙ p.0, q.1 ∙ p.1, q.2 ∙ p.2, q.3 ∙ p.3, q.4, λ m ne. q.5 m ne ∙ p.5 m ne)

  quiet-end : (model model' new : WorkerModel C J) (number : ℕ) (client client' : ClientModel C) → Sits model number model' client
      → seat_of new ≡ seat_of model → new.newest ≡ model.newest → posted new.outlet ≡ posted model.outlet → taken new.inlet ≡ taken model.inlet → new.clients ≡ insert model.clients number client'
      → Alike client client' → IsQuiet model' new
  quiet-end model model' new number client client' sits worker newest posts takes put alike = record {
    worker = worker ∙ sym sits.0;
    newest = newest ∙ sym sits.1;
    posts = posts ∙ ap posted (sym sits.2);
    takes = takes ∙ ap taken (sym sits.3);
    clients = λ q x e. ⊎_elim
        (λ (z : (q ≡ number) × (x ≡ client')). (client, ap (get model'.clients) z.0 ∙ sits.4, subst (Alike client) (sym z.1) alike))
        (λ (z : (q ≢ number) × (get model.clients q ≡ Some x)). (x, sits.5 q z.0 ∙ z.1, alike-itself x))
        (put-apart model.clients number client' q x (sym (ap (λ m. get m q) put) ∙ e));
    keeps = keeps;
  }
    where
      keeps : (t : Ticket) (c : CommandModel) → HasPosted model' t c → HasPosted new t c
      keeps t c x = ⊎_elim
          (λ (z : ((t.client == number) ≡ true) × (t.client ≡ number)).
          let it : x.0 ≡ client = one-of (get model'.clients number) x.0 client (ap (get model'.clients) (sym z.1) ∙ x.1) sits.4 in (
            client',
            ap (λ m. get m t.client) put ∙ ap (get (insert model.clients number client')) z.1 ∙ put-same model.clients number client',
            (λ i. get (alike.commands i).posted t.part) ∙ ap (λ (y : ClientModel C). get y.commands.posted t.part) (sym it) ∙ x.2,
            x.3,
          ))
          (λ (z : ((t.client == number) ≡ false) × (t.client ≢ number)).
          (x.0, ap (λ m. get m t.client) put ∙ put-other model.clients number t.client client' z.1 ∙ sym (sits.5 t.client z.1) ∙ x.1, x.2, x.3))
          (eqb_tells t.client number)

  -- the last step is one that the machine does not see
  pub ends-quietly : (s : System C J) (w : WorldModel) (k : ℕ) (model model' new : WorkerModel C J) (number : ℕ) (client client' : ClientModel C) (marks : List Mark) → slice_get s.workers k ≡ Some model
      → Sits model number model' client → Leads s w k model' marks
      → seat_of new ≡ seat_of model → new.newest ≡ model.newest → posted new.outlet ≡ posted model.outlet → taken new.inlet ≡ taken model.inlet → new.clients ≡ insert model.clients number client'
      → Alike client client' → Leads s w k new marks
  ends-quietly s w k model model' new number client client' marks at sits x worker newest posts takes put alike = (
    x.0,
    x.1,
    x.2,
    x.3,
    subst (λ z. IsShadow z x.1) (λ i. record s { workers = set-twice s.workers k model' new i; log = s.log ++ marks })
        (quiet-shadow (along s k model' marks) x.1 x.4 k model' new (set-same s.workers k model model' at) (quiet-end model model' new number client client' sits worker newest posts takes put alike)),
  )
