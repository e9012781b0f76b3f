-- A link over ports of any kind: what its calls do, they do over the wire for which its port stands.
use Rattle.std.proofs.Common.{◌≡◌, inl, inr, ⊎_elim, List, [], ◌∷◌, ◌++◌, map, Some, None, Result, Ok, Err, refl, sym, subst, arith}
use Rattle.std.specs.Prelude.{Option}
use Rattle.resp_wire.specs.declared.value.Value.{Value}
use Rattle.key_split.specs.Requests.{Request}
use Rattle.slot_map.specs.Table.{Endpoint}
use Rattle.node_link.specs.Port.{PortCalls, SendsAllOrNone, Rose}
use Rattle.node_link.specs.LinkModel.{LinkModel}
use Rattle.node_link.specs.LinkCalls.{due_of, Fails, Sends, Comes, Receives, WantsMemory}
use Rattle.node_link.specs.declared.link.Due.TheVariants as due
use Rattle.node_link.specs.declared.link.Got.{Got}
use Rattle.node_link.specs.declared.link.Got.TheVariants as got
use Rattle.node_link.specs.declared.link.Failure.{Failure}
use Rattle.node_link.specs.declared.link.Failure.TheVariants as failure
use Rattle.node_link.specs.declared.link.LinkFault.{LinkFault}
use Rattle.node_link.specs.declared.link.LinkFault.TheVariants.{NoMemory, PortFailed, Stray, BadWire}
use Rattle.proxy_turns.specs.Backend.{GoesOut}
use Rattle.turn_laws.specs.Wire.{Wire, Exchanges}
use Rattle.turn_laws.specs.PortsMay.{any_calls}
use Rattle.turn_laws.specs.AnyPort.{StandsFor, over_link}

module _ {P : Type 0} (wired : P → Wire → Type 0) (calls : PortCalls P)
    (stands : StandsFor wired calls.exchange) where
  -- the port stands for a wire again, of which this holds
  abbrev pub Over : P → (Wire → Type 0) → Type 0
  Over port holds = (wire : Wire) × wired port wire × holds wire

  module _ (link link' : LinkModel P) (wire : Wire) (on : wired link.port wire) where
    abbrev old : LinkModel Wire
    old = over_link link wire

    same-port : link' ≡ link → wired link'.port wire
    same-port e = subst (λ (x : LinkModel P). wired x.port wire) (sym e) on

    -- a call by which it fails, or had failed
    fails : (why : Failure) (now : Type 0) (holds : Wire → Type 0) → (now → Over link'.port holds) → Fails link why now link' → Over link'.port (λ w. Fails old why (holds w) (over_link link' w))
    fails why now holds go x = ⊎_elim
        (λ (y : (link.failure ≡ Some why) × (link' ≡ link)). (wire, same-port y.1, inl (y.0, λ i. over_link (y.1 i) wire)))
        (λ (y : (link.failure ≡ None) × (link'.failure ≡ Some why) × now). let r = go y.2 in (r.0, r.1, inr (y.0, y.1, r.2)))
        x

    all-or-none : (requests : List Request) → SendsAllOrNone calls.exchange link.port requests link'.port → Over link'.port (λ w. SendsAllOrNone Exchanges wire requests w)
    all-or-none requests x = ⊎_elim
        (λ (y : calls.exchange link.port requests [] link'.port). let r = stands link.port link'.port wire requests [] on y in (r.0, r.2, inl r.1))
        (λ (y : calls.exchange link.port [] [] link'.port). let r = stands link.port link'.port wire [] [] on y in (r.0, r.2, inr r.1))
        x

    pub sends-over : (requests : List Request) (given : Result (Unit {0}) LinkFault) → Sends calls link requests given link'
        → Over link'.port (λ w. Sends any_calls old requests given (over_link link' w))
    sends-over requests (Ok _) x = let r = stands link.port link'.port wire requests [] on x.1 in (r.0, r.2, (x.0, r.1, λ i. over_link (x.2 i) r.0))
    sends-over requests (Err NoMemory) x = let r = stands link.port link'.port wire [] [] on x.1 in (r.0, r.2, (x.0, r.1, λ i. over_link (x.2 i) r.0))
    sends-over requests (Err PortFailed) x =
        fails failure.PortFailed (Rose (calls.failures link.port) (calls.failures link'.port) × SendsAllOrNone calls.exchange link.port requests link'.port × (link' ≡ record link { port = link'.port; due = link.due ++ map due_of requests; failure = link'.failure }))
        (λ w. Rose (any_calls.failures wire) (any_calls.failures w) × SendsAllOrNone Exchanges wire requests w × (over_link link' w ≡ record old { port = w; due = link.due ++ map due_of requests; failure = link'.failure }))
        (λ y. let r = all-or-none requests y.1 in (r.0, r.1, (inr (omega arith), r.2, λ i. over_link (y.2 i) r.0))) x
    sends-over requests (Err BadWire) x =
        fails failure.BadWire (calls.is_garbled link'.port × SendsAllOrNone calls.exchange link.port requests link'.port × (link' ≡ record link { port = link'.port; due = link.due ++ map due_of requests; failure = link'.failure }))
        (λ w. any_calls.is_garbled w × SendsAllOrNone Exchanges wire requests w × (over_link link' w ≡ record old { port = w; due = link.due ++ map due_of requests; failure = link'.failure }))
        (λ y. let r = all-or-none requests y.1 in (r.0, r.1, (tt, r.2, λ i. over_link (y.2 i) r.0))) x
    sends-over requests (Err Stray) x = (wire, same-port x.1, (x.0, λ i. over_link (x.1 i) wire))

    pub goes-out : (requests : List Request) → GoesOut calls link requests link' → Over link'.port (λ w. GoesOut any_calls old requests (over_link link' w))
    goes-out requests x = let r = sends-over requests x.0 x.3 in (r.0, r.1, (x.0, x.1, x.2, r.2))

    comes : (next : Option Value) → Comes calls link next link'.port → Over link'.port (λ w. Comes any_calls old next w)
    comes (Some value) x = ⊎_elim
        (λ (y : (link.kept ≡ Some value) × (link'.port ≡ link.port)). (wire, subst (λ p. wired p wire) (sym y.1) on, inl (y.0, refl)))
        (λ (y : (link.kept ≡ None) × calls.exchange link.port [] (value ∷ []) link'.port). let r = stands link.port link'.port wire [] (value ∷ []) on y.1 in (r.0, r.2, inr (y.0, r.1)))
        x
    comes None x = let r = stands link.port link'.port wire [] [] on x.1 in (r.0, r.2, (x.0, r.1))

    abbrev Received : List Endpoint → Result (Option Got) LinkFault → List Endpoint → Type 0
    Received table given table' = Over link'.port (λ w. Receives any_calls old table given (over_link link' w) table')

    nothing-came : Comes calls link None link'.port → link' ≡ record link { port = link'.port }
        → Over link'.port (λ w. Comes any_calls old None w × (over_link link' w ≡ record old { port = w }))
    nothing-came x e = let r = comes None x in (r.0, r.1, (r.2, λ i. over_link (e i) r.0))

    pub receives-over : (table : List Endpoint) (given : Result (Option Got) LinkFault) (table' : List Endpoint) → Receives calls link table given link' table' → Received table given table'
    receives-over table (Ok (Some (got.Ticket ticket told))) table' x =
        let r = comes (Some x.0) x.2 in (r.0, r.1, (x.0, x.1, r.2, x.3, x.4, λ i. over_link (x.5 i) r.0))
    receives-over table (Ok (Some (got.Slots value))) table' x =
        let r = comes (Some value) x.1 in (r.0, r.1, (x.0, r.2, x.2, x.3, λ i. over_link (x.4 i) r.0))
    receives-over table (Ok None) table' x = ⊎_elim
        (λ (y : Comes calls link None link'.port × (link' ≡ record link { port = link'.port })). let r = nothing-came y.0 y.1 in (r.0, r.1, (x.0, x.1, inl r.2)))
        (λ (y : (value : Value) × Comes calls link (Some value) link'.port × (link.due ≡ due.Asking ∷ link'.due) × (link' ≡ record link { port = link'.port; due = link'.due; kept = None })).
        let r = comes (Some y.0) y.1 in (r.0, r.1, (x.0, x.1, inr (y.0, r.2, y.2, λ i. over_link (y.3 i) r.0))))
        x.2
    receives-over table (Err NoMemory) table' x = ⊎_elim
        (λ (y : Comes calls link None link'.port × (link' ≡ record link { port = link'.port })). let r = nothing-came y.0 y.1 in (r.0, r.1, (x.0, x.1, inl r.2)))
        (λ (y : (value : Value) × Comes calls link (Some value) link'.port × WantsMemory value link table × (link' ≡ record link { port = link'.port; kept = Some value })).
        let r = comes (Some y.0) y.1 in (r.0, r.1, (x.0, x.1, inr (y.0, r.2, y.2, λ i. over_link (y.3 i) r.0))))
        x.2
    receives-over table (Err PortFailed) table' x =
        let r = fails failure.PortFailed (Rose (calls.failures link.port) (calls.failures link'.port) × Comes calls link None link'.port × (link' ≡ record link { port = link'.port; failure = link'.failure }))
        (λ w. Rose (any_calls.failures wire) (any_calls.failures w) × Comes any_calls old None w × (over_link link' w ≡ record old { port = w; failure = link'.failure }))
        (λ y. let r = comes None y.1 in (r.0, r.1, (inr (omega arith), r.2, λ i. over_link (y.2 i) r.0))) x.1 in (r.0, r.1, (x.0, r.2))
    receives-over table (Err BadWire) table' x =
        let r = fails failure.BadWire (calls.is_garbled link'.port × Comes calls link None link'.port × (link' ≡ record link { port = link'.port; failure = link'.failure }))
        (λ w. any_calls.is_garbled w × Comes any_calls old None w × (over_link link' w ≡ record old { port = w; failure = link'.failure }))
        (λ y. let r = comes None y.1 in (r.0, r.1, (tt, r.2, λ i. over_link (y.2 i) r.0))) x.1 in (r.0, r.1, (x.0, r.2))
    receives-over table (Err Stray) table' x =
        let r = fails failure.Stray ((value : Value) × Comes calls link (Some value) link'.port × (link.due ≡ []) × (link' ≡ record link { port = link'.port; kept = None; failure = link'.failure }))
        (λ w. (value : Value) × Comes any_calls old (Some value) w × (link.due ≡ []) × (over_link link' w ≡ record old { port = w; kept = None; failure = link'.failure }))
        (λ y. let r = comes (Some y.0) y.1 in (r.0, r.1, (y.0, r.2, y.2, λ i. over_link (y.3 i) r.0))) x.1 in (r.0, r.1, (x.0, r.2))
