-- The carrier reads: nothing, or the reply to ASKING, which the machine fetches too.
use Rattle.std.proofs.Common.{◌≡◌, ⊎_elim, List, [], ◌∷◌, ◌++◌, Some, None, sym, ap, ◌∙◌, subst, arith, length}
use Rattle.std.specs.Prelude.{All}
use Rattle.std.proofs.lemmas.List.{append-nil}
use Rattle.resp_wire.specs.declared.value.Value.{Value}
use Rattle.slot_map.specs.Table.{Endpoint}
use Rattle.node_link.specs.LinkModel.{LinkModel}
use Rattle.node_link.specs.LinkCalls.{Comes}
use Rattle.node_link.specs.declared.link.Due.{Due}
use Rattle.world_laws.specs.State.{Link}
use Rattle.world_laws.specs.declared.state.Arrival.{Arrival}
use Rattle.world_laws.specs.declared.state.LinkReply.{LinkReply}
use Rattle.world_laws.specs.Places.{is}
use Rattle.turn_laws.specs.Wire.{Wire, Exchanges}
use Rattle.turn_laws.specs.Shadow.{OpenShadow, backs_in, back_of, requests_in, dues_in, IsKnown}
use Rattle.turn_laws.specs.Underway.{coming, coming_of}
use Rattle.turn_laws.specs.PortsMay.{any_calls}

-- the value that is next stands first among those that come
pub comes-first : (link : LinkModel Wire) (port : Wire) (value : Value) → Comes any_calls link (Some value) port
    → (coming link ≡ value ∷ port.values) × (port ≡ record (link.port) { values = port.values })
comes-first link port value c = ⊎_elim
    (λ (x : (link.kept ≡ Some value) × (port ≡ link.port)). (
      ap (λ o. coming_of o link.port.values) x.0 ∙ ap (λ (p : Wire). value ∷ p.values) (sym x.1),
      x.1 ∙ (λ i. record (link.port) { values = (sym x.1 i).values }),
    ))
    (λ (x : (link.kept ≡ None) × Exchanges link.port [] (value ∷ []) port). (
      ap (λ o. coming_of o link.port.values) x.0 ∙ x.1.0,
      x.1.1 ∙ (λ i. record (link.port) { items = append-nil link.port.items i; values = port.values }),
    ))
    c

-- whose value comes first waits first
pub waits-first : (answered : List Due) (rest due' : List Due) (d : Due) (value : Value) (values : List Value) → d ∷ due' ≡ answered ++ rest → length answered ≡ length (value ∷ values)
    → (more : List Due) × (answered ≡ d ∷ more) × (due' ≡ more ++ rest) × (length more ≡ length values)
waits-first [] rest due' d value values e n = absurd (omega (arith, n))
waits-first (x ∷ more) rest due' d value values e n =
    let first : d ≡ x = cc in
    let behind : due' ≡ more ++ rest = cc in
    (more, ap (λ y. y ∷ more) (sym first), behind, omega (arith, n))

-- the link after the first value was read, and its shadow: what it says was fetched
pub fetched-shadow : (table : List Endpoint) (commands : List Arrival) (link link' : LinkModel Wire) (l : Link) (d : Due) (value : Value)
    → OpenShadow table commands link l → Comes any_calls link (Some value) link'.port → link.due ≡ d ∷ link'.due
    → link' ≡ record link { port = link'.port; due = link'.due; kept = None }
    → (rest : List LinkReply) × (l.backs ≡ back_of table link.node d value ++ rest) × OpenShadow table commands link' (record l { backs = rest })
fetched-shadow table commands link link' l d value h comes dues is =
    let c = comes-first link link'.port value comes in
    let f = waits-first h.answered (dues_in link.port.items) link'.due d value link'.port.values (sym dues ∙ h.due) (h.matched ∙ ap length c.0) in
    let node : link'.node ≡ link.node = ap (λ (x : LinkModel Wire). x.node) is in
    let kept : link'.kept ≡ None = ap (λ (x : LinkModel Wire). x.kept) is in
    let now : coming link' ≡ link'.port.values = ap (λ o. coming_of o link'.port.values) kept in
    let requests : link'.port.items ≡ link.port.items = ap (λ (x : Wire). x.items) c.1 in (
      backs_in table link.node f.0 link'.port.values,
      h.backs ∙ (λ i. backs_in table link.node (f.1 i) (c.0 i)),
      record {
        node = h.node ∙ sym node;
        wired = ap (λ (x : Wire). x.node) c.1 ∙ h.wired ∙ sym node;
        is_open = h.is_open;
        asking = h.asking ∙ sym (ap (λ (x : Wire). x.asking) c.1);
        requests = h.requests ∙ ap requests_in (sym requests);
        known = subst (All (IsKnown commands)) (sym requests) h.known;
        answered = f.0;
        due = f.2 ∙ ap (λ rs. f.0 ++ dues_in rs) (sym requests);
        matched = f.3 ∙ ap length (sym now);
        backs = λ i. backs_in table (sym node i) f.0 (sym now i);
      },
    )
