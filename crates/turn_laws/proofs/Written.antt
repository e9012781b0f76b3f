-- Requests are written: what waits over a connection and in the machine's link.
use Rattle.std.proofs.Common.{◌≡◌, List, [], ◌++◌, sym, ap, ◌∙◌, subst, length}
use Rattle.std.specs.Prelude.{All, map}
use Rattle.std.proofs.lemmas.List.{append_assoc}
use Rattle.std.proofs.lemmas.List.Elements.{All-append}
use Rattle.key_split.specs.Requests.{Request}
use Rattle.slot_map.specs.Table.{Endpoint}
use Rattle.node_link.specs.LinkModel.{LinkModel}
use Rattle.node_link.specs.LinkCalls.{due_of}
use Rattle.node_link.specs.declared.link.Due.{Due}
use Rattle.node_link.specs.declared.link.Due.TheVariants as due
use Rattle.world_laws.specs.State.{Link}
use Rattle.world_laws.specs.declared.state.Arrival.{Arrival}
use Rattle.turn_laws.specs.Wire.{Wire, Exchanges, items_of}
use Rattle.turn_laws.specs.Shadow.{OpenShadow, IsIdle, IsKnown, requests_in, dues_in, backs_in}
use Rattle.turn_laws.specs.Underway.{coming, coming_of}
use Rattle.turn_laws.proofs.Items.{dues-append, dues-of-items, requests-append}

-- the requests went over the link
abbrev pub Writes : LinkModel Wire → List Request → LinkModel Wire → Type 0
Writes link requests link' = Exchanges link.port requests [] link'.port × (link' ≡ record link { port = link'.port; due = link.due ++ map due_of requests })

module _ (link link' : LinkModel Wire) (requests : List Request) (x : Writes link requests link') where
  pub port-requests : link'.port.items ≡ link.port.items ++ items_of requests
  port-requests = ap (λ (p : Wire). p.items) x.0.1

  same-coming : coming link' ≡ coming link
  same-coming = (λ i. coming_of (ap (λ (l : LinkModel Wire). l.kept) x.1 i) (sym x.0.0 i))

  dues : (answered : List Due) → link.due ≡ answered ++ dues_in link.port.items → link'.due ≡ answered ++ dues_in link'.port.items
  dues answered e =
      ap (λ (l : LinkModel Wire). l.due) x.1 ∙ ap (λ ds. ds ++ map due_of requests) e ∙ append_assoc answered (dues_in link.port.items) (map due_of requests)
      ∙ (λ i. answered ++ (dues_in link.port.items ++ sym (dues-of-items requests) i)) ∙ ap (λ ds. answered ++ ds) (sym (dues-append link.port.items (items_of requests))) ∙ ap (λ rs. answered ++ dues_in rs) (sym port-requests)

  -- the link that has them
  pub open-written : (table : List Endpoint) (commands : List Arrival) (l : Link) → OpenShadow table commands link l → All (IsKnown commands) (items_of requests)
      → OpenShadow table commands link' (record l { requests = l.requests ++ requests_in (items_of requests) })
  open-written table commands l h known =
      let node : link'.node ≡ link.node = ap (λ (l : LinkModel Wire). l.node) x.1 in
      record {
        node = h.node ∙ sym node;
        wired = ap (λ (p : Wire). p.node) x.0.1 ∙ h.wired ∙ sym node;
        is_open = h.is_open;
        asking = h.asking ∙ sym (ap (λ (p : Wire). p.asking) x.0.1);
        requests = ap (λ rs. rs ++ requests_in (items_of requests)) h.requests ∙ sym (requests-append link.port.items (items_of requests)) ∙ ap requests_in (sym port-requests);
        known = subst (All (IsKnown commands)) (sym port-requests) (All-append (IsKnown commands) link.port.items (items_of requests) h.known known);
        answered = h.answered;
        due = dues h.answered h.due;
        matched = h.matched ∙ ap length (sym same-coming);
        backs = h.backs ∙ (λ i. backs_in table (sym node i) h.answered (sym same-coming i));
      }

  -- requests that the machine does not see leave an idle connection idle
  pub idle-written : IsIdle link → requests_in (items_of requests) ≡ [] → All (λ d. d ≡ due.Slots) (map due_of requests) → IsIdle link'
  idle-written h none slots = record {
    wired = ap (λ (p : Wire). p.node) x.0.1 ∙ h.wired ∙ sym (ap (λ (l : LinkModel Wire). l.node) x.1);
    none = subst (All (λ d. d ≡ due.Slots)) (sym (ap (λ (l : LinkModel Wire). l.due) x.1)) (All-append (λ d. d ≡ due.Slots) link.due (map due_of requests) h.none slots);
    asking = ap (λ (p : Wire). p.asking) x.0.1 ∙ h.asking;
    requests = ap requests_in port-requests ∙ requests-append link.port.items (items_of requests) ∙ (λ i. h.requests i ++ none i);
    answered = h.answered;
    due = dues h.answered h.due;
    matched = h.matched ∙ ap length (sym same-coming);
  }
