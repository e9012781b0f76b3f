-- The table lists the node of each link, after each event of the carrier: a link is opened to a node of the table, which only grows.
use Rattle.std.proofs.Common.{◌≡◌, ◌≢◌, ◌⊎◌, inl, inr, ⊎_elim, ℕ, ◌<◌, ◌≤◌, Bool, true, false, List, [], ◌∷◌, ◌++◌, Some, None, length, cond, refl, sym, ap, ◌∙◌, arith, length-append}
use Rattle.std.specs.Prelude.{slice_get, slice_set, Option, Result, Ok, Err, position, nat_lt}
use Rattle.std.specs.List.{list_any}
use Rattle.std.proofs.lemmas.Option.{slice_get_within}
use Rattle.resp_wire.specs.declared.value.Value.{Value}
use Rattle.resp_wire.specs.declared.value.Value.TheVariants as value
use Rattle.resp_wire.specs.Data.{Data}
use Rattle.slot_map.specs.declared.fault.MapFault.{MapFault}
use Rattle.slot_map.specs.Table.{Endpoint, Numbered, numbered, numbered_at, same_endpoint, host_of, Grows}
use Rattle.slot_map.specs.Slots.{SlotsReading, ReadStep, SlotRangeModel, endpoint_meant, before, go_on, range_in, step_at, step_from, read_entries, read_slots}
use Rattle.node_link.specs.LinkModel.{LinkModel}
use Rattle.node_link.specs.declared.link.Got.TheVariants as got
use Rattle.node_link.specs.declared.link.LinkFault.TheVariants as fault
use Rattle.node_link.specs.Port.{PortCalls}
use Rattle.node_link.proofs.Telling.{receives_grow}
use Rattle.proxy_turns.specs.declared.backend.Backend.{Backend}
use Rattle.proxy_turns.specs.declared.backend_step.BackendStep.{BackendStep}
use Rattle.proxy_turns.specs.declared.backend_step.BackendStep.TheVariants.{Idle, Waited, Broke, Fetched, Answered, GaveUp, Closed, Published, Asked, Spared, Read, Unread, Renewed}
use Rattle.proxy_turns.specs.Backend.{BackendContext, BackendDoes, Starves, new_backend, is_unanswered}
use Rattle.proxy_turns.specs.CarrierModel.{CarrierModel, CarrierEvent, CarrierDoes, ChangesBackend, context_of, AtBackend, Starved, WorkerAdded, BackendAdded, Looked, Took, Opened, Refused, Missed, SeedReached, Sought, Reached, NotFound, Sent, Gave, GaveUnsent}
use Rattle.world_laws.proofs.Recorded.{at-set, at-last}
use Rattle.turn_laws.specs.System.{System}
use Rattle.turn_laws.specs.Shadow.{AreListed}
use Rattle.turn_laws.specs.Steps.{CarrierStep, Opens}
use Rattle.turn_laws.specs.PortsMay.{any_calls}

-- ---- the table only grows

no-shorter : (old new : List Endpoint) → Grows old new → length old ≤ length new
no-shorter old new grows = omega (arith, ap length grows.1, length-append old grows.0)

one-more : (table : List Endpoint) (at : Endpoint) → length table ≤ length (table ++ at ∷ [])
one-more table at = omega (arith, length-append table (at ∷ []))

-- a number is given to an endpoint
numbered-grows : (table : List Endpoint) (at : Endpoint) (n : Numbered) → numbered table at ≡ Some n → length table ≤ length n.table
numbered-grows table at n e = by-place (position (same_endpoint at) table) e
  where
    by-room : (b : Bool) → cond b (Some (record { table = table ++ at ∷ []; number = length table })) None ≡ Some n → length table ≤ length n.table
    by-room true is = let it : record { table = table ++ at ∷ []; number = length table } ≡ n = cc in omega (arith, one-more table at, ap (λ (x : Numbered). length x.table) it)
    by-room false is = absurd (cc)

    by-place : (o : Option ℕ) → numbered_at o table at ≡ Some n → length table ≤ length n.table
    by-place (Some place) is = let it : record { table = table; number = place } ≡ n = cc in omega (arith, ap (λ (x : Numbered). length x.table) it)
    by-place None is = by-room (nat_lt (length table) 64) is

-- an entry is read
step-grows : (host : List ℕ) (table : List Endpoint) (range : Result SlotRangeModel MapFault) (step : ReadStep) → step_from host table range ≡ Ok step → length table ≤ length step.table
step-grows host table (Err e) step is = absurd (cc)
step-grows host table (Ok l) step is = by-number (numbered table (endpoint_meant l host)) (numbered-grows table (endpoint_meant l host)) is
  where
    by-number : (o : Option Numbered) → ((n : Numbered) → o ≡ Some n → length table ≤ length n.table) → step_at l o ≡ Ok step → length table ≤ length step.table
    by-number None grows is = absurd (cc)
    by-number (Some n) grows is = omega (arith, grows n refl, ap (λ (x : Result ReadStep MapFault). length (table_in x)) is)
      where
        table_in : Result ReadStep MapFault → List Endpoint
        table_in (Ok x) = x.table
        table_in (Err e) = []

on-grows : (step : Result ReadStep MapFault) (next : List Endpoint → Result SlotsReading MapFault) (size : ℕ) (reading : SlotsReading)
    → ((one : ReadStep) → step ≡ Ok one → size ≤ length one.table)
    → ((table : List Endpoint) (later : SlotsReading) → next table ≡ Ok later → length table ≤ length later.table)
    → go_on step next ≡ Ok reading → size ≤ length reading.table
on-grows (Err e) next size reading first later is = absurd (cc)
on-grows (Ok one) next size reading first later is = by-rest (next one.table) (later one.table) is
  where
    by-rest : (rest : Result SlotsReading MapFault) → ((r : SlotsReading) → rest ≡ Ok r → length one.table ≤ length r.table) → before one.op rest ≡ Ok reading → size ≤ length reading.table
    by-rest (Err e) h is = absurd (cc)
    by-rest (Ok r) h is = omega (arith, first one refl, h r refl, (let it : record { ops = one.op ∷ r.ops; table = r.table } ≡ reading = cc in ap (λ (x : SlotsReading). length x.table) it))

pub entries-grow : (asked : ℕ) (entries : List Data) (table : List Endpoint) (reading : SlotsReading) → read_entries asked entries table ≡ Ok reading → length table ≤ length reading.table
entries-grow asked [] table reading is = let it : record { ops = []; table = table } ≡ reading = cc in omega (arith, ap (λ (x : SlotsReading). length x.table) it)
entries-grow asked (d ∷ ds) table reading is =
    on-grows (step_from (host_of table asked) table (range_in d)) (λ t. read_entries asked ds t) (length table) reading
    (step-grows (host_of table asked) table (range_in d)) (λ t later e. entries-grow asked ds t later e) is

-- a reply to CLUSTER SLOTS is read
pub slots-grow : (said : Value) (asked : ℕ) (table : List Endpoint) (reading : SlotsReading) → read_slots said asked table ≡ Ok reading → length table ≤ length reading.table
slots-grow (value.Array ds) asked table reading is = entries-grow asked ds table reading is
slots-grow (value.Simple t) asked table reading is = absurd (cc)
slots-grow (value.Error t) asked table reading is = absurd (cc)
slots-grow (value.Integer n) asked table reading is = absurd (cc)
slots-grow (value.Bulk b) asked table reading is = absurd (cc)
slots-grow value.NullBulk asked table reading is = absurd (cc)
slots-grow value.NullArray asked table reading is = absurd (cc)

-- ---- one backend changes

module _ {H P : Type 0} where
  -- it has a link only where it had one, or where the table lists its node
  pub set-listed : (old new : CarrierModel H P) (k : ℕ) (backend backend' : Backend P) → slice_get old.backends k ≡ Some backend → new.backends ≡ slice_set old.backends k backend'
      → length old.nodes ≤ length new.nodes
      → ((link' : LinkModel P) → backend'.link ≡ Some link' → ((link : LinkModel P) × (backend.link ≡ Some link)) ⊎ (k < length new.nodes))
      → AreListed old → AreListed new
  set-listed old new k backend backend' at backends longer links h j b link e is = ⊎_elim
      (λ (z : (j ≡ k) × (b ≡ backend')). ⊎_elim
      (λ (y : (was : LinkModel P) × (backend.link ≡ Some was)). omega (arith, z.0, h k backend y.0 at y.1, longer))
      (λ (y : k < length new.nodes). omega (arith, z.0, y))
      (links link (ap (λ (x : Backend P). x.link) (sym z.1) ∙ is)))
      (λ (z : (j ≢ k) × (slice_get old.backends j ≡ Some b)). omega (arith, h j b link z.1 is, longer))
      (at-set old.backends k backend' j b (sym (ap (λ xs. slice_get xs j) backends) ∙ e))

  same-listed : (old new : CarrierModel H P) → new.backends ≡ old.backends → new.nodes ≡ old.nodes → AreListed old → AreListed new
  same-listed old new backends nodes h j b link e is = omega (arith, h j b link (sym (ap (λ xs. slice_get xs j) backends) ∙ e) is, ap length nodes)

  -- the link stays
  same-link : (old new : CarrierModel H P) (k : ℕ) (backend backend' : Backend P) → slice_get old.backends k ≡ Some backend → new.backends ≡ slice_set old.backends k backend'
      → new.nodes ≡ old.nodes → backend'.link ≡ backend.link → AreListed old → AreListed new
  same-link old new k backend backend' at backends nodes stays h =
      set-listed old new k backend backend' at backends (omega (arith, ap length nodes)) (λ link' e. inl (link', sym stays ∙ e)) h

-- ---- the steps of a backend

module _ {P : Type 0} (calls : PortCalls P) where
  grown : (unanswered : Bool) (old : BackendContext P) (step : BackendStep) (new : BackendContext P) → BackendDoes calls unanswered old step new → length old.nodes ≤ length new.nodes
  grown unanswered old Idle new x = omega (arith, ap (λ (c : BackendContext P). length c.nodes) x)
  grown unanswered old Waited new x = no-shorter old.nodes new.nodes (receives_grow calls x.0 old.nodes (Ok None) x.1 new.nodes x.2.1)
  grown unanswered old Broke new x = no-shorter old.nodes new.nodes (receives_grow calls x.0 old.nodes (Err x.2) x.1 new.nodes x.4.1)
  grown unanswered old Fetched new x = no-shorter old.nodes new.nodes (receives_grow calls x.0 old.nodes (Ok (Some (got.Ticket x.2 x.3))) x.1 new.nodes x.5.1)
  grown unanswered old Answered new x = no-shorter old.nodes new.nodes (receives_grow calls x.0 old.nodes (Ok (Some (got.Slots x.2))) x.1 new.nodes x.4.1)
  grown unanswered old GaveUp new x = omega (arith, ap (λ (c : BackendContext P). length c.nodes) x.8)
  grown unanswered old Closed new x = omega (arith, ap (λ (c : BackendContext P). length c.nodes) x.5)
  grown unanswered old Published new x = omega (arith, ap (λ (c : BackendContext P). length c.nodes) x.4)
  grown unanswered old Asked new x = omega (arith, ap (λ (c : BackendContext P). length c.nodes) x.6)
  grown unanswered old Spared new x = omega (arith, ap (λ (c : BackendContext P). length c.nodes) x.2)
  grown unanswered old Read new x = omega (arith, slots-grow x.1 (x.0).node old.nodes x.2 x.6, ap (λ (c : BackendContext P). length c.nodes) x.7)
  grown unanswered old Unread new x = omega (arith, ap (λ (c : BackendContext P). length c.nodes) x.3)
  grown unanswered old Renewed new x = omega (arith, ap (λ (c : BackendContext P). length c.nodes) x.2)

  -- no step makes a link
  had-link : (unanswered : Bool) (old : BackendContext P) (step : BackendStep) (new : BackendContext P) → BackendDoes calls unanswered old step new
      → (link' : LinkModel P) → new.backend.link ≡ Some link' → (link : LinkModel P) × (old.backend.link ≡ Some link)
  had-link unanswered old Idle new x link' e = (link', ap (λ (c : BackendContext P). c.backend.link) (sym x) ∙ e)
  had-link unanswered old Waited new x link' e = (x.0, x.2.0)
  had-link unanswered old Broke new x link' e = (x.0, x.4.0)
  had-link unanswered old Fetched new x link' e = (x.0, x.5.0)
  had-link unanswered old Answered new x link' e = (x.0, x.4.0)
  had-link unanswered old GaveUp new x link' e = (x.0, x.4)
  had-link unanswered old Closed new x link' e = (x.0, x.2)
  had-link unanswered old Published new x link' e = (link', ap (λ (c : BackendContext P). c.backend.link) (sym x.4) ∙ e)
  had-link unanswered old Asked new x link' e = (x.0, x.4)
  had-link unanswered old Spared new x link' e = (link', ap (λ (c : BackendContext P). c.backend.link) (sym x.2) ∙ e)
  had-link unanswered old Read new x link' e = (x.0, x.3)
  had-link unanswered old Unread new x link' e = (link', ap (λ (c : BackendContext P). c.backend.link) (sym x.3) ∙ e)
  had-link unanswered old Renewed new x link' e = (link', ap (λ (c : BackendContext P). c.backend.link) (sym x.2) ∙ e)

-- ---- the events of the carrier

module _ {H P : Type 0} (calls : PortCalls P) (opens : Endpoint → Option P → ℕ → ℕ → Type 0) (longest : P → ℕ) where
  starved : (old new : CarrierModel H P) → ChangesBackend old new (Starves calls) → AreListed old → AreListed new
  starved old new d h = ⊎_elim
      (λ (x : context_of new d.2 ≡ context_of old d.1).
      set-listed old new d.0 d.1 d.2 d.3 (ap (λ (c : CarrierModel H P). c.backends) d.5) (omega (arith, ap (λ (c : BackendContext P). length c.nodes) x))
      (λ link' e. inl (link', ap (λ (c : BackendContext P). c.backend.link) (sym x) ∙ e)) h)
      (λ x.
      set-listed old new d.0 d.1 d.2 d.3 (ap (λ (c : CarrierModel H P). c.backends) d.5)
      (⊎_elim
      (λ y. no-shorter old.nodes new.nodes (receives_grow calls x.0 old.nodes (Err fault.NoMemory) x.1 new.nodes y))
      (λ y. omega (arith, ap length y.1))
      x.3)
      (λ link' e. inl (x.0, x.2)) h)
      d.4

  pub does-listed : (old : CarrierModel H P) (event : CarrierEvent) (new : CarrierModel H P) → CarrierDoes calls opens longest old event new → AreListed old → AreListed new
  does-listed old (AtBackend step) new d h =
      set-listed old new d.0 d.1 d.2 d.3 (ap (λ (c : CarrierModel H P). c.backends) d.5)
      (grown calls (list_any is_unanswered old.backends) (context_of old d.1) step (context_of new d.2) d.4)
      (λ link' e. inl (had-link calls (list_any is_unanswered old.backends) (context_of old d.1) step (context_of new d.2) d.4 link' e)) h
  does-listed old Starved new d h = ⊎_elim
      (λ x. starved old new x h)
      (λ x. set-listed old new x.0 x.1 x.2 x.5 (ap (λ (c : CarrierModel H P). c.backends) x.7) (omega (arith, ap (λ (c : CarrierModel H P). length c.nodes) x.7)) (λ link' e. inl (x.6.0, x.6.2)) h)
      d
  does-listed old WorkerAdded new d h = same-listed old new (ap (λ (c : CarrierModel H P). c.backends) d) (ap (λ (c : CarrierModel H P). c.nodes) d) h
  does-listed old BackendAdded new d h = λ j b link e is. ⊎_elim
      (λ (z : slice_get old.backends j ≡ Some b). omega (arith, h j b link z is, ap (λ (c : CarrierModel H P). length c.nodes) d))
      (λ (z : (j ≡ length old.backends) × (b ≡ new_backend)). absurd (no-link link (ap (λ (x : Backend P). x.link) (sym z.1) ∙ is)))
      (at-last old.backends new_backend j b (sym (ap (λ (c : CarrierModel H P). slice_get c.backends j) d) ∙ e))
    where
      no-link : (link : LinkModel P) → None ≡ Some link → ⊥
      no-link link e = cc
  does-listed old Looked new d h = same-listed old new (ap (λ (c : CarrierModel H P). c.backends) d.0) (ap (λ (c : CarrierModel H P). c.nodes) d.0) h
  does-listed old Took new d h = same-listed old new (ap (λ (c : CarrierModel H P). c.backends) d.5) (ap (λ (c : CarrierModel H P). c.nodes) d.5) h
  does-listed old Opened new d h =
      set-listed old new d.0 d.1 _ d.4 (ap (λ (c : CarrierModel H P). c.backends) d.8) (omega (arith, ap (λ (c : CarrierModel H P). length c.nodes) d.8))
      (λ link' e. inr (omega (arith, slice_get_within old.nodes d.0 d.2 d.6, ap (λ (c : CarrierModel H P). length c.nodes) d.8))) h
  does-listed old Refused new d h = same-listed old new (ap (λ (c : CarrierModel H P). c.backends) d.9) (ap (λ (c : CarrierModel H P). c.nodes) d.9) h
  does-listed old Missed new d h = same-listed old new (ap (λ (c : CarrierModel H P). c.backends) d.2) (ap (λ (c : CarrierModel H P). c.nodes) d.2) h
  does-listed old SeedReached new d h = same-link old new 0 d.0 (record d.0 { to_ask = true }) d.2 (ap (λ (c : CarrierModel H P). c.backends) d.3) (ap (λ (c : CarrierModel H P). c.nodes) d.3) refl h
  does-listed old Sought new d h = same-link old new d.0 d.1 (record d.1 { to_ask = true }) d.2 (ap (λ (c : CarrierModel H P). c.backends) d.5) (ap (λ (c : CarrierModel H P). c.nodes) d.5) refl h
  does-listed old Reached new d h =
      set-listed old new d.0 d.1 _ d.4 (ap (λ (c : CarrierModel H P). c.backends) d.9) (omega (arith, ap (λ (c : CarrierModel H P). length c.nodes) d.9))
      (λ link' e. inr (omega (arith, slice_get_within old.nodes d.0 d.2 d.7, ap (λ (c : CarrierModel H P). length c.nodes) d.9))) h
  does-listed old NotFound new d h = same-listed old new (ap (λ (c : CarrierModel H P). c.backends) d.2) (ap (λ (c : CarrierModel H P). c.nodes) d.2) h
  does-listed old Sent new d h =
      set-listed old new (d.2).first.node d.3 d.4 d.7 (ap (λ (c : CarrierModel H P). c.backends) d.9) (omega (arith, ap (λ (c : CarrierModel H P). length c.nodes) d.9)) (λ link' e. inl (d.8.0, d.8.2)) h
  does-listed old Gave new d h =
      same-link old new d.0 d.1 d.2 d.3 (ap (λ (c : CarrierModel H P). c.backends) d.5) (ap (λ (c : CarrierModel H P). c.nodes) d.5) (ap (λ (x : Backend P). x.link) d.4.4) h
  does-listed old GaveUnsent new d h = same-listed old new (ap (λ (c : CarrierModel H P). c.backends) d.5) (ap (λ (c : CarrierModel H P). c.nodes) d.5) h

module _ {C J : Type 0} where
  pub still-listed : (event : CarrierEvent) (s s' : System C J) → CarrierStep s event s' → AreListed s.carrier → AreListed s'.carrier
  still-listed event s s' on h = does-listed any_calls (Opens s) on.longest s.carrier event s'.carrier on.does h
