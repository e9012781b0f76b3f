-- Reading a reply, and receiving one, only adds to the table.
use Rattle.std.proofs.Common.{◌≡◌, ◌++◌, ◌∷◌, [], ℕ, List, Bool, true, false, Option, Some, None, length, ap, sym, ◌∙◌, cond}
use Rattle.std.specs.Prelude.{Result, Ok, Err, codes, position, nat_lt}
use Rattle.std.specs.Str.{bytes_eq}
use Rattle.std.proofs.lemmas.List.{append-nil}
use Rattle.resp_wire.specs.declared.value.Value.{Value}
use Rattle.resp_wire.specs.declared.value.Value.TheVariants as value
use Rattle.key_split.specs.declared.travel.Told.{Told}
use Rattle.key_split.specs.declared.travel.Told.TheVariants.{Reply, Moved, Ask, TryAgain, ClusterDown, Unclear}
use Rattle.slot_map.specs.Table.{Endpoint, Numbered, numbered_at, same_endpoint, host_of, Grows}
use Rattle.node_link.specs.declared.link.Got.{Got}
use Rattle.node_link.specs.declared.link.Got.TheVariants as got
use Rattle.node_link.specs.declared.link.LinkFault.{LinkFault}
use Rattle.node_link.specs.declared.link.LinkFault.TheVariants.{NoMemory, PortFailed, Stray, BadWire}
use Rattle.node_link.specs.LinkModel.{LinkModel}
use Rattle.node_link.specs.LinkCalls.{Receives}
use Rattle.node_link.specs.Line.{Target, first_word, other_words, target_in}
use Rattle.node_link.specs.Telling.{sent_on, redirected, refusal_or_reply, told_by, endpoint_meant, TellOutcome}
use Rattle.node_link.specs.Port.{PortCalls}

same : (old new : List Endpoint) → new ≡ old → Grows old new
same old new is = ([], is ∙ sym (append-nil old))

abbrev Telling : Type 0
Telling = Told × List Endpoint

abbrev answer : Told → List Endpoint → Telling
answer told table = (told, table)

unchanged : (said told : Told) (table new : List Endpoint) → answer said table ≡ answer told new → Grows table new
unchanged said told table new is = ([], sym (ap (λ (p : Telling). p.1) is) ∙ sym (append-nil table))

by_room : (room : Bool) (how : ℕ → ℕ → Told) (slot : ℕ) (at : Endpoint) (table : List Endpoint) (told : Told) (new : List Endpoint)
    → sent_on how slot (cond room (Some (record { table = table ++ at ∷ []; number = length table })) None) table ≡ answer told new → Grows table new
by_room true how slot at table told new is = (at ∷ [], sym (ap (λ (p : Telling). p.1) is))
by_room false how slot at table told new is = unchanged Unclear told table new is

by_place : (place : Option ℕ) (how : ℕ → ℕ → Told) (slot : ℕ) (at : Endpoint) (table : List Endpoint) (told : Told) (new : List Endpoint)
    → sent_on how slot (numbered_at place table at) table ≡ answer told new → Grows table new
by_place (Some k) how slot at table told new is = unchanged (how slot k) told table new is
by_place None how slot at table told new is = by_room (nat_lt (length table) 64) how slot at table told new is

redirected_grows : (how : ℕ → ℕ → Told) (asked_host : List ℕ) (target : Option Target) (table : List Endpoint) (told : Told) (new : List Endpoint)
    → redirected how asked_host target table ≡ answer told new → Grows table new
redirected_grows how asked_host None table told new is = unchanged Unclear told table new is
redirected_grows how asked_host (Some target) table told new is =
    let at = endpoint_meant asked_host target.endpoint in
    by_place (position (same_endpoint at) table) how target.slot at table told new is

abbrev chosen : Bool → Bool → Bool → Bool → Telling → Telling → List Endpoint → Option Telling
chosen moved ask again down m a table =
    cond moved (Some m) (cond ask (Some a) (cond again (Some (answer TryAgain table)) (cond down (Some (answer ClusterDown table)) None)))

by_word : (moved ask again down : Bool) (m a : Telling) (said : Value) (told : Told) (table new : List Endpoint)
    → (m ≡ answer told new → Grows table new) → (a ≡ answer told new → Grows table new)
    → refusal_or_reply said table (chosen moved ask again down m a table) ≡ answer told new → Grows table new
by_word true ask again down m a said told table new h_m h_a is = h_m is
by_word false true again down m a said told table new h_m h_a is = h_a is
by_word false false true down m a said told table new h_m h_a is = unchanged TryAgain told table new is
by_word false false false true m a said told table new h_m h_a is = unchanged ClusterDown told table new is
by_word false false false false m a said told table new h_m h_a is = unchanged (Reply said) told table new is

pub told_grows : (said : Value) (asked : ℕ) (table : List Endpoint) (told : Told) (new : List Endpoint) → told_by said asked table ≡ answer told new → Grows table new
told_grows (value.Error line) asked table told new is =
    let host = host_of table asked in
    let target = target_in (other_words line) in
    by_word (bytes_eq (first_word line) (codes "MOVED")) (bytes_eq (first_word line) (codes "ASK")) (bytes_eq (first_word line) (codes "TRYAGAIN")) (bytes_eq (first_word line) (codes "CLUSTERDOWN"))
    (redirected Moved host target table) (redirected Ask host target table) (value.Error line) told table new
    (redirected_grows Moved host target table told new) (redirected_grows Ask host target table told new) is
told_grows (value.Simple line) asked table told new is = unchanged _ told table new is
told_grows (value.Integer n) asked table told new is = unchanged _ told table new is
told_grows (value.Bulk bytes) asked table told new is = unchanged _ told table new is
told_grows value.NullBulk asked table told new is = unchanged _ told table new is
told_grows (value.Array words) asked table told new is = unchanged _ told table new is
told_grows value.NullArray asked table told new is = unchanged _ told table new is

pub tell_grows : (said : Value) (asked : ℕ) (old : List Endpoint) (result : Result Told Value) (new : List Endpoint) → TellOutcome said asked old result new → Grows old new
tell_grows said asked old (Ok told) new is = told_grows said asked old told new is
tell_grows said asked old (Err back) new does = same old new does.1

module _ {P : Type 0} (calls : PortCalls P) where
  pub receives_grow : (old : LinkModel P) (table : List Endpoint) (result : Result (Option Got) LinkFault) (new : LinkModel P) (table' : List Endpoint)
      → Receives calls old table result new table' → Grows table table'
  receives_grow old table (Ok (Some (got.Ticket ticket told))) new table' does = told_grows does.0 old.node table told table' does.4
  receives_grow old table (Ok (Some (got.Slots value))) new table' does = same table table' does.3
  receives_grow old table (Ok None) new table' does = same table table' does.1
  receives_grow old table (Err NoMemory) new table' does = same table table' does.1
  receives_grow old table (Err PortFailed) new table' does = same table table' does.0
  receives_grow old table (Err BadWire) new table' does = same table table' does.0
  receives_grow old table (Err Stray) new table' does = same table table' does.0
