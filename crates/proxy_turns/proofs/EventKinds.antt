-- What one part of a turn may make, the parts that it stands in may make too.
use Rattle.std.proofs.Common.{◌≡◌, ◌||◌, ◌&&◌, Bool, true, false, refl}
use Rattle.proxy_turns.specs.ClientTurn.{ClientEvent, is_begin, is_drain, is_drop, is_feed, is_post, is_push, is_read, is_send, is_work, is_write}
use Rattle.proxy_turns.specs.WorkerModel.{WorkerEvent, turns_client, removes_client, serves_client}
use Rattle.proxy_turns.specs.CarrierModel.{CarrierEvent, renews_map, fetches, gives, tells_unsent, takes_run, sends, connects, serves_backend, serves_lane}

pub and_true : (a b : Bool) → a ≡ true → b ≡ true → (a && b) ≡ true
and_true true true e f = refl
and_true true false e f = absurd (cc)
and_true false b e f = absurd (cc)

pub and_both : (a b : Bool) → (a && b) ≡ true → (a ≡ true) × (b ≡ true)
and_both true true e = (refl, refl)
and_both true false e = absurd (cc)
and_both false b e = absurd (cc)

or_left : (a b : Bool) → a ≡ true → (a || b) ≡ true
or_left true b e = refl
or_left false b e = absurd (cc)

or_right : (a b : Bool) → b ≡ true → (a || b) ≡ true
or_right true b e = refl
or_right false b e = e

pub map_renewed : (event : CarrierEvent) → renews_map event ≡ true → serves_backend event ≡ true
map_renewed event kind = or_left (renews_map event) (fetches event || gives event) kind

pub reply_fetched : (event : CarrierEvent) → fetches event ≡ true → serves_backend event ≡ true
reply_fetched event kind = or_right (renews_map event) (fetches event || gives event) (or_left (fetches event) (gives event) kind)

pub reply_given : (event : CarrierEvent) → gives event ≡ true → serves_backend event ≡ true
reply_given event kind = or_right (renews_map event) (fetches event || gives event) (or_right (fetches event) (gives event) kind)

pub unsent_told : (event : CarrierEvent) → tells_unsent event ≡ true → serves_lane event ≡ true
unsent_told event kind = or_left (tells_unsent event) (takes_run event || (sends event || connects event)) kind

pub run_taken : (event : CarrierEvent) → takes_run event ≡ true → serves_lane event ≡ true
run_taken event kind =
    or_right (tells_unsent event) (takes_run event || (sends event || connects event)) (or_left (takes_run event) (sends event || connects event) kind)

pub run_sent : (event : CarrierEvent) → sends event ≡ true → serves_lane event ≡ true
run_sent event kind =
    or_right (tells_unsent event) (takes_run event || (sends event || connects event))
    (or_right (takes_run event) (sends event || connects event) (or_left (sends event) (connects event) kind))

pub node_connected : (event : CarrierEvent) → connects event ≡ true → serves_lane event ≡ true
node_connected event kind =
    or_right (tells_unsent event) (takes_run event || (sends event || connects event))
    (or_right (takes_run event) (sends event || connects event) (or_right (sends event) (connects event) kind))

-- a whole turn may make every event
abbrev pub every : CarrierEvent → Bool
every event = true

pub in_turn : (few : CarrierEvent → Bool) (event : CarrierEvent) → few event ≡ true → every event ≡ true
in_turn few event kind = refl

pub client_turned : (event : WorkerEvent) → turns_client event ≡ true → serves_client event ≡ true
client_turned event kind = or_left (turns_client event) (removes_client event) kind

pub client_removed : (event : WorkerEvent) → removes_client event ≡ true → serves_client event ≡ true
client_removed event kind = or_right (turns_client event) (removes_client event) kind

abbrev pub every_one : WorkerEvent → Bool
every_one event = true

pub in_workers_turn : (few : WorkerEvent → Bool) (event : WorkerEvent) → few event ≡ true → every_one event ≡ true
in_workers_turn few event kind = refl

pub command_begun : (event : ClientEvent) → is_begin event ≡ true → is_send event ≡ true
command_begun event kind = or_left (is_begin event) (is_drop event || is_post event) kind

pub command_dropped : (event : ClientEvent) → is_drop event ≡ true → is_send event ≡ true
command_dropped event kind = or_right (is_begin event) (is_drop event || is_post event) (or_left (is_drop event) (is_post event) kind)

pub command_posted : (event : ClientEvent) → is_post event ≡ true → is_send event ≡ true
command_posted event kind = or_right (is_begin event) (is_drop event || is_post event) (or_right (is_drop event) (is_post event) kind)

pub session_drained : (event : ClientEvent) → is_drain event ≡ true → is_write event ≡ true
session_drained event kind = or_left (is_drain event) (is_push event) kind

pub bytes_pushed : (event : ClientEvent) → is_push event ≡ true → is_write event ≡ true
bytes_pushed event kind = or_right (is_drain event) (is_push event) kind

pub session_fed : (event : ClientEvent) → is_feed event ≡ true → is_work event ≡ true
session_fed event kind = or_left (is_feed event) (is_read event || (is_send event || is_write event)) kind

pub requests_read : (event : ClientEvent) → is_read event ≡ true → is_work event ≡ true
requests_read event kind = or_right (is_feed event) (is_read event || (is_send event || is_write event)) (or_left (is_read event) (is_send event || is_write event) kind)

pub commands_sent : (event : ClientEvent) → is_send event ≡ true → is_work event ≡ true
commands_sent event kind =
    or_right (is_feed event) (is_read event || (is_send event || is_write event))
    (or_right (is_read event) (is_send event || is_write event) (or_left (is_send event) (is_write event) kind))

pub replies_written : (event : ClientEvent) → is_write event ≡ true → is_work event ≡ true
replies_written event kind =
    or_right (is_feed event) (is_read event || (is_send event || is_write event))
    (or_right (is_read event) (is_send event || is_write event) (or_right (is_send event) (is_write event) kind))

abbrev pub whatever : ClientEvent → Bool
whatever event = true

pub in_clients_turn : (few : ClientEvent → Bool) (event : ClientEvent) → few event ≡ true → whatever event ≡ true
in_clients_turn few event kind = refl
