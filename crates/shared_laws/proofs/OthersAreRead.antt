-- A run in which others act goes the whole way, step by step.
use Rattle.std.proofs.Common.{◌≡◌, inl, inr, ℕ, zero, suc, ◌<◌, false, true, [], ◌∷◌, Some, refl, sym, ap, arith, codes}
use Rattle.std.specs.Prelude.{All}
use Rattle.resp_wire.specs.declared.value.Value.{Value}
use Rattle.resp_wire.specs.declared.value.Value.TheVariants.{Bulk}
use Rattle.slot_hash.specs.Slot.{slot_of}
use Rattle.key_split.specs.PartModel.{HasOneSlot}
use Rattle.key_split.specs.declared.travel.Told.TheVariants.{Reply}
use Rattle.command_future.specs.CommandModel.{fresh}
use Rattle.node_model.specs.History.{EntryModel, left_by}
use Rattle.node_model.specs.Nodes.{ClusterModel, store_at, with_store}
use Rattle.node_model.specs.Runs.{AreReplies}
use Rattle.node_model.specs.Store.{bulk_of}
use Rattle.node_model.proofs.Keys.{get-put-same}
use Rattle.world_laws.specs.State.{after_told, awaiting}
use Rattle.world_laws.specs.declared.state.Arrival.{Arrival}
use Rattle.world_laws.specs.World.{GoOut, Way, last_moment}
use Rattle.world_laws.specs.RunOfTwo.{one_node, reads, ticket, writes}
use Rattle.world_laws.proofs.Turns.{one}
use Rattle.shared_laws.specs.Shared.{AskIsTrue, IsTheirs}
use Rattle.shared_laws.specs.OthersAreRead.{OthersAreRead, others_set}

abbrev reader : Arrival
reader = record { command = fresh (ticket 0) reads; arrived = 1; answered = false }

abbrev read : Value
read = Bulk (codes "v")

abbrev way : Way
way = record { client = 7; slot = slot_of (codes "k"); asking = false }

-- the nodes, after others acted
abbrev set : ClusterModel
set = with_store one_node 0 (left_by (store_at one_node 0) (others_set ∷ []))

read-it : AreReplies (store_at set 0) (reads ∷ []) (Reply read ∷ [])
read-it = (sym (ap bulk_of (get-put-same (store_at one_node 0) (codes "k") (Some (codes "v")))), tt)

none-before : {X : Type 0} (P : X → Type 0) → All P []
none-before P k d lt = absurd (omega arith)

go-out : GoOut way 0 [] (ticket 0 ∷ []) (reader ∷ []) (awaiting reader ∷ [])
go-out = (0, reader, (refl, refl), (refl, refl, tt, refl), (λ k d lt. absurd (omega arith)), refl)

read-slot : HasOneSlot reads
read-slot zero d lt = refl
read-slot (suc k) d lt = absurd (omega arith)

write-slot : HasOneSlot writes
write-slot zero d lt = refl
write-slot (suc k) d lt = absurd (omega arith)

early : (n : ℕ) → n < 20 → n < last_moment
early n lt = omega (arith, lt)

theirs : IsTheirs 1 2 9 (slot_of (codes "k")) others_set
theirs = record { theirs = λ x. absurd (cc); client_is = refl; slot_is = refl; one_slot = write-slot; now = refl }

asks : AskIsTrue one_node 0 false writes
asks a to = absurd (cc)

abbrev IsDone : Arrival → Type 0
IsDone d = d.command.ticket.client ≡ 7 → d.answered ≡ true

pub others_are_read : OthersAreRead
others_are_read = (
  _,
  (
    _,
    (early 0 (omega arith), (read-slot, refl)),
    (
      _,
      (early 1 (omega arith), (set, (9, slot_of (codes "k"), one (IsTheirs 1 2 9 (slot_of (codes "k"))) others_set theirs, omega arith, one (λ (e : EntryModel). AskIsTrue one_node 0 false e.part) others_set asks, refl, (refl, tt), refl), refl)),
      (
        _,
        (early 2 (omega arith), (way, awaiting reader ∷ [], ((λ x. absurd (cc)), omega arith, inl refl), omega arith, go-out, refl)),
        (
          _,
          (early 3 (omega arith), (0, record { tickets = ticket 0 ∷ []; node = 0; asking = false }, _, (refl, refl), inr (refl, refl), refl)),
          (
            _,
            (early 4 (omega arith), (_, refl, inr ([], (awaiting reader, Reply read) ∷ [], _, refl, ((0, (refl, refl)), tt), refl, (read-it, refl), refl))),
            (
              _,
              (early 5 (omega arith), (_, refl, refl, inr (_, _, _, refl, refl))),
              (
                _,
                (early 6 (omega arith), (0, 0, awaiting reader, Reply read, (refl, refl), (refl, refl), refl, refl)),
                (
                  _,
                  (early 7 (omega arith), (0, after_told (awaiting reader) (Reply read), _, refl, refl, refl, refl, none-before IsDone, refl)),
                  refl,
                ),
              ),
            ),
          ),
        ),
      ),
    ),
  ),
  refl,
  refl,
)
