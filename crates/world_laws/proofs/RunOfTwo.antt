-- A run of two goes the whole way, step by step.
use Rattle.std.proofs.Common.{◌≡◌, ◌⊎◌, inr, ℕ, zero, suc, ◌<◌, false, true, [], ◌∷◌, Some, refl, sym, ap, arith, codes}
use Rattle.std.specs.Prelude.{All}
use Rattle.resp_wire.specs.declared.value.Value.{Value}
use Rattle.resp_wire.specs.declared.value.Value.TheVariants.{Simple, Bulk}
use Rattle.slot_hash.specs.Slot.{slot_of}
use Rattle.key_split.specs.PartModel.{HasOneSlot}
use Rattle.key_split.specs.declared.travel.Told.TheVariants.{Reply}
use Rattle.command_future.specs.CommandModel.{fresh}
use Rattle.node_model.specs.Nodes.{store_at}
use Rattle.node_model.specs.Runs.{AreReplies}
use Rattle.node_model.specs.Store.{bulk_of}
use Rattle.node_model.proofs.Keys.{get-put-same}
use Rattle.world_laws.specs.State.{Arrival, HasEnded, awaiting, after_told}
use Rattle.world_laws.specs.World.{SameTurn, IsAmong, Way, GoOut, last_moment}
use Rattle.world_laws.specs.RunOfTwo.{one_node, writes, reads, ticket, RunOfTwo}

-- the two commands, and what each is told
abbrev writer : Arrival
writer = record { command = fresh (ticket 0) writes; arrived = 1; answered = false }

abbrev reader : Arrival
reader = record { command = fresh (ticket 1) reads; arrived = 2; answered = false }

abbrev written : Value
written = Simple (codes "OK")

abbrev read : Value
read = Bulk (codes "v")

abbrev way : Way
way = record { client = 7; slot = slot_of (codes "k"); asking = false }

both-answered : AreReplies (store_at one_node 0) (writes ∷ reads ∷ []) (Reply written ∷ Reply read ∷ [])
both-answered = (refl, (sym (ap bulk_of (get-put-same (store_at one_node 0) (codes "k") (Some (codes "v")))), tt))

go-out : GoOut way 0 [] (ticket 0 ∷ ticket 1 ∷ []) (writer ∷ reader ∷ []) (awaiting writer ∷ awaiting reader ∷ [])
go-out = (0, writer, (refl, refl), (refl, refl, tt, refl), (λ k d lt. absurd (omega arith)), (1, reader, (refl, refl), (refl, refl, tt, refl), before, refl))
  where
    before : All (λ d. SameTurn reader d → HasEnded d ⊎ IsAmong (ticket 0 ∷ []) d.command.ticket) (awaiting writer ∷ [])
    before zero d lt turn = inr (0, refl)
    before (suc k) d lt turn = absurd (omega arith)

none-refused : All (λ c. IsAmong (ticket 0 ∷ ticket 1 ∷ []) c.command.ticket → c.command.followed ≡ 0) (writer ∷ reader ∷ [])
none-refused zero d lt x = refl
none-refused (suc zero) d lt x = refl
none-refused (suc (suc k)) d lt x = absurd (omega arith)

none-before : {X : Type 0} (P : X → Type 0) → All P []
none-before P k d lt = absurd (omega arith)

one-before : {X : Type 0} (P : X → Type 0) (x : X) → P x → All P (x ∷ [])
one-before P x h zero d lt = h
one-before P x h (suc k) d lt = absurd (omega arith)

early : (n : ℕ) → n < 20 → n < last_moment
early n lt = omega (arith, lt)

abbrev IsDone : Arrival → Type 0
IsDone d = d.command.ticket.client ≡ 7 → d.answered ≡ true

pub run_of_two : RunOfTwo
run_of_two = (
  _,
  (
    _,
    (early 0 (omega arith), (write-slot, refl)),
    (
      _,
      (early 1 (omega arith), (read-slot, refl)),
      (
        _,
        (early 2 (omega arith), (way, awaiting writer ∷ awaiting reader ∷ [], ((λ x. absurd (cc)), omega arith, inr none-refused), omega arith, go-out, refl)),
        (
          _,
          (early 3 (omega arith), (0, record { tickets = ticket 0 ∷ ticket 1 ∷ []; node = 0; asking = false }, _, (refl, refl), inr (refl, refl), refl)),
          (
            _,
            (early 4 (omega arith), (_, refl, inr ([], (awaiting writer, Reply written) ∷ (awaiting reader, Reply read) ∷ [], _, refl, ((0, (refl, refl)), ((1, (refl, refl)), tt)), refl, (both-answered, refl), refl))),
            (
              _,
              (early 5 (omega arith), (_, refl, refl, inr (_, _, _, refl, refl))),
              (
                _,
                (early 6 (omega arith), (_, refl, refl, inr (_, _, _, refl, refl))),
                (
                  _,
                  (early 7 (omega arith), (0, 0, awaiting writer, Reply written, (refl, refl), (refl, refl), refl, refl)),
                  (
                    _,
                    (early 8 (omega arith), (0, 1, awaiting reader, Reply read, (refl, refl), (refl, refl), refl, refl)),
                    (
                      _,
                      (early 9 (omega arith), (0, after_told (awaiting writer) (Reply written), _, refl, refl, refl, refl, none-before IsDone, refl)),
                      (
                        _,
                        (early 10 (omega arith), (1, after_told (awaiting reader) (Reply read), _, refl, refl, refl, refl, one-before IsDone (record (after_told (awaiting writer) (Reply written)) { answered = true }) (λ _. refl), refl)),
                        refl,
                      ),
                    ),
                  ),
                ),
              ),
            ),
          ),
        ),
      ),
    ),
  ),
  refl,
)
  where
    write-slot : HasOneSlot writes
    write-slot zero d lt = refl
    write-slot (suc k) d lt = absurd (omega arith)

    read-slot : HasOneSlot reads
    read-slot zero d lt = refl
    read-slot (suc k) d lt = absurd (omega arith)
