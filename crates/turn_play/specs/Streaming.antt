-- The bytes of a stream in memory: how they are moved in pieces.
use Rattle.std.specs.Prelude.{◌≡◌, ◌⊎◌, ◌<◌, ◌≤◌, ℕ, List, [], ◌++◌, Result, Ok, Err, length, take}
use Rattle.std.proofs.Common.{refl, sym, ap, ◌∙◌}
use Rattle.std.proofs.lemmas.List.{append-nil, append_assoc}
use Rattle.resp_wire.specs.declared.value.Value.{Value}
use Rattle.slot_map.specs.Table.{Endpoint}
use Rattle.node_link.specs.declared.stream.Flow.{Flow}
use Rattle.node_link.specs.declared.stream.Flow.TheVariants as flow
use Rattle.node_model.specs.Nodes.{ClusterModel}
use Rattle.node_model.specs.declared.role.Verdict.{Verdict}
use Rattle.turn_laws.specs.ByteWires.{FlowsTo}
use Rattle.turn_laws.specs.Wire.{Item}
use Rattle.turn_play.specs.declared.fault.PlayFault.{PlayFault}
use Rattle.turn_play.specs.declared.fault.PlayFault.TheVariants.{NoMemory, NotServed, OutOfOrder, TooLong}
use Rattle.turn_play.specs.Stream.{AreTooLong, CannotBeServed, IsReplied, StreamModel, StreamMoves, StreamServes, far_end}

-- ---- moves

pub stream-still : (stream : StreamModel) → StreamMoves stream [] [] stream
stream-still stream = (refl, λ i. record stream { unserved = sym (append-nil stream.unserved) i })

pub stream-joined : (a b c : StreamModel) (w r w' r' : List ℕ) → StreamMoves a w r b → StreamMoves b w' r' c → StreamMoves a (w ++ w') (r ++ r') c
stream-joined a b c w r w' r' x y = (
  x.0 ∙ ap (λ bytes. r ++ bytes) y.0 ∙ sym (append_assoc r r' c.unread),
  y.1 ∙ (λ i. record (x.1 i) { unserved = (x.1 i).unserved ++ w'; unread = c.unread }) ∙ (λ i. record a { unserved = append_assoc a.unserved w w' i; unread = c.unread }),
)

pub stream-flows : FlowsTo StreamMoves far_end
stream-flows old new written read x = (x.0, ap far_end x.1)

-- ---- pieces

-- at most so many bytes left the front; some, where there were some
abbrev pub Gives : List ℕ → List ℕ → ℕ → List ℕ → Type 0
Gives old buffer count new =
    (count ≤ length buffer) × (old ≡ take count buffer ++ new) × ((count ≡ 0) → (old ≡ []) ⊎ (length buffer ≡ 0))

-- the piece stands first of the bytes, and has some where there are some
abbrev pub IsPiece : List ℕ → List ℕ → Type 0
IsPiece bytes piece = (length piece ≤ length bytes) × (piece ≡ take (length piece) bytes) × ((bytes ≡ []) ⊎ (0 < length piece))

-- ---- calls

-- some bytes were read, or there was none to be read
abbrev pub ReadsSome : StreamModel → List ℕ → Flow → StreamModel → Type 0
ReadsSome old buffer (flow.Bytes count) new = (count ≤ length buffer) × StreamMoves old [] (take count buffer) new × (0 < count)
ReadsSome old buffer flow.Nothing new = (old.unread ≡ []) × (new ≡ old)
ReadsSome old buffer flow.Gone new = new ≡ old

-- some bytes were written, where there were some
abbrev pub WritesSome : StreamModel → List ℕ → Flow → StreamModel → Type 0
WritesSome old bytes (flow.Bytes count) new = (count ≤ length bytes) × StreamMoves old (take count bytes) [] new × ((bytes ≡ []) ⊎ (0 < count))
WritesSome old bytes flow.Nothing new = ⊥
WritesSome old bytes flow.Gone new = new ≡ old

-- ---- an item

-- the first item was served, or it was not and nothing has changed, or its commands were done and the replies can't be written
abbrev pub ServesItem : List Endpoint → ClusterModel → ℕ → StreamModel → Item → Verdict → Result (Unit {0}) PlayFault → ClusterModel → StreamModel → Type 0
ServesItem table k node old item verdict (Ok _) k' new = StreamServes table k node old verdict k' new
ServesItem table k node old item verdict (Err NoMemory) k' new = (k' ≡ k) × (new ≡ old)
ServesItem table k node old item verdict (Err NotServed) k' new = CannotBeServed table k node old.asking item verdict NotServed × (k' ≡ k) × (new ≡ old)
ServesItem table k node old item verdict (Err OutOfOrder) k' new = ⊥
ServesItem table k node old item verdict (Err TooLong) k' new =
    (replies : List Value) × IsReplied table k node old.asking item verdict k' replies × AreTooLong replies × (new ≡ old)
