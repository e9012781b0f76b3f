-- What one call on a stream in memory moves, and what its node serves.
use Rattle.std.proofs.Common.{◌≡◌, ◌⊎◌, inl, inr, ◌<◌, ◌≤◌, ◌+◌, ◌-◌, ℕ, Bool, List, [], ◌∷◌, ◌++◌, Err, length, take, drop, sym, ap, subst, ◌∙◌, arith, append_assoc}
use Rattle.std.specs.Prelude.{All, Result, false, if◌then◌else◌, slice_index_or, true}
use Rattle.std.proofs.lemmas.List.{append-nil, length-append, take-append-le}
use Rattle.std.proofs.lemmas.Grind.{flat_map-append}
use Rattle.resp_wire.specs.Canonical.{canonical}
use Rattle.resp_wire.specs.Data.{Data, simple, error, integer, bulk, null_bulk, array, null_array}
use Rattle.resp_wire.specs.Seen.{data_of}
use Rattle.resp_wire.specs.declared.value.Value.{Value}
use Rattle.slot_map.specs.Table.{Endpoint}
use Rattle.node_model.specs.Nodes.{ClusterModel}
use Rattle.node_model.specs.declared.role.Verdict.{Verdict}
use Rattle.node_link.specs.declared.stream.Flow.{Flow}
use Rattle.node_link.specs.declared.stream.Flow.TheVariants as flow
use Rattle.node_link.specs.Stream.{ReadOutcome, WriteOutcome}
use Rattle.turn_laws.specs.ByteWires.{ReadsItem, asking_after}
use Rattle.turn_laws.specs.Wire.{Item}
use Rattle.turn_play.specs.Answering.{Answers, IsReadable, all_bytes, bytes_of}
use Rattle.turn_play.specs.declared.fault.PlayFault.{PlayFault}
use Rattle.turn_play.specs.declared.fault.PlayFault.TheVariants as fault
use Rattle.turn_play.specs.Stream.{CannotBeServed, IsReplied, StreamAsked, StreamModel, StreamMoves, StreamOffered, StreamOutcome, StreamServes, no_failures}
use Rattle.turn_play.specs.Streaming.{Gives, IsPiece, ReadsSome, ServesItem, WritesSome, stream-still}
use Rattle.turn_play.proofs.ReadBack.{splits-all}

-- ---- spelling

some-bytes : (d : Data) → 0 < length (canonical d)
some-bytes (simple text) = omega arith
some-bytes (error text) = omega arith
some-bytes (integer z) = omega arith
some-bytes (bulk body) = omega arith
some-bytes null_bulk = omega arith
some-bytes (array vs) = omega arith
some-bytes null_array = omega arith

first-of : {X : Type 0} (xs : List X) (x : X) → 0 < length xs → x ≡ slice_index_or xs 0 x → xs ≡ x ∷ drop 1 xs
first-of [] x lt is = absurd (omega (arith, lt))
first-of (y ∷ xs) x lt is = ap (λ z. z ∷ xs) (sym is)

-- the first reply is spelled behind what was spelled
pub first-spelled : (spelled spelled' : List ℕ) (replies replies' : List Value) (first : Value) → 0 < length replies → first ≡ slice_index_or replies 0 first → spelled' ≡ spelled ++ canonical (data_of first) → replies' ≡ drop 1 replies
    → (spelled' ++ all_bytes replies' ≡ spelled ++ all_bytes replies) × (0 < length spelled')
first-spelled spelled spelled' replies replies' first some is wrote rest = (
  ap (λ s. s ++ all_bytes replies') wrote ∙ append_assoc spelled (canonical (data_of first)) (all_bytes replies') ∙ ap (λ rs. spelled ++ (canonical (data_of first) ++ all_bytes rs)) rest ∙ ap (λ rs. spelled ++ all_bytes rs) (sym (first-of replies first some is)),
  omega (arith, some-bytes (data_of first), ap length wrote, length-append spelled (canonical (data_of first))),
)

-- ---- calls of the stream

module _ (old : StreamModel) (unserved spelled : List ℕ) (replies : List Value) (asking broken : Bool) (most : ℕ)
    (view : record { unserved = unserved; unread = spelled ++ all_bytes replies; asking = asking; broken = broken; most = most } ≡ old) where
  -- the stream with these
  abbrev now : List ℕ → List ℕ → List Value → StreamModel
  now unserved' spelled' replies' = record { unserved = unserved'; unread = spelled' ++ all_bytes replies'; asking = asking; broken = broken; most = most }

  pub same-stream : (spelled' : List ℕ) (replies' : List Value) → spelled' ++ all_bytes replies' ≡ spelled ++ all_bytes replies → now unserved spelled' replies' ≡ old
  same-stream spelled' replies' e = (λ i. record { unserved = unserved; unread = e i; asking = asking; broken = broken; most = most }) ∙ view

  unread-is : spelled ++ all_bytes replies ≡ old.unread
  unread-is = ap (λ (s : StreamModel). s.unread) view

  module _ (spelled' : List ℕ) (replies' : List Value) (e : spelled' ++ all_bytes replies' ≡ spelled ++ all_bytes replies) (buffer : List ℕ) (count : ℕ) (left : List ℕ) (g : Gives spelled' buffer count left) where
    moves : StreamMoves old [] (take count buffer) (now unserved left replies')
    moves = (
      sym unread-is ∙ sym e ∙ ap (λ s. s ++ all_bytes replies') g.1 ∙ append_assoc (take count buffer) left (all_bytes replies'),
      λ i. record (view i) { unserved = sym (append-nil (view i).unserved) i; unread = left ++ all_bytes replies' },
    )

    pub some-read : 0 < count → ReadsSome old buffer (flow.Bytes count) (now unserved left replies')
    some-read some = (g.0, moves, some)

    none-left : count ≡ 0 → left ≡ spelled'
    none-left zero = sym (g.1 ∙ ap (λ n. take n buffer ++ left) zero)

    pub none-read : count ≡ 0 → 0 < length buffer → (0 < length spelled') ⊎ (replies' ≡ []) → ReadsSome old buffer flow.Nothing (now unserved left replies')
    none-read zero some spells = (sym unread-is ∙ sym e ∙ nothing (g.2 zero) spells, same-stream left replies' (ap (λ s. s ++ all_bytes replies') (none-left zero) ∙ e))
      where
        nothing : (spelled' ≡ []) ⊎ (length buffer ≡ 0) → (0 < length spelled') ⊎ (replies' ≡ []) → spelled' ++ all_bytes replies' ≡ []
        nothing (inl s) (inl lt) = absurd (omega (arith, lt, ap length s))
        nothing (inl s) (inr r) = ap (λ s. s ++ all_bytes replies') s ∙ ap all_bytes r
        nothing (inr z) spells = absurd (omega (arith, some, z))

  -- a piece was written
  pub some-written : (bytes piece unserved' : List ℕ) → IsPiece bytes piece → unserved' ≡ unserved ++ piece → WritesSome old bytes (flow.Bytes (length piece)) (now unserved' spelled replies)
  some-written bytes piece unserved' p is = (
    p.0,
    (
      sym unread-is,
      (λ i. record { unserved = (is ∙ ap (λ b. unserved ++ b) p.1) i; unread = spelled ++ all_bytes replies; asking = asking; broken = broken; most = most })
          ∙ (λ i. record (view i) { unserved = (view i).unserved ++ take (length piece) bytes; unread = spelled ++ all_bytes replies }),
    ),
    p.2,
  )

  -- ---- what the node serves

  unserved-is : unserved ≡ old.unserved
  unserved-is = ap (λ (s : StreamModel). s.unserved) view

  pub first-back : (item : Item) (count : ℕ) → ReadsItem old.unserved item (drop count old.unserved) → ReadsItem unserved item (drop count unserved)
  first-back item count reads = subst (λ bytes. ReadsItem bytes item (drop count bytes)) (sym unserved-is) reads

  pub item-refused : (table : List Endpoint) (k : ClusterModel) (node : ℕ) (verdict : Verdict) (k' : ClusterModel) (item : Item) (why : PlayFault) → Answers table k node asking item verdict (Err why) k'
      → (new : StreamModel) → new ≡ old → (result : Result (Unit {0}) PlayFault) → result ≡ Err why → ServesItem table k node old item verdict result k' new
  item-refused table k node verdict k' item why x new same result is = subst (λ r. ServesItem table k node old item verdict r k' new) (sym is) (by why x)
    where
      by : (why : PlayFault) → Answers table k node asking item verdict (Err why) k' → ServesItem table k node old item verdict (Err why) k' new
      by fault.NoMemory x = (x, same)
      by fault.NotServed x = (subst (λ b. CannotBeServed table k node b item verdict fault.NotServed) (ap (λ (s : StreamModel). s.asking) view) x.1, x.0, same)
      by fault.OutOfOrder x = absurd x
      by fault.TooLong x = (x.0, subst (λ b. IsReplied table k node b item verdict k' x.0) (ap (λ (s : StreamModel). s.asking) view) x.1, x.2, same)

  pub item-served : (table : List Endpoint) (k : ClusterModel) (node : ℕ) (verdict : Verdict) (k' : ClusterModel) (item : Item) (count : ℕ) (said : List Value)
      → ReadsItem unserved item (drop count unserved) → IsReplied table k node asking item verdict k' said → All IsReadable said
      → (unserved' : List ℕ) → unserved' ≡ drop count unserved → (replies' : List Value) → replies' ≡ replies ++ said → (asking' : Bool) → asking' ≡ asking_after item asking
      → StreamServes table k node old verdict k' (record { unserved = unserved'; unread = spelled ++ all_bytes replies'; asking = asking'; broken = broken; most = most })
  item-served table k node verdict k' item count said reads replied readable unserved' u replies' r asking' a =
      let behind : spelled ++ all_bytes replies' ≡ (spelled ++ all_bytes replies) ++ all_bytes said = ap (λ rs. spelled ++ all_bytes rs) r ∙ ap (λ b. spelled ++ b) (flat_map-append bytes_of replies said) ∙ sym (append_assoc spelled (all_bytes replies) (all_bytes said)) in
      subst
      (λ (o : StreamModel). StreamServes table k node o verdict k' (record { unserved = unserved'; unread = spelled ++ all_bytes replies'; asking = asking'; broken = broken; most = most }))
      view (
        item,
        said,
        all_bytes said,
        subst (ReadsItem unserved item) (sym u) reads,
        replied,
        splits-all said readable,
        λ i. record { unserved = unserved'; unread = behind i; asking = a i; broken = broken; most = most },
      )

-- the room for replies is there
pub appended : {X : Type 0} (b : Bool) (xs ys zs : List X) → b ≡ true → xs ≡ (if b then ys else zs) → xs ≡ ys
appended true xs ys zs is e = e
appended false xs ys zs is e = absurd (cc)

-- why the first item was not served is why nothing was
pub item-failed : (table : List Endpoint) (k : ClusterModel) (node : ℕ) (old : StreamModel) (item : Item) (rest : List ℕ) (verdict : Verdict) (why : PlayFault) (k' : ClusterModel) (new : StreamModel)
    → ReadsItem old.unserved item rest → ServesItem table k node old item verdict (Err why) k' new → (result : Result Bool PlayFault) → result ≡ Err why → StreamOutcome table k node old verdict result k' new
item-failed table k node old item rest verdict why k' new reads x result is = subst (λ r. StreamOutcome table k node old verdict r k' new) (sym is) (by why x)
  where
    by : (why : PlayFault) → ServesItem table k node old item verdict (Err why) k' new → StreamOutcome table k node old verdict (Err why) k' new
    by fault.NoMemory x = x
    by fault.NotServed x = (inr (inr (item, rest, reads, x.0)), x.1, x.2)
    by fault.OutOfOrder x = absurd x
    by fault.TooLong x = (item, rest, x.0, reads, x.1, x.2, x.3)

-- ---- what a stream promises of its calls

still-there : (old new : StreamModel) → new ≡ old → StreamMoves old [] [] new
still-there old new e = subst (λ s. StreamMoves old [] [] s) (sym e) (stream-still old)

pub reads-outcome : (old new : StreamModel) (buffer : List ℕ) (given : Flow) → ReadsSome old buffer given new → ReadOutcome no_failures StreamMoves old buffer given new
reads-outcome old new buffer (flow.Bytes count) x = (x.0, x.1)
reads-outcome old new buffer flow.Nothing x = still-there old new x.1
reads-outcome old new buffer flow.Gone x = (inr (omega arith), still-there old new x)

pub reads-asked : (old new : StreamModel) (buffer : List ℕ) (room : ℕ) (given : Flow) → ReadsSome old buffer given new → StreamAsked old room given new
reads-asked old new buffer room (flow.Bytes count) x = x.2
reads-asked old new buffer room flow.Nothing x = x
reads-asked old new buffer room flow.Gone x = x

pub writes-outcome : (old new : StreamModel) (bytes : List ℕ) (given : Flow) → WritesSome old bytes given new → WriteOutcome no_failures StreamMoves old bytes given new
writes-outcome old new bytes (flow.Bytes count) x = (x.0, x.1)
writes-outcome old new bytes flow.Nothing x = absurd x
writes-outcome old new bytes flow.Gone x = (inr (omega arith), still-there old new x)

pub writes-offered : (old new : StreamModel) (bytes : List ℕ) (given : Flow) → WritesSome old bytes given new → StreamOffered old bytes given new
writes-offered old new bytes (flow.Bytes count) x = x.2
writes-offered old new bytes flow.Nothing x = absurd x
writes-offered old new bytes flow.Gone x = x

-- a piece of the first of two slices
pub piece-first : (first second piece : List ℕ) → 0 < length first → IsPiece first piece → IsPiece (first ++ second) piece
piece-first first second piece some p =
    let shorter : length piece ≤ length first = p.0 in (
      omega (arith, p.0, length-append first second),
      p.1 ∙ sym (take-append-le (length piece) first second shorter),
      inr (elim p.2 [ inl e ↦ absurd (omega (arith, some, ap length e)) | inr lt ↦ lt ]),
    )
