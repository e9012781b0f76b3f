-- What a node answers in bytes goes behind what it answered before.
use Rattle.std.proofs.Common.{◌≡◌, ℕ, List, [], ◌∷◌, ◌++◌, map, refl, sym, ap, ◌∙◌, subst}
use Rattle.std.proofs.lemmas.List.{append-nil, append_assoc}
use Rattle.std.proofs.lemmas.List.Elements.{All-nil, All-rest}
use Rattle.std.specs.List.{flat_map}
use Rattle.resp_wire.specs.LimitsModel.{LimitsModel}
use Rattle.resp_wire.specs.Seen.{data_of}
use Rattle.resp_wire.specs.declared.value.Value.{Value}
use Rattle.resp_wire.proofs.KeepLaws.{front_keeps_value}
use Rattle.node_link.specs.declared.replies.Awaited.{Awaited}
use Rattle.node_link.specs.Blocks.{IsToldBy, awaited_by, written_as}
use Rattle.node_link.specs.Bytes.{Splits}
use Rattle.turn_laws.specs.ByteWires.{AreAnswers, BeginsWire, FarEnd, IsPlainItem, ServesWire, asking_after, sent_as}
use Rattle.turn_laws.specs.ByteFronts.{cut-same}

-- values that more bytes spell go behind
splits-behind : (bounds : LimitsModel) (bytes more : List ℕ) (coming next : List Value) → Splits bounds bytes coming [] → Splits bounds more next [] → Splits bounds (bytes ++ more) (coming ++ next) []
splits-behind bounds bytes more [] next s t = subst (λ b. Splits bounds (b ++ more) next []) (sym s) t
splits-behind bounds bytes more (value ∷ coming) next s t =
    (s.0 ++ more, front_keeps_value bounds bytes s.0 more (data_of value) s.1, splits-behind bounds s.0 more coming next s.2 t)

-- replies to one thing more
answers-behind : (served : List Awaited) (one : Awaited) (replies given own told : List Value) → AreAnswers served replies given → IsToldBy one own told → AreAnswers (served ++ one ∷ []) (replies ++ own) (given ++ told)
answers-behind [] one replies given own told a t =
    (own, [], told, [], ap (λ r. r ++ own) a.0 ∙ sym (append-nil own), t, ap (λ g. g ++ told) a.1 ∙ sym (append-nil told), (refl, refl))
answers-behind (s ∷ ss) one replies given own told (own1, more, told1, further, is, by, gives, last) t =
    (own1, more ++ own, told1, further ++ told, ap (λ r. r ++ own) is ∙ append_assoc own1 more own, by, ap (λ g. g ++ told) gives ∙ append_assoc told1 further told, answers-behind ss one more further own told last t)

-- the bytes of the first item are gone
goes-less : (unserved unserved' unsent first rest : List ℕ) → unserved ≡ first ++ unserved' → unserved ++ unsent ≡ first ++ rest → unserved' ++ unsent ≡ rest
goes-less unserved unserved' unsent first rest takes is =
    (cut-same first (unserved' ++ unsent) first rest refl (sym (append_assoc first unserved' unsent) ∙ ap (λ xs. xs ++ unsent) (sym takes) ∙ is)).1

module _ {S : Type 0} (far : S → FarEnd) where
  pub serves-bytes : ServesWire far
  serves-bytes port stream wire item rest values w first a =
      let before = far port.bytes.stream in
      let after = far stream in
      let sent = sent_as item in
      let pending = map awaited_by (map sent_as rest) in
      record {
        served = w.served ++ awaited_by sent ∷ [];
        coming = w.coming ++ a.replies;
        given = w.given ++ values;
        asks = ap (asking_after item) w.asks ∙ sym (ap (λ (e : FarEnd). e.asking) a.leaves);
        plain = All-rest IsPlainItem item rest wire.items first w.plain;
        bounds = w.bounds;
        goes = goes-less before.unserved after.unserved port.bytes.unsent (written_as sent) (flat_map written_as (map sent_as rest)) a.takes
            (w.goes ∙ ap (λ items. flat_map written_as (map sent_as items)) first);
        awaits = w.awaits ∙ ap (λ items. w.served ++ map awaited_by (map sent_as items)) first ∙ sym (append_assoc w.served (awaited_by sent ∷ []) pending);
        comes = subst (λ bytes. Splits port.bytes.input.bounds bytes (w.coming ++ a.replies) [])
            (append_assoc port.bytes.input.unread before.unread a.bytes ∙ ap (λ xs. port.bytes.input.unread ++ xs) (sym (ap (λ (e : FarEnd). e.unread) a.leaves)))
            (splits-behind port.bytes.input.bounds (port.bytes.input.unread ++ before.unread) a.bytes w.coming a.replies w.comes a.spells);
        answers = subst (λ replies. AreAnswers (w.served ++ awaited_by sent ∷ []) replies (w.given ++ values)) (append_assoc port.replies.came w.coming a.replies)
            (answers-behind w.served (awaited_by sent) (port.replies.came ++ w.coming) w.given a.replies values w.answers a.says);
        values = ap (λ xs. xs ++ values) w.values ∙ append_assoc port.replies.told w.given values;
      }

  -- nothing is on its way at a beginning
  pub begins-bytes : BeginsWire far
  begins-bytes stream takes_blocks id node is = record {
    served = [];
    coming = [];
    given = [];
    asks = sym (ap (λ (e : FarEnd). e.asking) is);
    plain = All-nil IsPlainItem;
    bounds = refl;
    goes = ap (λ (e : FarEnd). e.unserved ++ []) is;
    awaits = refl;
    comes = ap (λ (e : FarEnd). e.unread) is;
    answers = (refl, refl);
    values = refl;
  }
