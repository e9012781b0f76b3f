-- What goes over a port in bytes goes over the wire for which it stands.
-- It is a proof, which a trait's ghost cites, and what one cites may not stand in proofs/.
use Rattle.std.proofs.Common.{◌≡◌, ℕ, List, [], ◌∷◌, ◌++◌, map, refl, sym, ap, ◌∙◌, subst, arith}
use Rattle.std.specs.Prelude.{All}
use Rattle.std.proofs.lemmas.List.{append_assoc, map-append}
use Rattle.std.proofs.lemmas.Grind.{flat_map-append}
use Rattle.std.proofs.lemmas.List.Elements.{All-append, All-cons, All-head, All-nil, All-tail}
use Rattle.std.specs.List.{flat_map}
use Rattle.resp_wire.specs.LimitsModel.{LimitsModel}
use Rattle.resp_wire.specs.declared.value.Value.{Value}
use Rattle.key_split.specs.Laws.{IsPlain}
use Rattle.key_split.specs.Requests.{Request, Asking, Command, Slots}
use Rattle.node_link.specs.declared.replies.Awaited.{Awaited}
use Rattle.node_link.specs.Blocks.{BlockExchanges, IsPlainRequest, Plain, Tells, awaited_by, blocked, sent_for, written_as}
use Rattle.node_link.specs.Bytes.{Splits}
use Rattle.turn_laws.specs.Wire.{Item, Asks, Runs, Lists, Part, items_of, joined, parts_in}
use Rattle.turn_laws.specs.AnyPort.{StandsFor}
use Rattle.turn_laws.specs.ByteWires.{AreAnswers, FarEnd, FlowsTo, IsPlainItem, IsWiredTo, command_in, sent_as}
use Rattle.turn_laws.specs.ByteFronts.{split-front, tells-front}

-- ---- what one call sends, and the wire's items

blocked-is : (part : Part) (items : List Item) → blocked (command_in part) (map sent_as items) ≡ map sent_as (joined part items)
blocked-is part [] = refl
blocked-is part (Asks ∷ items) = refl
blocked-is part (Runs [] ∷ items) = refl
blocked-is part (Runs (p ∷ []) ∷ items) = refl
blocked-is part (Runs (p ∷ q ∷ ps) ∷ items) = refl
blocked-is part (Lists ∷ items) = refl

-- what one call sends is what the wire's items are sent as
grouped : (requests : List Request) → sent_for requests ≡ map sent_as (items_of requests)
grouped [] = refl
grouped (Asking ∷ requests) = ap (λ sent. Plain Asking ∷ sent) (grouped requests)
grouped (Command ticket part ∷ requests) = ap (blocked (Command ticket part)) (grouped requests) ∙ blocked-is (ticket, part) (items_of requests)
grouped (Slots ∷ requests) = ap (λ sent. Plain Slots ∷ sent) (grouped requests)

-- ---- plain parts

alone-plain : (part : Part) → IsPlain part.1 → IsPlainItem (Runs (part ∷ []))
alone-plain part plain = (omega arith, All-cons IsPlain part.1 [] plain (All-nil IsPlain))

joined-plain : (part : Part) (items : List Item) → IsPlain part.1 → All IsPlainItem items → All IsPlainItem (joined part items)
joined-plain part [] plain all = All-cons IsPlainItem (Runs (part ∷ [])) [] (alone-plain part plain) (All-nil IsPlainItem)
joined-plain part (Asks ∷ items) plain all = All-cons IsPlainItem (Runs (part ∷ [])) (Asks ∷ items) (alone-plain part plain) all
joined-plain part (Runs parts ∷ items) plain all =
    All-cons IsPlainItem (Runs (part ∷ parts)) items (omega arith, All-cons IsPlain part.1 (parts_in parts) plain (All-head IsPlainItem (Runs parts) items all).1) (All-tail IsPlainItem (Runs parts) items all)
joined-plain part (Lists ∷ items) plain all = All-cons IsPlainItem (Runs (part ∷ [])) (Lists ∷ items) (alone-plain part plain) all

-- plain requests are sent as plain items
sent-plain : (requests : List Request) → All IsPlainRequest requests → All IsPlainItem (items_of requests)
sent-plain [] all = All-nil IsPlainItem
sent-plain (Asking ∷ requests) all = All-cons IsPlainItem Asks (items_of requests) tt (sent-plain requests (All-tail IsPlainRequest Asking requests all))
sent-plain (Command ticket part ∷ requests) all =
    joined-plain (ticket, part) (items_of requests) (All-head IsPlainRequest (Command ticket part) requests all) (sent-plain requests (All-tail IsPlainRequest (Command ticket part) requests all))
sent-plain (Slots ∷ requests) all = All-cons IsPlainItem Lists (items_of requests) tt (sent-plain requests (All-tail IsPlainRequest Slots requests all))

-- ---- what was sent, behind what was sent before

spelled-behind : (items : List Item) (requests : List Request)
    → flat_map written_as (map sent_as items) ++ flat_map written_as (sent_for requests) ≡ flat_map written_as (map sent_as (items ++ items_of requests))
spelled-behind items requests =
    ap (λ sent. flat_map written_as (map sent_as items) ++ flat_map written_as sent) (grouped requests)
    ∙ sym (flat_map-append written_as (map sent_as items) (map sent_as (items_of requests)))
    ∙ ap (flat_map written_as) (sym (map-append sent_as items (items_of requests)))

awaited-behind : (items : List Item) (requests : List Request)
    → map awaited_by (map sent_as items) ++ map awaited_by (sent_for requests) ≡ map awaited_by (map sent_as (items ++ items_of requests))
awaited-behind items requests =
    ap (λ sent. map awaited_by (map sent_as items) ++ map awaited_by sent) (grouped requests)
    ∙ sym (map-append awaited_by (map sent_as items) (map sent_as (items_of requests)))
    ∙ ap (map awaited_by) (sym (map-append sent_as items (items_of requests)))

-- the bytes on their way, after some were written
goes-on : (before after unsent unsent' bytes written spelled : List ℕ) → after ≡ before ++ written → unsent ++ bytes ≡ written ++ unsent' → before ++ unsent ≡ spelled → after ++ unsent' ≡ spelled ++ bytes
goes-on before after unsent unsent' bytes written spelled grown left is =
    ap (λ xs. xs ++ unsent') grown ∙ append_assoc before written unsent' ∙ ap (λ xs. before ++ xs) (sym left) ∙ sym (append_assoc before unsent bytes) ∙ ap (λ xs. xs ++ bytes) is

-- the values of a wire, after some were given
values-left : (values told given given1 given' values1 told' : List Value) → values ≡ told ++ given → given ≡ given1 ++ given' → told ++ given1 ≡ values1 ++ told' → values ≡ values1 ++ (told' ++ given')
values-left values told given given1 given' values1 told' is cut left =
    is ∙ ap (λ xs. told ++ xs) cut ∙ sym (append_assoc told given1 given') ∙ ap (λ xs. xs ++ given') left ∙ append_assoc values1 told' given'

-- what is read stood first of what the node wrote
read-first : (bounds : LimitsModel) (input before read after : List ℕ) (coming : List Value) → before ≡ read ++ after → Splits bounds (input ++ before) coming [] → Splits bounds ((input ++ read) ++ after) coming []
read-first bounds input before read after coming is s = subst (λ bytes. Splits bounds bytes coming []) (ap (λ xs. input ++ xs) is ∙ sym (append_assoc input read after)) s

-- the replies that came, with those that came now in front of those that are on their way
answers-now : (served : List Awaited) (came now coming later given : List Value) → coming ≡ now ++ later → AreAnswers served (came ++ coming) given → AreAnswers served ((came ++ now) ++ later) given
answers-now served came now coming later given is a = subst (λ replies. AreAnswers served replies given) (ap (λ xs. came ++ xs) is ∙ sym (append_assoc came now later)) a

-- all that is awaited, where more was sent
tells-all : (awaited served pending sent : List Awaited) (replies given : List Value) (left : List Awaited) (rest : List Value) → awaited ≡ served ++ pending → Tells (awaited ++ sent) replies given left rest
    → Tells (served ++ (pending ++ sent)) replies given left rest
tells-all awaited served pending sent replies given left rest is t = subst (λ all. Tells all replies given left rest) (ap (λ xs. xs ++ sent) is ∙ append_assoc served pending sent) t

module _ {S : Type 0} (moved : S → List ℕ → List ℕ → S → Type 0) (far : S → FarEnd) (flows : FlowsTo moved far) where
  pub block-stands : StandsFor (IsWiredTo far) (BlockExchanges moved)
  block-stands old new wire requests values w (came, (written, read, went, left, spells, bounds), (given1, tells, told), blocks, plain) =
      let before = far old.bytes.stream in
      let after = far new.bytes.stream in
      let flow = flows old.bytes.stream new.bytes.stream written read went in
      let cut = split-front old.bytes.input.bounds (old.bytes.input.unread ++ read) after.unread came w.coming new.bytes.input.unread spells
      (read-first old.bytes.input.bounds old.bytes.input.unread before.unread read after.unread w.coming flow.0 w.comes) in
      let pending = map awaited_by (map sent_as wire.items) in
      let sent = map awaited_by (sent_for requests) in
      let ahead = tells-front w.served (pending ++ sent) (old.replies.came ++ came) cut.0 w.given given1 new.replies.awaited new.replies.came
      (answers-now w.served old.replies.came came w.coming cut.0 w.given cut.1 w.answers)
      (tells-all old.replies.awaited w.served pending sent (old.replies.came ++ came) given1 new.replies.awaited new.replies.came w.awaits tells) in (
        record wire { items = wire.items ++ items_of requests; values = new.replies.told ++ ahead.1 },
        (values-left wire.values old.replies.told w.given given1 ahead.1 values new.replies.told w.values ahead.3 told, refl),
        record {
          served = ahead.0;
          coming = cut.0;
          given = ahead.1;
          asks = w.asks ∙ sym (ap (λ (e : FarEnd). e.asking) flow.1);
          plain = All-append IsPlainItem wire.items (items_of requests) w.plain (sent-plain requests plain);
          bounds = bounds ∙ w.bounds;
          goes = goes-on before.unserved after.unserved old.bytes.unsent new.bytes.unsent (flat_map written_as (sent_for requests)) written (flat_map written_as (map sent_as wire.items))
              (ap (λ (e : FarEnd). e.unserved) flow.1) left w.goes
              ∙ spelled-behind wire.items requests;
          awaits = ahead.2 ∙ ap (λ xs. ahead.0 ++ xs) (awaited-behind wire.items requests);
          comes = subst (λ b. Splits b (new.bytes.input.unread ++ after.unread) cut.0 []) (sym bounds) cut.2;
          answers = ahead.4;
          values = refl;
        },
      )
