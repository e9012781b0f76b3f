-- What a node serves at a stream, it serves of the wire for which the stream's port stands.
use Rattle.std.proofs.Common.{◌≡◌, ◌⊎◌, ◌∙◌, inl, inr, ℕ, suc, Bool, true, false, List, [], ◌∷◌, ◌++◌, codes, flat_map, length, map, replicate, refl, sym, ap, subst}
use Rattle.std.specs.Prelude.{All}
use Rattle.std.proofs.lemmas.List.Elements.{All-head}
use Rattle.resp_wire.specs.Data.{array, bulk, items_of}
use Rattle.resp_wire.specs.FirstValue.{front, Whole}
use Rattle.resp_wire.specs.LimitsModel.{full}
use Rattle.resp_wire.specs.declared.value.Value.{Value}
use Rattle.resp_wire.specs.declared.value.Value.TheVariants.{Error, Array}
use Rattle.key_split.specs.PartModel.{PartModel}
use Rattle.key_split.specs.Requests.{Asking, Slots}
use Rattle.key_split.specs.Told.{IsWritten, redirect_text}
use Rattle.key_split.specs.declared.travel.Told.{Told}
use Rattle.key_split.specs.declared.travel.Told.TheVariants as told
use Rattle.slot_map.specs.Table.{Endpoint, endpoint_of}
use Rattle.node_model.specs.Nodes.{ClusterModel}
use Rattle.node_model.specs.Runs.{AllTold, DoesRun, deed_for}
use Rattle.node_model.specs.Serving.{by_role, deed_of}
use Rattle.node_model.specs.declared.role.Deed.{Deed}
use Rattle.node_model.specs.declared.role.Deed.TheVariants.{Executes, Says}
use Rattle.node_model.specs.declared.role.KeysHeld.{KeysHeld}
use Rattle.node_model.specs.declared.role.KeysHeld.TheVariants.{AllHeld, SomeHeld, NoneHeld}
use Rattle.node_model.specs.declared.role.Role.{Role}
use Rattle.node_model.specs.declared.role.Role.TheVariants.{Owner, Migrating, Importing, Away}
use Rattle.node_model.specs.declared.role.Verdict.{Verdict}
use Rattle.node_model.specs.declared.role.Verdict.TheVariants as verdict
use Rattle.node_link.specs.Blocks.{IsToldBy, awaited_by, written_as}
use Rattle.node_link.specs.Bytes.{Splits, words_in}
use Rattle.node_link.specs.Runs.{IsToldByBlock, told_of_none}
use Rattle.world_laws.specs.World.{NamesNode}
use Rattle.turn_laws.specs.Wire.{Wire, Item, Part, Asks, Runs, Lists, Execution, executions, new_wire, parts_in}
use Rattle.turn_laws.specs.AnyPort.{OpensWires}
use Rattle.turn_laws.specs.ByteWires.{AnswersItem, AreAlike, BeginsWire, IsPlainItem, ItemsAreReadBack, ReadsItem, ServesWire, asking_after, command_in, over_stream, sent_as, served_wire}
use Rattle.turn_laws.specs.ByteFronts.{split-front}
use Rattle.turn_laws.specs.Writing.{AreWritten}
use Rattle.turn_play.specs.May.{AreSaid, MayServeNext, again}
use Rattle.turn_play.specs.Port.{PortModel, IsEnd, IsFresh, most_at_first}
use Rattle.turn_play.specs.Serving.{IsRefusal, IsRunSaid, okay}
use Rattle.turn_play.specs.Stream.{BlockDone, IsReplied, StreamModel, StreamServes, exec_aborted, far_end, new_stream}
use Rattle.turn_play.proofs.BlocksTold.{again-told, all-again, ask-told, executed-told, moved-told, none-written, refused-told, said-again, same-values, tolds_again}
use Rattle.turn_play.proofs.Said.{as-many, as-many-replies, as-many-written}

-- ---- items that differ in their tickets alone

module _ (table : List Endpoint) (k : ClusterModel) (node : ℕ) (asking : Bool) (how : Verdict) (k' : ClusterModel) (replies : List Value) where
  -- the same replies are theirs
  runs-alike : (parts others : List Part) → parts_in parts ≡ parts_in others → IsReplied table k node asking (Runs others) how k' replies → IsReplied table k node asking (Runs parts) how k' replies
  runs-alike [] [] same x = x
  runs-alike [] (o ∷ others) same x = let n : [] ≡ o.1 ∷ parts_in others = same in absurd (cc)
  runs-alike (p ∷ parts) [] same x = absurd x
  runs-alike (p ∷ []) (o ∷ []) same x = subst (λ cs. IsRunSaid table k node asking cs how k' replies) (sym same) x
  runs-alike (p ∷ []) (o ∷ next ∷ others) same x = let n : p.1 ∷ [] ≡ o.1 ∷ next.1 ∷ parts_in others = same in absurd (cc)
  runs-alike (p ∷ q ∷ parts) (o ∷ []) same x = let n : p.1 ∷ q.1 ∷ parts_in parts ≡ o.1 ∷ [] = same in absurd (cc)
  runs-alike (p ∷ q ∷ parts) (o ∷ next ∷ others) same x = subst (λ cs. NamesNode k how × BlockDone table (deed_for k node asking cs how) k node cs k' replies) (sym same) x

  replied-alike : (item heard : Item) → AreAlike item heard → IsReplied table k node asking heard how k' replies → IsReplied table k node asking item how k' replies
  replied-alike Asks Asks same x = x
  replied-alike Asks (Runs others) same x = absurd same
  replied-alike Asks Lists same x = absurd same
  replied-alike (Runs parts) Asks same x = absurd same
  replied-alike (Runs parts) (Runs others) same x = runs-alike parts others same x
  replied-alike (Runs parts) Lists same x = absurd same
  replied-alike Lists Asks same x = absurd same
  replied-alike Lists (Runs others) same x = absurd same
  replied-alike Lists Lists same x = x

-- the flag is set alike
asks-alike : (item heard : Item) (asking : Bool) → AreAlike item heard → asking_after heard asking ≡ asking_after item asking
asks-alike Asks Asks asking same = refl
asks-alike Asks (Runs others) asking same = absurd same
asks-alike Asks Lists asking same = absurd same
asks-alike (Runs parts) Asks asking same = absurd same
asks-alike (Runs parts) (Runs others) asking same = refl
asks-alike (Runs parts) Lists asking same = absurd same
asks-alike Lists Asks asking same = absurd same
asks-alike Lists (Runs others) asking same = absurd same
asks-alike Lists Lists asking same = refl

-- ---- in no bytes stands an item

none-read : (words : List (List ℕ)) (more : List ℕ) → front full [] ≡ Whole (array (items_of (map bulk words))) more → ⊥
none-read words more is =
    let cut = split-front full [] [] (Array (map bulk words) ∷ []) [] more (more, is, refl) refl in
    let n : [] ≡ Array (map bulk words) ∷ cut.0 = cut.1 in
    absurd (cc)

none-stands : (item : Item) (rest : List ℕ) → ReadsItem [] item rest → ⊥
none-stands Asks rest x = none-read (words_in Asking) x.1.0 x.1.1
none-stands (Runs []) rest x = none-read (codes "MULTI" ∷ []) x.1.0 x.1.1
none-stands (Runs (p ∷ [])) rest x = none-read (words_in (command_in p)) x.1.0 x.1.1
none-stands (Runs (p ∷ q ∷ parts)) rest x = none-read (codes "MULTI" ∷ []) x.1.0 x.1.1
none-stands Lists rest x = none-read (words_in Slots) x.1.0 x.1.1

no-front : {X : Type 0} (xs ys : List X) → xs ++ ys ≡ [] → xs ≡ []
no-front [] ys is = refl
no-front (x ∷ xs) ys is = let n : x ∷ (xs ++ ys) ≡ [] = is in absurd (cc)

-- ---- what a node says in place of executing is no reply

Refuses : Deed → Type 0
Refuses Executes = Unit {0}
Refuses (Says said) = IsRefusal said

role-refuses : (role : Role) (asking : Bool) (held : KeysHeld) (one : Bool) (slot : ℕ) → Refuses (by_role role asking held one slot)
unfolding Refuses
role-refuses Owner asking held one slot = tt
role-refuses (Migrating target) asking AllHeld one slot = tt
role-refuses (Migrating target) asking SomeHeld one slot = tt
role-refuses (Migrating target) asking NoneHeld one slot = tt
role-refuses (Importing source) false held one slot = tt
role-refuses (Importing source) true AllHeld one slot = tt
role-refuses (Importing source) true SomeHeld true slot = tt
role-refuses (Importing source) true SomeHeld false slot = tt
role-refuses (Importing source) true NoneHeld true slot = tt
role-refuses (Importing source) true NoneHeld false slot = tt
role-refuses (Away node) asking held one slot = tt

deed-refuses : (how : Verdict) (role : Role) (asking : Bool) (held : KeysHeld) (one : Bool) (slot : ℕ) → Refuses (deed_of how role asking held one slot)
unfolding Refuses
deed-refuses verdict.Plain role asking held one slot = role-refuses role asking held one slot
deed-refuses (verdict.Moved node) role asking held one slot = tt
deed-refuses verdict.TryAgain role asking held one slot = tt
deed-refuses verdict.ClusterDown role asking held one slot = tt

no-reply : (k : ClusterModel) (node : ℕ) (asking : Bool) (cs : List PartModel) (how : Verdict) (value : Value) → deed_for k node asking cs how ≡ Says (told.Reply value) → ⊥
unfolding Refuses
no-reply k node asking cs how value is = subst Refuses is (deed-refuses how _ asking _ _ _)

-- ---- what is served of an item

as-many-commands : (parts : List Part) → length (parts_in parts) ≡ length (map command_in parts)
as-many-commands [] = refl
as-many-commands (part ∷ parts) = ap suc (as-many-commands parts)

-- The node serves as the verdict says, or it refuses by TRYAGAIN: so a block is heard that it refused by CLUSTERDOWN or TRYAGAIN.
abbrev pub IsHeardAs : Verdict → Verdict → Type 0
IsHeardAs given how = (how ≡ given) ⊎ (how ≡ verdict.TryAgain)

module _ (table : List Endpoint) (k : ClusterModel) (node : ℕ) (wire : Wire) (rest : List Item) (given : Verdict) (k' : ClusterModel) (replies : List Value) where
  -- the replies to the item give values with which the node serves it
  abbrev ServesItem : Item → Type 0
  ServesItem item =
      (how : Verdict) × IsHeardAs given how × (values : List Value) × (done : List Execution) × IsToldBy (awaited_by (sent_as item)) replies values
      × MayServeNext table k node wire how k' (served_wire wire item rest values) values done

  module _ (p q : Part) (ps : List Part) (first : wire.items ≡ Runs (p ∷ q ∷ ps) ∷ rest) (named : NamesNode k given) where
    abbrev parts : List Part
    parts = p ∷ q ∷ ps

    abbrev cs : List PartModel
    cs = parts_in parts

    -- a block that was done as this verdict says
    block-served : (how : Verdict) → IsHeardAs given how → NamesNode k how → (tolds : List Told) (values : List Value) → DoesRun (deed_for k node wire.asking cs how) k node cs tolds k' → AreSaid table tolds values → IsToldByBlock (length cs) replies values
        → ServesItem (Runs parts)
    block-served how is there tolds values does said by =
        (how, is, values, executions parts tolds, subst (λ n. IsToldByBlock n replies values) (as-many-commands parts) by, inr (inl (rest, parts, tolds, first, there, does, said, refl, refl)))

    -- it was refused by this line
    abbrev IsLine : Told → List ℕ → Type 0
    IsLine said line = (value : Value) → IsWritten said table value → value ≡ Error line

    abbrev by_line : List ℕ → List Value
    by_line line = okay ∷ (replicate (length cs) (Error line) ++ exec_aborted ∷ [])

    module _ (said : Told) (says : deed_for k node wire.asking cs given ≡ Says said) (tolds : List Told) (values : List Value) (all : AllTold said cs tolds) (same : k' ≡ k) (written : AreWritten table tolds values)
        (is : replies ≡ okay ∷ (values ++ exec_aborted ∷ [])) (line : List ℕ) (its : IsLine said line) where
      each : values ≡ replicate (length cs) (Error line)
      each = same-values table said (Error line) its cs tolds values all written

      told-so : (value : Value) → told_of_none (replicate (length cs) (Error line)) exec_aborted ≡ value → IsToldByBlock (length cs) replies (replicate (length cs) value)
      told-so value to = subst (λ rs. IsToldByBlock (length cs) rs (replicate (length cs) value)) (sym (is ∙ ap (λ vs. okay ∷ (vs ++ exec_aborted ∷ [])) each)) (refused-told (length cs) line value to)

      -- a line that leads on is told to each
      leads-on : told_of_none (replicate (length cs) (Error line)) exec_aborted ≡ Error line → ServesItem (Runs parts)
      leads-on to =
          block-served given (inl refl) named tolds values (subst (λ d. DoesRun d k node cs tolds k') (sym says) (all, same)) (inl written)
          (subst (λ vs. IsToldByBlock (length cs) replies vs) (sym each) (told-so (Error line) to))

      -- any other is told as TRYAGAIN
      leads-nowhere : told_of_none (replicate (length cs) (Error line)) exec_aborted ≡ again → ServesItem (Runs parts)
      leads-nowhere to =
          block-served verdict.TryAgain (inr refl) refl (tolds_again cs) (replicate (length cs) again) (all-again cs, same) (inr (said-again cs)) (told-so again to)

    refused-block : (said : Told) → deed_for k node wire.asking cs given ≡ Says said → (tolds : List Told) (values : List Value) → AllTold said cs tolds → k' ≡ k → AreWritten table tolds values → replies ≡ okay ∷ (values ++ exec_aborted ∷ [])
        → ServesItem (Runs parts)
    refused-block (told.Reply value) says tolds values all same written is = absurd (no-reply k node wire.asking cs given value says)
    refused-block (told.Moved slot to) says tolds values all same written is =
        leads-on (told.Moved slot to) says tolds values all same written is (redirect_text (codes "MOVED ") slot (endpoint_of table to)) (λ value e. e) (moved-told slot (endpoint_of table to) (suc (length (parts_in ps))))
    refused-block (told.Ask slot to) says tolds values all same written is =
        leads-on (told.Ask slot to) says tolds values all same written is (redirect_text (codes "ASK ") slot (endpoint_of table to)) (λ value e. e) (ask-told slot (endpoint_of table to) (suc (length (parts_in ps))))
    refused-block told.TryAgain says tolds values all same written is =
        let line = codes "TRYAGAIN Multiple keys request during rehashing of slot" in
        leads-nowhere told.TryAgain says tolds values all same written is line (λ value e. e) (again-told line refl refl (suc (length (parts_in ps))))
    refused-block told.ClusterDown says tolds values all same written is =
        let line = codes "CLUSTERDOWN Hash slot not served" in
        leads-nowhere told.ClusterDown says tolds values all same written is line (λ value e. e) (again-told line refl refl (suc (length (parts_in ps))))
    refused-block told.Unclear says tolds values all same written is = absurd (none-written table told.Unclear (λ value e. e) p.1 (parts_in (q ∷ ps)) tolds values all written)
    refused-block told.Lost says tolds values all same written is = absurd (none-written table told.Lost (λ value e. e) p.1 (parts_in (q ∷ ps)) tolds values all written)
    refused-block told.Unsent says tolds values all same written is = absurd (none-written table told.Unsent (λ value e. e) p.1 (parts_in (q ∷ ps)) tolds values all written)

    done-block : (deed : Deed) → deed_for k node wire.asking cs given ≡ deed → BlockDone table deed k node cs k' replies → ServesItem (Runs parts)
    done-block Executes does (tolds, values, exec, told-each, after, written, array-is, is) =
        block-served given (inl refl) named tolds values (subst (λ d. DoesRun d k node cs tolds k') (sym does) (told-each, after)) (inl written)
        (subst (λ rs. IsToldByBlock (length cs) rs values) (sym is)
        (executed-told (length cs) values exec array-is (as-many-written table tolds values written ∙ as-many-replies cs _ tolds told-each)))
    done-block (Says said) says (tolds, values, all, same, written, is) = refused-block said says tolds values all same written is

  by-item : (item : Item) → wire.items ≡ item ∷ rest → IsReplied table k node wire.asking item given k' replies → ServesItem item
  by-item Asks first x = (given, inl refl, replies, [], (ap length x.1, refl), inl (rest, okay, first, x.1, x.0, refl, refl))
  by-item (Runs []) first x = absurd x
  by-item (Runs (p ∷ [])) first (tolds, named, does, written) = (
    given,
    inl refl,
    replies,
    executions (p ∷ []) tolds,
    (as-many-written table tolds replies written ∙ as-many (deed_for k node wire.asking (p.1 ∷ []) given) k node (p.1 ∷ []) tolds k' does, refl),
    inr (inl (rest, p ∷ [], tolds, first, named, does, inl written, refl, refl)),
  )
  by-item (Runs (p ∷ q ∷ ps)) first x = done-block p q ps first x.0 (deed_for k node wire.asking (parts_in (p ∷ q ∷ ps)) given) refl x.1
  by-item Lists first (value, same, is, lists) = (given, inl refl, replies, [], (ap length is, refl), inr (inr (rest, value, first, is, same, refl, refl)))

-- ---- at a port

-- the node serves the wire, as the verdict says or as by TRYAGAIN, and the port stands for the wire behind it
abbrev pub Served : List Endpoint → ClusterModel → ℕ → Wire → Verdict → ClusterModel → PortModel → Type 0
Served table k node wire given k' port' =
    (how : Verdict) × IsHeardAs given how × (wire' : Wire) × (values : List Value) × (done : List Execution)
    × MayServeNext table k node wire how k' wire' values done × (wire'.values ≡ wire.values ++ values) × IsEnd port' wire'

-- what is brought in of ports over bytes
pub record ByteLaws : Type 0 where
  pub begins : BeginsWire far_end
  pub serves : ServesWire far_end
  pub reads : ItemsAreReadBack

-- a port that is opened stands for a new wire
pub port-opens : ByteLaws → (nodes : List Endpoint) (opened : ℕ) → OpensWires IsEnd nodes opened IsFresh
port-opens laws nodes opened node at port before now there fresh =
    subst (λ (p : PortModel). IsEnd p (new_wire opened node)) (sym fresh) (laws.begins (new_stream most_at_first) true opened node refl)

module _ (laws : ByteLaws) (table : List Endpoint) (k : ClusterModel) (node : ℕ) (port : PortModel) (wire : Wire) (on : IsEnd port wire) (given : Verdict) (k' : ClusterModel) (stream : StreamModel) where
  abbrev before : StreamModel
  before = port.bytes.stream

  -- what was served is the wire's first item
  first-served : (heard : Item) (replies : List Value) (bytes : List ℕ) → ReadsItem before.unserved heard stream.unserved → IsReplied table k node before.asking heard given k' replies → Splits full bytes replies []
      → stream ≡ record before { asking = asking_after heard before.asking; unserved = stream.unserved; unread = before.unread ++ bytes } → (items : List Item) → wire.items ≡ items → Served table k node wire given k' (over_stream port stream)
  first-served heard replies bytes read replied spells leaves [] none =
      let nothing : before.unserved ≡ [] = no-front before.unserved port.bytes.unsent (on.goes ∙ ap (λ items. flat_map written_as (map sent_as items)) none) in
      absurd (none-stands heard stream.unserved (subst (λ unserved. ReadsItem unserved heard stream.unserved) nothing read))
  first-served heard replies bytes read replied spells leaves (item ∷ rest) first =
      let goes : before.unserved ++ port.bytes.unsent ≡ written_as (sent_as item) ++ flat_map written_as (map sent_as rest) = on.goes ∙ ap (λ items. flat_map written_as (map sent_as items)) first in
      let plain = All-head IsPlainItem item rest (subst (All IsPlainItem) first on.plain) in
      let back = laws.reads item heard before.unserved port.bytes.unsent (flat_map written_as (map sent_as rest)) stream.unserved plain goes read in
      let asked = subst (λ b. IsReplied table k node b heard given k' replies) (sym on.asks) replied in
      let s = by-item table k node wire rest given k' replies item first (replied-alike table k node wire.asking given k' replies item heard back.0 asked) in
      let answered : AnswersItem port.bytes.input.bounds (far_end before) item s.2 (far_end stream) = record {
        replies = replies;
        bytes = bytes;
        takes = back.1;
        spells = subst (λ b. Splits b bytes replies []) (sym on.bounds) spells;
        says = s.4;
        leaves = ap far_end leaves ∙ (λ i. record { asking = asks-alike item heard before.asking back.0 i; unserved = stream.unserved; unread = before.unread ++ bytes });
      } in
      (s.0, s.1, served_wire wire item rest s.2, s.2, s.3, s.5, refl, laws.serves port stream wire item rest s.2 on first answered)

  pub served : StreamServes table k node before given k' stream → Served table k node wire given k' (over_stream port stream)
  served (heard, replies, bytes, read, replied, spells, leaves) = first-served heard replies bytes read replied spells leaves wire.items refl
