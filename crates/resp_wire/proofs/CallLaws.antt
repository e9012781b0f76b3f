-- What a run of calls gives.
use Rattle.std.proofs.Common.{◌≡◌, ◌≢◌, ℕ, List, [], ◌∷◌, ◌++◌, Option, Some, None, Result, Ok, Err, refl, sym, ap, subst, ◌∙◌, append_assoc, inl, inr, ◌⊎◌}
use Rattle.std.proofs.lemmas.List.{append-nil}
use Rattle.resp_wire.specs.Data.{Data, Items, items_of}
use Rattle.resp_wire.specs.Seen.{data_of}
use Rattle.resp_wire.specs.LimitsModel.{LimitsModel}
use Rattle.resp_wire.specs.Spelling.{Spells, SpellsAll}
use Rattle.resp_wire.specs.ReaderModel.{ReaderModel}
use Rattle.resp_wire.specs.FirstValue.{Front, Whole, Partial, Faulty, front, Feeds, ReaderTakes}
use Rattle.resp_wire.specs.Calls.{ReaderCall, fed, took, fresh, Runs, bytes_of, values_of, IsDrained}
use Rattle.resp_wire.specs.Stream.{HasFault}
use Rattle.resp_wire.specs.Laws.{SpelledInOrder, CutsAlike}
use Rattle.resp_wire.specs.declared.value.Value.{Value}
use Rattle.resp_wire.specs.declared.fault.WireFault.{WireFault}
use Rattle.resp_wire.specs.declared.fault.WireFault.TheVariants.{NoMemory, BadType, BadNumber, TooLong, TooMany, TooDeep, BadEnd}
use Rattle.resp_wire.proofs.FrontLaws.{front_is_whole, front_is_faulty}
use Rattle.resp_wire.proofs.KeepLaws.{front_keeps_value, front_keeps_fault}

-- the values leave the front one after another, and the rest is left
abbrev GivesAll : LimitsModel → List ℕ → List Data → List ℕ → Type 0
GivesAll l bytes [] rest = bytes ≡ rest
GivesAll l bytes (v ∷ vs) rest = (after : List ℕ) × (front l bytes ≡ Whole v after) × GivesAll l after vs rest

gives_more : (l : LimitsModel) (bytes rest more : List ℕ) (vs : List Data) → GivesAll l bytes vs rest → GivesAll l (bytes ++ more) vs (rest ++ more)
gives_more l bytes rest more [] g = ap (λ (u : List ℕ). u ++ more) g
gives_more l bytes rest more (v ∷ vs) g = (g.0 ++ more, front_keeps_value l bytes g.0 more v g.1, gives_more l g.0 rest more vs g.2)

gives_then : (l : LimitsModel) (bytes rest after : List ℕ) (vs : List Data) (v : Data) → GivesAll l bytes vs rest → front l rest ≡ Whole v after → GivesAll l bytes (vs ++ v ∷ []) after
gives_then l bytes rest after [] v g e = (after, ap (front l) g ∙ e, refl)
gives_then l bytes rest after (w ∷ vs) v g e = (g.0, g.1, gives_then l g.0 rest after vs v g.2 e)

spelled : (l : LimitsModel) (bytes rest : List ℕ) (vs : List Data) → GivesAll l bytes vs rest → (text : List ℕ) × SpellsAll l l.depth text (items_of vs) × (bytes ≡ text ++ rest)
spelled l bytes rest [] g = ([], refl, g)
spelled l bytes rest (v ∷ vs) g =
    let b = (front_is_whole l bytes g.0 v).0 g.1 in
    let t = spelled l g.0 rest vs g.2 in
    (b.0 ++ t.0, (b.0, t.0, refl, b.1, t.1), b.2 ∙ ap (λ (u : List ℕ). b.0 ++ u) t.2 ∙ sym (append_assoc b.0 t.0 rest))

-- no value is whole at the front
abbrev NoneLeft : LimitsModel → List ℕ → Type 0
NoneLeft l rest = (v : Data) (after : List ℕ) → front l rest ≡ Whole v after → ⊥

whole_value : (v w : Data) (p q : List ℕ) → Whole v p ≡ Whole w q → v ≡ w
whole_value v w p q e = cc

whole_rest : (v w : Data) (p q : List ℕ) → Whole v p ≡ Whole w q → p ≡ q
whole_rest v w p q e = cc

gives_same : (l : LimitsModel) (bytes p q : List ℕ) (vs ws : List Data) → GivesAll l bytes vs p → GivesAll l bytes ws q → NoneLeft l p → NoneLeft l q → (vs ≡ ws) × (p ≡ q)
gives_same l bytes p q [] [] g h m n = (refl, sym g ∙ h)
gives_same l bytes p q [] (w ∷ ws) g h m n = absurd (m w h.0 (ap (front l) (sym g) ∙ h.1))
gives_same l bytes p q (v ∷ vs) [] g h m n = absurd (n v g.0 (ap (front l) (sym h) ∙ g.1))
gives_same l bytes p q (v ∷ vs) (w ∷ ws) g h m n =
    let e = sym g.1 ∙ h.1 in
    let again : GivesAll l g.0 ws q = subst (λ (u : List ℕ). GivesAll l u ws q) (sym (whole_rest v w g.0 h.0 e)) h.2 in
    let r = gives_same l g.0 p q vs ws g.2 again m n in
    let one = whole_value v w g.0 h.0 e in
    let all = r.0 in
    ((λ i. one i ∷ all i), r.1)

-- ---- the state after some calls

record Reached (l : LimitsModel) (bytes : List ℕ) (vs : List Data) (x : ReaderModel) : Type 0 where
  pub bounds : x.bounds ≡ l
  pub rest : List ℕ
  pub gives : GivesAll l bytes vs rest
  pub unfaulty : x.fault ≡ None → rest ≡ x.unread
  pub faulty : (f : WireFault) → x.fault ≡ Some f → front l rest ≡ Faulty f

none_some : {f : WireFault} (o : Option WireFault) → o ≡ None → o ≡ Some f → ⊥
none_some o p q = let e = sym p ∙ q in cc

one_fault : (f g : WireFault) → (let o : Option WireFault = Some f in o) ≡ Some g → f ≡ g
one_fault f g e = cc

start : (l : LimitsModel) → Reached l [] [] (fresh l)
start l = record { bounds = refl; rest = []; gives = refl; unfaulty = λ e. refl; faulty = λ f e. absurd (let k = e in cc) }

stays : {l : LimitsModel} {bytes : List ℕ} {vs : List Data} (x y : ReaderModel) → Reached l bytes vs x → y ≡ x → Reached l bytes vs y
stays {l} {bytes} {vs} x y r e = subst (λ (u : ReaderModel). Reached l bytes vs u) (sym e) r

after_feed : (l : LimitsModel) (bytes piece : List ℕ) (vs : List Data) (x y : ReaderModel) → Reached l bytes vs x → x.fault ≡ None → y ≡ record x { unread = x.unread ++ piece } → Reached l (bytes ++ piece) vs y
after_feed l bytes piece vs x y r n e = record {
  bounds = ap (λ (u : ReaderModel). u.bounds) e ∙ r.bounds;
  rest = r.rest ++ piece;
  gives = gives_more l bytes r.rest piece vs r.gives;
  unfaulty = λ _. ap (λ (u : List ℕ). u ++ piece) (r.unfaulty n) ∙ sym (ap (λ (u : ReaderModel). u.unread) e);
  faulty = λ f k. absurd (none_some x.fault n (sym (ap (λ (u : ReaderModel). u.fault) e) ∙ k));
}

after_refusal : (l : LimitsModel) (bytes piece : List ℕ) (vs : List Data) (x y : ReaderModel) (f : WireFault) → Reached l bytes vs x → x.fault ≡ Some f → y ≡ x → Reached l (bytes ++ piece) vs y
after_refusal l bytes piece vs x y f r s e = record {
  bounds = ap (λ (u : ReaderModel). u.bounds) e ∙ r.bounds;
  rest = r.rest ++ piece;
  gives = gives_more l bytes r.rest piece vs r.gives;
  unfaulty = λ n. absurd (none_some x.fault (sym (ap (λ (u : ReaderModel). u.fault) e) ∙ n) s);
  faulty = λ g k. front_keeps_fault l r.rest piece g (r.faulty g (sym (ap (λ (u : ReaderModel). u.fault) e) ∙ k));
}

after_value : (l : LimitsModel) (bytes : List ℕ) (vs : List Data) (v : Data) (x y : ReaderModel) → Reached l bytes vs x → x.fault ≡ None → front x.bounds x.unread ≡ Whole v y.unread → y ≡ record x { unread = y.unread } → Reached l bytes (vs ++ v ∷ []) y
after_value l bytes vs v x y r n w e =
    let at : front l r.rest ≡ Whole v y.unread = (λ i. front (sym r.bounds i) (r.unfaulty n i)) ∙ w in
    record {
      bounds = ap (λ (u : ReaderModel). u.bounds) e ∙ r.bounds;
      rest = y.unread;
      gives = gives_then l bytes r.rest y.unread vs v r.gives at;
      unfaulty = λ _. refl;
      faulty = λ f k. absurd (none_some x.fault n (sym (ap (λ (u : ReaderModel). u.fault) e) ∙ k));
    }

fault_at : (l : LimitsModel) (bytes : List ℕ) (vs : List Data) (x : ReaderModel) (f : WireFault) (r : Reached l bytes vs x) → (x.fault ≡ Some f) ⊎ ((x.fault ≡ None) × (front x.bounds x.unread ≡ Faulty f)) → front l r.rest ≡ Faulty f
fault_at l bytes vs x f r (inl s) = r.faulty f s
fault_at l bytes vs x f r (inr n) = (λ i. front (sym r.bounds i) (r.unfaulty n.0 i)) ∙ n.1

after_fault : (l : LimitsModel) (bytes : List ℕ) (vs : List Data) (x y : ReaderModel) (f : WireFault) → Reached l bytes vs x → (x.fault ≡ Some f) ⊎ ((x.fault ≡ None) × (front x.bounds x.unread ≡ Faulty f)) → y ≡ record x { fault = Some f } → Reached l bytes vs y
after_fault l bytes vs x y f r h e =
    let is : y.fault ≡ Some f = ap (λ (u : ReaderModel). u.fault) e in
    record {
      bounds = ap (λ (u : ReaderModel). u.bounds) e ∙ r.bounds;
      rest = r.rest;
      gives = r.gives;
      unfaulty = λ n. absurd (none_some y.fault n is);
      faulty = λ g k. let same = one_fault f g (sym is ∙ k) in subst (λ (w : WireFault). front l r.rest ≡ Faulty w) same (fault_at l bytes vs x f r h);
    }

-- ---- a run

reach : (l : LimitsModel) (bytes : List ℕ) (vs : List Data) (calls : List ReaderCall) (x y : ReaderModel) → Reached l bytes vs x → Runs x calls y → Reached l (bytes ++ bytes_of calls) (vs ++ values_of calls) y
reach l bytes vs [] x y r h = rw (append-nil bytes, append-nil vs) (stays x y r h)
reach l bytes vs (fed piece (Ok done) ∷ calls) x y r h =
    rw (sym (append_assoc bytes piece (bytes_of calls))) (reach l (bytes ++ piece) vs calls h.0 y (after_feed l bytes piece vs x h.0 r h.1.0 h.1.1) h.2)
reach l bytes vs (fed piece (Err NoMemory) ∷ calls) x y r h = reach l bytes vs calls h.0 y (stays x h.0 r h.1.1) h.2
reach l bytes vs (fed piece (Err BadType) ∷ calls) x y r h =
    rw (sym (append_assoc bytes piece (bytes_of calls))) (reach l (bytes ++ piece) vs calls h.0 y (after_refusal l bytes piece vs x h.0 BadType r h.1.0 h.1.1) h.2)
reach l bytes vs (fed piece (Err BadNumber) ∷ calls) x y r h =
    rw (sym (append_assoc bytes piece (bytes_of calls))) (reach l (bytes ++ piece) vs calls h.0 y (after_refusal l bytes piece vs x h.0 BadNumber r h.1.0 h.1.1) h.2)
reach l bytes vs (fed piece (Err TooLong) ∷ calls) x y r h =
    rw (sym (append_assoc bytes piece (bytes_of calls))) (reach l (bytes ++ piece) vs calls h.0 y (after_refusal l bytes piece vs x h.0 TooLong r h.1.0 h.1.1) h.2)
reach l bytes vs (fed piece (Err TooMany) ∷ calls) x y r h =
    rw (sym (append_assoc bytes piece (bytes_of calls))) (reach l (bytes ++ piece) vs calls h.0 y (after_refusal l bytes piece vs x h.0 TooMany r h.1.0 h.1.1) h.2)
reach l bytes vs (fed piece (Err TooDeep) ∷ calls) x y r h =
    rw (sym (append_assoc bytes piece (bytes_of calls))) (reach l (bytes ++ piece) vs calls h.0 y (after_refusal l bytes piece vs x h.0 TooDeep r h.1.0 h.1.1) h.2)
reach l bytes vs (fed piece (Err BadEnd) ∷ calls) x y r h =
    rw (sym (append_assoc bytes piece (bytes_of calls))) (reach l (bytes ++ piece) vs calls h.0 y (after_refusal l bytes piece vs x h.0 BadEnd r h.1.0 h.1.1) h.2)
reach l bytes vs (took (Ok (Some value)) ∷ calls) x y r h =
    rw (sym (append_assoc vs (data_of value ∷ []) (values_of calls))) (reach l bytes (vs ++ data_of value ∷ []) calls h.0 y (after_value l bytes vs (data_of value) x h.0 r h.1.0 h.1.1 h.1.2) h.2)
reach l bytes vs (took (Ok None) ∷ calls) x y r h = reach l bytes vs calls h.0 y (stays x h.0 r h.1.2) h.2
reach l bytes vs (took (Err NoMemory) ∷ calls) x y r h = reach l bytes vs calls h.0 y (stays x h.0 r h.1.2) h.2
reach l bytes vs (took (Err BadType) ∷ calls) x y r h = reach l bytes vs calls h.0 y (after_fault l bytes vs x h.0 BadType r h.1.0 h.1.1) h.2
reach l bytes vs (took (Err BadNumber) ∷ calls) x y r h = reach l bytes vs calls h.0 y (after_fault l bytes vs x h.0 BadNumber r h.1.0 h.1.1) h.2
reach l bytes vs (took (Err TooLong) ∷ calls) x y r h = reach l bytes vs calls h.0 y (after_fault l bytes vs x h.0 TooLong r h.1.0 h.1.1) h.2
reach l bytes vs (took (Err TooMany) ∷ calls) x y r h = reach l bytes vs calls h.0 y (after_fault l bytes vs x h.0 TooMany r h.1.0 h.1.1) h.2
reach l bytes vs (took (Err TooDeep) ∷ calls) x y r h = reach l bytes vs calls h.0 y (after_fault l bytes vs x h.0 TooDeep r h.1.0 h.1.1) h.2
reach l bytes vs (took (Err BadEnd) ∷ calls) x y r h = reach l bytes vs calls h.0 y (after_fault l bytes vs x h.0 BadEnd r h.1.0 h.1.1) h.2

-- ---- the laws

pub spelled_in_order : SpelledInOrder
spelled_in_order l calls input h =
    let r = reach l [] [] calls (fresh l) input (start l) h in
    let t = spelled l (bytes_of calls) r.rest (values_of calls) r.gives in
    (t.0, r.rest, t.1, t.2, r.unfaulty, λ f e. (front_is_faulty l r.rest f).0 (r.faulty f e))

none_left : (l : LimitsModel) (bytes : List ℕ) (vs : List Data) (x : ReaderModel) (o : Option WireFault) (r : Reached l bytes vs x) → x.fault ≡ o → IsDrained x → NoneLeft l r.rest
none_left l bytes vs x None r e d = λ v after w. let k = sym w ∙ (λ i. front (sym r.bounds i) (r.unfaulty e i)) ∙ d e in cc
none_left l bytes vs x (Some f) r e d = λ v after w. let k = sym w ∙ r.faulty f e in cc

same_fault : (l : LimitsModel) (bytes : List ℕ) (vs ws : List Data) (x y : ReaderModel) (o p : Option WireFault) (r : Reached l bytes vs x) (s : Reached l bytes ws y) → x.fault ≡ o → y.fault ≡ p → IsDrained x → IsDrained y → r.rest ≡ s.rest → o ≡ p
same_fault l bytes vs ws x y None None r s e f d c h = refl
same_fault l bytes vs ws x y None (Some g) r s e f d c h = absurd (let k = sym (d e) ∙ sym (λ i. front (sym r.bounds i) (r.unfaulty e i)) ∙ ap (front l) h ∙ s.faulty g f in cc)
same_fault l bytes vs ws x y (Some g) None r s e f d c h = absurd (let k = sym (c f) ∙ sym (λ i. front (sym s.bounds i) (s.unfaulty f i)) ∙ ap (front l) (sym h) ∙ r.faulty g e in cc)
same_fault l bytes vs ws x y (Some g) (Some k) r s e f d c h = let same = sym (r.faulty g e) ∙ ap (front l) h ∙ s.faulty k f in let is : g ≡ k = cc in ap (λ (w : WireFault). Some w) is

pub cuts_alike : CutsAlike
cuts_alike l one other x y h k e d c =
    let r = reach l [] [] one (fresh l) x (start l) h in
    let s : Reached l (bytes_of one) (values_of other) y = subst (λ (u : List ℕ). Reached l u (values_of other) y) (sym e) (reach l [] [] other (fresh l) y (start l) k) in
    let same = gives_same l (bytes_of one) r.rest s.rest (values_of one) (values_of other) r.gives s.gives (none_left l (bytes_of one) (values_of one) x x.fault r refl d) (none_left l (bytes_of one) (values_of other) y y.fault s refl c) in
    (same.0, same_fault l (bytes_of one) (values_of one) (values_of other) x y x.fault y.fault r s refl refl d c same.1)
