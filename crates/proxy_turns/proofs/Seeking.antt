-- After a loss: a node is found that is asked for CLUSTER SLOTS.
use Rattle.std.proofs.Common.{◌≡◌, ◌∙◌, ◌||◌, ◌<◌, ◌≤◌, ◌+◌, ◌∷◌, arith, cond, inl, inr, length, ltb, not, suc, zero, ℕ, List, [], Bool, true, false, Some, None, Result, Ok, Err, refl, sym, ap, subst}
use Rattle.std.specs.Prelude.{◌⊎◌, Option, IsSome, is_none, is_some, slice_get, slice_index_or, slice_set}
use Rattle.std.specs.List.{list_any, position, position_or_len}
use Rattle.std.proofs.lemmas.Bool.{lt-ltb}
use Rattle.std.proofs.lemmas.Bool.Decides.{nat_tests}
use Rattle.std.proofs.lemmas.List.Sums.{passes_at_first}
use Rattle.std.proofs.lemmas.Option.{slice_get_cases}
use Rattle.resp_wire.specs.declared.fault.NoMemory.{NoMemory}
use Rattle.slot_map.specs.Table.{Endpoint}
use Rattle.proxy_turns.specs.declared.backend.Backend.{Backend}
use Rattle.proxy_turns.specs.declared.backend.Dialled.TheVariants as dialled
use Rattle.node_link.specs.LinkModel.{LinkModel}
use Rattle.node_link.specs.Port.{PortCalls}
use Rattle.proxy_turns.specs.Backend.{GaveNone, has_failed, has_open_link, is_open, is_unanswered}
use Rattle.proxy_turns.specs.Sending.{DialOutcome}
use Rattle.proxy_turns.specs.CarrierModel.{CarrierModel, CarrierGoesBy, CarrierTurns, IsAtRest, IsSought, RestsAfter, SeekOutcome, SeeksByDial, TakesTurn, adds_backend, seeks_by_dial, seeks_by_link}
use Rattle.proxy_turns.specs.CarrierModel.CarrierEvent.{NotFound, Reached, Sought}
use Rattle.proxy_turns.proofs.Carrying.{goes_by, goes_of, goes_then, goes_wider, set-itself}
use Rattle.proxy_turns.proofs.EventKinds.{every, in_turn}
use Rattle.proxy_turns.proofs.Places.{or_false, some_same}
use Rattle.proxy_turns.proofs.Quiet.{BackendStays, LinkStays, quiet_by}

-- there is a first place exactly where some element passes
at_head : (b : Bool) (m n : ℕ) (rest : Bool) → ltb m n ≡ rest → ltb (cond (not b) (1 + m) 0) (suc n) ≡ (b || rest)
at_head true m n rest h = lt-ltb 0 (suc n) (omega arith)
at_head false m n rest h = grind (arith, nat_tests, h)

ltb-position : {X : Type 0} (p : X → Bool) → (xs : List X) → ltb (position_or_len p xs) (length xs) ≡ list_any p xs
ltb-position p [] = refl
ltb-position p (x ∷ xs) = at_head (p x) (position_or_len p xs) (length xs) (list_any p xs) (ltb-position p xs)

-- what stands at the first place passes
pub first_passes : {X : Type 0} (p : X → Bool) (xs : List X) (at : ℕ) → Some at ≡ position p xs → (x : X) × (slice_get xs at ≡ Some x) × (p x ≡ true)
first_passes {X} p xs at is = passes (ltb (position_or_len p xs) (length xs)) refl is
  where
    there : position_or_len p xs < length xs → at ≡ position_or_len p xs
        → ((x : X) × (position_or_len p xs < length xs) × (slice_get xs (position_or_len p xs) ≡ Some x) × (slice_index_or xs (position_or_len p xs) x ≡ x)) ⊎ ((length xs ≤ position_or_len p xs) × (slice_get xs (position_or_len p xs) ≡ None))
        → (x : X) × (slice_get xs at ≡ Some x) × (p x ≡ true)
    there lt same (inl (x, inside, read, back)) = (x, ap (slice_get xs) same ∙ read, sym (ap p back) ∙ passes_at_first p xs x lt)
    there lt same (inr (past, none)) = absurd (omega (arith, lt, past))

    passes : (b : Bool) → ltb (position_or_len p xs) (length xs) ≡ b → Some at ≡ cond b (Some (position_or_len p xs)) None → (x : X) × (slice_get xs at ≡ Some x) × (p x ≡ true)
    passes true lt same = there (grind (arith, nat_tests, lt)) (cc) (slice_get_cases xs (position_or_len p xs)).1
    passes false lt same = absurd (cc)

-- where there is no first place none passes
pub none_passes : {X : Type 0} (p : X → Bool) (xs : List X) → None ≡ position p xs → list_any p xs ≡ false
none_passes {X} p xs is = passes (ltb (position_or_len p xs) (length xs)) refl is
  where
    passes : (b : Bool) → ltb (position_or_len p xs) (length xs) ≡ b → None ≡ cond b (Some (position_or_len p xs)) None → list_any p xs ≡ false
    passes true lt same = absurd (cc)
    passes false lt same = sym (ltb-position p xs) ∙ lt

neither : (a b : Bool) → a ≡ false → b ≡ false → (a || b) ≡ false
neither false b e f = f
neither true b e f = absurd (cc)

some_where_not_none : {X : Type 0} (o : Option X) → is_none o ≡ false → is_some o ≡ true
some_where_not_none None e = absurd (cc)
some_where_not_none (Some x) e = refl

module _ {P : Type 0} where
  -- a link that is not open has failed
  failed_where_closed : (o : Option (LinkModel P)) → IsSome o → is_open o ≡ false → has_failed o ≡ true
  failed_where_closed None some closed = absurd (cc)
  failed_where_closed (Some link) some closed = some_where_not_none link.failure closed

  -- where no link is open, the one at a place is not
  closed_at : (backends : List (Backend P)) (n : ℕ) (backend : Backend P) → list_any has_open_link backends ≡ false → slice_get backends n ≡ Some backend
      → has_open_link backend ≡ false
  closed_at [] n backend closed at = absurd (cc)
  closed_at (b ∷ bs) zero backend closed at =
      let same : b ≡ backend = some_same refl at in sym (ap has_open_link same) ∙ (or_false (has_open_link b) (list_any has_open_link bs) closed).0
  closed_at (b ∷ bs) (suc n) backend closed at = closed_at bs n backend (or_false (has_open_link b) (list_any has_open_link bs) closed).1 at

  link_stays_closed : (a b : Option (LinkModel P)) → LinkStays a b → is_open a ≡ false → is_open b ≡ false
  link_stays_closed None None stays closed = refl
  link_stays_closed None (Some link) stays closed = absurd stays
  link_stays_closed (Some link) None stays closed = absurd stays
  link_stays_closed (Some link) (Some link') stays closed = ap is_none stays ∙ closed

  -- what moves nothing opens no link
  stays_closed : (old new : List (Backend P)) → ((k : ℕ) → BackendStays (slice_get old k) (slice_get new k))
      → list_any has_open_link old ≡ false → list_any has_open_link new ≡ false
  stays_closed old [] stays closed = refl
  stays_closed [] (b ∷ bs) stays closed =
      neither (has_open_link b) (list_any has_open_link bs) (ap has_open_link (stays 0)) (stays_closed [] bs (λ k. stays (suc k)) refl)
  stays_closed (a ∷ rest) (b ∷ bs) stays closed =
      let both = or_false (has_open_link a) (list_any has_open_link rest) closed in
      neither (has_open_link b) (list_any has_open_link bs) (link_stays_closed a.link b.link (stays 0).1 both.0) (stays_closed rest bs (λ k. stays (suc k)) both.1)

true_last : (b : Bool) → (b || true) ≡ false → ⊥
true_last true e = absurd (cc)
true_last false e = absurd (cc)

module _ {H P : Type 0} (calls : PortCalls P) (opens : Endpoint → Option P → ℕ → ℕ → Type 0) (longest : P → ℕ) where
  -- the dial gave a link
  pub reached : (old : CarrierModel H P) (n node : ℕ) (backend backend' : Backend P) (failures' : ℕ)
      → list_any has_open_link old.backends ≡ false → slice_get old.backends n ≡ Some backend → n ≡ node → DialOutcome opens node old.nodes backend old.failures (Ok dialled.Opened) backend' failures'
      → CarrierGoesBy calls opens longest seeks_by_dial old true (record old { backends = slice_set old.backends n (record backend' { to_ask = true }); failures = failures' })
  reached old n node backend backend' failures' closed at is (there, port, none, listed, is_new, new) =
      let Q : ℕ → Type 0 = λ m. slice_get old.backends m ≡ Some backend
      → CarrierGoesBy calls opens longest seeks_by_dial old true (record old { backends = slice_set old.backends m (record backend' { to_ask = true }); failures = failures' }) in
      subst Q (sym is) (λ here. goes_by calls opens longest seeks_by_dial old Reached (record old { backends = slice_set old.backends node (record backend' { to_ask = true }); failures = failures' }) refl
      (node, backend, there, port, here, none, closed, listed, is_new, λ i. record old { backends = slice_set old.backends node (record (new i) { to_ask = true }); failures = failures' })) at

  -- the dial failed
  pub unfound : (old : CarrierModel H P) (n node : ℕ) (backend backend' : Backend P) (failures' : ℕ)
      → list_any has_open_link old.backends ≡ false → slice_get old.backends n ≡ Some backend → DialOutcome opens node old.nodes backend old.failures (Ok dialled.Unreached) backend' failures'
      → CarrierGoesBy calls opens longest seeks_by_dial old true (record old { backends = slice_set old.backends n backend'; failures = failures' })
  unfound old n node backend backend' failures' closed at (none, same, unreached) =
      let back : slice_set old.backends n backend' ≡ old.backends = ap (λ x. slice_set old.backends n x) same ∙ set-itself old.backends n backend at in
      goes_by calls opens longest seeks_by_dial old NotFound (record old { backends = slice_set old.backends n backend'; failures = failures' }) refl
      (node, closed, (λ i. record old { backends = back i; failures = failures' }), inl unreached)

  -- there is a link: it has failed
  pub still_linked : (old : CarrierModel H P) (n node : ℕ) (backend backend' : Backend P) (failures' : ℕ)
      → list_any has_open_link old.backends ≡ false → slice_get old.backends n ≡ Some backend → DialOutcome opens node old.nodes backend old.failures (Ok dialled.Present) backend' failures'
      → CarrierGoesBy calls opens longest seeks_by_dial old true (record old { backends = slice_set old.backends n backend'; failures = failures' })
  still_linked old n node backend backend' failures' closed at (some, same, kept) =
      let back : slice_set old.backends n backend' ≡ old.backends = ap (λ x. slice_set old.backends n x) same ∙ set-itself old.backends n backend at in
      goes_by calls opens longest seeks_by_dial old NotFound (record old { backends = slice_set old.backends n backend'; failures = failures' }) refl
      (n, closed, (λ i. record old { backends = back i; failures = failures' }), inr ((backend, at, failed_where_closed backend.link some (closed_at old.backends n backend closed at)), kept))

  -- where backends are made, no link is opened
  pub added_closed : (old new : CarrierModel H P) → CarrierGoesBy calls opens longest adds_backend old false new
      → list_any has_open_link old.backends ≡ false → list_any has_open_link new.backends ≡ false
  added_closed old new goes closed = stays_closed old.backends new.backends (quiet_by calls opens longest adds_backend refl old false new refl goes).backends closed

  -- one with an open link is to be asked
  pub found : (is_calm : Type 0) (old : CarrierModel H P) (n : ℕ) (backend read : Backend P) (failures' : ℕ) (result : Result Bool NoMemory)
      → slice_get old.backends n ≡ Some backend → has_open_link backend ≡ true → list_any is_unanswered old.backends ≡ false → read ≡ backend
      → failures' ≡ old.failures → result ≡ Ok true
      → SeekOutcome calls opens longest is_calm old result (record old { backends = slice_set old.backends n (record read { to_ask = true }); failures = failures' })
  found is_calm old n backend read failures' result at is_open none same kept is =
      let new : CarrierModel H P = record old { backends = slice_set old.backends n (record read { to_ask = true }); failures = failures' } in
      let Q : Result Bool NoMemory → Type 0 = λ r. SeekOutcome calls opens longest is_calm old r new in
      subst Q (sym is) (inl (goes_by calls opens longest seeks_by_link old Sought new refl
      (n, backend, at, is_open, none, λ i. record old { backends = slice_set old.backends n (record (same i) { to_ask = true }); failures = kept i })))

  -- where no link is open, a dial after the answer of which the carrier is as it was
  pub sought_by_dial : (is_calm : Type 0) (old mid : CarrierModel H P) (result : Result Bool NoMemory) (new : CarrierModel H P) → mid ≡ old
      → list_any has_open_link old.backends ≡ false → SeeksByDial calls opens longest mid result new
      → SeekOutcome calls opens longest is_calm old result new
  sought_by_dial is_calm old mid (Ok true) new same none (goes, left) =
      let Q : CarrierModel H P → Type 0 = λ o. CarrierGoesBy calls opens longest seeks_by_dial o true new in inr (none, subst Q same goes)
  sought_by_dial is_calm old mid (Ok false) new same none (goes, left) = absurd (left refl)
  sought_by_dial is_calm old mid (Err e) new same none (moved, goes) =
      let Q : CarrierModel H P → Type 0 = λ o. CarrierGoesBy calls opens longest seeks_by_dial o moved new in (moved, subst Q same goes)

  -- what is sought is a part of a turn
  sought_in_turn : (is_calm : Type 0) (mid : CarrierModel H P) (sought : Bool) (new : CarrierModel H P) → SeekOutcome calls opens longest is_calm mid (Ok sought) new
      → CarrierGoesBy calls opens longest every mid sought new
  sought_in_turn is_calm mid true new (inl goes) = goes_wider calls opens longest every seeks_by_link (in_turn seeks_by_link) mid true new goes
  sought_in_turn is_calm mid true new (inr (none, goes)) = goes_wider calls opens longest every seeks_by_dial (in_turn seeks_by_dial) mid true new goes
  sought_in_turn is_calm mid false new (same, why) =
      let Q : CarrierModel H P → Type 0 = λ n. CarrierGoesBy calls opens longest every mid false n in subst Q (sym same) ([], refl, refl, refl)

  -- a turn, and then what is sought
  pub turns_and_seeks : (is_calm : Type 0) (old mid : CarrierModel H P) (moved sought : Bool) (new : CarrierModel H P)
      → TakesTurn calls opens longest old (Ok moved) mid → SeekOutcome calls opens longest is_calm mid (Ok sought) new
      → CarrierTurns calls opens longest old (Ok (moved || sought)) new
  turns_and_seeks is_calm old mid moved sought new (goes, left) seeks =
      goes_of calls opens longest every old (moved || sought) new
      (goes_then calls opens longest every old moved mid sought new goes (sought_in_turn is_calm mid sought new seeks))

  pub turns_and_starves : (is_calm : Type 0) (old mid : CarrierModel H P) (moved : Bool) (e e' : NoMemory) (result : Result Bool NoMemory) (new : CarrierModel H P)
      → TakesTurn calls opens longest old (Ok moved) mid → SeekOutcome calls opens longest is_calm mid (Err e) new → result ≡ Err e'
      → CarrierTurns calls opens longest old result new
  turns_and_starves is_calm old mid moved e e' result new (goes, left) (sought, more) is =
      let Q : Result Bool NoMemory → Type 0 = λ r. CarrierTurns calls opens longest old r new in
      subst Q (sym is) (
        moved || sought,
        goes_of calls opens longest every old (moved || sought) new
            (goes_then calls opens longest every old moved mid sought new goes
            (goes_wider calls opens longest every seeks_by_dial (in_turn seeks_by_dial) mid sought new more)),
      )

  -- where neither moved anything, the carrier is at rest
  pub rests_unsought : (is_calm : Type 0) (old mid : CarrierModel H P) (moved sought : Bool) (new : CarrierModel H P)
      → TakesTurn calls opens longest old (Ok moved) mid → SeekOutcome calls opens longest is_calm mid (Ok sought) new
      → RestsAfter (GaveNone calls) (Ok (moved || sought)) new
  rests_unsought is_calm old mid moved true new takes seeks still = absurd (true_last moved still)
  rests_unsought is_calm old mid moved false new (goes, left) (same, why) still =
      let Q : CarrierModel H P → Type 0 = λ n. IsAtRest (GaveNone calls) n in subst Q (sym same) (left (or_false moved false still).0)

  pub unsought : (is_calm : Type 0) (mid : CarrierModel H P) (moved sought : Bool) (new : CarrierModel H P)
      → SeekOutcome calls opens longest is_calm mid (Ok sought) new → IsSought is_calm (Ok (moved || sought)) new
  unsought is_calm mid moved true new seeks still = absurd (true_last moved still)
  unsought is_calm mid moved false new (same, why) still =
      let Q : CarrierModel H P → Type 0 = λ n. (list_any is_unanswered n.backends ≡ true) ⊎ is_calm in subst Q (sym same) why
