-- An event that is allowed has one next state.
use Rattle.std.proofs.Common.{◌≡◌, ◌⊎◌, inl, inr, ⊎_elim, ℕ, ◌==◌, ◌<◌, ◌≢◌, Bool, true, false, List, [], ◌∷◌, ◌++◌, length, Some, Option, refl, sym, ap, ◌∙◌, subst, arith}
use Rattle.std.specs.Prelude.{slice_get, slice_set, remove, position, map}
use Rattle.std.proofs.lemmas.Option.{slice_get_within}
use Rattle.key_split.specs.Same.{same_ticket}
use Rattle.key_split.specs.declared.travel.Ticket.{Ticket}
use Rattle.key_split.specs.declared.travel.Told.{Told}
use Rattle.key_split.specs.declared.travel.Told.TheVariants.{Unsent}
use Rattle.key_split.specs.declared.travel.Ended.{Ended}
use Rattle.command_future.specs.CommandModel.{asks_at}
use Rattle.command_future.specs.declared.stage.Stage.{Stage}
use Rattle.command_future.specs.declared.stage.Stage.TheVariants.{Over}
use Rattle.world_laws.specs.State.{WorldModel, Arrival, Posted, Link, LinkRequest, LinkReply, awaiting, after_told, sent, replied, all_replied, tickets_told, parts_told, tolds_of, waiting}
use Rattle.world_laws.specs.declared.state.LinkRequest.TheVariants.{Asking, Runs}
use Rattle.world_laws.specs.declared.state.LinkReply.TheVariants.{Welcome, To}
use Rattle.node_model.specs.Runs.{deed_for, DoesRun}
use Rattle.node_model.specs.declared.role.Verdict.{Verdict}
use Rattle.world_laws.specs.World.{WorldDoes, IsFirst, IsOf, Way, GoOut, AreOf, lies_in, entries_of, CarriesOver, ServesAsking, ServesRun, FetchesWelcome, FetchesReply}
use Rattle.world_laws.specs.declared.event.Event.{Event}
use Rattle.world_laws.specs.declared.event.Event.TheVariants.{Arrive, Post, Carry, Refuse, Serve, Fetch, Take, Drop, Discard, Import, Migrate, MoveKey, Own, Release, Forget, Stay}
use Rattle.world_laws.specs.declared.event.Event.TheVariants as ev
use Rattle.world_laws.proofs.Recorded.{all_taken}
use Rattle.world_laws.proofs.Nodes.{runs_same}

first_same : {X : Type 0} (p : X → Bool) (xs : List X) (i j : ℕ) (x y : X) → IsFirst p xs i x → IsFirst p xs j y → (i ≡ j) × (x ≡ y)
first_same p xs i j x y a b =
    let pa : position p xs ≡ Some i = a.0 in
    let pb : position p xs ≡ Some j = b.0 in
    let same : i ≡ j = cc in
    let at : slice_get xs i ≡ slice_get xs j = ap (slice_get xs) same in
    let ga : slice_get xs i ≡ Some x = a.1 in
    let gb : slice_get xs j ≡ Some y = b.1 in
    (same, cc)

some_same : {X : Type 0} (o : Option X) (x y : X) → o ≡ Some x → o ≡ Some y → x ≡ y
some_same o x y a b = cc

both : (b : Bool) → b ≡ false → b ≡ true → ⊥
both b x y = cc

end_same : (s : Stage) (x y : Ended) → s ≡ Over x → s ≡ Over y → x ≡ y
end_same s x y a b = cc

order : (i j : ℕ) → (i < j) ⊎ ((i ≡ j) ⊎ (j < i))
order i j = grind arith

over_same : (w : WorldModel) (link : ℕ) (b : Posted) (xs ys : List Link) → CarriesOver w link b xs → CarriesOver w link b ys → xs ≡ ys
over_same w link b xs ys (inl x) (inl y) = x.4 ∙ ap (λ l. slice_set w.links link (sent l b)) (some_same (slice_get w.links link) x.0 y.0 x.1 y.1) ∙ sym y.4
over_same w link b xs ys (inr x) (inr y) = x.1 ∙ sym y.1
over_same w link b xs ys (inl x) (inr y) = let lt : link < length w.links = slice_get_within w.links link x.0 x.1 in absurd (omega (arith, y.0))
over_same w link b xs ys (inr x) (inl y) = let lt : link < length w.links = slice_get_within w.links link y.0 y.1 in absurd (omega (arith, x.0))

tail_same : (r : List LinkRequest) (t u : List Ticket) (xs ys : List LinkRequest) → r ≡ Runs t ∷ xs → r ≡ Runs u ∷ ys → (t ≡ u) × (xs ≡ ys)
tail_same r t u xs ys a b = (cc, cc)

asking_same : (r xs ys : List LinkRequest) → r ≡ Asking ∷ xs → r ≡ Asking ∷ ys → xs ≡ ys
asking_same r xs ys a b = cc

never_both : (r xs ys : List LinkRequest) (t : List Ticket) → r ≡ Asking ∷ xs → r ≡ Runs t ∷ ys → ⊥
never_both r xs ys t a b = cc

back_same : (r : List LinkReply) (t u : Ticket) (x y : Told) (xs ys : List LinkReply) → r ≡ To t x ∷ xs → r ≡ To u y ∷ ys → (t ≡ u) × (x ≡ y) × (xs ≡ ys)
back_same r t u x y xs ys a b = (cc, cc, cc)

welcome_same : (r xs ys : List LinkReply) → r ≡ Welcome ∷ xs → r ≡ Welcome ∷ ys → xs ≡ ys
welcome_same r xs ys a b = cc

never_back : (r xs ys : List LinkReply) (t : Ticket) (x : Told) → r ≡ Welcome ∷ xs → r ≡ To t x ∷ ys → ⊥
never_back r xs ys t x a b = cc

-- a run goes out in one way

out_same : (way way' : Way) (node : ℕ) (before ts : List Ticket) (cs a b : List Arrival) → GoOut way node before ts cs a → GoOut way' node before ts cs b → a ≡ b
out_same way way' node before [] cs a b x y = x ∙ sym y
out_same way way' node before (t ∷ ts) cs a b x y =
    let c = first_same (λ (z : Arrival). same_ticket t z.command.ticket) cs x.0 y.0 x.1 y.1 x.2 y.2 in
    out_same way way' node (before ++ t ∷ []) ts (slice_set cs y.0 (awaiting y.1)) a b
    (subst (λ (p : ℕ × Arrival). GoOut way node (before ++ t ∷ []) ts (slice_set cs p.0 (awaiting p.1)) a) (λ i. (c.0 i, c.1 i)) x.5) y.5

asking-same : (way way' : Way) (node : ℕ) (before ts : List Ticket) (cs a b : List Arrival) → ts ≢ [] → GoOut way node before ts cs a → GoOut way' node before ts cs b → way.asking ≡ way'.asking
asking-same way way' node before [] cs a b ne x y = absurd (ne refl)
asking-same way way' node before (t ∷ ts) cs a b ne x y =
    let c = first_same (λ (z : Arrival). same_ticket t z.command.ticket) cs x.0 y.0 x.1 y.1 x.2 y.2 in
    sym (x.3).3 ∙ ap (λ (z : Arrival). asks_at z.command.stage) c.1 ∙ (y.3).3

-- the commands of a run are those of its tickets

heads : {X : Type 0} (x y : X) (xs ys : List X) → x ∷ xs ≡ y ∷ ys → (x ≡ y) × (xs ≡ ys)
heads x y xs ys e = (cc, cc)

run_same : (cs : List Arrival) (xs ys : List (Arrival × Told)) → tickets_told xs ≡ tickets_told ys → AreOf xs cs → AreOf ys cs → (parts_told xs ≡ parts_told ys) × (tolds_of xs ≡ tolds_of ys → xs ≡ ys)
run_same cs [] [] e x y = (refl, λ _. refl)
run_same cs [] (q ∷ ys) e x y = absurd (cc)
run_same cs (p ∷ xs) [] e x y = absurd (cc)
run_same cs (p ∷ xs) (q ∷ ys) e x y =
    let t = heads p.0.command.ticket q.0.command.ticket (tickets_told xs) (tickets_told ys) e in
    let c = first_same (λ (z : Arrival). same_ticket q.0.command.ticket z.command.ticket) cs x.0.0 y.0.0 p.0 q.0 (subst (λ (u : Ticket). IsOf u cs x.0.0 p.0) t.0 x.0.1) y.0.1 in
    let r = run_same cs xs ys t.1 x.1 y.1 in
    (λ i. (c.1 i).command.part ∷ r.0 i, λ told. let h = heads p.1 q.1 (tolds_of xs) (tolds_of ys) told in let rest : xs ≡ ys = r.1 h.1 in λ i. (c.1 i, h.0 i) ∷ rest i)

module _ (w : WorldModel) where
  serve_same : (link : ℕ) (l : Link) (v : Verdict) (a b : WorldModel) → ServesAsking w link l v a ⊎ ServesRun w link l v a → ServesAsking w link l v b ⊎ ServesRun w link l v b → a ≡ b
  serve_same link l v a b (inl x) (inl y) = x.3 ∙ ap (λ rest. record w { links = slice_set w.links link (replied (record l { requests = rest; asking = true }) Welcome) }) (asking_same l.requests x.0 y.0 x.1 y.1) ∙ sym y.3
  serve_same link l v a b (inl x) (inr y) = absurd (never_both l.requests x.0 y.0 (tickets_told y.1) x.1 y.3)
  serve_same link l v a b (inr x) (inl y) = absurd (never_both l.requests y.0 x.0 (tickets_told x.1) y.1 x.3)
  serve_same link l v a b (inr x) (inr y) =
      let t = tail_same l.requests (tickets_told x.1) (tickets_told y.1) x.0 y.0 x.3 y.3 in
      let c = run_same w.commands x.1 y.1 t.0 x.4 y.4 in
      let did : DoesRun (deed_for w.cluster l.node l.asking (parts_told y.1) v) w.cluster l.node (parts_told y.1) (tolds_of x.1) x.2
      = subst (λ z. DoesRun (deed_for w.cluster l.node l.asking z v) w.cluster l.node z (tolds_of x.1) x.2) c.0 x.6 in
      let k = runs_same w.cluster x.2 y.2 l.node (parts_told y.1) (deed_for w.cluster l.node l.asking (parts_told y.1) v) (tolds_of x.1) (tolds_of y.1) did y.6 in
      let run : x.1 ≡ y.1 = c.1 k.0 in
      x.7 ∙ (λ i. record w { cluster = k.1 i; links = slice_set w.links link (all_replied (record l { requests = t.1 i; asking = false }) (run i)); history = w.history ++ entries_of w.moment (run i) }) ∙ sym y.7

  fetch_same : (link : ℕ) (l : Link) (a b : WorldModel) → FetchesWelcome w link l a ⊎ FetchesReply w link l a → FetchesWelcome w link l b ⊎ FetchesReply w link l b → a ≡ b
  fetch_same link l a b (inl x) (inl y) = x.2 ∙ ap (λ rest. record w { links = slice_set w.links link (record l { backs = rest }) }) (welcome_same l.backs x.0 y.0 x.1 y.1) ∙ sym y.2
  fetch_same link l a b (inl x) (inr y) = absurd (never_back l.backs x.0 y.0 y.1 y.2 x.1 y.3)
  fetch_same link l a b (inr x) (inl y) = absurd (never_back l.backs y.0 x.0 x.1 x.2 y.1 x.3)
  fetch_same link l a b (inr x) (inr y) =
      let t = back_same l.backs x.1 y.1 x.2 y.2 x.0 y.0 x.3 y.3 in
      x.4 ∙ (λ i. record w { links = slice_set w.links link (record l { backs = t.2 i }); downs = w.downs ++ (t.0 i, t.1 i) ∷ [] }) ∙ sym y.4

  pub does-single : (e : Event) (a b : WorldModel) → WorldDoes w e a → WorldDoes w e b → a ≡ b
  does-single (Arrive client part) a b x y = x.1 ∙ sym y.1
  does-single (Post tickets node) a b x y =
      let c : x.1 ≡ y.1 = out_same x.0 y.0 node [] tickets w.commands x.1 y.1 x.4 y.4 in
      let asking : (x.0).asking ≡ (y.0).asking = asking-same x.0 y.0 node [] tickets w.commands x.1 y.1 x.2.0 x.4 y.4 in
      x.5 ∙ (λ i. record w { commands = c i; ups = w.ups ++ record { tickets = tickets; node = node; asking = asking i } ∷ [] }) ∙ sym y.5
  does-single (Carry lane link) a b x y =
      let c = first_same (lies_in lane) w.ups x.0 y.0 x.1 y.1 x.3 y.3 in
      let l : x.2 ≡ y.2 = over_same w link y.1 x.2 y.2 (subst (λ z. CarriesOver w link z x.2) c.1 x.4) y.4 in
      x.5 ∙ (λ i. record w { ups = remove w.ups (c.0 i); links = l i }) ∙ sym y.5
  does-single (Refuse lane) a b x y =
      let c = first_same (lies_in lane) w.ups x.0 y.0 x.1 y.1 x.2 y.2 in
      x.3 ∙ (λ i. record w { ups = remove w.ups (c.0 i); downs = w.downs ++ map (λ t. (t, Unsent)) (c.1 i).tickets }) ∙ sym y.3
  does-single (Serve link v) a b x y =
      let l : x.0 ≡ y.0 = some_same (slice_get w.links link) x.0 y.0 x.1 y.1 in
      serve_same link y.0 v a b (subst (λ z. ServesAsking w link z v a ⊎ ServesRun w link z v a) l x.2) y.2
  does-single (Fetch link) a b x y =
      let l : x.0 ≡ y.0 = some_same (slice_get w.links link) x.0 y.0 x.1 y.1 in
      fetch_same link y.0 a b (subst (λ z. FetchesWelcome w link z a ⊎ FetchesReply w link z a) l x.3) y.3
  does-single (Take lane) a b x y =
      let p = first_same (λ (z : Ticket × Told). z.0.worker == lane) w.downs x.0 y.0 ((x.2).command.ticket, x.3) ((y.2).command.ticket, y.3) x.4 y.4 in
      let t : (x.2).command.ticket ≡ (y.2).command.ticket = ap (λ (z : Ticket × Told). z.0) p.1 in
      let told : x.3 ≡ y.3 = ap (λ (z : Ticket × Told). z.1) p.1 in
      let c = first_same (λ (z : Arrival). same_ticket (y.2).command.ticket z.command.ticket) w.commands x.1 y.1 x.2 y.2 (subst (λ (u : Ticket). IsFirst (λ (z : Arrival). same_ticket u z.command.ticket) w.commands x.1 x.2) t x.5) y.5 in
      x.7 ∙ (λ i. record w { downs = remove w.downs (p.0 i); commands = slice_set w.commands (c.0 i) (after_told (c.1 i) (told i)) }) ∙ sym y.7
  does-single (Drop link) a b x y =
      x.3 ∙ ap (λ (l : Link). record w { links = slice_set w.links link (record l { is_open = false; backs = [] }); downs = w.downs ++ map (λ t. (t, Told.Lost)) (waiting l) }) (some_same (slice_get w.links link) x.0 y.0 x.1 y.1) ∙ sym y.3
  does-single (Discard link) a b x y =
      x.4 ∙ ap (λ (l : Link). record w { links = slice_set w.links link (record l { requests = [] }) }) (some_same (slice_get w.links link) x.0 y.0 x.1 y.1) ∙ sym y.4
  does-single (Import slot target) a b x y = x.2 ∙ sym y.2
  does-single (Migrate slot) a b x y = x.1 ∙ sym y.1
  does-single (MoveKey slot key) a b x y = x.1 ∙ sym y.1
  does-single (Own slot) a b x y = x.1 ∙ sym y.1
  does-single (Release slot) a b x y = x.1 ∙ sym y.1
  does-single (Forget slot) a b x y = x.1 ∙ sym y.1
  does-single (Stay slot) a b x y = x.1 ∙ sym y.1
  does-single (ev.Answer client) a b x y =
      let i : x.0 ≡ y.0 = ⊎_elim
      (λ (lt : x.0 < y.0). absurd (both (x.1).answered x.5 (all_taken (λ (d : Arrival). d.command.ticket.client ≡ client → d.answered ≡ true) w.commands y.0 x.0 x.1 y.7 lt x.3 x.4)))
      (λ (rest : (x.0 ≡ y.0) ⊎ (y.0 < x.0)). ⊎_elim (λ (e : x.0 ≡ y.0). e)
      (λ (gt : y.0 < x.0). absurd (both (y.1).answered y.5 (all_taken (λ (d : Arrival). d.command.ticket.client ≡ client → d.answered ≡ true) w.commands x.0 y.0 y.1 x.7 gt y.3 y.4))) rest)
      (order x.0 y.0) in
      let c : x.1 ≡ y.1 = some_same (slice_get w.commands y.0) x.1 y.1 (subst (λ k. slice_get w.commands k ≡ Some x.1) i x.3) y.3 in
      let e : x.2 ≡ y.2 = end_same (y.1).command.stage x.2 y.2 (subst (λ (z : Arrival). z.command.stage ≡ Over x.2) c x.6) y.6 in
      x.8 ∙ (λ k. record w { commands = slice_set w.commands (i k) (record (c k) { answered = true }); answers = w.answers ++ record { ticket = (c k).command.ticket; ended = e k; arrived = (c k).arrived; answered = w.moment } ∷ [] }) ∙ sym y.8
