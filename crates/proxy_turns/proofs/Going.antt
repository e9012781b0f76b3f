-- One event of a client's turn, or none, or some after others.
use Rattle.std.proofs.Common.{◌≡◌, ◌||◌, ◌≤◌, ◌⊎◌, inl, inr, Bool, ℕ, List, [], ◌∷◌, ◌++◌, Option, Some, None, true, false, arith, length, length-take-le, map, take, drop, is_some, nat_lt, Result, Ok, Err, refl, sym, ap, subst, ◌∙◌}
use Rattle.std.specs.FinMap.{get}
use Rattle.std.specs.Prelude.{All}
use Rattle.std.specs.List.{FoldsTo, list_all, list_any}
use Rattle.std.proofs.lemmas.List.Elements.{All-nil}
use Rattle.std.proofs.lemmas.Bool.{false≢true}
use Rattle.std.proofs.Math.ListN.{take-append-drop}
use Rattle.std.proofs.lemmas.List.Folds.{list_all-append, list_any-append}
use Rattle.resp_wire.specs.declared.fault.NoMemory.{NoMemory}
use Rattle.key_split.specs.PartModel.{PartModel}
use Rattle.key_split.specs.Runs.{RunModel, GoTogether, IsTogether, count_in}
use Rattle.key_split.specs.declared.travel.Ticket.{Ticket}
use Rattle.command_future.specs.CommandModel.{CommandModel, IsFresh}
use Rattle.session_order.specs.SessionModel.{SessionModel}
use Rattle.session_order.specs.HangingUp.{HangsUp}
use Rattle.session_order.specs.declared.fault.SessionFault.{SessionFault}
use Rattle.session_order.specs.declared.fault.SessionFault.TheVariants as fault
use Rattle.session_order.specs.Replies.{DrainOutcome}
use Rattle.session_order.specs.Steps.{IsOut, FeedOutcome, ReadOutcome}
use Rattle.proxy_lanes.specs.declared.map_view.NotEntered.{NotEntered}
use Rattle.proxy_lanes.specs.declared.ring.Outlet.{Outlet}
use Rattle.proxy_lanes.specs.Lane.{Posts}
use Rattle.proxy_lanes.specs.View.{ViewModel}
use Rattle.proxy_turns.specs.Port.{Moves}
use Rattle.proxy_turns.specs.Commands.{AreOneRun, BeginOutcome, CommandsModel, Drops, FollowOutcome, Looks, PostsAt, PostsAtResult, PostsFresh, PostsFreshResult, Tries, awaiting, most_together, run_of, with_command}
use Rattle.proxy_turns.specs.ClientModel.{ClientModel, IsSoundClient, Takings, read_answer}
use Rattle.proxy_turns.specs.ClientTurn.{ClientContext, ClientEvent, ClientDoes, ClientGoes, ClientGoesBy, ClientTurns, ClientTurnsBy, is_client_move, left_of, most_drained}
use Rattle.proxy_turns.specs.ClientTurn.ClientEvent.{Pulled, Fed, Read, HandedOut, Followed, Looked, CameBack, Posted, Drained, Pushed, Tried, Parted, Dropped}
use Rattle.proxy_turns.proofs.EventKinds.{and_both, and_true}
use Rattle.proxy_turns.proofs.Sound.{few_together, one_run, run_turn, together}

pub or_false : (b : Bool) → (b || false) ≡ b
or_false true = refl
or_false false = refl

-- a front of the bytes was pushed
pub front_left : (count : ℕ) (bytes left : List ℕ) → left ≡ drop count bytes → bytes ≡ take count bytes ++ left
front_left count bytes left is = sym (take-append-drop count bytes) ∙ ap (λ (u : List ℕ). take count bytes ++ u) (sym is)

pub front_moves : (count : ℕ) (bytes : List ℕ) → count ≤ length bytes → nat_lt 0 count ≡ nat_lt 0 (length (take count bytes))
front_moves count bytes le = ap (nat_lt 0) (sym (length-take-le count bytes le))

pub not_some : {A : Type 0} (o : Option A) → is_some o ≡ false → o ≡ None
not_some None e = refl
not_some (Some x) e = absurd (false≢true (sym e))

abbrev pub at : {C : Type 0} → ClientModel C → Outlet RunModel → ViewModel → ClientContext C
at client outlet view = record { client = client; outlet = outlet; view = view }

all_wider : (few may : ClientEvent → Bool) → ((event : ClientEvent) → few event ≡ true → may event ≡ true) → (events : List ClientEvent) → list_all few events ≡ true → list_all may events ≡ true
all_wider few may wider [] all = refl
all_wider few may wider (event ∷ events) all =
    let both = and_both (few event) (list_all few events) all in
    and_true (may event) (list_all may events) (wider event both.0) (all_wider few may wider events both.1)

module _ {C : Type 0} (moves : Moves C) (may : ClientEvent → Bool) where
  by : (old : ClientContext C) (event : ClientEvent) (new : ClientContext C) (moved : Bool) → moved ≡ is_client_move event → may event ≡ true → ClientDoes moves old event new → ClientGoesBy moves may old moved new
  by old event new moved is kind does = (event ∷ [], (new, does, refl), is ∙ sym (or_false (is_client_move event)), and_true (may event) true kind refl)

  pub stays : (old : ClientContext C) → ClientGoesBy moves may old false old
  stays old = ([], refl, refl, refl)

  folds_after : (old : ClientContext C) (first : List ClientEvent) (mid : ClientContext C) (next : List ClientEvent) (new : ClientContext C)
      → FoldsTo (ClientDoes moves) old first mid → FoldsTo (ClientDoes moves) mid next new → FoldsTo (ClientDoes moves) old (first ++ next) new
  folds_after old [] mid next new is then = let P : ClientContext C → Type 0 = λ d. FoldsTo (ClientDoes moves) d next new in subst P (sym is) then
  folds_after old (event ∷ first) mid next new (d, does, rest) then = (d, does, folds_after d first mid next new rest then)

  -- first the one, then the other
  pub goes_then : (old : ClientContext C) (first : Bool) (mid : ClientContext C) (next : Bool) (new : ClientContext C)
      → ClientGoesBy moves may old first mid → ClientGoesBy moves may mid next new → ClientGoesBy moves may old (first || next) new
  goes_then old first mid next new (es, folds, is, few) (fs, then, so, more) = (
    es ++ fs,
    folds_after old es mid fs new folds then,
    ap (λ a. a || next) is ∙ ap (λ b. list_any is_client_move es || b) so ∙ sym (list_any-append is_client_move es fs),
    list_all-append may es fs ∙ and_true (list_all may es) (list_all may fs) few more,
  )

  -- a call after others found no memory
  pub turns_err : (old : ClientContext C) (first : Bool) (mid new : ClientContext C) (e e' : NoMemory) (result : Result Bool NoMemory)
      → ClientGoesBy moves may old first mid → ClientTurnsBy moves may mid (Err e) new → result ≡ Err e' → ClientTurnsBy moves may old result new
  turns_err old first mid new e e' result goes (moved, more) is =
      let P : Result Bool NoMemory → Type 0 = λ r. ClientTurnsBy moves may old r new in
      subst P (sym is) (first || moved, goes_then old first mid moved new goes more)

  pub err_turn : (old new : ClientContext C) (moved : Bool) (e : NoMemory) (result : Result Bool NoMemory) → result ≡ Err e → ClientGoesBy moves may old moved new → ClientTurnsBy moves may old result new
  err_turn old new moved e result is goes =
      let P : Result Bool NoMemory → Type 0 = λ r. ClientTurnsBy moves may old r new in subst P (sym is) (moved, goes)

  -- a call that moved something
  pub moved_by : (old : ClientContext C) (moved : Bool) (new : ClientContext C) → moved ≡ true → ClientTurnsBy moves may old (Ok moved) new → ClientGoesBy moves may old true new
  moved_by old true new is goes = goes
  moved_by old false new is goes = absurd (false≢true is)

  -- the same where a value changed that is not seen
  pub goes_seen : (old : ClientContext C) (moved : Bool) (t t' : ClientModel C) (o : Outlet RunModel) (v : ViewModel) → t' ≡ t → ClientGoesBy moves may old moved (at t o v) → ClientGoesBy moves may old moved (at t' o v)
  goes_seen old moved t t' o v same goes = let P : ClientModel C → Type 0 = λ x. ClientGoesBy moves may old moved (at x o v) in subst P (sym same) goes

  -- whatever a call answered, it did some events
  pub goes_anyhow : (old : ClientContext C) (result : Result Bool NoMemory) (new : ClientContext C) → ClientTurnsBy moves may old result new → (moved : Bool) × ClientGoesBy moves may old moved new
  goes_anyhow old (Ok moved) new goes = (moved, goes)
  goes_anyhow old (Err e) new goes = goes

  module _ (t : ClientModel C) (o : Outlet RunModel) (v : ViewModel) where
    pub tried : may Tried ≡ true → (port : C) → moves.between t.port [] [] [] port → ClientGoesBy moves may (at t o v) false (at (record t { port = port }) o v)
    tried kind port m = by (at t o v) Tried _ false refl kind (m, refl)

    pub pulled : ((bytes : List ℕ) → may (Pulled bytes) ≡ true) → (port : C) (bytes : List ℕ) (moved : Bool) → t.unfed ≡ [] → moves.between t.port bytes [] [] port → moved ≡ nat_lt 0 (length bytes)
        → ClientGoesBy moves may (at t o v) moved (at (record t { port = port; unfed = bytes }) o v)
    pulled kind port bytes moved none m is =
        let with_unfed : List ℕ → ClientContext C = λ u. at (record t { port = port; unfed = u }) o v in
        by (at t o v) (Pulled bytes) (with_unfed bytes) moved is (kind bytes) (m, ap (λ (u : List ℕ). with_unfed (u ++ bytes)) (sym none))

    pub parted : may Parted ≡ true → (t' : ClientModel C) → t.gone ≡ false → moves.gone t.port → HangsUp t.session t'.session → t' ≡ record t { session = t'.session; gone = true; unfed = []; unpushed = [] } → ClientGoesBy moves may (at t o v) true (at t' o v)
    parted kind t' here left hangs is = by (at t o v) Parted (at t' o v) true refl kind (here, left, hangs, ap (λ x. at x o v) is)

    pub fed : ((result : Result ℕ SessionFault) → may (Fed result) ≡ true) → (session : SessionModel) (result : Result ℕ SessionFault) (unfed : List ℕ) (moved : Bool) → FeedOutcome t.session t.unfed result session
        → unfed ≡ left_of t.unfed result → moved ≡ is_client_move (Fed result) → ClientGoesBy moves may (at t o v) moved (at (record t { session = session; unfed = unfed }) o v)
    fed kind session result unfed moved feeds left is =
        let with_unfed : List ℕ → ClientContext C = λ u. at (record t { session = session; unfed = u }) o v in
        by (at t o v) (Fed result) (with_unfed unfed) moved is (kind result) (feeds, ap with_unfed left)

    pub has_read : ((result : Result Bool SessionFault) → may (Read result) ≡ true) → (session : SessionModel) (result : Result Bool SessionFault) (moved : Bool) → ReadOutcome t.session result session
        → moved ≡ is_client_move (Read result) → ClientGoesBy moves may (at t o v) moved (at (record t { session = session }) o v)
    has_read kind session result moved reads is = by (at t o v) (Read result) _ moved is (kind result) (reads, refl)

    -- nothing was handed out
    same_parts : (session : SessionModel) (commands : CommandsModel) → session ≡ t.session → commands ≡ t.commands → ClientGoesBy moves may (at t o v) false (at (record t { session = session; commands = commands }) o v)
    same_parts session commands same kept =
        let stand : ClientContext C = at (record t { session = session; commands = commands }) o v in
        let is : at t o v ≡ stand = λ i. at (record t { session = sym same i; commands = sym kept i }) o v in
        subst (ClientGoesBy moves may (at t o v) false) is (stays (at t o v))

    pub begins : ((ticket : Ticket) (part : PartModel) → may (HandedOut ticket part) ≡ true) → (session : SessionModel) (commands : CommandsModel) (result : Result Bool NoMemory) → t.gone ≡ false → t.commands.fresh ≡ []
        → BeginOutcome t.commands t.session result commands session → ClientTurnsBy moves may (at t o v) result (at (record t { session = session; commands = commands }) o v)
    begins kind session commands (Ok true) here none (ticket, part, ready, is) =
        let with_commands : CommandsModel → ClientContext C = λ cs. at (record t { session = session; commands = cs }) o v in
        by (at t o v) (HandedOut ticket part) (with_commands commands) true refl (kind ticket part) (here, none, ready, ap with_commands is)
    begins kind session commands (Ok false) here none ((nothing, same), kept) = same_parts session commands same kept
    begins kind session commands (Err e) here none (kept, same) = (false, same_parts session commands same kept)

    pub follows : ((ticket : Ticket) (part : PartModel) → may (Followed ticket part) ≡ true) → (session : SessionModel) (commands : CommandsModel) (result : Result Bool NoMemory) → t.gone ≡ false
        → FollowOutcome t.commands t.session result commands session → ClientTurnsBy moves may (at t o v) result (at (record t { session = session; commands = commands }) o v)
    follows kind session commands (Ok true) here (ticket, part, behind, is) =
        let with_commands : CommandsModel → ClientContext C = λ cs. at (record t { session = session; commands = cs }) o v in
        by (at t o v) (Followed ticket part) (with_commands commands) true refl (kind ticket part) (here, behind, ap with_commands is)
    follows kind session commands (Ok false) here (kept, same) = same_parts session commands same kept
    follows kind session commands (Err e) here (kept, same) = (false, same_parts session commands same kept)

    pub drained : ((n : ℕ) → may (Drained n) ≡ true) → (session : SessionModel) (n : ℕ) (unpushed : List ℕ) (moved : Bool) → t.gone ≡ false → DrainOutcome most_drained t.session t.unpushed (Ok n) session unpushed
        → moved ≡ nat_lt 0 n → ClientGoesBy moves may (at t o v) moved (at (record t { session = session; unpushed = unpushed }) o v)
    drained kind session n unpushed moved there drains is = by (at t o v) (Drained n) _ moved is (kind n) (there, drains, refl)

    -- nothing was drained
    pub drains_nothing : (session : SessionModel) (unpushed : List ℕ) → session ≡ t.session → unpushed ≡ t.unpushed
        → ClientGoesBy moves may (at t o v) false (at (record t { session = session; unpushed = unpushed }) o v)
    drains_nothing session unpushed same kept =
        let is : at t o v ≡ at (record t { session = session; unpushed = unpushed }) o v = λ i. at (record t { session = sym same i; unpushed = sym kept i }) o v in
        subst (ClientGoesBy moves may (at t o v) false) is (stays (at t o v))

    pub pushed : ((bytes : List ℕ) → may (Pushed bytes) ≡ true) → (port : C) (bytes unpushed : List ℕ) (moved : Bool) → moves.between t.port [] bytes [] port → t.unpushed ≡ bytes ++ unpushed
        → moved ≡ nat_lt 0 (length bytes) → ClientGoesBy moves may (at t o v) moved (at (record t { port = port; unpushed = unpushed }) o v)
    pushed kind port bytes unpushed moved m left is = by (at t o v) (Pushed bytes) _ moved is (kind bytes) (m, left, refl)

    pub drops : ((tickets : List Ticket) → may (Dropped tickets) ≡ true) → (commands : CommandsModel) (was : Bool) → t.gone ≡ true → Drops t.commands was commands → ClientGoesBy moves may (at t o v) was (at (record t { commands = commands }) o v)
    drops kind commands true gone (some, left) =
        let with_commands : CommandsModel → ClientContext C = λ cs. at (record t { commands = cs }) o v in
        by (at t o v) (Dropped (map (λ c. c.ticket) t.commands.fresh)) (with_commands commands) true refl (kind (map (λ c. c.ticket) t.commands.fresh)) (gone, some, refl, ap with_commands left)
    drops kind commands false gone (none, same) =
        let P : CommandsModel → Type 0 = λ cs. ClientGoesBy moves may (at t o v) false (at (record t { commands = cs }) o v) in subst P (sym same) (stays (at t o v))

    reads : ((result : Result Bool SessionFault) → may (Read result) ≡ true) → (session : SessionModel) (given : Result Bool SessionFault) → ReadOutcome t.session given session
        → ClientTurnsBy moves may (at t o v) (read_answer given) (at (record t { session = session }) o v)
    reads kind session (Ok read) done = has_read kind session (Ok read) read done refl
    reads kind session (Err fault.NoMemory) done = (false, has_read kind session (Err fault.NoMemory) false done refl)
    reads kind session (Err (fault.Wire why)) done = has_read kind session (Err (fault.Wire why)) false done refl
    reads kind session (Err fault.NotRequest) done = has_read kind session (Err fault.NotRequest) false done refl

    pub turns_read : ((result : Result Bool SessionFault) → may (Read result) ≡ true) → (session : SessionModel) (given : Result Bool SessionFault) (result : Result Bool NoMemory) → result ≡ read_answer given → ReadOutcome t.session given session
        → ClientTurnsBy moves may (at t o v) result (at (record t { session = session }) o v)
    turns_read kind session given result is done =
        let P : Result Bool NoMemory → Type 0 = λ r. ClientTurnsBy moves may (at t o v) r (at (record t { session = session }) o v) in subst P (sym is) (reads kind session given done)

    -- bytes were pulled, or none
    with_unfed : (port : C) (unfed : List ℕ) → t.unfed ≡ [] → unfed ≡ [] → at (record t { port = port }) o v ≡ at (record t { port = port; unfed = unfed }) o v
    with_unfed port unfed none still = λ i. at (record t { port = port; unfed = (none ∙ sym still) i }) o v

    pub takes_none : may Tried ≡ true → (port : C) (unfed : List ℕ) → t.unfed ≡ [] → moves.between t.port [] [] [] port × (unfed ≡ [])
        → ClientGoesBy moves may (at t o v) false (at (record t { port = port; unfed = unfed }) o v)
    takes_none kind port unfed none (m, still) = subst (ClientGoesBy moves may (at t o v) false) (with_unfed port unfed none still) (tried kind port m)

    pub takes_nothing : may Tried ≡ true → (e : NoMemory) (port : C) (unfed : List ℕ) → t.unfed ≡ [] → Takings moves t.port (Err e) port unfed
        → ClientGoesBy moves may (at t o v) false (at (record t { port = port; unfed = unfed }) o v)
    takes_nothing kind e port unfed none (inl same, still) =
        let P : C → Type 0 = λ p. ClientGoesBy moves may (at t o v) false (at (record t { port = p }) o v) in
        subst (ClientGoesBy moves may (at t o v) false) (with_unfed port unfed none still) (subst P (sym same) (stays (at t o v)))
    takes_nothing kind e port unfed none (inr m, still) = takes_none kind port unfed none (m, still)

    looked : ((slot : ℕ) → may (Looked slot) ≡ true) → (slot : ℕ) (view : ViewModel) → (view ≡ v) ⊎ ((answer : Result (Option ℕ) NotEntered) × Looks v slot answer view) → ClientGoesBy moves may (at t o v) false (at t o view)
    looked kind slot view (inl same) = let P : ViewModel → Type 0 = λ x. ClientGoesBy moves may (at t o v) false (at t o x) in subst P (sym same) (stays (at t o v))
    looked kind slot view (inr (answer, looks)) = by (at t o v) (Looked slot) (at t o view) false refl (kind slot) ((answer, looks), refl)

    came_back : ((run : RunModel) → may (CameBack run) ≡ true) → (outlet : Outlet RunModel) → (outlet ≡ o) ⊎ ((run : RunModel) × Posts o outlet run (Err run)) → ClientGoesBy moves may (at t o v) false (at t outlet v)
    came_back kind outlet (inl same) = let P : Outlet RunModel → Type 0 = λ x. ClientGoesBy moves may (at t o v) false (at t x v) in subst P (sym same) (stays (at t o v))
    came_back kind outlet (inr (run, back)) = by (at t o v) (CameBack run) (at t outlet v) false refl (kind run) (back, refl)

  module _ (looks_too : (slot : ℕ) → may (Looked slot) ≡ true) (back_too : (run : RunModel) → may (CameBack run) ≡ true) (posted_too : (run : RunModel) → may (Posted run) ≡ true)
      (t : ClientModel C) (o o' : Outlet RunModel) (v v' : ViewModel) (commands : CommandsModel) where
    -- none is
    posts_none : (slot : ℕ) → commands ≡ t.commands → Tries slot o v o' v' → ClientGoesBy moves may (at t o v) false (at (record t { commands = commands }) o' v')
    posts_none slot same (looks, backs) =
        let P : CommandsModel → Type 0 = λ cs. ClientGoesBy moves may (at t o v) false (at (record t { commands = cs }) o' v') in
        subst P (sym same) (goes_then (at t o v) false (at t o v') false (at t o' v') (looked t o v looks_too slot v' looks) (came_back t o v' back_too o' backs))

    -- the commands that were not posted yet, of a client that is there
    posts_fresh : (moved : Bool) → IsSoundClient t.session t.commands → t.gone ≡ false → PostsFresh t.commands o v moved commands o' v'
        → ClientGoesBy moves may (at t o v) moved (at (record t { commands = commands }) o' v')
    posts_fresh true sound here (first, later, run, those, goes, is, posts, new) =
        let as_context : CommandsModel → ClientContext C = λ cs. at (record t { commands = cs }) o' v' in
        let turn = run_turn t.session t.commands first later sound those in
        let one : AreOneRun (first ∷ later) = subst AreOneRun those (one_run t.session t.commands sound) in
        by (at t o v) (Posted run) (as_context commands) true refl (posted_too run) (
          first,
          later,
          record t.commands { fresh = [] },
          inl (those, subst (All IsFresh) those sound.fresh, refl),
          λ gone. absurd (false≢true (sym here ∙ gone)),
          turn.0,
          turn.1,
          goes,
          is,
          subst IsTogether (sym is) (together first later run.first.node one),
          subst (λ r. count_in r ≤ most_together) (sym is) (few_together t.session t.commands first later run.first.node sound those),
          posts,
          ap as_context new,
        )
    posts_fresh false sound here (same, slot, tries) = posts_none slot same tries

    pub turns_posts_fresh : (result : Result Bool NoMemory) → IsSoundClient t.session t.commands → t.gone ≡ false → PostsFreshResult t.commands o v result commands o' v'
        → ClientTurnsBy moves may (at t o v) result (at (record t { commands = commands }) o' v')
    turns_posts_fresh (Ok moved) sound here done = posts_fresh moved sound here done
    turns_posts_fresh (Err e) sound here done = (false, posts_fresh false sound here done)

    -- one that was posted before, in its turn
    posts_again : (number : ℕ) (moved : Bool) → IsSoundClient t.session t.commands → ((c : CommandModel) → get t.commands.posted number ≡ Some c → IsOut t.session c.ticket) → PostsAt t.commands number o v moved commands o' v'
        → ClientGoesBy moves may (at t o v) moved (at (record t { commands = commands }) o' v')
    posts_again number true sound turn (c, c', there, (run, goes, is, post, waits), new) =
        let as_context : CommandsModel → ClientContext C = λ cs. at (record t { commands = cs }) o' v' in
        let named : c.ticket.part ≡ number = (sound.posted number c there).0 in
        let mine : get t.commands.posted c.ticket.part ≡ Some c = ap (get t.commands.posted) named ∙ there in
        by (at t o v) (Posted run) (as_context commands) true refl (posted_too run) (
          c,
          [],
          t.commands,
          inr (mine, refl, refl),
          λ gone. mine,
          turn c there,
          tt,
          goes,
          is,
          subst IsTogether (sym is) (All-nil (GoTogether (run_of c [] run.first.node).first)),
          subst (λ r. count_in r ≤ most_together) (sym is) (omega arith),
          post,
          ap as_context (new ∙ ap (λ (d : CommandModel). with_command t.commands number d) waits ∙ ap (λ n. with_command t.commands n (awaiting c)) (sym named)),
        )
    posts_again number false sound turn (same, slot, tries) = posts_none slot same tries

    pub turns_posts_again : (number : ℕ) (result : Result Bool NoMemory) → IsSoundClient t.session t.commands → ((c : CommandModel) → get t.commands.posted number ≡ Some c → IsOut t.session c.ticket)
        → PostsAtResult t.commands number o v result commands o' v' → ClientTurnsBy moves may (at t o v) result (at (record t { commands = commands }) o' v')
    turns_posts_again number (Ok moved) sound turn done = posts_again number moved sound turn done
    turns_posts_again number (Err e) sound turn done = (false, posts_again number false sound turn done)

  -- events of one kind are of a wider one
  pub goes_wider : (few : ClientEvent → Bool) → ((event : ClientEvent) → few event ≡ true → may event ≡ true) → (old : ClientContext C) (moved : Bool) (new : ClientContext C)
      → ClientGoesBy moves few old moved new → ClientGoesBy moves may old moved new
  goes_wider few wider old moved new (events, folds, is, all) = (events, folds, is, all_wider few may wider events all)

  pub err_wider : (few : ClientEvent → Bool) → ((event : ClientEvent) → few event ≡ true → may event ≡ true) → (old new : ClientContext C) (e e' : NoMemory) (result : Result Bool NoMemory)
      → ClientTurnsBy moves few old (Err e) new → result ≡ Err e' → ClientTurnsBy moves may old result new
  err_wider few wider old new e e' result (moved, goes) is =
      let P : Result Bool NoMemory → Type 0 = λ r. ClientTurnsBy moves may old r new in
      subst P (sym is) (moved, goes_wider few wider old moved new goes)

  -- a call after others found no memory; its events are of a narrower kind
  pub turns_err_wider : (few : ClientEvent → Bool) → ((event : ClientEvent) → few event ≡ true → may event ≡ true) → (old : ClientContext C) (first : Bool) (mid new : ClientContext C) (e e' : NoMemory)
      (result : Result Bool NoMemory) → ClientGoesBy moves may old first mid → ClientTurnsBy moves few mid (Err e) new → result ≡ Err e' → ClientTurnsBy moves may old result new
  turns_err_wider few wider old first mid new e e' result goes (moved, more) is =
      turns_err old first mid new e e' result goes (moved, goes_wider few wider mid moved new more) is

  -- whatever their kind
  pub goes_of : (old : ClientContext C) (moved : Bool) (new : ClientContext C) → ClientGoesBy moves may old moved new → ClientGoes moves old moved new
  goes_of old moved new (events, folds, is, all) = (events, folds, is)

  pub turns_of : (old : ClientContext C) (result : Result Bool NoMemory) (new : ClientContext C) → ClientTurnsBy moves may old result new → ClientTurns moves old result new
  turns_of old (Ok moved) new goes = goes_of old moved new goes
  turns_of old (Err e) new (moved, goes) = (moved, goes_of old moved new goes)
