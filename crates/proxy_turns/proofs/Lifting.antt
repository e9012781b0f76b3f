-- What happens to one client happens to the worker.
use Rattle.std.proofs.Common.{◌≡◌, ◌||◌, ℕ, nat_eq, Bool, true, false, cond, List, [], ◌∷◌, ◌++◌, map, Option, Some, None, Result, Ok, Err, inl, inr, refl, sym, ap, subst, ◌∙◌}
use Rattle.std.specs.List.{FoldsTo, list_all, list_any}
use Rattle.std.specs.Ordering.{nat_cmp, eq_by_cmp}
use Rattle.std.specs.Cmp.{nat_cmp_total, eq_by_cmp_equiv}
use Rattle.std.specs.FinMap.{FinMap, get, insert, remove, get-insert, same_map, nat_cmp-IsAntisymmetric}
use Rattle.std.specs.Map.{lookup}
use Rattle.std.proofs.lemmas.List.Folds.{list_all-append, list_any-append}
use Rattle.resp_wire.specs.LimitsModel.{full}
use Rattle.resp_wire.specs.declared.fault.NoMemory.{NoMemory}
use Rattle.key_split.specs.declared.travel.Ticket.{Ticket}
use Rattle.key_split.specs.declared.travel.Told.{Told}
use Rattle.key_split.specs.declared.travel.Ended.{Ended}
use Rattle.proxy_lanes.specs.declared.ring.Inlet.{Inlet}
use Rattle.proxy_lanes.specs.Lane.{Takes}
use Rattle.proxy_lanes.specs.View.{ViewModel}
use Rattle.proxy_turns.specs.declared.newcomer.Newcomer.{Newcomer}
use Rattle.proxy_turns.specs.declared.turned.Turned.{Turned}
use Rattle.proxy_turns.specs.declared.turned.Finish.TheVariants as finish
use Rattle.proxy_turns.specs.declared.turned.Settled.{Settled}
use Rattle.proxy_turns.specs.declared.turned.Settled.TheVariants as settled
use Rattle.proxy_turns.specs.Port.{Moves}
use Rattle.proxy_turns.specs.Commands.{AwaitsIn, Hears}
use Rattle.proxy_turns.specs.ClientModel.{ClientModel, IsDone, new_client}
use Rattle.proxy_turns.specs.ClientTurn.{ClientContext, ClientEvent, ClientDoes, ClientGoes, SettleOutcome, TurnOutcome, is_client_move, is_settled}
use Rattle.proxy_turns.specs.ClientTable.{AtClient, AtPlace, ClientFinishes, ClientsContext}
use Rattle.proxy_turns.specs.WorkerModel.{WorkerModel, GivesBack, WorkerGoes, WorkerGoesBy, WorkerEvent, WorkerDoes, Learns, Leaves, OneCame, Tells, WorkerTurns, WorkerTurnsBy, clients_in, is_worker_move, one_more, with_port}
use Rattle.proxy_turns.specs.WorkerModel.WorkerEvent.{Came, Did, Finished, FoundNobody, FoundNone, Left, Took, TurnedAway}
use Rattle.proxy_turns.specs.Arrivals.{PutsNew, settled_in, turned_in}
use Rattle.proxy_turns.proofs.Going.{at, goes_of as client_goes, or_false, tried}
use Rattle.proxy_turns.proofs.EventKinds.{and_both, and_true, every_one, whatever}
use Rattle.proxy_turns.proofs.Posting.{some_same}
use Rattle.proxy_turns.proofs.Tables.{at_number, none_some, put_again}

module _ {X : Type 0} where
  pub get_put : (m : FinMap nat_cmp X) (k : ℕ) (x : X) → get (insert m k x) k ≡ Some x
  get_put m k x = get-insert nat_cmp_total m k x k ∙ ap (λ b. cond b (Some x) (get m k)) ((eq_by_cmp_equiv nat_cmp_total).refl k)

  twice : (b : Bool) (o p r : Option X) → cond b o (cond b p r) ≡ cond b o r
  twice true o p r = refl
  twice false o p r = refl

  put_twice : (m : FinMap nat_cmp X) (k : ℕ) (x y : X) → insert (insert m k x) k y ≡ insert m k y
  put_twice m k x y =
      same_map nat_cmp_total nat_cmp-IsAntisymmetric _ _
      (λ q. get-insert nat_cmp_total (insert m k x) k y q ∙ ap (cond (eq_by_cmp nat_cmp q k) (Some y)) (get-insert nat_cmp_total m k x q)
      ∙ twice (eq_by_cmp nat_cmp q k) (Some y) (Some x) (get m q) ∙ sym (get-insert nat_cmp_total m k y q))

-- a pair is told to a client's command, or to none
module _ {C : Type 0} (old new : List (ℕ × ClientModel C)) (ticket : Ticket) (told : Told) where
  pub tells_at : (client client' : ClientModel C) (heard : Bool) → get (clients_in old) ticket.client ≡ Some client → clients_in new ≡ insert (clients_in old) ticket.client client'
      → Hears client.commands ticket told heard client'.commands → client' ≡ record client { commands = client'.commands }
      → Tells (clients_in old) ticket told heard (clients_in new)
  tells_at client client' true at put hears kept = (client, client', at, hears, kept, put)
  tells_at client client' false at put (silent, same) kept =
      let unchanged : client' ≡ client = kept ∙ (λ i. record client { commands = same i }) in (
        λ t there aw. silent (subst (λ (x : ClientModel C). AwaitsIn x.commands ticket) (some_same t client (sym there ∙ at)) aw),
        put ∙ ap (insert (clients_in old) ticket.client) unchanged ∙ put_again (clients_in old) ticket.client client at,
      )

  pub tells_none : lookup (nat_eq ticket.client) old ≡ None → clients_in new ≡ clients_in old → Tells (clients_in old) ticket told false (clients_in new)
  tells_none absent same = (λ t there aw. none_some t (sym absent ∙ at_number ticket.client old ∙ there), same)

map_any : (k : ℕ) (events : List ClientEvent) → list_any is_worker_move (map (Did k) events) ≡ list_any is_client_move events
map_any k [] = refl
map_any k (event ∷ events) = ap (λ b. is_client_move event || b) (map_any k events)

map_all : (may : WorkerEvent → Bool) → ((k : ℕ) (event : ClientEvent) → may (Did k event) ≡ true) → (k : ℕ) (events : List ClientEvent) → list_all may (map (Did k) events) ≡ true
map_all may did k [] = refl
map_all may did k (event ∷ events) = and_true (may (Did k event)) (list_all may (map (Did k) events)) (did k event) (map_all may did k events)

all_wider : (few may : WorkerEvent → Bool) → ((event : WorkerEvent) → few event ≡ true → may event ≡ true) → (events : List WorkerEvent) → list_all few events ≡ true → list_all may events ≡ true
all_wider few may wider [] all = refl
all_wider few may wider (event ∷ events) all =
    let both = and_both (few event) (list_all few events) all in
    and_true (may event) (list_all may events) (wider event both.0) (all_wider few may wider events both.1)

ok_settled : Result Settled NoMemory → Settled
ok_settled (Ok s) = s
ok_settled (Err e) = settled.Nothing

not_ok : (s : Settled) (e : NoMemory) → ◌≡◌ {A = Result Settled NoMemory} (Err e) (Ok s) → ⊥
not_ok s e is = subst is_err is tt
  where
    is_err : Result Settled NoMemory → Type 0
    is_err (Ok s) = ⊥
    is_err (Err e) = Unit {0}

module _ {C J : Type 0} (moves : Moves C) (may : WorkerEvent → Bool) where
  -- the clients of a worker, with its lane and its view
  abbrev pub contexts_of : WorkerModel C J → ClientsContext C
  contexts_of model = record { clients = model.clients; outlet = model.outlet; view = model.view }

  abbrev pub with_contexts : WorkerModel C J → ClientsContext C → WorkerModel C J
  with_contexts model contexts = record model { clients = contexts.clients; outlet = contexts.outlet; view = contexts.view }

  pub stays_all : (old new : WorkerModel C J) → new ≡ old → WorkerGoesBy moves may old false new
  stays_all old new is = ([], sym is, refl, refl)

  pub stays_err : (old new : WorkerModel C J) (e : NoMemory) (result : Result Bool NoMemory) → result ≡ Err e → new ≡ old → WorkerTurnsBy moves may old result new
  stays_err old new e result is same =
      let P : Result Bool NoMemory → Type 0 = λ r. WorkerTurnsBy moves may old r new in subst P (sym is) (false, stays_all old new same)

  -- one thing happens
  by_all : (old : WorkerModel C J) (event : WorkerEvent) (new : WorkerModel C J) (moved : Bool) → moved ≡ is_worker_move event → may event ≡ true → WorkerDoes moves old event new → WorkerGoesBy moves may old moved new
  by_all old event new moved is kind happens =
      (event ∷ [], (new, happens, refl), is ∙ sym (or_false (is_worker_move event)), and_true (may event) true kind refl)

  folds_on : (old : WorkerModel C J) (first : List WorkerEvent) (mid : WorkerModel C J) (next : List WorkerEvent) (new : WorkerModel C J)
      → FoldsTo (WorkerDoes moves) old first mid → FoldsTo (WorkerDoes moves) mid next new → FoldsTo (WorkerDoes moves) old (first ++ next) new
  folds_on old [] mid next new is then = let P : WorkerModel C J → Type 0 = λ d. FoldsTo (WorkerDoes moves) d next new in subst P (sym is) then
  folds_on old (event ∷ first) mid next new (d, does, rest) then = (d, does, folds_on d first mid next new rest then)

  -- first the one, then the other
  pub all_then : (old : WorkerModel C J) (first : Bool) (mid : WorkerModel C J) (next : Bool) (new : WorkerModel C J)
      → WorkerGoesBy moves may old first mid → WorkerGoesBy moves may mid next new → WorkerGoesBy moves may old (first || next) new
  all_then old first mid next new (es, folds, is, few) (fs, then, so, more) = (
    es ++ fs,
    folds_on old es mid fs new folds then,
    ap (λ a. a || next) is ∙ ap (λ b. list_any is_worker_move es || b) so ∙ sym (list_any-append is_worker_move es fs),
    list_all-append may es fs ∙ and_true (list_all may es) (list_all may fs) few more,
  )

  -- a call after others found no memory
  pub all_err : (old : WorkerModel C J) (first : Bool) (mid new : WorkerModel C J) (e e' : NoMemory) (result : Result Bool NoMemory)
      → WorkerGoesBy moves may old first mid → WorkerTurnsBy moves may mid (Err e) new → result ≡ Err e' → WorkerTurnsBy moves may old result new
  all_err old first mid new e e' result goes (moved, more) is =
      let P : Result Bool NoMemory → Type 0 = λ r. WorkerTurnsBy moves may old r new in
      subst P (sym is) (first || moved, all_then old first mid moved new goes more)

  lift : (events : List ClientEvent) (k : ℕ) (base : WorkerModel C J) (client : ClientModel C) (context : ClientContext C) → get base.clients k ≡ Some client
      → FoldsTo (ClientDoes moves) (at client base.outlet base.view) events context
      → FoldsTo (WorkerDoes moves) base (map (Did k) events) (record base { clients = insert base.clients k context.client; outlet = context.outlet; view = context.view })
  lift [] k base client context there is =
      λ i. record base { clients = (sym (put_again base.clients k client there) ∙ ap (λ (d : ClientContext C). insert base.clients k d.client) is) i; outlet = (is i).outlet; view = (is i).view }
  lift (event ∷ events) k base client context there (mid, does, rest) =
      let now : WorkerModel C J = record base { clients = insert base.clients k mid.client; outlet = mid.outlet; view = mid.view } in
      let next = lift events k now mid.client context (get_put base.clients k mid.client) rest in
      let P : FinMap nat_cmp (ClientModel C) → Type 0 = λ cs. FoldsTo (WorkerDoes moves) now (map (Did k) events) (record base { clients = cs; outlet = context.outlet; view = context.view }) in
      (now, (client, mid.client, there, does, refl), subst P (put_twice base.clients k mid.client context.client) next)

  goes_at : ((k : ℕ) (event : ClientEvent) → may (Did k event) ≡ true) → (k : ℕ) (base : WorkerModel C J) (client client' : ClientModel C) (new : ClientsContext C) (moved : Bool) → get base.clients k ≡ Some client
      → new.clients ≡ insert base.clients k client' → ClientGoes moves (at client base.outlet base.view) moved (at client' new.outlet new.view)
      → WorkerGoesBy moves may base moved (with_contexts base new)
  goes_at did k base client client' new moved there put (events, folds, is) =
      let P : FinMap nat_cmp (ClientModel C) → Type 0 = λ cs. WorkerGoesBy moves may base moved (record base { clients = cs; outlet = new.outlet; view = new.view }) in
      subst P (sym put) (map (Did k) events, lift events k base client (at client' new.outlet new.view) there folds, is ∙ sym (map_any k events), map_all may did k events)

  unmoved : (base : WorkerModel C J) (new : ClientsContext C) → new ≡ contexts_of base → WorkerGoesBy moves may base false (with_contexts base new)
  unmoved base new same = stays_all base (with_contexts base new) (λ i. with_contexts base (same i))

  -- a client's turn is the worker's
  pub turned : ((k : ℕ) (event : ClientEvent) → may (Did k event) ≡ true) → (base : WorkerModel C J) (result : Result Turned NoMemory) (new : ClientsContext C)
      → (entries : List (ℕ × ClientModel C)) (place : ℕ) → AtPlace entries place (contexts_of base) (λ a b. TurnOutcome moves a result b) (result ≡ Ok (record { moved = false; done = false; asleep = false })) new
      → WorkerTurnsBy moves may base (turned_in result) (with_contexts base new)
  turned did base result new entries place (inl (is, same, none)) =
      let P : Result Turned NoMemory → Type 0 = λ r. WorkerTurnsBy moves may base (turned_in r) (with_contexts base new) in subst P (sym is) (unmoved base new same)
  turned did base (Ok t) new entries place (inr (k, client, client', there, done, put, stands)) = goes_at did k base client client' new t.moved there put done.0
  turned did base (Err e) new entries place (inr (k, client, client', there, (moved, goes), put, stands)) = (moved, goes_at did k base client client' new moved there put goes)

  -- a step of a client's command is the worker's
  pub settled_ok : ((k : ℕ) (event : ClientEvent) → may (Did k event) ≡ true) → (base : WorkerModel C J) (number : ℕ) (s : Settled) (new : ClientsContext C)
      → AtClient (contexts_of base) number (λ a b. SettleOutcome moves a (Ok s) b) (◌≡◌ {A = Result Settled NoMemory} (Ok s) (Ok settled.Nothing)) new
      → WorkerGoesBy moves may base (is_settled s) (with_contexts base new)
  unfolding ok_settled
  settled_ok did base number s new (inl (absent, is, same)) =
      let none : s ≡ settled.Nothing = ap ok_settled is in
      let P : Settled → Type 0 = λ x. WorkerGoesBy moves may base (is_settled x) (with_contexts base new) in
      subst P (sym none) (unmoved base new same)
  settled_ok did base number settled.Posted new (inr (client, client', there, goes, put)) = goes_at did number base client client' new true there put goes
  settled_ok did base number settled.Held new (inr (client, client', there, goes, put)) = goes_at did number base client client' new false there put goes
  settled_ok did base number settled.Nothing new (inr (client, client', there, goes, put)) = goes_at did number base client client' new false there put goes

  pub settled_all : ((k : ℕ) (event : ClientEvent) → may (Did k event) ≡ true) → (base : WorkerModel C J) (number : ℕ) (result : Result Settled NoMemory) (new : ClientsContext C)
      → AtClient (contexts_of base) number (λ a b. SettleOutcome moves a result b) (result ≡ Ok settled.Nothing) new → WorkerTurnsBy moves may base (settled_in result) (with_contexts base new)
  settled_all did base number (Ok s) new at = settled_ok did base number s new at
  settled_all did base number (Err e) new (inl (absent, is, same)) = absurd (not_ok settled.Nothing e is)
  settled_all did base number (Err e) new (inr (client, client', there, (moved, goes), put)) = (moved, goes_at did number base client client' new moved there put goes)

  -- a part ends
  pub finished : ((k : ℕ) (t : Ticket) (end : Ended) → may (Finished k t end) ≡ true) → (base : WorkerModel C J) (asked : Ticket) (next : Option Ticket) (clients' : FinMap nat_cmp (ClientModel C)) (answered : ℕ)
      → ClientFinishes moves base.clients asked (Ok (finish.Ended next)) clients' → answered ≡ one_more base.answered → WorkerGoesBy moves may base true (record base { clients = clients'; answered = answered })
  finished ended base asked next clients' answered (inl (absent, is, same)) count = absurd (cc)
  finished ended base asked next clients' answered (inr (client, client', there, (t, end, named, was_out, fin, comes), put)) count =
      by_all base (Finished asked.client t end) (record base { clients = clients'; answered = answered }) true refl (ended asked.client t end)
      (client, client', there, fin, λ i. record base { clients = put i; answered = count i })

  pub not_finished : (base : WorkerModel C J) (asked : Ticket) (clients' : FinMap nat_cmp (ClientModel C)) → ClientFinishes moves base.clients asked (Ok finish.Open) clients' → WorkerGoesBy moves may base false (record base { clients = clients' })
  not_finished base asked clients' (inl (absent, is, same)) = stays_all base (record base { clients = clients' }) (λ i. record base { clients = same i })
  not_finished base asked clients' (inr (client, client', there, (none, same), put)) =
      stays_all base (record base { clients = clients' }) (λ i. record base { clients = (put ∙ ap (insert base.clients asked.client) same ∙ put_again base.clients asked.client client there) i })

  pub finish_failed : ((k : ℕ) (event : ClientEvent) → may (Did k event) ≡ true) → (base : WorkerModel C J) (asked : Ticket) (e e' : NoMemory) (result : Result Bool NoMemory) (clients' : FinMap nat_cmp (ClientModel C))
      → ClientFinishes moves base.clients asked (Err e) clients' → result ≡ Err e' → WorkerTurnsBy moves may base result (record base { clients = clients' })
  finish_failed did base asked e e' result clients' (inl (absent, is, same)) so = absurd (cc)
  finish_failed did base asked e e' result clients' (inr (client, client', there, (m, same), put)) so =
      let P : Result Bool NoMemory → Type 0 = λ r. WorkerTurnsBy moves may base r (record base { clients = clients' }) in
      let as_context : ClientModel C → ClientContext C = λ x. at x base.outlet base.view in
      subst P (sym so) (
        false,
        goes_at did asked.client base client client' (record { clients = clients'; outlet = base.outlet; view = base.view }) false there put
            (subst (λ x. ClientGoes moves (at client base.outlet base.view) false (as_context x)) (sym same) (client_goes moves whatever _ _ _ (tried moves whatever client base.outlet base.view refl client'.port m))),
      )

  pub took : ((ticket : Ticket) (told : Told) → may (Took ticket told) ≡ true) → (base : WorkerModel C J) (clients' : FinMap nat_cmp (ClientModel C)) (inlet' : Inlet (Ticket × Told)) (ticket : Ticket) (told : Told) (heard : Bool)
      → Takes base.inlet inlet' (Some (ticket, told)) → Tells base.clients ticket told heard clients' → WorkerGoesBy moves may base true (record base { clients = clients'; inlet = inlet' })
  took kind base clients' inlet' ticket told heard takes tells =
      by_all base (Took ticket told) (record base { clients = clients'; inlet = inlet' }) true refl (kind ticket told) (takes, (heard, tells), refl)

  pub found_none : may FoundNone ≡ true → (base : WorkerModel C J) (inlet' : Inlet (Ticket × Told)) → Takes base.inlet inlet' None → WorkerGoesBy moves may base false (record base { inlet = inlet' })
  found_none kind base inlet' takes = by_all base FoundNone (record base { inlet = inlet' }) false refl kind (takes, refl)

  pub has_left : ((number : ℕ) → may (Left number) ≡ true) → (base : WorkerModel C J) (clients' : FinMap nat_cmp (ClientModel C)) (ports' : List C) (number : ℕ) (last port : C)
      → Leaves base.clients number last clients' → moves.between last [] [] [] port → ports' ≡ with_port base.left base.ports port
      → WorkerGoesBy moves may base true (record base { clients = clients'; ports = ports' })
  has_left kind base clients' ports' number last port leaves closed is =
      by_all base (Left number) (record base { clients = clients'; ports = ports' }) true refl (kind number) (last, port, leaves, closed, λ i. record base { clients = clients'; ports = is i })

  -- the next new client comes, or is turned away; the clients and the ports may have moved to other places before
  pub came : ((number : ℕ) → may (Came number) ≡ true) → ((number : ℕ) → may (TurnedAway number) ≡ true) → (base : WorkerModel C J) (newcomers' : Inlet (Newcomer C J)) (newest' left' : Option ℕ) (view' : ViewModel) (clients' : FinMap nat_cmp (ClientModel C)) (ports' : List C)
      (newcomer : Newcomer C J) (client : ClientModel C) → Takes base.newcomers newcomers' (Some newcomer) → OneCame base.left left' → Learns base.view newcomer.front view'
      → client ≡ new_client base.worker newcomer.number full newcomer.port → PutsNew moves base.workers base.worker base.clients base.ports base.newest base.left newcomer.number client clients' ports' newest'
      → WorkerGoesBy moves may base true (record base { clients = clients'; newest = newest'; newcomers = newcomers'; left = left'; view = view'; ports = ports' })
  came comes away_too base newcomers' newest' left' view' clients' ports' newcomer client takes one learns begins (inl (new, put, same, last)) =
      by_all base (Came newcomer.number) (record base { clients = clients'; newest = newest'; newcomers = newcomers'; left = left'; view = view'; ports = ports' }) true refl (comes newcomer.number)
      (newcomer, takes, refl, one, new, learns, λ i. record base { clients = (put ∙ ap (insert base.clients newcomer.number) begins) i; newest = last i; newcomers = newcomers'; left = left'; view = view'; ports = same i })
  came comes away_too base newcomers' newest' left' view' clients' ports' newcomer client takes one learns begins (inr (port, used, closed, same, away, last)) =
      by_all base (TurnedAway newcomer.number) (record base { clients = clients'; newest = newest'; newcomers = newcomers'; left = left'; view = view'; ports = ports' }) true refl (away_too newcomer.number) (
        newcomer,
        port,
        takes,
        refl,
        one,
        used,
        learns,
        subst (λ (x : ClientModel C). moves.between x.port [] [] [] port) begins closed,
        λ i. record base { clients = same i; newest = last i; newcomers = newcomers'; left = left'; view = view'; ports = away i },
      )

  pub came_from : ((number : ℕ) → may (Came number) ≡ true) → ((number : ℕ) → may (TurnedAway number) ≡ true) → (base : WorkerModel C J) (middle : FinMap nat_cmp (ClientModel C)) (kept : List C) (newcomers' : Inlet (Newcomer C J)) (newest' left' : Option ℕ) (view' : ViewModel)
      (clients' : FinMap nat_cmp (ClientModel C)) (ports' : List C) (newcomer : Newcomer C J) (client : ClientModel C) → middle ≡ base.clients → kept ≡ base.ports
      → Takes base.newcomers newcomers' (Some newcomer) → OneCame base.left left' → Learns base.view newcomer.front view'
      → client ≡ new_client base.worker newcomer.number full newcomer.port → PutsNew moves base.workers base.worker middle kept base.newest base.left newcomer.number client clients' ports' newest'
      → WorkerGoesBy moves may base true (record base { clients = clients'; newest = newest'; newcomers = newcomers'; left = left'; view = view'; ports = ports' })
  came_from comes away_too base middle kept newcomers' newest' left' view' clients' ports' newcomer client a b takes one learns begins puts =
      let P : FinMap nat_cmp (ClientModel C) → Type 0 = λ cs. PutsNew moves base.workers base.worker cs kept base.newest base.left newcomer.number client clients' ports' newest' in
      let Q : List C → Type 0 = λ ps. PutsNew moves base.workers base.worker base.clients ps base.newest base.left newcomer.number client clients' ports' newest' in
      came comes away_too base newcomers' newest' left' view' clients' ports' newcomer client takes one learns begins (subst Q b (subst P a puts))

  pub nobody : may FoundNobody ≡ true → (base : WorkerModel C J) (middle : FinMap nat_cmp (ClientModel C)) (kept : List C) (newcomers' : Inlet (Newcomer C J)) → middle ≡ base.clients → kept ≡ base.ports
      → Takes base.newcomers newcomers' None → WorkerGoesBy moves may base false (record base { clients = middle; newcomers = newcomers'; ports = kept })
  nobody kind base middle kept newcomers' a b takes =
      by_all base FoundNobody (record base { clients = middle; newcomers = newcomers'; ports = kept }) false refl kind
      (takes, λ i. record base { clients = a i; newcomers = newcomers'; ports = b i })

  -- events of one kind are of a wider one
  pub goes_wider : (few : WorkerEvent → Bool) → ((event : WorkerEvent) → few event ≡ true → may event ≡ true) → (old : WorkerModel C J) (moved : Bool) (new : WorkerModel C J)
      → WorkerGoesBy moves few old moved new → WorkerGoesBy moves may old moved new
  goes_wider few wider old moved new (events, folds, is, all) = (events, folds, is, all_wider few may wider events all)

  pub err_wider : (few : WorkerEvent → Bool) → ((event : WorkerEvent) → few event ≡ true → may event ≡ true) → (old new : WorkerModel C J) (e e' : NoMemory) (result : Result Bool NoMemory)
      → WorkerTurnsBy moves few old (Err e) new → result ≡ Err e' → WorkerTurnsBy moves may old result new
  err_wider few wider old new e e' result (moved, goes) is =
      let P : Result Bool NoMemory → Type 0 = λ r. WorkerTurnsBy moves may old r new in
      subst P (sym is) (moved, goes_wider few wider old moved new goes)

  -- a call after others found no memory; its events are of a narrower kind
  pub all_err_wider : (few : WorkerEvent → Bool) → ((event : WorkerEvent) → few event ≡ true → may event ≡ true) → (old : WorkerModel C J) (first : Bool) (mid new : WorkerModel C J) (e e' : NoMemory)
      (result : Result Bool NoMemory) → WorkerGoesBy moves may old first mid → WorkerTurnsBy moves few mid (Err e) new → result ≡ Err e' → WorkerTurnsBy moves may old result new
  all_err_wider few wider old first mid new e e' result goes (moved, more) is =
      all_err old first mid new e e' result goes (moved, goes_wider few wider mid moved new more) is

  -- whatever their kind
  pub goes_of : (old : WorkerModel C J) (moved : Bool) (new : WorkerModel C J) → WorkerGoesBy moves may old moved new → WorkerGoes moves old moved new
  goes_of old moved new (events, folds, is, all) = (events, folds, is)

  pub turns_of : (old : WorkerModel C J) (result : Result Bool NoMemory) (new : WorkerModel C J) → WorkerTurnsBy moves may old result new → WorkerTurns moves old result new
  turns_of old (Ok moved) new goes = goes_of old moved new goes
  turns_of old (Err e) new (moved, goes) = (moved, goes_of old moved new goes)

all_every : (events : List WorkerEvent) → list_all every_one events ≡ true
all_every [] = refl
all_every (event ∷ events) = all_every events

-- events of any kind
pub of_every : {C J : Type 0} (moves : Moves C) (old : WorkerModel C J) (moved : Bool) (new : WorkerModel C J) → WorkerGoes moves old moved new → WorkerGoesBy moves every_one old moved new
of_every moves old moved new (events, folds, is) = (events, folds, is, all_every events)

-- one client more leaves as it is
pub leaves_too : {C : Type 0} (clients clients' : FinMap nat_cmp (ClientModel C)) (ports ports' : List C) (number : ℕ) (client : ClientModel C) (port : C) (numbers : List ℕ) (all : List C)
    → get clients number ≡ Some client → port ≡ client.port → clients' ≡ remove clients number → ports' ≡ ports ++ port ∷ [] → GivesBack clients' ports' numbers all
    → GivesBack clients ports (number ∷ numbers) all
leaves_too {C} clients clients' ports ports' number client port numbers all there is put pushed given =
    let P : FinMap nat_cmp (ClientModel C) → Type 0 = λ cs. GivesBack cs ports' numbers all in
    let Q : List C → Type 0 = λ ps. GivesBack (remove clients number) ps numbers all in
    (client, there, subst Q (pushed ∙ ap (λ p. ports ++ p ∷ []) is) (subst P put given))

-- the client at a place, with which nothing is left to do, leaves
pub leaves_at : {C : Type 0} (clients clients' : FinMap nat_cmp (ClientModel C)) (number number' : ℕ) (client client' : ClientModel C) (port : C)
    → get clients number ≡ Some client → IsDone client → ◌≡◌ {A = ℕ × ClientModel C} (number, client) (number', client') → port ≡ client'.port → clients' ≡ remove clients number'
    → Leaves clients number' port clients'
leaves_at {C} clients clients' number number' client client' port there done one is left =
    let P : ℕ × ClientModel C → Type 0 = λ e. (get clients e.0 ≡ Some e.1) × IsDone e.1 in
    let now = subst P one (there, done) in
    (client', now.0, now.1, is, left)
