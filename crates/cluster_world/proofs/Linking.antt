-- What the links' calls say of the machine's events.
use Rattle.std.proofs.Common.{◌≡◌, ◌≢◌, ◌⊎◌, inl, inr, ℕ, zero, suc, List, [], ◌∷◌, ◌++◌, length, Bool, true, false, Some, None, Result, Ok, Err, refl, sym, ap, ◌∙◌, subst, arith, append_assoc}
use Rattle.std.specs.Prelude.{slice_get, slice_set, map, All}
use Rattle.std.proofs.lemmas.List.Elements.{All-append}
use Rattle.std.proofs.lemmas.List.{append-nil}
use Rattle.slot_hash.specs.Slot.{slot_of}
use Rattle.key_split.specs.PartModel.{PartModel, keys_of}
use Rattle.key_split.specs.declared.travel.Ticket.{Ticket}
use Rattle.key_split.specs.declared.travel.Told.{Told}
use Rattle.key_split.specs.declared.travel.Told.TheVariants.{Reply, Moved, Ask, TryAgain, ClusterDown, Unclear, Unsent}
use Rattle.node_model.specs.History.{EntryModel}
use Rattle.node_model.specs.Nodes.{ClusterModel}
use Rattle.node_model.specs.Runs.{deed_for, keys_in, DoesRun, HaveOneSlot}
use Rattle.node_model.specs.declared.role.Verdict.{Verdict}
use Rattle.node_model.specs.declared.role.Verdict.TheVariants.{Plain}
use Rattle.world_laws.specs.State.{WorldModel, Link, slot_for, replied, all_replied, replies_of, parts_told, tickets_told, tolds_of, waiting}
use Rattle.world_laws.specs.World.{WorldDoes, AreOf, IsAmong, IsOf, NamesNode, ServesAsking, ServesRun, entries_of, entry_of}
use Rattle.world_laws.specs.declared.state.Arrival.{Arrival}
use Rattle.world_laws.specs.declared.state.LinkRequest.{LinkRequest}
use Rattle.world_laws.specs.declared.state.LinkRequest.TheVariants.{Asking, Runs}
use Rattle.world_laws.specs.declared.state.LinkReply.{LinkReply}
use Rattle.world_laws.specs.declared.state.LinkReply.TheVariants.{Welcome, To}
use Rattle.world_laws.specs.declared.event.Event.TheVariants as event
use Rattle.world_laws.specs.Allowed.{HaveSlot}
use Rattle.key_split.specs.Same.{same_ticket, same_ticket-Decides}
use Rattle.cluster_world.specs.Commands.{place_for}
use Rattle.cluster_world.specs.Kept.{noted, all_noted, told_all, served_in, Served}
use Rattle.cluster_world.specs.Links.{LinksModel, There, NoneThere, Begins, HasReply, Closes, Discards, Fetches, Welcomes}
use Rattle.cluster_world.specs.Links.{LinkExecutes}
use Rattle.cluster_world.specs.Machine.{MachineAnswers, MayServe, Can}
use Rattle.cluster_world.specs.Serving.{AreParts, GivesParts}
use Rattle.cluster_world.proofs.Served.{as-many}
use Rattle.cluster_world.specs.declared.fault.WorldFault.{WorldFault}
use Rattle.cluster_world.specs.declared.fault.WorldFault.TheVariants.{NoMemory, NotNow}
use Rattle.cluster_world.proofs.Lookups.{first-passes, none-first, same-item}

abbrev pub links_in : WorldModel → LinksModel
links_in w = record { links = w.links; history = w.history }

abbrev pub with_linked : WorldModel → LinksModel → WorldModel
with_linked w k = record w { links = k.links; history = k.history }

pub closes : {U : Type 0} (w : WorldModel) (link : ℕ) (r : Result U WorldFault) (k : LinksModel) (downs : List (Ticket × Told)) → Closes (links_in w) link w.downs r k downs
    → MachineAnswers w (event.Drop link) r (record w { links = k.links; history = k.history; downs = downs })
closes w link (Ok u) k downs h = (h.0, h.1, h.2.0, λ i. record w { links = (h.2.1 i).links; history = (h.2.1 i).history; downs = h.2.2 i })
closes w link (Err NotNow) k downs h = ((λ v d. h.0 d.0 d.1 d.2), λ i. record w { links = (h.1 i).links; history = (h.1 i).history; downs = h.2 i })
closes w link (Err NoMemory) k downs h =
    ((record w { links = slice_set w.links link (record h.0.0 { is_open = false; backs = [] }); downs = w.downs ++ map (λ t. (t, Told.Lost)) (waiting h.0.0) }, (h.0.0, h.0.1, h.0.2, refl)), λ i. record w { links = (h.1 i).links; history = (h.1 i).history; downs = h.2 i })

pub discards : {U : Type 0} (w : WorldModel) (link : ℕ) (r : Result U WorldFault) (k : LinksModel) → Discards (links_in w) link r k → MachineAnswers w (event.Discard link) r (with_linked w k)
discards w link (Ok u) k h = (h.0, h.1, h.2.0.0, h.2.0.1, ap (with_linked w) h.2.1)
discards w link (Err NotNow) k h = ((λ v d. h.0 d.0 d.1 (d.2, d.3)), ap (with_linked w) h.1)
discards w link (Err NoMemory) k h = absurd h

-- Serve

apart : (xs rest more : List LinkRequest) (t : List Ticket) → xs ≡ Asking ∷ rest → xs ≡ Runs t ∷ more → ⊥
apart xs rest more t e f = cc

same-link : (w : WorldModel) (link : ℕ) (x y : Link) → slice_get w.links link ≡ Some x → slice_get w.links link ≡ Some y → x.requests ≡ y.requests
same-link w link x y e f = ap (λ (l : Link). l.requests) (same-item w.links link x y e f)

-- ASKING is served by Plain alone
pub asking-refused : (U : Type 0) (w : WorldModel) (link : ℕ) (verdict : Verdict) → There (links_in w) link (Begins Asking) → (verdict ≡ Plain → ⊥) → MachineAnswers {U = U} w (event.Serve link verdict) (Err NotNow) w
asking-refused U w link verdict first other = (
  (λ v d. elim d.2 [
    | inl x ↦ other x.2
    | inr x ↦ apart (first.0).requests first.2.0 x.0 (tickets_told x.1) first.2.1 (same-link w link first.0 d.0 first.1 d.1 ∙ x.3)
  ]),
  refl,
)

pub welcomes : {U : Type 0} (w : WorldModel) (link : ℕ) (verdict : Verdict) (r : Result U WorldFault) (k : LinksModel) → verdict ≡ Plain → There (links_in w) link (Begins Asking) → Welcomes (links_in w) link r k → MachineAnswers w (event.Serve link verdict) r (with_linked w k)
welcomes w link verdict (Ok u) k plain first h = (h.0, h.1, inl (h.2.0, h.2.1, plain, ap (with_linked w) h.2.2))
welcomes w link verdict (Err NotNow) k plain first h = absurd h
welcomes w link verdict (Err NoMemory) k plain first h =
    ((record w { links = slice_set w.links link (replied (record first.0 { requests = first.2.0; asking = true }) Welcome) }, (first.0, first.1, inl (first.2.0, first.2.1, plain, refl))), ap (with_linked w) h)

-- an open link's first reply can be fetched
pub fetches-can : (w : WorldModel) (link : ℕ) → There (links_in w) link HasReply → Can w (event.Fetch link)
fetches-can w link h = go (h.0).backs refl
  where
    go : (backs : List LinkReply) → (h.0).backs ≡ backs → Can w (event.Fetch link)
    go [] is = absurd (h.2.1 is)
    go (Welcome ∷ rest) is = (record w { links = slice_set w.links link (record h.0 { backs = rest }) }, (h.0, h.1, h.2.0, inl (rest, is, refl)))
    go (To ticket told ∷ rest) is = (record w { links = slice_set w.links link (record h.0 { backs = rest }); downs = w.downs ++ (ticket, told) ∷ [] }, (h.0, h.1, h.2.0, inr (rest, ticket, told, is, refl)))

pub fetches-not : (U : Type 0) (w : WorldModel) (link : ℕ) (fault : WorldFault) (k : LinksModel) (downs : List (Ticket × Told)) → downs ≡ w.downs → There (links_in w) link HasReply → Fetches (links_in w) link (Err fault) k
    → MachineAnswers {U = U} w (event.Fetch link) (Err fault) (record w { links = k.links; history = k.history; downs = downs })
fetches-not U w link NotNow k downs same h f = absurd (f.0 h.0 h.1 h.2)
fetches-not U w link NoMemory k downs same h f = (fetches-can w link h, λ i. record w { links = (f i).links; history = (f i).history; downs = same i })

-- where a link has no request, none is served
pub serve-nothing : (w : WorldModel) (link : ℕ) (verdict : Verdict) → NoneThere (links_in w) link (λ l. l.requests ≢ []) → (v : WorldModel) → WorldDoes w (event.Serve link verdict) v → ⊥
serve-nothing w link verdict none v d = none d.0 d.1 (λ e. elim d.2 [ inl x ↦ (let f : (d.0).requests ≡ Asking ∷ x.0 = x.1 in cc) | inr x ↦ (let f : (d.0).requests ≡ Runs (tickets_told x.1) ∷ x.0 = x.3 in cc) ])

-- a run is served where its commands stand among those that arrived

same-run : (xs rest more : List LinkRequest) (ts us : List Ticket) → xs ≡ Runs ts ∷ rest → xs ≡ Runs us ∷ more → ts ≡ us
same-run xs rest more ts us e f = cc

module _ (w : WorldModel) (link : ℕ) (verdict : Verdict) (tickets : List Ticket) (first : There (links_in w) link (Begins (Runs tickets))) where
  -- what a step of Serve says of the run
  its-run : (v : WorldModel) (l : Link) → slice_get w.links link ≡ Some l → ServesAsking w link l verdict v ⊎ ServesRun w link l verdict v
      → (run : List (Arrival × Told)) × (tickets ≡ tickets_told run) × AreOf run w.commands × NamesNode w.cluster verdict
  its-run v l at (inl x) = absurd (apart l.requests x.0 first.2.0 tickets x.1 (same-link w link l first.0 at first.1 ∙ first.2.1))
  its-run v l at (inr x) = (x.1, same-run l.requests first.2.0 x.0 tickets (tickets_told x.1) (same-link w link l first.0 at first.1 ∙ first.2.1) x.3, x.4, x.5)

  -- a verdict that names a node that there is not serves no run
  pub serve-refused : (NamesNode w.cluster verdict → ⊥) → (v : WorldModel) → WorldDoes w (event.Serve link verdict) v → ⊥
  serve-refused unnamed v d = unnamed (its-run v d.0 d.1 d.2).3

  -- one of which a command did not arrive is not served
  pub serve-nowhere : (ticket : Ticket) → IsAmong tickets ticket → place_for w.commands ticket ≡ None → (v : WorldModel) → WorldDoes w (event.Serve link verdict) v → ⊥
  serve-nowhere ticket among none v d =
      let its = its-run v d.0 d.1 d.2 in
      let one = among-of its.0 w.commands its.2 among.0 ticket (ap (λ (ts : List Ticket). slice_get ts among.0) (sym its.1) ∙ among.1) in
      none-first (λ (x : Arrival). same_ticket ticket x.command.ticket) w.commands one.0 one.1 none one.2
    where
      among-of : (run : List (Arrival × Told)) (commands : List Arrival) → AreOf run commands → (k : ℕ) (t : Ticket) → slice_get (tickets_told run) k ≡ Some t → (i : ℕ) × (c : Arrival) × IsOf t commands i c
      among-of [] commands are k t at = absurd (cc)
      among-of (p ∷ run) commands are zero t at =
          let same : p.0.command.ticket ≡ t = cc in
          (are.0.0, p.0, subst (λ (u : Ticket). IsOf u commands are.0.0 p.0) same are.0.1)
      among-of (p ∷ run) commands are (suc k) t at = among-of run commands are.1 k t at

-- what the parts of a run say of it

served_of : List (Arrival × Told) → List Served
served_of [] = []
served_of (p ∷ run) = record { ticket = p.0.command.ticket; part = p.0.command.part; told = p.1 } ∷ served_of run

record TheRun (commands : List Arrival) (ts : List Ticket) (ps : List PartModel) (ds : List Told) : Type 0 where
  run : List (Arrival × Told)
  tickets : ts ≡ tickets_told run
  parts : ps ≡ parts_told run
  tolds : ds ≡ tolds_of run
  are : AreOf run commands
  served : served_in ts ps ds ≡ served_of run

the-run : (commands : List Arrival) (ts : List Ticket) (ps : List PartModel) (ds : List Told) → AreParts commands ts ps → length ds ≡ length ps → TheRun commands ts ps ds
unfolding served_of
the-run commands [] [] [] parts long = record { run = []; tickets = refl; parts = refl; tolds = refl; are = tt; served = refl }
the-run commands [] [] (d ∷ ds) parts long = absurd (omega (arith, long))
the-run commands [] (p ∷ ps) ds parts long = absurd parts
the-run commands (t ∷ ts) [] ds parts long = absurd parts
the-run commands (t ∷ ts) (p ∷ ps) [] parts long = absurd (omega (arith, long))
the-run commands (t ∷ ts) (p ∷ ps) (d ∷ ds) parts long =
    let more : TheRun commands ts ps ds = the-run commands ts ps ds parts.1 (omega (arith, long)) in
    let c : Arrival = parts.0.1 in
    let ticket : t ≡ c.command.ticket = (same_ticket-Decides t c.command.ticket).0 (first-passes (λ (x : Arrival). same_ticket t x.command.ticket) commands parts.0.0 c parts.0.2) in
    record {
      run = (c, d) ∷ more.run;
      tickets = λ i. ticket i ∷ more.tickets i;
      parts = λ i. parts.0.3 i ∷ more.parts i;
      tolds = λ i. d ∷ more.tolds i;
      are = ((parts.0.0, subst (λ (u : Ticket). IsOf u commands parts.0.0 c) ticket parts.0.2), more.are);
      served = λ i. record { ticket = ticket i; part = parts.0.3 i; told = d } ∷ more.served i;
    }

-- what is noted is the commands' entries
noted-entry : (h : List EntryModel) (moment : ℕ) (c : Arrival) (told : Told) → noted h c.command.ticket c.command.part moment told ≡ h ++ entry_of moment c told
noted-entry h moment c (Reply value) = refl
noted-entry h moment c (Moved slot node) = sym (append-nil h)
noted-entry h moment c (Ask slot node) = sym (append-nil h)
noted-entry h moment c TryAgain = sym (append-nil h)
noted-entry h moment c ClusterDown = sym (append-nil h)
noted-entry h moment c Unclear = sym (append-nil h)
noted-entry h moment c Told.Lost = sym (append-nil h)
noted-entry h moment c Unsent = sym (append-nil h)

noted-entries : (h : List EntryModel) (moment : ℕ) (run : List (Arrival × Told)) → all_noted h moment (served_of run) ≡ h ++ entries_of moment run
unfolding served_of
noted-entries h moment [] = sym (append-nil h)
noted-entries h moment (p ∷ run) =
    noted-entries (noted h p.0.command.ticket p.0.command.part moment p.1) moment run ∙ ap (λ (x : List EntryModel). x ++ entries_of moment run) (noted-entry h moment p.0 p.1)
    ∙ append_assoc h (entry_of moment p.0 p.1) (entries_of moment run)

-- and a link has their replies
replies-all : (l : Link) (run : List (Arrival × Told)) → told_all l (served_of run) ≡ all_replied l run
unfolding served_of
replies-all l run = go l.is_open (l.backs) run
  where
    go : (o : Bool) (backs : List LinkReply) (run : List (Arrival × Told)) → told_all (record l { is_open = o; backs = backs }) (served_of run) ≡ all_replied (record l { is_open = o; backs = backs }) run
    go true backs [] = λ i. record l { is_open = true; backs = sym (append-nil backs) i }
    go true backs (p ∷ run) =
        go true (backs ++ To p.0.command.ticket p.1 ∷ []) run
        ∙ (λ i. record l { is_open = true; backs = append_assoc backs (To p.0.command.ticket p.1 ∷ []) (replies_of run) i })
    go false backs [] = refl
    go false backs (p ∷ run) = go false backs run

-- all the keys of the parts have the run's slot

keys-slot : (commands : List Arrival) (ts : List Ticket) (ps : List PartModel) (slot : ℕ) → AreParts commands ts ps
    → ((k : ℕ) (t : Ticket) (i : ℕ) (c : Arrival) → slice_get ts k ≡ Some t → IsOf t commands i c → slot_for c.command.part ≡ slot) → All (λ key. slot_of key ≡ slot) (keys_in ps)
keys-slot commands [] [] slot parts have = λ k d lt. absurd (omega (arith, lt))
keys-slot commands [] (p ∷ ps) slot parts have = absurd parts
keys-slot commands (t ∷ ts) [] slot parts have = absurd parts
keys-slot commands (t ∷ ts) (p ∷ ps) slot parts have =
    let first : slot_of p.key ≡ slot = ap slot_for parts.0.3 ∙ have 0 t parts.0.0 parts.0.1 refl parts.0.2 in
    All-append (λ key. slot_of key ≡ slot) (keys_of p) (keys_in ps) (λ k d lt. parts.0.4 k d lt ∙ first) (keys-slot commands ts ps slot parts.1 (λ k. have (suc k)))

pub one-slot : (w : WorldModel) (tickets : List Ticket) (ps : List PartModel) (slot : ℕ) → AreParts w.commands tickets ps → HaveSlot w tickets slot → HaveOneSlot ps
one-slot w tickets [] slot parts have = λ k d lt. absurd (omega (arith, lt))
one-slot w tickets (p ∷ ps) slot parts have =
    let all : All (λ key. slot_of key ≡ slot) (keys_in (p ∷ ps)) = keys-slot w.commands tickets (p ∷ ps) slot parts (λ k t i c at of'. have t i c (k, at) of') in
    λ k d lt. all k d lt ∙ sym (all 0 p.key (omega arith))

pub executes : {U : Type 0} (w : WorldModel) (link : ℕ) (verdict : Verdict) (parts : List PartModel) (r : Result U WorldFault) (k : LinksModel) (nodes : ClusterModel) → NamesNode w.cluster verdict → MayServe w
    → There (links_in w) link (λ l. (tickets : List Ticket) × Begins (Runs tickets) l × AreParts w.commands tickets parts) → LinkExecutes (links_in w) w.cluster link parts verdict w.moment r k nodes
    → MachineAnswers w (event.Serve link verdict) r (record w { cluster = nodes; links = k.links; history = k.history })
executes w link verdict parts (Ok u) k nodes named may first x =
    let l : Link = x.0 in
    let tickets : first.2.0 ≡ x.2.0 = same-run l.requests first.2.1.0 x.2.1 first.2.0 x.2.0 (same-link w link l first.0 x.1 first.1 ∙ first.2.1.1) x.2.3 in
    let long : length x.2.2 ≡ length parts = as-many (deed_for w.cluster l.node l.asking parts verdict) w.cluster nodes l.node parts x.2.2 x.2.5 in
    let its : TheRun w.commands x.2.0 parts x.2.2 = the-run w.commands x.2.0 parts x.2.2 (subst (λ (ts : List Ticket). AreParts w.commands ts parts) tickets first.2.2) long in (
      l,
      x.1,
      inr (
        x.2.1,
        its.run,
        nodes,
        x.2.3 ∙ ap (λ (ts : List Ticket). Runs ts ∷ x.2.1) its.tickets,
        its.are,
        x.2.4,
        subst (λ (p : List PartModel × List Told). DoesRun (deed_for w.cluster l.node l.asking p.0 verdict) w.cluster l.node p.0 p.1 nodes) (λ i. (its.parts i, its.tolds i)) x.2.5,
        (λ i. record w { cluster = nodes; links = (x.2.6 i).links; history = (x.2.6 i).history })
            ∙ (λ i. record w {
              cluster = nodes;
              links = slice_set w.links link ((ap (told_all (record l { requests = x.2.1; asking = false })) its.served ∙ replies-all (record l { requests = x.2.1; asking = false }) its.run) i);
              history = (ap (all_noted w.history w.moment) its.served ∙ noted-entries w.history w.moment its.run) i;
            }),
      ),
    )
executes w link verdict parts (Err NotNow) k nodes named may first x = absurd (x.0 named)
executes w link verdict parts (Err NoMemory) k nodes named may first x =
    (may link verdict first.0 (Runs first.2.0) first.2.1.0 first.1 first.2.1.1 named, λ j. record w { cluster = x.1 j; links = (x.0 j).links; history = (x.0 j).history })

-- the parts of a run were not had
pub no-parts : (U : Type 0) (w : WorldModel) (link : ℕ) (verdict : Verdict) (tickets : List Ticket) (fault : WorldFault) → NamesNode w.cluster verdict → MayServe w → There (links_in w) link (Begins (Runs tickets))
    → GivesParts w.commands tickets (Err fault) → MachineAnswers {U = U} w (event.Serve link verdict) (Err fault) w
no-parts U w link verdict tickets NotNow named may first none = (serve-nowhere w link verdict tickets first none.0 none.1 none.2, refl)
no-parts U w link verdict tickets NoMemory named may first none = (may link verdict first.0 (Runs tickets) first.2.0 first.1 first.2.1 named, refl)
