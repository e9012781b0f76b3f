-- A link's node takes a run: what that leaves of the links, the history and the nodes.
use Rattle.std.proofs.Common.{◌≡◌, ◌⊎◌, inl, inr, ℕ, List, [], ◌∷◌, length, Some, None, Ok, Err, Bool, true, false, refl, sym, ap, ◌∙◌, subst, arith}
use Rattle.std.specs.Prelude.{slice_get, slice_set, map, nat_lt, All, MatchOption, Result, Vec, if◌then◌else◌}
use Rattle.std.specs.declared.alloc.Global.{Global}
use Rattle.std.proofs.lemmas.Bool.Decides.{nat_tests}
use Rattle.std.proofs.lemmas.Option.{slice_get_within, get_or_from_slice_get}
use Rattle.key_split.specs.PartModel.{PartModel}
use Rattle.key_split.specs.declared.travel.Ticket.{Ticket}
use Rattle.key_split.specs.declared.travel.Told.{Told}
use Rattle.node_model.specs.History.{EntryModel}
use Rattle.node_model.specs.Nodes.{ClusterModel}
use Rattle.node_model.specs.Runs.{deed_for, AllTold, AreReplies, DoesRun, RunAnswers, ServesAll}
use Rattle.node_model.specs.Serving.{names_node}
use Rattle.node_model.specs.Store.{StoreModel, store_after}
use Rattle.node_model.specs.declared.role.Deed.{Deed}
use Rattle.node_model.specs.declared.role.Deed.TheVariants.{Executes, Says}
use Rattle.node_model.specs.declared.role.Verdict.{Verdict}
use Rattle.node_model.specs.declared.role.ServeFault.{ServeFault}
use Rattle.node_model.specs.declared.role.ServeFault.TheVariants as serve
use Rattle.world_laws.specs.State.{Link}
use Rattle.world_laws.specs.World.{IsNode, NamesNode}
use Rattle.world_laws.specs.declared.state.LinkRequest.{LinkRequest}
use Rattle.world_laws.specs.declared.state.LinkRequest.TheVariants.{Runs}
use Rattle.cluster_world.specs.Fault.{of_serve}
use Rattle.cluster_world.specs.Kept.{LinkModel, KeepsBelow, shown, served_in, all_noted, told_all, NotesAll}
use Rattle.cluster_world.specs.Links.{LinksModel, linked, LinkExecutes}
use Rattle.cluster_world.specs.declared.fault.WorldFault.{WorldFault}
use Rattle.cluster_world.specs.declared.fault.WorldFault.TheVariants.{NoMemory, NotNow}
use Rattle.cluster_world.proofs.Shown.{there, at-shown, set-shown, line-at, line-same, lines-same}

-- each command is told something

as-many-replies : (store : StoreModel) (cs : List PartModel) (tolds : List Told) → AreReplies store cs tolds → length tolds ≡ length cs
as-many-replies store [] [] h = refl
as-many-replies store (c ∷ cs) (told ∷ tolds) h = omega (arith, as-many-replies (store_after store c) cs tolds h.1)
as-many-replies store [] (told ∷ tolds) h = absurd h
as-many-replies store (c ∷ cs) [] h = absurd h

as-many-told : (said : Told) (cs : List PartModel) (tolds : List Told) → AllTold said cs tolds → length tolds ≡ length cs
as-many-told said [] [] h = refl
as-many-told said (c ∷ cs) (told ∷ tolds) h = omega (arith, as-many-told said cs tolds h.1)
as-many-told said [] (told ∷ tolds) h = absurd h
as-many-told said (c ∷ cs) [] h = absurd h

pub as-many : (deed : Deed) (k k' : ClusterModel) (node : ℕ) (cs : List PartModel) (tolds : List Told) → DoesRun deed k node cs tolds k' → length tolds ≡ length cs
as-many Executes k k' node cs tolds h = as-many-replies _ cs tolds h.0
as-many (Says said) k k' node cs tolds h = as-many-told said cs tolds h.0

abbrev told_so : Vec Told Global → Result (Vec Told Global) ServeFault
told_so tolds = Ok tolds

abbrev not_so : ServeFault → Result (Vec Told Global) ServeFault
not_so fault = Err fault

-- a served run names no node that there is not
pub served-ok : (k k' : ClusterModel) (node : ℕ) (asking : Bool) (parts : List PartModel) (verdict : Verdict) (tolds : Vec Told Global) → IsNode k node → ServesAll k node asking parts verdict (Ok tolds) k'
    → NamesNode k verdict × DoesRun (deed_for k node asking parts verdict) k node parts tolds.items k'
served-ok k k' node asking parts verdict tolds there' s = go (nat_lt node (length k.stores)) (names_node verdict (length k.stores)) refl refl s
  where
    go : (b c : Bool) → nat_lt node (length k.stores) ≡ b → names_node verdict (length k.stores) ≡ c
        → MatchOption (if b then (if c then None else Some serve.NotThisVerdict) else Some serve.NoSuchNode) (RunAnswers (deed_for k node asking parts verdict) k node parts (Ok tolds) k') (λ fault. (told_so tolds ≡ Err fault) × (k' ≡ k))
        → NamesNode k verdict × DoesRun (deed_for k node asking parts verdict) k node parts tolds.items k'
    go true true p q h = (q, h)
    go true false p q h = let e = h.0 in absurd (cc)
    go false c p q h = absurd (grind (arith, nat_tests))

-- one that is not served
pub served-err : (k k' : ClusterModel) (node : ℕ) (asking : Bool) (parts : List PartModel) (verdict : Verdict) (fault : ServeFault) → IsNode k node → ServesAll k node asking parts verdict (Err fault) k'
    → (k' ≡ k) × ((of_serve fault ≡ NoMemory) ⊎ ((of_serve fault ≡ NotNow) × (NamesNode k verdict → ⊥)))
served-err k k' node asking parts verdict fault there' s = go (nat_lt node (length k.stores)) (names_node verdict (length k.stores)) refl refl s
  where
    go : (b c : Bool) → nat_lt node (length k.stores) ≡ b → names_node verdict (length k.stores) ≡ c
        → MatchOption (if b then (if c then None else Some serve.NotThisVerdict) else Some serve.NoSuchNode) (RunAnswers (deed_for k node asking parts verdict) k node parts (Err fault) k') (λ f. (not_so fault ≡ Err f) × (k' ≡ k))
        → (k' ≡ k) × ((of_serve fault ≡ NoMemory) ⊎ ((of_serve fault ≡ NotNow) × (NamesNode k verdict → ⊥)))
    go true true p q h = (h.1, inl (ap of_serve h.0))
    go true false p q h = let e : fault ≡ serve.NotThisVerdict = (let f = h.0 in cc) in (h.1, inr (ap of_serve e, (λ n. absurd (cc))))
    go false c p q h = absurd (grind (arith, nat_tests))

pub refused : (U : Type 0) (k k2 : LinksModel) (nodes nodes' : ClusterModel) (at : ℕ) (parts : List PartModel) (verdict : Verdict) (moment : ℕ) (node : ℕ) (asking : Bool) (fault : ServeFault) → IsNode nodes node
    → ServesAll nodes node asking parts verdict (Err fault) nodes' → k2 ≡ k → LinkExecutes {U = U} k nodes at parts verdict moment (Err (of_serve fault)) k2 nodes'
refused U k k2 nodes nodes' at parts verdict moment node asking fault there' s same = go (served-err nodes nodes' node asking parts verdict fault there' s)
  where
    go : (nodes' ≡ nodes) × ((of_serve fault ≡ NoMemory) ⊎ ((of_serve fault ≡ NotNow) × (NamesNode nodes verdict → ⊥))) → LinkExecutes {U = U} k nodes at parts verdict moment (Err (of_serve fault)) k2 nodes'
    go (e, inl m) = subst (λ (f : WorldFault). LinkExecutes {U = U} k nodes at parts verdict moment (Err f) k2 nodes') (sym m) (same, e)
    go (e, inr n) = subst (λ (f : WorldFault). LinkExecutes {U = U} k nodes at parts verdict moment (Err f) k2 nodes') (sym n.0) (n.1, same, e)

pub all-at : {X : Type 0} (P : X → Type 0) (xs : List X) (at : ℕ) (x : X) → All P xs → slice_get xs at ≡ Some x → P x
all-at P xs at x all e = subst P (get_or_from_slice_get xs at x x e) (all at x (slice_get_within xs at x e))

module _ (ls : List LinkModel) (h : List EntryModel) (k : LinksModel) (is : linked ls h ≡ k) (at : ℕ) (l : LinkModel) (e : slice_get ls at ≡ Some l) (nodes nodes' : ClusterModel) where
  -- the node of a link is one
  pub at-node : (l1 : LinkModel) → l1 ≡ record l { room = l1.room } → All (λ x. IsNode nodes x.node) k.links → IsNode nodes l1.node
  at-node l1 same all =
      let links : All (λ (x : Link). IsNode nodes x.node) (map (shown h) ls) = subst (λ (x : LinksModel). All (λ (y : Link). IsNode nodes y.node) x.links) (sym is) all in
      let one : IsNode nodes l.node = all-at (λ (x : Link). IsNode nodes x.node) (map (shown h) ls) at (shown h l) links (at-shown ls h at l e) in
      subst (IsNode nodes) (sym (ap (λ (x : LinkModel). x.node) same)) one

  pub served : {U : Type 0} (u : U) (h' : List EntryModel) (tickets : List Ticket) (parts : List PartModel) (tolds : List Told) (verdict : Verdict) (moment : ℕ) (l1 l2 l3 : LinkModel)
      → All (KeepsBelow (length h)) ls → l1.requests ≡ Runs tickets ∷ l2.requests
      → (e1 : l1 ≡ record l { room = l1.room }) → (e2 : l2 ≡ record l1 { requests = l2.requests; asking = false })
      → NotesAll h l2 (served_in tickets parts tolds) moment h' l3 → NamesNode nodes verdict × DoesRun (deed_for nodes l1.node l1.asking parts verdict) nodes l1.node parts tolds nodes'
      → LinkExecutes k nodes at parts verdict moment (Ok u) (linked (slice_set ls at l3) h') nodes'
  served u h' tickets parts tolds verdict moment l1 l2 l3 all first e1 e2 notes does =
      let two : shown h l2 ≡ record (shown h l) { requests = l2.requests; asking = false } =
      ap (shown h) e2 ∙ ap (λ (x : LinkModel). record (shown h x) { requests = l2.requests; asking = false }) e1 in
      let one : shown h' l3 ≡ told_all (record (shown h l) { requests = l2.requests; asking = false }) (served_in tickets parts tolds) =
      notes.shows ∙ ap (λ (x : Link). told_all x (served_in tickets parts tolds)) two in
      let links : map (shown h') (slice_set ls at l3) ≡ slice_set (map (shown h) ls) at (told_all (record (shown h l) { requests = l2.requests; asking = false }) (served_in tickets parts tolds)) =
      set-shown ls h' at l3 ∙ (λ i. slice_set (lines-same h h' notes.same ls all i) at (one i)) in
      let does' : DoesRun (deed_for nodes l.node l.asking parts verdict) nodes l.node parts tolds nodes' =
      subst (λ (x : LinkModel). DoesRun (deed_for nodes x.node x.asking parts verdict) nodes x.node parts tolds nodes') e1 does.1 in
      there ls h k is at l e
      (λ (k : LinksModel) (x : Link).
      (tickets : List Ticket) × (rest : List LinkRequest) × (tolds : List Told) × (x.requests ≡ Runs tickets ∷ rest) × NamesNode nodes verdict
      × DoesRun (deed_for nodes x.node x.asking parts verdict) nodes x.node parts tolds nodes'
      × (linked (slice_set ls at l3) h' ≡ record { links = slice_set k.links at (told_all (record x { requests = rest; asking = false }) (served_in tickets parts tolds)); history = all_noted k.history moment (served_in tickets parts tolds) })) (
        tickets,
        l2.requests,
        tolds,
        sym (ap (λ (x : LinkModel). x.requests) e1) ∙ first,
        does.0,
        does',
        λ i. record { links = links i; history = notes.history i },
      )
