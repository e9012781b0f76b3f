-- A run of one is served as the command alone.
use Rattle.std.proofs.Common.{◌≡◌, ◌≢◌, ◌↔◌, ◌⊎◌, inl, inr, ⊎_elim, ℕ, ◌&&◌, Bool, true, false, List, [], ◌∷◌, ◌++◌, map, refl, sym, ap, ◌∙◌, subst}
use Rattle.std.specs.List.{list_all}
use Rattle.std.specs.Str.{bytes_eq}
use Rattle.slot_hash.specs.Slot.{slot_of}
use Rattle.key_split.specs.PartModel.{PartModel, Pair, keys_of}
use Rattle.key_split.specs.declared.travel.Told.{Told}
use Rattle.node_model.specs.Nodes.{ClusterModel, role_of, store_at}
use Rattle.node_model.specs.Serving.{NodeDoes, deed_of, deed_at, held_of, has_one_key}
use Rattle.node_model.specs.declared.role.Deed.{Deed}
use Rattle.node_model.specs.declared.role.Deed.TheVariants.{Executes, Says}
use Rattle.node_model.specs.declared.role.Verdict.{Verdict}
use Rattle.node_model.specs.Runs.{deed_for, DoesRun, have_one_key}
use Rattle.std.specs.Prelude.{slice_get, slice_set, take, All, Some}
use Rattle.key_split.specs.declared.travel.Ticket.{Ticket}
use Rattle.command_future.specs.CommandModel.{asks_at}
use Rattle.world_laws.specs.State.{Arrival, LinkRequest, HasEnded, awaiting, replied, all_replied, slot_for, tickets_told, parts_told, tolds_of}
use Rattle.world_laws.specs.declared.state.LinkRequest.TheVariants.{Asking, Runs}
use Rattle.world_laws.specs.declared.state.LinkReply.TheVariants.{To}
use Rattle.world_laws.specs.World.{WorldDoes, SameTurn, AreOf, IsAmong, NamesNode, ServesRun, entry_of, entries_of}
use Rattle.world_laws.specs.declared.event.Event.TheVariants.{Post}
use Rattle.world_laws.specs.Alone.{DoesAlone, PostsOne, PostsAlone, ServesOne, ServesAlone}
use Rattle.node_model.proofs.Keys.{key_tells}

bytes_eq-same : (key : List ℕ) → bytes_eq key key ≡ true
bytes_eq-same key = ⊎_elim (λ (h : (bytes_eq key key ≡ true) × (key ≡ key)). h.0) (λ (h : (bytes_eq key key ≡ false) × (key ≢ key)). absurd (h.1 refl)) (key_tells key key)

no-more : {X : Type 0} (xs : List X) → xs ++ [] ≡ xs
no-more [] = refl
no-more (x ∷ xs) = ap (λ ys. x ∷ ys) (no-more xs)

all-mapped : {X Y : Type 0} (p : Y → Bool) (f : X → Y) (xs : List X) → list_all p (map f xs) ≡ list_all (λ x. p (f x)) xs
all-mapped p f [] = refl
all-mapped p f (x ∷ xs) = ap (λ b. p (f x) && b) (all-mapped p f xs)

one_key : (c : PartModel) → have_one_key (c ∷ []) ≡ has_one_key c
one_key c =
    ap (list_all (λ key. bytes_eq key c.key)) (no-more (keys_of c))
    ∙ ap (λ b. b && list_all (λ key. bytes_eq key c.key) (map (λ (pair : Pair). pair.0) c.rest)) (bytes_eq-same c.key)
    ∙ all-mapped (λ key. bytes_eq key c.key) (λ (pair : Pair). pair.0) c.rest

one_deed : (k : ClusterModel) (node : ℕ) (asking : Bool) (c : PartModel) (v : Verdict) → deed_for k node asking (c ∷ []) v ≡ deed_at k node asking c v
one_deed k node asking c v = λ i. deed_of v (role_of k node (slot_of c.key)) asking (held_of (store_at k node) (no-more (keys_of c) i)) (one_key c i) (slot_of c.key)

one_does : (deed : Deed) (k : ClusterModel) (node : ℕ) (c : PartModel) (told : Told) (k' : ClusterModel) → DoesRun deed k node (c ∷ []) (told ∷ []) k' ↔ NodeDoes deed k node c told k'
one_does Executes k node c told k' = ((λ h. (h.0.0, h.1)), (λ h. ((h.0, tt), h.1)))
one_does (Says said) k node c told k' = ((λ h. (h.0.0, h.1)), (λ h. ((h.0, tt), h.1)))

pub does_alone : DoesAlone
does_alone k k' node asking c v deed told = (one_deed k node asking c v, one_does deed k node c told k')

pub posts_alone : PostsAlone
posts_alone w w' ticket node le = (there, back)
  where
    nobody : (t : Ticket) → IsAmong [] t → ⊥
    nobody t x = let no' : slice_get [] x.0 ≡ Some t = x.1 in cc

    ended : (P Q : Arrival → Type 0) (f : Arrival → Ticket) (xs : List Arrival) → All (λ z. P z → Q z ⊎ IsAmong [] (f z)) xs → All (λ z. P z → Q z) xs
    ended P Q f xs h k c lt p = go _ (h k c lt p)
      where
        go : (z : Arrival) → Q z ⊎ IsAmong [] (f z) → Q z
        go z (inl y) = y
        go z (inr y) = absurd (nobody (f z) y)

    there : WorldDoes w (Post (ticket ∷ []) node) w' → PostsOne w ticket node w'
    there d =
        let x = d.4 in (
          x.0,
          x.1,
          x.2,
          (x.3).2,
          ended (λ z. SameTurn x.1 z) HasEnded (λ z. z.command.ticket) (take x.0 w.commands) x.4,
          d.3,
          d.5 ∙ (λ i. record w { commands = x.5 i; ups = w.ups ++ record { tickets = ticket ∷ []; node = node; asking = sym (x.3).3 i } ∷ [] }),
        )

    back : PostsOne w ticket node w' → WorldDoes w (Post (ticket ∷ []) node) w'
    back d = (
      record { client = (d.1).command.ticket.client; slot = slot_for (d.1).command.part; asking = asks_at (d.1).command.stage },
      slice_set w.commands d.0 (awaiting d.1),
      ((λ e. absurd (cc)), le, inl refl),
      d.5,
      (d.0, d.1, d.2, (refl, refl, d.3, refl), (λ k c lt turn. inl (d.4 k c lt turn)), refl),
      d.6,
    )

pub serves_alone : ServesAlone
serves_alone w w' link l v ticket rest at_first = (λ d. there d.0 d.1 d.2 d.3 d.4 d.5 d.6 d.7 (ap first (sym d.3) ∙ ap first at_first), back)
  where
    first : List LinkRequest → List Ticket
    first [] = []
    first (Asking ∷ rs) = []
    first (Runs ts ∷ rs) = ts

    there : (rest' : List LinkRequest) (run : List (Arrival × Told)) (k : ClusterModel) → l.requests ≡ Runs (tickets_told run) ∷ rest' → AreOf run w.commands → NamesNode w.cluster v
        → DoesRun (deed_for w.cluster l.node l.asking (parts_told run) v) w.cluster l.node (parts_told run) (tolds_of run) k
        → w' ≡ record w { cluster = k; links = slice_set w.links link (all_replied (record l { requests = rest'; asking = false }) run); history = w.history ++ entries_of w.moment run }
        → tickets_told run ≡ ticket ∷ [] → ServesOne w link l v w'
    there rest' [] k e of names did is one = absurd (cc)
    there rest' (p ∷ q ∷ ps) k e of names did is one = absurd (cc)
    there rest' (p ∷ []) k e of names did is one = (
      rest',
      of.0.0,
      p.0,
      p.1,
      k,
      e,
      of.0.1,
      names,
      (one_does (deed_at w.cluster l.node l.asking p.0.command.part v) w.cluster l.node p.0.command.part p.1 k).0
          (subst (λ deed. DoesRun deed w.cluster l.node (p.0.command.part ∷ []) (p.1 ∷ []) k) (one_deed w.cluster l.node l.asking p.0.command.part v) did),
      is ∙ (λ i. record w { cluster = k; links = slice_set w.links link (replied (record l { requests = rest'; asking = false }) (To p.0.command.ticket p.1)); history = w.history ++ no-more (entry_of w.moment p.0 p.1) i }),
    )

    back : ServesOne w link l v w' → ServesRun w link l v w'
    back d = (
      d.0,
      (d.2, d.3) ∷ [],
      d.4,
      d.5,
      ((d.1, d.6), tt),
      d.7,
      subst (λ deed. DoesRun deed w.cluster l.node ((d.2).command.part ∷ []) (d.3 ∷ []) d.4) (sym (one_deed w.cluster l.node l.asking (d.2).command.part v))
          ((one_does (deed_at w.cluster l.node l.asking (d.2).command.part v) w.cluster l.node (d.2).command.part d.3 d.4).1 d.8),
      d.9 ∙ (λ i. record w { cluster = d.4; links = slice_set w.links link (replied (record l { requests = d.0; asking = false }) (To (d.2).command.ticket d.3)); history = w.history ++ sym (no-more (entry_of w.moment d.2 d.3)) i }),
    )
