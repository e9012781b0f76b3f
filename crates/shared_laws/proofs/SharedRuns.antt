-- What every step keeps, ours and theirs; and it says the headline.
use Rattle.std.proofs.Common.{◌≡◌, ℕ, suc, ◌+◌, ◌%◌, ◌<◌, Bool, true, false, List, [], ◌∷◌, ◌++◌, length, refl, sym, ap, ◌∙◌, subst, arith}
use Rattle.std.proofs.lemmas.Bool.{false≢true}
use Rattle.node_model.specs.History.{EntryModel, left_by}
use Rattle.node_model.specs.Nodes.{ClusterModel, store_at, with_store}
use Rattle.world_laws.specs.State.{WorldModel, start_from}
use Rattle.node_model.specs.declared.role.Verdict.{Verdict}
use Rattle.world_laws.specs.World.{IsNode, ServesRunAt, WorldDoes}
use Rattle.node_model.specs.Store.{StoreModel}
use Rattle.world_laws.specs.Headline.{At, IsIn, IsSound, store_of}
use Rattle.world_laws.specs.declared.event.Event.{Event}
use Rattle.world_laws.proofs.Apart.{Short, does-short, run-short}
use Rattle.world_laws.proofs.Flow.{all_at}
use Rattle.world_laws.proofs.Kept.{Kept}
use Rattle.world_laws.proofs.LinkEvents.{does-keeps, serve-keeps}
use Rattle.world_laws.proofs.Lives.{Lists, does-lists, does-moment, no-more, serve-lists}
use Rattle.world_laws.proofs.Moves.{does-kept}
use Rattle.world_laws.proofs.Serves.{run-kept}
use Rattle.world_laws.proofs.Nodes.{size-with_store}
use Rattle.world_laws.proofs.Placed.{Placed, Standing, standing-of}
use Rattle.world_laws.proofs.Recorded.{Recorded, waited}
use Rattle.world_laws.proofs.Runs.{start-sound}
use Rattle.world_laws.proofs.Passing.{keep, rank, keep-joins, keep-none, kept-at}
use Rattle.world_laws.proofs.Headlines.{Tells, at_home, headline-of, union-of}
use Rattle.shared_laws.specs.Others.{SharedEndsAreSound}
use Rattle.world_laws.proofs.Sizes.{does-sizes, run-sizes}
use Rattle.world_laws.proofs.There.{There, does-there, run-there}
use Rattle.world_laws.proofs.Turns.{Turned, does-turned, run-turned}
use Rattle.shared_laws.specs.Shared.{Step, IsOurs, IsTheirs, LedTo, OthersAct, SharedDoes, SharedStep, SharedRun, AloneIsShared}
use Rattle.shared_laws.specs.SharedHeadline.{SharedHeadline, EverySharedSchedule, HeadlineFollows}
use Rattle.shared_laws.proofs.Chronicle.{Chronicle, IsAlike, lasted, lengthened}
use Rattle.shared_laws.proofs.Mine.{Named, Gains, mine, is_ours, ours-no, ours-yes, yes-ours, born-ours, does-gain, does-mine, does-named, run-gains, run-mine}
use Rattle.shared_laws.proofs.Theirs.{theirs-kept}

-- the workers are n. What is ours is as without others; the history of all is legal, and in order
pub record Steady (n : ℕ) (w : WorldModel) : Type 0 where
  pub size : w.workers ≡ n
  pub named : Named n w
  pub placed : Placed (mine n w)
  pub there : There w
  pub turned : Turned w
  pub kept : Kept w
  pub lists : Lists w.moment (mine n w)
  pub short : Short (mine n w)
  pub chronicle : Chronicle n w.moment w.history

abbrev own : ℕ → EntryModel → Bool
own n e = is_ours n e.ticket

-- where commands stand
pub steady-stands : (n : ℕ) (w : WorldModel) → Steady n w → Standing w
steady-stands n w s = standing-of w (keep (own n) w.history) s.placed

plus_one : (m : ℕ) → m + 1 ≡ suc m
plus_one m = omega arith

-- what a step of ours leaves, from a world in which it is counted already
record Leaves (n : ℕ) (w w' : WorldModel) : Type 0 where
  size : w'.workers ≡ w.workers
  moment : w'.moment ≡ w.moment
  named : Named n w'
  placed : Placed (mine n w')
  there : There w'
  turned : Turned w'
  kept : Kept w'
  lists : Lists w.moment (mine n w')
  short : Short (mine n w')
  gains : Gains w w'

steady-by : (n : ℕ) (w w' : WorldModel) → Steady n w → Leaves n (record w { moment = w.moment + 1 }) w' → Steady n w'
steady-by n w w' s d = record {
  size = d.size ∙ s.size;
  named = d.named;
  placed = d.placed;
  there = d.there;
  turned = d.turned;
  kept = d.kept;
  lists = subst (λ m. Lists m (mine n w')) (sym d.moment) d.lists;
  short = d.short;
  chronicle = subst (λ (z : ℕ × List EntryModel). Chronicle n z.0 z.1) (λ i. (sym (d.moment ∙ plus_one w.moment) i, sym (d.gains).1 i))
      (lengthened n w.moment w.history (d.gains).0 (λ k x p. ((d.gains).2 k x p).4 ∙ plus_one w.moment) alike s.chronicle);
}
  where
    its : (k : ℕ) (x : EntryModel) → At (d.gains).0 k x → is_ours n x.ticket ≡ true
    its k x p = born-ours n (record w { moment = w.moment + 1 }) s.named x ((d.gains).2 k x p)

    -- a new entry is one of ours in the new history
    there' : (k : ℕ) (x : EntryModel) → At (d.gains).0 k x → IsIn (mine n w').history x
    there' k x p =
        let at_x : At w'.history (length w.history + k) x = subst (λ z. At z (length w.history + k) x) (sym (d.gains).1) (behind w.history (d.gains).0 k x p) in
        (rank (own n) w'.history (length w.history + k), kept-at (own n) w'.history (length w.history + k) x at_x (its k x p))
      where
        behind : (xs ys : List EntryModel) (k : ℕ) (x : EntryModel) → At ys k x → At (xs ++ ys) (length xs + k) x
        behind [] ys k x p = let e : k ≡ 0 + k = omega arith in subst (λ m. At ys m x) e p
        behind (z ∷ xs) ys k x p = let e : suc (length xs + k) ≡ suc (length xs) + k = omega arith in subst (λ m. At (z ∷ (xs ++ ys)) m x) e (behind xs ys k x p)

    alike : (k l : ℕ) (x y : EntryModel) → At (d.gains).0 k x → At (d.gains).0 l y → IsAlike n x y
    alike k l x y p q =
        let a = there' k x p in
        let b = there' l y q in
        ((d.lists).together a.0 b.0 x y a.1 b.1 (((d.gains).2 k x p).4 ∙ sym ((d.gains).2 l y q).4), its k x p ∙ sym (its l y q))

-- what is kept of a world, in which one step more is counted
module _ (n : ℕ) (w : WorldModel) (s : Steady n w) where
  abbrev counted : WorldModel
  counted = record w { moment = w.moment + 1 }

  placed-on : Placed (mine n counted)
  placed-on = record { single = (s.placed).single; below = (s.placed).below; place = (s.placed).place; once = (s.placed).once; replied = (s.placed).replied; tidy = (s.placed).tidy }

  there-on : There counted
  there-on = record { ups = (s.there).ups; links = (s.there).links; targets = (s.there).targets }

  short-on : Short (mine n counted)
  short-on = record { ups = (s.short).ups; links = (s.short).links; apart = (s.short).apart }

  turned-on : Turned counted
  turned-on = record { ups = (s.turned).ups; links = (s.turned).links }

  own-turned-on : Turned (mine n counted)
  own-turned-on = record { ups = (s.turned).ups; links = (s.turned).links }

  kept-on : Kept counted
  kept-on = record { apart = (s.kept).apart; data' = (s.kept).data'; legal = (s.kept).legal; asked = (s.kept).asked }

  standing-on : Standing counted
  standing-on = standing-of counted (keep (own n) w.history) placed-on

  past-on : (k : ℕ) (x : EntryModel) → At (mine n w).history k x → x.moment < w.moment + 1
  past-on k x p = let past = (s.lists).past k x p in omega (arith, past)

-- an event of ours
ours-steady : (n : ℕ) (e : Event) (w w' : WorldModel) → Steady n w → WorldDoes (record w { moment = w.moment + 1 }) e w' → Steady n w'
ours-steady n e w w' s d = steady-by n w w' s (record {
  size = (does-sizes e w1 w' d).0;
  moment = does-moment e w1 w' d;
  named = does-named n e w1 w' s.size s.named d;
  placed = p';
  there = does-there e w1 w' (there-on n w s) d;
  turned = does-turned e w1 w' (turned-on n w s) d;
  kept = does-kept e w1 w' (standing-on n w s) (there-on n w s) (turned-on n w s) (kept-on n w s) d;
  lists = does-lists e (mine n w1) (mine n w') (placed-on n w s) p' (own-turned-on n w s) w.moment (plus_one w.moment) s.lists d';
  short = does-short e (mine n w1) (mine n w') (short-on n w s) (past-on n w s) d';
  gains = does-gain e w1 w' d;
})
  where
    w1 : WorldModel
    w1 = record w { moment = w.moment + 1 }

    d' : WorldDoes (mine n (record w { moment = w.moment + 1 })) e (mine n w')
    d' = does-mine n e (record w { moment = w.moment + 1 }) w' s.named d

    p' : Placed (mine n w')
    p' = does-keeps e (mine n (record w { moment = w.moment + 1 })) (mine n w') (placed-on n w s) d'

-- a run of ours that some node serves
led-steady : (n link node : ℕ) (v : Verdict) (w w' : WorldModel) → Steady n w → LedTo (record w { moment = w.moment + 1 }) link node v w' → Steady n w'
led-steady n link node v w w' s (l, at_l, is-node, asks, x) = steady-by n w w' s (record {
  size = (run-sizes w1 w' link node l v x).0;
  moment = ap (λ (z : WorldModel). z.moment) x.7;
  named = subst (Named n) (sym x.7) s.named;
  placed = p';
  there = run-there w1 w' (there-on n w s) link node l v at_l x;
  turned = run-turned w1 w' (turned-on n w s) link node l v at_l x;
  kept = run-kept w1 w' (standing-on n w s) (there-on n w s) (kept-on n w s) (turned-on n w s) link node l v at_l is-node (λ asking. absurd (false≢true (sym asks ∙ asking))) x;
  lists = serve-lists (mine n w1) (mine n w') (placed-on n w s) p' w.moment (plus_one w.moment) s.lists (own-turned-on n w s) link node l v at_l x';
  short = run-short (mine n w1) (mine n w') (short-on n w s) (past-on n w s) link node l v at_l x';
  gains = run-gains w1 w' link node l v x;
})
  where
    w1 : WorldModel
    w1 = record w { moment = w.moment + 1 }

    x' : ServesRunAt (mine n (record w { moment = w.moment + 1 })) node link l v (mine n w')
    x' = run-mine n (record w { moment = w.moment + 1 }) w' link node l v s.named x

    p' : Placed (mine n w')
    p' = serve-keeps (mine n (record w { moment = w.moment + 1 })) (mine n w') (placed-on n w s) link node l v at_l x'

-- a run of others
theirs-steady : (n : ℕ) (node : ℕ) (asking : Bool) (es : List EntryModel) (w w' : WorldModel) → Steady n w → OthersAct (record w { moment = w.moment + 1 }) node asking es w' → Steady n w'
theirs-steady n node asking es w w' s d = subst (Steady n) (sym (d.2 ∙ ap (λ k. record w { moment = w.moment + 1; cluster = k; history = w.history ++ es }) d.1.7)) (record {
  size = s.size;
  named = s.named;
  placed = subst (λ hs. Placed (record w { cluster = k'; history = hs; moment = w.moment + 1 })) (sym same) (record { single = (s.placed).single; below = (s.placed).below; place = (s.placed).place; once = (s.placed).once; replied = (s.placed).replied; tidy = (s.placed).tidy });
  there = record { ups = λ j b lt. on _ ((s.there).ups j b lt); links = λ j b lt. on _ ((s.there).links j b lt); targets = λ slot ne. on _ ((s.there).targets slot ne) };
  turned = record { ups = (s.turned).ups; links = (s.turned).links };
  kept = theirs-kept (record w { moment = w.moment + 1 }) (record { apart = (s.kept).apart; data' = (s.kept).data'; legal = (s.kept).legal; asked = (s.kept).asked }) node asking es d.1.0 d.1.1 d.1.2 d.1.3 d.1.4 d.1.5 d.1.6;
  lists = subst (λ hs. Recorded (w.moment + 1) w.commands hs w.answers) (sym same) (waited w.moment (w.moment + 1) w.commands (keep (own n) w.history) w.answers (omega arith) s.lists);
  short = subst (λ hs. Short (record w { cluster = k'; history = hs; moment = w.moment + 1 })) (sym same) (record { ups = (s.short).ups; links = (s.short).links; apart = (s.short).apart });
  chronicle = subst (λ m. Chronicle n m (w.history ++ es)) (sym (plus_one w.moment)) (lengthened n w.moment w.history es (λ k e p. (its k e p).now ∙ plus_one w.moment) alike s.chronicle);
})
  where
    k' : ClusterModel
    k' = with_store w.cluster node (left_by (store_at w.cluster node) es)

    on : (m : ℕ) → IsNode w.cluster m → IsNode (with_store w.cluster node (left_by (store_at w.cluster node) es)) m
    on m lt = omega (arith, size-with_store w.cluster node (left_by (store_at w.cluster node) es), lt)

    its : (k : ℕ) (e : EntryModel) → At es k e → IsTheirs w.workers (w.moment + 1) d.1.0 d.1.1 e
    its k e p = all_at (IsTheirs w.workers (w.moment + 1) d.1.0 d.1.1) es k e p d.1.2

    foreign : (k : ℕ) (e : EntryModel) → At es k e → is_ours n e.ticket ≡ false
    foreign k e p = ours-no n e.ticket (λ x. (its k e p).theirs (x ∙ ap (λ m. e.ticket.client % m) (sym s.size)))

    same : keep (own n) (w.history ++ es) ≡ keep (own n) w.history
    same = keep-joins (own n) w.history es ∙ ap (λ hs. keep (own n) w.history ++ hs) (keep-none (own n) es foreign) ∙ no-more (keep (own n) w.history)

    alike : (k l : ℕ) (x y : EntryModel) → At es k x → At es l y → IsAlike n x y
    alike k l x y p q =
        let a = its k x p in
        let b = its l y q in
        ((a.client_is ∙ sym b.client_is, a.slot_is ∙ sym b.slot_is), foreign k x p ∙ sym (foreign l y q))

-- time passes
passes-steady : (n : ℕ) (w : WorldModel) → Steady n w → Steady n (record w { moment = w.moment + 1 })
passes-steady n w s = record {
  size = s.size;
  named = s.named;
  placed = record { single = (s.placed).single; below = (s.placed).below; place = (s.placed).place; once = (s.placed).once; replied = (s.placed).replied; tidy = (s.placed).tidy };
  there = record { ups = (s.there).ups; links = (s.there).links; targets = (s.there).targets };
  turned = record { ups = (s.turned).ups; links = (s.turned).links };
  kept = record { apart = (s.kept).apart; data' = (s.kept).data'; legal = (s.kept).legal; asked = (s.kept).asked };
  lists = waited w.moment (w.moment + 1) w.commands (keep (own n) w.history) w.answers (omega arith) s.lists;
  short = record { ups = (s.short).ups; links = (s.short).links; apart = (s.short).apart };
  chronicle = subst (λ m. Chronicle n m w.history) (sym (plus_one w.moment)) (lasted n w.moment w.history s.chronicle);
}

pub does-steady : (n : ℕ) (st : Step) (w w' : WorldModel) → Steady n w → SharedDoes (record w { moment = w.moment + 1 }) st w' → Steady n w'
does-steady n (Step.Ours e) w w' s d = ours-steady n e w w' s d
does-steady n (Step.Led link node v) w w' s d = led-steady n link node v w w' s d
does-steady n (Step.Theirs node asking es) w w' s d = theirs-steady n node asking es w w' s d
does-steady n Step.Passes w w' s d = subst (Steady n) (sym d) (passes-steady n w s)

pub step-steady : (n : ℕ) (st : Step) (w w' : WorldModel) → Steady n w → SharedStep w st w' → Steady n w'
step-steady n st w w' s d = does-steady n st w w' s d.1

pub run-steady : (n : ℕ) (sts : List Step) (w w' : WorldModel) → Steady n w → SharedRun w sts w' → Steady n w'
run-steady n [] w w' s r = subst (Steady n) (sym r) s
run-steady n (st ∷ sts) w w' s r = run-steady n sts r.0 w' (step-steady n st w r.0 s r.1) r.2

pub start-steady : (workers run_limit : ℕ) (initial : StoreModel) (k : ClusterModel) → IsSound initial k → Steady workers (start_from workers run_limit initial k)
start-steady workers run_limit initial k sound =
    let s = start-sound workers run_limit initial k sound in
    record {
      size = refl;
      named = λ j d lt. absurd (omega arith);
      placed = s.placed;
      there = s.there;
      turned = s.turned;
      kept = s.kept;
      lists = s.lists;
      short = s.short;
      chronicle = record { past = λ j e p. absurd (cc); timed = λ k l e f p. absurd (cc); together = λ k l e f p. absurd (cc) };
    }

-- the headline
pub shared-headline : (n : ℕ) (w : WorldModel) → Steady n w → SharedHeadline w
shared-headline n w s = headline-of (is_ours n) (IsOurs w) tells w (record {
  named = s.named;
  placed = s.placed;
  lists = s.lists;
  short = s.short;
  kept = s.kept;
  timed = (s.chronicle).timed;
  together = (s.chronicle).together;
})
  where
    tells : Tells (is_ours n) (IsOurs w)
    tells = record {
      yes = λ t x. ours-yes n t (x ∙ ap (λ m. t.client % m) s.size);
      so = λ t y. yes-ours n t y ∙ ap (λ m. t.client % m) (sym s.size);
    }

pub every_shared_schedule : EverySharedSchedule
every_shared_schedule workers run_limit initial k steps w sound r = shared-headline workers w (run-steady workers steps (start_from workers run_limit initial k) w (start-steady workers run_limit initial k sound) r)

-- what a schedule leaves, a proxy can begin from
pub steady-sound : (n : ℕ) (w : WorldModel) → Steady n w → IsSound (store_of w) w.cluster
steady-sound n w s = record {
  apart = (s.kept).apart;
  targets = (s.there).targets;
  placed = λ key value node is. at_home w s.kept key node value is;
  union = union-of w s.kept;
}

pub shared-end-sound : SharedEndsAreSound
shared-end-sound w r = steady-sound r.0 w (run-steady r.0 r.4 (start_from r.0 r.1 r.2 r.3) w (start-steady r.0 r.1 r.2 r.3 r.5) r.6)

pub alone_is_shared : AloneIsShared
alone_is_shared [] w w' r = r
alone_is_shared (e ∷ es) w w' r = (r.0, (r.1.0, r.1.1), alone_is_shared es r.0 w' r.2)

pub headline-follows : HeadlineFollows
headline-follows w ours g = record {
  legal = g.legal;
  timed = g.timed;
  together = λ k l e f p q same. let r = g.together k l e f p q same in (r.0, r.1, ((λ x. tt), (λ x. tt)));
  apart = λ small k l e f p q x y lt. g.apart small k l e f p q (ours e (k, p)) (ours f (l, q)) lt;
  one_node = g.one_node;
  union = g.union;
  ours = λ c x. tt;
  own_ticket = g.own_ticket;
  told = g.told;
  answered_once = g.answered_once;
  arrived = λ e x y. g.arrived e x (ours e x);
  once = λ ticket x k l e f p q te tf. g.once ticket (subst (IsOurs w) te (ours e (k, p))) k l e f p q te tf;
  answered = g.answered;
  in_order = g.in_order;
  lost = g.lost;
  refused = g.refused;
}
