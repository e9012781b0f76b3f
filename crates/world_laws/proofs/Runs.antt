-- What every event keeps holds after every run; and it says the headline.
use Rattle.std.proofs.Common.{◌≡◌, ℕ, ◌+◌, true, List, [], ◌∷◌, ◌++◌, refl, sym, subst, arith}
use Rattle.world_laws.specs.State.{WorldModel, start_from}
use Rattle.node_model.specs.History.{EntryModel}
use Rattle.node_model.specs.Nodes.{ClusterModel}
use Rattle.node_model.specs.Store.{StoreModel}
use Rattle.world_laws.specs.World.{WorldDoes, WorldStep, WorldRun}
use Rattle.world_laws.specs.declared.event.Event.{Event}
use Rattle.world_laws.specs.Headline.{IsSound, IsReached, AnyTicket, EndsAreSound, Headline, EverySchedule}
use Rattle.world_laws.proofs.Placed.{Placed, standing-of, start-placed}
use Rattle.world_laws.proofs.LinkEvents.{does-keeps}
use Rattle.world_laws.proofs.Kept.{Kept}
use Rattle.world_laws.proofs.Moves.{does-kept}
use Rattle.world_laws.proofs.Lives.{Lists, does-lists, does-moment}
use Rattle.world_laws.proofs.There.{There, does-there}
use Rattle.world_laws.proofs.Turns.{Turned, does-turned}
use Rattle.world_laws.proofs.Apart.{Short, does-short}
use Rattle.world_laws.proofs.Passing.{keep, keep-all}
use Rattle.world_laws.proofs.Headlines.{at_home, headline-of, union-of}
use Rattle.world_laws.proofs.Sound.{sound-home}

pub record Sound (w : WorldModel) : Type 0 where
  pub placed : Placed w
  pub there : There w
  pub turned : Turned w
  pub kept : Kept w
  pub lists : Lists w.moment w
  pub short : Short w

pub does-sound : (e : Event) (w w' : WorldModel) → Sound w → WorldDoes (record w { moment = w.moment + 1 }) e w' → Sound w'
does-sound e w w' s d =
    let w1 : WorldModel = record w { moment = w.moment + 1 } in
    let p1 : Placed w1 = record { single = (s.placed).single; below = (s.placed).below; place = (s.placed).place; once = (s.placed).once; replied = (s.placed).replied; tidy = (s.placed).tidy } in
    let t1 : There w1 = record { ups = (s.there).ups; links = (s.there).links; targets = (s.there).targets } in
    let h1 : Short w1 = record { ups = (s.short).ups; links = (s.short).links; apart = (s.short).apart } in
    let u1 : Turned w1 = record { ups = (s.turned).ups; links = (s.turned).links } in
    let p' : Placed w' = does-keeps e w1 w' p1 d in
    let k1 : Kept w1 = record { apart = (s.kept).apart; data' = (s.kept).data'; legal = (s.kept).legal; asked = (s.kept).asked } in
    record {
      placed = p';
      there = does-there e w1 w' t1 d;
      turned = does-turned e w1 w' u1 d;
      kept = does-kept e w1 w' (standing-of w1 w1.history p1) t1 u1 k1 d;
      lists = subst (λ n. Lists n w') (sym (does-moment e w1 w' d)) (does-lists e w1 w' p1 p' u1 w.moment (omega arith) s.lists d);
      short = does-short e w1 w' h1 (λ k x p. let past = (s.lists).past k x p in omega (arith, past)) d;
    }

step-sound : (e : Event) (w w' : WorldModel) → Sound w → WorldStep w e w' → Sound w'
step-sound e w w' s d = does-sound e w w' s d.1

run-sound : (es : List Event) (w w' : WorldModel) → Sound w → WorldRun w es w' → Sound w'
run-sound [] w w' s r = subst Sound (sym r) s
run-sound (e ∷ es) w w' s r = run-sound es r.0 w' (step-sound e w r.0 s r.1) r.2

pub start-sound : (workers run_limit : ℕ) (initial : StoreModel) (k : ClusterModel) → IsSound initial k → Sound (start_from workers run_limit initial k)
start-sound workers run_limit initial k sound = record {
  placed = start-placed workers run_limit initial k;
  there = record { ups = λ j d lt. absurd (omega arith); links = λ j d lt. absurd (omega arith); targets = sound.targets };
  turned = record { ups = λ j d lt. absurd (omega arith); links = λ j d lt. absurd (omega arith) };
  kept = record {
    apart = sound.apart;
    data' = sound-home initial k sound;
    legal = tt;
    asked = λ j d lt. absurd (omega arith);
  };
  lists = record {
    early = λ i c e. absurd (cc);
    sorted = λ i j c d lt e f. absurd (cc);
    born = λ j e p. absurd (cc);
    past = λ j e p. absurd (cc);
    timed = λ k l e f p q lt. absurd (cc);
    together = λ k l e f p q same. absurd (cc);
    told = λ j a p. absurd (cc);
    answered_once = λ k l a b p q. absurd (cc);
    within = λ j a v p. absurd (cc);
    followed = λ i j c d lt p q. absurd (cc);
    ordered = λ i j c d lt p q. absurd (cc);
  };
  short = record { ups = λ j d lt. absurd (omega arith); links = λ j d lt. absurd (omega arith); apart = λ small k l e f p. absurd (cc) };
}

-- where nobody else acts every entry is ours
pub headline : (w : WorldModel) → Sound w → Headline w
headline w s = headline-of (λ ticket. true) AnyTicket (record { yes = λ ticket x. refl; so = λ ticket x. tt }) w (record {
  named = λ k c lt. refl;
  placed = subst (λ hs. Placed (record w { history = hs })) (sym all) s.placed;
  lists = subst (λ hs. Lists w.moment (record w { history = hs })) (sym all) s.lists;
  short = subst (λ hs. Short (record w { history = hs })) (sym all) s.short;
  kept = s.kept;
  timed = (s.lists).timed;
  together = λ k l e f p q same. ((s.lists).together k l e f p q same, refl);
})
  where
    all : keep (λ (e : EntryModel). true) w.history ≡ w.history
    all = keep-all (λ (e : EntryModel). true) w.history (λ k e p. refl)

pub every_schedule : EverySchedule
every_schedule workers run_limit initial k events w sound r = headline w (run-sound events (start_from workers run_limit initial k) w (start-sound workers run_limit initial k sound) r)

-- runs join
run_joins : (es fs : List Event) (w mid w' : WorldModel) → WorldRun w es mid → WorldRun mid fs w' → WorldRun w (es ++ fs) w'
run_joins [] fs w mid w' r s = subst (λ x. WorldRun x fs w') r s
run_joins (e ∷ es) fs w mid w' r s = (r.0, r.1, run_joins es fs r.0 mid w' r.2 s)

pub runs_on : (w w' : WorldModel) (events : List Event) → IsReached w → WorldRun w events w' → IsReached w'
runs_on w w' events h r = (h.0, h.1, h.2, h.3, h.4 ++ events, h.5, run_joins h.4 events (start_from h.0 h.1 h.2 h.3) w w' h.6 r)

pub goes_on : (w w' : WorldModel) (event : Event) → IsReached w → WorldStep w event w' → IsReached w'
goes_on w w' event h s = runs_on w w' (event ∷ []) h (w', s, refl)

pub reached-headline : (w : WorldModel) → IsReached w → Headline w
reached-headline w h = every_schedule h.0 h.1 h.2 h.3 h.4 w h.5 h.6

pub reached-sound : (w : WorldModel) → IsReached w → Sound w
reached-sound w h = run-sound h.4 (start_from h.0 h.1 h.2 h.3) w (start-sound h.0 h.1 h.2 h.3 h.5) h.6

-- what a schedule leaves, another proxy can begin from
pub end-sound : EndsAreSound
end-sound w h =
    let s = reached-sound w h in
    record {
      apart = (s.kept).apart;
      targets = (s.there).targets;
      placed = λ key value node is. at_home w s.kept key node value is;
      union = union-of w s.kept;
    }
