-- The same end of the same lane, later: what was posted or taken has only grown.
use Rattle.std.proofs.Common.{◌≡◌, List, [], ◌∷◌, ◌++◌, Option, Some, None, Result, Ok, Err, refl, sym, ap, ◌∙◌}
use Rattle.std.proofs.lemmas.List.{append_assoc, append-nil}
use mathlib.Core.List.{IsPrefix}
use Rattle.rtrb.specs.Ring.{SameConsumer, SameProducer}
use Rattle.proxy_lanes.specs.declared.ring.Outlet.{Outlet}
use Rattle.proxy_lanes.specs.declared.ring.Inlet.{Inlet}
use Rattle.proxy_lanes.specs.Lane.{IsLane, Posts, Takes, numbered, posted, taken}

pub front-itself : {X : Type 0} (xs : List X) → IsPrefix xs xs
front-itself xs = ([], append-nil xs)

pub front-after : {X : Type 0} (xs ys zs : List X) → IsPrefix xs ys → IsPrefix ys zs → IsPrefix xs zs
front-after xs ys zs p q = (p.0 ++ q.0, sym (append_assoc xs p.0 q.0) ∙ ap (λ us. us ++ q.0) p.1 ∙ q.1)

pub same-front : {X : Type 0} (xs ys : List X) → ys ≡ xs → IsPrefix xs ys
same-front xs ys e = ([], append-nil xs ∙ sym e)

module _ {T : Type 0} where
  abbrev pub SameOutlet : Outlet T → Outlet T → Type 0
  SameOutlet old new = SameProducer old.producer new.producer × IsPrefix (posted old) (posted new)

  abbrev pub SameInlet : Inlet T → Inlet T → Type 0
  SameInlet old new = SameConsumer old.consumer new.consumer × IsPrefix (taken old) (taken new)

  pub outlet-itself : (outlet : Outlet T) → SameOutlet outlet outlet
  outlet-itself outlet = (((refl, refl, refl, refl), refl), front-itself (posted outlet))

  pub inlet-itself : (inlet : Inlet T) → SameInlet inlet inlet
  inlet-itself inlet = (((refl, refl, refl, refl), refl), front-itself (taken inlet))

  pub outlet-after : (a b c : Outlet T) → SameOutlet a b → SameOutlet b c → SameOutlet a c
  outlet-after a b c p q = (
    ((q.0.0.0 ∙ p.0.0.0, q.0.0.1 ∙ p.0.0.1, q.0.0.2 ∙ p.0.0.2, q.0.0.3 ∙ p.0.0.3), q.0.1 ∙ p.0.1),
    front-after (posted a) (posted b) (posted c) p.1 q.1,
  )

  pub inlet-after : (a b c : Inlet T) → SameInlet a b → SameInlet b c → SameInlet a c
  inlet-after a b c p q = (
    ((q.0.0.0 ∙ p.0.0.0, q.0.0.1 ∙ p.0.0.1, q.0.0.2 ∙ p.0.0.2, q.0.0.3 ∙ p.0.0.3), q.0.1 ∙ p.0.1),
    front-after (taken a) (taken b) (taken c) p.1 q.1,
  )

  -- two ends of one lane are so later
  pub lane-kept : (outlet outlet' : Outlet T) (inlet inlet' : Inlet T) → IsLane outlet inlet → SameOutlet outlet outlet' → SameInlet inlet inlet' → IsLane outlet' inlet'
  lane-kept outlet outlet' inlet inlet' l p c =
      (c.0.0.0 ∙ l.0 ∙ sym p.0.0.0, c.0.0.1 ∙ l.1 ∙ sym p.0.0.1, c.0.0.2 ∙ l.2 ∙ sym p.0.0.2, c.0.0.3 ∙ l.3 ∙ sym p.0.0.3)

  -- a post is at the same outlet, a take at the same inlet
  pub posts-there : (old new : Outlet T) (x : T) (given : Result (Unit {0}) T) → Posts old new x given → SameOutlet old new
  posts-there old new x (Ok u) p = (p.0, (numbered _ x ∷ [], sym p.1))
  posts-there old new x (Err back) p = (p.0, same-front (posted old) (posted new) p.2)

  pub takes-there : (old new : Inlet T) (x : Option T) → Takes old new x → SameInlet old new
  takes-there old new None t = (t.0, same-front (taken old) (taken new) t.3)
  takes-there old new (Some x) t = (t.0, (numbered _ x ∷ [], sym t.1))
