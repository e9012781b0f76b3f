use Rattle.std.proofs.Common.{◌∷◌, [], refl, inr}
use Rattle.key_split.specs.Requests.{Slots}
use Rattle.proxy_turns.proofs.Backends.{never, none_unless}
use Rattle.proxy_turns.proofs.backend.Backend.ask.Goals as goal

pub returns-then-is_starved : goal.returns-then-is_starved
returns-then-is_starved g c = λ nodes published. inr (
  c.in-Some.link,
  c.ask_slots-sent.new.self,
  c.in-Some.is,
  inr ((Slots ∷ [], rw (c.if-is_starved.ensures.0 refl) at c.ask_slots-sent.ensures), refl),
  refl,
)

pub returns : goal.returns
returns g c = λ nodes published. (
  (
    c.in-Some.link,
    c.ask_slots-sent.new.self,
    c.if-not-self.false,
    c.if-unanswered.false,
    c.in-Some.is,
    (c.ask_slots-sent.result, none_unless _ c.if-failed.ensures.1, (λ e. never c.if-is_starved.ensures.1 e), c.ask_slots-sent.ensures),
    refl,
  ),
  refl,
  λ still. refl,
)
