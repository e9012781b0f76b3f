-- A command that advances by a call goes on to what it may give.
use Rattle.std.proofs.Common.{◌≡◌, ℕ, List, [], ◌∷◌, ◌++◌, Option, Some, None, refl, ap, sym, subst, append_assoc, ◌∙◌}
use Rattle.std.specs.List.{FoldsTo}
use Rattle.std.proofs.lemmas.List.{append-nil}
use Rattle.key_split.specs.declared.travel.Batch.{Batch}
use Rattle.key_split.specs.PartModel.{PartModel}
use Rattle.key_split.specs.declared.travel.Ticket.{Ticket}
use Rattle.key_split.specs.declared.travel.Told.{Told}
use Rattle.key_split.specs.declared.travel.Ended.{Ended}
use Rattle.command_future.specs.declared.stage.Stage.{Stage}
use Rattle.command_future.specs.declared.stage.Stage.TheVariants.{Wants, WantsAsking, Awaits, Over}
use Rattle.command_future.specs.declared.stage.Want.TheVariants.{Await}
use Rattle.command_future.specs.Life.{CommandEvent, told_in, HasEnd, IsLife}
use Rattle.command_future.specs.Life.CommandEvent.{Posted, Heard}
use Rattle.command_future.specs.CommandModel.{CommandModel, want_at, MayPostTo, batch_of, progress_told, Stands}
use Rattle.command_future.specs.Carried.{events_in, CourierDoes, Gives, Advances}
use Rattle.command_future.proofs.Lives.{lived_posted, lived_told}

pub events_in-append : (calls more : List (Option CommandEvent)) → events_in (calls ++ more) ≡ events_in calls ++ events_in more
events_in-append [] more = refl
events_in-append (None ∷ calls) more = events_in-append calls more
events_in-append (Some event ∷ calls) more = ap (λ l. event ∷ l) (events_in-append calls more)

pub FoldsTo-append : {P A : Type 0} (R : P → A → P → Type 0) (p : P) (xs : List A) (q : P) (ys : List A) (r : P)
    → FoldsTo R p xs q → FoldsTo R q ys r → FoldsTo R p (xs ++ ys) r
FoldsTo-append R p [] q ys r first second = subst (λ (s : _). FoldsTo R s ys r) (sym first) second
FoldsTo-append R p (x ∷ xs) q ys r first second = (first.0, first.1, FoldsTo-append R first.0 xs q ys r first.2 second)

-- only a command that was posted awaits
pub awaits : (stage : Stage) → Await ≡ want_at stage → stage ≡ Awaits
awaits (Wants named) e = cc
awaits (WantsAsking node) e = cc
awaits Awaits e = refl
awaits (Over end) e = cc

module _ {P : Type 0} (posts : P → Batch → P → Type 0) (tells : P → Ticket → Told → P → Type 0) (rests : P → P → Type 0) where
  -- nothing was called
  pub advances_not : (c : CommandModel) (p : P) → Advances posts tells rests c p c p
  advances_not c p =
      record { calls = []; did = refl; same_ticket = refl; same_part = refl; lives = λ before lived. rw append-nil lived }

  -- nothing came of a call
  pub advances_later : (c : CommandModel) (p q : P) → rests p q → Advances posts tells rests c p c q
  advances_later c p q rested =
      record {
        calls = None ∷ [];
        did = (q, rested, refl);
        same_ticket = refl;
        same_part = refl;
        lives = λ before lived. rw append-nil lived;
      }

  pub advances_posted : (c d : CommandModel) (node : ℕ) (p q : P) → MayPostTo c.stage node → posts p (batch_of c node) q
      → d ≡ record c { stage = Awaits } → Advances posts tells rests c p d q
  advances_posted c d node p q may posted is =
      subst (λ (e : CommandModel). Advances posts tells rests c p e q) (sym is) (record {
        calls = Some (Posted (batch_of c node)) ∷ [];
        did = (q, posted, refl);
        same_ticket = refl;
        same_part = refl;
        lives = λ before lived. lived_posted c node before may lived;
      })

  pub advances_told : (c d : CommandModel) (told : Told) (p q : P) → c.stage ≡ Awaits → tells p c.ticket told q
      → d ≡ progress_told c told → Advances posts tells rests c p d q
  advances_told c d told p q awaits was_told is =
      subst (λ (e : CommandModel). Advances posts tells rests c p e q) (sym is) (record {
        calls = Some (Heard told) ∷ [];
        did = (q, was_told, refl);
        same_ticket = refl;
        same_part = refl;
        lives = λ before lived. lived_told c before awaits lived told;
      })

  -- what it gives after it advanced, it gave before
  pub gives_before : (c d : CommandModel) (p q : P) (out : Ticket × Ended) → Advances posts tells rests c p d q
      → Gives posts tells rests d q out → Gives posts tells rests c p out
  gives_before c d p q out advanced later =
      let then : FoldsTo (CourierDoes posts tells rests c.ticket) q later.calls later.left =
      subst (λ (t : Ticket). FoldsTo (CourierDoes posts tells rests t) q later.calls later.left) advanced.same_ticket later.did in
      record {
        calls = advanced.calls ++ later.calls;
        left = later.left;
        did = FoldsTo-append (CourierDoes posts tells rests c.ticket) p advanced.calls q later.calls later.left advanced.did then;
        ticket = later.ticket ∙ advanced.same_ticket;
        life = λ before lived.
            let now = later.life (before ++ events_in advanced.calls) (advanced.lives before lived) in
            let all = (before ++ events_in advanced.calls) ++ events_in later.calls in
            let e : all ≡ before ++ events_in (advanced.calls ++ later.calls) = rw (events_in-append, append_assoc) refl in
            let same : IsLife c.ticket c.part all =
            subst (λ (t : Ticket). IsLife t c.part all) advanced.same_ticket
            (subst (λ (r : PartModel). IsLife d.ticket r all) advanced.same_part now.0) in
            subst (λ (es : List CommandEvent). IsLife c.ticket c.part es × HasEnd (told_in es) out.1) e (same, now.1);
      }

  -- it gives its end
  pub gives_end : (c : CommandModel) (p : P) (out : Ticket × Ended) → out.0 ≡ c.ticket → c.stage ≡ Over out.1
      → Gives posts tells rests c p out
  gives_end c p out ticket over =
      record {
        calls = [];
        left = p;
        did = refl;
        ticket = ticket;
        life = λ before lived. rw append-nil (lived.life, subst (λ (s : Stage). Stands s c.followed before) over lived.stands);
      }
