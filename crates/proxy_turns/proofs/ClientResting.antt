-- A client whose turn moved nothing is at rest.
use Rattle.std.proofs.Common.{◌≡◌, ◌≢◌, ◌∙◌, ◌||◌, ◌<◌, ◌≤◌, ◌-◌, ◌^◌, ◌∷◌, [], ℕ, zero, suc, Bool, true, false, List, Some, Result, Ok, Err, inl, inr, refl, sym, ap, subst, not, arith, drop, take, length, nat_lt}
use Rattle.std.specs.Prelude.{◌⊎◌, ◌↔◌}
use Rattle.std.proofs.lemmas.Bool.{false≢true}
use Rattle.std.proofs.lemmas.Bool.Decides.{nat_tests}
use Rattle.resp_wire.specs.declared.fault.NoMemory.{NoMemory}
use Rattle.key_split.specs.Runs.{RunModel}
use Rattle.command_future.specs.declared.stage.Stage.{Stage}
use Rattle.command_future.specs.declared.stage.Stage.TheVariants.{Wants, WantsAsking, Awaits, Over}
use Rattle.command_future.specs.declared.stage.Want.TheVariants.{Await, Finished}
use Rattle.command_future.specs.CommandModel.{WantsPost, want_at}
use Rattle.session_order.specs.declared.closing.Closing.{Closing}
use Rattle.session_order.specs.declared.closing.Closing.TheVariants.{Open, Quit, Faulted}
use Rattle.session_order.specs.declared.fault.SessionFault.{SessionFault}
use Rattle.session_order.specs.declared.fault.SessionFault.TheVariants as fault
use Rattle.session_order.specs.RequestReaderModel.{IsDry}
use Rattle.session_order.specs.SessionModel.{SessionModel}
use Rattle.session_order.specs.Replies.{DrainOutcome, output, parts_of}
use Rattle.session_order.specs.Steps.{FeedOutcome, FaultedBy, IsNotFaulted, MayRead, ReadOutcome, fed, with_incoming}
use Rattle.session_order.specs.Turn.{MayPost, NextPlace}
use Rattle.proxy_lanes.specs.declared.ring.Outlet.{Outlet}
use Rattle.proxy_lanes.specs.Lane.{Posts, free_places, posted}
use Rattle.proxy_lanes.specs.View.{ViewModel}
use Rattle.proxy_turns.specs.Commands.{BeginOutcome, CommandsModel, Drops, PostsFreshResult}
use Rattle.proxy_turns.specs.ClientModel.{ClientModel, read_answer}
use Rattle.proxy_turns.specs.ClientTurn.{most_drained}
use Rattle.proxy_turns.specs.ClientRest.{BeginsNone, DrainsNone, FeedsNone, HasNoPlace, HasNoneToBegin, HasNoneToDrain, HasNoneToFeed, HasNoneToPost, HasNoneToPull, HasNoneToPush, HasNoneToRead, IfStill, IsAnswered, IsAsleep, IsClientAtRest, IsIdle, MayBeHeld, PostsNone, PullsNone, PushesNone, ReadsNone, SendsNone, TakesNoMore, WorksNone, WritesNone}
use Rattle.proxy_turns.proofs.Undrained.{append_none, drained_by}

not_below : (i place : ℕ) → (i < place → ⊥) → place ≤ i
not_below i zero none = omega arith
not_below zero (suc place) none = absurd (none (omega arith))
not_below (suc i) (suc place) none = omega (arith, not_below i place (λ less. none (omega (arith, less))))

-- where the earliest part may be held back, each later one may
pub held_next : (session : SessionModel) (place : ℕ) → NextPlace session.stages (Some place) → parts_of (take 1 session.requests) ≤ place → 4 ≤ place
    → (i : ℕ) → MayPost session.stages i → MayBeHeld session i
held_next session place next oldest first i may =
    let behind = not_below i place (λ less. next.1 i less may) in
    (omega (arith, behind, oldest), omega (arith, behind, first))

none_of : (n : ℕ) → nat_lt 0 n ≡ false → n ≡ 0
none_of n e = grind (arith, nat_tests, e)

-- ---- one call

full_still : (old new : SessionModel) → new ≡ old → TakesNoMore old → TakesNoMore new
full_still old new same full = subst TakesNoMore (sym same) full

not_open : (a b : Closing) → a ≡ b → IsNotFaulted a → IsNotFaulted b
not_open a b e n = subst IsNotFaulted e n

faulted_full : (session : SessionModel) (P : Type 0) → (IsNotFaulted session.closing → ⊥) → MayRead session → P
faulted_full session P faulted (is_open, few) = absurd (faulted (not_open Open session.closing (sym is_open) tt))

-- the session after a read that gave no request
pub read_none : (old new : SessionModel) (given : Result Bool SessionFault) (result : Result Bool NoMemory) → result ≡ read_answer given → ReadOutcome old given new
    → IfStill result ((MayRead new → IsDry new.incoming) × (TakesNoMore old → TakesNoMore new))
read_none old new given result is reads = subst (λ r. IfStill r ((MayRead new → IsDry new.incoming) × (TakesNoMore old → TakesNoMore new))) (sym is) (by_answer given reads)
  where
    broken : (IsNotFaulted new.closing → ⊥) → (MayRead new → IsDry new.incoming) × (TakesNoMore old → TakesNoMore new)
    broken faulted = (faulted_full new (IsDry new.incoming) faulted, λ full. inr faulted)

    by_fault : (closing : Closing) → (why : _) → FaultedBy why closing → IsNotFaulted closing → ⊥
    by_fault closing why (owed, is) n = subst IsNotFaulted is n

    same_broken : (why : _) → FaultedBy why old.closing → new ≡ old → IsNotFaulted new.closing → ⊥
    same_broken why faulted same n = by_fault old.closing why faulted (not_open new.closing old.closing (ap (λ (s : SessionModel). s.closing) same) n)

    new_broken : (why : _) → new.closing ≡ Faulted why true → IsNotFaulted new.closing → ⊥
    new_broken why is n = subst IsNotFaulted is n

    by_answer : (given : Result Bool SessionFault) → ReadOutcome old given new → IfStill (read_answer given) ((MayRead new → IsDry new.incoming) × (TakesNoMore old → TakesNoMore new))
    by_answer (Ok true) reads = tt
    by_answer (Ok false) (same, why) = subst (λ s. (MayRead s → IsDry s.incoming) × (TakesNoMore old → TakesNoMore s)) (sym same) (by_why why, λ full. full)
      where
        by_why : (old.closing ≡ Quit) ⊎ ((old.closing ≡ Open) × (length old.requests ≡ 1024)) ⊎ (MayRead old × IsDry old.incoming) → MayRead old → IsDry old.incoming
        by_why (inl quit) (is_open, few) = absurd (cc)
        by_why (inr (inl (is_open, many))) (also, few) = absurd (omega (arith, many, few))
        by_why (inr (inr (may, dry))) again = dry
    by_answer (Err fault.NoMemory) reads = tt
    by_answer (Err (fault.Wire why)) (inl (faulted, same)) = broken (same_broken _ faulted same)
    by_answer (Err (fault.Wire why)) (inr (may, garbled, is)) = broken (new_broken _ (ap (λ (s : SessionModel). s.closing) is))
    by_answer (Err fault.NotRequest) (inl (faulted, same)) = broken (same_broken _ faulted same)
    by_answer (Err fault.NotRequest) (inr (inl (may, takes, is))) = broken (new_broken _ (ap (λ (s : SessionModel). s.closing) is))
    by_answer (Err fault.NotRequest) (inr (inr (may, words, rest, reads, is))) = broken (new_broken _ (ap (λ (s : SessionModel). s.closing) is))

-- what was fed where the session took nothing
fed_nothing : (old : SessionModel) → with_incoming old (fed old.incoming []) ≡ old
fed_nothing old = λ i. with_incoming old (record old.incoming { input = record old.incoming.input { unread = append_none old.incoming.input.unread i } })

fed_none : (old new : SessionModel) (unfed : List ℕ) (n : ℕ) → n ≡ 0 → FeedOutcome old unfed (Ok n) new → (new ≡ old) × ((unfed ≡ []) ⊎ TakesNoMore new)
fed_none old new unfed n none (inl (many, nothing, same, sound)) = (same, inr (inl (ap (λ (s : SessionModel). length s.requests) same ∙ many)))
fed_none old new [] n none (inr (few, all, inl (is_open, is))) = (is ∙ fed_nothing old, inl refl)
fed_none old new (x ∷ unfed) n none (inr (few, all, more)) = absurd (omega (arith, all, none))
fed_none old new [] n none (inr (few, all, inr (quit, is))) = (is, inl refl)

pub fed_fault : (old new : SessionModel) (unfed : List ℕ) (why : _) → FaultedBy why old.closing → new ≡ old → (new ≡ old) × ((unfed ≡ []) ⊎ TakesNoMore new)
fed_fault old new unfed why (owed, is) same = (same, inr (inr (λ n. subst IsNotFaulted (ap (λ (s : SessionModel). s.closing) same ∙ is) n)))

-- ---- calls one after another

pub if_still : {P : Type 0} (moved : Bool) → (moved ≡ false → P) → IfStill (Ok moved) P
if_still true rests = tt
if_still false rests = rests refl

pub two_still : {A B D : Type 0} (a b : Bool) → IfStill (Ok a) A → IfStill (Ok b) B → (A → B → D) → IfStill (Ok (a || b)) D
two_still true b x y f = tt
two_still false true x y f = tt
two_still false false x y f = f x y

pub three_still : {A B C D : Type 0} (a b c : Bool) → IfStill (Ok a) A → IfStill (Ok b) B → IfStill (Ok c) C → (A → B → C → D) → IfStill (Ok ((a || b) || c)) D
three_still true b c x y z f = tt
three_still false true c x y z f = tt
three_still false false true x y z f = tt
three_still false false false x y z f = f x y z

-- and it was so
pub with_still : (A : Type 0) (b : Bool) → IfStill (Ok b) A → IfStill (Ok b) (A × (b ≡ false))
with_still A true still = tt
with_still A false still = (still, refl)

pub four_still : {A B C D E : Type 0} (a b c d : Bool) → IfStill (Ok a) A → IfStill (Ok b) B → IfStill (Ok c) C → IfStill (Ok d) D → (A → B → C → D → E) → IfStill (Ok (((a || b) || c) || d)) E
four_still true b c d x y z w f = tt
four_still false true c d x y z w f = tt
four_still false false true d x y z w f = tt
four_still false false false true x y z w f = tt
four_still false false false false x y z w f = f x y z w

pub if_turned : {P : Type 0} (moved : Bool) → IfStill (Ok moved) P → moved ≡ false → P
if_turned true still e = absurd (cc)
if_turned false still e = still

-- where only the last of some steps moved nothing, something moved; where it is the first, it was so from the start
pub still_first : {X : Type 0} (P : X → Type 0) (b : Bool) (old now : X) → (b ≡ false → now ≡ old) → P now → IfStill (Ok b) (P old)
still_first P true old now same holds = tt
still_first P false old now same holds = subst P (same refl) holds

module _ {C : Type 0} where
  post_none : (client : ClientModel C) (outlet : Outlet RunModel) → client.commands.fresh ≡ [] → HasNoneToPost client outlet
  post_none client outlet none some = absurd (some none)

  -- a client that begins nothing, and the command that waits is not posted
  pub sends_none : (old mid new : ClientModel C) (outlet : Outlet RunModel) → BeginsNone old mid → PostsNone mid new outlet → SendsNone old new outlet
  sends_none old mid new outlet begins posts = record {
    kept = posts.kept ∙ begins.kept;
    begun = subst HasNoneToBegin (sym posts.kept) begins.begun;
    posted = posts.posted;
  }

  -- a client that is gone drops nothing
  pub drops_none : (old new : ClientModel C) (outlet : Outlet RunModel) → old.gone ≡ true → (new ≡ old) × (new.commands.fresh ≡ []) → SendsNone old new outlet
  drops_none old new outlet gone (same, none) = record {
    kept = same;
    begun = λ here nothing i may. absurd (false≢true (sym here ∙ ap (λ (m : ClientModel C). m.gone) same ∙ gone));
    posted = post_none new outlet none;
  }

  module _ (takes_none : C → Type 0) where
    pub writes_none : (old mid new : ClientModel C) → DrainsNone old mid → PushesNone takes_none mid new → WritesNone takes_none old new
    writes_none old mid new drains pushes =
        record {
          kept = pushes.kept ∙ (λ i. record (drains.kept i) { port = new.port });
          unasked = λ none. pushes.unasked (ap (λ (m : ClientModel C). m.unpushed) drains.kept ∙ none) ∙ drains.kept;
          drained = subst HasNoneToDrain (sym pushes.kept) drains.drained;
          pushed = pushes.pushed;
        }

    pub works_none : (s0 s1 s2 s3 s4 : ClientModel C) (outlet : Outlet RunModel) → FeedsNone s0 s1 → ReadsNone s1 s2 → SendsNone s2 s3 outlet → WritesNone takes_none s3 s4 → WorksNone takes_none s0 s4 outlet
    works_none s0 s1 s2 s3 s4 outlet feeds reads sends writes =
        let unpushed : s3.unpushed ≡ s0.unpushed = ap (λ (m : ClientModel C). m.unpushed) sends.kept ∙ ap (λ (m : ClientModel C). m.unpushed) reads.kept ∙ ap (λ (m : ClientModel C). m.unpushed) feeds.kept in
        let port : s3.port ≡ s0.port = ap (λ (m : ClientModel C). m.port) sends.kept ∙ ap (λ (m : ClientModel C). m.port) reads.kept ∙ ap (λ (m : ClientModel C). m.port) feeds.kept in
        let gone : s3.gone ≡ s0.gone = ap (λ (m : ClientModel C). m.gone) sends.kept ∙ ap (λ (m : ClientModel C). m.gone) reads.kept ∙ ap (λ (m : ClientModel C). m.gone) feeds.kept in
        let unfed : s3.unfed ≡ s0.unfed = ap (λ (m : ClientModel C). m.unfed) sends.kept ∙ ap (λ (m : ClientModel C). m.unfed) reads.kept ∙ ap (λ (m : ClientModel C). m.unfed) feeds.kept in
        record {
          gone = ap (λ (m : ClientModel C). m.gone) writes.kept ∙ gone;
          unfed = ap (λ (m : ClientModel C). m.unfed) writes.kept ∙ unfed;
          unpushed = ap (λ (m : ClientModel C). m.unpushed) writes.kept ∙ unpushed;
          unasked = λ none. ap (λ (m : ClientModel C). m.port) (writes.unasked (unpushed ∙ none)) ∙ port;
          fed = subst HasNoneToFeed (sym writes.kept) (subst HasNoneToFeed (sym sends.kept) (reads.fed feeds.fed));
          read = subst HasNoneToRead (sym writes.kept) (subst HasNoneToRead (sym sends.kept) reads.read);
          begun = subst HasNoneToBegin (sym writes.kept) sends.begun;
          posted = subst (λ m. HasNoneToPost m outlet) (sym writes.kept) sends.posted;
          drained = writes.drained;
          pushed = writes.pushed;
        }

    module _ (gives_none : C → Type 0) where
      -- a client that was idle, of which no bytes came
      pub idle_rests : (held_back : Bool) (old new : ClientModel C) (outlet : Outlet RunModel) → held_back ≡ false → IsIdle old → PullsNone gives_none held_back old new → IsClientAtRest gives_none takes_none new outlet
      idle_rests held_back old new outlet is idle pulls = record {
        pulled = λ here none answered. pulls.asked is (sym (ap (λ (m : ClientModel C). m.gone) pulls.kept) ∙ here) (sym (ap (λ (m : ClientModel C). m.unfed) pulls.kept) ∙ none);
        fed = subst HasNoneToFeed (sym pulls.kept) idle.fed;
        read = subst HasNoneToRead (sym pulls.kept) idle.read;
        begun = subst HasNoneToBegin (sym pulls.kept) idle.begun;
        posted = post_none new outlet (ap (λ (m : ClientModel C). m.commands.fresh) pulls.kept ∙ idle.fresh);
        drained = subst HasNoneToDrain (sym pulls.kept) idle.drained;
        pushed = λ here. inl (ap (λ (m : ClientModel C). m.unpushed) pulls.kept ∙ idle.unpushed);
      }

      pub idle_on : (held_back : Bool) (old new : ClientModel C) → IsIdle old → PullsNone gives_none held_back old new → IsIdle new
      idle_on held_back old new idle pulls = record {
        unpushed = ap (λ (m : ClientModel C). m.unpushed) pulls.kept ∙ idle.unpushed;
        fresh = ap (λ (m : ClientModel C). m.commands.fresh) pulls.kept ∙ idle.fresh;
        fed = subst HasNoneToFeed (sym pulls.kept) idle.fed;
        read = subst HasNoneToRead (sym pulls.kept) idle.read;
        begun = subst HasNoneToBegin (sym pulls.kept) idle.begun;
        drained = subst HasNoneToDrain (sym pulls.kept) idle.drained;
      }

      pub asleep_rests : (client : ClientModel C) (outlet : Outlet RunModel) → IsAsleep gives_none client → IsClientAtRest gives_none takes_none client outlet
      asleep_rests client outlet sleeps = record {
        pulled = sleeps.pulled;
        fed = sleeps.idle.fed;
        read = sleeps.idle.read;
        begun = sleeps.idle.begun;
        posted = post_none client outlet sleeps.idle.fresh;
        drained = sleeps.idle.drained;
        pushed = λ here. inl sleeps.idle.unpushed;
      }

      pub idle_of : (client : ClientModel C) (outlet : Outlet RunModel) → IsClientAtRest gives_none takes_none client outlet → (client.unpushed ≡ []) × (client.commands.fresh ≡ []) → IsIdle client
      idle_of client outlet rests (unpushed, fresh) = record {
        unpushed = unpushed;
        fresh = fresh;
        fed = rests.fed;
        read = rests.read;
        begun = rests.begun;
        drained = rests.drained;
      }

      -- a client was asked for bytes before its work, or behind it where it was held back until then
      asked_once : (held_back again : Bool) (s0 s1 s2 s3 : ClientModel C) (outlet : Outlet RunModel) → PullsNone gives_none held_back s0 s1 → WorksNone takes_none s1 s2 outlet
          → (again ≡ true → (held_back ≡ true) × IsAnswered s2) → (held_back ≡ true → IsAnswered s2 → again ≡ true) → PullsNone gives_none (not again) s2 s3
          → HasNoneToPull gives_none s3
      asked_once false true s0 s1 s2 s3 outlet pulls works was becomes more here none answered = absurd (false≢true (was refl).0)
      asked_once false false s0 s1 s2 s3 outlet pulls works was becomes more here none (unpushed, empty) =
          let same = more.unasked refl in
          let gone : s0.gone ≡ false = sym (ap (λ (m : ClientModel C). m.gone) same ∙ works.gone ∙ ap (λ (m : ClientModel C). m.gone) pulls.kept) ∙ here in
          let unfed : s0.unfed ≡ [] = sym (ap (λ (m : ClientModel C). m.unfed) same ∙ works.unfed ∙ ap (λ (m : ClientModel C). m.unfed) pulls.kept) ∙ none in
          let pushed : s1.unpushed ≡ [] = sym (ap (λ (m : ClientModel C). m.unpushed) same ∙ works.unpushed) ∙ unpushed in
          subst gives_none (sym (ap (λ (m : ClientModel C). m.port) same ∙ works.unasked pushed)) (pulls.asked refl gone unfed)
      asked_once true true s0 s1 s2 s3 outlet pulls works was becomes more here none answered =
          more.asked refl (sym (ap (λ (m : ClientModel C). m.gone) more.kept) ∙ here) (sym (ap (λ (m : ClientModel C). m.unfed) more.kept) ∙ none)
      asked_once true false s0 s1 s2 s3 outlet pulls works was becomes more here none answered =
          absurd (false≢true (becomes refl (subst IsAnswered (more.unasked refl) answered)))

      offered_once : (again : Bool) (held_back : Bool) (s2 s3 : ClientModel C) → HasNoneToPush takes_none s2 → (again ≡ true → (held_back ≡ true) × IsAnswered s2) → PullsNone gives_none (not again) s2 s3
          → HasNoneToPush takes_none s3
      offered_once true held_back s2 s3 pushed was more = λ here. inl (ap (λ (m : ClientModel C). m.unpushed) more.kept ∙ (was refl).1.0)
      offered_once false held_back s2 s3 pushed was more = subst (HasNoneToPush takes_none) (sym (more.unasked refl)) pushed

      -- bytes were asked for, all work was done, and none of it moved anything
      pub worked_rests : (held_back again : Bool) (s0 s1 s2 now s3 : ClientModel C) (outlet : Outlet RunModel) → now ≡ s2
          → (again ≡ true → (held_back ≡ true) × IsAnswered s2) → (held_back ≡ true → IsAnswered s2 → again ≡ true)
          → PullsNone gives_none held_back s0 s1 → WorksNone takes_none s1 s2 outlet → PullsNone gives_none (not again) now s3
          → IsClientAtRest gives_none takes_none s3 outlet
      worked_rests held_back again s0 s1 s2 now s3 outlet same was becomes pulls works pulls_now =
          let more : PullsNone gives_none (not again) s2 s3 = subst (λ m. PullsNone gives_none (not again) m s3) same pulls_now in
          record {
            pulled = asked_once held_back again s0 s1 s2 s3 outlet pulls works was becomes more;
            fed = subst HasNoneToFeed (sym more.kept) works.fed;
            read = subst HasNoneToRead (sym more.kept) works.read;
            begun = subst HasNoneToBegin (sym more.kept) works.begun;
            posted = subst (λ m. HasNoneToPost m outlet) (sym more.kept) works.posted;
            drained = subst HasNoneToDrain (sym more.kept) works.drained;
            pushed = offered_once again held_back s2 s3 works.pushed was more;
          }

pub last_still : (P : Type 0) (before moved : Bool) → IfStill (Ok moved) P → IfStill (Ok (before || moved)) P
last_still P true moved rests = tt
last_still P false moved rests = rests

pub last_moved : (P : Type 0) (before moved : Bool) → moved ≡ true → IfStill (Ok (before || moved)) P
last_moved P true moved is = tt
last_moved P false true is = tt
last_moved P false false is = absurd (false≢true is)

-- ---- one call of a client

-- a lane that refused takes nothing more
pub refused_full : (old new : Outlet RunModel) (run back : RunModel) → Posts old new run (Err back) → HasNoPlace new
refused_full old new run back (same, is, kept, many, none) = by_either none
  where
    len : length (posted old) ≡ length (posted new)
    len = ap length (sym kept)

    by_either : (free_places new ≡ 0) ⊎ (length (posted old) ≡ 2 ^ 64 - 1) → HasNoPlace new
    by_either (inl free) = (subst (λ n. 1024 ≤ n) len many, inl free)
    by_either (inr last) = (subst (λ n. 1024 ≤ n) len many, inr (sym len ∙ last))

not_empty : (xs : List ℕ) (P : Type 0) → ((xs ≡ [] → ⊥) → P) → (xs ≡ []) ⊎ P
not_empty [] P f = inl refl
not_empty (x ∷ xs) P f = inr (f (λ e. cc))

empty_by_length : (xs : List ℕ) → 0 ≡ length xs → xs ≡ []
empty_by_length [] e = refl
empty_by_length (x ∷ xs) e = absurd (omega (arith, e))

module _ {C : Type 0} (t : ClientModel C) where
  pub drain_none : (session : SessionModel) (unpushed : List ℕ) (n : ℕ) → DrainOutcome most_drained t.session t.unpushed (Ok n) session unpushed
      → IfStill (Ok (nat_lt 0 n)) (DrainsNone t (record t { session = session; unpushed = unpushed }))
  drain_none session unpushed n drains = if_still (nat_lt 0 n) (λ none.
      let was = drained_by t.session session t.unpushed unpushed n (none_of n none) drains in
      record {
        kept = λ i. record t { session = was.2 i; unpushed = was.1 i };
        drained = λ here empty. ap output was.2 ∙ was.0;
      })

  pub undrained : (may : Bool) → (t.gone ≡ false → t.unpushed ≡ [] → may ≡ true) → may ≡ false → DrainsNone t t
  undrained may is not_so = record { kept = refl; drained = λ here empty. absurd (false≢true (sym not_so ∙ is here empty)) }

  -- nothing is drained behind bytes that wait
  pub drains_held : (session : SessionModel) (unpushed : List ℕ) → t.unpushed ≢ [] → session ≡ t.session → unpushed ≡ t.unpushed
      → DrainsNone t (record t { session = session; unpushed = unpushed })
  drains_held session unpushed some same kept = record {
    kept = λ i. record t { session = same i; unpushed = kept i };
    drained = λ here empty. absurd (some (sym kept ∙ empty));
  }

  pub fed_still : (session : SessionModel) (unfed : List ℕ) (n : ℕ) → FeedOutcome t.session t.unfed (Ok n) session → unfed ≡ drop n t.unfed
      → IfStill (Ok (nat_lt 0 n)) (FeedsNone t (record t { session = session; unfed = unfed }))
  fed_still session unfed n feeds left = if_still (nat_lt 0 n) (λ none.
      let was = fed_none t.session session t.unfed n (none_of n none) feeds in
      let same : unfed ≡ t.unfed = left ∙ ap (λ k. drop k t.unfed) (none_of n none) in
      record {
        kept = λ i. record t { session = was.0 i; unfed = same i };
        fed = subst (λ u. (u ≡ []) ⊎ TakesNoMore session) (sym same) was.1;
      })

  pub feed_fault : (session : SessionModel) (unfed : List ℕ) (why : _) → FaultedBy why t.session.closing → session ≡ t.session → unfed ≡ t.unfed
      → FeedsNone t (record t { session = session; unfed = unfed })
  feed_fault session unfed why faulted same left =
      let was = fed_fault t.session session t.unfed why faulted same in
      record {
        kept = λ i. record t { session = same i; unfed = left i };
        fed = subst (λ u. (u ≡ []) ⊎ TakesNoMore session) (sym left) was.1;
      }

  feed_on : (session : SessionModel) → (TakesNoMore t.session → TakesNoMore session) → HasNoneToFeed t → HasNoneToFeed (record t { session = session })
  feed_on session on (inl none) = inl none
  feed_on session on (inr full) = inr (on full)

  pub reads_none : (session : SessionModel) (given : Result Bool SessionFault) (result : Result Bool NoMemory) → result ≡ read_answer given → ReadOutcome t.session given session
      → IfStill result (ReadsNone t (record t { session = session }))
  reads_none session given (Ok true) is reads = tt
  reads_none session given (Ok false) is reads =
      let was = read_none t.session session given (Ok false) is reads in
      record { kept = refl; read = was.0; fed = feed_on session was.1 }
  reads_none session given (Err refused) is reads = tt

  pub begins_waiting : t.commands.fresh ≢ [] → BeginsNone t t
  begins_waiting some = record { kept = refl; begun = λ here none i may. absurd (some none) }

  pub begins_held : ((i : ℕ) → MayPost t.session.stages i → MayBeHeld t.session i) → BeginsNone t t
  begins_held held = record { kept = refl; begun = λ here waits. held }

  pub begins_none : (session : SessionModel) (commands : CommandsModel) (result : Result Bool NoMemory) → BeginOutcome t.commands t.session result commands session
      → IfStill result (BeginsNone t (record t { session = session; commands = commands }))
  begins_none session commands (Ok true) begins = tt
  begins_none session commands (Ok false) ((none, same), kept) = record {
    kept = λ i. record t { session = same i; commands = kept i };
    begun = λ here waits i may. absurd (none i (subst (λ (s : SessionModel). MayPost s.stages i) same may));
  }
  begins_none session commands (Err refused) begins = tt

  pub drop_none : (commands : CommandsModel) (was : Bool) → Drops t.commands was commands → was ≡ false → (record t { commands = commands } ≡ t) × (commands.fresh ≡ [])
  drop_none commands true drops not_so = absurd (false≢true (sym not_so))
  drop_none commands false (none, same) not_so = ((λ i. record t { commands = same i }), ap (λ (m : CommandsModel). m.fresh) same ∙ none)

  pub posts_nothing : (commands : CommandsModel) (o o' : Outlet RunModel) (v v' : ViewModel) (result : Result Bool NoMemory) → t.gone ≡ false → PostsFreshResult t.commands o v result commands o' v'
      → IfStill result (t.commands.fresh ≢ [] → HasNoPlace o') → IfStill result (PostsNone t (record t { commands = commands }) o')
  posts_nothing commands o o' v v' (Ok true) here posts full = tt
  posts_nothing commands o o' v v' (Ok false) here (same, slot, tries) full = record {
    kept = λ i. record t { commands = same i };
    posted = λ some. (here, full (λ none. some (ap (λ (m : CommandsModel). m.fresh) same ∙ none)));
  }
  posts_nothing commands o o' v v' (Err refused) here posts full = tt

  module _ (takes_none : C → Type 0) where
    pub unoffered : (may : Bool) → ((may ≡ true) ↔ ((t.gone ≡ false) × (t.unpushed ≡ [] → ⊥))) → may ≡ false → PushesNone takes_none t t
    unoffered may is not_so = record {
      kept = refl;
      unasked = λ none. refl;
      pushed = λ here. not_empty t.unpushed (takes_none t.port) (λ some. absurd (false≢true (sym not_so ∙ is.1 (here, some))));
    }

    pub push_bytes : (port : C) (unpushed : List ℕ) (n : ℕ) → (t.unpushed ≡ [] → ⊥) → unpushed ≡ drop n t.unpushed → (n ≡ 0 → takes_none port)
        → IfStill (Ok (nat_lt 0 n)) (PushesNone takes_none t (record t { port = port; unpushed = unpushed }))
    push_bytes port unpushed n some left takes = if_still (nat_lt 0 n) (λ none.
        let same : unpushed ≡ t.unpushed = left ∙ ap (λ k. drop k t.unpushed) (none_of n none) in
        record {
          kept = λ i. record t { port = port; unpushed = same i };
          unasked = λ empty. absurd (some empty);
          pushed = λ here. inr (takes (none_of n none));
        })

    pub push_nothing : (port : C) → (t.unpushed ≡ [] → ⊥) → takes_none port → PushesNone takes_none t (record t { port = port })
    push_nothing port some takes = record { kept = refl; unasked = λ empty. absurd (some empty); pushed = λ here. inr takes }

  module _ (gives_none : C → Type 0) (held_back : Bool) where
    pub unasked : (may : Bool) → ((may ≡ true) ↔ ((held_back ≡ false) × (t.gone ≡ false) × (t.unfed ≡ []))) → may ≡ false → PullsNone gives_none held_back t t
    unasked may is not_so = record {
      kept = refl;
      unasked = λ held. refl;
      asked = λ free here none. absurd (false≢true (sym not_so ∙ is.1 (free, here, none)));
    }

    pub pull_bytes : (port : C) (unfed : List ℕ) (n : ℕ) → (held_back ≡ false) × (t.gone ≡ false) × (t.unfed ≡ []) → n ≡ length unfed → (n ≡ 0 → gives_none port)
        → IfStill (Ok (nat_lt 0 n)) (PullsNone gives_none held_back t (record t { port = port; unfed = unfed }))
    pull_bytes port unfed n (free, here, none) len gives = if_still (nat_lt 0 n) (λ still.
        let same : unfed ≡ t.unfed = empty_by_length unfed (sym (none_of n still) ∙ len) ∙ sym none in
        record {
          kept = λ i. record t { port = port; unfed = same i };
          unasked = λ held. absurd (false≢true (sym free ∙ held));
          asked = λ f h u. gives (none_of n still);
        })

    pub pull_nothing : (port : C) (unfed : List ℕ) → (held_back ≡ false) × (t.gone ≡ false) × (t.unfed ≡ []) → unfed ≡ [] → gives_none port
        → PullsNone gives_none held_back t (record t { port = port; unfed = unfed })
    pull_nothing port unfed (free, here, none) empty gives =
        let same : unfed ≡ t.unfed = empty ∙ sym none in
        record {
          kept = λ i. record t { port = port; unfed = same i };
          unasked = λ held. absurd (false≢true (sym free ∙ held));
          asked = λ f h u. gives;
        }

  pub unfed_none : length t.unfed ≡ 0 → FeedsNone t t
  unfed_none none = record { kept = refl; fed = inl (empty_by_length t.unfed (sym none)) }

-- ---- what a command wants

pub not_awaiting : (stage : Stage) → Await ≡ want_at stage → WantsPost stage → ⊥
not_awaiting (Wants named) is wants = cc
not_awaiting (WantsAsking node) is wants = cc
not_awaiting Awaits is wants = wants
not_awaiting (Over end) is wants = wants

pub not_finished : (stage : Stage) → Finished ≡ want_at stage → WantsPost stage → ⊥
not_finished (Wants named) is wants = cc
not_finished (WantsAsking node) is wants = cc
not_finished Awaits is wants = wants
not_finished (Over end) is wants = wants

pub undone_by : (done : Bool) → not done ≡ true → done ≡ false
undone_by true e = absurd (false≢true e)
undone_by false e = refl

pub done_by : (done : Bool) → not done ≡ false → done ≡ true
done_by true e = refl
done_by false e = absurd (false≢true (sym e))

-- nothing was sent, and then no work moved anything
pub sent_works : {C : Type 0} (takes_none : C → Type 0) (s0 s1 s2 : ClientModel C) (sent outlet : Outlet RunModel)
    → SendsNone s0 s1 sent → WorksNone takes_none s1 s2 outlet → WorksNone takes_none s0 s2 outlet
sent_works takes_none s0 s1 s2 sent outlet sends works = subst (λ m. WorksNone takes_none m s2 outlet) sends.kept works
