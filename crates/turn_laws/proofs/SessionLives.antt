-- The life of a client's session, by what the client sees: the bytes that came from it, the ends that it was told, and the bytes that went to it.
use Rattle.std.proofs.Common.{◌≡◌, ◌⊎◌, inl, inr, ◌++◌, ◌∷◌, [], ◌||◌, List, ℕ, refl, ap, sym, subst, ◌∙◌, append_assoc, Bool, true, false, ◌<◌, ◌+◌, arith}
use Rattle.std.specs.List.{FoldsTo, flat_map, list_any}
use Rattle.std.proofs.Math.Bool.{or-false}
use Rattle.std.proofs.lemmas.Grind.{flat_map-append}
use Rattle.std.proofs.lemmas.List.{append-nil}
use Rattle.std.proofs.lemmas.List.Folds.{list_any-append}
use Rattle.resp_wire.specs.LimitsModel.{full}
use Rattle.key_split.specs.declared.travel.Ticket.{Ticket}
use Rattle.key_split.specs.declared.travel.Ended.{Ended}
use Rattle.session_order.specs.SessionModel.{SessionModel}
use Rattle.resp_wire.specs.declared.value.Value.{Value}
use mathlib.Core.List.{IsPrefix}
use Rattle.std.specs.Prelude.{map}
use Rattle.session_order.specs.PendingReply.{owed_for}
use Rattle.session_order.specs.declared.closing.Broken.{Broken}
use Rattle.session_order.specs.declared.closing.Closing.{Closing}
use Rattle.session_order.specs.declared.closing.Closing.TheVariants.{Open, Quit, Faulted}
use Rattle.session_order.specs.Replies.{bytes_of, last_line, lines_owed, output, parts_of, replies, spelling}
use Rattle.session_order.specs.Steps.{IsFinished}
use Rattle.session_order.specs.Output.{end_of, output_of, replies_told}
use Rattle.session_order.specs.Life.{SessionCall, SessionDoes, fresh, read_by, told_by, drained_by, met_fault, DrainsOutput}
use Rattle.turn_laws.specs.Pipelines.{BeginsWithFault, Pipeline, ends_it, requests_of}
use Rattle.turn_laws.proofs.OutputFronts.{IsFront, IsWhole, front-of}
use Rattle.turn_laws.proofs.RequestsRead.{AreCounted, HasRead}
use Rattle.turn_laws.proofs.SessionKeeps.{ClosedBy, IsFaulted, keeps}
use Rattle.turn_laws.proofs.DrainedReplies.{AreKnown, DrainedBy, IsLine, agree, drained-on, split-known}
use Rattle.turn_laws.proofs.SessionTells.{HasTold, tells as told-on}

-- The calls that led to the session. What they drained went out, or waits to be pushed.
pub record Lived (came : List ℕ) (ends : List (Ticket × Ended)) (went : List ℕ) (session : SessionModel) (unfed unpushed : List ℕ) : Type 0 where
  pub worker : ℕ
  pub number : ℕ
  pub calls : List SessionCall
  pub lives : FoldsTo SessionDoes (fresh worker number full) calls session
  pub told : flat_map told_by calls ≡ ends
  pub drained : flat_map drained_by calls ≡ went ++ unpushed
  pub counted : AreCounted (flat_map read_by calls) session
  pub held : HasTold ends session
  pub met : list_any met_fault calls ≡ true → IsFaulted session.closing
  pub closed : ClosedBy (flat_map read_by calls) (list_any met_fault calls) session.closing
  pub replied : DrainedBy ends (flat_map read_by calls) (flat_map drained_by calls) session
  pub read : HasRead came (flat_map read_by calls) session.incoming session.closing unfed

pub folds-push : {S X : Type 0} (does : S → X → S → Type 0) (xs : List X) (x : X) (a b c : S) → FoldsTo does a xs b → does b x c → FoldsTo does a (xs ++ x ∷ []) c
folds-push {S} does [] x a b c same last = (c, subst (λ (s : S). does s x c) (sym same) last, refl)
folds-push does (y ∷ xs) x a b c (mid, first, rest) last = (mid, first, folds-push does xs x mid b c rest last)

pub flat-push : {X A : Type 0} (f : X → List A) (xs : List X) (x : X) → flat_map f (xs ++ x ∷ []) ≡ flat_map f xs ++ f x
flat-push f xs x = flat_map-append f xs (x ∷ []) ∙ ap (λ last. flat_map f xs ++ last) (append-nil (f x))

or-cases : (a b : Bool) → (a || b) ≡ true → (a ≡ true) ⊎ (b ≡ true)
or-cases true b e = inl refl
or-cases false b e = inr e

any-push : {X : Type 0} (p : X → Bool) (xs : List X) (x : X) → list_any p (xs ++ x ∷ []) ≡ (list_any p xs || p x)
any-push p xs x = list_any-append p xs (x ∷ []) ∙ ap (λ b. list_any p xs || b) (or-false (p x))

any-last : {X : Type 0} (p : X → Bool) (xs : List X) (x : X) → list_any p (xs ++ x ∷ []) ≡ true → (list_any p xs ≡ true) ⊎ (p x ≡ true)
any-last p xs x e = or-cases (list_any p xs) (p x) (sym (any-push p xs x) ∙ e)

-- one more call of the session
pub one-call : (came : List ℕ) (ends ends' : List (Ticket × Ended)) (went : List ℕ) (old new : SessionModel) (unfed unfed' unpushed unpushed' : List ℕ) (call : SessionCall)
    → (l : Lived came ends went old unfed unpushed) → SessionDoes old call new → ends' ≡ ends ++ told_by call → unpushed' ≡ unpushed ++ drained_by call
    → ((read : List (List (List ℕ))) → AreCounted read old → HasRead came read old.incoming old.closing unfed → HasRead came (read ++ read_by call) new.incoming new.closing unfed')
    → Lived came ends' went new unfed' unpushed'
one-call came ends ends' went old new unfed unfed' unpushed unpushed' call l does tells drains reads = record {
  worker = l.worker;
  number = l.number;
  calls = l.calls ++ call ∷ [];
  lives = folds-push SessionDoes l.calls call (fresh l.worker l.number full) old new l.lives does;
  told = flat-push told_by l.calls call ∙ ap (λ es. es ++ told_by call) l.told ∙ sym tells;
  drained = flat-push drained_by l.calls call ∙ ap (λ bytes. bytes ++ drained_by call) l.drained ∙ append_assoc went unpushed (drained_by call) ∙ ap (λ bytes. went ++ bytes) (sym drains);
  counted = subst (λ rs. AreCounted rs new) (sym (flat-push read_by l.calls call)) ((keeps (flat_map read_by l.calls) call old new does).counted l.counted);
  held = subst (λ es. HasTold es new) (sym tells) (told-on ends call old new does l.held);
  met = λ met. elim (any-last met_fault l.calls call met) [
    | inl before ↦ (keeps (flat_map read_by l.calls) call old new does).stays (l.met before)
    | inr now ↦ (keeps (flat_map read_by l.calls) call old new does).meets now
  ];
  closed = subst (λ b. ClosedBy (flat_map read_by (l.calls ++ call ∷ [])) b new.closing) (sym (any-push met_fault l.calls call))
      (subst (λ rs. ClosedBy rs (list_any met_fault l.calls || met_fault call) new.closing) (sym (flat-push read_by l.calls call))
      ((keeps (flat_map read_by l.calls) call old new does).closes (list_any met_fault l.calls) l.closed));
  replied = subst (λ es. DrainedBy es (flat_map read_by (l.calls ++ call ∷ [])) (flat_map drained_by (l.calls ++ call ∷ [])) new) (sym tells)
      (subst (λ rs. DrainedBy (ends ++ told_by call) rs (flat_map drained_by (l.calls ++ call ∷ [])) new) (sym (flat-push read_by l.calls call))
      (subst (λ bs. DrainedBy (ends ++ told_by call) (flat_map read_by l.calls ++ read_by call) bs new) (sym (flat-push drained_by l.calls call))
      (drained-on ends (flat_map read_by l.calls) (flat_map drained_by l.calls) call old new does l.held l.counted l.replied)));
  read = subst (λ rs. HasRead came rs new.incoming new.closing unfed') (sym (flat-push read_by l.calls call)) (reads (flat_map read_by l.calls) l.counted l.read);
}

-- ---- what was written

-- the pipeline that was read
abbrev pipeline : (came : List ℕ) (ends : List (Ticket × Ended)) (went : List ℕ) (session : SessionModel) (unfed unpushed : List ℕ) → Lived came ends went session unfed unpushed → Pipeline came
pipeline came ends went session unfed unpushed l = record {
  values = (l.read).values;
  text = (l.read).text;
  rest = (l.read).rest;
  spelled = (l.read).spelled;
  are = (l.read).are;
  faulted = list_any met_fault l.calls;
  fault = λ met. let (why, is) = l.met met in subst (λ rs. BeginsWithFault rs (l.read).rest) (l.read).read_is ((l.read).fault why is);
}

-- of its output, what waits to be pushed, and then what is next to be drained, stands behind what went out
balance : DrainsOutput → (came : List ℕ) (ends : List (Ticket × Ended)) (went : List ℕ) (session : SessionModel) (unfed unpushed : List ℕ) (l : Lived came ends went session unfed unpushed)
    → went ++ (unpushed ++ output session) ≡ output_of (requests_of (l.read).values) ends (list_any met_fault l.calls)
balance law came ends went session unfed unpushed l =
    sym (append_assoc went unpushed (output session)) ∙ ap (λ bytes. bytes ++ output session) (sym l.drained) ∙ law.balance l.worker l.number full l.calls session l.lives
    ∙ (λ i. output_of ((l.read).read_is i) (l.told i) (list_any met_fault l.calls))

-- so that is a front of the output,
pub front-written : DrainsOutput → (came : List ℕ) (ends : List (Ticket × Ended)) (went : List ℕ) (session : SessionModel) (unfed unpushed : List ℕ) → Lived came ends went session unfed unpushed
    → IsFront came ends went
front-written law came ends went session unfed unpushed l =
    (pipeline came ends went session unfed unpushed l, (unpushed ++ output session, balance law came ends went session unfed unpushed l))

none-next : (session : SessionModel) → IsFinished session → output session ≡ []
none-next session (closed, none, no-line) =
    (λ i. bytes_of (replies (none i) session.stages session.ends (last_line session.closing))) ∙ ap bytes_of no-line

-- a session that is finished is closed
ended : (read : List (List (List ℕ))) (faulted : Bool) (closing : Closing) → (closing ≡ Open → ⊥) → ClosedBy read faulted closing → (list_any ends_it read ≡ true) ⊎ (faulted ≡ true)
ended read faulted Open closed c = absurd (closed refl)
ended read faulted Quit closed c = inl c
ended read faulted (Faulted why owed) closed c = inr c

-- and all of it where the session is finished and nothing waits to be pushed
pub whole-written : DrainsOutput → (came : List ℕ) (ends : List (Ticket × Ended)) (went : List ℕ) (session : SessionModel) (unfed unpushed : List ℕ) → IsFinished session → unpushed ≡ []
    → Lived came ends went session unfed unpushed → IsWhole came ends went
whole-written law came ends went session unfed unpushed finished none l =
    let nothing : unpushed ++ output session ≡ [] = ap (λ bytes. bytes ++ output session) none ∙ none-next session finished in (
      pipeline came ends went session unfed unpushed l,
      subst (λ rs. (list_any ends_it rs ≡ true) ⊎ (list_any met_fault l.calls ≡ true)) (l.read).read_is
          (ended (flat_map read_by l.calls) (list_any met_fault l.calls) session.closing finished.0 l.closed),
      sym (append-nil went) ∙ ap (λ bytes. went ++ bytes) (sym nothing) ∙ balance law came ends went session unfed unpushed l,
    )

-- ---- by other words for what was told

same-line : (read : List (List (List ℕ))) (faulted : Bool) (closing : Closing) (why : Broken) → closing ≡ Faulted why false → ClosedBy read faulted closing → faulted ≡ true
same-line read faulted closing why is c = let at : ClosedBy read faulted (Faulted why false) = subst (ClosedBy read faulted) is c in at

-- what was drained is a front of the replies by a list that tells the same of the parts that were drained
replies-front : (a ends : List (Ticket × Ended)) (read : List (List (List ℕ))) (drained : List ℕ) (faulted : Bool) (held : SessionModel) → ClosedBy read faulted held.closing
    → ((number : ℕ) → number < held.first → end_of a number ≡ end_of ends number) → (d : DrainedBy ends read drained held) → IsLine d.line held
    → IsPrefix drained (bytes_of (replies_told a 0 (map owed_for read) (lines_owed faulted)))
replies-front a ends read drained faulted held closed same d line = by line
  where
    first : parts_of d.gone ≡ held.first
    first = d.parts

    known : AreKnown a 0 (parts_of d.gone)
    known number low less = let its = d.known number low less in (its.0, same number (omega (arith, less, first)) ∙ its.1)

    ours : replies_told ends 0 d.gone d.line ≡ replies_told a 0 d.gone d.line
    ours = agree ends a 0 d.gone d.line (λ number low less. sym (same number (omega (arith, less, first))))

    whole : (values : List Value) → IsPrefix (replies_told a 0 d.gone d.line) values → IsPrefix drained (bytes_of values)
    whole values (more, is) =
        (bytes_of more, ap (λ bs. bs ++ bytes_of more) (d.bytes ∙ ap bytes_of ours) ∙ sym (flat_map-append spelling (replies_told a 0 d.gone d.line) more) ∙ ap bytes_of is)

    by : IsLine d.line held → IsPrefix drained (bytes_of (replies_told a 0 (map owed_for read) (lines_owed faulted)))
    by (inl none) = whole (replies_told a 0 (map owed_for read) (lines_owed faulted)) (
      replies_told a (0 + parts_of d.gone) held.requests (lines_owed faulted),
      ap (λ line. replies_told a 0 d.gone line ++ replies_told a (0 + parts_of d.gone) held.requests (lines_owed faulted)) none
          ∙ sym (split-known a 0 d.gone held.requests (lines_owed faulted) known) ∙ ap (λ rs. replies_told a 0 rs (lines_owed faulted)) (sym d.owed),
    )
    by (inr (is, none, (why, broke))) = whole (replies_told a 0 (map owed_for read) (lines_owed faulted)) (
      [],
      append-nil (replies_told a 0 d.gone d.line) ∙ ap (replies_told a 0 d.gone) (is ∙ ap lines_owed (sym (same-line read faulted held.closing why broke closed)))
          ∙ ap (λ rs. replies_told a 0 rs (lines_owed faulted)) (sym (append-nil d.gone) ∙ ap (λ rs. d.gone ++ rs) (sym none) ∙ sym d.owed),
    )

-- so it is a front of the output by that list
pub other-front : DrainsOutput → (a : List (Ticket × Ended)) (came : List ℕ) (ends : List (Ticket × Ended)) (went : List ℕ) (session : SessionModel) (unfed unpushed : List ℕ)
    → ((number : ℕ) → number < session.first → end_of a number ≡ end_of ends number) → Lived came ends went session unfed unpushed → IsFront came a went
other-front law a came ends went session unfed unpushed same l =
    let read = flat_map read_by l.calls in
    let faulted = list_any met_fault l.calls in
    let quits = law.quit_is_last l.worker l.number full l.calls session l.lives in
    let out : bytes_of (replies_told a 0 (map owed_for read) (lines_owed faulted)) ≡ output_of (requests_of (l.read).values) a faulted =
    ap (λ rs. bytes_of (replies_told a 0 (map owed_for rs) (lines_owed faulted))) (sym quits) ∙ ap (λ rs. output_of rs a faulted) (l.read).read_is in (
      pipeline came ends went session unfed unpushed l,
      subst (λ bs. IsPrefix went bs) out (front-of went (flat_map drained_by l.calls) (bytes_of (replies_told a 0 (map owed_for read) (lines_owed faulted))) (unpushed, sym l.drained)
          (replies-front a ends read (flat_map drained_by l.calls) faulted session l.closed same l.replied (l.replied).lined)),
    )
