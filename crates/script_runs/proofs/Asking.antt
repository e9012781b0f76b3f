-- What bytes ask for is one list of requests.
use Rattle.std.proofs.Common.{◌≡◌, ◌+◌, ◌^◌, ◌∷◌, [], List, ℕ, Bool, true, false, length, refl, sym, ap, subst, ◌∙◌, cond}
use Rattle.std.specs.Prelude.{nat_le}
use Rattle.resp_wire.specs.LimitsModel.{full}
use Rattle.resp_wire.specs.FirstValue.{Front, Whole, Partial, Faulty, front}
use Rattle.session_order.specs.PendingReply.{plan_for, ends_session}
use Rattle.session_order.specs.Output.{until_quit}
use Rattle.session_order.specs.Requests.{RequestKindModel, Words, Skipped, Refused, asked_of}
use Rattle.script_runs.specs.Requests.{Request, Requested, First, Ends, Skips, Asks, Quits, AsksFor, ended, skipped, asked, quit, before, first_as, first_of, first_in, parts_for}
use Rattle.script_runs.specs.Run.{AskFor}

-- what bytes ask for that have this first
abbrev pub Follows : ℕ → First → Requested → Type 0
Follows n (Ends faulted) a = a ≡ record { requests = []; faulted = faulted }
Follows n (Skips rest) a = AsksFor n rest a
Follows n (Asks words rest) a = (later : Requested) × AsksFor (n + length (parts_for words)) rest later × (a ≡ before words later)
Follows n (Quits words) a = a ≡ record { requests = words ∷ []; faulted = false }

inverted : (n : ℕ) (bytes : List ℕ) (a : Requested) → AsksFor n bytes a → Follows n (first_in n bytes) a
inverted n bytes a (ended _ _ faulted is) =
    let P : First → Type 0 = λ f. Follows n f (record { requests = []; faulted = faulted }) in subst P (sym is) refl
inverted n bytes a (skipped _ _ rest later is d) = let P : First → Type 0 = λ f. Follows n f a in subst P (sym is) d
inverted n bytes a (asked _ _ words rest later is d) =
    let P : First → Type 0 = λ f. Follows n f (before words later) in subst P (sym is) (later, d, refl)
inverted n bytes a (quit _ _ words is) =
    let P : First → Type 0 = λ f. Follows n f (record { requests = words ∷ []; faulted = false }) in subst P (sym is) refl

pub one-asking : (n : ℕ) (bytes : List ℕ) (a b : Requested) → AsksFor n bytes a → AsksFor n bytes b → a ≡ b
one-asking n bytes a b (ended _ _ faulted is) other =
    let P : First → Type 0 = λ f. Follows n f b in sym (subst P is (inverted n bytes b other))
one-asking n bytes a b (skipped _ _ rest later is d) other =
    let P : First → Type 0 = λ f. Follows n f b in one-asking n rest a b d (subst P is (inverted n bytes b other))
one-asking n bytes a b (asked _ _ words rest later is d) other =
    let P : First → Type 0 = λ f. Follows n f b in
    let w : Follows n (Asks words rest) b = subst P is (inverted n bytes b other) in
    ap (before words) (one-asking (n + length (parts_for words)) rest later w.0 d w.1) ∙ sym w.2
one-asking n bytes a b (quit _ _ words is) other =
    let P : First → Type 0 = λ f. Follows n f b in sym (subst P is (inverted n bytes b other))

pub all-asked : (scripts : List (List ℕ)) (a b : List Requested) → AskFor scripts a → AskFor scripts b → a ≡ b
all-asked [] [] [] x y = refl
all-asked [] [] (w ∷ ws) x y = absurd y
all-asked [] (v ∷ vs) b x y = absurd x
all-asked (s ∷ ss) [] b x y = absurd x
all-asked (s ∷ ss) (v ∷ vs) [] x y = absurd y
all-asked (s ∷ ss) (v ∷ vs) (w ∷ ws) x y =
    let one = one-asking 0 s v w x.0 y.0 in
    let more = all-asked ss vs ws x.1 y.1 in
    λ i. one i ∷ more i

-- ---- a request that is followed by others does not end the session

branch : (b c : Bool) (ws words : Request) (after rest : List ℕ) → ends_session (plan_for ws) ≡ b
    → cond b (Quits ws) (cond c (Asks ws after) (Ends true)) ≡ Asks words rest → ends_session (plan_for words) ≡ false
branch true c ws words after rest is e = absurd (cc)
branch false true ws words after rest is e = let same : ws ≡ words = cc in ap (λ (w : Request). ends_session (plan_for w)) (sym same) ∙ is
branch false false ws words after rest is e = absurd (cc)

on-as : (n : ℕ) (what : RequestKindModel) (words : Request) (after rest : List ℕ) → first_as n what after ≡ Asks words rest → ends_session (plan_for words) ≡ false
on-as n (Words ws) words after rest e = branch (ends_session (plan_for ws)) (nat_le (n + length (parts_for ws)) (2 ^ 48)) ws words after rest refl e
on-as n Skipped words after rest e = absurd (cc)
on-as n Refused words after rest e = absurd (cc)

on : (n : ℕ) (f : Front) (words : Request) (rest : List ℕ) → first_of n f ≡ Asks words rest → ends_session (plan_for words) ≡ false
on n (Whole value after) words rest e = on-as n (asked_of value) words after rest e
on n Partial words rest e = absurd (cc)
on n (Faulty fault) words rest e = absurd (cc)

goes-on : (n : ℕ) (bytes : List ℕ) (words : Request) (rest : List ℕ) → first_in n bytes ≡ Asks words rest → ends_session (plan_for words) ≡ false
unfolding first_in
goes-on n bytes words rest e = on n (front full bytes) words rest e

either-way : (b : Bool) → cond b [] [] ≡ (let none : List Request = [] in none)
either-way true = refl
either-way false = refl

-- only the last request ends the session
pub quit-is-last : (n : ℕ) (bytes : List ℕ) (a : Requested) → AsksFor n bytes a → until_quit a.requests ≡ a.requests
quit-is-last n bytes a (ended _ _ faulted is) = refl
quit-is-last n bytes a (skipped _ _ rest later is d) = quit-is-last n rest a d
quit-is-last n bytes a (asked _ _ words rest later is d) =
    ap (λ (b : Bool). words ∷ cond b [] (until_quit later.requests)) (goes-on n bytes words rest is)
    ∙ ap (λ (rs : List Request). words ∷ rs) (quit-is-last (n + length (parts_for words)) rest later d)
quit-is-last n bytes a (quit _ _ words is) = ap (λ (rs : List Request). words ∷ rs) (either-way (ends_session (plan_for words)))
