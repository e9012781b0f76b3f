-- The text of replies, line by line.
use Rattle.std.proofs.Common.{◌≡◌, ◌<◌, ◌+◌, ◌++◌, ◌∷◌, [], List, ℕ, suc, Some, None, Ok, Err, length, drop, drop-cons, get_or, append_assoc, refl, sym, ap, subst, ◌∙◌, arith}
use Rattle.std.proofs.lemmas.List.{append-nil, drop_all}
use Rattle.resp_wire.specs.Data.{Data}
use Rattle.resp_wire.specs.FirstValue as wire
use Rattle.resp_wire.specs.ReaderModel.{ReaderModel}
use Rattle.resp_wire.specs.Laws.{FrontIsWhole}
use Rattle.resp_wire.specs.Seen.{data_of}
use Rattle.resp_wire.specs.declared.fault.WireFault.{WireFault}
use Rattle.resp_wire.specs.declared.fault.WireFault.TheVariants as fault
use Rattle.resp_wire.specs.declared.value.Value.{Value}
use Rattle.script_runs.specs.ReplyText.{reply_line, reply_lines, Holds, over, value, RepliesText, Takes}
use Rattle.script_runs.specs.Wanted.{IsOpen}
use Rattle.script_runs.proofs.Fronts.{faulty, full-front, goes-on}

-- ---- one value off a reader

pub took : (old new : ReaderModel) (found : Value) → FrontIsWhole → IsOpen old → wire.ReaderTakes old (Ok (Some found)) new → Takes old (Some found) new
took old new found law is_open takes = let goes = goes-on old new found law is_open takes in (goes.0, full-front old is_open ∙ takes.1, goes.1)

pub none-whole : (old new : ReaderModel) → IsOpen old → wire.ReaderTakes old (Ok None) new → Takes old None new
none-whole old new is_open takes = λ v rest is. absurd (let no-value : wire.Partial ≡ wire.Whole v rest = sym (full-front old is_open ∙ takes.1) ∙ is in cc)

pub fault-first : (old new : ReaderModel) (found : WireFault) → (found ≡ fault.NoMemory → ⊥) → IsOpen old → wire.ReaderTakes old (Err found) new → Takes old None new
fault-first old new found other is_open takes =
    λ v rest is. absurd (let no-value : wire.Faulty found ≡ wire.Whole v rest = sym (full-front old is_open ∙ faulty old new found other is_open.1 takes) ∙ is in cc)

-- ---- one client

-- whatever values stand in the bytes that are left: their lines behind what was written are those of all
abbrev pub LinesReach : ℕ → List ℕ → List ℕ → ℕ → List ℕ → List ℕ → Type 0
LinesReach client bytes old number unread out =
    (values : List Data) → Holds unread values → (all : List Data) × Holds bytes all × (out ++ reply_lines client number values ≡ old ++ reply_lines client 0 all)

pub lines-first : (client : ℕ) (bytes old unread : List ℕ) → unread ≡ bytes → LinesReach client bytes old 0 unread old
lines-first client bytes old unread is = λ values held. (let P : List ℕ → Type 0 = λ b. Holds b values in (values, subst P is held, refl))

pub lines-next : (client number : ℕ) (bytes old out out' : List ℕ) (before after : ReaderModel) (found : Value) → Takes before (Some found) after
    → out' ≡ out ++ reply_line client number (data_of found) → LinesReach client bytes old number before.unread out → LinesReach client bytes old (number + 1) after.unread out'
lines-next client number bytes old out out' before after found takes wrote reach =
    λ values held.
    (let r = reach (data_of found ∷ values) (value before.unread after.unread (data_of found) values takes.1 held) in (
      r.0,
      r.1,
      ap (λ (o : List ℕ). o ++ reply_lines client (number + 1) values) wrote
          ∙ append_assoc out (reply_line client number (data_of found)) (reply_lines client (number + 1) values) ∙ r.2,
    ))

pub lines-all : (client number : ℕ) (bytes old out : List ℕ) (before after : ReaderModel) → Takes before None after → LinesReach client bytes old number before.unread out
    → (values : List Data) × Holds bytes values × (out ≡ old ++ reply_lines client 0 values)
lines-all client number bytes old out before after takes reach = let r = reach [] (over before.unread takes) in (r.0, r.1, sym (append-nil out) ∙ r.2)

-- ---- all clients

abbrev pub TextReaches : List (List ℕ) → List ℕ → ℕ → List (List ℕ) → List ℕ → Type 0
TextReaches replies old client rest out = (text : List ℕ) → RepliesText client rest text → (all : List ℕ) × RepliesText 0 replies all × (out ++ text ≡ old ++ all)

pub text-first : (replies : List (List ℕ)) (old : List ℕ) → TextReaches replies old 0 replies old
text-first replies old = λ text is. (text, is, refl)

rest-of : (xs : List (List ℕ)) (n : ℕ) → n < length xs → (x : List ℕ) → x ≡ get_or xs n x → drop n xs ≡ x ∷ drop (n + 1) xs
rest-of xs n lt x is =
    drop-cons xs n x lt ∙ ap (λ (y : List ℕ). y ∷ drop (suc n) xs) (sym is) ∙ ap (λ (m : ℕ). x ∷ drop m xs) (let next : suc n ≡ n + 1 = omega arith in next)

pub text-next : (replies : List (List ℕ)) (client : ℕ) (old out out' bytes : List ℕ) → client < length replies → bytes ≡ get_or replies client bytes
    → (values : List Data) × Holds bytes values × (out' ≡ out ++ reply_lines client 0 values) → TextReaches replies old client (drop client replies) out
    → TextReaches replies old (client + 1) (drop (client + 1) replies) out'
text-next replies client old out out' bytes lt is wrote reach =
    λ text more.
    (let whole = reply_lines client 0 wrote.0 ++ text in
    let P : List (List ℕ) → Type 0 = λ rs. RepliesText client rs whole in
    let r = reach whole (subst P (sym (rest-of replies client lt bytes is)) (wrote.0, text, wrote.1, more, refl)) in
    (r.0, r.1, ap (λ (o : List ℕ). o ++ text) wrote.2 ∙ append_assoc out (reply_lines client 0 wrote.0) text ∙ r.2))

pub text-all : (replies : List (List ℕ)) (client : ℕ) (old out : List ℕ) → client ≡ length replies → TextReaches replies old client (drop client replies) out
    → (text : List ℕ) × RepliesText 0 replies text × (out ≡ old ++ text)
text-all replies client old out end reach =
    let P : List (List ℕ) → Type 0 = λ rs. RepliesText client rs [] in
    let r = reach [] (subst P (sym (drop_all client replies (omega (arith, end)))) refl) in
    (r.0, r.1, sym (append-nil out) ∙ r.2)
