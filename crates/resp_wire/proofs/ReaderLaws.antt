-- What a reader's scan means for the rest.
use Rattle.std.proofs.Common.{true, false, Bool, ◌≡◌, ◌≢◌, ℕ, ◌+◌, ◌-◌, ◌≤◌, List, [], ◌∷◌, ◌++◌, length, take, drop, Option, Some, None, Result, Ok, Err, refl, sym, ap, subst, ◌∙◌, arith, inr, inl, append_assoc}
use Rattle.std.proofs.lemmas.List.{append-nil, take_all, drop_at, drop-drop, length-append, length-drop}
use Rattle.resp_wire.specs.Data.{Data}
use Rattle.resp_wire.specs.LimitsModel.{LimitsModel}
use Rattle.resp_wire.specs.Reading.{Reading, whole, partial, faulty, value_at}
use Rattle.resp_wire.specs.Resume.{extent, resume, GoesOn}
use Rattle.resp_wire.specs.Places.{Finds}
use Rattle.resp_wire.specs.Stream.{ReaderAnswers}
use Rattle.resp_wire.specs.ReaderModel.{ReaderModel}
use Rattle.resp_wire.specs.FirstValue.{Feeds, ReaderTakes, front}
use Rattle.std.specs.Borrow.{Bor}
use Rattle.resp_wire.specs.Gives.{Builds}
use Rattle.resp_wire.specs.Seen.{data_of}
use Rattle.resp_wire.specs.Taken.{TakesOff, AnswersAndTakes}
use Rattle.resp_wire.proofs.PlaceLaws.{position_is}
use Rattle.resp_wire.specs.Faults.{FirstFault, unknown_kind, bare_lf, bare_cr, long_line, bad_integer, bad_bulk_length, bad_array_length, long_bulk, too_deep, too_many, no_end, inside}
use Rattle.resp_wire.specs.declared.value.Value.{Value}
use Rattle.resp_wire.specs.declared.fault.WireFault.TheVariants.{NoMemory, BadType, BadNumber, TooLong, TooMany, TooDeep, BadEnd}
use Rattle.resp_wire.specs.declared.fault.WireFault.{WireFault}
use Rattle.resp_wire.proofs.ResumeLaws.{resume_start, resume_nil}
use Rattle.resp_wire.proofs.FrontLaws.{reads_begins, partial_none, faulty_is_first, front_whole, front_partial, front_faulty}

-- ---- answers

abbrev pub input : LimitsModel → List ℕ → Option WireFault → ReaderModel
input l rest fault = record { bounds = l; unread = rest; fault = fault }

abbrev pub Gives : ReaderModel → Result (Option Value) WireFault → ReaderModel → Type 0
Gives old result new = AnswersAndTakes old result new

pub gave_none : (l : LimitsModel) (rest : List ℕ) (old new : ReaderModel) → input l rest None ≡ old → new ≡ input l rest None → value_at l l.depth rest ≡ partial → Gives old (Ok None) new
gave_none l rest old new e f v =
    let p = partial_none l rest v in
    let here : Gives (input l rest None) (Ok None) new = ((p.0, p.1, f), (refl, front_partial l rest v, f)) in
    subst (λ (s : ReaderModel). Gives s (Ok None) new) e here

pub gave_value : (l : LimitsModel) (rest left : List ℕ) (value : Value) (old new : ReaderModel) → input l rest None ≡ old → new ≡ input l left None → value_at l l.depth rest ≡ whole (data_of value) left → Gives old (Ok (Some value)) new
gave_value l rest left value old new e f v =
    let here : Gives (input l rest None) (Ok (Some value)) (input l left None) = ((reads_begins l rest left (data_of value) v, refl), (refl, front_whole l rest left (data_of value) v, refl)) in
    subst (λ (s : ReaderModel). Gives s (Ok (Some value)) new) e (subst (λ (s : ReaderModel). Gives (input l rest None) (Ok (Some value)) s) (sym f) here)

pub no_memory : (l : LimitsModel) (room : ℕ) (bytes : List ℕ) (f : WireFault) → FirstFault l room bytes f → f ≡ NoMemory → ⊥
no_memory l room bytes f (unknown_kind b more k e) p = cc
no_memory l room bytes f (bare_lf b text more k q h e) p = cc
no_memory l room bytes f (bare_cr b c text more k q h ne e) p = cc
no_memory l room bytes f (long_line b text more k q h e) p = cc
no_memory l room bytes f (bad_integer text more b e) p = cc
no_memory l room bytes f (bad_bulk_length text more b ne e) p = cc
no_memory l room bytes f (bad_array_length text more b ne e) p = cc
no_memory l room bytes f (long_bulk text more n b e h) p = cc
no_memory l room bytes f (too_deep text more n b e r) p = cc
no_memory l room bytes f (too_many text more n b e r h) p = cc
no_memory l room bytes f (no_end text body after b e h n) p = cc
no_memory l room bytes f (inside text before after n inner vs b e h r s few next) p = no_memory l inner after f next p

unfaulty : (l : LimitsModel) (rest : List ℕ) (new : ReaderModel) (f : WireFault) → new ≡ input l rest (Some f) → value_at l l.depth rest ≡ faulty f → Gives (input l rest None) (Err f) new
unfaulty l rest new NoMemory e v = absurd (no_memory l l.depth rest NoMemory (faulty_is_first l rest NoMemory v).1 refl)
unfaulty l rest new BadType e v = let p = faulty_is_first l rest BadType v in ((p.0, p.1, e), (inr (refl, front_faulty l rest BadType v), e))
unfaulty l rest new BadNumber e v = let p = faulty_is_first l rest BadNumber v in ((p.0, p.1, e), (inr (refl, front_faulty l rest BadNumber v), e))
unfaulty l rest new TooLong e v = let p = faulty_is_first l rest TooLong v in ((p.0, p.1, e), (inr (refl, front_faulty l rest TooLong v), e))
unfaulty l rest new TooMany e v = let p = faulty_is_first l rest TooMany v in ((p.0, p.1, e), (inr (refl, front_faulty l rest TooMany v), e))
unfaulty l rest new TooDeep e v = let p = faulty_is_first l rest TooDeep v in ((p.0, p.1, e), (inr (refl, front_faulty l rest TooDeep v), e))
unfaulty l rest new BadEnd e v = let p = faulty_is_first l rest BadEnd v in ((p.0, p.1, e), (inr (refl, front_faulty l rest BadEnd v), e))

pub gave_fault : (l : LimitsModel) (rest : List ℕ) (f : WireFault) (old new : ReaderModel) → input l rest None ≡ old → new ≡ input l rest (Some f) → value_at l l.depth rest ≡ faulty f → Gives old (Err f) new
gave_fault l rest f old new e g v = subst (λ (s : ReaderModel). Gives s (Err f) new) e (unfaulty l rest new f g v)

-- a value is whole, and was not made
unmade : (l : LimitsModel) (rest left : List ℕ) (v : Data) (new : ReaderModel) (f : WireFault) → new ≡ input l rest None → value_at l l.depth rest ≡ whole v left → Builds data_of (Err f) (value_at l l.depth rest) → Gives (input l rest None) (Err f) new
unmade l rest left v new NoMemory e w b = ((v, left, reads_begins l rest left v w, e), (refl, (v, left, front_whole l rest left v w), e))
unmade l rest left v new BadType e w b = absurd (let k = sym w ∙ b in cc)
unmade l rest left v new BadNumber e w b = absurd (let k = sym w ∙ b in cc)
unmade l rest left v new TooLong e w b = absurd (let k = sym w ∙ b in cc)
unmade l rest left v new TooMany e w b = absurd (let k = sym w ∙ b in cc)
unmade l rest left v new TooDeep e w b = absurd (let k = sym w ∙ b in cc)
unmade l rest left v new BadEnd e w b = absurd (let k = sym w ∙ b in cc)

pub gave_memory : (l : LimitsModel) (rest left : List ℕ) (v : Data) (f : WireFault) (old new : ReaderModel) → input l rest None ≡ old → new ≡ input l rest None → value_at l l.depth rest ≡ whole v left → Builds data_of (Err f) (value_at l l.depth rest) → Gives old (Err f) new
gave_memory l rest left v f old new e g w b = subst (λ (s : ReaderModel). Gives s (Err f) new) e (unmade l rest left v new f g w b)

-- what is left behind a value stands at the end
pub left_behind : (l : LimitsModel) (bytes left : List ℕ) (v : Data) → value_at l l.depth bytes ≡ whole v left → (length left ≤ length bytes) × (drop (length bytes - length left) bytes ≡ left)
left_behind l bytes left v e =
    let b = reads_begins l bytes left v e in
    (omega (arith, ap (λ (u : List ℕ). length u) b.2, length-append b.0 left), position_is bytes b.0 left b.2)

unfaulted : (old : ReaderModel) → old.fault ≡ None → input old.bounds old.unread None ≡ old
unfaulted old n = λ i. record { bounds = old.bounds; unread = old.unread; fault = sym n i }

pub gave_taken : (old new : ReaderModel) (value : Value) → old.fault ≡ None → TakesOff old (Ok (Some value)) new → Gives old (Ok (Some value)) new
gave_taken old new value n t =
    gave_value old.bounds old.unread new.unread value old new (unfaulted old n) (t.1 ∙ ap (λ f. input old.bounds new.unread f) n) t.0

pub built_at : (l : LimitsModel) (room : ℕ) (bytes rest : List ℕ) (result : Result (Option (Value × Bor (List ℕ))) WireFault) → room ≡ l.depth → bytes ≡ rest → Builds data_of result (value_at l room bytes) → Builds data_of result (value_at l l.depth rest)
built_at l room bytes rest result r e b = subst (λ (u : List ℕ). Builds data_of result (value_at l l.depth u)) e (subst (λ (n : ℕ). Builds data_of result (value_at l n bytes)) r b)

pub took : (l : LimitsModel) (unread left kept : List ℕ) (fault : Option WireFault) (value : Value) (old : ReaderModel) → input l unread fault ≡ old → value_at l l.depth unread ≡ whole (data_of value) left → kept ≡ drop (length unread - length left) unread → TakesOff old (Ok (Some value)) (input l kept fault)
took l unread left kept fault value old e w k =
    let here : TakesOff (input l unread fault) (Ok (Some value)) (input l kept fault) = (w ∙ ap (λ (u : List ℕ). whole (data_of value) u) (sym (k ∙ (left_behind l unread left (data_of value) w).1)), refl) in
    subst (λ (s : ReaderModel). TakesOff s (Ok (Some value)) (input l kept fault)) e here

pub took_fault : (l : LimitsModel) (unread : List ℕ) (fault : Option WireFault) (f : WireFault) (old : ReaderModel) → input l unread fault ≡ old → Builds data_of (Err f) (value_at l l.depth unread) → TakesOff old (Err f) old
took_fault l unread fault f old e b = subst (λ (s : ReaderModel). TakesOff s (Err f) s) e (b, refl)

-- the value is known to be whole
gave_whole : (old new : ReaderModel) (left : List ℕ) (v : Data) (result : Result (Option Value) WireFault) → old.fault ≡ None → value_at old.bounds old.bounds.depth old.unread ≡ whole v left → TakesOff old result new → Gives old result new
gave_whole old new left v (Ok (Some value)) n w t = gave_taken old new value n t
gave_whole old new left v (Ok None) n w t = absurd (let k = sym w ∙ t.0 in cc)
gave_whole old new left v (Err f) n w t = gave_memory old.bounds old.unread left v f old new (unfaulted old n) (t.1 ∙ sym (unfaulted old n)) w t.0

-- what was found of the bytes is found of those that the reader holds
pub found_at : (l : LimitsModel) (unread bytes : List ℕ) (position : ℕ) (result : Result Bool WireFault) → bytes ≡ unread → Finds l bytes position result → Finds l unread position result
found_at l unread bytes position result e f = subst (λ (u : List ℕ). Finds l u position result) e f

unfound : (l : LimitsModel) (unread : List ℕ) (fault : Option WireFault) (old : ReaderModel) → input l unread fault ≡ old → old.fault ≡ None → fault ≡ None
unfound l unread fault old e n = ap (λ (s : ReaderModel). s.fault) e ∙ n

pub read_whole : (l : LimitsModel) (unread : List ℕ) (position : ℕ) (fault : Option WireFault) (old new : ReaderModel) (result : Result (Option Value) WireFault) → input l unread fault ≡ old → old.fault ≡ None → Finds l unread position (Ok true) → TakesOff (input l unread fault) result new → Gives old result new
read_whole l unread position fault old new result e n f t =
    subst (λ (s : ReaderModel). Gives s result new) e (gave_whole (input l unread fault) new (drop position unread) f.0 result (unfound l unread fault old e n) f.1 t)

pub read_partial : (l : LimitsModel) (unread : List ℕ) (position : ℕ) (fault : Option WireFault) (old : ReaderModel) → input l unread fault ≡ old → old.fault ≡ None → Finds l unread position (Ok false) → Gives old (Ok None) (input l unread fault)
read_partial l unread position fault old e n f =
    let none = ap (λ g. input l unread g) (unfound l unread fault old e n) in
    gave_none l unread old (input l unread fault) (sym none ∙ e) none f

pub read_faulty : (l : LimitsModel) (unread : List ℕ) (position : ℕ) (fault : Option WireFault) (f : WireFault) (old : ReaderModel) → input l unread fault ≡ old → old.fault ≡ None → Finds l unread position (Err f) → Gives old (Err f) (input l unread (Some f))
read_faulty l unread position fault f old e n w =
    gave_fault l unread f old (input l unread (Some f)) (ap (λ g. input l unread g) (sym (unfound l unread fault old e n)) ∙ e) refl w

pub kept_fault : (l : LimitsModel) (rest : List ℕ) (f : WireFault) → value_at l l.depth rest ≡ faulty f → f ≢ NoMemory
kept_fault l rest f v = no_memory l l.depth rest f (faulty_is_first l rest f v).1

-- the fault that was found is answered again
pub takes_again : (old : ReaderModel) (f : WireFault) → old.fault ≡ Some f → f ≢ NoMemory → old ≡ record old { fault = Some f } → ReaderTakes old (Err f) old
takes_again old NoMemory e k s = absurd (k refl)
takes_again old BadType e k s = (inl e, s)
takes_again old BadNumber e k s = (inl e, s)
takes_again old TooLong e k s = (inl e, s)
takes_again old TooMany e k s = (inl e, s)
takes_again old TooDeep e k s = (inl e, s)
takes_again old BadEnd e k s = (inl e, s)

pub feeds_again : (old : ReaderModel) (piece : List ℕ) (f : WireFault) → old.fault ≡ Some f → f ≢ NoMemory → Feeds old piece (Err f) old
feeds_again old piece NoMemory e k = absurd (k refl)
feeds_again old piece BadType e k = (e, refl)
feeds_again old piece BadNumber e k = (e, refl)
feeds_again old piece TooLong e k = (e, refl)
feeds_again old piece TooMany e k = (e, refl)
feeds_again old piece TooDeep e k = (e, refl)
feeds_again old piece BadEnd e k = (e, refl)
