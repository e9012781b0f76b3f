-- How the opening of an input is found piece by piece.
use Rattle.std.proofs.Common.{◌≡◌, ◌≢◌, ◌<◌, ◌≤◌, ◌+◌, ◌-◌, ◌∷◌, [], ◌++◌, List, ℕ, zero, suc, Bool, true, false, nat_eq, Option, Some, None, Result, Ok, Err, refl, sym, ap, subst, ◌∙◌, arith, length, take, MatchOption}
use Rattle.std.specs.Prelude.{IfOk}
use Rattle.std.proofs.lemmas.List.{append_assoc, append-nil, length-append}
use Rattle.std.proofs.Math.Seq.{take-append-add}
use Rattle.std.specs.Io.KnownBytes.{Consumes, IsAtEnd}
use Rattle.std.proofs.KnownBytes.{Consumes-trans}
use Rattle.resp_wire.specs.Data.{Data, simple, error, integer, bulk, null_bulk, array, null_array}
use Rattle.resp_wire.specs.Seen.{data_of}
use Rattle.resp_wire.specs.Words.{words_of}
use Rattle.resp_wire.specs.LimitsModel.{LimitsModel, full}
use Rattle.resp_wire.specs.ReaderModel.{ReaderModel}
use Rattle.resp_wire.specs.Spelling.{Spells, BeginsLine}
use Rattle.resp_wire.specs.Laws.{FrontIsFaulty, FrontKeepsFault}
use Rattle.resp_wire.specs.Stream.{Begins, HasFault, NoFault, NoneWhole, ReaderAnswers, AnswersUnfaulty}
use Rattle.resp_wire.specs.declared.value.Value.{Value}
use Rattle.resp_wire.specs.declared.fault.WireFault.{WireFault}
use Rattle.resp_wire.specs.declared.fault.WireFault.TheVariants.{NoMemory, BadType, BadNumber, TooLong, TooMany, TooDeep, BadEnd}
use Rattle.cluster_world.specs.declared.one.first.First.TheVariants as first
use Rattle.cluster_world.specs.declared.one.first.Look.{Look}
use Rattle.cluster_world.specs.declared.one.first.Look.TheVariants as look
use Rattle.cluster_world.specs.Opening.{Opening, Asks, Breaks, Ends, Opens, request, skip, no_request, fault, early}
use Rattle.cluster_world.specs.Looks.{IsOpen, GoesOn, Looks, Shows}

-- what begins a text begins it whatever more comes
begins_more : (l : LimitsModel) (text after more : List ℕ) (value : Data) → Begins l text value after → Begins l (text ++ more) value (after ++ more)
begins_more l text after more value begun = (begun.0, begun.1, ap (λ t. t ++ more) begun.2 ∙ append_assoc begun.0 after more)

-- what a reader answers that has found no fault yet
unfaulty : (old new : ReaderModel) (result : Result (Option Value) WireFault) → IsOpen old → ReaderAnswers old result new → AnswersUnfaulty old result new
unfaulty old new result is_open answers =
    let P : Option WireFault → Type 0 = λ f. MatchOption f (AnswersUnfaulty old result new) (λ fault. (result ≡ Err fault) × (new ≡ old)) in
    subst P is_open.1 answers

begun : (old new : ReaderModel) (value : Value) → IsOpen old → ReaderAnswers old (Ok (Some value)) new → Begins full old.unread (data_of value) new.unread
begun old new value is_open answers =
    let P : LimitsModel → Type 0 = λ l. Begins l old.unread (data_of value) new.unread in
    subst P is_open.0 (unfaulty old new (Ok (Some value)) is_open answers).0

-- a spelling has bytes
line_bytes : (l : LimitsModel) (kind : ℕ) (text bytes more : List ℕ) → BeginsLine l kind text bytes more → 0 < length bytes
line_bytes l kind text bytes more line = let e = ap length line.are in omega (arith, e)

spelled_bytes : (l : LimitsModel) (room : ℕ) (bytes : List ℕ) (value : Data) → Spells l room bytes value → 0 < length bytes
spelled_bytes l room bytes (simple text) spells = line_bytes l _ text bytes _ spells
spelled_bytes l room bytes (error text) spells = line_bytes l _ text bytes _ spells
spelled_bytes l room bytes (integer z) spells = line_bytes l _ spells.0 bytes _ spells.2
spelled_bytes l room bytes (bulk body) spells = line_bytes l _ spells.0 bytes _ spells.3
spelled_bytes l room bytes null_bulk spells = line_bytes l _ _ bytes _ spells
spelled_bytes l room bytes (array vs) spells = line_bytes l _ spells.0 bytes _ spells.6
spelled_bytes l room bytes null_array spells = line_bytes l _ _ bytes _ spells

shorter : (l : LimitsModel) (text after : List ℕ) (value : Data) → Begins l text value after → length after < length text
shorter l text after value begun =
    let some = spelled_bytes l l.depth begun.0 value begun.1 in
    let whole = ap length begun.2 in
    omega (arith, some, whole, length-append begun.0 after)

still_open : (old new : ReaderModel) → new ≡ record old { unread = new.unread } → IsOpen old → IsOpen new
still_open old new same is_open = (ap (λ i. i.bounds) same ∙ is_open.0, ap (λ i. i.fault) same ∙ is_open.1)

-- words that are there begin with one
pub some_words : (words slice : List (List ℕ)) (value : Data) → slice ≡ words → nat_eq (length slice) 0 ≡ false → words_of value ≡ Some words
    → Shows value (look.Found (first.Asks words))
some_words [] slice value same some are =
    let P : List (List ℕ) → Type 0 = λ ws. nat_eq (length ws) 0 ≡ false in
    let bad : true ≡ false = subst P same some in absurd (cc)
some_words (word ∷ words) slice value same some are = (word, words, refl, are)

-- what is made of a value that was taken off the front
value_found : (old new : ReaderModel) (value : Value) (found : Look) → IsOpen old → ReaderAnswers old (Ok (Some value)) new → Shows (data_of value) found → Looks old found new
value_found old new value (look.Found (first.Asks words)) is_open answers shows =
    let size = ap length shows.2 in (
      omega (arith, size),
      λ more.
          let P : List (List ℕ) → Type 0 = λ ws. Opens (old.unread ++ more) (Asks ws) in
          subst P (sym shows.2) (request (old.unread ++ more) (new.unread ++ more) (data_of value) shows.0 shows.1
          (begins_more full old.unread new.unread more (data_of value) (begun old new value is_open answers)) shows.3),
    )
value_found old new value (look.Found first.Breaks) is_open answers shows = (
  tt,
  λ more. no_request (old.unread ++ more) (new.unread ++ more) (data_of value)
      (begins_more full old.unread new.unread more (data_of value) (begun old new value is_open answers)) shows.0 shows.1,
)
value_found old new value (look.Found first.Ends) is_open answers shows = absurd shows
value_found old new value look.Skipped is_open answers shows = (
  still_open old new (unfaulty old new (Ok (Some value)) is_open answers).1 is_open,
  (λ more opening opens. skip (old.unread ++ more) (new.unread ++ more) (data_of value) opening
      (begins_more full old.unread new.unread more (data_of value) (begun old new value is_open answers)) shows opens),
  shorter full old.unread new.unread (data_of value) (begun old new value is_open answers),
)
value_found old new value look.Partial is_open answers shows = absurd shows

pub values_found : {E : Type 0} (old new : ReaderModel) (value : Value) (result : Result Look E) → IsOpen old → ReaderAnswers old (Ok (Some value)) new
    → IfOk result (Shows (data_of value)) → IfOk result (λ found. Looks old found new)
values_found old new value (Ok found) is_open answers shows = value_found old new value found is_open answers shows
values_found old new value (Err e) is_open answers shows = shows

pub none_found : (old new : ReaderModel) → IsOpen old → ReaderAnswers old (Ok None) new → IsOpen new × (new ≡ old) × NoneWhole full old.unread × NoFault full old.unread
none_found old new is_open answers =
    let a = unfaulty old new (Ok None) is_open answers in
    let P : LimitsModel → Type 0 = λ l. NoneWhole l old.unread in
    let Q : LimitsModel → Type 0 = λ l. NoFault l old.unread in
    ((ap (λ i. i.bounds) a.2 ∙ is_open.0, ap (λ i. i.fault) a.2 ∙ is_open.1), a.2, subst P is_open.0 a.0, subst Q is_open.0 a.1)

unfaulty_fault : (old new : ReaderModel) (found : WireFault) → (found ≡ NoMemory → ⊥) → AnswersUnfaulty old (Err found) new → HasFault old.bounds old.unread found
unfaulty_fault old new NoMemory other answers = absurd (other refl)
unfaulty_fault old new BadType other answers = answers.1
unfaulty_fault old new BadNumber other answers = answers.1
unfaulty_fault old new TooLong other answers = answers.1
unfaulty_fault old new TooMany other answers = answers.1
unfaulty_fault old new TooDeep other answers = answers.1
unfaulty_fault old new BadEnd other answers = answers.1

-- a fault is the first whatever more comes
fault_more : FrontIsFaulty → FrontKeepsFault → (l : LimitsModel) (text more : List ℕ) (found : WireFault) → HasFault l text found → HasFault l (text ++ more) found
fault_more is keeps l text more found has = (is l (text ++ more) found).0 (keeps l text more found ((is l text found).1 has))

pub fault_found : FrontIsFaulty → FrontKeepsFault → (old new : ReaderModel) (found : WireFault) → (found ≡ NoMemory → ⊥) → IsOpen old → ReaderAnswers old (Err found) new
    → Looks old (look.Found first.Breaks) new
fault_found is keeps old new found other is_open answers =
    let P : LimitsModel → Type 0 = λ l. HasFault l old.unread found in (
      tt,
      λ more. fault (old.unread ++ more) found (fault_more is keeps full old.unread more found
          (subst P is_open.0 (unfaulty_fault old new found other (unfaulty old new (Err found) is_open answers)))),
    )

-- a piece more
goes_on_fed : (whole rest piece : List ℕ) → GoesOn whole rest → GoesOn (whole ++ piece) (rest ++ piece)
goes_on_fed whole rest piece on more opening opens =
    let P : List ℕ → Type 0 = λ t. Opens t opening in
    subst P (sym (append_assoc whole piece more)) (on (piece ++ more) opening (subst P (append_assoc rest piece more) opens))

-- the bytes within the limit are those that were read and some more
within : (fed after : List ℕ) (left limit : ℕ) → length fed + left ≡ limit → take limit (fed ++ after) ≡ fed ++ take left after
within fed after left limit is = ap (λ n. take n (fed ++ after)) (sym is) ∙ take-append-add fed after left

pub found_within : (before now : Option (List ℕ)) (fed : List ℕ) (left limit : ℕ) (opening : Opening) → Consumes before now fed → length fed + left ≡ limit
    → ((more : List ℕ) → Opens (fed ++ more) opening) → (input : List ℕ) → before ≡ Some input → Opens (take limit input) opening
found_within None now fed left limit opening consumes is opens input known = absurd (cc)
found_within (Some all) None fed left limit opening consumes is opens input known = absurd consumes
found_within (Some all) (Some after) fed left limit opening consumes is opens input known =
    let P : List ℕ → Type 0 = λ t. Opens t opening in
    let same : all ≡ input = cc in
    subst P (sym (within fed after left limit is) ∙ ap (take limit) (sym consumes ∙ same)) (opens (take left after))

nothing_left : (left : ℕ) (after : List ℕ) → (0 < left → after ≡ []) → take left after ≡ []
nothing_left zero after ends = refl
nothing_left (suc left) after ends = ap (take (suc left)) (ends (omega arith))

ended_within : (before now : Option (List ℕ)) (fed : List ℕ) (left limit : ℕ) → Consumes before now fed → length fed + left ≡ limit
    → (0 < left → IsAtEnd now) → Opens (fed ++ []) Ends → (input : List ℕ) → before ≡ Some input → Opens (take limit input) Ends
ended_within None now fed left limit consumes is ends opens input known = absurd (cc)
ended_within (Some all) None fed left limit consumes is ends opens input known = absurd consumes
ended_within (Some all) (Some after) fed left limit consumes is ends opens input known =
    let P : List ℕ → Type 0 = λ t. Opens t Ends in
    let same : all ≡ input = cc in
    subst P (ap (λ t. fed ++ t) (sym (nothing_left left after ends)) ∙ sym (within fed after left limit is) ∙ ap (take limit) (sym consumes ∙ same)) opens

no_bytes : (piece : List ℕ) → length piece ≡ 0 → piece ≡ []
no_bytes [] is = refl
no_bytes (b ∷ bytes) is = absurd (omega (arith, is))

-- the input ends, or may not be read further, where nothing more came
pub ended : (before mid now : Option (List ℕ)) (fed unread piece : List ℕ) (left limit : ℕ) → Consumes before mid fed → Consumes mid now piece → length piece ≡ 0
    → length fed + left ≡ limit → (0 < left → IsAtEnd now) → GoesOn fed unread → NoneWhole full unread → NoFault full unread
    → (input : List ℕ) → before ≡ Some input → Opens (take limit input) Ends
ended before mid now fed unread piece left limit consumes came empty is ends on none no_fault =
    let P : List ℕ → Type 0 = λ t. Opens t Ends in
    let Q : List ℕ → Type 0 = Consumes before now in
    ended_within before now fed left limit (subst Q (ap (λ t. fed ++ t) (no_bytes piece empty) ∙ append-nil fed) (Consumes-trans before mid now fed piece consumes came)) is ends
    (on [] Ends (subst P (sym (append-nil unread)) (early unread none no_fault)))

-- a number of bytes more were read
pub read_on : (old mid new : ReaderModel) (before then now : Option (List ℕ)) (fed piece : List ℕ) (left count limit : ℕ) → IsOpen mid → mid ≡ old
    → new ≡ record mid { unread = mid.unread ++ piece } → length piece ≡ count → count ≤ left → Consumes before then fed → Consumes then now piece
    → length fed + left ≡ limit → GoesOn fed old.unread
    → IsOpen new × ((x : List ℕ) × Consumes before now x × (length x + (left - count) ≡ limit) × GoesOn x new.unread)
read_on old mid new before then now fed piece left count limit is_open same grown long fits consumes came is on =
    let P : List ℕ → Type 0 = λ t. GoesOn (fed ++ piece) t in
    let unread : new.unread ≡ old.unread ++ piece = ap (λ i. i.unread) grown ∙ ap (λ i. i.unread ++ piece) same in
    let size = length-append fed piece in (
      (ap (λ i. i.bounds) grown ∙ is_open.0, ap (λ i. i.fault) grown ∙ is_open.1),
      (
        fed ++ piece,
        Consumes-trans before then now fed piece consumes came,
        omega (arith, size, long, fits, is),
        subst P (sym unread) (goes_on_fed fed old.unread piece on),
      ),
    )
