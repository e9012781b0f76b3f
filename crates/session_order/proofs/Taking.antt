-- What the next request is, where a value was taken off the bytes for it.
use Rattle.std.proofs.Common.{◌≡◌, List, [], ◌∷◌, ℕ, subst, unwrap_or, Option, Some, None, refl, sym, ap, ◌∙◌, inl, inr, Result, Ok, Err}
use Rattle.resp_wire.specs.ReaderModel.{ReaderModel}
use Rattle.resp_wire.specs.FirstValue.{ReaderTakes}
use Rattle.resp_wire.specs.Data.{Data, simple, error, integer, bulk, null_bulk, array, null_array, no_items, item}
use Rattle.resp_wire.specs.Seen.{data_of}
use Rattle.resp_wire.specs.Words.{words_of}
use Rattle.resp_wire.specs.Skipping.{Skips, IsEmptyArray, IsNoRequest}
use Rattle.resp_wire.specs.declared.skip.Skipped.{Skipped}
use Rattle.resp_wire.specs.declared.skip.Skipped.TheVariants as other
use Rattle.resp_wire.specs.declared.fault.WireFault.{WireFault}
use Rattle.resp_wire.specs.declared.fault.WireFault.TheVariants as wire
use Rattle.resp_wire.specs.declared.value.Value.{Value}
use Rattle.session_order.specs.declared.request_reader.Ahead.{Ahead}
use Rattle.session_order.specs.declared.request_kind.RequestKind.{RequestKind}
use Rattle.session_order.specs.declared.request_kind.RequestKind.TheVariants as wish
use Rattle.session_order.specs.declared.request_reader.Ahead.TheVariants as ahead
use Rattle.session_order.specs.Requests.{Words, Refused, asked_of, asked_by}
use Rattle.session_order.specs.Requests as kind
use Rattle.session_order.specs.Ahead.{words_ahead, words_asked, IsAhead, GiveOutcome}
use Rattle.session_order.specs.RequestReaderModel.{RequestReaderModel, TakeOutcome, LacksValue}

abbrev pub left : ReaderModel → Option (List (List ℕ)) → RequestReaderModel
left input words = record { input = input; ahead = words }

-- the value was given, and what was left of it is kept
pub taken : (old : RequestReaderModel) (value : Value) (input : ReaderModel) (result : Result (Option RequestKind) WireFault) (ahead : Ahead)
    → old.ahead ≡ None → ReaderTakes old.input (Ok (Some value)) input → GiveOutcome value result ahead
    → TakeOutcome old result (left input (words_ahead ahead))
taken old value input (Ok (Some (wish.Words words))) ahead none takes (asks, some, is) =
    inr (none, value, takes, asks, ap (left input) (ap words_ahead is ∙ sym none))
taken old value input (Ok (Some wish.Skipped)) ahead none takes (asks, is) = (none, value, takes, asks, ap (left input) (ap words_ahead is ∙ sym none))
taken old value input (Ok None) ahead none takes does = absurd does
taken old value input (Err wire.NoMemory) ahead none takes ((words, asks), is) =
    inr (words, record old { input = input }, inr (none, value, takes, asks, refl), ap (left input) (ap words_ahead is ∙ ap words_asked asks))
taken old value input (Err wire.BadType) ahead none takes does = absurd does
taken old value input (Err wire.BadNumber) ahead none takes does = absurd does
taken old value input (Err wire.TooLong) ahead none takes does = absurd does
taken old value input (Err wire.TooMany) ahead none takes does = absurd does
taken old value input (Err wire.TooDeep) ahead none takes does = absurd does
taken old value input (Err wire.BadEnd) ahead none takes does = absurd does
taken old value input (Ok (Some wish.Refused)) ahead none takes (asks, is) = (none, value, takes, asks, ap (left input) (ap words_ahead is ∙ sym none))

-- the value that was kept ahead is given, or is kept again
pub given : (old : RequestReaderModel) (value : Value) (result : Result (Option RequestKind) WireFault) (kept : Ahead)
    → old.ahead ≡ words_ahead (ahead.Value value) → IsAhead (ahead.Value value) → GiveOutcome value result kept
    → TakeOutcome old result (left old.input (words_ahead kept))
given old value (Ok (Some (wish.Words words))) kept first (some, is_words) (asks, long, is) = inl (first ∙ ap words_asked asks, ap (left old.input) (ap words_ahead is))
given old value (Ok (Some wish.Skipped)) kept first (some, is_words) (asks, is) = let bad : Words some ≡ kind.Skipped = sym is_words ∙ asks in absurd (cc)
given old value (Ok None) kept first is_ahead does = absurd does
given old value (Err wire.NoMemory) kept first is_ahead ((words, asks), is) =
    inr (words, record old { ahead = None }, inl (first ∙ ap words_asked asks, refl), ap (left old.input) (ap words_ahead is ∙ ap words_asked asks))
given old value (Err wire.BadType) kept first is_ahead does = absurd does
given old value (Err wire.BadNumber) kept first is_ahead does = absurd does
given old value (Err wire.TooLong) kept first is_ahead does = absurd does
given old value (Err wire.TooMany) kept first is_ahead does = absurd does
given old value (Err wire.TooDeep) kept first is_ahead does = absurd does
given old value (Err wire.BadEnd) kept first is_ahead does = absurd does
given old value (Ok (Some wish.Refused)) kept first (some, is_words) (asks, is) = let bad : Words some ≡ Refused = sym is_words ∙ asks in absurd (cc)

-- ---- without memory

-- what a value asks for of which a reader tells what it is
asks_words : (value : Data) (first : List ℕ) (more : List (List ℕ)) → words_of value ≡ Some (first ∷ more) → asked_of value ≡ Words (first ∷ more)
asks_words (simple text) first more e = absurd (let k : None ≡ Some (first ∷ more) = e in cc)
asks_words (error text) first more e = absurd (let k : None ≡ Some (first ∷ more) = e in cc)
asks_words (integer n) first more e = absurd (let k : None ≡ Some (first ∷ more) = e in cc)
asks_words (bulk word) first more e = absurd (let k : None ≡ Some (first ∷ more) = e in cc)
asks_words null_bulk first more e = absurd (let k : None ≡ Some (first ∷ more) = e in cc)
asks_words null_array first more e = absurd (let k : None ≡ Some (first ∷ more) = e in cc)
asks_words (array no_items) first more e = absurd (let k : [] ≡ first ∷ more = ap (λ (o : Option (List (List ℕ))). unwrap_or o []) e in cc)
asks_words (array (item d vs)) first more e = ap asked_by e

asks_none : (value : Data) → IsEmptyArray value → asked_of value ≡ kind.Skipped
asks_none value (inl is) = ap asked_of is
asks_none value (inr is) = ap asked_of is

asks_other : (value : Data) → IsNoRequest value → asked_of value ≡ Refused
asks_other (simple text) none = refl
asks_other (error text) none = refl
asks_other (integer n) none = refl
asks_other (bulk word) none = refl
asks_other null_bulk none = refl
asks_other null_array none = absurd (none.1 refl)
asks_other (array no_items) none = absurd (let k : Some [] ≡ None = none.0 in cc)
asks_other (array (item d vs)) none = ap asked_by none.0

-- it is a request, and stays
pub stays : (old : RequestReaderModel) (input : ReaderModel) → LacksValue old → Skips old.input None input → TakeOutcome old (Err wire.NoMemory) (left input None)
stays old input (none, (sound, (value, after, first), same)) (kept, is) =
    let words = is sound value after first in
    inl (
      ((none, (sound, (value, after, first), same)), (value, after, words.0 ∷ words.1, first, asks_words value words.0 words.1 words.2)),
      λ i. record { input = kept i; ahead = sym none i },
    )

-- it is none, and was passed over
pub passed_empty : (old : RequestReaderModel) (input : ReaderModel) → LacksValue old → Skips old.input (Some other.Empty) input → TakeOutcome old (Ok (Some wish.Skipped)) (left input None)
passed_empty old input lacks (value, takes, is) = (lacks.0, value, takes, asks_none (data_of value) is, ap (left input) (sym lacks.0))

pub passed_other : (old : RequestReaderModel) (input : ReaderModel) → LacksValue old → Skips old.input (Some other.Other) input → TakeOutcome old (Ok (Some wish.Refused)) (left input None)
passed_other old input lacks (value, takes, is) = (lacks.0, value, takes, asks_other (data_of value) is, ap (left input) (sym lacks.0))

-- what is given where a value was passed over
abbrev pub passed : Option Skipped → Result (Option RequestKind) WireFault
passed None = Err wire.NoMemory
passed (Some other.Empty) = Ok (Some wish.Skipped)
passed (Some other.Other) = Ok (Some wish.Refused)

passed_of : (old : RequestReaderModel) (input : ReaderModel) (skipped : Option Skipped) → LacksValue old → Skips old.input skipped input → TakeOutcome old (passed skipped) (left input None)
passed_of old input None lacks skips = stays old input lacks skips
passed_of old input (Some other.Empty) lacks skips = passed_empty old input lacks skips
passed_of old input (Some other.Other) lacks skips = passed_other old input lacks skips

pub passes : (old : RequestReaderModel) (input new : ReaderModel) (ahead : Option (List (List ℕ))) (skipped : Option Skipped) (result : Result (Option RequestKind) WireFault) → left input ahead ≡ old → LacksValue old → Skips input skipped new
    → result ≡ passed skipped → TakeOutcome old result (left new ahead)
passes old input new ahead skipped result are lacks skips is =
    let none : ahead ≡ None = ap (λ (model : RequestReaderModel). model.ahead) are ∙ lacks.0 in
    let here : TakeOutcome old (passed skipped) (left new None) = passed_of old new skipped lacks (subst (λ (model : ReaderModel). Skips model skipped new) (ap (λ (model : RequestReaderModel). model.input) are) skips) in
    subst (λ (r : Result (Option RequestKind) WireFault). TakeOutcome old r (left new ahead)) (sym is) (subst (λ (words : Option (List (List ℕ))). TakeOutcome old (passed skipped) (left new words)) (sym none) here)

-- no value was taken, for want of memory
pub lacks_value : (old now : RequestReaderModel) → old.ahead ≡ None → now.ahead ≡ None → ReaderTakes old.input (Err wire.NoMemory) now.input → LacksValue now
lacks_value old now none none' (sound, whole, same) = (none', subst (λ (input : ReaderModel). ReaderTakes input (Err wire.NoMemory) input) (sym same) (sound, whole, refl))
