-- A reader that is fed byte by byte.
use Rattle.std.proofs.Common.{◌≡◌, ◌⊎◌, inl, inr, ◌<◌, ◌≤◌, ◌+◌, ◌-◌, ℕ, List, [], ◌++◌, length, take, drop, Some, None, Ok, Err, sym, ap, subst, ◌∙◌, arith}
use Rattle.std.proofs.lemmas.List.{drop_more, length-drop, length-take-le, take-append-drop, take_all, take_more}
use Rattle.resp_wire.specs.FirstValue.{Feeds, ReaderTakes, front, Whole, Faulty}
use Rattle.resp_wire.specs.LimitsModel.{full}
use Rattle.resp_wire.specs.ReaderModel.{ReaderModel}
use Rattle.resp_wire.specs.Seen.{data_of}
use Rattle.resp_wire.specs.declared.fault.WireFault.{WireFault}
use Rattle.resp_wire.specs.declared.fault.WireFault.TheVariants as fault
use Rattle.resp_wire.specs.declared.value.Value.{Value}
use Rattle.resp_wire.proofs.KeepLaws.{front_keeps_fault}
use Rattle.turn_play.specs.Hearing.{FindsValue, NoValue}
use Rattle.turn_play.proofs.FirstValues.{nothing-whole, partial-none, whole-at}

abbrev pub holding : List ℕ → ReaderModel
holding bytes = record { bounds = full; unread = bytes; fault = None }

-- one byte more
pub one-more : (bytes : List ℕ) (at : ℕ) → at < length bytes → take at bytes ++ take 1 (drop at bytes) ≡ take (at + 1) bytes
one-more bytes at lt = ap (λ xs. take at bytes ++ take 1 xs) (drop_more bytes at 0 lt) ∙ sym (take_more bytes at 0 lt)

pub one-long : (bytes : List ℕ) (at : ℕ) → at < length bytes → length (take 1 (drop at bytes)) ≡ 1
one-long bytes at lt = length-take-le 1 (drop at bytes) (omega (arith, lt, length-drop at bytes))

module _ (bytes : List ℕ) (at : ℕ) (lt : at < length bytes) (r : ReaderModel) (is : r ≡ holding (take at bytes)) (piece : List ℕ) (one : piece ≡ take 1 (drop at bytes)) where
  grown : r.unread ++ piece ≡ take (at + 1) bytes
  grown = ap (λ (s : ReaderModel). s.unread ++ piece) is ∙ ap (λ p. take at bytes ++ p) one ∙ one-more bytes at lt

  some-none : (f : WireFault) → r.fault ≡ Some f → ⊥
  some-none f e = let g : Some f ≡ None = sym e ∙ ap (λ (s : ReaderModel). s.fault) is in absurd cc

  pub feed-fails : (f : WireFault) (r' : ReaderModel) → Feeds r piece (Err f) r' → FindsValue bytes (Err f)
  feed-fails fault.NoMemory r' x = tt
  feed-fails fault.BadType r' x = absurd (some-none fault.BadType x.0)
  feed-fails fault.BadNumber r' x = absurd (some-none fault.BadNumber x.0)
  feed-fails fault.TooLong r' x = absurd (some-none fault.TooLong x.0)
  feed-fails fault.TooMany r' x = absurd (some-none fault.TooMany x.0)
  feed-fails fault.TooDeep r' x = absurd (some-none fault.TooDeep x.0)
  feed-fails fault.BadEnd r' x = absurd (some-none fault.BadEnd x.0)

  module _ (r' : ReaderModel) (x : (r.fault ≡ None) × (r' ≡ record r { unread = r.unread ++ piece })) where
    pub fed : r' ≡ holding (take (at + 1) bytes)
    fed = x.1 ∙ (λ i. record { bounds = (is i).bounds; unread = grown i; fault = (is i).fault })

    none-now : (f : WireFault) → r'.fault ≡ Some f → ⊥
    none-now f e = let g : Some f ≡ None = sym e ∙ ap (λ (s : ReaderModel). s.fault) fed in absurd cc

    faulty : (f : WireFault) → (r'.fault ≡ Some f) ⊎ ((r'.fault ≡ None) × (front r'.bounds r'.unread ≡ Faulty f)) → front full bytes ≡ Faulty f
    faulty f (inl e) = absurd (none-now f e)
    faulty f (inr e) =
        let now : front full (take (at + 1) bytes) ≡ Faulty f = ap (λ (s : ReaderModel). front s.bounds s.unread) (sym fed) ∙ e.1 in
        ap (front full) (sym (take-append-drop (at + 1) bytes)) ∙ front_keeps_fault full (take (at + 1) bytes) (drop (at + 1) bytes) f now

    pub next-fails : (f : WireFault) (r'' : ReaderModel) → ReaderTakes r' (Err f) r'' → FindsValue bytes (Err f)
    next-fails fault.NoMemory r'' t = tt
    next-fails fault.BadType r'' t = faulty fault.BadType t.0
    next-fails fault.BadNumber r'' t = faulty fault.BadNumber t.0
    next-fails fault.TooLong r'' t = faulty fault.TooLong t.0
    next-fails fault.TooMany r'' t = faulty fault.TooMany t.0
    next-fails fault.TooDeep r'' t = faulty fault.TooDeep t.0
    next-fails fault.BadEnd r'' t = faulty fault.BadEnd t.0

    -- nothing is whole yet
    pub next-short : (r'' : ReaderModel) → ReaderTakes r' (Ok None) r'' → (r'' ≡ holding (take (at + 1) bytes)) × NoValue (take (at + 1) bytes)
    next-short r'' t = (t.2 ∙ fed, partial-none (take (at + 1) bytes) (ap (λ (s : ReaderModel). front s.bounds s.unread) (sym fed) ∙ t.1))

    pub next-whole : (v : Value) (r'' : ReaderModel) → NoValue (take at bytes) → ReaderTakes r' (Ok (Some v)) r'' → FindsValue bytes (Ok (Some (v, at + 1)))
    next-whole v r'' part t =
        let now : front full (take (at + 1) bytes) ≡ Whole (data_of v) r''.unread = ap (λ (s : ReaderModel). front s.bounds s.unread) (sym fed) ∙ t.1 in
        let whole = whole-at bytes (take at bytes) (take 1 (drop at bytes)) (drop (at + 1) bytes) (data_of v) r''.unread
        (sym (ap (λ b. b ++ drop (at + 1) bytes) (one-more bytes at lt) ∙ take-append-drop (at + 1) bytes)) (one-long bytes at lt) part (ap (front full) (one-more bytes at lt) ∙ now) in
        (omega (arith, lt), omega arith, whole)

-- nothing was fed yet
pub nothing-fed : (bytes : List ℕ) (r : ReaderModel) → r ≡ holding [] → (r ≡ holding (take 0 bytes)) × NoValue (take 0 bytes)
nothing-fed bytes r is = (is, nothing-whole)

-- all was fed
pub all-fed : (bytes : List ℕ) (at : ℕ) → length bytes ≤ at → NoValue (take at bytes) → NoValue bytes
all-fed bytes at past none = subst NoValue (take_all at bytes past) none
