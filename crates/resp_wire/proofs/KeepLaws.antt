-- What begins a text begins it whatever comes behind.
use Rattle.std.proofs.Common.{◌≡◌, ◌≢◌, ℕ, List, [], ◌∷◌, ◌++◌, refl, sym, ap, subst, ◌∙◌, append_assoc}
use Rattle.resp_wire.specs.Data.{Data}
use Rattle.resp_wire.specs.LimitsModel.{LimitsModel}
use Rattle.resp_wire.specs.Spelling.{cr, lf, BeginsLine}
use Rattle.resp_wire.specs.Faults.{IsNoEnd, FirstFault, unknown_kind, bare_lf, bare_cr, long_line, bad_integer, bad_bulk_length, bad_array_length, long_bulk, too_deep, too_many, no_end, inside}
use Rattle.resp_wire.specs.Laws.{FrontKeepsValue, FrontKeepsFault}
use Rattle.resp_wire.specs.declared.fault.WireFault.{WireFault}
use Rattle.resp_wire.proofs.Lines.{begins_more}
use Rattle.resp_wire.proofs.FrontLaws.{front_is_whole, front_is_faulty}

no_end_more : (after more : List ℕ) → IsNoEnd after → IsNoEnd (after ++ more)
no_end_more [] more h = absurd h
no_end_more (b ∷ []) [] h = h
no_end_more (b ∷ []) (c ∷ more) h = λ e. absurd (h e)
no_end_more (b ∷ c ∷ after) more h = h

-- one byte, a text, and bytes behind it
longer : (bytes : List ℕ) (b : ℕ) (text after more : List ℕ) → bytes ≡ b ∷ (text ++ after) → bytes ++ more ≡ b ∷ (text ++ (after ++ more))
longer bytes b text after more e = ap (λ (u : List ℕ). u ++ more) e ∙ ap (λ (u : List ℕ). b ∷ u) (append_assoc text after more)

behind : (l : LimitsModel) (kind : ℕ) (text bytes front after more : List ℕ) → BeginsLine l kind text bytes (front ++ after) → BeginsLine l kind text (bytes ++ more) (front ++ (after ++ more))
behind l kind text bytes front after more b = subst (λ (u : List ℕ). BeginsLine l kind text (bytes ++ more) u) (append_assoc front after more) (begins_more l kind text bytes (front ++ after) more b)

pub fault_more : (l : LimitsModel) (room : ℕ) (bytes more : List ℕ) (f : WireFault) → FirstFault l room bytes f → FirstFault l room (bytes ++ more) f
fault_more l room bytes more f (unknown_kind b after k e) = unknown_kind b (after ++ more) k (ap (λ (u : List ℕ). u ++ more) e)
fault_more l room bytes more f (bare_lf b text after k q h e) = bare_lf b text (after ++ more) k q h (longer bytes b text (lf ∷ after) more e)
fault_more l room bytes more f (bare_cr b c text after k q h ne e) = bare_cr b c text (after ++ more) k q h ne (longer bytes b text (cr ∷ c ∷ after) more e)
fault_more l room bytes more f (long_line b text after k q h e) = long_line b text (after ++ more) k q h (longer bytes b text after more e)
fault_more l room bytes more f (bad_integer text after b e) = bad_integer text (after ++ more) (begins_more l _ text bytes after more b) e
fault_more l room bytes more f (bad_bulk_length text after b ne e) = bad_bulk_length text (after ++ more) (begins_more l _ text bytes after more b) ne e
fault_more l room bytes more f (bad_array_length text after b ne e) = bad_array_length text (after ++ more) (begins_more l _ text bytes after more b) ne e
fault_more l room bytes more f (long_bulk text after n b e h) = long_bulk text (after ++ more) n (begins_more l _ text bytes after more b) e h
fault_more l room bytes more f (too_deep text after n b e r) = too_deep text (after ++ more) n (begins_more l _ text bytes after more b) e r
fault_more l room bytes more f (too_many text after n b e r h) = too_many text (after ++ more) n (begins_more l _ text bytes after more b) e r h
fault_more l room bytes more f (no_end text body after b e h n) = no_end text body (after ++ more) (behind l _ text bytes body after more b) e h (no_end_more after more n)
fault_more l room bytes more f (inside text before after n inner vs b e h r s few next) = inside text before (after ++ more) n inner vs (behind l _ text bytes before after more b) e h r s few (fault_more l inner after more f next)

pub front_keeps_value : FrontKeepsValue
front_keeps_value l text after more value e =
    let b = (front_is_whole l text after value).0 e in
    (front_is_whole l (text ++ more) (after ++ more) value).1 (b.0, b.1, ap (λ (u : List ℕ). u ++ more) b.2 ∙ append_assoc b.0 after more)

pub front_keeps_fault : FrontKeepsFault
front_keeps_fault l text more fault e = (front_is_faulty l (text ++ more) fault).1 (fault_more l l.depth text more fault ((front_is_faulty l text fault).0 e))
