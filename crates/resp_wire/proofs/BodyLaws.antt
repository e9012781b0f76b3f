-- Where the bodies of a value lie.
use Rattle.std.proofs.Common.{◌≡◌, ◌≤◌, ℕ, List, ◌∷◌, ◌++◌, length, take, sym, ap, ◌∙◌, arith, append_assoc}
use Rattle.std.proofs.lemmas.List.{length-append, take_at}
use Rattle.std.proofs.lemmas.Bool.{le-ltb}
use Rattle.resp_wire.specs.Data.{Data, bulk}
use Rattle.resp_wire.specs.LimitsModel.{LimitsModel}
use Rattle.resp_wire.specs.Spelling.{cr, lf}
use Rattle.resp_wire.specs.Reading.{whole, value_at, body_at, counted_bulk}
use Rattle.resp_wire.specs.Bodies.{AreEndOf}
use Rattle.resp_wire.specs.declared.bodies.Bodies.{Bodies}
use Rattle.resp_wire.specs.declared.bodies.Bodies.TheVariants.{Copied, Shared}
use Rattle.resp_wire.proofs.Exact.{read_sound}
use Rattle.resp_wire.proofs.SoundValue.{body_is}

-- the bytes behind a front
pub end_behind : (bytes front rest : List ℕ) (bodies : Bodies) → bytes ≡ front ++ rest → AreEndOf bytes bodies → AreEndOf rest bodies
end_behind bytes front rest (Copied most) e h = tt
end_behind bytes front rest (Shared buffer) e h = (h.0 ++ front, h.1 ∙ ap (λ (u : List ℕ). h.0 ++ u) e ∙ sym (append_assoc h.0 front rest))

-- the bytes behind a value
pub end_behind_value : (l : LimitsModel) (room : ℕ) (bytes rest : List ℕ) (v : Data) (bodies : Bodies) → value_at l room bytes ≡ whole v rest → AreEndOf bytes bodies → AreEndOf rest bodies
end_behind_value l room bytes rest v bodies e h = let f = read_sound l room bytes v rest e in end_behind bytes f.text rest bodies f.are h

-- the body is there
pub body_there : (count : ℕ) (bytes body rest : List ℕ) → body_at count bytes ≡ whole body rest → (count ≤ length bytes) × (take count bytes ≡ body)
body_there count bytes body rest e =
    let b = body_is count bytes body rest e in (
      omega (arith, b.all, ap (λ (u : List ℕ). length u) b.are, length-append body (cr ∷ lf ∷ rest)),
      ap (λ (u : List ℕ). take count u) b.are ∙ take_at body (cr ∷ lf ∷ rest) count b.all,
    )

-- a bulk string of these bytes
pub bulk_there : (l : LimitsModel) (count limit : ℕ) (bytes body rest made : List ℕ) → limit ≡ l.bulk → count ≤ limit → body_at count bytes ≡ whole body rest → made ≡ take count bytes → counted_bulk l bytes count ≡ whole (bulk made) rest
bulk_there l count limit bytes body rest made m h e p =
    rw (le-ltb l.bulk count (omega arith), e) (ap (λ (u : List ℕ). whole (bulk u) rest) (sym (p ∙ (body_there count bytes body rest e).1)))
