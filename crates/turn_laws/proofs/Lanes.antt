-- Posts, takes and looks at one lane, as what is between its ends.
use Rattle.std.proofs.Common.{◌≡◌, ◌≤◌, List, [], ◌∷◌, ◌++◌, Some, None, Ok, Err, sym, ap, ◌∙◌, arith, length}
use Rattle.std.specs.Prelude.{map, drop}
use mathlib.Core.List.{IsPrefix}
use Rattle.std.proofs.lemmas.List.{drop-append-le, map-append, append_assoc, length-append}
use Rattle.std.proofs.Math.Seq.{drop-append_seam}
use Rattle.proxy_lanes.specs.declared.ring.Outlet.{Outlet}
use Rattle.proxy_lanes.specs.declared.ring.Inlet.{Inlet}
use Rattle.proxy_lanes.specs.declared.ring.Numbered.{Numbered}
use Rattle.proxy_lanes.specs.Lane.{posted, taken, numbered, Posts, Takes}
use Rattle.turn_laws.specs.System.{between, IsInStep}

module _ {T : Type 0} where
  items : List (Numbered T) → List T
  items xs = map (λ (x : Numbered T). x.item) xs

  -- an item stands behind all others
  pub between-post : (old new : Outlet T) (inlet : Inlet T) (x : T) → IsInStep old inlet → Posts old new x (Ok tt) → between new inlet ≡ between old inlet ++ x ∷ []
  between-post old new inlet x step p =
      let short : length (taken inlet) ≤ length (posted old) = shorter step in
      ap (λ xs. map (λ (x : Numbered T). x.item) (drop (length (taken inlet)) xs)) p.1
      ∙ ap (map (λ (x : Numbered T). x.item)) (drop-append-le (length (taken inlet)) (posted old) (numbered (length (posted old)) x ∷ []) short)
      ∙ map-append (λ (x : Numbered T). x.item) (drop (length (taken inlet)) (posted old)) (numbered (length (posted old)) x ∷ [])
    where
      shorter : IsPrefix (taken inlet) (posted old) → length (taken inlet) ≤ length (posted old)
      shorter p = omega (arith, ap length p.1, length-append (taken inlet) p.0)

  pub post-steps : (old new : Outlet T) (inlet : Inlet T) (x : T) → IsInStep old inlet → Posts old new x (Ok tt) → IsInStep new inlet
  post-steps old new inlet x step p = (step.0 ++ numbered (length (posted old)) x ∷ [], sym (append_assoc (taken inlet) step.0 (numbered (length (posted old)) x ∷ [])) ∙ ap (λ xs. xs ++ numbered (length (posted old)) x ∷ []) step.1 ∙ sym p.1)

  -- a post that came back changes nothing
  pub between-back : (old new : Outlet T) (inlet : Inlet T) (x back : T) → Posts old new x (Err back) → between new inlet ≡ between old inlet
  between-back old new inlet x back p = ap (λ xs. map (λ (x : Numbered T). x.item) (drop (length (taken inlet)) xs)) p.2

  pub back-steps : (old new : Outlet T) (inlet : Inlet T) (x back : T) → IsInStep old inlet → Posts old new x (Err back) → IsInStep new inlet
  back-steps old new inlet x back step p = (step.0, step.1 ∙ sym p.2)

  -- the first item is taken
  pub between-take : (outlet : Outlet T) (old new : Inlet T) (x : T) → IsInStep outlet new → Takes old new (Some x) → between outlet old ≡ x ∷ between outlet new
  between-take outlet old new x step t =
      let one : Numbered T = numbered (length (taken old)) x in
      let whole : posted outlet ≡ taken old ++ one ∷ step.0 = sym step.1 ∙ ap (λ xs. xs ++ step.0) t.1 ∙ append_assoc (taken old) (one ∷ []) step.0 in
      let rest : drop (length (taken new)) (posted outlet) ≡ step.0 = ap (drop (length (taken new))) (sym step.1) ∙ drop-append_seam (taken new) step.0 in
      ap (λ xs. map (λ (x : Numbered T). x.item) (drop (length (taken old)) xs)) whole
      ∙ ap (map (λ (x : Numbered T). x.item)) (drop-append_seam (taken old) (one ∷ step.0))
      ∙ ap (λ xs. x ∷ map (λ (x : Numbered T). x.item) xs) (sym rest)

  pub between-none : (outlet : Outlet T) (old new : Inlet T) → Takes old new None → between outlet new ≡ between outlet old
  between-none outlet old new t = ap (λ xs. map (λ (x : Numbered T). x.item) (drop (length xs) (posted outlet))) t.3
