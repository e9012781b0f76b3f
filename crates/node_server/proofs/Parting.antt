-- The replies to commands that were served together, taken out one by one.
use Rattle.std.proofs.Common.{◌≡◌, ◌∙◌, true, false, List, [], ◌∷◌, ◌++◌, map, Some, None, refl, sym, ap}
use Rattle.resp_wire.specs.Data.{Data}
use Rattle.resp_wire.specs.Seen.{data_of}
use Rattle.resp_wire.specs.declared.value.Value.{Value}
use Rattle.key_split.specs.declared.travel.Told.{Told}
use Rattle.key_split.specs.declared.travel.Told.TheVariants.{Reply, Moved, Ask, TryAgain, ClusterDown, Unclear, Lost, Unsent}
use Rattle.node_server.specs.NodeAnswers.{refused_in, replies_in}
use Rattle.node_server.specs.NodeSaying.{is_reply}

moved : (done : List Value) (v : Value) (rest : List Data) → map data_of (done ++ v ∷ []) ++ rest ≡ map data_of done ++ data_of v ∷ rest
moved [] v rest = refl
moved (x ∷ done) v rest = ap (λ z. data_of x ∷ z) (moved done v rest)

none-left : (xs : List Data) → xs ++ [] ≡ xs
none-left [] = refl
none-left (x ∷ xs) = ap (λ z. x ∷ z) (none-left xs)

-- where one more is taken
module _ (before rest : List Told) (told : Told) (v : Value) (first : before ≡ told ∷ rest) (is : told ≡ Reply v) where
  whole : before ≡ Reply v ∷ rest
  whole = first ∙ ap (λ z. z ∷ rest) is

  pub refused-step : refused_in rest ≡ refused_in before
  refused-step = sym (ap refused_in whole)

  pub replies-step : (done now : List Value) → now ≡ done ++ v ∷ [] → map data_of now ++ replies_in rest ≡ map data_of done ++ replies_in before
  replies-step done now e = ap (λ z. map data_of z ++ replies_in rest) e ∙ moved done v (replies_in rest) ∙ ap (λ z. map data_of done ++ z) (sym (ap replies_in whole))

-- where none is left
pub all-taken : (done : List Value) (left : List Told) → left ≡ [] → (refused_in left ≡ None) × (map data_of done ++ replies_in left ≡ map data_of done)
all-taken done left e = (ap refused_in e, ap (λ z. map data_of done ++ replies_in z) e ∙ none-left (map data_of done))

refused-head : (told : Told) (rest : List Told) → is_reply told ≡ false → refused_in (told ∷ rest) ≡ Some told
refused-head (Reply v) rest e = absurd (let no : true ≡ false = e in cc)
refused-head (Moved slot node) rest e = refl
refused-head (Ask slot node) rest e = refl
refused-head TryAgain rest e = refl
refused-head ClusterDown rest e = refl
refused-head Unclear rest e = refl
refused-head Lost rest e = refl
refused-head Unsent rest e = refl

-- where the next is no reply
pub refused-first : (before rest : List Told) (told back : Told) → before ≡ told ∷ rest → back ≡ told → is_reply told ≡ false → refused_in before ≡ Some back
refused-first before rest told back first same e = ap refused_in first ∙ refused-head told rest e ∙ ap Some (sym same)
