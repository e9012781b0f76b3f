use Rattle.std.proofs.Common.{◌≡◌, ◌-◌, List, [], ◌∷◌, ◌++◌, length, sym, ap, ◌∙◌, append_assoc}
use Rattle.std.proofs.lemmas.List.{append-nil}
use Rattle.std.specs.Prelude.{take, drop}
use Rattle.key_split.specs.declared.travel.Told.TheVariants as told
use Rattle.cluster_world.specs.Kept.{kept_for}
use Rattle.cluster_world.specs.Lost.{each_lost}
use Rattle.cluster_world.specs.declared.link.Kept.{Kept}
use Rattle.cluster_world.proofs.Stepping.{by-first, none-left}
use Rattle.cluster_world.proofs.link.push_answered.Goals as goal

pub loop-rest-preserved-in-Welcome : goal.loop-rest-preserved-in-Welcome
loop-rest-preserved-in-Welcome c =
    let rest : List Kept = c.loop-rest.rest.now in
    let tail : List Kept = take (length rest - 1) (drop 1 rest) in
    let first : rest ≡ c.kept-item.result ∷ tail = by-first rest c.kept-item.result c.in-len1-up.len_at_least c.kept-item.is in
    ap (λ ks. c.loop-rest.lost.items ++ each_lost (kept_for ks)) (sym (first ∙ ap (λ k. k ∷ tail) c.in-Welcome.is)) ∙ c.loop-rest.invariant

pub loop-rest-preserved-in_ok-push-in-Refusal : goal.loop-rest-preserved-in_ok-push-in-Refusal
loop-rest-preserved-in_ok-push-in-Refusal c =
    let rest : List Kept = c.loop-rest.rest.now in
    let tail : List Kept = take (length rest - 1) (drop 1 rest) in
    let first : rest ≡ c.kept-item.result ∷ tail = by-first rest c.kept-item.result c.in-len1-up.len_at_least c.kept-item.is in
    ap (λ lost. lost ++ each_lost (kept_for tail)) c.in_ok-push-in-Refusal.ensures.items
    ∙ append_assoc c.loop-rest.lost.items ((c.in-Refusal.ticket, told.Lost) ∷ []) (each_lost (kept_for tail))
    ∙ ap (λ ks. c.loop-rest.lost.items ++ each_lost (kept_for ks)) (sym (first ∙ ap (λ k. k ∷ tail) c.in-Refusal.is)) ∙ c.loop-rest.invariant

pub returns : goal.returns
returns c =
    let none : c.loop-rest.rest.now ≡ [] = none-left c.loop-rest.rest.now c.in_default.len_below in
    sym (append-nil c.loop-rest.lost.items) ∙ ap (λ ks. c.loop-rest.lost.items ++ each_lost (kept_for ks)) (sym none) ∙ c.loop-rest.invariant
