use Rattle.std.proofs.Common.{◌∙◌, map, sym, ap}
use Rattle.std.specs.Prelude.{◌&&◌}
use Rattle.std.specs.List.{list_all}
use Rattle.std.specs.Str.{bytes_eq}
use Rattle.key_split.specs.PartModel.{Pair}
use Rattle.node_model.proofs.AllDone.{all-firsts}
use Rattle.node_model.proofs.runs.is_at.Goals as goal

pub returns-then-eq : goal.returns-then-eq
returns-then-eq c =
    let first = c.args.first.now in
    let rest = c.args.part.now.rest in
    c.pairs_are_at.ensures ∙ ap (list_all (λ (pair : Pair). bytes_eq pair.0 first)) c.rest.ensures.value ∙ sym (all-firsts (λ key. bytes_eq key first) rest)
    ∙ ap (λ b. b && list_all (λ key. bytes_eq key first) (map (λ (pair : Pair). pair.0) rest)) (c.if-eq.ensures ∙ ap (λ k. bytes_eq k first) (c.as_slice.ensures ∙ c.key.ensures))
