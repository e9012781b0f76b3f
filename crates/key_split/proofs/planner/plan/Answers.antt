use Rattle.std.proofs.Common.{◌≡◌, ◌-◌, arith, drop, length, length-drop, subst, sym, take}
use Rattle.std.proofs.lemmas.List.{take_all}
use Rattle.key_split.specs.Wishes.{HasWords, made}
use Rattle.key_split.proofs.Joinable.{made-joins, IfOk-planned}
use Rattle.key_split.proofs.planner.plan.Goals as goal

pub returns-in-Ok-clause-joinable : goal.returns-in-Ok-clause-joinable
returns-in-Ok-clause-joinable c =
    let words = c.args.words.now in
    let all : take (length words - 1) (drop 1 words) ≡ drop 1 words = take_all (length words - 1) (drop 1 words) (omega (arith, length-drop 1 words)) in
    IfOk-planned (made c.in-Ok.wish (take (length words - 1) (drop 1 words))) c.make.result c.make.ensures
    (made-joins c.in-Ok.wish _ (subst (HasWords c.in-Ok.wish) (sym all) c.in-Ok.ensures.1))
