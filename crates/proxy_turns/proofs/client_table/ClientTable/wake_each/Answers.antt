use Rattle.std.proofs.Common.{◌∙◌, arith, get_or, refl, subst, sym}
use Rattle.std.specs.Prelude.{All}
use Rattle.proxy_turns.specs.Awake.{IsAwake}
use Rattle.proxy_turns.proofs.Sleeping.{all_awake, one_more_awake}
use Rattle.proxy_turns.proofs.client_table.ClientTable.wake_each.Goals as goal

pub loop-rest-init : goal.loop-rest-init
loop-rest-init g c = record { entries = refl; woken = λ marks fewer awake. awake }

pub loop-rest-preserved : goal.loop-rest-preserved
loop-rest-preserved g c =
    let i = c.loop-rest.invariant in
    let same = c.wake.ensures.entries ∙ i.entries in
    record {
      entries = same;
      woken = one_more_awake c.args.self.now.entries c.args.numbers.now c.loop-rest.rest.now c.loop-rest.self.marks c.wake.new.self.marks c.in-len1-up.len_at_least c.wake.ensures.others
          (subst (λ e. IsAwake e c.wake.new.self.marks (get_or c.loop-rest.rest.now 0 0)) same c.wake.ensures.woken) i.woken;
    }

pub returns-clause-woken : goal.returns-clause-woken
returns-clause-woken g c =
    let i = c.loop-rest.invariant in
    subst (λ e. All (IsAwake e c.loop-rest.self.marks) c.args.numbers.now) (sym i.entries) (i.woken c.loop-rest.self.marks (λ place marked. marked) (all_awake (IsAwake c.args.self.now.entries c.loop-rest.self.marks) c.loop-rest.rest.now (omega arith)))
