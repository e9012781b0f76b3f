use Rattle.std.proofs.Common.{◌≡◌, true, false, refl}
use Rattle.cluster_world.specs.Machine.{state_of}
use Rattle.cluster_world.proofs.Linking.{asking-refused, welcomes}
use Rattle.cluster_world.proofs.machine.Machine.serve_asking.Goals as goal

pub returns-then-not-is_plain : goal.returns-then-not-is_plain
returns-then-not-is_plain c = asking-refused Unit (state_of c.args.self.now) c.args.link c.args.verdict c.requires (λ e. let no : false ≡ true = c.if-not-is_plain.ensures.1 e in absurd (cc))

pub returns : goal.returns
returns c = welcomes (state_of c.args.self.now) c.args.link c.args.verdict c.welcome.result c.welcome.new.self (c.if-not-is_plain.ensures.0 refl) c.requires c.welcome.ensures
