use Rattle.shared_laws.proofs.Proxies.{each_is_shared, every_proxy}
use Rattle.shared_laws.proofs.laws.every_proxy.Goals as goal

pub returns-clause-projection : goal.returns-clause-projection
returns-clause-projection c = each_is_shared

pub returns-clause-headline : goal.returns-clause-headline
returns-clause-headline c = every_proxy
