use Rattle.std.proofs.Common.{◌<◌, length, refl, rules}
use Rattle.proxy_lanes.specs.Lane.{Posts}
use Rattle.proxy_lanes.proofs.Changing.{changed}
use Rattle.socket_proxy.proofs.dealer.Dealer.post_to.Goals as goal

pub returns-clause-lane : goal.returns-clause-lane
returns-clause-lane c =
    let below : c.args.worker < length c.args.self.now.outlets.items = search (rules, c.requires) in
    changed (λ old new. Posts old new c.args.arrival c.post.result) _ _ _ _ _ below refl c.index_mut.ensures.value c.post.ensures
