use Rattle.socket_proxy.proofs.Dealt.{dealt-to}
use Rattle.socket_proxy.proofs.dealer.Dealer.deal.Goals as goal

pub returns : goal.returns
returns c =
    let counted = c.count_clients.new.self in
    let dealt = c.post_to-dealt in
    dealt-to counted.clients dealt.new.self.clients c.args.self.now.outlets counted.outlets dealt.new.self.outlets c.deref.result.now c.in-Some.worker c.args.arrival dealt.result
    c.deref.ensures.value dealt.ensures.clients c.count_clients.ensures c.in-Some.ensures dealt.ensures.lane
