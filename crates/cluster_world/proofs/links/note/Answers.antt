use Rattle.std.proofs.Common.{rules, ◌≡◌, List, [], ◌∷◌, ◌++◌, length, sym, subst}
use Rattle.key_split.specs.declared.travel.Told.{Told}
use Rattle.resp_wire.specs.Seen.{data_of}
use Rattle.node_model.specs.History.{EntryModel}
use Rattle.cluster_world.specs.Kept.{Notes}
use Rattle.cluster_world.specs.declared.link.Kept.TheVariants.{Entry}
use Rattle.cluster_world.proofs.Shown.{notes-reply}
use Rattle.cluster_world.proofs.links.note.Goals as goal

pub returns-in-Reply-clause-notes : goal.returns-in-Reply-clause-notes
returns-in-Reply-clause-notes c =
    let place : c.len-place.result ≡ length c.args.history.now.items = search rules in
    subst (λ (new : List EntryModel). Notes c.args.history.now.items c.args.ticket c.args.part c.args.moment c.args.told new (Entry c.args.ticket c.len-place.result)) (sym c.push_reserved.ensures.items)
    (subst (λ (told : Told). Notes c.args.history.now.items c.args.ticket c.args.part c.args.moment told (c.args.history.now.items ++ record { ticket = c.args.ticket; part = c.args.part; reply = data_of c.in-Reply.reply; moment = c.args.moment } ∷ []) (Entry c.args.ticket c.len-place.result)) (sym c.in-Reply.is)
    (notes-reply c.args.history.now.items c.args.ticket c.args.part c.args.moment c.in-Reply.reply c.len-place.result place))
