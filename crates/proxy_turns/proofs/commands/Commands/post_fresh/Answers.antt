use Rattle.std.proofs.Common.{◌∙◌, inl, refl, subst, sym}
use Rattle.std.proofs.lemmas.Result.{err_from_is_err_and}
use Rattle.proxy_turns.specs.Commands.{AreOneRun}
use Rattle.proxy_turns.proofs.Tables.{same_look-ups}
use Rattle.proxy_turns.proofs.Posting.{front_item, may_all, none_back, none_made, posts_all, same_commands}
use Rattle.proxy_turns.proofs.commands.Commands.post_fresh.Goals as goal

pub returns-in_default-clause-posts : goal.returns-in_default-clause-posts
returns-in_default-clause-posts g c =
    let same = same_look-ups c.self.inside.posted.entries c.reserve.new.self.entries c.reserve.ensures.entries.2 in
    rw (← c.self.view_is) (same_commands c.self.inside.fresh.items _ _ same, 0, (inl refl, inl refl))

pub run_of-requires-clause-later : goal.run_of-requires-clause-later
run_of-requires-clause-later g c =
    let whole = sym c.as_slice.ensures.value ∙ front_item c.as_slice.result.now c.first-item.result c.in-len1-up.len_at_least c.first-item.is in
    (subst AreOneRun whole (rw (← c.self.view_is) at c.requires)).1

pub returns-in_err-run-clause-posts : goal.returns-in_err-run-clause-posts
returns-in_err-run-clause-posts g c =
    let same = same_look-ups c.self.inside.posted.entries c.reserve.new.self.entries c.reserve.ensures.entries.2 in
    let whole = sym c.as_slice.ensures.value ∙ front_item c.as_slice.result.now c.first-item.result c.in-len1-up.len_at_least c.first-item.is in
    let is = (err_from_is_err_and c.from_residual-in_err-run.result c.from_residual-in_err-run.ensures.1).1 in
    rw (is, ← c.self.view_is) (none_made c.self.inside.fresh.items c.first-item.result _ whole c.self.inside.posted.entries c.reserve.new.self.entries same c.args.uplink.now.outlet c.args.uplink.now.outlet c.args.uplink.now.view c.aim.new.view c.in-Some.node c.in-Some.ensures.aims)

pub returns-then-not-post_run-clause-posts : goal.returns-then-not-post_run-clause-posts
returns-then-not-post_run-clause-posts g c =
    let same = same_look-ups c.self.inside.posted.entries c.reserve.new.self.entries c.reserve.ensures.entries.2 in
    let whole = sym c.as_slice.ensures.value ∙ front_item c.as_slice.result.now c.first-item.result c.in-len1-up.len_at_least c.first-item.is in
    rw (← c.self.view_is) (none_back c.self.inside.fresh.items c.first-item.result _ whole c.self.inside.posted.entries c.reserve.new.self.entries same c.args.uplink.now.outlet c.post_run.new.outlet c.args.uplink.now.view c.aim.new.view c.in-Some.node c.in-Some.ensures.aims
    c.in_ok-run.run' (rw c.if-not-post_run.true at c.post_run.ensures))

pub keep_posted-requires-clause-may : goal.keep_posted-requires-clause-may
keep_posted-requires-clause-may g c =
    may_all c.self.inside.fresh.items c.in-Some.node (rw (← c.self.view_is) at c.requires)

pub returns-clause-posts : goal.returns-clause-posts
returns-clause-posts g c =
    let same = same_look-ups c.self.inside.posted.entries c.reserve.new.self.entries c.reserve.ensures.entries.2 in
    let whole = sym c.as_slice.ensures.value ∙ front_item c.as_slice.result.now c.first-item.result c.in-len1-up.len_at_least c.first-item.is in
    rw (← c.self.view_is) (posts_all c.self.inside.fresh.items c.first-item.result _ whole c.self.inside.posted.entries c.reserve.new.self.entries same c.args.uplink.now.outlet c.post_run.new.outlet c.args.uplink.now.view c.aim.new.view c.in-Some.node c.in-Some.ensures.aims
    c.in_ok-run.run' c.in_ok-run.ensures (rw c.if-not-post_run.false at c.post_run.ensures) c.free_large.new.commands.items (c.free_large.ensures ∙ c.keep_posted.ensures.none) c.keep_posted.new.posted.entries
    c.keep_posted.ensures.posted)
