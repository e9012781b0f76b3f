use Rattle.std.proofs.Common.{◌≡◌, ◌≤◌, ◌∙◌, List, ℕ, [], ap, arith, length, subst, sym, take}
use Rattle.std.proofs.lemmas.List.{length-take-le}
use Rattle.resp_wire.specs.ReaderModel.{ReaderModel}
use Rattle.node_link.specs.Bytes.{InboxModel, IsFaultFirst, IsShortWhere}
use Rattle.node_link.specs.contracts.inbox.Inbox.{the_view}
use Rattle.node_link.proofs.inbox.Inbox.make_room.Goals as goal

none_filled : (count : ℕ) (chunk : List ℕ) → count ≤ length chunk → take count chunk ≡ [] → count ≡ 0
none_filled count chunk within none = sym (length-take-le count chunk within) ∙ ap (λ (bytes : List ℕ). length bytes) none

-- nothing of either chunk waits to be fed
as_before : (count : ℕ) (before now : List ℕ) → count ≤ length before → take count before ≡ [] → take count now ≡ take count before
as_before count before now within none =
    let zero = none_filled count before within none in ap (λ n. take n now) zero ∙ sym (ap (λ n. take n before) zero)

pub invariant_of-self : goal.invariant_of-self
invariant_of-self c =
    let none = rw (← c.self.view_is) at c.requires in
    let same = as_before c.self.inside.filled c.self.inside.chunk.items c.resize.new.self.items c.self.invariant.0 none in (
      omega (arith, none_filled c.self.inside.filled c.self.inside.chunk.items c.self.invariant.0 none),
      subst (λ (unfed : List ℕ). IsFaultFirst c.give_room.new.self unfed) (sym same)
          (subst (λ (reader : ReaderModel). IsFaultFirst reader (take c.self.inside.filled c.self.inside.chunk.items)) (sym c.give_room.ensures) c.self.invariant.1),
      subst (λ (reader : ReaderModel). IsShortWhere c.self.inside.is_short reader) (sym c.give_room.ensures) c.self.invariant.2,
    )

pub returns-clause-kept : goal.returns-clause-kept
returns-clause-kept c =
    let none = rw (← c.self.view_is) at c.requires in
    let same = as_before c.self.inside.filled c.self.inside.chunk.items c.resize.new.self.items c.self.invariant.0 none in
    let room = length c.resize.new.self.items in
    let now : the_view (record c.self.inside { reader = c.give_room.new.self; chunk = c.resize.new.self }) ≡ record (the_view c.self.inside) { room = room } =
    λ i. record { fed = c.give_room.ensures i; unfed = same i; room = room } in
    now ∙ ap (λ (inbox : InboxModel). record inbox { room = room }) c.self.view_is
