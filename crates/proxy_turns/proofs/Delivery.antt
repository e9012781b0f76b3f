-- A pair that a lane hands back is the one that was given; what a backend gives.
use Rattle.std.proofs.Common.{◌≡◌, ◌∙◌, inl, inr, true, false, List, Option, Some, None, Result, Ok, Err, refl, sym, ap, subst}
use Rattle.key_split.specs.declared.travel.Ticket.{Ticket}
use Rattle.key_split.specs.declared.travel.Told.{Told}
use Rattle.proxy_lanes.specs.declared.ring.Outlet.{Outlet}
use Rattle.proxy_lanes.specs.declared.ends.lane_ends.LaneEnds.{LaneEnds}
use Rattle.proxy_lanes.specs.Ends.{ChangesAt, Gives, GivesDown}
use Rattle.proxy_turns.specs.declared.backend.Backend.{Backend}
use Rattle.proxy_turns.specs.declared.backend.PendingTold.{PendingTold}
use Rattle.proxy_turns.specs.Backend.{is_unpublished}
use Rattle.proxy_turns.specs.PendingRun.{DeliverOutcome, Delivers, GiveOutcome, WaitsToGive}
use Rattle.proxy_turns.proofs.Backends.{none_where}

comes_back : (old new : Option (Outlet (Ticket × Told))) (pair back : Ticket × Told) → Gives old new pair (Err back) → back ≡ pair
comes_back (Some old) new pair back (next, is, posts) = posts.1
comes_back None new pair back (is, given) = cc

pub delivered : {H : Type 0} (old new : List (LaneEnds H)) (pair : Ticket × Told) (given : Result (Unit {0}) (Ticket × Told))
    → ChangesAt old pair.0.worker new (λ lane lane'. GivesDown lane lane' pair given) → DeliverOutcome old pair given new
delivered old new pair (Ok u) changes = inl changes
delivered {H} old new pair (Err back) (x, y, at, is, gives) =
    let same : back ≡ pair = comes_back x.down y.down pair back gives.1 in
    let P : Ticket × Told → Type 0 = λ b. GivesDown x y pair (Err b) in
    (same, (x, y, at, is, subst P same gives))

none_to_publish : (o : Option PendingTold) (pending_told : PendingTold) → o ≡ Some pending_told → is_unpublished o ≡ false → pending_told.change ≡ None
none_to_publish None pending_told is published = absurd (cc)
none_to_publish (Some other) pending_told is published =
    let same : other ≡ pending_told = cc in
    ap (λ (p : PendingTold). p.change) (sym same) ∙ none_where other.change published

pub waits_to_publish : {H : Type 0} (o : Option PendingTold) (lanes : List (LaneEnds H)) → is_unpublished o ≡ true → WaitsToGive o lanes lanes
waits_to_publish None lanes unpublished = refl
waits_to_publish (Some pending_told) lanes unpublished = inl (unpublished, refl)

-- the pending pair is given
pub gives : {H P : Type 0} (backend : Backend P) (pending_told : PendingTold) (left : Option PendingTold) (lanes lanes' : List (LaneEnds H))
    → backend.pending_told ≡ Some pending_told → is_unpublished backend.pending_told ≡ false → left ≡ None
    → Delivers lanes (pending_told.ticket, pending_told.told) lanes' → GiveOutcome backend lanes true (record backend { pending_told = left }) lanes'
gives backend pending_told left lanes lanes' is published none delivers =
    (pending_told, is, none_to_publish backend.pending_told pending_told is published, delivers, λ i. record backend { pending_told = none i })

-- it came back, and was put where it was
pub keeps : {H P : Type 0} (backend : Backend P) (pending_told : PendingTold) (now : Option PendingTold) (lanes lanes' : List (LaneEnds H)) (back : Ticket × Told)
    → backend.pending_told ≡ Some pending_told → is_unpublished backend.pending_told ≡ false → now ≡ Some (record { ticket = back.0; told = back.1; change = None })
    → DeliverOutcome lanes (pending_told.ticket, pending_told.told) (Err back) lanes' → GiveOutcome backend lanes false (record backend { pending_told = now }) lanes'
keeps backend pending_told now lanes lanes' back is published kept comes =
    let none = none_to_publish backend.pending_told pending_told is published in
    let put : now ≡ backend.pending_told = kept ∙ ap (λ (pair : Ticket × Told). Some (record { ticket = pair.0; told = pair.1; change = None })) comes.0
    ∙ ap (λ change. Some (record pending_told { change = change })) (sym none) ∙ sym is in
    let Q : Option PendingTold → Type 0 = λ o. WaitsToGive o lanes lanes' in
    ((λ i. record backend { pending_told = put i }), subst Q (sym is) (inr (none, comes.1)))
