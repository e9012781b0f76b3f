-- What single steps are.
use Rattle.std.proofs.Common.{◌≡◌, ⊎_elim, suc, false, List, [], ◌∷◌, Some, refl, ap, ◌∙◌, subst, arith}
use Rattle.std.specs.Prelude.{All, map, slice_get}
use Rattle.std.proofs.lemmas.List.Elements.{All-cons, All-nil}
use Rattle.key_split.specs.declared.travel.Batch.{Batch}
use Rattle.key_split.specs.declared.travel.Ticket.{Ticket}
use Rattle.key_split.specs.declared.travel.Told.{Told}
use Rattle.key_split.specs.declared.travel.Told.TheVariants.{Unsent}
use Rattle.key_split.specs.Runs.{batches_in}
use Rattle.session_order.specs.Steps.{IsHandedOut}
use Rattle.proxy_turns.specs.declared.newcomer.Newcomer.{Newcomer}
use Rattle.proxy_turns.specs.Backend.{fresh_link}
use Rattle.proxy_turns.specs.CarrierModel.{CarrierModel}
use Rattle.world_laws.specs.State.{HasEnded}
use Rattle.world_laws.proofs.Recorded.{set-same}
use Rattle.turn_laws.specs.Wire.{Wire}
use Rattle.turn_laws.specs.System.{System}
use Rattle.turn_laws.specs.PortsMay.{any_moves}
use Rattle.turn_laws.specs.Underway.{refused_in}
use Rattle.turn_laws.specs.Shadow.{IsUnderWay}
use Rattle.turn_laws.specs.Asking.{NoneBehindAsking}
use Rattle.turn_laws.specs.SingleSteps.{EarlierOnesEnd, RefusalsComeBack, PostedRunsFit, PostedRunsLead, TablesReadAlike, NumbersAreNew, NoneIsLeft, ImportsWait}
use Rattle.turn_laws.proofs.RunsLead.{posts-there}
use Rattle.turn_laws.proofs.SameTold.{same-told}

pub earlier-ones-end : EarlierOnesEnd
earlier-ones-end session arrivals ticket h i j c d at-i at-j before one turn none =
    ⊎_elim (λ (e : HasEnded d). e) (λ (o : IsHandedOut session d.command.ticket). absurd (none o)) (h i j c d at-i at-j before one turn)

pub refusals-come-back : RefusalsComeBack
refusals-come-back commands k run h = go (batches_in run) h.1
  where
    OfWorker : Ticket × Told → Type 0
    OfWorker pair = pair.0.worker ≡ k

    go : (bs : List Batch) → All (IsUnderWay commands k) bs → All OfWorker (refused_in (map (λ (batch : Batch). batch.ticket) bs))
    go [] all = All-nil OfWorker
    go (b ∷ bs) all =
        All-cons OfWorker (b.ticket, Unsent) (refused_in (map (λ (batch : Batch). batch.ticket) bs)) (all 0 b (omega arith)).1 (go bs (λ n c lt. all (suc n) c (omega (arith, lt))))

module _ (C J : Type 0) where
  pub posted-runs-fit : PostedRunsFit C J
  posted-runs-fit k number run s s' w h on = omega (arith, on.does.3.10, h.limit)

  pub posted-runs-lead : PostedRunsLead C J
  posted-runs-lead k number run s s' names on =
      posts-there any_moves _ number run on.old on.new s.carrier.published names.seed names.published on.shown (λ n client e part c f. names.posted k on.old n client part c on.at e f) on.does

  pub tables-read-alike : TablesReadAlike C J
  tables-read-alike event s s' w h on k link value told works says =
      let node : link.node ≡ k = ((h.links).backends k link works).0 in
      same-told s.nodes s.carrier.nodes s'.carrier.nodes value link.node told h.room h.table on.table (omega (arith, node, h.listed k works.0 link works.1 works.2)) says

  pub numbers-are-new : NumbersAreNew C J
  numbers-are-new s s' w h on =
      let d = on.does in
      let link = fresh_link d.3 d.0 in
      let id : d.3.id ≡ s.opened = ap (λ (wire : Wire). wire.id) (d.7).2 in (
        d.0,
        link,
        (
          record d.1 { link = Some link; asked = false },
          ap (λ (c : CarrierModel (Newcomer C J) Wire). slice_get c.backends d.0) d.8 ∙ set-same s.carrier.backends d.0 d.1 (record d.1 { link = Some link; asked = false }) d.4,
          refl,
          refl,
        ),
        omega (arith, id, ap (λ (x : System C J). x.opened) on.leaves),
        λ m other works same. omega (arith, id, same, ((h.links).backends m other works).1),
      )

  pub none-is-left : NoneIsLeft C J
  none-is-left s s' j on =
      (record on.0 { items = [] }, ap (λ (x : System C J). slice_get x.closed j) on.2 ∙ set-same s.closed j on.0 (record on.0 { items = [] }) on.1, refl)

  pub imports-wait : ImportsWait C J
  imports-wait s slot node k link parts rest none works at first flag = (subst (NoneBehindAsking slot link.port.asking) first (none.sent k link works at)).0 flag
