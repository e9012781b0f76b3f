-- The headline of a system's log, by that of the world that the system stands for.
use Rattle.std.proofs.Common.{◌≡◌, ℕ, sym, ap, ◌∙◌, subst}
use Rattle.node_model.specs.Nodes.{ClusterModel}
use Rattle.node_model.specs.Store.{StoreModel}
use Rattle.key_split.specs.Laws.{PlansArePlain}
use Rattle.world_laws.specs.Headline.{AnyTicket, IsSound, store_of}
use Rattle.shared_laws.specs.Shared.{IsOurs}
use Rattle.shared_laws.proofs.SharedRuns.{steady-sound}
use Rattle.turn_laws.specs.LogHeadline.{IsHeld, HeadlineOfLogs, LogHeadline, LogsAreHeld, history, left_by}
use Rattle.turn_laws.specs.SharedLog.{HeadlineOfSharedLogs, SharedEndsAreSound, SharedLogHeadline, SharedLogsAreHeld}
use Rattle.turn_laws.proofs.LogHeadline.{left, log-headline, log-held}
use Rattle.turn_laws.proofs.Sharing.{shared-refines}
use Rattle.turn_laws.proofs.Walks.{alone-walked, walked-steady}
use Rattle.turn_laws.proofs.Refines.{refines}

module _ (C J : Type 0) (plain : PlansArePlain) where
  pub headline-of-logs : HeadlineOfLogs C J
  headline-of-logs s s' events start steps =
      let r = refines C J plain s s' events start steps in
      subst (λ first. LogHeadline first s'.log) (r.2).initial (log-headline AnyTicket s'.log r.0 (r.2).log (alone-walked r.0 r.1) r.3)

  pub logs-are-held : LogsAreHeld C J
  logs-are-held s s' events start steps =
      let r = refines C J plain s s' events start steps in
      subst (λ (x : StoreModel × ClusterModel). IsHeld x.0 s'.log x.1) (λ i. ((r.2).initial i, (r.2).cluster i)) (log-held AnyTicket s'.log r.0 (r.2).log (alone-walked r.0 r.1) r.3)

  -- and where others act
  pub headline-of-shared-logs : HeadlineOfSharedLogs C J
  headline-of-shared-logs s s' events start steps =
      let r = shared-refines C J plain s s' events start steps in
      subst (λ (x : StoreModel × ℕ). SharedLogHeadline x.0 x.1 s'.log) (λ i. ((r.2).initial i, sym (r.2).workers i)) (log-headline (IsOurs r.0) s'.log r.0 (r.2).log r.1 r.3)

  pub shared-logs-are-held : SharedLogsAreHeld C J
  shared-logs-are-held s s' events start steps =
      let r = shared-refines C J plain s s' events start steps in
      subst (λ (x : StoreModel × ClusterModel). IsHeld x.0 s'.log x.1) (λ i. ((r.2).initial i, (r.2).cluster i)) (log-held (IsOurs r.0) s'.log r.0 (r.2).log r.1 r.3)

  -- what they leave
  pub shared-ends-are-sound : SharedEndsAreSound C J
  shared-ends-are-sound s s' events start steps =
      let r = shared-refines C J plain s s' events start steps in
      let store : store_of r.0 ≡ left_by s'.initial (history s'.log) = left (IsOurs r.0) s'.log r.0 (r.2).log r.1 r.3 ∙ ap (λ (first : StoreModel). left_by first (history s'.log)) (r.2).initial in
      subst (λ (x : StoreModel × ClusterModel). IsSound x.0 x.1) (λ i. (store i, (r.2).cluster i)) (steady-sound (r.1).0 r.0 (walked-steady r.0 r.1))
