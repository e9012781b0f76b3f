-- A worker over clients of any kind does what a worker of the system may do.
use Rattle.std.proofs.Common.{List, [], ◌∷◌, Ok, Err}
use Rattle.std.specs.List.{FoldsTo}
use Rattle.key_split.specs.declared.travel.Ended.{Ended}
use Rattle.key_split.specs.declared.travel.Ticket.{Ticket}
use Rattle.proxy_turns.specs.Port.{Moves}
use Rattle.proxy_turns.specs.ClientModel.{ClientModel}
use Rattle.proxy_turns.specs.ClientTurn.{ClientContext, ClientEvent, Pulled, Fed, Read, HandedOut, Followed, Looked, CameBack, Posted, Drained, Pushed, Tried, Parted, Dropped, ClientDoes, Finishes}
use Rattle.proxy_turns.specs.WorkerModel.{WorkerModel, WorkerEvent, Did, Finished, Took, FoundNone, Came, TurnedAway, FoundNobody, Left, WorkerDoes}
use Rattle.turn_laws.specs.PortsMay.{any_moves}
use Rattle.turn_laws.specs.AnyPort.{AnyClients, AnyClientTurns}

any-client : {C : Type 0} (moves : Moves C) (event : ClientEvent) (old new : ClientContext C) → ClientDoes moves old event new → ClientDoes any_moves old event new
any-client moves (Pulled bytes) old new d = (tt, d.1)
any-client moves (Fed result) old new d = d
any-client moves (Read result) old new d = d
any-client moves (HandedOut ticket part) old new d = d
any-client moves (Followed ticket part) old new d = d
any-client moves (Looked slot) old new d = d
any-client moves (CameBack run) old new d = d
any-client moves (Posted run) old new d = d
any-client moves (Drained n) old new d = d
any-client moves (Pushed bytes) old new d = (tt, d.1, d.2)
any-client moves Tried old new d = (tt, d.1)
any-client moves Parted old new d = (d.0, tt, d.2, d.3)
any-client moves (Dropped tickets) old new d = d

any-finish : {C : Type 0} (moves : Moves C) (ticket : Ticket) (end : Ended) (old new : ClientModel C) → Finishes moves old ticket end new → Finishes any_moves old ticket end new
any-finish moves ticket end old new d = (d.0, tt, d.2, d.3)

module _ (C J : Type 0) (moves : Moves C) where
  pub any-clients : AnyClients C J moves
  any-clients (Did number event) old new d = (d.0, d.1, d.2, any-client moves event _ _ d.3, d.4)
  any-clients (Finished number ticket end) old new d = (d.0, d.1, d.2, any-finish moves ticket end d.0 d.1 d.3, d.4)
  any-clients (Took ticket told) old new d = d
  any-clients FoundNone old new d = d
  any-clients (Came number) old new d = d
  any-clients (TurnedAway number) old new d = (d.0, d.1, d.2, d.3, d.4, d.5, d.6, tt, d.8)
  any-clients FoundNobody old new d = d
  any-clients (Left number) old new d = (d.0, d.1, d.2, tt, d.4)

  events : (es : List WorkerEvent) (old new : WorkerModel C J) → FoldsTo (WorkerDoes moves) old es new → FoldsTo (WorkerDoes any_moves) old es new
  events [] old new f = f
  events (e ∷ es) old new f = (f.0, any-clients e old f.0 f.1, events es f.0 new f.2)

  pub any-client-turns : AnyClientTurns C J moves
  any-client-turns old new (Ok moved) d = (d.0, events d.0 old new d.1, d.2)
  any-client-turns old new (Err refused) d = (d.0, (d.1.0, events d.1.0 old new d.1.1, d.1.2))
