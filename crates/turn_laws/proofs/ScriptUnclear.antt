-- The first node sends the command on by a line without a port: nothing was executed, and the command is to be posted again.
use Rattle.std.proofs.Common.{◌≡◌, inl, inr, true, false, List, [], ◌∷◌, ◌++◌, Some, None, Ok, refl, arith}
use Rattle.std.specs.Prelude.{codes}
use Rattle.std.specs.List.{FoldsTo}
use Rattle.std.specs.FinMap.{FinMap, insert}
use Rattle.std.specs.Ordering.{nat_cmp}
use Rattle.resp_wire.specs.declared.value.Value.{Value}
use Rattle.resp_wire.specs.declared.value.Value.TheVariants.{Error}
use Rattle.resp_wire.specs.Laws.{FrontIsWhole}
use Rattle.key_split.specs.declared.travel.Told.TheVariants as told
use Rattle.slot_hash.specs.Slot.{slot_of}
use Rattle.command_future.specs.CommandModel.{CommandModel, progress_told}
use Rattle.node_link.specs.Telling.{told_by}
use Rattle.node_link.specs.declared.link.Due.TheVariants as due
use Rattle.node_model.specs.Runs.{deed_for, DoesRun}
use Rattle.node_model.specs.declared.role.Verdict.TheVariants.{TryAgain}
use Rattle.proxy_lanes.specs.Lane.{numbered}
use Rattle.proxy_lanes.specs.declared.ring.Numbered.{Numbered}
use Rattle.proxy_turns.specs.declared.backend.Backend.{Backend}
use Rattle.proxy_turns.specs.Backend.{new_backend, new_pending_told}
use Rattle.proxy_turns.specs.ClientModel.{ClientModel}
use Rattle.turn_laws.specs.Wire.{Wire, Runs, heard_in}
use Rattle.turn_laws.specs.System.{System}
use Rattle.turn_laws.specs.Steps.{SystemStep}
use Rattle.turn_laws.specs.Scripts as script
use Rattle.turn_laws.specs.Scripts.{key, set, ticket, plain, Happens, story_of_unclear}
use Rattle.turn_laws.proofs.Rings.{posts, takes, outlet_with}
use Rattle.turn_laws.proofs.Scenes.{scene, and-then, put, at-worker, at-client, at-carrier, down-in}
use Rattle.turn_laws.proofs.ScriptFacts.{table, seed_alone, goes-alone}
use Rattle.turn_laws.proofs.ScriptStates.{Pair, Posted, commands, wire, link, backend, pending, client}
use Rattle.turn_laws.proofs.ScriptAsking.{log2}
use Rattle.turn_laws.proofs.ScriptSetting.{idle, sent, n4}
use Rattle.turn_laws.proofs.LossStates.{j0, v1, v2, d1, x2, x3, p2, p3, e3, e4, u3, u4}
use Rattle.turn_laws.proofs.LossSending.{ends, c, w, r0, r1, r2, r3, begins, fails, asks, comes-back}

-- ---- the line

abbrev no-port : Value
no-port = Error (codes "MOVED 1 b")

-- the machine hears TRYAGAIN in it; the carrier can't read it, and learns no node from it
hears : heard_in no-port 0 table ≡ (told.TryAgain, table)
hears = refl

unreadable : told_by no-port 0 seed_alone ≡ (told.Unclear, seed_alone)
unreadable = refl

does-nothing : DoesRun (deed_for j0 0 false (set ∷ []) TryAgain) j0 0 (set ∷ []) (told.TryAgain ∷ []) j0
does-nothing = ((refl, tt), refl)

-- ---- the parts of the system

abbrev down : List (Numbered Pair)
down = numbered 0 (ticket 0, told.Unsent) ∷ numbered 1 (ticket 0, told.Unclear) ∷ []

abbrev refused : Backend Wire
refused = backend (Some (link 0 (wire 0 [] (no-port ∷ []) false) (due.Command (ticket 0) ∷ []))) None

abbrev got : Backend Wire
got = backend (Some (link 0 (wire 0 [] [] false) [])) (Some (new_pending_told (ticket 0) told.Unclear))

abbrev heard : CommandModel
heard = progress_told x3 told.Unclear

abbrev posted : Posted
posted = insert p3 0 heard

module _ {C : Type 0} (port : C) where
  abbrev waits : ClientModel C
  waits = client port n4 (commands [] posted) [] []

  abbrev clients : FinMap nat_cmp (ClientModel C)
  clients = insert (u4 port) 0 waits

module _ {C J : Type 0} (port : C) where
  abbrev left : System C J
  left = scene (w port (clients port) v2 down 0) (c port (ends port v2 down) (pending None ∷ []) (idle ∷ new_backend ∷ []) 3 []) [] 1 j0 log2

  misread : FoldsTo SystemStep (r3 {C = C} {J = J} port) script.misread left
  misread = (
    scene (w port (u4 port) v2 d1 0) (c port (ends port v1 d1) (pending None ∷ []) (new_backend ∷ new_backend ∷ []) 3 []) [] 0 j0 log2,
    at-client {J = J} (ends port v1 d1) 0 (e3 port) (e4 port) (outlet_with v2) [] refl (put _ (e3 port) 0) (
      x2,
      [],
      commands [] p2,
      inr (put _ x2 0, refl, refl),
      (λ e. absurd (cc)),
      (slot_of key, omega arith, refl, refl, refl, refl),
      tt,
      (Ok None, (([], refl), refl), refl),
      refl,
      goes-alone,
      omega arith,
      posts v1 (plain 0 0 set),
      refl,
    ) (put _ (e4 port) 0) (down-in {J = J} (ends port v1 d1) (w port (u3 port) v1 d1 0) _ refl ([], refl)) refl,
    (
      scene (w port (u4 port) v2 d1 0) (c port (ends port v2 d1) (pending (Some (plain 0 0 set)) ∷ []) (new_backend ∷ new_backend ∷ []) 3 []) [] 0 j0 log2,
      at-carrier (ends port v2 d1) (
        0,
        pending None,
        pending (Some (plain 0 0 set)),
        refl,
        (plain 0 0 set, refl, refl, (ends port v1 d1, ends port v2 d1, refl, refl, (refl, takes v1 (plain 0 0 set)))),
        refl,
      ) (refl, (refl, tt)) refl ([], refl) refl,
      (
        scene (w port (u4 port) v2 d1 0) (c port (ends port v2 d1) (pending (Some (plain 0 0 set)) ∷ []) (idle ∷ new_backend ∷ []) 3 []) [] 1 j0 log2,
        at-carrier (ends port v2 d1) (
          0,
          new_backend,
          _,
          wire 0 [] [] false,
          refl,
          refl,
          refl,
          (0, refl, refl),
          refl,
        ) (refl, (refl, tt)) refl ([], refl) refl,
        (
          scene (w port (u4 port) v2 d1 0) (c port (ends port v2 d1) (pending None ∷ []) (sent ∷ new_backend ∷ []) 3 []) [] 1 j0 log2,
          at-carrier (ends port v2 d1) (
            0,
            pending (Some (plain 0 0 set)),
            plain 0 0 set,
            idle,
            sent,
            refl,
            refl,
            refl,
            (link 0 (wire 0 [] [] false) [], link 0 (wire 0 (Runs ((ticket 0, set) ∷ []) ∷ []) [] false) (due.Command (ticket 0) ∷ []), refl, omega arith, (Ok tt, refl, (λ e. absurd (cc)), (refl, (refl, refl), refl)), refl),
            refl,
          ) (refl, (refl, tt)) refl ([], refl) refl,
          (
            scene (w port (u4 port) v2 d1 0) (c port (ends port v2 d1) (pending None ∷ []) (refused ∷ new_backend ∷ []) 3 []) [] 1 j0 log2,
            (
              sent,
              link 0 (wire 0 (Runs ((ticket 0, set) ∷ []) ∷ []) [] false) (due.Command (ticket 0) ∷ []),
              wire 0 [] (no-port ∷ []) false,
              no-port ∷ [],
              [],
              refl,
              refl,
              refl,
              inr (inl ([], (ticket 0, set) ∷ [], told.TryAgain ∷ [], refl, refl, does-nothing, (hears, tt), refl, refl)),
              refl,
              refl,
            ),
            (
              scene (w port (u4 port) v2 d1 0) (c port (ends port v2 d1) (pending None ∷ []) (got ∷ new_backend ∷ []) 3 []) [] 1 j0 log2,
              at-carrier (ends port v2 d1) (
                0,
                refused,
                got,
                refl,
                (
                  link 0 (wire 0 [] (no-port ∷ []) false) (due.Command (ticket 0) ∷ []),
                  link 0 (wire 0 [] [] false) [],
                  ticket 0,
                  told.Unclear,
                  refl,
                  (refl, (no-port, refl, inr (refl, (refl, refl)), refl, unreadable, refl)),
                  refl,
                ),
                refl,
              ) (refl, (refl, tt)) refl ([], refl) refl,
              (
                scene (w port (u4 port) v2 d1 0) (c port (ends port v2 down) (pending None ∷ []) (idle ∷ new_backend ∷ []) 3 []) [] 1 j0 log2,
                at-carrier (ends port v2 down) (
                  0,
                  got,
                  idle,
                  refl,
                  (new_pending_told (ticket 0) told.Unclear, refl, refl, inl (ends port v2 d1, ends port v2 down, refl, refl, (refl, (_, refl, posts d1 (ticket 0, told.Unclear)))), refl),
                  refl,
                ) (refl, (refl, tt)) refl ([], refl) refl,
                (
                  left,
                  at-worker (ends port v2 down) [] refl (
                    takes d1 (ticket 0, told.Unclear),
                    (true, (e4 port, waits port, put _ (e4 port) 0, (x3, (put p2 x3 0, refl, refl), refl), refl, refl)),
                    refl,
                  ) refl (down-in {J = J} (ends port v2 down) (w port (clients port) v2 down 0) _ refl ([], refl)) refl,
                  refl,
                ),
              ),
            ),
          ),
        ),
      ),
    ),
  )

  pub happens : FrontIsWhole → Happens C J script.misreads story_of_unclear
  happens law = record {
    start = r0 port;
    left = left;
    begins = begins port;
    goes =
        and-then SystemStep (r0 port) script.unreached (r1 port) (script.asking ++ (script.unsent ++ script.misread)) left (fails port)
        (and-then SystemStep (r1 port) script.asking (r2 port) (script.unsent ++ script.misread) left (asks port law)
        (and-then SystemStep (r2 port) script.unsent (r3 port) script.misread left (comes-back port) misread));
    log = refl;
  }
