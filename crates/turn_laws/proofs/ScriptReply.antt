-- What the client, its session and the connections are while the second request is on its way.
use Rattle.std.proofs.Common.{◌*◌, ◌<◌, true, false, List, [], ◌∷◌, ◌++◌, Some, None, refl, arith, length}
use Rattle.std.specs.Prelude.{codes}
use Rattle.std.specs.FinMap.{FinMap, insert}
use Rattle.std.specs.Ordering.{nat_cmp}
use Rattle.key_split.specs.declared.travel.Ended.TheVariants as ended
use Rattle.key_split.specs.declared.travel.Told.TheVariants.{Ask, Reply}
use Rattle.slot_hash.specs.Slot.{slot_of}
use Rattle.node_link.specs.declared.link.Due.TheVariants as due
use Rattle.proxy_turns.specs.declared.backend.Backend.{Backend}
use Rattle.proxy_turns.specs.Backend.{new_pending_told}
use Rattle.proxy_turns.specs.ClientModel.{ClientModel}
use Rattle.session_order.specs.SessionModel.{SessionModel}
use Rattle.session_order.specs.Replies.{Drains, bytes_of, first_replies}
use Rattle.session_order.specs.declared.queue.PartStage.TheVariants.{Out, Done}
use Rattle.turn_laws.specs.Wire.{Wire, Asks, Runs}
use Rattle.turn_laws.specs.System.{Mark}
use Rattle.turn_laws.specs.System as seen
use Rattle.turn_laws.specs.Scripts as script
use Rattle.turn_laws.specs.Scripts.{key, five, ticket, did}
use Rattle.turn_laws.proofs.ScriptFacts.{ask, written-five}
use Rattle.turn_laws.proofs.ScriptStates.{session, one, commands, getting, posted3, posted4, posted5, posted6, posted7, posted8, wire, link, backend, client}
use Rattle.turn_laws.proofs.ScriptSetting.{below-one, t13, log4}

abbrev pub n7 : SessionModel
n7 = session (Out (slot_of key) ∷ []) (ended.Lost ∷ []) (one ∷ []) 1 []

abbrev pub n8 : SessionModel
n8 = session (Done ∷ []) (ended.Answered five ∷ []) (one ∷ []) 1 []

abbrev pub n9 : SessionModel
n9 = session [] [] [] 2 []

pub drains : Drains (64 * 1024) n8 (codes "$1\r\n5\r\n") n9
drains = record {
  count = 1;
  written = record {
    in_order = omega arith;
    spelled = written-five;
    no_more = below-one (λ fewer. length (bytes_of (first_replies fewer n8.requests n8.stages n8.ends [])) < 64 * 1024) (omega arith);
    all = λ short. refl;
  };
  left = refl;
  all = λ short. (written-five, refl);
}

module _ {C : Type 0} (port : C) where
  abbrev pub a11 : ClientModel C
  a11 = client port n7 (commands (getting ∷ []) posted3) [] []

  abbrev pub a12 : ClientModel C
  a12 = client port n7 (commands [] posted4) [] []

  abbrev pub a13 : ClientModel C
  a13 = client port n7 (commands [] posted5) [] []

  abbrev pub a14 : ClientModel C
  a14 = client port n7 (commands [] posted6) [] []

  abbrev pub a15 : ClientModel C
  a15 = client port n7 (commands [] posted7) [] []

  abbrev pub a16 : ClientModel C
  a16 = client port n8 (commands [] posted8) [] []

  abbrev pub a17 : ClientModel C
  a17 = client port n9 (commands [] posted8) [] (codes "$1\r\n5\r\n")

  abbrev pub a18 : ClientModel C
  a18 = client port n9 (commands [] posted8) [] []

  abbrev pub t14 : FinMap nat_cmp (ClientModel C)
  t14 = insert (t13 port) 0 a11

  abbrev pub t15 : FinMap nat_cmp (ClientModel C)
  t15 = insert t14 0 a12

  abbrev pub t16 : FinMap nat_cmp (ClientModel C)
  t16 = insert t15 0 a13

  abbrev pub t17 : FinMap nat_cmp (ClientModel C)
  t17 = insert t16 0 a14

  abbrev pub t18 : FinMap nat_cmp (ClientModel C)
  t18 = insert t17 0 a15

  abbrev pub t19 : FinMap nat_cmp (ClientModel C)
  t19 = insert t18 0 a16

  abbrev pub t20 : FinMap nat_cmp (ClientModel C)
  t20 = insert t19 0 a17

  abbrev pub t21 : FinMap nat_cmp (ClientModel C)
  t21 = insert t20 0 a18

-- the first connection with the command, with its refusal, and with what its worker is told
abbrev pub sent : Backend Wire
sent = backend (Some (link 0 (wire 0 (Runs ((ticket 1, script.get) ∷ []) ∷ []) [] false) (due.Command (ticket 1) ∷ []))) None

abbrev pub refused : Backend Wire
refused = backend (Some (link 0 (wire 0 [] (ask ∷ []) false) (due.Command (ticket 1) ∷ []))) None

abbrev pub got : Backend Wire
got = backend (Some (link 0 (wire 0 [] [] false) [])) (Some (new_pending_told (ticket 1) (Ask 1 1)))

-- the second connection, when it was opened, with what was sent, after ASKING was served, and after the command was
abbrev pub opened : Backend Wire
opened = backend (Some (link 1 (wire 1 [] [] false) [])) None

abbrev pub both-due : Backend Wire
both-due = backend (Some (link 1 (wire 1 (Asks ∷ Runs ((ticket 1, script.get) ∷ []) ∷ []) [] false) (due.Asking ∷ due.Command (ticket 1) ∷ []))) None

abbrev pub welcomed : Backend Wire
welcomed = backend (Some (link 1 (wire 1 (Runs ((ticket 1, script.get) ∷ []) ∷ []) (script.ok ∷ []) true) (due.Asking ∷ due.Command (ticket 1) ∷ []))) None

abbrev pub both-served : Backend Wire
both-served = backend (Some (link 1 (wire 1 [] (script.ok ∷ five ∷ []) false) (due.Asking ∷ due.Command (ticket 1) ∷ []))) None

abbrev pub one-left : Backend Wire
one-left = backend (Some (link 1 (wire 1 [] (five ∷ []) false) (due.Command (ticket 1) ∷ []))) None

abbrev pub fetched : Backend Wire
fetched = backend (Some (link 1 (wire 1 [] [] false) [])) (Some (new_pending_told (ticket 1) (Reply five)))

abbrev pub log5 : List Mark
log5 = log4 ++ seen.Executed (did 1 script.get five ∷ []) ∷ []

abbrev pub log6 : List Mark
log6 = log5 ++ seen.Answered (ticket 1) (ended.Answered five) ∷ []
