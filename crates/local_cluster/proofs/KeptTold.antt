-- What a request was told, kept until it is written.
use Rattle.std.proofs.Common.{◌≡◌, ℕ, Bool, [], ◌∷◌, Option, Some, sym, subst}
use Rattle.key_split.specs.PartModel.{PartModel}
use Rattle.key_split.specs.Requests.{Command}
use Rattle.key_split.specs.declared.travel.Ticket.{Ticket}
use Rattle.key_split.specs.declared.travel.Told.{Told}
use Rattle.local_cluster.specs.Conversation.{OldestWasTold, asked_of}
use Rattle.local_cluster.specs.Held.{WasTold}

pub kept : (node : ℕ) (asking : Bool) (ticket : Ticket) (part : PartModel) (place : Option Told) (said back : Told) → place ≡ Some back → back ≡ said
    → WasTold (asked_of node asking ticket part) said → OldestWasTold node asking (Command ticket part ∷ []) place
kept node asking ticket part place said back is same was =
    subst (λ (p : Option Told). OldestWasTold node asking (Command ticket part ∷ []) p) (sym is)
    (subst (λ (t : Told). WasTold (asked_of node asking ticket part) t) (sym same) was)
