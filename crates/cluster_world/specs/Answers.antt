-- What a server with an empty store replies to the words of one request.
-- Redis command reference, by key_split's plan and node_model's store. Each part is executed once, in the request's
-- order.
use Rattle.std.specs.Prelude.{◌≡◌, ℕ, List, [], ◌∷◌, Result, Ok, Err, codes}
use Rattle.std.specs.FinMap.{empty}
use Rattle.resp_wire.specs.Seen.{data_of}
use Rattle.resp_wire.specs.declared.value.Value.{Value}
use Rattle.resp_wire.specs.declared.value.Value.TheVariants.{Simple}
use Rattle.key_split.specs.PartModel.{PartModel}
use Rattle.key_split.specs.Join.{join_of}
use Rattle.key_split.specs.Plan.{plan_of}
use Rattle.key_split.specs.Texts.{refusal_of}
use Rattle.key_split.specs.declared.planned.Planned.{Planned}
use Rattle.key_split.specs.declared.planned.Planned.TheVariants.{Local, Parts, Close}
use Rattle.key_split.specs.declared.planned.PlanFault.{PlanFault}
use Rattle.key_split.specs.declared.travel.Ended.{Ended}
use Rattle.key_split.specs.declared.travel.Ended.TheVariants.{Answered}
use Rattle.node_model.specs.Store.{StoreModel, store_after, reply_to}

-- the ends of parts that a store executes one after another
abbrev pub EndsFrom : StoreModel → List PartModel → List Ended → Type 0
EndsFrom store [] ends = ends ≡ []
EndsFrom store (part ∷ parts) ends =
    (reply : Value) × (more : List Ended) × (data_of reply ≡ reply_to store part) × (ends ≡ Answered reply ∷ more) × EndsFrom (store_after store part) parts more

-- what is answered to a plan, each part asked in order of a store that begins empty
abbrev pub AnswersPlan : Result Planned PlanFault → Value → Type 0
AnswersPlan (Err fault) reply = reply ≡ refusal_of fault
AnswersPlan (Ok (Local local)) reply = reply ≡ local
AnswersPlan (Ok (Parts joining parts)) reply = (ends : List Ended) × EndsFrom empty parts ends × (reply ≡ join_of joining ends)
AnswersPlan (Ok Close) reply = reply ≡ Simple (codes "OK")

-- the reply to the words of a request
abbrev pub Answers : List (List ℕ) → Value → Type 0
Answers words reply = AnswersPlan (plan_of words) reply
