-- Which items are counted, and what becomes of them when a command is told something.
use Rattle.std.proofs.Common.{◌≡◌, ℕ, ◌+◌, ◌==◌, Bool, true, false, refl, Some, None}
use Rattle.std.specs.Prelude.{if◌then◌else◌}
use Rattle.resp_wire.specs.Data.{Data}
use Rattle.resp_wire.specs.Seen.{data_of}
use Rattle.key_split.specs.declared.travel.Ticket.{Ticket}
use Rattle.key_split.specs.declared.travel.Told.{Told}
use Rattle.key_split.specs.declared.travel.Told.TheVariants.{Reply, Moved, Ask, TryAgain, ClusterDown, Unclear, Unsent}
use Rattle.key_split.specs.declared.travel.Ended.{Ended}
use Rattle.key_split.specs.declared.travel.Ended.TheVariants.{Answered, GaveUp}
use Rattle.command_future.specs.CommandModel.{MayPostTo, refused_at}
use Rattle.command_future.specs.declared.stage.Stage.{Stage}
use Rattle.command_future.specs.declared.stage.Stage.TheVariants.{Wants, WantsAsking, Awaits, Over}
use Rattle.world_laws.specs.State.{Arrival, after_told}
use Rattle.world_laws.specs.Places.{Item, is}
use Rattle.world_laws.specs.Places.Item.{Stands, Lies, Sent, Comes}
use Rattle.node_model.specs.History.{EntryModel}

abbrev pub one_if : Bool → ℕ
one_if b = if b then 1 else 0

-- n where the stage, or what is told, is of that kind
abbrev pub if_awaits : Stage → ℕ → ℕ
if_awaits Awaits n = n
if_awaits (Wants m) n = 0
if_awaits (WantsAsking m) n = 0
if_awaits (Over e) n = 0

abbrev pub if_ran_end : Ended → ℕ → ℕ
if_ran_end (Answered v) n = n
if_ran_end Ended.Lost n = n
if_ran_end GaveUp n = 0

abbrev pub if_ran : Stage → ℕ → ℕ
if_ran (Over e) n = if_ran_end e n
if_ran Awaits n = 0
if_ran (Wants m) n = 0
if_ran (WantsAsking m) n = 0

abbrev pub if_ran_told : Told → ℕ → ℕ
if_ran_told (Reply v) n = n
if_ran_told Told.Lost n = n
if_ran_told (Moved s m) n = 0
if_ran_told (Ask s m) n = 0
if_ran_told TryAgain n = 0
if_ran_told ClusterDown n = 0
if_ran_told Unclear n = 0
if_ran_told Unsent n = 0

abbrev pub if_passes : (Data → Bool) → Data → ℕ → ℕ
if_passes p v n = if p v then n else 0

abbrev pub if_replied_end : (Data → Bool) → Ended → ℕ → ℕ
if_replied_end p (Answered v) n = if_passes p (data_of v) n
if_replied_end p Ended.Lost n = 0
if_replied_end p GaveUp n = 0

abbrev pub if_replied : (Data → Bool) → Stage → ℕ → ℕ
if_replied p (Over e) n = if_replied_end p e n
if_replied p Awaits n = 0
if_replied p (Wants m) n = 0
if_replied p (WantsAsking m) n = 0

abbrev pub if_replied_told : (Data → Bool) → Told → ℕ → ℕ
if_replied_told p (Reply v) n = if_passes p (data_of v) n
if_replied_told p Told.Lost n = 0
if_replied_told p (Moved s m) n = 0
if_replied_told p (Ask s m) n = 0
if_replied_told p TryAgain n = 0
if_replied_told p ClusterDown n = 0
if_replied_told p Unclear n = 0
if_replied_told p Unsent n = 0

-- the items in which t is under way
abbrev pub here : Ticket → Item → ℕ
here t (Stands c) = 0
here t (Lies n a u) = is t u
here t (Sent true n a u) = is t u
here t (Sent false n a u) = 0
here t (Comes u told) = is t u

-- the command of t, while it awaits
abbrev pub awaits : Ticket → Item → ℕ
awaits t (Stands c) = if_awaits c.command.stage (is t c.command.ticket)
awaits t (Lies n a u) = 0
awaits t (Sent o n a u) = 0
awaits t (Comes u told) = 0

-- t among the requests of closed links
abbrev pub stray : Ticket → Item → ℕ
stray t (Stands c) = 0
stray t (Lies n a u) = 0
stray t (Sent true n a u) = 0
stray t (Sent false n a u) = is t u
stray t (Comes u told) = 0

-- t where it is told, or was told, a reply or Told.Lost
abbrev pub ran : Ticket → Item → ℕ
ran t (Stands c) = if_ran c.command.stage (is t c.command.ticket)
ran t (Lies n a u) = 0
ran t (Sent o n a u) = 0
ran t (Comes u told) = if_ran_told told (is t u)

-- t where it is told, or was told, a reply that passes
abbrev pub replied_by : (Data → Bool) → Ticket → Item → ℕ
replied_by p t (Stands c) = if_replied p c.command.stage (is t c.command.ticket)
replied_by p t (Lies n a u) = 0
replied_by p t (Sent o n a u) = 0
replied_by p t (Comes u told) = if_replied_told p told (is t u)

-- commands whose ticket passes
abbrev pub owned : (Ticket → Bool) → Item → ℕ
owned p (Stands c) = one_if (p c.command.ticket)
owned p (Lies n a u) = 0
owned p (Sent o n a u) = 0
owned p (Comes u told) = 0

-- an entry of t, with a reply that passes
abbrev pub entry_by : (Data → Bool) → Ticket → EntryModel → ℕ
entry_by p t e = if_passes p e.reply (is t e.ticket)

-- being told

-- where a command stands
abbrev pub stood : Arrival → ℕ × Stage → Arrival
stood c p = record c { command = record (c.command) { followed = p.0; stage = p.1 } }

pub refused-is : {A : Type 0} (f : Arrival → A) (c : Arrival) (next : Stage) (z : A) → ((n : ℕ) → f (stood c (n, Over GaveUp)) ≡ z) → ((n : ℕ) → f (stood c (n, next)) ≡ z)
    → f (stood c (refused_at c.command.followed next)) ≡ z
refused-is f c next z x y = go (c.command.followed == 16)
  where
    go : (b : Bool) → f (stood c (if b then (c.command.followed, Over GaveUp) else (c.command.followed + 1, next))) ≡ z
    go true = x c.command.followed
    go false = y (c.command.followed + 1)

pub ticket-after_told : (c : Arrival) (told : Told) → (after_told c told).command.ticket ≡ c.command.ticket
ticket-after_told c (Reply v) = refl
ticket-after_told c Told.Lost = refl
ticket-after_told c (Moved s m) = refused-is (λ (d : Arrival). d.command.ticket) c (Wants (Some m)) c.command.ticket (λ _. refl) (λ _. refl)
ticket-after_told c (Ask s m) = refused-is (λ (d : Arrival). d.command.ticket) c (WantsAsking m) c.command.ticket (λ _. refl) (λ _. refl)
ticket-after_told c TryAgain = refused-is (λ (d : Arrival). d.command.ticket) c (Wants None) c.command.ticket (λ _. refl) (λ _. refl)
ticket-after_told c ClusterDown = refused-is (λ (d : Arrival). d.command.ticket) c (Wants None) c.command.ticket (λ _. refl) (λ _. refl)
ticket-after_told c Unclear = refused-is (λ (d : Arrival). d.command.ticket) c (Wants None) c.command.ticket (λ _. refl) (λ _. refl)
ticket-after_told c Unsent = refused-is (λ (d : Arrival). d.command.ticket) c (Wants None) c.command.ticket (λ _. refl) (λ _. refl)

pub part-after_told : (c : Arrival) (told : Told) → (after_told c told).command.part ≡ c.command.part
part-after_told c (Reply v) = refl
part-after_told c Told.Lost = refl
part-after_told c (Moved s m) = refused-is (λ (d : Arrival). d.command.part) c (Wants (Some m)) c.command.part (λ _. refl) (λ _. refl)
part-after_told c (Ask s m) = refused-is (λ (d : Arrival). d.command.part) c (WantsAsking m) c.command.part (λ _. refl) (λ _. refl)
part-after_told c TryAgain = refused-is (λ (d : Arrival). d.command.part) c (Wants None) c.command.part (λ _. refl) (λ _. refl)
part-after_told c ClusterDown = refused-is (λ (d : Arrival). d.command.part) c (Wants None) c.command.part (λ _. refl) (λ _. refl)
part-after_told c Unclear = refused-is (λ (d : Arrival). d.command.part) c (Wants None) c.command.part (λ _. refl) (λ _. refl)
part-after_told c Unsent = refused-is (λ (d : Arrival). d.command.part) c (Wants None) c.command.part (λ _. refl) (λ _. refl)

pub arrived-after_told : (c : Arrival) (told : Told) → (after_told c told).arrived ≡ c.arrived
arrived-after_told c (Reply v) = refl
arrived-after_told c Told.Lost = refl
arrived-after_told c (Moved s m) = refused-is (λ (d : Arrival). d.arrived) c (Wants (Some m)) c.arrived (λ _. refl) (λ _. refl)
arrived-after_told c (Ask s m) = refused-is (λ (d : Arrival). d.arrived) c (WantsAsking m) c.arrived (λ _. refl) (λ _. refl)
arrived-after_told c TryAgain = refused-is (λ (d : Arrival). d.arrived) c (Wants None) c.arrived (λ _. refl) (λ _. refl)
arrived-after_told c ClusterDown = refused-is (λ (d : Arrival). d.arrived) c (Wants None) c.arrived (λ _. refl) (λ _. refl)
arrived-after_told c Unclear = refused-is (λ (d : Arrival). d.arrived) c (Wants None) c.arrived (λ _. refl) (λ _. refl)
arrived-after_told c Unsent = refused-is (λ (d : Arrival). d.arrived) c (Wants None) c.arrived (λ _. refl) (λ _. refl)

pub awaits-after_told : (t : Ticket) (c : Arrival) (told : Told) → awaits t (Stands (after_told c told)) ≡ 0
awaits-after_told t c (Reply v) = refl
awaits-after_told t c Told.Lost = refl
awaits-after_told t c (Moved s m) = refused-is (λ (d : Arrival). awaits t (Stands d)) c (Wants (Some m)) 0 (λ _. refl) (λ _. refl)
awaits-after_told t c (Ask s m) = refused-is (λ (d : Arrival). awaits t (Stands d)) c (WantsAsking m) 0 (λ _. refl) (λ _. refl)
awaits-after_told t c TryAgain = refused-is (λ (d : Arrival). awaits t (Stands d)) c (Wants None) 0 (λ _. refl) (λ _. refl)
awaits-after_told t c ClusterDown = refused-is (λ (d : Arrival). awaits t (Stands d)) c (Wants None) 0 (λ _. refl) (λ _. refl)
awaits-after_told t c Unclear = refused-is (λ (d : Arrival). awaits t (Stands d)) c (Wants None) 0 (λ _. refl) (λ _. refl)
awaits-after_told t c Unsent = refused-is (λ (d : Arrival). awaits t (Stands d)) c (Wants None) 0 (λ _. refl) (λ _. refl)

pub ran-after_told : (t : Ticket) (c : Arrival) (told : Told) → ran t (Stands (after_told c told)) ≡ if_ran_told told (is t c.command.ticket)
ran-after_told t c (Reply v) = refl
ran-after_told t c Told.Lost = refl
ran-after_told t c (Moved s m) = refused-is (λ (d : Arrival). ran t (Stands d)) c (Wants (Some m)) 0 (λ _. refl) (λ _. refl)
ran-after_told t c (Ask s m) = refused-is (λ (d : Arrival). ran t (Stands d)) c (WantsAsking m) 0 (λ _. refl) (λ _. refl)
ran-after_told t c TryAgain = refused-is (λ (d : Arrival). ran t (Stands d)) c (Wants None) 0 (λ _. refl) (λ _. refl)
ran-after_told t c ClusterDown = refused-is (λ (d : Arrival). ran t (Stands d)) c (Wants None) 0 (λ _. refl) (λ _. refl)
ran-after_told t c Unclear = refused-is (λ (d : Arrival). ran t (Stands d)) c (Wants None) 0 (λ _. refl) (λ _. refl)
ran-after_told t c Unsent = refused-is (λ (d : Arrival). ran t (Stands d)) c (Wants None) 0 (λ _. refl) (λ _. refl)

pub replied-after_told : (p : Data → Bool) (t : Ticket) (c : Arrival) (told : Told) → replied_by p t (Stands (after_told c told)) ≡ if_replied_told p told (is t c.command.ticket)
replied-after_told p t c (Reply v) = refl
replied-after_told p t c Told.Lost = refl
replied-after_told p t c (Moved s m) = refused-is (λ (d : Arrival). replied_by p t (Stands d)) c (Wants (Some m)) 0 (λ _. refl) (λ _. refl)
replied-after_told p t c (Ask s m) = refused-is (λ (d : Arrival). replied_by p t (Stands d)) c (WantsAsking m) 0 (λ _. refl) (λ _. refl)
replied-after_told p t c TryAgain = refused-is (λ (d : Arrival). replied_by p t (Stands d)) c (Wants None) 0 (λ _. refl) (λ _. refl)
replied-after_told p t c ClusterDown = refused-is (λ (d : Arrival). replied_by p t (Stands d)) c (Wants None) 0 (λ _. refl) (λ _. refl)
replied-after_told p t c Unclear = refused-is (λ (d : Arrival). replied_by p t (Stands d)) c (Wants None) 0 (λ _. refl) (λ _. refl)
replied-after_told p t c Unsent = refused-is (λ (d : Arrival). replied_by p t (Stands d)) c (Wants None) 0 (λ _. refl) (λ _. refl)

-- who may be posted awaits nothing and has not ended

pub awaits-may_post : (s : Stage) (node n : ℕ) → MayPostTo s node → if_awaits s n ≡ 0
awaits-may_post (Wants m) node n h = refl
awaits-may_post (WantsAsking m) node n h = refl
awaits-may_post Awaits node n h = absurd h
awaits-may_post (Over e) node n h = absurd h

pub ran-may_post : (s : Stage) (node n : ℕ) → MayPostTo s node → if_ran s n ≡ 0
ran-may_post (Wants m) node n h = refl
ran-may_post (WantsAsking m) node n h = refl
ran-may_post Awaits node n h = absurd h
ran-may_post (Over e) node n h = absurd h

pub replied-may_post : (p : Data → Bool) (s : Stage) (node n : ℕ) → MayPostTo s node → if_replied p s n ≡ 0
replied-may_post p (Wants m) node n h = refl
replied-may_post p (WantsAsking m) node n h = refl
replied-may_post p Awaits node n h = absurd h
replied-may_post p (Over e) node n h = absurd h
