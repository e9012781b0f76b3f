-- The parts at the front that are done.
-- Only private functions cite it.
use Rattle.std.specs.Prelude.{List, [], ◌∷◌, ℕ, suc, if◌then◌else◌}
use Rattle.session_order.specs.declared.queue.PartStage.{PartStage}
use Rattle.session_order.specs.Turn.{is_done}

-- how many parts at the front are done
abbrev pub done_at_front : List PartStage → ℕ
done_at_front [] = 0
done_at_front (stage ∷ stages) = if is_done stage then suc (done_at_front stages) else 0
