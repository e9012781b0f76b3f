-- A log that tells of a world has the world's headline.
use Rattle.std.specs.Prelude.{List}
use Rattle.world_laws.specs.State.{WorldModel}
use Rattle.world_laws.specs.Headline.{Headline}
use Rattle.shared_laws.specs.SharedHeadline.{SharedHeadline}
use Rattle.turn_laws.specs.Walks.{IsSharedWalked}
use Rattle.turn_laws.specs.System.{Mark}
use Rattle.turn_laws.specs.Shadow.{LogShadow}
use Rattle.turn_laws.specs.LogHeadline.{LogHeadline}
use Rattle.turn_laws.specs.SharedLog.{SharedLogHeadline}

-- what events reached tells it, moment by moment,
abbrev pub LogsTellHeadlines : Type 0
LogsTellHeadlines = (log : List Mark) (w : WorldModel) → LogShadow log w → IsSharedWalked w → Headline w → LogHeadline w.initial log

-- beside others too
abbrev pub LogsTellOfOurs : Type 0
LogsTellOfOurs = (log : List Mark) (w : WorldModel) → LogShadow log w → IsSharedWalked w → SharedHeadline w → SharedLogHeadline w.initial w.workers log
