pub mod AskSchedule
pub mod DialPause
pub mod NodeSet
pub mod NewPort
pub mod LostNodes
pub mod NextTable
