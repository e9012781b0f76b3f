pub mod Blocks
pub mod NodeAnswers
pub mod NodeSaying
pub mod NodeConnections
