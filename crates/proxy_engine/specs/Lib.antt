pub mod Together
pub mod EngineModel
pub mod Engine
pub mod Along
pub mod Unseen
pub mod Events
pub mod EngineDrain
