pub mod Answering
pub mod Fronting
pub mod Parting
