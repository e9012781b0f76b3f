pub mod Line
pub mod Rate
