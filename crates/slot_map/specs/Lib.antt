pub mod Table
pub mod Map
pub mod Filled
pub mod Slots
pub mod Passes
