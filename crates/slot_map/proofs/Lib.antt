pub mod Admitting
pub mod Checking
pub mod Showing
