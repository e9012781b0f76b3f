pub mod Serving
pub mod Moving
pub mod Sound
pub mod Served
pub mod Stepped
pub mod Foreseeing
pub mod Twice
pub mod Noted
pub mod Opened
pub mod Addressed
mod KeptTold
pub mod Told
mod RunKept
pub mod RunServed
