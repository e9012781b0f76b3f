pub mod Register
pub mod Remainders
pub mod Places
