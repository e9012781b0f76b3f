pub mod Beginnings
pub mod Changing
pub mod Counting
pub mod OneMore
