mod Grouping
mod Weaving
mod PutBack
mod Together
pub mod NumberLemmas
pub mod JoinLemmas
pub mod OneLine
pub mod RoundTrip
mod Joinable
mod Plain
mod Values
