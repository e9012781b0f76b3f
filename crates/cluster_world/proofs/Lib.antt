mod Among
pub mod Asked
pub mod Linking
pub mod Lookups
pub mod Served
pub mod Noting
pub mod Shown
pub mod Stepping
pub mod Sums
pub mod Taking
pub mod Pieces
pub mod Numbers
pub mod Narrow
pub mod TicketWords
pub mod Headers
pub mod Inputs
pub mod Texts
pub mod Runs
pub mod Indexes
pub mod Replies
pub mod Turning
pub mod Lists
mod Ranking
mod Finding
mod Found
mod Going
mod Allowing
pub mod Ended
mod Ends
mod Openings
