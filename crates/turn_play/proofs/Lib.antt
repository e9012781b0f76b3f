mod Refining
mod Numbers
mod Breaking
mod Swapping
mod Knowing
mod Turning
mod BlocksTold
mod ServedWires
mod Playing
mod Theirs
mod Beside
mod Alone
mod Obeyed
mod Deeds
mod Handed
mod Fleets
mod Starting
mod Said
pub mod FirstValues
pub mod Heard
pub mod ReadBack
pub mod Overlong
pub mod Answered
pub mod Streamed
pub mod Hears
pub mod Feeding
