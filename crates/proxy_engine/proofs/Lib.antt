pub mod Pairs
pub mod Ends
pub mod Working
pub mod Carrying
pub mod Together
pub mod Looking
pub mod Turning
pub mod Growing
pub mod Beginning
pub mod Unseen
pub mod UnseenCarrier
pub mod Knowing
pub mod Events
mod Draining
