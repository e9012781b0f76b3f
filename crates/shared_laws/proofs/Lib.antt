pub mod Mine
pub mod Chronicle
pub mod Theirs
pub mod SharedRuns
pub mod Executed
pub mod Proxies
pub mod Others
mod OthersAreRead
