pub mod Shared
pub mod SharedHeadline
pub mod Proxies
pub mod Others
pub mod OthersAreRead
