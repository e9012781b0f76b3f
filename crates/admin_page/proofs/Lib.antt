mod Ended
mod Texts
mod Seconds
