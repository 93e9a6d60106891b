pub mod Exits
pub mod Looks
pub mod Runs
pub mod Tries
