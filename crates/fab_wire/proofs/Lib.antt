pub mod Tokens
pub mod Told
pub mod InTurn
pub mod Runs
pub mod Beginnings
