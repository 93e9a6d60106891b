pub mod Worlds
pub mod Calls
pub mod Moves
pub mod Standing
pub mod Opened
