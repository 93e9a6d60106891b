pub mod Listed
pub mod Losing
pub mod Leaving
pub mod Moves
pub mod Tried
pub mod Unmoved
