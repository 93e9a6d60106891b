pub mod Left
pub mod Told
pub mod Written
pub mod PathsTold
pub mod Names
pub mod Other
pub mod NewWorld
pub mod NewDesk
