pub mod Nexts
pub mod Answered
pub mod Keeping
pub mod Kinds
pub mod Trials
