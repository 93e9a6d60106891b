pub mod Tied
pub mod HostPaths
pub mod AnsweredByDesk
pub mod Changing
pub mod InTurn
