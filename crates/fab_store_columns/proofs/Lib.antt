pub mod Refused
pub mod Unique
pub mod UniqueConfig
pub mod UniquePlan
