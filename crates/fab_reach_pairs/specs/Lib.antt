pub mod Owning
pub mod Inner
