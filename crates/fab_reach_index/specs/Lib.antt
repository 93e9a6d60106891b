pub mod Indexes
pub mod Patches
pub mod Inner
