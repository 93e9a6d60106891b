pub mod Limits
pub mod Zonings
pub mod Parts
pub mod Joins
pub mod Resolved
pub mod Steps
pub mod Soundness
pub mod Inner
pub mod Edits
pub use Rattle.fab_zoning_rows.specs as fab_zoning_rows
