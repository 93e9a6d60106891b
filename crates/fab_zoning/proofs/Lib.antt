pub mod Changes
pub mod Adding
pub mod Resolving
pub mod Reasons
pub mod Sounding
pub mod Keeping
pub mod Putting
pub mod Taking
pub mod SeenItems
pub use Rattle.fab_zoning_rows.proofs as fab_zoning_rows
