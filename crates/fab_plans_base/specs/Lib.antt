pub mod Limits
pub mod Texts
pub mod Values
pub mod Steps
pub mod Actions
pub mod Forms
pub mod Plans
pub use Rattle.fab_zoning.specs as fab_zoning
