pub mod Cuts
pub mod Unique
pub use Rattle.fab_zoning.proofs as fab_zoning
