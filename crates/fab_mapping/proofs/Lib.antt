pub mod GroupChanges
pub mod Passed
pub mod Keeping
pub mod Lacking
pub use Rattle.fab_mapping_base.proofs as fab_mapping_base
