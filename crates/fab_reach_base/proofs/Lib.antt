pub mod Adding
pub mod Books
pub mod Gathering
pub mod Lawful
pub mod Reached
pub mod Same
pub mod SameLists
pub mod Scanning
pub mod Services
pub mod Sets
pub mod Telling
pub use Rattle.fab_zoning.proofs as fab_zoning
pub use Rattle.fab_zoning.proofs.fab_zoning_rows
pub use Rattle.fab_mapping.proofs as fab_mapping
pub use Rattle.fab_mapping.proofs.fab_mapping_base
pub use Rattle.fab_mapping.proofs.fab_mapping_base.fab_inventory
pub use Rattle.fab_mapping.proofs.fab_mapping_base.fab_lemmas
pub use Rattle.fab_mapping.proofs.fab_mapping_base.fab_names
