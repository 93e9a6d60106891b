pub mod RowSets
pub mod Listing
pub mod PortMembers
pub mod PortZoneLemmas
pub mod RowsTaken
pub use Rattle.fab_inventory.proofs as fab_inventory
pub use Rattle.fab_inventory.proofs.fab_lemmas
pub use Rattle.fab_inventory.proofs.fab_names
