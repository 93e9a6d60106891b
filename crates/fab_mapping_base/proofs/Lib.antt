pub mod GroupParts
pub mod NexusOrder
pub mod Walked
pub mod Serving
pub mod ClashSearch
pub mod Passed
pub mod Sounding
pub mod Lacking
pub mod SortedLists
pub mod SameKeys
mod Bares
pub use Rattle.fab_inventory.proofs as fab_inventory
pub use Rattle.fab_inventory.proofs.fab_names
pub use Rattle.fab_inventory.proofs.fab_lemmas
