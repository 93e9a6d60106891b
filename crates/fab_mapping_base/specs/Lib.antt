pub mod Limits
pub mod Groups
pub mod Nexuses
pub mod Clashes
pub mod Soundness
pub mod Fitting
pub mod ClashSearch
pub mod Bare
pub use Rattle.fab_inventory.specs as fab_inventory
pub use Rattle.fab_inventory.specs.fab_names
pub use Rattle.fab_inventory.specs.fab_lemmas
