pub mod Limits
pub mod Rows
pub mod Views
pub mod PortZones
pub mod Holding
pub mod Inner
pub use Rattle.fab_inventory.specs as fab_inventory
pub use Rattle.fab_inventory.specs.fab_lemmas
pub use Rattle.fab_inventory.specs.fab_names
