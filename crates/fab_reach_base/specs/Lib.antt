pub mod Records
pub mod Views
pub mod Orders
pub mod PathOrder
pub mod Reach
pub mod Serving
pub mod Soundness
pub mod Books
pub mod Limits
pub mod Adding
pub mod Gathering
pub use Rattle.fab_zoning.specs as fab_zoning
pub use Rattle.fab_zoning.specs.fab_zoning_rows
pub use Rattle.fab_mapping.specs as fab_mapping
pub use Rattle.fab_mapping.specs.fab_mapping_base
pub use Rattle.fab_mapping.specs.fab_mapping_base.fab_inventory
pub use Rattle.fab_mapping.specs.fab_mapping_base.fab_lemmas
pub use Rattle.fab_mapping.specs.fab_mapping_base.fab_names
