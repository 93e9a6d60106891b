pub use Rattle.fab_mapping_base.specs.Groups
pub use Rattle.fab_mapping_base.specs.Nexuses
pub use Rattle.fab_mapping_base.specs.Clashes
pub mod Mappings
pub mod Soundness
pub mod Gone
pub use Rattle.fab_mapping_base.specs as fab_mapping_base
