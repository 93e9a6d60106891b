pub mod Faults
pub mod Codes
pub mod KeptTexts
pub use Rattle.fab_plans_base.specs as fab_plans_base
pub use Rattle.fab_plans_base.specs.fab_zoning
