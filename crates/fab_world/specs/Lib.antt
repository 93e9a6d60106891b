pub mod Limits
pub mod PlanRecords
pub mod Codes
pub mod Plans
pub mod Worlds
pub mod History
pub mod Soundness
pub use Rattle.fab_plans.specs as fab_plans
pub use Rattle.fab_plans.specs.fab_plans_text
pub use Rattle.fab_plans.specs.fab_plans_base
pub use Rattle.fab_store_load.specs as fab_store_load
pub use Rattle.fab_store_load.specs.fab_store_rows
