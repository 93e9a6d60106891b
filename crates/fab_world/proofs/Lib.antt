mod WaysBack
mod Listing
pub mod NewWorld
mod Presents
pub mod WholeWorld
pub use Rattle.fab_plans.proofs as fab_plans
pub use Rattle.fab_plans.proofs.fab_plans_text
pub use Rattle.fab_store_load.proofs as fab_store_load
pub use Rattle.fab_store_load.proofs.fab_store_rows
