pub mod Printing
pub mod Readings
pub mod PlanReadings
pub mod Excluded
pub mod Printed
pub mod Words
pub mod Measures
pub mod KeptPlans
pub mod PrintedTexts
pub use Rattle.fab_plans_base.proofs as fab_plans_base
