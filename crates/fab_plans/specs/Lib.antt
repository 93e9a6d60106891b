pub mod Checks
pub mod ZoningSteps
pub mod MappingSteps
pub mod Steps
pub mod Words
pub mod Outcomes
pub mod Telling
pub mod Plans
pub use Rattle.fab_plans_text.specs as fab_plans_text
pub use Rattle.fab_plans_text.specs.fab_plans_base
