pub mod FirstChecks
pub mod Facts
pub mod Spelled
pub mod ZoningCases
pub mod MappingCases
pub mod StepCases
pub mod Running
pub mod OneFirst
pub mod OneStep
pub mod OnePlan
pub use Rattle.fab_plans_text.proofs as fab_plans_text
