pub mod StockLists
pub mod TriedEffects
pub mod WithinLimits
pub mod ActsJudged
pub mod ApprovalsListed
pub mod CommandTenants
pub mod FabricsNamed
pub mod PathTenants
pub mod PlansNamed
pub mod StepTenants
pub mod TenantSets
mod HolderEffects
mod VolumeEffects
pub use Rattle.fab_desk_commands.proofs as fab_desk_commands
