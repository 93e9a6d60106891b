pub mod Moves
pub mod Placing
pub mod NoUser
pub mod StillFits
pub mod Checks
pub mod SoundAfter
pub mod TriedImports
pub mod TriedVolumes
pub mod TriedHolders
mod PlanChecks
mod WorldParts
mod Undos
mod PlanPut
mod Copies
mod PlanTurns
mod Orders
mod Activations
mod Rollbacks
mod EditedBack
mod Stagings
