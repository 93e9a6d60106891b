mod OneUse
mod ManyUses
mod IfThere
mod Sizes
mod ZoningThere
mod MappingThere
pub mod ClashThere
pub mod Law
mod Beside
mod Gathering
mod Counted
mod Using
pub use Rattle.fab_store_edits.proofs as fab_store_edits
