mod OfferLoops
pub mod LooseLoops
mod OfInitiators
mod Asked
mod Deltas
mod Owning
mod Leading
mod Going
mod ZonesGathered
mod GroupsGathered
