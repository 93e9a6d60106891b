pub mod KeyLaws
pub mod Placed
pub mod ZonesPlaced
pub mod Patching
pub mod Patched
mod Regathering
