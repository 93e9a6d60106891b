pub mod Kept
pub mod PortsAfter
mod RowLoops
mod SaidRows
pub mod Changed
mod HeadsAfter
pub mod ListsAfter
