pub mod FirstOpen
pub mod Gathered
