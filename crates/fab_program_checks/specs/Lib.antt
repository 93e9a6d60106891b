pub mod Parts
pub mod Deeds
pub mod Explains
pub mod Checks
pub mod Findings
pub mod Lines
pub mod Notes
