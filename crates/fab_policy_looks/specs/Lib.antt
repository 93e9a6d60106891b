pub mod Flaws
pub mod Warnings
pub mod Openings
pub mod Findings
pub mod Inner
