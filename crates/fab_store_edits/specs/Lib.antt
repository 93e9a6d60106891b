pub mod Rows
pub mod Led
pub mod Inner
