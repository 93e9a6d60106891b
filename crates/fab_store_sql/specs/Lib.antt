pub mod Schema
pub mod Statements
pub mod Trees
pub mod Cells
pub mod NewDesk
pub mod Reading
pub mod Rows
pub mod States
