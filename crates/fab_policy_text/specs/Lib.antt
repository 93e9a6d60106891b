pub mod Shapes
pub mod Forms
pub mod Tables
