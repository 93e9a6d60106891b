pub mod Words
pub mod Lines
pub mod Lists
pub mod Pairs
pub mod Reachers
pub mod Ways
