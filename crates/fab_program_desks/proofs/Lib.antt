mod Beginnings
mod Finding
pub mod Served
