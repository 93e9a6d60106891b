pub mod Hosts
pub mod Ports
pub mod Tries
pub mod Inner
