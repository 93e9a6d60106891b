pub mod Codes
pub mod Faults
pub mod Parts
pub mod Bodies
pub mod Messages
pub mod Telling
pub mod Orders
