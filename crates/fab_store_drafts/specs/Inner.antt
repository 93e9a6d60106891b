-- Relations of private loops. No public contract names them.
pub mod Nearby
pub mod Counting
