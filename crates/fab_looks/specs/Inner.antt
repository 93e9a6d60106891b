-- What private loops and searches are proved by. No public contract names it.
pub mod Offers
pub mod Gaining
pub mod Serving
pub mod Entries
pub mod Seen
pub mod Gathered
