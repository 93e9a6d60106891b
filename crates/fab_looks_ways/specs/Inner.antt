-- What private loops and searches are proved by. No public contract names it.
pub mod Gathering
pub mod Ties
pub mod Offers
