-- What private loops are proved by. No public contract names it.
pub mod Seating
pub mod Takers
