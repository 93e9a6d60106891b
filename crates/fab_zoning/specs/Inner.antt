-- What private loops and searches are proved by. No public contract names it.
pub mod Adding
pub mod Tests
