-- What private loops and steps say of themselves. No public contract names it.
pub mod Moving
pub mod Sets
pub mod Telling
