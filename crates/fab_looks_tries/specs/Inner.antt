-- What private loops and steps say of themselves. No public contract names it.
pub mod Gathered
