-- What private loops and steps say of themselves. No public contract of the room names it.
pub mod Finding
pub mod Offering
pub mod Rows
