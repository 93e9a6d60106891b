-- What private functions are proved by. No public contract names it.
pub mod Mapped
pub mod Beside
pub mod Losses
