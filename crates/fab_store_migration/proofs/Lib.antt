pub mod Begun
pub mod Raises
pub mod Seen
