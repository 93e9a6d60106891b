pub mod Policies
pub mod Limits
pub mod Callers
pub mod Sound
pub mod Words
pub mod Told
