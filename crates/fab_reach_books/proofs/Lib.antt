pub mod Staying
pub mod Bounds
pub mod SetLoops
pub mod RowsTold
pub mod Numbers
mod GivenRows
mod Limits
mod Renewing
