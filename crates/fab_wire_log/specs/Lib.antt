pub mod Lasting
pub mod Lines
pub mod Numbers
pub mod Pending
pub mod Shown
