pub mod Options
pub mod Values
pub mod Lists
