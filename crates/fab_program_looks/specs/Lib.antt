pub mod Telling
pub mod Lists
pub mod Loading
pub mod Looks
pub mod Told
pub mod Tries
