pub mod MapsOfSets
pub mod Room
pub mod Firsts
pub mod Adding
pub mod Lists
