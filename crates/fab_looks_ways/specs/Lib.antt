pub mod Pairs
pub mod Offers
pub mod Inner
