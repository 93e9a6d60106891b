pub mod Guests
pub mod Pieces
pub mod Seats
pub mod Ends
pub mod Rounds
pub mod Inner
