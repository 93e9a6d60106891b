pub mod Coming
pub mod Rooms
pub mod Sides
pub mod Starts
pub mod Stops
pub mod Turns
pub mod Waiting
