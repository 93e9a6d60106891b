pub mod Moving
pub mod PathLists
pub mod Reported
pub mod Ends
pub mod Rooms
pub mod Foreseen
pub use Rattle.fab_desk_trials.proofs.fab_desk_commands
