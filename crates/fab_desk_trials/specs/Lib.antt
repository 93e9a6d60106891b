pub mod Limits
pub mod Trials
pub mod Gathered
pub mod Made
pub mod Named
pub use Rattle.fab_desk_commands.specs as fab_desk_commands
