pub mod Foreseen
pub mod Outcomes
pub mod Proposals
pub mod Reports
pub use Rattle.fab_desk_trials.specs as fab_desk_trials
pub use Rattle.fab_desk_trials.specs.fab_desk_commands
pub use Rattle.fab_desk_base.specs as fab_desk_base
