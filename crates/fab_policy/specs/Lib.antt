pub use Rattle.fab_policy_base.specs.Policies
pub use Rattle.fab_policy_base.specs.Limits
pub use Rattle.fab_policy_base.specs.Callers
pub use Rattle.fab_policy_base.specs.Sound
pub use Rattle.fab_policy_base.specs.Words
pub use Rattle.fab_policy_base.specs.Told
pub mod Windows
pub mod Verdicts
pub mod Needs
pub mod Found
pub use Rattle.fab_policy_base.specs as fab_policy_base
