pub mod Changes
pub mod Handing
pub mod Leasts
pub mod NameTests
pub mod Soundness
pub mod Steps
pub mod Holdings
pub mod Restoring
pub mod Seating
pub use Rattle.fab_lemmas.proofs as fab_lemmas
pub use Rattle.fab_names.proofs as fab_names
