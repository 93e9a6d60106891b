pub mod Ports
pub mod Imports
pub mod Holders
pub mod Words
pub mod Inventories
pub mod Codes
pub mod Limits
pub mod Restores
pub mod RestoreTests
pub use Rattle.fab_lemmas.specs as fab_lemmas
pub use Rattle.fab_names.specs as fab_names
