pub mod Names
pub mod Rows
pub mod Imports
pub mod Plans
pub use Rattle.fab_looks_tries.specs as fab_looks_tries
