pub mod Reads
pub mod Loading
pub mod Laws
pub use Rattle.fab_store_base.specs as fab_store_base
