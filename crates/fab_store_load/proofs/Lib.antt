pub mod Saying
pub mod Putting
pub mod PortRows
pub mod Restored
pub mod FabricRows
pub mod Assembling
pub mod GroupRows
pub mod MappingRows
pub mod WholeRows
pub use Rattle.fab_store_rows.proofs as fab_store_rows
