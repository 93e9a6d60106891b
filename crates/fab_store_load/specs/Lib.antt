pub mod Rows
pub mod Others
pub mod Kinds
pub mod KindLaws
pub mod Values
pub mod Faults
pub mod TableNames
pub mod Inventories
pub mod Configs
pub mod Assembled
pub mod Parts
pub use Rattle.fab_store_rows.specs as fab_store_rows
