pub mod Answering
pub mod RowTests
pub mod RowsInOrder
mod ItemMoves
mod ZoningMoves
mod Becoming
mod PartMoves
pub mod GroupMoves
mod Refusing
pub mod ManyRows
mod Holding
pub mod Differing
mod Outcomes
