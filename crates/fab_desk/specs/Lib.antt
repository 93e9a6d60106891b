pub mod Ledgers
pub mod Desks
pub mod Handled
pub use Rattle.fab_store_base.specs as fab_store_base
pub use Rattle.fab_desk_machine.specs.fab_desk_base
