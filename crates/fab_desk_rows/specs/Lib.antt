pub mod Moves
pub mod Places
pub mod PlanMoves
