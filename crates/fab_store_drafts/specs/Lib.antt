pub mod Uses
pub mod UsedKeys
pub mod Users
pub mod There
pub mod Back
pub mod Inner
