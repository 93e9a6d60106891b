pub mod EndsOrder
pub mod Gains
pub mod Ended
pub mod Tied
pub mod Offered
