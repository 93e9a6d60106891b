-- What private loops and steps say of themselves. No public contract of the room names it.
pub mod Holding
pub mod Placing
pub mod Regathering
