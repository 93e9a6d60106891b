-- What private loops and steps say of themselves. No public contract of the room names it.
pub mod Asked
pub mod Asking
pub mod Owned
pub mod Regrouping
