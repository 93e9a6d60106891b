-- What private loops and steps say of themselves. No public contract of the room names it.
pub mod Changing
pub mod Listing
pub mod Moved
pub mod Naming
pub mod Saying
pub mod SayingLaws
pub mod Telling
