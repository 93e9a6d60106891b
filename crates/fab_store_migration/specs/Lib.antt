pub mod Judging
pub mod Migrations
