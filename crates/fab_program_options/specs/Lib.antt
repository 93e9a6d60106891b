pub mod CommandLine
pub mod Building
pub mod Asking
pub mod Reading
