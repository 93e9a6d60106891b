pub mod PathLists
pub mod Reports
pub mod ActiveSets
pub mod Counting
pub mod Ends
pub mod Printed
